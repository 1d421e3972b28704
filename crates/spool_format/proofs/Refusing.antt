-- No record stands where a field of it is missing or wrong.
use Rattle.std.proofs.Common.{◌≡◌, ◌⊎◌, inl, inr, ⊎_elim, ℕ, ◌+◌, ◌-◌, ◌<◌, ◌≤◌, ◌^◌, Bool, false, List, [], ◌∷◌, ◌++◌, length, take, replicate, refl, sym, ◌∙◌, subst, arith}
use Rattle.std.specs.Int.{w32, w64, to_be_bytes}
use Rattle.std.proofs.lemmas.List.{length-replicate}
use Rattle.spool.specs.declared.note.Note.{Note}
use Rattle.spool.specs.declared.note.Kind.{Kind}
use Rattle.spool.specs.declared.note.Kind.TheVariants.{Event}
use Rattle.outside.specs.Disk.{HasAt}
use Rattle.spool_format.specs.Runs.{IsMissing}
use Rattle.spool_format.specs.declared.change.Change.{Change}
use Rattle.spool_format.specs.declared.change.Change.TheVariants.{Push, PutBack, Take}
use Rattle.spool_format.specs.Format.{Fits, CanStand, body, flag, kind_byte, record_bytes}
use Rattle.spool_format.specs.Items.{noted}
use Rattle.spool_format.specs.Unread.{HasNote, EndsAt, IsOther, IsKindByte, IsFlagByte, IsRecord, NoRecord, AtGate, AtOperation, AtOverwrite, AtNumber, AtKind, AtId, AtLength, AtText}
use Rattle.spool_format.proofs.Fields.{same_piece, number_32}
use Rattle.spool_format.proofs.Pieces.{joined, left_part, right_part, no_bytes}
use Rattle.spool_format.proofs.Spelled.{noted_bytes, noted_size, noted_is, noted_fits}

-- the same at an equal place, of an equal size
pub moved : (bytes : List ℕ) (stop a b n m place : ℕ) → a ≡ b → n ≡ m → EndsAt bytes stop a n place → EndsAt bytes stop b m place
moved bytes stop a b n m place here size ends = record {
  low = omega (arith, ends.low);
  high = omega (arith, ends.high);
  missing = ends.missing;
  first = λ k low high. ends.first k (omega arith) high;
}

abbrev note_of : ℕ → Kind → ℕ → List ℕ → Note
note_of number kind id text = record { number = number; kind = kind; id = id; text = text }

abbrev blank : Note
blank = note_of 0 Event 0 []

blank_fits : Fits blank
blank_fits = record { number = omega arith; id = omega arith; text = omega arith }

module _ (bytes : List ℕ) (start stop gate : ℕ) (opened : 0 < gate) where
  is_noted : (op : ℕ) → HasNote op → (overwrite : Bool) (note : Note) → Fits note → IsRecord (noted_bytes gate op overwrite note)
  is_noted op noting overwrite note fits = ((gate, noted op overwrite note), opened, noted_fits op overwrite note noting fits, noted_is gate op overwrite note noting)

  is_take : IsRecord (record_bytes (gate, Take))
  is_take = ((gate, Take), opened, tt, refl)

  -- a byte is one byte
  one : (at a b : ℕ) → HasAt bytes at (a ∷ []) → HasAt bytes at (b ∷ []) → a ≡ b
  one at a b this that = sym (this.same 0 (omega arith)) ∙ that.same 0 (omega arith)

  pub ends_gate : (place : ℕ) → start ≤ stop → EndsAt bytes stop start 1 place → NoRecord bytes start stop place
  unfolding body
  ends_gate place before ends = inl (record { text = record_bytes (gate, Take); form = is_take; field = AtGate; fits = omega arith; there = no_bytes bytes start; before = omega arith; ends = moved bytes stop start (start + 0) 1 1 place (omega arith) refl ends })

  module _ (here : HasAt bytes start (gate ∷ [])) where
    pub ends_operation : (place : ℕ) → start + 1 ≤ stop → EndsAt bytes stop (start + 1) 1 place → NoRecord bytes start stop place
    unfolding body
    ends_operation place before ends = inl (record { text = record_bytes (gate, Take); form = is_take; field = AtOperation; fits = omega arith; there = here; before = before; ends = ends })

    other_operation : (op : ℕ) → (HasNote op → ⊥) → (op ≡ 3 → ⊥) → HasAt bytes (start + 1) (op ∷ []) → (gate' : ℕ) (change : Change) → HasAt bytes start (take 2 (record_bytes (gate', change))) → ⊥
    unfolding body
    other_operation op no_note no_take there gate' (Push b m) has = no_note (inl (one (start + 1) op 1 there (right_part bytes start (start + 1) (gate' ∷ []) (1 ∷ []) refl has)))
    other_operation op no_note no_take there gate' (PutBack b m) has = no_note (inr (one (start + 1) op 2 there (right_part bytes start (start + 1) (gate' ∷ []) (2 ∷ []) refl has)))
    other_operation op no_note no_take there gate' Take has = no_take (one (start + 1) op 3 there (right_part bytes start (start + 1) (gate' ∷ []) (3 ∷ []) refl has))

    pub wrong_operation : (op : ℕ) → (HasNote op → ⊥) → (op ≡ 3 → ⊥) → start + 1 < stop → HasAt bytes (start + 1) (op ∷ []) → NoRecord bytes start stop (start + 1)
    unfolding body
    wrong_operation op no_note no_take before there = inr (record {
      text = record_bytes (gate, Take);
      form = is_take;
      field = AtOperation;
      may = tt;
      there = here;
      place_is = refl;
      before = omega arith;
      whole = omega (arith, there.within 0 (omega arith));
      none = λ other form has. other_operation op no_note no_take there form.0.0 form.0.1 (subst (λ (l : List ℕ). HasAt bytes start (take 2 l)) form.3 has);
    })

  module _ (op : ℕ) (noting : HasNote op) (here : HasAt bytes start (gate ∷ op ∷ [])) where
    -- a take has another operation
    no_take : (gate' : ℕ) → HasAt bytes start (gate' ∷ 3 ∷ []) → ⊥
    no_take gate' has =
        let three : op ≡ 3 = one (start + 1) op 3 (right_part bytes start (start + 1) (gate ∷ []) (op ∷ []) refl here) (right_part bytes start (start + 1) (gate' ∷ []) (3 ∷ []) refl has) in
        ⊎_elim (λ is. absurd (omega (arith, three, is))) (λ is. absurd (omega (arith, three, is))) noting

    pub ends_overwrite : (place : ℕ) → start + 2 ≤ stop → EndsAt bytes stop (start + 2) 1 place → NoRecord bytes start stop place
    unfolding body
    ends_overwrite place before ends = inl (record { text = noted_bytes gate op false blank; form = is_noted op noting false blank blank_fits; field = AtOverwrite; fits = omega arith; there = here; before = before; ends = ends })

    other_flag : (place : ℕ) → IsOther IsFlagByte bytes stop (start + 2) place → (gate' : ℕ) (change : Change) → HasAt bytes start (take 3 (record_bytes (gate', change))) → ⊥
    unfolding body
    other_flag place other gate' (Push b m) has = other.none (flag b) (b, refl) (right_part bytes start (start + 2) (gate' ∷ 1 ∷ []) (flag b ∷ []) refl has)
    other_flag place other gate' (PutBack b m) has = other.none (flag b) (b, refl) (right_part bytes start (start + 2) (gate' ∷ 2 ∷ []) (flag b ∷ []) refl has)
    other_flag place other gate' Take has = no_take gate' has

    pub wrong_overwrite : (place : ℕ) → IsOther IsFlagByte bytes stop (start + 2) place → NoRecord bytes start stop place
    unfolding body
    wrong_overwrite place other = inr (record {
      text = noted_bytes gate op false blank;
      form = is_noted op noting false blank blank_fits;
      field = AtOverwrite;
      may = tt;
      there = here;
      place_is = other.place_is;
      before = omega (arith, other.before);
      whole = omega (arith, other.there);
      none = λ text form has. other_flag place other form.0.0 form.0.1 (subst (λ (l : List ℕ). HasAt bytes start (take 3 l)) form.3 has);
    })

  -- ---- behind the overwrite byte of a record with a note

  module _ (op : ℕ) (noting : HasNote op) (overwrite : Bool) (at : ℕ) (is : at ≡ start + 3) (here : HasAt bytes start (gate ∷ op ∷ flag overwrite ∷ [])) where
    to_operation : HasAt bytes start (gate ∷ op ∷ [])
    to_operation = left_part bytes start (gate ∷ op ∷ []) (flag overwrite ∷ []) here

    pub ends_number : (place : ℕ) → at ≤ stop → EndsAt bytes stop at 8 place → NoRecord bytes start stop place
    unfolding body
    ends_number place before ends = inl (record {
      text = noted_bytes gate op overwrite blank;
      form = is_noted op noting overwrite blank blank_fits;
      field = AtNumber;
      fits = omega arith;
      there = here;
      before = omega (arith, is);
      ends = moved bytes stop at (start + 3) 8 8 place is refl ends;
    })

    module _ (number : ℕ) (small : number < 2 ^ 64) (numbered : HasAt bytes at (to_be_bytes w64 number)) where
      to_kind : HasAt bytes start ((gate ∷ op ∷ flag overwrite ∷ []) ++ to_be_bytes w64 number)
      to_kind = joined bytes start at (gate ∷ op ∷ flag overwrite ∷ []) (to_be_bytes w64 number) is here numbered

      abbrev this : Kind → ℕ → List ℕ → Note
      this kind id text = note_of number kind id text

      this_fits : (kind : Kind) (id : ℕ) (text : List ℕ) → id < 2 ^ 32 → length text ≤ 87000 → Fits (this kind id text)
      this_fits kind id text low short = record { number = small; id = low; text = short }

      pub ends_kind : (place : ℕ) → at + 8 ≤ stop → EndsAt bytes stop (at + 8) 1 place → NoRecord bytes start stop place
      unfolding body
      ends_kind place before ends = inl (record {
        text = noted_bytes gate op overwrite (this Event 0 []);
        form = is_noted op noting overwrite (this Event 0 []) (this_fits Event 0 [] (omega arith) (omega arith));
        field = AtKind;
        fits = omega arith;
        there = to_kind;
        before = omega (arith, is);
        ends = moved bytes stop (at + 8) (start + 11) 1 1 place (omega (arith, is)) refl ends;
      })

      other_kind : (place : ℕ) → IsOther IsKindByte bytes stop (at + 8) place → (gate' : ℕ) (change : Change) → HasAt bytes start (take 12 (record_bytes (gate', change))) → ⊥
      unfolding body
      other_kind place other gate' (Push b m) has = other.none (kind_byte m.kind) (m.kind, refl) (right_part bytes start (at + 8) (gate' ∷ 1 ∷ flag b ∷ to_be_bytes w64 m.number) (kind_byte m.kind ∷ []) (omega (arith, is)) has)
      other_kind place other gate' (PutBack b m) has = other.none (kind_byte m.kind) (m.kind, refl) (right_part bytes start (at + 8) (gate' ∷ 2 ∷ flag b ∷ to_be_bytes w64 m.number) (kind_byte m.kind ∷ []) (omega (arith, is)) has)
      other_kind place other gate' Take has = no_take op noting to_operation gate' has

      pub wrong_kind : (place : ℕ) → IsOther IsKindByte bytes stop (at + 8) place → NoRecord bytes start stop place
      unfolding body
      wrong_kind place other = inr (record {
        text = noted_bytes gate op overwrite (this Event 0 []);
        form = is_noted op noting overwrite (this Event 0 []) (this_fits Event 0 [] (omega arith) (omega arith));
        field = AtKind;
        may = tt;
        there = to_kind;
        place_is = omega (arith, other.place_is, is);
        before = omega (arith, other.before, is);
        whole = omega (arith, other.there, is);
        none = λ text form has. other_kind place other form.0.0 form.0.1 (subst (λ (l : List ℕ). HasAt bytes start (take 12 l)) form.3 has);
      })

      module _ (kind : Kind) (kinded : HasAt bytes (at + 8) (kind_byte kind ∷ [])) where
        to_id : HasAt bytes start (((gate ∷ op ∷ flag overwrite ∷ []) ++ to_be_bytes w64 number) ++ kind_byte kind ∷ [])
        to_id = joined bytes start (at + 8) ((gate ∷ op ∷ flag overwrite ∷ []) ++ to_be_bytes w64 number) (kind_byte kind ∷ []) (omega (arith, is)) to_kind kinded

        pub ends_id : (place : ℕ) → at + 9 ≤ stop → EndsAt bytes stop (at + 9) 4 place → NoRecord bytes start stop place
        unfolding body
        ends_id place before ends = inl (record {
          text = noted_bytes gate op overwrite (this kind 0 []);
          form = is_noted op noting overwrite (this kind 0 []) (this_fits kind 0 [] (omega arith) (omega arith));
          field = AtId;
          fits = omega arith;
          there = to_id;
          before = omega (arith, is);
          ends = moved bytes stop (at + 9) (start + 12) 4 4 place (omega (arith, is)) refl ends;
        })

        module _ (id : ℕ) (low : id < 2 ^ 32) (named : HasAt bytes (at + 9) (to_be_bytes w32 id)) where
          to_length : HasAt bytes start ((((gate ∷ op ∷ flag overwrite ∷ []) ++ to_be_bytes w64 number) ++ kind_byte kind ∷ []) ++ to_be_bytes w32 id)
          to_length = joined bytes start (at + 9) (((gate ∷ op ∷ flag overwrite ∷ []) ++ to_be_bytes w64 number) ++ kind_byte kind ∷ []) (to_be_bytes w32 id) (omega (arith, is)) to_id named

          pub ends_length : (place : ℕ) → at + 13 ≤ stop → EndsAt bytes stop (at + 13) 4 place → NoRecord bytes start stop place
          unfolding body
          ends_length place before ends = inl (record {
            text = noted_bytes gate op overwrite (this kind id []);
            form = is_noted op noting overwrite (this kind id []) (this_fits kind id [] low (omega arith));
            field = AtLength;
            fits = omega arith;
            there = to_length;
            before = omega (arith, is);
            ends = moved bytes stop (at + 13) (start + 16) 4 4 place (omega (arith, is)) refl ends;
          })

          module _ (len : ℕ) (some : len < 2 ^ 32) (sized : HasAt bytes (at + 13) (to_be_bytes w32 len)) where
            no_text : 87000 < len → (m : Note) → Fits m → HasAt bytes (at + 13) (to_be_bytes w32 (length m.text)) → ⊥
            no_text long m fits there =
                let same = number_32 len (length m.text) some (omega (arith, fits.text)) (same_piece bytes (at + 13) (to_be_bytes w32 len) (to_be_bytes w32 (length m.text)) refl sized there) in
                absurd (omega (arith, same, fits.text))

            too_long : 87000 < len → (gate' : ℕ) (change : Change) → CanStand change → HasAt bytes start (take 20 (record_bytes (gate', change))) → ⊥
            unfolding body
            too_long long gate' (Push b m) fits has = no_text long m fits (right_part bytes start (at + 13) (gate' ∷ 1 ∷ flag b ∷ to_be_bytes w64 m.number ++ kind_byte m.kind ∷ to_be_bytes w32 m.id) (to_be_bytes w32 (length m.text)) (omega (arith, is)) has)
            too_long long gate' (PutBack b m) fits has = no_text long m fits (right_part bytes start (at + 13) (gate' ∷ 2 ∷ flag b ∷ to_be_bytes w64 m.number ++ kind_byte m.kind ∷ to_be_bytes w32 m.id) (to_be_bytes w32 (length m.text)) (omega (arith, is)) has)
            too_long long gate' Take fits has = no_take op noting to_operation gate' has

            pub wrong_length : 87000 < len → at + 17 ≤ stop → NoRecord bytes start stop (at + 13)
            unfolding body
            wrong_length long before = inr (record {
              text = noted_bytes gate op overwrite (this kind id []);
              form = is_noted op noting overwrite (this kind id []) (this_fits kind id [] low (omega arith));
              field = AtLength;
              may = tt;
              there = to_length;
              place_is = omega (arith, is);
              before = omega (arith, is);
              whole = omega (arith, is, sized.within 3 (omega arith));
              none = λ text form has. too_long long form.0.0 form.0.1 form.2 (subst (λ (l : List ℕ). HasAt bytes start (take 20 l)) form.3 has);
            })

            pub ends_text : (place : ℕ) → len ≤ 87000 → at + 17 ≤ stop → EndsAt bytes stop (at + 17) len place → NoRecord bytes start stop place
            unfolding body
            ends_text place short before ends =
                let zeros : List ℕ = replicate len 0 in
                let many : length zeros ≡ len = length-replicate len 0 in
                let note = this kind id zeros in
                let whole = noted_size gate op overwrite note in
                inl (record {
                  text = noted_bytes gate op overwrite note;
                  form = is_noted op noting overwrite note (this_fits kind id zeros low (omega (arith, many)));
                  field = AtText;
                  fits = omega (arith, whole);
                  there = joined bytes start (at + 13) ((((gate ∷ op ∷ flag overwrite ∷ []) ++ to_be_bytes w64 number) ++ kind_byte kind ∷ []) ++ to_be_bytes w32 id) (to_be_bytes w32 (length zeros)) (omega (arith, is)) to_length
                      (subst (λ (n : ℕ). HasAt bytes (at + 13) (to_be_bytes w32 n)) (sym many) sized);
                  before = omega (arith, is);
                  ends = moved bytes stop (at + 17) (start + 20) len (length (noted_bytes gate op overwrite note) - 20) place (omega (arith, is)) (omega (arith, whole, many)) ends;
                })

-- ---- a missing byte

module _ (bytes : List ℕ) (stop at : ℕ) where
  pub ends_here : IsMissing bytes stop at → EndsAt bytes stop at 1 at
  ends_here missing = record { low = omega arith; high = omega arith; missing = missing; first = λ k low high. absurd (omega arith) }

  -- behind so many that are there
  pub ends_later : (size place : ℕ) (piece : List ℕ) → length piece < size → (length piece ≡ 0) ⊎ (at + length piece ≤ stop) → HasAt bytes at piece → EndsAt bytes stop (at + length piece) 1 place → EndsAt bytes stop at size place
  ends_later size place piece fewer before has ends = record {
    low = omega (arith, ends.low);
    high = omega (arith, ends.high);
    missing = ends.missing;
    first = λ k low high. (
      ⊎_elim (λ none. absurd (omega (arith, none, ends.high))) (λ some. omega (arith, some, ends.high)) before,
      (let there = has.within (k - at) (omega (arith, ends.high)) in
          omega (arith, there)),
    );
  }
