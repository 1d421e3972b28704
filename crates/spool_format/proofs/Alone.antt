-- What bytes stand for is one thing: a record, the records of a half, a head, and the notes.
use Rattle.std.proofs.Common.{◌≡◌, ℕ, ◌+◌, ◌<◌, ◌≤◌, Bool, true, false, List, [], ◌∷◌, ◌++◌, length, refl, sym, ◌∙◌, ap, subst, arith, append_assoc}
use Rattle.std.specs.Int.{w32, w64, to_be_bytes}
use Rattle.spool.specs.declared.note.Note.{Note}
use Rattle.spool.specs.declared.note.Kind.{Kind}
use Rattle.spool.specs.declared.note.Kind.TheVariants.{Event, Alarm}
use Rattle.outside.specs.Disk.{HasAt}
use Rattle.spool_format.specs.declared.change.Change.{Change}
use Rattle.spool_format.specs.declared.change.Change.TheVariants.{Push, PutBack, Take}
use Rattle.spool_format.specs.Format.{Fits, CanStand, Record, Stand, Sizes, IsSize, StandsFor, body, changed, flag, kind_byte, note_head, record_bytes, spelled, head_bytes, half_start, replayed}
use Rattle.spool_format.proofs.Fields.{same_piece, number_32, number_64}
use Rattle.spool_format.proofs.Pieces.{left_part, right_part}
use Rattle.spool_format.proofs.Spelled.{noted_bytes, push_is_noted, put_back_is_noted}

-- a byte is one byte
pub one_byte_is : (bytes : List ℕ) (at a b : ℕ) → HasAt bytes at (a ∷ []) → HasAt bytes at (b ∷ []) → a ≡ b
one_byte_is bytes at a b this that = sym (this.same 0 (omega arith)) ∙ that.same 0 (omega arith)

flag_is : (a b : Bool) → flag a ≡ flag b → a ≡ b
flag_is true true same = refl
flag_is true false same = absurd (omega (arith, same))
flag_is false true same = absurd (omega (arith, same))
flag_is false false same = refl

kind_is : (a b : Kind) → kind_byte a ≡ kind_byte b → a ≡ b
kind_is Event Event same = refl
kind_is Event Alarm same = absurd (omega (arith, same))
kind_is Alarm Event same = absurd (omega (arith, same))
kind_is Alarm Alarm same = refl

-- ---- the fields of a record with a note

module _ (bytes : List ℕ) (at gate operation : ℕ) (overwrite : Bool) (note : Note) (has : HasAt bytes at (noted_bytes gate operation overwrite note)) where
  pub gate_at : HasAt bytes at (gate ∷ [])
  gate_at = left_part bytes at (gate ∷ []) (operation ∷ flag overwrite ∷ note_head note ++ note.text) has

  pub overwrite_at : HasAt bytes (at + 2) (flag overwrite ∷ [])
  overwrite_at = left_part bytes (at + 2) (flag overwrite ∷ []) (note_head note ++ note.text) (right_part bytes at (at + 2) (gate ∷ operation ∷ []) (flag overwrite ∷ note_head note ++ note.text) refl has)

  note_there : HasAt bytes (at + 3) (note_head note ++ note.text)
  note_there = right_part bytes at (at + 3) (gate ∷ operation ∷ flag overwrite ∷ []) (note_head note ++ note.text) refl has

  pub number_at : HasAt bytes (at + 3) (to_be_bytes w64 note.number)
  number_at = left_part bytes (at + 3) (to_be_bytes w64 note.number) ((kind_byte note.kind ∷ to_be_bytes w32 note.id) ++ (to_be_bytes w32 (length note.text) ++ note.text)) note_there

  kind_on : HasAt bytes (at + 3 + 8) ((kind_byte note.kind ∷ to_be_bytes w32 note.id) ++ (to_be_bytes w32 (length note.text) ++ note.text))
  kind_on = right_part bytes (at + 3) (at + 3 + 8) (to_be_bytes w64 note.number) ((kind_byte note.kind ∷ to_be_bytes w32 note.id) ++ (to_be_bytes w32 (length note.text) ++ note.text)) refl note_there

  pub kind_at : HasAt bytes (at + 3 + 8) (kind_byte note.kind ∷ [])
  kind_at = left_part bytes (at + 3 + 8) (kind_byte note.kind ∷ []) (to_be_bytes w32 note.id ++ (to_be_bytes w32 (length note.text) ++ note.text)) kind_on

  pub id_at : HasAt bytes (at + 3 + 9) (to_be_bytes w32 note.id)
  id_at = left_part bytes (at + 3 + 9) (to_be_bytes w32 note.id) (to_be_bytes w32 (length note.text) ++ note.text)
      (right_part bytes (at + 3) (at + 3 + 9) (to_be_bytes w64 note.number ++ kind_byte note.kind ∷ []) (to_be_bytes w32 note.id ++ (to_be_bytes w32 (length note.text) ++ note.text)) refl note_there)

  pub length_at : HasAt bytes (at + 3 + 13) (to_be_bytes w32 (length note.text))
  length_at = left_part bytes (at + 3 + 13) (to_be_bytes w32 (length note.text)) note.text
      (right_part bytes (at + 3) (at + 3 + 13) (to_be_bytes w64 note.number ++ (kind_byte note.kind ∷ to_be_bytes w32 note.id)) (to_be_bytes w32 (length note.text) ++ note.text) refl note_there)

  pub text_at : HasAt bytes (at + 3 + 17) note.text
  text_at = right_part bytes (at + 3) (at + 3 + 17) (note_head note) note.text refl note_there

-- ---- a record

-- the operation of a change
abbrev pub operation : Change → ℕ
operation (Push overwrite note) = 1
operation (PutBack overwrite note) = 2
operation Take = 3

module _ (bytes : List ℕ) (at : ℕ) where
  pub gate_of : (r : Record) → HasAt bytes at (record_bytes r) → HasAt bytes at (r.0 ∷ [])
  gate_of r has = left_part bytes at (r.0 ∷ []) (body r.1) has

  pub operation_at : (gate : ℕ) (change : Change) → HasAt bytes at (record_bytes (gate, change)) → HasAt bytes (at + 1) (operation change ∷ [])
  unfolding body
  operation_at gate (Push overwrite note) has = left_part bytes (at + 1) (1 ∷ []) (flag overwrite ∷ note_head note ++ note.text) (right_part bytes at (at + 1) (gate ∷ []) (1 ∷ flag overwrite ∷ note_head note ++ note.text) refl has)
  operation_at gate (PutBack overwrite note) has = left_part bytes (at + 1) (2 ∷ []) (flag overwrite ∷ note_head note ++ note.text) (right_part bytes at (at + 1) (gate ∷ []) (2 ∷ flag overwrite ∷ note_head note ++ note.text) refl has)
  operation_at gate Take has = right_part bytes at (at + 1) (gate ∷ []) (3 ∷ []) refl has

  -- two lengths that stand there are one
  pub length_is : (m n : ℕ) → m ≤ 87000 → n ≤ 87000 → HasAt bytes (at + 3 + 13) (to_be_bytes w32 m) → HasAt bytes (at + 3 + 13) (to_be_bytes w32 n) → m ≡ n
  length_is m n few few' this that = number_32 m n (omega arith) (omega arith) (same_piece bytes (at + 3 + 13) (to_be_bytes w32 m) (to_be_bytes w32 n) refl this that)

  one_note : (gate gate' op op' : ℕ) (b b' : Bool) (n m : Note) → Fits n → Fits m → HasAt bytes at (noted_bytes gate op b n) → HasAt bytes at (noted_bytes gate' op' b' m) → (gate ≡ gate') × (b ≡ b') × (n ≡ m)
  one_note gate gate' op op' b b' n m fits fits' this that =
      let gates : gate ≡ gate' = one_byte_is bytes at gate gate' (gate_at bytes at gate op b n this) (gate_at bytes at gate' op' b' m that) in
      let flags : b ≡ b' = flag_is b b' (one_byte_is bytes (at + 2) (flag b) (flag b') (overwrite_at bytes at gate op b n this) (overwrite_at bytes at gate' op' b' m that)) in
      let numbers : n.number ≡ m.number =
      number_64 n.number m.number fits.number fits'.number (same_piece bytes (at + 3) (to_be_bytes w64 n.number) (to_be_bytes w64 m.number) refl (number_at bytes at gate op b n this) (number_at bytes at gate' op' b' m that)) in
      let kinds : n.kind ≡ m.kind = kind_is n.kind m.kind (one_byte_is bytes (at + 3 + 8) (kind_byte n.kind) (kind_byte m.kind) (kind_at bytes at gate op b n this) (kind_at bytes at gate' op' b' m that)) in
      let ids : n.id ≡ m.id =
      number_32 n.id m.id fits.id fits'.id (same_piece bytes (at + 3 + 9) (to_be_bytes w32 n.id) (to_be_bytes w32 m.id) refl (id_at bytes at gate op b n this) (id_at bytes at gate' op' b' m that)) in
      let sizes = length_is (length n.text) (length m.text) fits.text fits'.text (length_at bytes at gate op b n this) (length_at bytes at gate' op' b' m that) in
      let texts : n.text ≡ m.text = same_piece bytes (at + 3 + 17) n.text m.text sizes (text_at bytes at gate op b n this) (text_at bytes at gate' op' b' m that) in
      let notes : n ≡ m = λ i. record { number = numbers i; kind = kinds i; id = ids i; text = texts i } in (gates, flags, notes)

  pub one_operation : (gate gate' : ℕ) (c d : Change) → HasAt bytes at (record_bytes (gate, c)) → HasAt bytes at (record_bytes (gate', d)) → operation c ≡ operation d
  one_operation gate gate' c d this that = one_byte_is bytes (at + 1) (operation c) (operation d) (operation_at gate c this) (operation_at gate' d that)

  one_change : (gate gate' : ℕ) (c d : Change) → CanStand c → CanStand d → operation c ≡ operation d → HasAt bytes at (record_bytes (gate, c)) → HasAt bytes at (record_bytes (gate', d)) → ◌≡◌ {A = Record} (gate, c) (gate', d)
  one_change gate gate' (Push b n) (Push b' m) fits fits' op this that =
      let same = one_note gate gate' 1 1 b b' n m fits fits' (subst (HasAt bytes at) (push_is_noted gate b n) this) (subst (HasAt bytes at) (push_is_noted gate' b' m) that) in
      λ i. (same.0 i, Push (same.1 i) (same.2 i))
  one_change gate gate' (PutBack b n) (PutBack b' m) fits fits' op this that =
      let same = one_note gate gate' 2 2 b b' n m fits fits' (subst (HasAt bytes at) (put_back_is_noted gate b n) this) (subst (HasAt bytes at) (put_back_is_noted gate' b' m) that) in
      λ i. (same.0 i, PutBack (same.1 i) (same.2 i))
  one_change gate gate' Take Take fits fits' op this that = ap (λ (g : ℕ). (g, Take)) (one_byte_is bytes at gate gate' (gate_of (gate, Take) this) (gate_of (gate', Take) that))
  one_change gate gate' c d fits fits' op this that = absurd (omega (arith, op))

  pub one_record : (r q : Record) → CanStand r.1 → CanStand q.1 → HasAt bytes at (record_bytes r) → HasAt bytes at (record_bytes q) → r ≡ q
  one_record r q fits fits' this that = one_change r.0 q.0 r.1 q.1 fits fits' (one_operation r.0 q.0 r.1 q.1 this that) this that

-- ---- the records of a half

module _ (bytes : List ℕ) where
  -- a record and what stands behind it
  pub first_record : (start : ℕ) (r : Record) (rs : List Record) (tail : List ℕ) → HasAt bytes start (spelled (r ∷ rs) ++ tail) → HasAt bytes start (record_bytes r)
  first_record start r rs tail has = left_part bytes start (record_bytes r) (spelled rs ++ tail) (subst (HasAt bytes start) (append_assoc (record_bytes r) (spelled rs) tail) has)

  pub other_records : (start : ℕ) (r : Record) (rs : List Record) (tail : List ℕ) → HasAt bytes start (spelled (r ∷ rs) ++ tail) → HasAt bytes (start + length (record_bytes r)) (spelled rs ++ tail)
  other_records start r rs tail has = right_part bytes start (start + length (record_bytes r)) (record_bytes r) (spelled rs ++ tail) refl (subst (HasAt bytes start) (append_assoc (record_bytes r) (spelled rs) tail) has)

  -- no record stands at a closed gate
  pub shut : (at : ℕ) (r : Record) → 0 < r.0 → HasAt bytes at (record_bytes r) → HasAt bytes at (0 ∷ []) → ⊥
  shut at r opened has closed = absurd (omega (arith, opened, one_byte_is bytes at r.0 0 (gate_of bytes at r has) closed))

  pub one_half : (capacity capacity' start : ℕ) (ns ms : List Note) (rs qs : List Record) → Stand capacity ns rs → Stand capacity' ms qs → HasAt bytes start (spelled rs ++ 0 ∷ []) → HasAt bytes start (spelled qs ++ 0 ∷ []) → rs ≡ qs
  one_half capacity capacity' start ns ms [] [] stand stand' this that = refl
  one_half capacity capacity' start ns ms [] (q ∷ qs) stand stand' this that = absurd (shut start q stand'.0 (first_record start q qs (0 ∷ []) that) this)
  one_half capacity capacity' start ns ms (r ∷ rs) [] stand stand' this that = absurd (shut start r stand.0 (first_record start r rs (0 ∷ []) this) that)
  one_half capacity capacity' start ns ms (r ∷ rs) (q ∷ qs) stand stand' this that =
      let same : r ≡ q = one_record bytes start r q stand.1 stand'.1 (first_record start r rs (0 ∷ []) this) (first_record start q qs (0 ∷ []) that) in
      let behind = subst (λ (p : Record). HasAt bytes (start + length (record_bytes p)) (spelled qs ++ 0 ∷ [])) (sym same) (other_records start q qs (0 ∷ []) that) in
      let others = one_half capacity capacity' (start + length (record_bytes r)) (changed capacity r.1 ns) (changed capacity' q.1 ms) rs qs stand.3 stand'.3 (other_records start r rs (0 ∷ []) this) behind in
      λ i. same i ∷ others i

  -- ---- heads

  capacity_at : (s : Sizes) (x : ℕ) → HasAt bytes 0 (head_bytes s x) → HasAt bytes 1 (to_be_bytes w32 s.capacity)
  capacity_at s x has = left_part bytes 1 (to_be_bytes w32 s.capacity) (to_be_bytes w64 s.half) (right_part bytes 0 1 (x ∷ []) (to_be_bytes w32 s.capacity ++ to_be_bytes w64 s.half) refl has)

  half_at : (s : Sizes) (x : ℕ) → HasAt bytes 0 (head_bytes s x) → HasAt bytes 5 (to_be_bytes w64 s.half)
  half_at s x has = right_part bytes 0 5 (x ∷ to_be_bytes w32 s.capacity) (to_be_bytes w64 s.half) refl has

  pub one_head : (s z : Sizes) (x y : ℕ) → IsSize s → IsSize z → HasAt bytes 0 (head_bytes s x) → HasAt bytes 0 (head_bytes z y) → (s ≡ z) × (x ≡ y)
  one_head s z x y size size' this that =
      let capacities : s.capacity ≡ z.capacity =
      number_32 s.capacity z.capacity (omega (arith, size.limit)) (omega (arith, size'.limit)) (same_piece bytes 1 (to_be_bytes w32 s.capacity) (to_be_bytes w32 z.capacity) refl (capacity_at s x this) (capacity_at z y that)) in
      let halves : s.half ≡ z.half =
      number_64 s.half z.half (omega (arith, size.most)) (omega (arith, size'.most)) (same_piece bytes 5 (to_be_bytes w64 s.half) (to_be_bytes w64 z.half) refl (half_at s x this) (half_at z y that)) in (
        λ i. record { capacity = capacities i; half = halves i },
        one_byte_is bytes 0 x y (left_part bytes 0 (x ∷ []) (to_be_bytes w32 s.capacity ++ to_be_bytes w64 s.half) this) (left_part bytes 0 (y ∷ []) (to_be_bytes w32 z.capacity ++ to_be_bytes w64 z.half) that),
      )

  -- ---- whole texts

  pub one_spool : (s z : Sizes) (notes others : List Note) → StandsFor s notes bytes → StandsFor z others bytes → (s ≡ z) × (notes ≡ others)
  one_spool s z notes others this that =
      let heads = one_head s z this.selector that.selector this.size that.size this.shows.head that.shows.head in
      let start : half_start s this.selector ≡ half_start z that.selector = λ i. half_start (heads.0 i) (heads.1 i) in
      let same = one_half s.capacity z.capacity (half_start s this.selector) [] [] this.records that.records this.stand that.stand this.shows.text (subst (λ (at : ℕ). HasAt bytes at (spelled that.records ++ 0 ∷ [])) (sym start) that.shows.text) in
      let replays : replayed s.capacity [] this.records ≡ replayed z.capacity [] that.records = λ i. replayed (heads.0 i).capacity [] (same i) in
      (heads.0, this.notes_are ∙ replays ∙ sym that.notes_are)
