-- Where bytes leave the format they stand for no notes.
use Rattle.std.proofs.Common.{true, false, ◌∙◌, ◌≡◌, ◌⊎◌, inl, inr, ⊎_elim, ℕ, ◌+◌, ◌-◌, ◌<◌, ◌≤◌, Bool, List, [], ◌∷◌, ◌++◌, length, take, drop, refl, sym, ap, subst, arith, length-append}
use Rattle.std.specs.Prelude.{zero, suc}
use Rattle.std.specs.Int.{w32, w64, to_be_bytes}
use Rattle.std.proofs.lemmas.List.{append-nil, take-append-drop}
use Rattle.spool.specs.declared.note.Note.{Note}
use Rattle.outside.specs.Disk.{HasAt}
use Rattle.spool_format.specs.declared.change.Change.{Change}
use Rattle.spool_format.specs.declared.change.Change.TheVariants.{Push, PutBack, Take}
use Rattle.spool_format.specs.Format.{Fits, CanStand, may_follow, Record, Stand, Sizes, IsSize, StandsFor, body, changed, flag, kind_byte, note_head, record_bytes, spelled, head_bytes, half_start, replayed}
use Rattle.spool_format.specs.Unread.{RecordField, AtGate, AtOperation, AtOverwrite, AtNumber, AtKind, AtId, AtLength, AtText, record_begins, record_size, IsCodedField, NoRecord, NoChange, head_begins, head_size, NoHead, IsUnread}
use Rattle.spool_format.proofs.Fields.{not_missing}
use Rattle.spool_format.proofs.Pieces.{left_part, right_part}
use Rattle.spool_format.proofs.Spelled.{noted_bytes, noted_size, push_is_noted, put_back_is_noted, push_record_size, put_back_record_size, take_record_size}
use Rattle.spool_format.proofs.Alone.{one_byte_is, operation, operation_at, one_record, one_head, length_at, length_is, first_record, other_records, shut}

-- a front of what stands there stands there
pub front_of : (bytes : List ℕ) (at n : ℕ) (text : List ℕ) → HasAt bytes at text → HasAt bytes at (take n text)
front_of bytes at n text has = left_part bytes at (take n text) (drop n text) (subst (HasAt bytes at) (sym (take-append-drop n text)) has)

module _ (bytes : List ℕ) (at : ℕ) where
  -- the first byte of a front that isn't empty, and the second of one of more than one byte
  first_of : (n x : ℕ) (xs : List ℕ) → 0 < n → HasAt bytes at (take n (x ∷ xs)) → HasAt bytes at (x ∷ [])
  first_of zero x xs some has = absurd (omega (arith, some))
  first_of (suc n) x xs some has = left_part bytes at (x ∷ []) (take n xs) has

  second_of : (n x y : ℕ) (xs : List ℕ) → 1 < n → HasAt bytes at (take n (x ∷ y ∷ xs)) → HasAt bytes (at + 1) (y ∷ [])
  second_of zero x y xs some has = absurd (omega (arith, some))
  second_of (suc zero) x y xs some has = absurd (omega (arith, some))
  second_of (suc (suc n)) x y xs some has = left_part bytes (at + 1) (y ∷ []) (take n xs) (right_part bytes at (at + 1) (x ∷ []) (y ∷ take n xs) refl has)

  -- an open gate isn't closed
  opened_front : (r : Record) → 0 < r.0 → (n : ℕ) → 0 < n → HasAt bytes at (take n (record_bytes r)) → HasAt bytes at (0 ∷ []) → ⊥
  opened_front r opened n some has closed = absurd (omega (arith, opened, one_byte_is bytes at r.0 0 (first_of n r.0 (body r.1) some has) closed))

-- ---- where a field stands in a record

later : (text : List ℕ) (field : RecordField) → ((record_begins field ≡ 0) × (record_size text field ≡ 1)) ⊎ (0 < record_begins field)
later text AtGate = inl (refl, refl)
later text AtOperation = inr (omega arith)
later text AtOverwrite = inr (omega arith)
later text AtNumber = inr (omega arith)
later text AtKind = inr (omega arith)
later text AtId = inr (omega arith)
later text AtLength = inr (omega arith)
later text AtText = inr (omega arith)

coded_later : (field : RecordField) → IsCodedField field → 0 < record_begins field
coded_later AtGate may = absurd may
coded_later AtOperation may = omega arith
coded_later AtOverwrite may = omega arith
coded_later AtNumber may = absurd may
coded_later AtKind may = omega arith
coded_later AtId may = absurd may
coded_later AtLength may = omega arith
coded_later AtText may = absurd may

-- in the front that each record has, or behind it in a push
behind_operation : (text : List ℕ) (field : RecordField) → (record_begins field + record_size text field ≤ 2) ⊎ ((1 < record_begins field) × (3 ≤ record_begins field + record_size text field))
behind_operation text AtGate = inl (omega arith)
behind_operation text AtOperation = inl (omega arith)
behind_operation text AtOverwrite = inr (omega arith, omega arith)
behind_operation text AtNumber = inr (omega arith, omega arith)
behind_operation text AtKind = inr (omega arith, omega arith)
behind_operation text AtId = inr (omega arith, omega arith)
behind_operation text AtLength = inr (omega arith, omega arith)
behind_operation text AtText = inr (omega arith, omega arith)

before_text : (text : List ℕ) (field : RecordField) → (record_begins field + record_size text field ≤ 20) ⊎ (field ≡ AtText)
before_text text AtGate = inl (omega arith)
before_text text AtOperation = inl (omega arith)
before_text text AtOverwrite = inl (omega arith)
before_text text AtNumber = inl (omega arith)
before_text text AtKind = inl (omega arith)
before_text text AtId = inl (omega arith)
before_text text AtLength = inl (omega arith)
before_text text AtText = inr refl

two_bytes : (gate : ℕ) (change : Change) → 2 ≤ length (record_bytes (gate, change))
two_bytes gate (Push b n) = omega (arith, push_record_size gate b n)
two_bytes gate (PutBack b n) = omega (arith, put_back_record_size gate b n)
two_bytes gate Take = omega (arith, take_record_size gate)

module _ (bytes : List ℕ) (at : ℕ) where
  -- the length field of a record whose front stands there
  length_front : (gate op : ℕ) (b : Bool) (n : Note) → HasAt bytes at (take 20 (noted_bytes gate op b n)) → HasAt bytes (at + 3 + 13) (to_be_bytes w32 (length n.text))
  length_front gate op b n has = right_part bytes at (at + 3 + 13) (gate ∷ op ∷ flag b ∷ to_be_bytes w64 n.number ++ kind_byte n.kind ∷ to_be_bytes w32 n.id) (to_be_bytes w32 (length n.text)) (omega arith) has

  operation_front : (gate : ℕ) (c : Change) (k : ℕ) → 1 < k → HasAt bytes at (take k (record_bytes (gate, c))) → HasAt bytes (at + 1) (operation c ∷ [])
  unfolding body
  operation_front gate (Push b n) k some has = second_of bytes at k gate 1 (flag b ∷ note_head n ++ n.text) some has
  operation_front gate (PutBack b n) k some has = second_of bytes at k gate 2 (flag b ∷ note_head n ++ n.text) some has
  operation_front gate Take k some has = second_of bytes at k gate 3 [] some has

  -- of two records with a note, of which one stands there and of the other the front up to a field, the one reaches as far as that field
  noted_reach : (g h op op' : ℕ) (b b' : Bool) (n m : Note) (field : RecordField) → Fits n → Fits m → HasAt bytes at (take (record_begins field) (noted_bytes g op b n)) → HasAt bytes at (noted_bytes h op' b' m)
      → record_begins field + record_size (noted_bytes g op b n) field ≤ length (noted_bytes h op' b' m)
  noted_reach g h op op' b b' n m field fits fits' front has = ⊎_elim
      (λ small. omega (arith, small, noted_size h op' b' m))
      (λ is.
      let there = length_front g op b n (subst (λ (f : RecordField). HasAt bytes at (take (record_begins f) (noted_bytes g op b n))) is front) in
      let same = length_is bytes at (length n.text) (length m.text) fits.text fits'.text there (length_at bytes at h op' b' m has) in
      let size : record_begins field + record_size (noted_bytes g op b n) field ≡ 20 + (length (noted_bytes g op b n) - 20) = ap (λ (f : RecordField). record_begins f + record_size (noted_bytes g op b n) f) is in
      omega (arith, size, same, noted_size g op b n, noted_size h op' b' m))
      (before_text (noted_bytes g op b n) field)

  -- the same of any two
  same_reach : (g h : ℕ) (c d : Change) (field : RecordField) → CanStand c → CanStand d → record_begins field + record_size (record_bytes (g, c)) field ≤ length (record_bytes (g, c))
      → HasAt bytes at (take (record_begins field) (record_bytes (g, c))) → HasAt bytes at (record_bytes (h, d)) → (1 < record_begins field) × (3 ≤ record_begins field + record_size (record_bytes (g, c)) field)
      → operation c ≡ operation d → record_begins field + record_size (record_bytes (g, c)) field ≤ length (record_bytes (h, d))
  same_reach g h (Push b n) (Push b' m) field can can' fits front has far op =
      subst (λ (l : List ℕ). record_begins field + record_size l field ≤ length (record_bytes (h, Push b' m))) (sym (push_is_noted g b n))
      (subst (λ (l : List ℕ). record_begins field + record_size (noted_bytes g 1 b n) field ≤ length l) (sym (push_is_noted h b' m))
      (noted_reach g h 1 1 b b' n m field can can' (subst (λ (l : List ℕ). HasAt bytes at (take (record_begins field) l)) (push_is_noted g b n) front) (subst (HasAt bytes at) (push_is_noted h b' m) has)))
  same_reach g h (PutBack b n) (PutBack b' m) field can can' fits front has far op =
      subst (λ (l : List ℕ). record_begins field + record_size l field ≤ length (record_bytes (h, PutBack b' m))) (sym (put_back_is_noted g b n))
      (subst (λ (l : List ℕ). record_begins field + record_size (noted_bytes g 2 b n) field ≤ length l) (sym (put_back_is_noted h b' m))
      (noted_reach g h 2 2 b b' n m field can can' (subst (λ (l : List ℕ). HasAt bytes at (take (record_begins field) l)) (put_back_is_noted g b n) front) (subst (HasAt bytes at) (put_back_is_noted h b' m) has)))
  same_reach g h Take d field can can' fits front has far op = absurd (omega (arith, fits, far.1, take_record_size g))
  same_reach g h c d field can can' fits front has far op = absurd (omega (arith, op))

  reach : (g h : ℕ) (c d : Change) (field : RecordField) → CanStand c → CanStand d → record_begins field + record_size (record_bytes (g, c)) field ≤ length (record_bytes (g, c))
      → HasAt bytes at (take (record_begins field) (record_bytes (g, c))) → HasAt bytes at (record_bytes (h, d)) → (1 < record_begins field) × (3 ≤ record_begins field + record_size (record_bytes (g, c)) field)
      → record_begins field + record_size (record_bytes (g, c)) field ≤ length (record_bytes (h, d))
  reach g h c d field can can' fits front has far =
      same_reach g h c d field can can' fits front has far (one_byte_is bytes (at + 1) (operation c) (operation d) (operation_front g c (record_begins field) far.0 front) (operation_at bytes at h d has))

module _ (bytes : List ℕ) (at stop place : ℕ) where
  -- a closed gate is the end of the records, and no fault
  pub closed_is_whole : HasAt bytes at (0 ∷ []) → at < stop → NoRecord bytes at stop place → ⊥
  closed_is_whole closed within (inl e) = ⊎_elim
      (λ gate. not_missing bytes at stop place (0 ∷ []) closed (omega arith) (omega (arith, e.ends.low)) (omega (arith, e.ends.high, gate.0, gate.1)) e.ends.missing)
      (λ some. opened_front bytes at e.form.0 e.form.1 (record_begins e.field) some (subst (λ (l : List ℕ). HasAt bytes at (take (record_begins e.field) l)) e.form.3 e.there) closed)
      (later e.text e.field)
  closed_is_whole closed within (inr w) = opened_front bytes at w.form.0 w.form.1 (record_begins w.field) (coded_later w.field w.may) (subst (λ (l : List ℕ). HasAt bytes at (take (record_begins w.field) l)) w.form.3 w.there) closed

  -- and so is a record
  pub record_is_whole : (r : Record) → 0 < r.0 → CanStand r.1 → HasAt bytes at (record_bytes r) → at + length (record_bytes r) ≤ stop → NoRecord bytes at stop place → ⊥
  record_is_whole r opened can has within (inl e) =
      let q = e.form.0 in
      let size = ap (λ (l : List ℕ). record_size l e.field) e.form.3 in
      let fits = subst (λ (l : List ℕ). record_begins e.field + record_size l e.field ≤ length l) e.form.3 e.fits in
      let front = subst (λ (l : List ℕ). HasAt bytes at (take (record_begins e.field) l)) e.form.3 e.there in
      let far : record_begins e.field + record_size (record_bytes q) e.field ≤ length (record_bytes r) = ⊎_elim
      (λ few. omega (arith, few, two_bytes r.0 r.1))
      (λ many. reach bytes at q.0 r.0 q.1 r.1 e.field e.form.2 can fits front has many)
      (behind_operation (record_bytes q) e.field) in
      not_missing bytes at stop place (record_bytes r) has within (omega (arith, e.ends.low)) (omega (arith, e.ends.high, far, size)) e.ends.missing
  record_is_whole r opened can has within (inr w) = w.none (record_bytes r) (r, opened, can, refl) (front_of bytes at (record_begins w.field + record_size w.text w.field) (record_bytes r) has)

module _ (bytes : List ℕ) (at stop : ℕ) (notes : List Note) (place : ℕ) where
  -- the end of the records is no fault, whatever the notes are
  pub end_is_whole : HasAt bytes at (0 ∷ []) → at < stop → NoChange bytes at stop notes place → ⊥
  end_is_whole closed within (inl none) = closed_is_whole bytes at stop place closed within none
  end_is_whole closed within (inr wrong) = shut bytes at wrong.read wrong.opened wrong.there closed

  -- and a record isn't that may follow
  pub change_is_whole : (r : Record) → 0 < r.0 → CanStand r.1 → may_follow r.1 notes ≡ true → HasAt bytes at (record_bytes r) → at + length (record_bytes r) ≤ stop → NoChange bytes at stop notes place → ⊥
  change_is_whole r opened can may has within (inl none) = record_is_whole bytes at stop place r opened can has within none
  change_is_whole r opened can may has within (inr wrong) =
      let same : wrong.read ≡ r = one_record bytes at wrong.read r wrong.can can wrong.there has in
      let both : false ≡ true = sym wrong.may_not ∙ ap (λ (q : Record). may_follow q.1 notes) same ∙ may in
      absurd cc

-- ---- the records of a half

module _ (bytes : List ℕ) (capacity stop place : ℕ) where
  half_is_whole : (start : ℕ) (ns : List Note) (rs qs : List Record) → Stand capacity ns rs → Stand capacity ns qs → HasAt bytes start (spelled rs ++ 0 ∷ []) → start + length (spelled rs) < stop → HasAt bytes start (spelled qs ++ [])
      → NoChange bytes (start + length (spelled qs)) stop (replayed capacity ns qs) place → ⊥
  half_is_whole start ns [] [] stand stand' this within that none = end_is_whole bytes start stop ns place this (omega (arith, within)) (subst (λ (at : ℕ). NoChange bytes at stop ns place) (omega arith) none)
  half_is_whole start ns [] (q ∷ qs) stand stand' this within that none = shut bytes start q stand'.0 (first_record bytes start q qs [] that) this
  half_is_whole start ns (r ∷ rs) [] stand stand' this within that none =
      change_is_whole bytes start stop ns place r stand.0 stand.1 stand.2 (first_record bytes start r rs (0 ∷ []) this) (omega (arith, within, length-append (record_bytes r) (spelled rs))) (subst (λ (at : ℕ). NoChange bytes at stop ns place) (omega arith) none)
  half_is_whole start ns (r ∷ rs) (q ∷ qs) stand stand' this within that none =
      let same : q ≡ r = one_record bytes start q r stand'.1 stand.1 (first_record bytes start q qs [] that) (first_record bytes start r rs (0 ∷ []) this) in
      let size = ap (λ (p : Record). length (record_bytes p)) same in
      half_is_whole (start + length (record_bytes r)) (changed capacity r.1 ns) rs qs stand.3
      (subst (λ (p : Record). Stand capacity (changed capacity p.1 ns) qs) same stand'.3)
      (other_records bytes start r rs (0 ∷ []) this)
      (omega (arith, within, length-append (record_bytes r) (spelled rs)))
      (subst (λ (p : Record). HasAt bytes (start + length (record_bytes p)) (spelled qs ++ [])) same (other_records bytes start q qs [] that))
      (subst (λ (p : Record). NoChange bytes (start + length (record_bytes r) + length (spelled qs)) stop (replayed capacity (changed capacity p.1 ns) qs) place) same
      (subst (λ (at : ℕ). NoChange bytes at stop (replayed capacity (changed capacity q.1 ns) qs) place) (omega (arith, size, length-append (record_bytes q) (spelled qs))) none))

-- ---- whole texts

module _ (bytes : List ℕ) (place : ℕ) where
  pub head_is_whole : (s : Sizes) (selector : ℕ) → IsSize s → HasAt bytes 0 (head_bytes s selector) → NoHead bytes place → ⊥
  head_is_whole s selector size has (inl e) =
      let thirteen : length e.text ≡ 13 = ap length e.form.3 in
      not_missing bytes 0 13 place (head_bytes s selector) has (omega arith) (omega arith) (omega (arith, e.ends.high, e.fits, thirteen)) e.ends.missing
  head_is_whole s selector size has (inr w) = w.none (head_bytes s selector) (s, selector, size, refl) (front_of bytes 0 (head_begins w.field + head_size w.text w.field) (head_bytes s selector) has)

  pub unread_is_nothing : (s : Sizes) (notes : List Note) → IsUnread bytes place → StandsFor s notes bytes → ⊥
  unread_is_nothing s notes (inl none) stands = head_is_whole s stands.selector stands.size stands.shows.head none
  unread_is_nothing s notes (inr none) stands =
      let heads = one_head bytes none.s s none.selector stands.selector none.size stands.size none.head stands.shows.head in
      let start : half_start none.s none.selector ≡ half_start s stands.selector = λ i. half_start (heads.0 i) (heads.1 i) in
      let half : none.s.half ≡ s.half = ap (λ (z : Sizes). z.half) heads.0 in
      let capacity : s.capacity ≡ none.s.capacity = sym (ap (λ (z : Sizes). z.capacity) heads.0) in
      half_is_whole bytes none.s.capacity (half_start none.s none.selector + none.s.half) place (half_start none.s none.selector) [] stands.records none.behind.records (subst (λ (k : ℕ). Stand k [] stands.records) capacity stands.stand) none.behind.stand
      (subst (λ (at : ℕ). HasAt bytes at (spelled stands.records ++ 0 ∷ [])) (sym start) stands.shows.text)
      (omega (arith, stands.shows.within, half))
      (subst (HasAt bytes (half_start none.s none.selector)) (sym (append-nil (spelled none.behind.records))) none.behind.there)
      none.behind.here
