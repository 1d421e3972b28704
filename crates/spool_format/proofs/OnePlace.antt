-- Bytes leave the format at one place.
use Rattle.std.proofs.Common.{◌≡◌, ◌⊎◌, inl, inr, ⊎_elim, ℕ, ◌+◌, ◌-◌, ◌<◌, ◌≤◌, List, [], ◌∷◌, ◌++◌, length, take, refl, sym, ◌∙◌, ap, subst, arith, length-append}
use Rattle.std.proofs.lemmas.Bool.{cases_lt}
use Rattle.std.proofs.lemmas.List.{append-nil, length-take, take-take}
use Rattle.spool.specs.declared.note.Note.{Note}
use Rattle.outside.specs.Disk.{HasAt}
use Rattle.spool_format.specs.Format.{Record, Stand, Sizes, changed, record_bytes, spelled, half_start, replayed}
use Rattle.spool_format.specs.Unread.{IsRecord, RecordField, AtGate, AtOperation, AtOverwrite, AtNumber, AtKind, AtId, AtLength, AtText, record_begins, record_size, IsCodedField, NoChange, NoRecordBehind, IsHead, HeadField, AtSelector, AtCapacity, AtHalf, head_begins, head_size, IsSizeField, NoHalf, IsUnread, EndsIn, IsWrong, Leaves}
use Rattle.spool_format.proofs.Alone.{one_record, one_head, first_record, other_records}
use Rattle.spool_format.proofs.Unreading.{front_of, record_is_whole, change_is_whole, head_is_whole}

-- one number isn't less than another, nor that less than it
neither_less : (p q : ℕ) → (p < q → ⊥) → (q < p → ⊥) → p ≡ q
neither_less p q no_less no_more = elim (cases_lt p q) [
  | inl lt ↦ absurd (no_less lt)
  | inr le ↦ elim (cases_lt q p) [ inl lt ↦ absurd (no_more lt) | inr ge ↦ omega arith ]
]

-- two fields of a form are one, or one of them ends where the other begins or before
abbrev pub AreApart : ℕ → ℕ → ℕ → ℕ → Type 0
AreApart begins size begins' size' = ((begins ≡ begins') × (size ≡ size')) ⊎ (begins + size ≤ begins') ⊎ (begins' + size' ≤ begins)

module _ (Form : List ℕ → Type 0) (F : Type 0) (begins : F → ℕ) (size : List ℕ → F → ℕ) (MayBeWrong : F → Type 0) (apart : (t u : List ℕ) (f g : F) → MayBeWrong g → AreApart (begins f) (size t f) (begins g) (size u g)) (bytes : List ℕ) (at stop : ℕ) where
  -- all that stands before the missing byte
  before_missing : (place : ℕ) → EndsIn Form F begins size MayBeWrong bytes at stop place → (k : ℕ) → at ≤ k → k < place → (k < stop) × (k < length bytes)
  before_missing place e k low high =
      let front : length (take (begins e.field) e.text) ≡ begins e.field = omega (arith, length-take (begins e.field) e.text, e.fits) in
      elim (cases_lt k (at + begins e.field)) [
        | inl before ↦ (omega (arith, before, e.before), omega (arith, e.there.within (k - at) (omega (arith, front, before, low))))
        | inr behind ↦ e.ends.first k behind high
      ]

  not_before : (p q : ℕ) → EndsIn Form F begins size MayBeWrong bytes at stop p → EndsIn Form F begins size MayBeWrong bytes at stop q → p < q → ⊥
  not_before p q e o less =
      let here = before_missing q o p (omega (arith, e.ends.low)) less in
      ⊎_elim (λ (past : stop ≤ p). absurd (omega (arith, past, here.0))) (λ past. absurd (omega (arith, past, here.1))) e.ends.missing

  -- a front of a text of the form up to a later field, where none of the form goes like that
  no_front : (place : ℕ) → (w : IsWrong Form F begins size MayBeWrong bytes at stop place) → (text : List ℕ) → Form text → (n : ℕ) → begins w.field + size w.text w.field ≤ n → HasAt bytes at (take n text) → ⊥
  no_front place w text form n far has =
      w.none text form
      (subst (HasAt bytes at) (take-take (begins w.field + size w.text w.field) n text far)
      (front_of bytes at (begins w.field + size w.text w.field) (take n text) has))

  not_both : (p q : ℕ) → EndsIn Form F begins size MayBeWrong bytes at stop p → IsWrong Form F begins size MayBeWrong bytes at stop q → ⊥
  not_both p q e w =
      let reaches : p < at + begins w.field + size w.text w.field → ⊥ =
      λ short. ⊎_elim (λ (past : stop ≤ p). absurd (omega (arith, past, short, w.before))) (λ past. absurd (omega (arith, past, short, w.whole))) e.ends.missing in
      elim (apart e.text w.text e.field w.field w.may) [
        | inl same ↦ reaches (omega (arith, e.ends.high, same.0, same.1))
        | inr (inl before) ↦ reaches (omega (arith, e.ends.high, before))
        | inr (inr behind) ↦ no_front q w e.text e.form (begins e.field) behind e.there
      ]

  wrong_once : (p q : ℕ) → IsWrong Form F begins size MayBeWrong bytes at stop p → IsWrong Form F begins size MayBeWrong bytes at stop q → p ≡ q
  wrong_once p q w v = elim (apart w.text v.text w.field v.field v.may) [
    | inl same ↦ omega (arith, w.place_is, v.place_is, same.0)
    | inr (inl before) ↦ absurd (no_front p w v.text v.form (begins v.field) before v.there)
    | inr (inr behind) ↦ absurd (no_front q v w.text w.form (begins w.field) behind w.there)
  ]

  pub leaves_once : (p q : ℕ) → Leaves Form F begins size MayBeWrong bytes at stop p → Leaves Form F begins size MayBeWrong bytes at stop q → p ≡ q
  leaves_once p q (inl e) (inl o) = neither_less p q (not_before p q e o) (not_before q p o e)
  leaves_once p q (inl e) (inr w) = absurd (not_both p q e w)
  leaves_once p q (inr w) (inl e) = absurd (not_both q p e w)
  leaves_once p q (inr w) (inr v) = wrong_once p q w v

-- ---- heads

head_apart : (t u : List ℕ) (f g : HeadField) → IsSizeField g → AreApart (head_begins f) (head_size t f) (head_begins g) (head_size u g)
head_apart t u f AtSelector may = absurd may
head_apart t u AtSelector AtCapacity may = inr (inl (omega arith))
head_apart t u AtCapacity AtCapacity may = inl (refl, refl)
head_apart t u AtHalf AtCapacity may = inr (inr (omega arith))
head_apart t u AtSelector AtHalf may = inr (inl (omega arith))
head_apart t u AtCapacity AtHalf may = inr (inl (omega arith))
head_apart t u AtHalf AtHalf may = inl (refl, refl)

-- ---- records

operation_apart : (t : List ℕ) (f : RecordField) → AreApart (record_begins f) (record_size t f) 1 1
operation_apart t AtGate = inr (inl (omega arith))
operation_apart t AtOperation = inl (refl, refl)
operation_apart t AtOverwrite = inr (inr (omega arith))
operation_apart t AtNumber = inr (inr (omega arith))
operation_apart t AtKind = inr (inr (omega arith))
operation_apart t AtId = inr (inr (omega arith))
operation_apart t AtLength = inr (inr (omega arith))
operation_apart t AtText = inr (inr (omega arith))

overwrite_apart : (t : List ℕ) (f : RecordField) → AreApart (record_begins f) (record_size t f) 2 1
overwrite_apart t AtGate = inr (inl (omega arith))
overwrite_apart t AtOperation = inr (inl (omega arith))
overwrite_apart t AtOverwrite = inl (refl, refl)
overwrite_apart t AtNumber = inr (inr (omega arith))
overwrite_apart t AtKind = inr (inr (omega arith))
overwrite_apart t AtId = inr (inr (omega arith))
overwrite_apart t AtLength = inr (inr (omega arith))
overwrite_apart t AtText = inr (inr (omega arith))

kind_apart : (t : List ℕ) (f : RecordField) → AreApart (record_begins f) (record_size t f) 11 1
kind_apart t AtGate = inr (inl (omega arith))
kind_apart t AtOperation = inr (inl (omega arith))
kind_apart t AtOverwrite = inr (inl (omega arith))
kind_apart t AtNumber = inr (inl (omega arith))
kind_apart t AtKind = inl (refl, refl)
kind_apart t AtId = inr (inr (omega arith))
kind_apart t AtLength = inr (inr (omega arith))
kind_apart t AtText = inr (inr (omega arith))

length_apart : (t : List ℕ) (f : RecordField) → AreApart (record_begins f) (record_size t f) 16 4
length_apart t AtGate = inr (inl (omega arith))
length_apart t AtOperation = inr (inl (omega arith))
length_apart t AtOverwrite = inr (inl (omega arith))
length_apart t AtNumber = inr (inl (omega arith))
length_apart t AtKind = inr (inl (omega arith))
length_apart t AtId = inr (inl (omega arith))
length_apart t AtLength = inl (refl, refl)
length_apart t AtText = inr (inr (omega arith))

record_apart : (t u : List ℕ) (f g : RecordField) → IsCodedField g → AreApart (record_begins f) (record_size t f) (record_begins g) (record_size u g)
record_apart t u f AtOperation may = operation_apart t f
record_apart t u f AtOverwrite may = overwrite_apart t f
record_apart t u f AtKind may = kind_apart t f
record_apart t u f AtLength may = length_apart t f
record_apart t u f AtGate may = absurd may
record_apart t u f AtNumber may = absurd may
record_apart t u f AtId may = absurd may
record_apart t u f AtText may = absurd may

module _ (bytes : List ℕ) (at stop : ℕ) (notes : List Note) where
  -- the places of what may not follow, and of what is no record
  pub change_once : (p q : ℕ) → NoChange bytes at stop notes p → NoChange bytes at stop notes q → p ≡ q
  change_once p q (inl none) (inl none') = leaves_once IsRecord RecordField record_begins record_size IsCodedField record_apart bytes at stop p q none none'
  change_once p q (inl none) (inr wrong) = absurd (record_is_whole bytes at stop p wrong.read wrong.opened wrong.can wrong.there wrong.within none)
  change_once p q (inr wrong) (inl none) = absurd (record_is_whole bytes at stop q wrong.read wrong.opened wrong.can wrong.there wrong.within none)
  change_once p q (inr wrong) (inr other) = wrong.place_is ∙ sym other.place_is

  pub begins_within : (p : ℕ) → NoChange bytes at stop notes p → at ≤ stop
  begins_within p (inl (inl e)) = omega (arith, e.before)
  begins_within p (inl (inr w)) = omega (arith, w.before)
  begins_within p (inr wrong) = omega (arith, wrong.within)

-- ---- the records of a half

module _ (bytes : List ℕ) (capacity stop p q : ℕ) where
  -- no record stands behind those of the one place that stands behind the other's
  no_more : (start : ℕ) (ns : List Note) (r : Record) (rs : List Record) (place other : ℕ) → Stand capacity ns (r ∷ rs) → HasAt bytes start (spelled (r ∷ rs) ++ []) → NoChange bytes start stop ns place
      → NoChange bytes (start + length (spelled (r ∷ rs))) stop (replayed capacity ns (r ∷ rs)) other → ⊥
  no_more start ns r rs place other stand has here behind =
      change_is_whole bytes start stop ns place r stand.0 stand.1 stand.2 (first_record bytes start r rs [] has)
      (omega (arith, begins_within bytes (start + length (spelled (r ∷ rs))) stop (replayed capacity ns (r ∷ rs)) other behind, length-append (record_bytes r) (spelled rs)))
      here

  half_once : (start : ℕ) (ns : List Note) (rs qs : List Record) → Stand capacity ns rs → Stand capacity ns qs → HasAt bytes start (spelled rs ++ []) → HasAt bytes start (spelled qs ++ [])
      → NoChange bytes (start + length (spelled rs)) stop (replayed capacity ns rs) p → NoChange bytes (start + length (spelled qs)) stop (replayed capacity ns qs) q → p ≡ q
  half_once start ns [] [] stand stand' this that none none' = change_once bytes (start + 0) stop ns p q none none'
  half_once start ns [] (o ∷ qs) stand stand' this that none none' = absurd (no_more start ns o qs p q stand' that (subst (λ (at : ℕ). NoChange bytes at stop ns p) (omega arith) none) none')
  half_once start ns (r ∷ rs) [] stand stand' this that none none' = absurd (no_more start ns r rs q p stand this (subst (λ (at : ℕ). NoChange bytes at stop ns q) (omega arith) none') none)
  half_once start ns (r ∷ rs) (o ∷ qs) stand stand' this that none none' =
      let same : o ≡ r = one_record bytes start o r stand'.1 stand.1 (first_record bytes start o qs [] that) (first_record bytes start r rs [] this) in
      let size = ap (λ (x : Record). length (record_bytes x)) same in
      half_once (start + length (record_bytes r)) (changed capacity r.1 ns) rs qs stand.3
      (subst (λ (x : Record). Stand capacity (changed capacity x.1 ns) qs) same stand'.3)
      (other_records bytes start r rs [] this)
      (subst (λ (x : Record). HasAt bytes (start + length (record_bytes x)) (spelled qs ++ [])) same (other_records bytes start o qs [] that))
      (subst (λ (at : ℕ). NoChange bytes at stop (replayed capacity (changed capacity r.1 ns) rs) p) (omega (arith, length-append (record_bytes r) (spelled rs))) none)
      (subst (λ (x : Record). NoChange bytes (start + length (record_bytes r) + length (spelled qs)) stop (replayed capacity (changed capacity x.1 ns) qs) q) same
      (subst (λ (at : ℕ). NoChange bytes at stop (replayed capacity (changed capacity o.1 ns) qs) q) (omega (arith, size, length-append (record_bytes o) (spelled qs))) none'))

-- ---- whole texts

module _ (bytes : List ℕ) where
  -- the same half, and in it the same place
  halves_once : (p q : ℕ) → NoHalf bytes p → NoHalf bytes q → p ≡ q
  halves_once p q n m =
      let heads = one_head bytes n.s m.s n.selector m.selector n.size m.size n.head m.head in
      let behind : NoRecordBehind bytes n.s.capacity (half_start n.s n.selector) (half_start n.s n.selector + n.s.half) q =
      subst (λ (x : Sizes). NoRecordBehind bytes x.capacity (half_start x n.selector) (half_start x n.selector + x.half) q) (sym heads.0)
      (subst (λ (x : ℕ). NoRecordBehind bytes m.s.capacity (half_start m.s x) (half_start m.s x + m.s.half) q) (sym heads.1) m.behind) in
      let nil = λ (rs : List Record). sym (append-nil (spelled rs)) in
      half_once bytes n.s.capacity (half_start n.s n.selector + n.s.half) p q (half_start n.s n.selector) [] n.behind.records behind.records n.behind.stand behind.stand
      (subst (HasAt bytes (half_start n.s n.selector)) (nil n.behind.records) n.behind.there) (subst (HasAt bytes (half_start n.s n.selector)) (nil behind.records) behind.there) n.behind.here behind.here

  pub one_place : (p q : ℕ) → IsUnread bytes p → IsUnread bytes q → p ≡ q
  one_place p q (inl none) (inl none') = leaves_once IsHead HeadField head_begins head_size IsSizeField head_apart bytes 0 13 p q none none'
  one_place p q (inl none) (inr half) = absurd (head_is_whole bytes p half.s half.selector half.size half.head none)
  one_place p q (inr half) (inl none) = absurd (head_is_whole bytes q half.s half.selector half.size half.head none)
  one_place p q (inr half) (inr half') = halves_once p q half half'
