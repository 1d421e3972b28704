-- Why a reading fails, step by step.
use Rattle.std.proofs.Common.{◌≡◌, ◌≢◌, ◌<◌, ◌+◌, ◌-◌, ◌%◌, ◌/◌, ◌⊎◌, ℕ, zero, suc, true, false, List, [], ◌∷◌, length, take, drop, eqb, ltb, Option, Some, None, Result, Ok, Err, refl, ap, sym, ◌∙◌, inl, inr}
use Rattle.std.proofs.lemmas.Bool.{ltb-true, eqb-true, eqb-false}
use Rattle.item_model.specs.Data.{Data}
use Rattle.item_model.specs.Format.{width, IsNoCode}
use Rattle.item_model.specs.Reading.{Read, format_with, known, format_at, length_at, no_character, whole_body, body_at, leaf, leaf_at, items_at, is_list, list_at, item_at}
use Rattle.item_model.specs.declared.fault.ItemFault.{ItemFault}
use Rattle.item_model.specs.declared.fault.ItemFault.TheVariants as fault
use Rattle.item_model.specs.declared.format.Format.{Format}
use Rattle.item_model.specs.declared.format.Format.TheVariants as format
use Rattle.secs_items.proofs.Grammar.{the_list}
use Rattle.secs_items.proofs.Heads.{bind_err, chosen, no_code, length_at-err}

pub err_is : {A : Type 0} {d e : ItemFault} → Path (Result A ItemFault) (Err d) (Err e) → d ≡ e
err_is same = cc

-- a format byte
pub data FormatFails (total : ℕ) (bytes : List ℕ) (e : ItemFault) : Type 0 where
  nothing : bytes ≡ [] → e ≡ fault.Truncated total → FormatFails total bytes e
  no_length : (b : ℕ) (rest : List ℕ) → bytes ≡ b ∷ rest → b % 4 ≡ 0 → e ≡ fault.BadLengthBytes (total - length bytes) → FormatFails total bytes e
  no_format : (b : ℕ) (rest : List ℕ) → bytes ≡ b ∷ rest → b % 4 ≢ 0 → IsNoCode (b / 4) → e ≡ fault.BadCode (total - length bytes) (b / 4) → FormatFails total bytes e

known_err : (place b : ℕ) (bytes : List ℕ) (o : Option Format) (e : ItemFault) → known place b bytes o ≡ Err e → (o ≡ None) × (e ≡ fault.BadCode place (b / 4))
known_err place b bytes None e read = (refl, sym (err_is read))
known_err place b bytes (Some f) e read = absurd (cc)

pub format_fails : (total : ℕ) (bytes : List ℕ) (e : ItemFault) → format_at total bytes ≡ Err e → FormatFails total bytes e
unfolding format_at
format_fails total [] e read = nothing refl (sym (err_is read))
format_fails total (b ∷ bytes) e read =
    let place = total - length (b ∷ bytes) in
    elim (chosen (eqb (b % 4) 0) (Err (fault.BadLengthBytes place)) (known place b bytes (format_with (b / 4))) (Err e) read) [
      | inl none ↦ no_length b bytes refl (eqb-true _ _ none.0) (sym (err_is none.1))
      | inr some ↦
          let parts = known_err place b bytes (format_with (b / 4)) e some.1 in
          no_format b bytes refl (eqb-false _ _ some.0) (no_code (b / 4) parts.0) parts.1
    ]

-- what is behind the format byte of an item that is no list
pub data LeafFails (total place k : ℕ) (f : Format) (bytes : List ℕ) (e : ItemFault) : Type 0 where
  short_head : length bytes < k → e ≡ fault.Truncated total → LeafFails total place k f bytes e
  bad_width : (n : ℕ) (rest : List ℕ) → length_at total k bytes ≡ Ok (n, rest) → n % width f ≢ 0 → e ≡ fault.BadWidth place → LeafFails total place k f bytes e
  bad_text : (n i : ℕ) (rest : List ℕ) → length_at total k bytes ≡ Ok (n, rest) → no_character f (take n rest) ≡ Some i →
      e ≡ fault.BadAscii (total - length rest + i) → LeafFails total place k f bytes e
  short_body : (n : ℕ) (rest : List ℕ) → length_at total k bytes ≡ Ok (n, rest) → n % width f ≡ 0 → no_character f (take n rest) ≡ None → length rest < n →
      e ≡ fault.Truncated total → LeafFails total place k f bytes e

whole_err : (total n : ℕ) (f : Format) (bytes : List ℕ) (o : Option ℕ) (e : ItemFault) → whole_body total f n bytes o ≡ Err e →
    ((i : ℕ) × (o ≡ Some i) × (e ≡ fault.BadAscii (total - length bytes + i))) ⊎ ((o ≡ None) × (length bytes < n) × (e ≡ fault.Truncated total))
whole_err total n f bytes (Some i) e read = inl (i, refl, sym (err_is read))
whole_err total n f bytes None e read =
    elim (chosen (ltb (length bytes) n) (Err (fault.Truncated total)) (Ok (leaf f (take n bytes), drop n bytes)) (Err e) read) [
      | inl short ↦ inr (refl, ltb-true _ _ short.0, sym (err_is short.1))
      | inr long ↦ absurd (let same = long.1 in cc)
    ]

body_err : (total n : ℕ) (f : Format) (bytes : List ℕ) (e : ItemFault) → body_at total f n bytes ≡ Err e →
    ((i : ℕ) × (no_character f (take n bytes) ≡ Some i) × (e ≡ fault.BadAscii (total - length bytes + i)))
    ⊎ ((no_character f (take n bytes) ≡ None) × (length bytes < n) × (e ≡ fault.Truncated total))
unfolding body_at
body_err total n f bytes e read = whole_err total n f bytes (no_character f (take n bytes)) e read

pub leaf_fails : (total place k : ℕ) (f : Format) (bytes : List ℕ) (e : ItemFault) → leaf_at total place f k bytes ≡ Err e → LeafFails total place k f bytes e
unfolding leaf_at
leaf_fails total place k f bytes e read =
    elim (bind_err (length_at total k bytes) _ e read) [
      | inl failed ↦ let parts = length_at-err total k bytes e failed in short_head parts.0 parts.1
      | inr (n, length_read, more) ↦
          elim (chosen (eqb (n.0 % width f) 0) (body_at total f n.0 n.1) (Err (fault.BadWidth place)) (Err e) more) [
            | inr bad ↦ bad_width n.0 n.1 length_read (eqb-false _ _ bad.0) (sym (err_is bad.1))
            | inl good ↦ elim (body_err total n.0 f n.1 e good.1) [
              | inl (i, text, is) ↦ bad_text n.0 i n.1 length_read text is
              | inr (text, short, is) ↦ short_body n.0 n.1 length_read (eqb-true _ _ good.0) text short is
            ]
          ]
    ]

-- what is behind the format byte of a list
pub data ListFails (one : List ℕ → Read Data) (total k : ℕ) (bytes : List ℕ) (e : ItemFault) : Type 0 where
  short_list : length bytes < k → e ≡ fault.Truncated total → ListFails one total k bytes e
  bad_items : (n : ℕ) (rest : List ℕ) → length_at total k bytes ≡ Ok (n, rest) → items_at one n rest ≡ Err e → ListFails one total k bytes e

pub list_fails : (one : List ℕ → Read Data) (total k : ℕ) (bytes : List ℕ) (e : ItemFault) → list_at one total k bytes ≡ Err e → ListFails one total k bytes e
unfolding list_at
list_fails one total k bytes e read =
    elim (bind_err (length_at total k bytes) _ e read) [
      | inl failed ↦ let parts = length_at-err total k bytes e failed in short_list parts.0 parts.1
      | inr (n, length_read, more) ↦ elim (bind_err (items_at one n.0 n.1) _ e more) [
        | inl failed ↦ bad_items n.0 n.1 length_read failed
        | inr (ds, items_read, end) ↦ absurd (cc)
      ]
    ]

-- an item
pub data ItemFails (levels total : ℕ) (bytes : List ℕ) (e : ItemFault) : Type 0 where
  at_format : FormatFails total bytes e → ItemFails levels total bytes e
  too_deep : (k : ℕ) (rest : List ℕ) → levels ≡ 0 → format_at total bytes ≡ Ok (format.List, k, rest) → e ≡ fault.TooDeep (total - length bytes) →
      ItemFails levels total bytes e
  in_list : (l k : ℕ) (rest : List ℕ) → levels ≡ suc l → format_at total bytes ≡ Ok (format.List, k, rest) →
      list_at (item_at l total) total k rest ≡ Err e → ItemFails levels total bytes e
  in_leaf : (f : Format) (k : ℕ) (rest : List ℕ) → format_at total bytes ≡ Ok (f, k, rest) → is_list f ≡ false →
      leaf_at total (total - length bytes) f k rest ≡ Err e → ItemFails levels total bytes e

listed : (total k : ℕ) (bytes rest : List ℕ) (f : Format) → is_list f ≡ true → format_at total bytes ≡ Ok (f, k, rest) →
    format_at total bytes ≡ Ok (format.List, k, rest)
listed total k bytes rest f is read = read ∙ ap (λ (g : Format). Ok (g, k, rest)) (the_list f is)

pub item_fails : (levels total : ℕ) (bytes : List ℕ) (e : ItemFault) → item_at levels total bytes ≡ Err e → ItemFails levels total bytes e
unfolding item_at
item_fails zero total bytes e read =
    elim (bind_err (format_at total bytes) _ e read) [
      | inl failed ↦ at_format (format_fails total bytes e failed)
      | inr (h, format_read, more) ↦
          elim (chosen (is_list h.0) (Err (fault.TooDeep (total - length bytes))) (leaf_at total (total - length bytes) h.0 h.1 h.2) (Err e) more) [
            | inl of_list ↦ too_deep h.1 h.2 refl (listed total h.1 bytes h.2 h.0 of_list.0 format_read) (sym (err_is of_list.1))
            | inr of_leaf ↦ in_leaf h.0 h.1 h.2 format_read of_leaf.0 of_leaf.1
          ]
    ]
item_fails (suc l) total bytes e read =
    elim (bind_err (format_at total bytes) _ e read) [
      | inl failed ↦ at_format (format_fails total bytes e failed)
      | inr (h, format_read, more) ↦
          elim (chosen (is_list h.0) (list_at (item_at l total) total h.1 h.2) (leaf_at total (total - length bytes) h.0 h.1 h.2) (Err e) more) [
            | inl of_list ↦ in_list l h.1 h.2 refl (listed total h.1 bytes h.2 h.0 of_list.0 format_read) of_list.1
            | inr of_leaf ↦ in_leaf h.0 h.1 h.2 format_read of_leaf.0 of_leaf.1
          ]
    ]
