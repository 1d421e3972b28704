-- What ends too early can be completed.
use Rattle.std.proofs.Common.{◌≡◌, ◌≢◌, ◌<◌, ◌≤◌, ◌+◌, ◌-◌, ◌*◌, ◌%◌, ℕ, zero, suc, List, [], ◌∷◌, ◌++◌, length, take, replicate, None, Ok, Err, refl, ap, sym, ◌∙◌, subst, inl, inr, arith, append-nil, append_assoc, length-append}
use Rattle.std.proofs.lemmas.List.{take_all, length-replicate}
use Rattle.byteorder.specs.Endian.{big_number}
use Rattle.item_model.specs.Data.{Data, DataList, list, binary, no_items, item}
use Rattle.item_model.specs.Format.{code, width}
use Rattle.item_model.specs.Reading.{Read, format_at, length_at, no_character, leaf, leaf_at, items_at, list_at, item_at}
use Rattle.item_model.specs.Spelling.{AreBelow, Spells}
use Rattle.item_model.specs.declared.fault.ItemFault.TheVariants as fault
use Rattle.item_model.specs.declared.format.Format.{Format}
use Rattle.item_model.specs.declared.format.Format.TheVariants as format
use Rattle.secs_items.proofs.Characters.{position-below, below-position}
use Rattle.secs_items.proofs.Digits.{below_append, below_right}
use Rattle.secs_items.proofs.Failing.{nothing, no_length, no_format, LeafFails, short_head, bad_width, bad_text, short_body, ListFails, short_list, bad_items, ItemFails, at_format, too_deep, in_list, in_leaf, leaf_fails, list_fails, item_fails}
use Rattle.secs_items.proofs.Grammar.{again, found, leaf_reads}
use Rattle.secs_items.proofs.Heads.{bind_err, format_at-byte, format_at-ok, length_at-ok, length_at-bytes}
use Rattle.secs_items.proofs.Stepping.{leaf_item, list_item, whole_list}

-- an item that was read is read with more behind it
pub extend : (levels : ℕ) (x : Data) (depth : ℕ) (bytes rest more : List ℕ) (total other : ℕ) → levels + depth ≡ 16 → AreBelow 256 bytes →
    item_at levels total bytes ≡ Ok (x, rest) → item_at levels other (bytes ++ more) ≡ Ok (x, rest ++ more)
extend levels x depth bytes rest more total other deep below read =
    let (front, split, spells) = found levels x depth bytes rest total deep below read in
    let bytes_are : bytes ++ more ≡ front ++ (rest ++ more) = ap (λ (b : List ℕ). b ++ more) split ∙ append_assoc front rest more in
    rw bytes_are (again levels x depth front (rest ++ more) other deep spells)

-- zeros complete length bytes
abbrev IsFilled : ℕ → List ℕ → Type 0
IsFilled k bytes =
    (zeros : List ℕ) × (zeros ≢ []) × AreBelow 256 zeros × (length (bytes ++ zeros) ≡ k) × (big_number k (bytes ++ zeros) % 256 ≡ 0)

fill_head : (k : ℕ) (bytes : List ℕ) → k ≤ 3 → length bytes < k → IsFilled k bytes
fill_head zero bytes small short = absurd (omega arith)
fill_head (suc zero) [] small short = (0 ∷ [], (λ e. cc), (omega arith, tt), refl, refl)
fill_head (suc zero) (x ∷ bytes) small short = absurd (omega arith)
fill_head (suc (suc zero)) [] small short = (0 ∷ 0 ∷ [], (λ e. cc), (omega arith, (omega arith, tt)), refl, refl)
fill_head (suc (suc zero)) (x ∷ []) small short = (0 ∷ [], (λ e. cc), (omega arith, tt), refl, omega arith)
fill_head (suc (suc zero)) (x ∷ y ∷ bytes) small short = absurd (omega arith)
fill_head (suc (suc (suc zero))) [] small short = (0 ∷ 0 ∷ 0 ∷ [], (λ e. cc), (omega arith, (omega arith, (omega arith, tt))), refl, refl)
fill_head (suc (suc (suc zero))) (x ∷ []) small short = (0 ∷ 0 ∷ [], (λ e. cc), (omega arith, (omega arith, tt)), refl, omega arith)
fill_head (suc (suc (suc zero))) (x ∷ y ∷ []) small short = (0 ∷ [], (λ e. cc), (omega arith, tt), refl, omega arith)
fill_head (suc (suc (suc zero))) (x ∷ y ∷ z ∷ bytes) small short = absurd (omega arith)
fill_head (suc (suc (suc (suc k)))) bytes small short = absurd (omega arith)

-- such a length fits each width
fits_width : (n : ℕ) (f : Format) → n % 256 ≡ 0 → n % width f ≡ 0
fits_width n format.List even = omega arith
fits_width n format.Binary even = omega arith
fits_width n format.Bool even = omega arith
fits_width n format.Ascii even = omega arith
fits_width n format.I1 even = omega arith
fits_width n format.I2 even = omega arith
fits_width n format.I4 even = omega arith
fits_width n format.I8 even = omega arith
fits_width n format.U1 even = omega arith
fits_width n format.U2 even = omega arith
fits_width n format.U4 even = omega arith
fits_width n format.U8 even = omega arith

-- zeros complete a body
zeros_below : (m n : ℕ) → 0 < m → AreBelow m (replicate n 0)
zeros_below m zero some = tt
zeros_below m (suc n) some = (some, zeros_below m n some)

fill_text : (f : Format) (part : List ℕ) (n : ℕ) → no_character f part ≡ None → no_character f (part ++ replicate n 0) ≡ None
fill_text format.Ascii part n text = position-below (part ++ replicate n 0) (below_append 128 part (replicate n 0) (below-position part text) (zeros_below 128 n (omega arith)))
fill_text f part n text = refl

replicate_some : (n : ℕ) → 0 < n → replicate {A = ℕ} n 0 ≢ []
replicate_some zero some e = omega arith
replicate_some (suc n) some e = cc

more_some : (xs ys : List ℕ) → xs ≢ [] → xs ++ ys ≢ []
more_some [] ys some e = some refl
more_some (x ∷ xs) ys some e = cc

no_text : (f : Format) → no_character f [] ≡ None
no_text format.Ascii = refl
no_text f = refl

-- what makes a reading of these bytes whole
abbrev pub Completes : {A : Type 0} → (List ℕ → Read A) → List ℕ → Type 0
Completes {A = A} read bytes = (rest : List ℕ) × (x : A) × (rest ≢ []) × AreBelow 256 rest × (read (bytes ++ rest) ≡ Ok (x, []))

leaf_completes : (total other place now k : ℕ) (f : Format) (bytes : List ℕ) → k ≤ 3 → AreBelow 256 bytes → LeafFails total place k f bytes (fault.Truncated now) →
    (rest : List ℕ) × (x : Data) × (rest ≢ []) × AreBelow 256 rest × ((at : ℕ) → leaf_at other at f k (bytes ++ rest) ≡ Ok (x, []))
leaf_completes total other place now k f bytes small below (bad_width n rest read bad is) = absurd (cc)
leaf_completes total other place now k f bytes small below (bad_text n i rest read text is) = absurd (cc)
leaf_completes total other place now k f bytes small below (short_head short is) =
    let (zeros, some, low, size, even) = fill_head k bytes small short in
    let n = big_number k (bytes ++ zeros) in
    let body : List ℕ = replicate n 0 in
    let read : length_at other k (bytes ++ (zeros ++ body)) ≡ Ok (n, body ++ []) =
    ap (length_at other k) (sym (append_assoc bytes zeros body)) ∙ length_at-bytes other k (bytes ++ zeros) body size
    ∙ ap (λ (b : List ℕ). Ok (n, b)) (sym (append-nil body)) in
    let whole = λ (at : ℕ). leaf_reads other at k n f (bytes ++ (zeros ++ body)) body [] read (length-replicate {A = ℕ} n 0) (fits_width n f even) (fill_text f [] n (no_text f)) in
    (zeros ++ body, leaf f body, more_some zeros body some, below_append 256 zeros body low (zeros_below 256 n (omega arith)), whole)
leaf_completes total other place now k f bytes small below (short_body n rest read whole text short is) =
    let (lens, size, split, number) = length_at-ok total k n bytes rest read in
    let m = n - length rest in
    let zeros : List ℕ = replicate m 0 in
    let all : take n rest ≡ rest = take_all n rest (omega arith) in
    let rest_text : no_character f rest ≡ None = rw all at text in
    let body = rest ++ zeros in
    let long : length body ≡ n = omega (arith, length-append rest zeros, length-replicate {A = ℕ} m 0) in
    let bytes_are : bytes ++ zeros ≡ lens ++ body = ap (λ (b : List ℕ). b ++ zeros) split ∙ append_assoc lens rest zeros in
    let again_read : length_at other k (bytes ++ zeros) ≡ Ok (n, body ++ []) =
    ap (length_at other k) bytes_are ∙ length_at-bytes other k lens body size
    ∙ ap (λ (l : ℕ). Ok (l, body)) (sym number) ∙ ap (λ (b : List ℕ). Ok (n, b)) (sym (append-nil body)) in (
      zeros,
      leaf f body,
      replicate_some m (omega arith),
      zeros_below 256 m (omega arith),
      λ at. leaf_reads other at k n f (bytes ++ zeros) body [] again_read long whole (fill_text f rest m rest_text),
    )

-- empty binary items complete a list
abbrev empty_item : List ℕ
empty_item = 33 ∷ 0 ∷ []

empty_spells : (depth : ℕ) → Spells (binary []) depth empty_item
empty_spells depth = (empty_item, [], (1, omega arith, omega arith, omega arith, refl), (tt, refl), refl)

abbrev empties : ℕ → List ℕ
empties zero = []
empties (suc n) = empty_item ++ empties n

abbrev empty_items : ℕ → DataList
empty_items zero = no_items
empty_items (suc n) = item (binary []) (empty_items n)

empties_below : (n : ℕ) → AreBelow 256 (empties n)
empties_below zero = tt
empties_below (suc n) = (omega arith, (omega arith, empties_below n))

empties_read : (l depth other : ℕ) → l + depth ≡ 16 → (n : ℕ) → items_at (item_at l other) n (empties n) ≡ Ok (empty_items n, [])
empties_read l depth other deep zero = refl
empties_read l depth other deep (suc n) =
    let here : item_at l other (empty_item ++ empties n) ≡ Ok (binary [], empties n) = again l (binary []) depth empty_item (empties n) other deep (empty_spells depth) in
    rw (here, empties_read l depth other deep n) refl

-- the items of a list
items_complete : (l depth total other now : ℕ) → l + depth ≡ 16 →
    ((bytes : List ℕ) → AreBelow 256 bytes → item_at l total bytes ≡ Err (fault.Truncated now) → Completes (item_at l other) bytes) →
    (n : ℕ) (bytes : List ℕ) → AreBelow 256 bytes → items_at (item_at l total) n bytes ≡ Err (fault.Truncated now) →
    Completes (items_at (item_at l other) n) bytes
items_complete l depth total other now deep each zero bytes below read = absurd (cc)
items_complete l depth total other now deep each (suc n) bytes below read =
    elim (bind_err (item_at l total bytes) _ (fault.Truncated now) read) [
      | inl failed ↦
          let (rest, x, some, low, one) = each bytes below failed in
          let whole = extend l x depth (bytes ++ rest) [] (empties n) other other deep (below_append 256 bytes rest below low) one in
          let here : item_at l other (bytes ++ (rest ++ empties n)) ≡ Ok (x, empties n) = rw append_assoc at whole in (
            rest ++ empties n,
            item x (empty_items n),
            more_some rest (empties n) some,
            below_append 256 rest (empties n) low (empties_below n),
            rw (here, empties_read l depth other deep n) refl,
          )
      | inr (d, one, more) ↦ elim (bind_err (items_at (item_at l total) n d.1) _ (fault.Truncated now) more) [
        | inr (ds, items, end) ↦ absurd (cc)
        | inl failed ↦
            let (front, split, spells) = found l d.0 depth bytes d.1 total deep below one in
            let low : AreBelow 256 (front ++ d.1) = subst (AreBelow 256) split below in
            let (rest, ds, some, low_rest, items) = items_complete l depth total other now deep each n d.1 (below_right 256 front d.1 low) failed in
            let here = extend l d.0 depth bytes d.1 rest total other deep below one in
            (rest, item d.0 ds, some, low_rest, rw (here, items) refl)
      ]
    ]

list_completes : (l depth total other now k : ℕ) (bytes : List ℕ) → l + depth ≡ 16 → k ≤ 3 → AreBelow 256 bytes →
    ((bytes : List ℕ) → AreBelow 256 bytes → item_at l total bytes ≡ Err (fault.Truncated now) → Completes (item_at l other) bytes) →
    ListFails (item_at l total) total k bytes (fault.Truncated now) → Completes (list_at (item_at l other) other k) bytes
list_completes l depth total other now k bytes deep small below each (short_list short is) =
    let (zeros, some, low, size, even) = fill_head k bytes small short in
    let n = big_number k (bytes ++ zeros) in
    let behind = empties n in
    let read : length_at other k (bytes ++ (zeros ++ behind)) ≡ Ok (n, behind) =
    ap (length_at other k) (sym (append_assoc bytes zeros behind)) ∙ length_at-bytes other k (bytes ++ zeros) behind size in (
      zeros ++ behind,
      list (empty_items n),
      more_some zeros behind some,
      below_append 256 zeros behind low (empties_below n),
      whole_list (item_at l other) other k n (bytes ++ (zeros ++ behind)) behind [] (empty_items n) read (empties_read l depth other deep n),
    )
list_completes l depth total other now k bytes deep small below each (bad_items n rest read failed) =
    let (lens, size, split, number) = length_at-ok total k n bytes rest read in
    let low : AreBelow 256 (lens ++ rest) = subst (AreBelow 256) split below in
    let (more, ds, some, low_more, items) = items_complete l depth total other now deep each n rest (below_right 256 lens rest low) failed in
    let bytes_are : bytes ++ more ≡ lens ++ (rest ++ more) = ap (λ (b : List ℕ). b ++ more) split ∙ append_assoc lens rest more in
    let again_read : length_at other k (bytes ++ more) ≡ Ok (n, rest ++ more) =
    ap (length_at other k) bytes_are ∙ length_at-bytes other k lens (rest ++ more) size ∙ ap (λ (l : ℕ). Ok (l, rest ++ more)) (sym number) in
    (more, list ds, some, low_more, whole_list (item_at l other) other k n (bytes ++ more) (rest ++ more) [] ds again_read items)

-- an item
item_completes : (levels depth total other now : ℕ) (bytes : List ℕ) → levels + depth ≡ 16 → AreBelow 256 bytes →
    ((l : ℕ) → levels ≡ suc l → (bytes : List ℕ) → AreBelow 256 bytes → item_at l total bytes ≡ Err (fault.Truncated now) → Completes (item_at l other) bytes) →
    ItemFails levels total bytes (fault.Truncated now) → Completes (item_at levels other) bytes
item_completes levels depth total other now bytes deep below each (at_format (nothing none is)) =
    (empty_item, binary [], (λ e. cc), (omega arith, (omega arith, tt)), rw none (again levels (binary []) depth empty_item [] other deep (empty_spells depth)))
item_completes levels depth total other now bytes deep below each (at_format (no_length b rest is_bytes zero_length is)) = absurd (cc)
item_completes levels depth total other now bytes deep below each (at_format (no_format b rest is_bytes some_length unknown is)) = absurd (cc)
item_completes levels depth total other now bytes deep below each (too_deep k rest end read is) = absurd (cc)
item_completes levels depth total other now bytes deep below each (in_list l k rest next read failed) =
    let (one, small, bytes_are) = format_at-ok total k format.List bytes rest read in
    let low : AreBelow 256 ((4 * code format.List + k) ∷ rest) = subst (AreBelow 256) bytes_are below in
    let (more, x, some, low_more, whole) = list_completes l (suc depth) total other now k rest (omega arith) small low.1 (each l next) (list_fails (item_at l total) total k rest _ failed) in
    let same : bytes ++ more ≡ (4 * code format.List + k) ∷ (rest ++ more) = ap (λ (b : List ℕ). b ++ more) bytes_are in
    let format_read : format_at other (bytes ++ more) ≡ Ok (format.List, k, rest ++ more) = ap (format_at other) same ∙ format_at-byte other k format.List (rest ++ more) one small in
    (more, x, some, low_more, ap (λ (n : ℕ). item_at n other (bytes ++ more)) next ∙ list_item l other k (bytes ++ more) (rest ++ more) format_read ∙ whole)
item_completes levels depth total other now bytes deep below each (in_leaf f k rest read single failed) =
    let (one, small, bytes_are) = format_at-ok total k f bytes rest read in
    let low : AreBelow 256 ((4 * code f + k) ∷ rest) = subst (AreBelow 256) bytes_are below in
    let (more, x, some, low_more, whole) = leaf_completes total other (total - length bytes) now k f rest small low.1 (leaf_fails total (total - length bytes) k f rest _ failed) in
    let same : bytes ++ more ≡ (4 * code f + k) ∷ (rest ++ more) = ap (λ (b : List ℕ). b ++ more) bytes_are in
    let format_read : format_at other (bytes ++ more) ≡ Ok (f, k, rest ++ more) = ap (format_at other) same ∙ format_at-byte other k f (rest ++ more) one small in
    (more, x, some, low_more, leaf_item levels other k (bytes ++ more) (rest ++ more) f format_read single ∙ whole (other - length (bytes ++ more)))

-- what ends too early is a proper front of something that is read
pub completes : (levels depth total other now : ℕ) (bytes : List ℕ) → levels + depth ≡ 16 → AreBelow 256 bytes →
    item_at levels total bytes ≡ Err (fault.Truncated now) → Completes (item_at levels other) bytes
completes zero depth total other now bytes deep below read =
    item_completes 0 depth total other now bytes deep below (λ l next. absurd (omega arith)) (item_fails 0 total bytes _ read)
completes (suc l) depth total other now bytes deep below read =
    item_completes (suc l) depth total other now bytes deep below
    (λ m next bytes below read. let same : l ≡ m = omega arith in
    subst (λ (n : ℕ). Completes (item_at n other) bytes) same (completes l (suc depth) total other now bytes (omega arith) below (subst (λ (n : ℕ). item_at n total bytes ≡ Err (fault.Truncated now)) (sym same) read)))
    (item_fails (suc l) total bytes _ read)
