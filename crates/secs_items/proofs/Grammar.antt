-- The reading of items and their grammar: what is spelled is read, and what is read is spelled.
use Rattle.std.proofs.Common.{◌≡◌, ◌<◌, ◌≤◌, ◌+◌, ◌-◌, ◌*◌, ◌%◌, ℕ, zero, suc, true, false, List, [], ◌∷◌, ◌++◌, length, take, drop, eqb, ltb, Option, Some, None, Ok, Err, refl, ap, sym, ◌∙◌, subst, inl, inr, arith, append_assoc, length-append, length-take}
use Rattle.std.proofs.lemmas.Bool.{le-ltb, ltb-false, eqb-true, eq-eqb}
use Rattle.std.proofs.lemmas.List.{take_at, drop_at, take-append-drop}
use Rattle.std.specs.Int.{bytes_high_first}
use Rattle.item_model.specs.Data.{Data, DataList, list, no_items, item}
use Rattle.item_model.specs.Format.{code, width}
use Rattle.item_model.specs.Plain.{count_of}
use Rattle.item_model.specs.Reading.{Read, format_at, length_at, no_character, whole_body, body_at, leaf, leaf_at, items_at, is_list, list_at, item_at}
use Rattle.item_model.specs.Spelling.{AreBelow, IsHead, Spells, SpellAll}
use Rattle.item_model.specs.declared.fault.ItemFault.TheVariants as fault
use Rattle.item_model.specs.declared.format.Format.{Format}
use Rattle.item_model.specs.declared.format.Format.TheVariants as format
use Rattle.secs_items.proofs.Digits.{below_left, below_right}
use Rattle.secs_items.proofs.Heads.{bind_ok, chosen, ok_is, head_reads, head_is, format_at-ok, length_at-ok}
use Rattle.secs_items.proofs.Leaves.{IsLeaf, IsListSpelling, spelled, spells_leaf}
use Rattle.secs_items.proofs.Stepping.{leaf_item, list_item, whole_list}

-- a body that is all there
pub body_reads : (total : ℕ) (f : Format) (body rest : List ℕ) → no_character f body ≡ None → body_at total f (length body) (body ++ rest) ≡ Ok (leaf f body, rest)
unfolding body_at
body_reads total f body rest text =
    let front = take_at body rest (length body) refl in
    let behind = drop_at body rest (length body) refl in
    let characters : no_character f (take (length body) (body ++ rest)) ≡ None = rw front text in
    let enough : ltb (length (body ++ rest)) (length body) ≡ false = le-ltb _ _ (omega (arith, length-append body rest)) in
    rw (characters, enough, front, behind) refl

-- the bytes behind a format byte
pub leaf_reads : (total place k n : ℕ) (f : Format) (bytes body rest : List ℕ) → length_at total k bytes ≡ Ok (n, body ++ rest) → length body ≡ n →
    n % width f ≡ 0 → no_character f body ≡ None → leaf_at total place f k bytes ≡ Ok (leaf f body, rest)
unfolding leaf_at
leaf_reads total place k n f bytes body rest read long whole text =
    let yes : eqb (n % width f) 0 ≡ true = eq-eqb _ _ whole in
    let body_is : body_at total f n (body ++ rest) ≡ Ok (leaf f body, rest) = rw (← long) (body_reads total f body rest text) in
    rw (read, yes) body_is

-- an item that is no list
leaf_again : (x : Data) (bytes rest : List ℕ) (levels total : ℕ) → IsLeaf x bytes → item_at levels total (bytes ++ rest) ≡ Ok (x, rest)
leaf_again x bytes rest levels total is =
    let (k, some, small, fits, head_same) = is.is_head in
    let n = length is.body in
    let lens = bytes_high_first k n in
    let reads = head_reads is.f n k (is.body ++ rest) total some small fits in
    let whole : List ℕ = ((4 * code is.f + k) ∷ lens) ++ (is.body ++ rest) in
    let bytes_are : bytes ++ rest ≡ whole = rw (is.same, append_assoc, head_same) refl in
    let step = leaf_item levels total k whole (lens ++ (is.body ++ rest)) is.f reads.0 is.other in
    let read = leaf_reads total (total - length whole) k n is.f (lens ++ (is.body ++ rest)) is.body rest reads.1 refl is.whole is.text in
    rw (bytes_are, step, read, is.is_body) refl

-- items one after another
items_again : (one : List ℕ → Read Data) (depth : ℕ) →
    ((x : Data) (bytes rest : List ℕ) → Spells x depth bytes → one (bytes ++ rest) ≡ Ok (x, rest)) →
    (ds : DataList) (bytes rest : List ℕ) → SpellAll ds depth bytes → items_at one (count_of ds) (bytes ++ rest) ≡ Ok (ds, rest)
items_again one depth each no_items bytes rest spells = rw spells refl
items_again one depth each (item x ds) bytes rest (front, behind, spells, more, same) =
    let here : one (front ++ (behind ++ rest)) ≡ Ok (x, behind ++ rest) = each x front (behind ++ rest) spells in
    let then = items_again one depth each ds behind rest more in
    rw (same, append_assoc, here, then) refl

-- a list
list_again : (x : Data) (l depth total : ℕ) (bytes rest : List ℕ) → IsListSpelling x depth bytes →
    ((y : Data) (front behind : List ℕ) → Spells y (suc depth) front → item_at l total (front ++ behind) ≡ Ok (y, behind)) →
    item_at (suc l) total (bytes ++ rest) ≡ Ok (x, rest)
list_again x l depth total bytes rest (ds, x_is, deep, head, body, is_head, spell, same) each =
    let (k, some, small, fits, head_same) = is_head in
    let n = count_of ds in
    let lens = bytes_high_first k n in
    let reads = head_reads format.List n k (body ++ rest) total some small fits in
    let whole : List ℕ = ((4 * code format.List + k) ∷ lens) ++ (body ++ rest) in
    let bytes_are : bytes ++ rest ≡ whole = rw (same, append_assoc, head_same) refl in
    let step = list_item l total k whole (lens ++ (body ++ rest)) reads.0 in
    let items = items_again (item_at l total) (suc depth) each ds body rest spell in
    let read = whole_list (item_at l total) total k n (lens ++ (body ++ rest)) (body ++ rest) rest ds reads.1 items in
    rw (bytes_are, step, read, x_is) refl

-- what is spelled is read, whatever stands behind it
pub again : (levels : ℕ) (x : Data) (depth : ℕ) (bytes rest : List ℕ) (total : ℕ) → levels + depth ≡ 16 → Spells x depth bytes →
    item_at levels total (bytes ++ rest) ≡ Ok (x, rest)
again zero x depth bytes rest total deep spells = elim (spelled x depth bytes spells) [
  | inl of_list ↦ absurd (omega (arith, of_list.2))
  | inr of_leaf ↦ leaf_again x bytes rest 0 total of_leaf
]
again (suc l) x depth bytes rest total deep spells = elim (spelled x depth bytes spells) [
  | inl of_list ↦ list_again x l depth total bytes rest of_list (λ y front behind inner. again l y (suc depth) front behind total (omega arith) inner)
  | inr of_leaf ↦ leaf_again x bytes rest (suc l) total of_leaf
]

-- a body that was read
whole_ok : (total n : ℕ) (f : Format) (bytes rest : List ℕ) (x : Data) (o : Option ℕ) → whole_body total f n bytes o ≡ Ok (x, rest) →
    (o ≡ None) × (n ≤ length bytes) × (leaf f (take n bytes) ≡ x) × (drop n bytes ≡ rest)
whole_ok total n f bytes rest x (Some i) read = absurd (cc)
whole_ok total n f bytes rest x None read =
    elim (chosen (ltb (length bytes) n) (Err (fault.Truncated total)) (Ok (leaf f (take n bytes), drop n bytes)) (Ok (x, rest)) read) [
      | inl short ↦ absurd (let e = short.1 in cc)
      | inr long ↦
          let parts : (leaf f (take n bytes), drop n bytes) ≡ (x, rest) = ok_is long.1 in
          (refl, ltb-false (length bytes) n long.0, ap (λ (p : Data × List ℕ). p.0) parts, ap (λ (p : Data × List ℕ). p.1) parts)
    ]

pub record IsRead (f : Format) (n : ℕ) (bytes rest : List ℕ) (x : Data) : Type 0 where
  pub body : List ℕ
  pub split : bytes ≡ body ++ rest
  pub long : length body ≡ n
  pub text : no_character f body ≡ None
  pub is_body : leaf f body ≡ x

body_ok : (total n : ℕ) (f : Format) (bytes rest : List ℕ) (x : Data) → body_at total f n bytes ≡ Ok (x, rest) → IsRead f n bytes rest x
unfolding body_at
body_ok total n f bytes rest x read =
    let (text, within, is_body, behind) = whole_ok total n f bytes rest x (no_character f (take n bytes)) read in
    record {
      body = take n bytes;
      split = sym (take-append-drop n bytes) ∙ ap (λ (r : List ℕ). take n bytes ++ r) behind;
      long = omega (arith, length-take n bytes);
      text = text;
      is_body = is_body;
    }

leaf_found : (total place k depth : ℕ) (f : Format) (bytes rest : List ℕ) (x : Data) → 1 ≤ k → k ≤ 3 → is_list f ≡ false → AreBelow 256 bytes →
    leaf_at total place f k bytes ≡ Ok (x, rest) →
    (front : List ℕ) × (bytes ≡ front ++ rest) × Spells x depth ((4 * code f + k) ∷ front)
unfolding leaf_at
leaf_found total place k depth f bytes rest x some small other below read =
    let (n, length_read, more) = bind_ok (length_at total k bytes) _ (x, rest) read in
    let (lens, size, split, number) = length_at-ok total k n.0 bytes n.1 length_read in
    elim (chosen (eqb (n.0 % width f) 0) (body_at total f n.0 n.1) (Err (fault.BadWidth place)) (Ok (x, rest)) more) [
      | inr bad ↦ absurd (let e = bad.1 in cc)
      | inl good ↦
          let is = body_ok total n.0 f n.1 rest x good.1 in
          let parts : AreBelow 256 (lens ++ n.1) = rw (← split) below in
          let low_lens = below_left 256 lens n.1 parts in
          let low_body : AreBelow 256 (is.body ++ rest) = rw (← is.split) (below_right 256 lens n.1 parts) in
          let head = head_is f n.0 k lens some small size low_lens number in
          let whole : length is.body % width f ≡ 0 = rw is.long (eqb-true _ _ good.0) in
          let spells = spells_leaf f ((4 * code f + k) ∷ lens) is.body depth other (rw is.long head) whole is.text (below_left 256 is.body rest low_body) in (
            lens ++ is.body,
            split ∙ ap (λ (r : List ℕ). lens ++ r) is.split ∙ sym (append_assoc lens is.body rest),
            subst (λ (y : Data). Spells y depth ((4 * code f + k) ∷ (lens ++ is.body))) is.is_body spells,
          )
    ]

-- items that were read one after another
items_found : (one : List ℕ → Read Data) (depth : ℕ) →
    ((y : Data) (bytes rest : List ℕ) → AreBelow 256 bytes → one bytes ≡ Ok (y, rest) → (front : List ℕ) × (bytes ≡ front ++ rest) × Spells y depth front) →
    (n : ℕ) (bytes rest : List ℕ) (ds : DataList) → AreBelow 256 bytes → items_at one n bytes ≡ Ok (ds, rest) →
    (front : List ℕ) × (bytes ≡ front ++ rest) × SpellAll ds depth front × (count_of ds ≡ n)
items_found one depth each zero bytes rest ds below read =
    let parts : (no_items, bytes) ≡ (ds, rest) = ok_is read in
    let none : no_items ≡ ds = ap (λ (p : DataList × List ℕ). p.0) parts in
    ([], ap (λ (p : DataList × List ℕ). p.1) parts, subst (λ (es : DataList). SpellAll es depth []) none refl, ap count_of (sym none))
items_found one depth each (suc n) bytes rest ds below read =
    let (y, one_read, more) = bind_ok (one bytes) _ (ds, rest) read in
    let (ys, rest_read, all) = bind_ok (items_at one n y.1) _ (ds, rest) more in
    let parts : (item y.0 ys.0, ys.1) ≡ (ds, rest) = ok_is all in
    let here = each y.0 bytes y.1 below one_read in
    let split : AreBelow 256 (here.0 ++ y.1) = rw (← here.1) below in
    let then = items_found one depth each n y.1 ys.1 ys.0 (below_right 256 here.0 y.1 split) rest_read in
    let spells : SpellAll (item y.0 ys.0) depth (here.0 ++ then.0) = (here.0, then.0, here.2, then.2, refl) in
    let items : item y.0 ys.0 ≡ ds = ap (λ (p : DataList × List ℕ). p.0) parts in
    let behind : ys.1 ≡ rest = ap (λ (p : DataList × List ℕ). p.1) parts in (
      here.0 ++ then.0,
      here.1 ∙ ap (λ (r : List ℕ). here.0 ++ r) (then.1 ∙ ap (λ (r : List ℕ). then.0 ++ r) behind) ∙ sym (append_assoc here.0 then.0 rest),
      subst (λ (es : DataList). SpellAll es depth (here.0 ++ then.0)) items spells,
      ap count_of (sym items) ∙ ap suc then.3,
    )

-- a list that was read
list_found : (one : List ℕ → Read Data) (total k depth : ℕ) (bytes rest : List ℕ) (x : Data) → depth < 16 → 1 ≤ k → k ≤ 3 → AreBelow 256 bytes →
    ((y : Data) (bytes rest : List ℕ) → AreBelow 256 bytes → one bytes ≡ Ok (y, rest) → (front : List ℕ) × (bytes ≡ front ++ rest) × Spells y (suc depth) front) →
    list_at one total k bytes ≡ Ok (x, rest) → (front : List ℕ) × (bytes ≡ front ++ rest) × Spells x depth ((4 * code format.List + k) ∷ front)
unfolding list_at
list_found one total k depth bytes rest x deep some small below each read =
    let (n, length_read, more) = bind_ok (length_at total k bytes) _ (x, rest) read in
    let (ds, items_read, all) = bind_ok (items_at one n.0 n.1) _ (x, rest) more in
    let (lens, size, split, number) = length_at-ok total k n.0 bytes n.1 length_read in
    let parts : (list ds.0, ds.1) ≡ (x, rest) = ok_is all in
    let x_is : list ds.0 ≡ x = ap (λ (p : Data × List ℕ). p.0) parts in
    let behind : ds.1 ≡ rest = ap (λ (p : Data × List ℕ). p.1) parts in
    let low : AreBelow 256 (lens ++ n.1) = rw (← split) below in
    let found = items_found one (suc depth) each n.0 n.1 ds.1 ds.0 (below_right 256 lens n.1 low) items_read in
    let head : IsHead format.List (count_of ds.0) ((4 * code format.List + k) ∷ lens) =
    rw found.3 (head_is format.List n.0 k lens some small size (below_left 256 lens n.1 low) number) in
    let spells : Spells (list ds.0) depth ((4 * code format.List + k) ∷ (lens ++ found.0)) =
    (deep, (4 * code format.List + k) ∷ lens, found.0, head, found.2, refl) in (
      lens ++ found.0,
      split ∙ ap (λ (r : List ℕ). lens ++ r) (found.1 ∙ ap (λ (r : List ℕ). found.0 ++ r) behind) ∙ sym (append_assoc lens found.0 rest),
      subst (λ (y : Data). Spells y depth ((4 * code format.List + k) ∷ (lens ++ found.0))) x_is spells,
    )

pub the_list : (f : Format) → is_list f ≡ true → f ≡ format.List
the_list format.List is = refl
the_list f is = absurd (cc)

-- what is read is spelled
pub found : (levels : ℕ) (x : Data) (depth : ℕ) (bytes rest : List ℕ) (total : ℕ) → levels + depth ≡ 16 → AreBelow 256 bytes →
    item_at levels total bytes ≡ Ok (x, rest) → (front : List ℕ) × (bytes ≡ front ++ rest) × Spells x depth front
unfolding item_at
found zero x depth bytes rest total deep below read =
    let (h, format_read, more) = bind_ok (format_at total bytes) _ (x, rest) read in
    let (some, small, bytes_are) = format_at-ok total h.1 h.0 bytes h.2 format_read in
    let low : AreBelow 256 ((4 * code h.0 + h.1) ∷ h.2) = subst (AreBelow 256) bytes_are below in
    elim (chosen (is_list h.0) (Err (fault.TooDeep (total - length bytes))) (leaf_at total (total - length bytes) h.0 h.1 h.2) (Ok (x, rest)) more) [
      | inl of_list ↦ absurd (let e = of_list.1 in cc)
      | inr of_leaf ↦
          let inner = leaf_found total (total - length bytes) h.1 depth h.0 h.2 rest x some small of_leaf.0 low.1 of_leaf.1 in
          ((4 * code h.0 + h.1) ∷ inner.0, bytes_are ∙ ap (λ (r : List ℕ). (4 * code h.0 + h.1) ∷ r) inner.1, inner.2)
    ]
found (suc l) x depth bytes rest total deep below read =
    let (h, format_read, more) = bind_ok (format_at total bytes) _ (x, rest) read in
    let (some, small, bytes_are) = format_at-ok total h.1 h.0 bytes h.2 format_read in
    let low : AreBelow 256 ((4 * code h.0 + h.1) ∷ h.2) = subst (AreBelow 256) bytes_are below in
    elim (chosen (is_list h.0) (list_at (item_at l total) total h.1 h.2) (leaf_at total (total - length bytes) h.0 h.1 h.2) (Ok (x, rest)) more) [
      | inl of_list ↦
          let inner = list_found (item_at l total) total h.1 depth h.2 rest x (omega arith) some small low.1
          (λ y front behind low read. found l y (suc depth) front behind total (omega arith) low read) of_list.1 in
          let byte : 4 * code h.0 + h.1 ≡ 4 * code format.List + h.1 = ap (λ (f : Format). 4 * code f + h.1) (the_list h.0 of_list.0) in
          ((4 * code format.List + h.1) ∷ inner.0, bytes_are ∙ ap (λ (b : ℕ). b ∷ h.2) byte ∙ ap (λ (r : List ℕ). (4 * code format.List + h.1) ∷ r) inner.1, inner.2)
      | inr of_leaf ↦
          let inner = leaf_found total (total - length bytes) h.1 depth h.0 h.2 rest x some small of_leaf.0 low.1 of_leaf.1 in
          ((4 * code h.0 + h.1) ∷ inner.0, bytes_are ∙ ap (λ (r : List ℕ). (4 * code h.0 + h.1) ∷ r) inner.1, inner.2)
    ]
