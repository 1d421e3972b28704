-- The entries of a map, and the records in them.
use Rattle.std.proofs.Common.{◌≡◌, ℕ, zero, suc, ◌+◌, Bool, true, false, true≢false, List, [], ◌∷◌, ◌++◌, length, remove, position, Option, Some, None, is_some, slice_get, bytes_eq, refl, sym, ap, ◌∙◌, subst, arith}
use Rattle.std.specs.List.{AllByRecursion, position_from}
use Rattle.std.specs.Option.{option_to_list}
use Rattle.std.specs.Map.{lookup, keys_of}
use Rattle.std.proofs.lemmas.Iterator.Adapters.{position_from-zero}
use Rattle.indexmap.specs.Layout.{set_value_at}
use Rattle.indexmap.specs.IndexMap.{IndexMap, insert_entry}
use Rattle.indexmap.proofs.CallerLemmas.{insert_entry-new}
use Rattle.gem_tables.specs.Table.{update_at}
use Rattle.records.specs.Names.{has_name, record_named, is_named, are_named_apart}
use Rattle.records.specs.Kept.{records_of, IsKeyed, AreKept}
use Rattle.records.specs.declared.key.Key.{Key}
use Rattle.records.proofs.Texts.{turned}
use Rattle.records.proofs.Places.{unknown_none}
use Rattle.records.proofs.Apart.{apart_update, apart_removed, apart_more}

-- the test by which a record is looked up
abbrev pub is_key : List ℕ → Key → Bool
is_key n k = bytes_eq n k.name

module _ {R : Type 0} where
  -- as many records as entries
  pub length_of : (es : List (Key × R)) → length (records_of es) ≡ length es
  length_of [] = refl
  length_of (e ∷ es) = ap suc (length_of es)

  -- an entry that is written
  set_is : (es : List (Key × R)) (place : ℕ) (r : R) (change : R → R) → slice_get (records_of es) place ≡ Some r → records_of (set_value_at es place (change r)) ≡ update_at place change (records_of es)
  set_is [] place r change h = refl
  set_is (e ∷ es) zero r change h = let same : e.1 ≡ r = cc in ap (λ (s : R). change s ∷ records_of es) (sym same)
  set_is (e ∷ es) (suc place) r change h = ap (λ (rs : List R). e.1 ∷ rs) (set_is es place r change h)

  pub changed_is : (es : List (Key × R)) (place : ℕ) (r s : R) (change : R → R) → slice_get (records_of es) place ≡ Some r → s ≡ change r → records_of (set_value_at es place s) ≡ update_at place change (records_of es)
  changed_is es place r s change h e = ap (λ (t : R). records_of (set_value_at es place t)) e ∙ set_is es place r change h

  -- one that is removed
  pub removed_is : (es : List (Key × R)) (place : ℕ) → records_of (remove es place) ≡ remove (records_of es) place
  removed_is [] zero = refl
  removed_is [] (suc place) = refl
  removed_is (e ∷ es) zero = refl
  removed_is (e ∷ es) (suc place) = ap (λ (rs : List R). e.1 ∷ rs) (removed_is es place)

  -- one more
  pub more_is : (es : List (Key × R)) (e : Key × R) → records_of (es ++ e ∷ []) ≡ records_of es ++ e.1 ∷ []
  more_is [] e = refl
  more_is (f ∷ es) e = ap (λ (rs : List R). f.1 ∷ rs) (more_is es e)

-- ---- the last of a list goes

last_removed : {O : Type 0} (front : List O) (x : O) (index : ℕ) → length front ≡ index → remove (front ++ x ∷ []) index ≡ front
last_removed [] x zero e = refl
last_removed [] x (suc index) e = absurd (omega (arith, e))
last_removed (o ∷ front) x zero e = absurd (omega (arith, e))
last_removed (o ∷ front) x (suc index) e = ap (λ os. o ∷ os) (last_removed front x index (omega (arith, e)))

length_behind : {O : Type 0} (front : List O) (x : O) → length (front ++ x ∷ []) ≡ length front + 1
length_behind [] x = refl
length_behind (o ∷ front) x = let rest = length_behind front x in omega (arith, rest)

pub popped_is : {O : Type 0} (all front : List O) (last : Option O) (index : ℕ) → all ≡ front ++ option_to_list last → is_some last ≡ true → index + 1 ≡ length all → front ≡ remove all index
popped_is all front None index e there long = absurd (true≢false (sym there))
popped_is all front (Some x) index e there long =
    let count : length front + 1 ≡ length all = sym (length_behind front x) ∙ sym (ap length e) in
    let at : length front ≡ index = omega (arith, count, long) in
    sym (last_removed front x index at) ∙ sym (ap (λ os. remove os index) e)

-- ---- the keys

module _ {R : Type 0} (name : R → List ℕ) where
  -- the test passes at the entry of a record that has the name
  key_is : (n : List ℕ) (e : Key × R) → IsKeyed name e → is_key n e.0 ≡ has_name name n e.1
  key_is n e h = turned n e.0.name ∙ ap (λ (m : List ℕ). bytes_eq m n) h

  -- the record of a name
  pub lookup_is : (n : List ℕ) (es : List (Key × R)) → AllByRecursion (IsKeyed name) es → lookup (is_key n) es ≡ record_named name n (records_of es)
  lookup_is n [] h = refl
  lookup_is n (e ∷ es) h = rw (key_is n e h.0, lookup_is n es h.1) refl

  -- its place
  position_at : (n : List ℕ) (k : ℕ) (es : List (Key × R)) → AllByRecursion (IsKeyed name) es → position_from (is_key n) k (keys_of es) ≡ position_from (has_name name n) k (records_of es)
  position_at n k [] h = refl
  position_at n k (e ∷ es) h = rw (key_is n e h.0, position_at n (k + 1) es h.1) refl

  pub position_is : (n : List ℕ) (es : List (Key × R)) → AllByRecursion (IsKeyed name) es → position (is_key n) (keys_of es) ≡ position (has_name name n) (records_of es)
  position_is n es h =
      position_from-zero (is_key n) (keys_of es) ∙ position_at n 0 es h ∙ sym (position_from-zero (has_name name n) (records_of es))

  keyed_set : (es : List (Key × R)) (place : ℕ) (r s : R) → AllByRecursion (IsKeyed name) es → slice_get (records_of es) place ≡ Some r → name s ≡ name r → AllByRecursion (IsKeyed name) (set_value_at es place s)
  keyed_set [] place r s h e n = h
  keyed_set (f ∷ es) zero r s h e n = let same : f.1 ≡ r = cc in (h.0 ∙ ap name same ∙ sym n, h.1)
  keyed_set (f ∷ es) (suc place) r s h e n = (h.0, keyed_set es place r s h.1 e n)

  keyed_removed : (es : List (Key × R)) (place : ℕ) → AllByRecursion (IsKeyed name) es → AllByRecursion (IsKeyed name) (remove es place)
  keyed_removed [] zero h = h
  keyed_removed [] (suc place) h = h
  keyed_removed (e ∷ es) zero h = h.1
  keyed_removed (e ∷ es) (suc place) h = (h.0, keyed_removed es place h.1)

  keyed_more : (es : List (Key × R)) (e : Key × R) → AllByRecursion (IsKeyed name) es → IsKeyed name e → AllByRecursion (IsKeyed name) (es ++ e ∷ [])
  keyed_more [] e h k = (k, h)
  keyed_more (f ∷ es) e h k = (h.0, keyed_more es e h.1 k)

  -- ---- what the entries are after a change

  pub kept_none : (es : List (Key × R)) → es ≡ [] → AreKept name es
  kept_none es none = subst (λ fs. AreKept name fs) (sym none) (record { keyed = tt; apart = refl })

  pub kept_changed : (es : List (Key × R)) (place : ℕ) (r s : R) (change : R → R) → AreKept name es → slice_get (records_of es) place ≡ Some r → s ≡ change r → ((t : R) → name (change t) ≡ name t) → AreKept name (set_value_at es place s)
  kept_changed es place r s change h e is same = record {
    keyed = keyed_set es place r s h.keyed e (ap name is ∙ same r);
    apart = ap (are_named_apart name) (changed_is es place r s change e is) ∙ apart_update name change same place (records_of es) h.apart;
  }

  pub kept_removed : (es : List (Key × R)) (place : ℕ) → AreKept name es → AreKept name (remove es place)
  kept_removed es place h = record {
    keyed = keyed_removed es place h.keyed;
    apart = ap (are_named_apart name) (removed_is es place) ∙ apart_removed name (records_of es) place h.apart;
  }

  -- the entry of a record
  abbrev pub entry_of : R → Key × R
  entry_of r = (record { name = name r }, r)

  pub kept_more : (es : List (Key × R)) (r : R) → AreKept name es → is_named name (name r) (records_of es) ≡ false → AreKept name (es ++ entry_of r ∷ [])
  kept_more es r h e = record {
    keyed = keyed_more es (entry_of r) h.keyed refl;
    apart = ap (are_named_apart name) (more_is es (entry_of r)) ∙ apart_more name r (records_of es) h.apart e;
  }

  -- a key that isn't there goes last
  pub inserted : {S : Type 0} (m : IndexMap Key R S) (text : List ℕ) (r : R) → AllByRecursion (IsKeyed name) m.entries → is_named name (name r) (records_of m.entries) ≡ false → text ≡ name r → insert_entry (λ (x y : Key). bytes_eq x.name y.name) m.entries (record { name = text }) r ≡ m.entries ++ entry_of r ∷ []
  inserted m text r h e t =
      let none : lookup (is_key text) m.entries ≡ None = lookup_is text m.entries h ∙ unknown_none (has_name name text) (records_of m.entries) (subst (λ (n : List ℕ). is_named name n (records_of m.entries) ≡ false) (sym t) e) in
      insert_entry-new (λ (x y : Key). bytes_eq x.name y.name) m (record { name = text }) r none
      ∙ ap (λ (n : List ℕ). m.entries ++ (record { name = n }, r) ∷ []) t
