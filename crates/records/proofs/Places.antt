-- The place of the first record that passes a test.
use Rattle.std.proofs.Common.{◌≡◌, ℕ, zero, suc, ◌+◌, ◌<◌, Bool, true, false, true≢false, cond, ◌||◌, List, [], ◌∷◌, length, remove, find, position, Option, Some, None, is_some, option_map, slice_get, slice_index_or, set, refl, sym, ap, ◌∙◌, subst, arith}
use Rattle.std.specs.List.{list_any, position_from}
use Rattle.std.proofs.lemmas.Iterator.Adapters.{position_from-zero}
use Rattle.gem_tables.specs.Table.{update_at}
use Rattle.records.specs.Found.{change_first, without_first}

-- what is at that place
pub record IsPlace {R : Type 0} (test : R → Bool) (rs : List R) (place : ℕ) : Type 0 where
  pub found : slice_get rs place ≡ find test rs
  pub known : list_any test rs ≡ true
  pub within : place < length rs
  pub changed : (change : R → R) → update_at place change rs ≡ change_first test change rs
  pub removed : remove rs place ≡ without_first test rs

-- what there is where none passes
pub record IsMissing {R : Type 0} (test : R → Bool) (rs : List R) : Type 0 where
  pub found : find test rs ≡ None
  pub known : list_any test rs ≡ false
  pub changed : (change : R → R) → change_first test change rs ≡ rs
  pub removed : without_first test rs ≡ rs

-- a record that is written where another stood is a change of that
pub set_is : {R : Type 0} (rs : List R) (place : ℕ) (r s : R) (change : R → R) → place < length rs → r ≡ slice_index_or rs place r → s ≡ change r → set rs place s ≡ update_at place change rs
set_is [] place r s change l e is = absurd (omega (arith, l))
set_is (t ∷ rs) zero r s change l e is = ap (λ u. u ∷ rs) (is ∙ ap change e)
set_is (t ∷ rs) (suc place) r s change l e is = ap (λ us. t ∷ us) (set_is rs place r s change (omega (arith, l)) e is)

module _ {R : Type 0} (test : R → Bool) where
  -- a place in a longer list
  from_later : (k : ℕ) (rs : List R) → position_from test (k + 1) rs ≡ option_map suc (position_from test k rs)
  from_later k [] = refl
  from_later k (r ∷ rs) = by_test (test r) (from_later (k + 1) rs) where
    by_test : (b : Bool) → position_from test (k + 1 + 1) rs ≡ option_map suc (position_from test (k + 1) rs) → cond b (Some (k + 1)) (position_from test (k + 1 + 1) rs) ≡ option_map suc (cond b (Some k) (position_from test (k + 1) rs))
    by_test true h = ap (λ (m : ℕ). Some m) (omega arith)
    by_test false h = h

  place_from : (rs : List R) (place : ℕ) → position_from test 0 rs ≡ Some place → IsPlace test rs place
  place_from [] place e = absurd (cc)
  place_from (r ∷ rs) place e = by_test (test r) refl e (λ i f. place_from rs i f) where
    further : test r ≡ false → (p : Option ℕ) → position_from test 0 rs ≡ p → option_map suc p ≡ Some place → ((i : ℕ) → position_from test 0 rs ≡ Some i → IsPlace test rs i) → IsPlace test (r ∷ rs) place
    further other None f g later = absurd (cc)
    further other (Some i) f g later =
        let at : suc i ≡ place = cc in
        let rest = later i f in
        subst (IsPlace test (r ∷ rs)) at (record {
          found = rw other rest.found;
          known = rw other rest.known;
          within = let w = rest.within in omega arith;
          changed = λ change. rw other (ap (λ (ss : List R). r ∷ ss) (rest.changed change));
          removed = rw other (ap (λ (ss : List R). r ∷ ss) rest.removed);
        })

    by_test : (b : Bool) → test r ≡ b → cond b (Some 0) (position_from test (0 + 1) rs) ≡ Some place → ((i : ℕ) → position_from test 0 rs ≡ Some i → IsPlace test rs i) → IsPlace test (r ∷ rs) place
    by_test true q f later =
        let at : 0 ≡ place = cc in
        subst (IsPlace test (r ∷ rs)) at (record {
          found = rw q refl;
          known = rw q refl;
          within = omega arith;
          changed = λ change. rw q refl;
          removed = rw q refl;
        })
    by_test false q f later = further q (position_from test 0 rs) refl (sym (from_later 0 rs) ∙ f) later

  pub place_is : (rs : List R) (place : ℕ) → position test rs ≡ Some place → IsPlace test rs place
  place_is rs place e = place_from rs place (sym (position_from-zero test rs) ∙ e)

  missing_from : (k : ℕ) (rs : List R) → position_from test k rs ≡ None → IsMissing test rs
  missing_from k [] e = record { found = refl; known = refl; changed = λ change. refl; removed = refl }
  missing_from k (r ∷ rs) e = by_test (test r) refl e (missing_from (k + 1) rs) where
    by_test : (b : Bool) → test r ≡ b → cond b (Some k) (position_from test (k + 1) rs) ≡ None → (position_from test (k + 1) rs ≡ None → IsMissing test rs) → IsMissing test (r ∷ rs)
    by_test true q f later = absurd (cc)
    by_test false q f later =
        let rest = later f in
        record {
          found = rw q rest.found;
          known = rw q rest.known;
          changed = λ change. rw q (ap (λ (ss : List R). r ∷ ss) (rest.changed change));
          removed = rw q (ap (λ (ss : List R). r ∷ ss) rest.removed);
        }

  pub missing_is : (rs : List R) → position test rs ≡ None → IsMissing test rs
  missing_is rs e = missing_from 0 rs (sym (position_from-zero test rs) ∙ e)

  -- one passes where one is found
  pub known_found : (rs : List R) → is_some (find test rs) ≡ list_any test rs
  known_found [] = refl
  known_found (r ∷ rs) = by_test (test r) (known_found rs) where
    by_test : (b : Bool) → is_some (find test rs) ≡ list_any test rs → is_some (cond b (Some r) (find test rs)) ≡ (b || list_any test rs)
    by_test true later = refl
    by_test false later = later

  pub unknown : (rs : List R) → find test rs ≡ None → list_any test rs ≡ false
  unknown rs e = sym (known_found rs) ∙ ap is_some e

  pub unknown_none : (rs : List R) → list_any test rs ≡ false → find test rs ≡ None
  unknown_none rs e = by_option (find test rs) (known_found rs ∙ e) where
    by_option : (o : Option R) → is_some o ≡ false → o ≡ None
    by_option None h = refl
    by_option (Some r) h = absurd (true≢false h)
