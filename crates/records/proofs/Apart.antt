-- Lists of records, of which each has its own name.
use Rattle.std.proofs.Common.{◌≡◌, ℕ, zero, suc, ◌≤◌, Bool, true, false, cond, not, ◌||◌, List, [], ◌∷◌, ◌++◌, length, map, remove, filter, find, position, Some, None, slice_get, refl, sym, ap, ◌∙◌, subst, arith}
use Rattle.gem_tables.specs.Table.{update_at}
use Rattle.records.specs.Names.{has_name, record_named, is_named, change_named, without_named, are_named_apart}
use Rattle.records.specs.Found.{change_first, without_first}
use Rattle.records.proofs.Truth.{or_false, and_true, not_true}
use Rattle.records.proofs.Texts.{same_name, own_name, turned}
use Rattle.records.proofs.Places.{place_is, missing_is}

-- a name is its own
abbrev pub itself : List ℕ → List ℕ
itself n = n

module _ {R X : Type 0} (told : R → X) where
  -- what is told of each, where a change leaves it
  pub mapped_same : (change : R → R) → ((r : R) → told (change r) ≡ told r) → (rs : List R) → map told (map change rs) ≡ map told rs
  mapped_same change same [] = refl
  mapped_same change same (r ∷ rs) = rw (same r, mapped_same change same rs) refl

  -- and of one more
  pub mapped_more : (rs : List R) (r : R) → map told (rs ++ r ∷ []) ≡ map told rs ++ told r ∷ []
  mapped_more [] r = refl
  mapped_more (s ∷ rs) r = ap (λ xs. told s ∷ xs) (mapped_more rs r)

module _ {R : Type 0} (name : R → List ℕ) where
  -- a record that has a name is called so
  pub has_it : (n : List ℕ) (r : R) → has_name name n r ≡ true → name r ≡ n
  has_it n r h = same_name (name r) n h

  -- the first of these isn't known among the others
  pub first_apart : (r : R) (rs : List R) → are_named_apart name (r ∷ rs) ≡ true → is_named name (name r) rs ≡ false
  first_apart r rs h = not_true _ (and_true _ _ h).0

  pub rest_apart : (r : R) (rs : List R) → are_named_apart name (r ∷ rs) ≡ true → are_named_apart name rs ≡ true
  rest_apart r rs h = (and_true (not (is_named name (name r) rs)) _ h).1

  -- the one that is found is called so
  pub found_name : (n : List ℕ) (rs : List R) (found : R) → record_named name n rs ≡ Some found → name found ≡ n
  found_name n [] found e = absurd (cc)
  found_name n (r ∷ rs) found e = by_test (has_name name n r) refl e (found_name n rs found) where
    by_test : (b : Bool) → has_name name n r ≡ b → cond b (Some r) (record_named name n rs) ≡ Some found → (record_named name n rs ≡ Some found → name found ≡ n) → name found ≡ n
    by_test true q f later =
        let same : r ≡ found = cc in
        subst (λ (d : R). name d ≡ n) same (has_it n r q)
    by_test false q f later = later f

  -- one at a place has none but a known name
  pub known_at : (n : List ℕ) (rs : List R) (place : ℕ) (k : R) → slice_get rs place ≡ Some k → is_named name n rs ≡ false → has_name name n k ≡ false
  known_at n [] place k e h = absurd (cc)
  known_at n (r ∷ rs) zero k e h =
      let same : r ≡ k = cc in
      subst (λ (x : R). has_name name n x ≡ false) same (or_false (has_name name n r) (is_named name n rs) h).0
  known_at n (r ∷ rs) (suc place) k e h = known_at n rs place k e (or_false (has_name name n r) (is_named name n rs) h).1

  -- the one at a place is found by its name
  pub named_at : (rs : List R) (place : ℕ) (k : R) → are_named_apart name rs ≡ true → slice_get rs place ≡ Some k → record_named name (name k) rs ≡ Some k
  named_at [] place k h e = absurd (cc)
  named_at (r ∷ rs) zero k h e =
      let same : r ≡ k = cc in
      subst (λ (x : R). record_named name (name x) (r ∷ rs) ≡ Some x) same (rw (own_name (name r)) refl)
  named_at (r ∷ rs) (suc place) k h e =
      let other : has_name name (name k) r ≡ false = turned (name r) (name k) ∙ known_at (name r) rs place k e (first_apart r rs h) in
      rw other (named_at rs place k (rest_apart r rs h) e)

  -- one that is found by another test has none but a known name
  pub found_other : (n : List ℕ) (test : R → Bool) (rs : List R) (k : R) → find test rs ≡ Some k → is_named name n rs ≡ false → has_name name n k ≡ false
  found_other n test [] k e h = absurd (cc)
  found_other n test (r ∷ rs) k e h = by_test (test r) e (or_false (has_name name n r) (is_named name n rs) h) (found_other n test rs k) where
    by_test : (b : Bool) → cond b (Some r) (find test rs) ≡ Some k → (has_name name n r ≡ false) × (is_named name n rs ≡ false) → (find test rs ≡ Some k → is_named name n rs ≡ false → has_name name n k ≡ false) → has_name name n k ≡ false
    by_test true f parts later = let same : r ≡ k = cc in subst (λ (d : R). has_name name n d ≡ false) same parts.0
    by_test false f parts later = later f parts.1

  -- so it is the one that is found by its name
  pub found_named : (test : R → Bool) (rs : List R) (k : R) → are_named_apart name rs ≡ true → find test rs ≡ Some k → record_named name (name k) rs ≡ Some k
  found_named test [] k h e = absurd (cc)
  found_named test (r ∷ rs) k h e = by_test (test r) e (found_named test rs k (rest_apart r rs h)) where
    by_test : (b : Bool) → cond b (Some r) (find test rs) ≡ Some k → (find test rs ≡ Some k → record_named name (name k) rs ≡ Some k) → record_named name (name k) (r ∷ rs) ≡ Some k
    by_test true f later =
        let same : r ≡ k = cc in
        subst (λ (x : R). record_named name (name x) (r ∷ rs) ≡ Some x) same (rw (own_name (name r)) refl)
    by_test false f later =
        let other : has_name name (name k) r ≡ false = turned (name r) (name k) ∙ found_other (name r) test rs k f (first_apart r rs h) in
        rw other (later f)

  -- ---- a change of those of a name

  -- a name that isn't known changes nothing
  pub change_none : (n : List ℕ) (change : R → R) (rs : List R) → is_named name n rs ≡ false → change_named name n change rs ≡ rs
  change_none n change [] h = refl
  change_none n change (r ∷ rs) h =
      let parts = or_false (has_name name n r) (is_named name n rs) h in
      rw (parts.0, change_none n change rs parts.1) refl

  -- the tail of a list whose first has the name doesn't change
  pub tail_stays : (n : List ℕ) (change : R → R) (r : R) (rs : List R) → are_named_apart name (r ∷ rs) ≡ true → has_name name n r ≡ true → change_named name n change rs ≡ rs
  tail_stays n change r rs apart q =
      change_none n change rs (subst (λ (m : List ℕ). is_named name m rs ≡ false) (has_it n r q) (first_apart r rs apart))

  -- where each name is that of one, the first of a name is all of them
  pub change_one : (n : List ℕ) (change : R → R) (rs : List R) → are_named_apart name rs ≡ true → change_first (has_name name n) change rs ≡ change_named name n change rs
  change_one n change [] apart = refl
  change_one n change (r ∷ rs) apart = by_test (has_name name n r) refl (change_one n change rs (rest_apart r rs apart)) where
    by_test : (b : Bool) → has_name name n r ≡ b → change_first (has_name name n) change rs ≡ change_named name n change rs → cond b (change r ∷ rs) (r ∷ change_first (has_name name n) change rs) ≡ cond b (change r) r ∷ change_named name n change rs
    by_test true q later = ap (λ (ss : List R). change r ∷ ss) (sym (tail_stays n change r rs apart q))
    by_test false q later = ap (λ (ss : List R). r ∷ ss) later

  -- so a change at the place of a name is one of those of the name
  pub changed_at : (n : List ℕ) (change : R → R) (rs : List R) (place : ℕ) → are_named_apart name rs ≡ true → position (has_name name n) rs ≡ Some place → update_at place change rs ≡ change_named name n change rs
  changed_at n change rs place apart e = (place_is (has_name name n) rs place e).changed change ∙ change_one n change rs apart

  -- and a name that has no place changes nothing
  pub changed_missing : (n : List ℕ) (change : R → R) (rs : List R) → position (has_name name n) rs ≡ None → rs ≡ change_named name n change rs
  changed_missing n change rs e = sym (change_none n change rs (missing_is (has_name name n) rs e).known)

  -- ---- those without a name

  pub without_none : (n : List ℕ) (rs : List R) → is_named name n rs ≡ false → without_named name n rs ≡ rs
  without_none n [] h = refl
  without_none n (r ∷ rs) h =
      let parts = or_false (has_name name n r) (is_named name n rs) h in
      rw (parts.0, without_none n rs parts.1) refl

  -- without the one at its place they are those without the name
  pub removed_at : (n : List ℕ) (rs : List R) (place : ℕ) → are_named_apart name rs ≡ true → position (has_name name n) rs ≡ Some place → remove rs place ≡ without_named name n rs
  removed_at n rs place apart e = (place_is (has_name name n) rs place e).removed ∙ first_is rs apart where
    first_is : (ss : List R) → are_named_apart name ss ≡ true → without_first (has_name name n) ss ≡ without_named name n ss
    first_is [] h = refl
    first_is (r ∷ ss) h = by_test (has_name name n r) refl (first_is ss (rest_apart r ss h)) where
      by_test : (b : Bool) → has_name name n r ≡ b → without_first (has_name name n) ss ≡ without_named name n ss → cond b ss (r ∷ without_first (has_name name n) ss) ≡ cond (not b) (r ∷ without_named name n ss) (without_named name n ss)
      by_test true q later = sym (without_none n ss (subst (λ (m : List ℕ). is_named name m ss ≡ false) (has_it n r q) (first_apart r ss h)))
      by_test false q later = ap (λ (ts : List R). r ∷ ts) later

  -- ---- what keeps the names apart

  -- the names in their order
  abbrev pub names : List R → List (List ℕ)
  names rs = map name rs

  pub known_by_names : (n : List ℕ) (rs : List R) → is_named name n rs ≡ is_named itself n (names rs)
  known_by_names n [] = refl
  known_by_names n (r ∷ rs) = ap (λ (b : Bool). has_name name n r || b) (known_by_names n rs)

  pub apart_by_names : (rs : List R) → are_named_apart name rs ≡ are_named_apart itself (names rs)
  apart_by_names [] = refl
  apart_by_names (r ∷ rs) = rw (known_by_names (name r) rs, apart_by_names rs) refl

  -- records of the same names
  pub apart_same : (rs ss : List R) → names ss ≡ names rs → are_named_apart name rs ≡ true → are_named_apart name ss ≡ true
  apart_same rs ss e h = apart_by_names ss ∙ ap (are_named_apart itself) e ∙ sym (apart_by_names rs) ∙ h

  -- one that changes, but for its name
  names_update : (change : R → R) → ((r : R) → name (change r) ≡ name r) → (place : ℕ) (rs : List R) → names (update_at place change rs) ≡ names rs
  names_update change same place [] = refl
  names_update change same zero (r ∷ rs) = ap (λ (n : List ℕ). n ∷ names rs) (same r)
  names_update change same (suc place) (r ∷ rs) = ap (λ (ns : List (List ℕ)). name r ∷ ns) (names_update change same place rs)

  pub apart_update : (change : R → R) → ((r : R) → name (change r) ≡ name r) → (place : ℕ) (rs : List R) → are_named_apart name rs ≡ true → are_named_apart name (update_at place change rs) ≡ true
  apart_update change same place rs h = apart_same rs (update_at place change rs) (names_update change same place rs) h

  names_first : (test : R → Bool) (change : R → R) → ((r : R) → name (change r) ≡ name r) → (rs : List R) → names (change_first test change rs) ≡ names rs
  names_first test change same [] = refl
  names_first test change same (r ∷ rs) = by_test (test r) (names_first test change same rs) where
    by_test : (b : Bool) → names (change_first test change rs) ≡ names rs → names (cond b (change r ∷ rs) (r ∷ change_first test change rs)) ≡ name r ∷ names rs
    by_test true later = ap (λ (n : List ℕ). n ∷ names rs) (same r)
    by_test false later = ap (λ (ns : List (List ℕ)). name r ∷ ns) later

  pub apart_first : (test : R → Bool) (change : R → R) → ((r : R) → name (change r) ≡ name r) → (rs : List R) → are_named_apart name rs ≡ true → are_named_apart name (change_first test change rs) ≡ true
  apart_first test change same rs h = apart_same rs (change_first test change rs) (names_first test change same rs) h

  -- those that change, but for their names
  pub apart_mapped : (change : R → R) → ((r : R) → name (change r) ≡ name r) → (rs : List R) → are_named_apart name rs ≡ true → are_named_apart name (map change rs) ≡ true
  apart_mapped change same rs h = apart_same rs (map change rs) (mapped_same name change same rs) h

  pub apart_changed : (n : List ℕ) (change : R → R) → ((r : R) → name (change r) ≡ name r) → (rs : List R) → are_named_apart name rs ≡ true → are_named_apart name (change_named name n change rs) ≡ true
  apart_changed n change same rs h = apart_mapped (λ r. cond (has_name name n r) (change r) r) (λ r. by_test (has_name name n r) r) rs h where
    by_test : (b : Bool) (r : R) → name (cond b (change r) r) ≡ name r
    by_test true r = same r
    by_test false r = refl

  -- fewer records
  pub known_fewer : (test : R → Bool) (n : List ℕ) (rs : List R) → is_named name n rs ≡ false → is_named name n (filter test rs) ≡ false
  known_fewer test n [] h = refl
  known_fewer test n (r ∷ rs) h =
      let parts = or_false (has_name name n r) (is_named name n rs) h in
      by_test (test r) parts.0 (known_fewer test n rs parts.1)
    where
      by_test : (b : Bool) → has_name name n r ≡ false → is_named name n (filter test rs) ≡ false → is_named name n (cond b (r ∷ filter test rs) (filter test rs)) ≡ false
      by_test true other later = rw other later
      by_test false other later = later

  pub apart_fewer : (test : R → Bool) (rs : List R) → are_named_apart name rs ≡ true → are_named_apart name (filter test rs) ≡ true
  apart_fewer test [] h = refl
  apart_fewer test (r ∷ rs) h = by_test (test r) (apart_fewer test rs (rest_apart r rs h)) where
    by_test : (b : Bool) → are_named_apart name (filter test rs) ≡ true → are_named_apart name (cond b (r ∷ filter test rs) (filter test rs)) ≡ true
    by_test true later = rw (known_fewer test (name r) rs (first_apart r rs h), later) refl
    by_test false later = later

  -- one that is removed
  known_removed : (n : List ℕ) (rs : List R) (place : ℕ) → is_named name n rs ≡ false → is_named name n (remove rs place) ≡ false
  known_removed n [] zero h = refl
  known_removed n [] (suc place) h = refl
  known_removed n (r ∷ rs) zero h = (or_false (has_name name n r) (is_named name n rs) h).1
  known_removed n (r ∷ rs) (suc place) h =
      let parts = or_false (has_name name n r) (is_named name n rs) h in
      rw (parts.0, known_removed n rs place parts.1) refl

  pub apart_removed : (rs : List R) (place : ℕ) → are_named_apart name rs ≡ true → are_named_apart name (remove rs place) ≡ true
  apart_removed [] zero h = refl
  apart_removed [] (suc place) h = refl
  apart_removed (r ∷ rs) zero h = rest_apart r rs h
  apart_removed (r ∷ rs) (suc place) h =
      rw (known_removed (name r) rs place (first_apart r rs h), apart_removed rs place (rest_apart r rs h)) refl

  -- one more, behind the others
  known_more : (n : List ℕ) (s : R) (rs : List R) → is_named name n rs ≡ false → has_name name n s ≡ false → is_named name n (rs ++ s ∷ []) ≡ false
  known_more n s [] h e = rw e refl
  known_more n s (r ∷ rs) h e =
      let parts = or_false (has_name name n r) (is_named name n rs) h in
      rw (parts.0, known_more n s rs parts.1 e) refl

  pub apart_more : (s : R) (rs : List R) → are_named_apart name rs ≡ true → is_named name (name s) rs ≡ false → are_named_apart name (rs ++ s ∷ []) ≡ true
  apart_more s [] h e = refl
  apart_more s (r ∷ rs) h e =
      let parts = or_false (has_name name (name s) r) (is_named name (name s) rs) e in
      let other : has_name name (name r) s ≡ false = turned (name s) (name r) ∙ parts.0 in
      rw (known_more (name r) s rs (first_apart r rs h) other, apart_more s rs (rest_apart r rs h) parts.1) refl

-- ---- how many there are

module _ {R : Type 0} where
  pub length_more : (s : R) (rs : List R) → length (rs ++ s ∷ []) ≡ suc (length rs)
  length_more s [] = refl
  length_more s (r ∷ rs) = ap suc (length_more s rs)

  pub length_update : (change : R → R) (place : ℕ) (rs : List R) → length (update_at place change rs) ≡ length rs
  length_update change place [] = refl
  length_update change zero (r ∷ rs) = refl
  length_update change (suc place) (r ∷ rs) = ap suc (length_update change place rs)

  pub length_first : (test : R → Bool) (change : R → R) (rs : List R) → length (change_first test change rs) ≡ length rs
  length_first test change [] = refl
  length_first test change (r ∷ rs) = by_test (test r) (length_first test change rs) where
    by_test : (b : Bool) → length (change_first test change rs) ≡ length rs → length (cond b (change r ∷ rs) (r ∷ change_first test change rs)) ≡ suc (length rs)
    by_test true later = refl
    by_test false later = ap suc later

  pub length_mapped : (change : R → R) (rs : List R) → length (map change rs) ≡ length rs
  length_mapped change [] = refl
  length_mapped change (r ∷ rs) = ap suc (length_mapped change rs)

  pub length_removed : (rs : List R) (place : ℕ) → length (remove rs place) ≤ length rs
  length_removed [] zero = omega arith
  length_removed [] (suc place) = omega arith
  length_removed (r ∷ rs) zero = omega arith
  length_removed (r ∷ rs) (suc place) =
      let rest = length_removed rs place in
      let longer : length (remove (r ∷ rs) (suc place)) ≡ suc (length (remove rs place)) = refl in
      omega (arith, rest, longer)

  pub length_fewer : (test : R → Bool) (rs : List R) → length (filter test rs) ≤ length rs
  length_fewer test [] = omega arith
  length_fewer test (r ∷ rs) = by_test (test r) (length_fewer test rs) where
    by_test : (b : Bool) → length (filter test rs) ≤ length rs → length (cond b (r ∷ filter test rs) (filter test rs)) ≤ length (r ∷ rs)
    by_test true h = omega arith
    by_test false h = omega arith
