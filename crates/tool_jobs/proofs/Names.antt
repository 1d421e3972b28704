-- Names of process jobs that are left in a control job.
use Rattle.std.proofs.Common.{◌≡◌, ℕ, Bool, true, false, true≢false, cond, not, ◌||◌, List, [], ◌∷◌, bytes_eq, refl, sym, subst}
use Rattle.std.specs.List.{list_any, list_all}
use Rattle.control_job.specs.Names.{is_in, others}
use Rattle.records.proofs.Truth.{or_false, and_true}
use Rattle.records.proofs.Texts.{same_name}

-- what is true of each name, and of each but one that goes then, is true of those that stay
pub names_left : (gone : List ℕ) (was is : List ℕ → Bool) (ns : List (List ℕ)) → ((n : List ℕ) → bytes_eq n gone ≡ false → was n ≡ true → is n ≡ true) → list_all was ns ≡ true → list_all is (others gone ns) ≡ true
names_left gone was is [] h e = refl
names_left gone was is (n ∷ ns) h e =
    let parts = and_true (was n) (list_all was ns) e in
    by_test (bytes_eq n gone) refl parts.0 (names_left gone was is ns h parts.1)
  where
    by_test : (b : Bool) → bytes_eq n gone ≡ b → was n ≡ true → list_all is (others gone ns) ≡ true → list_all is (cond (not b) (n ∷ others gone ns) (others gone ns)) ≡ true
    by_test true t f later = later
    by_test false t f later = rw (h n t f, later) refl

-- and of all, where the one isn't among them
pub names_other : (gone : List ℕ) (was is : List ℕ → Bool) (ns : List (List ℕ)) → ((n : List ℕ) → bytes_eq n gone ≡ false → was n ≡ true → is n ≡ true) → is_in gone ns ≡ false → list_all was ns ≡ true → list_all is ns ≡ true
names_other gone was is [] h none e = refl
names_other gone was is (n ∷ ns) h none e =
    let parts = and_true (was n) (list_all was ns) e in
    let other = or_false (bytes_eq n gone) (is_in gone ns) none in
    rw (h n other.0 parts.0, names_other gone was is ns h other.1 parts.1) refl

-- one that stays was there
pub in_others : (gone name : List ℕ) (ns : List (List ℕ)) → is_in name (others gone ns) ≡ true → is_in name ns ≡ true
in_others gone name [] e = e
in_others gone name (n ∷ ns) e = by_test (bytes_eq n gone) (bytes_eq n name) refl e (in_others gone name ns) where
  by_test : (a b : Bool) → bytes_eq n name ≡ b → is_in name (cond (not a) (n ∷ others gone ns) (others gone ns)) ≡ true → (is_in name (others gone ns) ≡ true → is_in name ns ≡ true) → (b || is_in name ns) ≡ true
  by_test a true t f later = refl
  by_test true false t f later = later f
  by_test false false t f later = later (rest (bytes_eq n name) t f) where
    rest : (c : Bool) → c ≡ false → (c || is_in name (others gone ns)) ≡ true → is_in name (others gone ns) ≡ true
    rest true u g = absurd (true≢false u)
    rest false u g = g

-- what is true of none of the names isn't of one of them
pub none_of : (test : List ℕ → Bool) (name : List ℕ) (ns : List (List ℕ)) → list_any test ns ≡ false → is_in name ns ≡ true → test name ≡ false
none_of test name [] h e = absurd (true≢false (sym e))
none_of test name (n ∷ ns) h e =
    let parts = or_false (test n) (list_any test ns) h in
    by_test (bytes_eq n name) refl e parts.0 (none_of test name ns parts.1)
  where
    by_test : (b : Bool) → bytes_eq n name ≡ b → (b || is_in name ns) ≡ true → test n ≡ false → (is_in name ns ≡ true → test name ≡ false) → test name ≡ false
    by_test true t f here later = subst (λ (m : List ℕ). test m ≡ false) (same_name n name t) here
    by_test false t f here later = later f

-- where none fails a test, all pass it
pub all_pass : (test : List ℕ → Bool) (ns : List (List ℕ)) → list_any (λ n. not (test n)) ns ≡ false → list_all test ns ≡ true
all_pass test [] e = refl
all_pass test (n ∷ ns) e =
    let parts = or_false (not (test n)) (list_any (λ m. not (test m)) ns) e in
    rw (passes (test n) parts.0, all_pass test ns parts.1) refl
  where
    passes : (b : Bool) → not b ≡ false → b ≡ true
    passes true t = refl
    passes false t = absurd (true≢false t)

-- names that pass a test pass a wider one
pub names_wider : (was is : List ℕ → Bool) (ns : List (List ℕ)) → ((n : List ℕ) → was n ≡ true → is n ≡ true) → list_all was ns ≡ true → list_all is ns ≡ true
names_wider was is [] h e = refl
names_wider was is (n ∷ ns) h e =
    let parts = and_true (was n) (list_all was ns) e in
    rw (h n parts.0, names_wider was is ns h parts.1) refl
