-- How many control jobs pass a test, behind a change of the jobs.
use Rattle.std.proofs.Common.{◌≡◌, ℕ, suc, ◌==◌, ◌≤◌, Bool, true, false, true≢false, cond, List, [], ◌∷◌, ◌++◌, length, map, filter, find, Some, is_some, refl, sym, arith}
use Rattle.std.specs.List.{list_all}
use Rattle.std.proofs.lemmas.Bool.Decides.{nat_tests}
use Rattle.control_job.specs.Jobs.{AreRising, numbers_of}
use Rattle.control_job.specs.declared.job.ControlJob.{ControlJob}
use Rattle.records.proofs.Truth.{and_true}

-- no more pass a test behind a change, where each that passes it then passed one before
pub no_more : (was is : ControlJob → Bool) (change : ControlJob → ControlJob) (cs : List ControlJob) → ((c : ControlJob) → is (change c) ≡ true → was c ≡ true) → length (filter is (map change cs)) ≤ length (filter was cs)
no_more was is change [] h = omega arith
no_more was is change (c ∷ cs) h = by_test (is (change c)) (was c) (h c) (no_more was is change cs h) where
  by_test : (a b : Bool) → (a ≡ true → b ≡ true) → length (filter is (map change cs)) ≤ length (filter was cs) → length (cond a (change c ∷ filter is (map change cs)) (filter is (map change cs))) ≤ length (cond b (c ∷ filter was cs) (filter was cs))
  by_test true true k l = omega (arith, l)
  by_test true false k l = absurd (true≢false (sym (k refl)))
  by_test false true k l = omega (arith, l)
  by_test false false k l = l

-- no more of some than of all
pub no_more_left : (test stays : ControlJob → Bool) (cs : List ControlJob) → length (filter test (filter stays cs)) ≤ length (filter test cs)
no_more_left test stays [] = omega arith
no_more_left test stays (c ∷ cs) = by_test (stays c) (test c) refl (no_more_left test stays cs) where
  by_test : (a b : Bool) → test c ≡ b → length (filter test (filter stays cs)) ≤ length (filter test cs) → length (filter test (cond a (c ∷ filter stays cs) (filter stays cs))) ≤ length (cond b (c ∷ filter test cs) (filter test cs))
  by_test true true e l = rw e (omega (arith, l))
  by_test true false e l = rw e l
  by_test false true e l = omega (arith, l)
  by_test false false e l = l

-- one more behind the others is one more at most
pub one_more : (test : ControlJob → Bool) (c : ControlJob) (cs : List ControlJob) → length (filter test (cs ++ c ∷ [])) ≤ suc (length (filter test cs))
one_more test c [] = by_test (test c) where
  by_test : (b : Bool) → length (cond b (c ∷ []) []) ≤ 1
  by_test true = omega arith
  by_test false = omega arith
one_more test c (d ∷ ds) = by_test (test d) (one_more test c ds) where
  by_test : (b : Bool) → length (filter test (ds ++ c ∷ [])) ≤ suc (length (filter test ds)) → length (cond b (d ∷ filter test (ds ++ c ∷ [])) (filter test (ds ++ c ∷ []))) ≤ suc (length (cond b (d ∷ filter test ds) (filter test ds)))
  by_test true l = omega (arith, l)
  by_test false l = l

-- and none where it doesn't pass
pub none_more : (test : ControlJob → Bool) (c : ControlJob) (cs : List ControlJob) → test c ≡ false → length (filter test (cs ++ c ∷ [])) ≤ length (filter test cs)
none_more test c [] e = rw e (omega arith)
none_more test c (d ∷ ds) e = by_test (test d) (none_more test c ds e) where
  by_test : (b : Bool) → length (filter test (ds ++ c ∷ [])) ≤ length (filter test ds) → length (cond b (d ∷ filter test (ds ++ c ∷ [])) (filter test (ds ++ c ∷ []))) ≤ length (cond b (d ∷ filter test ds) (filter test ds))
  by_test true l = omega (arith, l)
  by_test false l = l

-- where none is found, none passes
pub none_found : (test : ControlJob → Bool) (cs : List ControlJob) → is_some (find test cs) ≡ false → length (filter test cs) ≡ 0
none_found test [] e = refl
none_found test (c ∷ cs) e = by_test (test c) e (none_found test cs) where
  by_test : (b : Bool) → is_some (cond b (Some c) (find test cs)) ≡ false → (is_some (find test cs) ≡ false → length (filter test cs) ≡ 0) → length (cond b (c ∷ filter test cs) (filter test cs)) ≡ 0
  by_test true f later = absurd (true≢false f)
  by_test false f later = later f

-- no two have one number
none_numbered : (n last given : ℕ) (cs : List ControlJob) → n ≤ last → AreRising last given (numbers_of cs) → length (filter (λ c. c.number == n) cs) ≡ 0
none_numbered n last given [] l h = refl
none_numbered n last given (c ∷ cs) l h =
    let less = h.0 in
    let other : (c.number == n) ≡ false = grind (arith, nat_tests, l, less) in
    rw other (none_numbered n c.number given cs (omega (arith, l, less)) h.1)

pub one_numbered : (n last given : ℕ) (cs : List ControlJob) → AreRising last given (numbers_of cs) → length (filter (λ c. c.number == n) cs) ≤ 1
one_numbered n last given [] h = omega arith
one_numbered n last given (c ∷ cs) h = by_test (c.number == n) refl (one_numbered n c.number given cs h.1) where
  by_test : (b : Bool) → (c.number == n) ≡ b → length (filter (λ d. d.number == n) cs) ≤ 1 → length (cond b (c ∷ filter (λ d. d.number == n) cs) (filter (λ d. d.number == n) cs)) ≤ 1
  by_test true t l =
      let at : n ≤ c.number = grind (arith, nat_tests, t) in
      let rest = none_numbered n c.number given cs at h.1 in
      omega (arith, rest)
  by_test false t l = l

-- what all pass, all pass behind a change, where each that passed one before passes it then
pub all_changed : (was is : ControlJob → Bool) (change : ControlJob → ControlJob) (cs : List ControlJob) → ((c : ControlJob) → was c ≡ true → is (change c) ≡ true) → list_all was cs ≡ true → list_all is (map change cs) ≡ true
all_changed was is change [] h e = refl
all_changed was is change (c ∷ cs) h e =
    let parts = and_true (was c) (list_all was cs) e in
    rw (h c parts.0, all_changed was is change cs h parts.1) refl

pub all_wider : (was is : ControlJob → Bool) (cs : List ControlJob) → ((c : ControlJob) → was c ≡ true → is c ≡ true) → list_all was cs ≡ true → list_all is cs ≡ true
all_wider was is [] h e = refl
all_wider was is (c ∷ cs) h e =
    let parts = and_true (was c) (list_all was cs) e in
    rw (h c parts.0, all_wider was is cs h parts.1) refl

-- what all pass, those pass that stay
pub all_left : (test stays : ControlJob → Bool) (cs : List ControlJob) → list_all test cs ≡ true → list_all test (filter stays cs) ≡ true
all_left test stays [] e = refl
all_left test stays (c ∷ cs) e =
    let parts = and_true (test c) (list_all test cs) e in
    by_test (stays c) parts.0 (all_left test stays cs parts.1)
  where
    by_test : (b : Bool) → test c ≡ true → list_all test (filter stays cs) ≡ true → list_all test (cond b (c ∷ filter stays cs) (filter stays cs)) ≡ true
    by_test true t later = rw (t, later) refl
    by_test false t later = later

-- and one more that passes
pub all_more : (test : ControlJob → Bool) (c : ControlJob) (cs : List ControlJob) → list_all test cs ≡ true → test c ≡ true → list_all test (cs ++ c ∷ []) ≡ true
all_more test c [] e t = rw t refl
all_more test c (d ∷ ds) e t =
    let parts = and_true (test d) (list_all test ds) e in
    rw (parts.0, all_more test c ds parts.1 t) refl
