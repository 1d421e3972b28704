-- How many open transactions there are of a kind.
use Rattle.std.proofs.Common.{◌≡◌, ℕ, suc, ◌+◌, ◌≤◌, ◌==◌, Bool, true, false, List, [], ◌∷◌, ◌++◌, length, find, Option, Some, None, refl, ◌∙◌, ap, subst, arith}
use Rattle.std.proofs.lemmas.Bool.Decides.{nat_tests}
use Rattle.transactions.specs.declared.transaction.Open.{Open}
use Rattle.transactions.specs.declared.transaction.What.{What}
use Rattle.transactions.specs.declared.transaction.What.TheVariants as what
use Rattle.transactions.specs.Table.{Table, without, taken_out}
use Rattle.transactions.specs.Endings.{same_kind}
use Rattle.transactions.proofs.Finding.{found-passes}
use Rattle.gem_model.specs.Measure.{one_if}
use Rattle.gem_model.specs.Valid.{establishes, attempts, is_note, notes, count_of}

-- one that is taken out raises no count
pub count-without : (test : Open → Bool) (opened : List Open) (system : ℕ) → count_of test (without system opened) ≤ count_of test opened
count-without test [] system = omega arith
count-without test (one ∷ others) system = by_test (one.system == system) refl (count-without test others system) where
  by_test : (b : Bool) → (one.system == system) ≡ b → count_of test (without system others) ≤ count_of test others → count_of test (without system (one ∷ others)) ≤ count_of test (one ∷ others)
  by_test true q rest = rw q (omega arith)
  by_test false q rest = rw q (omega arith)

-- the first one, taken out, lowers its count
count-head : (test : Open → Bool) (first : Open) (others : List Open) → test first ≡ true → suc (count_of test (without first.system (first ∷ others))) ≤ count_of test (first ∷ others)
count-head test first others passes =
    let self_is : (first.system == first.system) ≡ true = grind (arith, nat_tests) in
    let one : one_if (test first) ≡ 1 = ap one_if passes in
    let less = count-without test others first.system in
    rw self_is (omega arith)

-- one that was found, taken out, lowers its count
pub count-found : (test searched : Open → Bool) (opened : List Open) (one : Open) → find searched opened ≡ Some one → test one ≡ true → suc (count_of test (without one.system opened)) ≤ count_of test opened
count-found test searched [] one found passes = absurd (cc)
count-found test searched (first ∷ others) one found passes = by_test (searched first) refl (λ there. count-found test searched others one there passes) where
  by_system : (b : Bool) → (first.system == one.system) ≡ b → suc (count_of test (without one.system others)) ≤ count_of test others → suc (count_of test (without one.system (first ∷ others))) ≤ count_of test (first ∷ others)
  by_system true q rest = rw q (omega arith)
  by_system false q rest = rw q (omega arith)

  by_test : (b : Bool) → searched first ≡ b → (find searched others ≡ Some one → suc (count_of test (without one.system others)) ≤ count_of test others) → suc (count_of test (without one.system (first ∷ others))) ≤ count_of test (first ∷ others)
  by_test true q rest =
      let is : Some first ≡ Some one = rw q at found in
      let same : first ≡ one = cc in
      subst (λ (x : Open). suc (count_of test (without x.system (first ∷ others))) ≤ count_of test (first ∷ others)) same
      (count-head test first others (ap test same ∙ passes))
  by_test false q rest =
      let there : find searched others ≡ Some one = rw q at found in
      by_system (first.system == one.system) refl (rest there)

-- none passes where none is found
pub count-none : (test : Open → Bool) (opened : List Open) → find test opened ≡ None → count_of test opened ≡ 0
count-none test [] none = refl
count-none test (first ∷ others) none = by_test (test first) refl (count-none test others) where
  by_test : (b : Bool) → test first ≡ b → (find test others ≡ None → count_of test others ≡ 0) → count_of test (first ∷ others) ≡ 0
  by_test true q rest = absurd (let is : Some first ≡ None = rw q at none in cc)
  by_test false q rest =
      let there : find test others ≡ None = rw q at none in
      let counted = rest there in
      rw q (omega arith)

-- one that is started adds to its count
pub count-push : (test : Open → Bool) (opened : List Open) (one : Open) → count_of test (opened ++ one ∷ []) ≡ count_of test opened + one_if (test one)
count-push test [] one = omega arith
count-push test (first ∷ others) one = let rest = count-push test others one in omega arith

-- where at most one passes, none does after the first that passes was taken out
pub count-forgotten : (test : Open → Bool) (table : Table) (found : Option Open) → find test table.opened ≡ found → count_of test table.opened ≤ 1 → count_of test (taken_out found table).opened ≡ 0
count-forgotten test table None is few = count-none test table.opened is
count-forgotten test table (Some one) is few =
    let less = count-found test test table.opened one is (found-passes test table.opened one is) in
    omega arith

-- no count is raised where one is taken out that is there, or none
pub count-out : (test : Open → Bool) (table : Table) (found : Option Open) → count_of test (taken_out found table).opened ≤ count_of test table.opened
count-out test table None = omega arith
count-out test table (Some one) = count-without test table.opened one.system

one_kind : (w : What) → (one_if (same_kind w what.Establish) + one_if (same_kind w what.Attempt)) + one_if (is_note w) ≡ 1
one_kind what.Establish = refl
one_kind what.Attempt = refl
one_kind (what.Note n) = refl

-- each is of one kind
pub all-counted : (opened : List Open) → length opened ≡ (count_of establishes opened + count_of attempts opened) + count_of notes opened
all-counted [] = refl
all-counted (one ∷ others) = let rest = all-counted others in let kind = one_kind one.what in omega arith
