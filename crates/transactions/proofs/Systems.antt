-- Laws of system bytes in a list of open transactions.
use Rattle.std.proofs.Common.{◌≡◌, ℕ, zero, suc, ◌<◌, ◌+◌, ◌==◌, true, false, List, [], ◌∷◌, ◌++◌, length, Option, Some, None, slice_get, refl, sym, ◌∙◌, ap, arith, subst, find, IsSome, is_some, remove}
use Rattle.std.proofs.lemmas.Bool.Decides.{nat_tests}
use Rattle.transactions.specs.declared.transaction.Open.{Open}
use Rattle.transactions.specs.Table.{Table, has_system, without, taken_out, AreDifferent}
use Rattle.transactions.specs.Endings.{latest}
use Rattle.transactions.proofs.Finding.{some-at, any-find, found-passes}

-- each transaction that is there has its system bytes there
pub has-at : (opened : List Open) (i : ℕ) (one : Open) → slice_get opened i ≡ Some one → has_system opened one.system ≡ true
has-at [] i one e = absurd (cc)
has-at (first ∷ others) zero one e = let same : first ≡ one = cc in rw same (grind (arith, nat_tests))
has-at (first ∷ others) (suc i) one e = rw (has-at others i one e) (grind (arith, nat_tests))

-- nothing is taken out where nothing has these system bytes
pub without-none : (opened : List Open) (system : ℕ) → has_system opened system ≡ false → without system opened ≡ opened
without-none [] system e = refl
without-none (first ∷ others) system e =
    let other : (first.system == system) ≡ false = grind (arith, nat_tests) in
    let rest : has_system others system ≡ false = grind (arith, nat_tests) in
    rw (other, without-none others system rest)

-- other system bytes are not there where the tail has them and the head doesn't
same_not : (first : Open) (others : List Open) (i : ℕ) (one : Open) → has_system others first.system ≡ false → slice_get others i ≡ Some one → (first.system == one.system) ≡ false
same_not first others i one absent e = let there = has-at others i one e in grind (arith, nat_tests)

-- to take out by the system bytes is to take out at the place
pub without-remove : (opened : List Open) (i : ℕ) (one : Open) → AreDifferent opened → slice_get opened i ≡ Some one → without one.system opened ≡ remove opened i
without-remove [] i one d e = absurd (cc)
without-remove (first ∷ others) zero one d e =
    let same : first ≡ one = cc in
    let self_is : (first.system == first.system) ≡ true = grind (arith, nat_tests) in
    let goes : without first.system (first ∷ others) ≡ others = rw self_is (without-none others first.system d.0) in
    subst (λ (x : Open). without x.system (first ∷ others) ≡ others) same goes
without-remove (first ∷ others) (suc i) one d e =
    let other = same_not first others i one d.0 e in
    rw (other, without-remove others i one d.1 e)

-- nothing is taken out where none was found
pub taken-none : (table : Table) (found : Option Open) (one : Open) → found ≡ Some one → find (λ (o : Open). o.system == one.system) table.opened ≡ None → table ≡ taken_out found table
taken-none table found one q e =
    let absent : has_system table.opened one.system ≡ false = any-find (λ (o : Open). o.system == one.system) table.opened ∙ ap is_some e in
    let same : without one.system table.opened ≡ table.opened = without-none table.opened one.system absent in
    rw q (ap (λ (os : List Open). record table { opened = os }) (sym same))

-- what was found at a place is taken out there
pub taken-at : (opened : List Open) (place system : ℕ) → AreDifferent opened → place < length opened → find (λ (o : Open). o.system == system) opened ≡ slice_get opened place → without system opened ≡ remove opened place
taken-at opened place system d l e = by_one (slice_get opened place) refl (some-at opened place l) where
  by_one : (o : Option Open) → slice_get opened place ≡ o → IsSome o → without system opened ≡ remove opened place
  by_one None q s = absurd (cc)
  by_one (Some one) q s =
      let passes : (one.system == system) ≡ true = found-passes (λ (o : Open). o.system == system) opened one (e ∙ q) in
      let same : one.system ≡ system = grind (arith, nat_tests) in
      subst (λ (n : ℕ). without n opened ≡ remove opened place) same (without-remove opened place one d q)

-- what isn't there isn't there after one was taken out
pub has-remove : (opened : List Open) (i system : ℕ) → has_system opened system ≡ false → has_system (remove opened i) system ≡ false
has-remove [] zero system e = refl
has-remove [] (suc i) system e = refl
has-remove (first ∷ others) zero system e = grind (arith, nat_tests)
has-remove (first ∷ others) (suc i) system e =
    let rest : has_system others system ≡ false = grind (arith, nat_tests) in
    let here : (first.system == system) ≡ false = grind (arith, nat_tests) in
    rw (here, has-remove others i system rest)

-- they stay different where one is taken out
pub different-remove : (opened : List Open) (i : ℕ) → AreDifferent opened → AreDifferent (remove opened i)
different-remove [] zero d = tt
different-remove [] (suc i) d = tt
different-remove (first ∷ others) zero d = d.1
different-remove (first ∷ others) (suc i) d = (has-remove others i first.system d.0, different-remove others i d.1)

has-push : (opened : List Open) (one : Open) (system : ℕ) → has_system opened system ≡ false → (one.system == system) ≡ false → has_system (opened ++ one ∷ []) system ≡ false
has-push [] one system e f = rw f refl
has-push (first ∷ others) one system e f =
    let rest : has_system others system ≡ false = grind (arith, nat_tests) in
    let here : (first.system == system) ≡ false = grind (arith, nat_tests) in
    rw (here, has-push others one system rest f)

-- they stay different where one with free system bytes is added
pub different-push : (opened : List Open) (one : Open) → AreDifferent opened → has_system opened one.system ≡ false → AreDifferent (opened ++ one ∷ [])
different-push [] one d e = (refl, tt)
different-push (first ∷ others) one d e =
    let rest : has_system others one.system ≡ false = grind (arith, nat_tests) in
    let here : (one.system == first.system) ≡ false = grind (arith, nat_tests) in
    (has-push others one first.system d.0 here, different-push others one d.1 rest)

-- the last is the latest
latest_at : (opened : List Open) (place : ℕ) → place + 1 ≡ length opened → slice_get opened place ≡ latest opened
latest_at [] place e = absurd (omega arith)
latest_at (one ∷ []) zero e = refl
latest_at (one ∷ []) (suc place) e = absurd (omega arith)
latest_at (one ∷ (other ∷ others)) zero e = absurd (omega arith)
latest_at (one ∷ (other ∷ others)) (suc place) e = latest_at (other ∷ others) place (omega arith)

-- what stands last is the latest
pub latest_is : (opened : List Open) (place : ℕ) (one : Open) → slice_get opened place ≡ Some one → place + 1 ≡ length opened → Some one ≡ latest opened
latest_is opened place one e l = sym e ∙ latest_at opened place l

-- those of the same system bytes are the same
pub same-system : (opened : List Open) (i j : ℕ) (one other : Open) → AreDifferent opened → slice_get opened i ≡ Some one → slice_get opened j ≡ Some other → one.system ≡ other.system → one ≡ other
same-system [] i j one other d e f q = absurd (cc)
same-system (first ∷ others) zero zero one other d e f q = cc
same-system (first ∷ others) zero (suc j) one other d e f q =
    let same : first ≡ one = cc in
    let there : has_system others other.system ≡ true = has-at others j other f in
    let equal : first.system ≡ other.system = ap (λ (x : Open). x.system) same ∙ q in
    let here : has_system others first.system ≡ true = rw equal there in
    absurd (cc (here, d.0))
same-system (first ∷ others) (suc i) zero one other d e f q =
    let same : first ≡ other = cc in
    let there : has_system others one.system ≡ true = has-at others i one e in
    let equal : first.system ≡ one.system = ap (λ (x : Open). x.system) same ∙ sym q in
    let here : has_system others first.system ≡ true = rw equal there in
    absurd (cc (here, d.0))
same-system (first ∷ others) (suc i) (suc j) one other d e f q = same-system others i j one other d.1 e f q
