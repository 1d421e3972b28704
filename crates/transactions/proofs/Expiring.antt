-- Of the expired transactions there is one that is before all others.
use Rattle.std.proofs.Common.{◌≡◌, ℕ, zero, suc, ◌≤◌, ◌+◌, ◌&&◌, not, Bool, true, false, List, [], ◌∷◌, ◌++◌, length, Option, Some, None, slice_get, refl, sym, ◌∙◌, ap, subst, arith, add-one, find, take, take_all}
use Rattle.std.specs.List.{list_any}
use Rattle.std.proofs.lemmas.Bool.Decides.{nat_tests}
use Rattle.transactions.specs.declared.transaction.Open.{Open}
use Rattle.transactions.specs.Table.{AreDifferent}
use Rattle.transactions.specs.Endings.{is_expired, is_before, is_first_expired, first_expired}
use Rattle.transactions.specs.Earlier.{earlier}
use Rattle.transactions.proofs.Systems.{same-system}

-- what stands before another stands before all that the other isn't behind
before-trans : (x b y : Open) → is_before x b ≡ true → is_before y b ≡ false → is_before y x ≡ false
before-trans x b y e f = grind (arith, nat_tests)

before-itself : (x : Open) → is_before x x ≡ false
before-itself x = grind (arith, nat_tests)

before-total : (x y : Open) → is_before x y ≡ false → is_before y x ≡ false → x.system ≡ y.system
before-total x y e f = grind (arith, nat_tests)

-- a transaction that stands in a list
pub record Stands (opened : List Open) (one : Open) : Type 0 where
  pub place : ℕ
  pub is : slice_get opened place ≡ Some one

-- expired, and none that has expired is before it
pub record IsFirstOne (at : ℕ) (opened : List Open) (one : Open) : Type 0 where
  pub stands : Stands opened one
  pub expired : is_expired at one ≡ true
  pub none_before : list_any (λ (other : Open). is_expired at other && is_before other one) opened ≡ false

-- what was found so far is the first of the expired ones
abbrev pub IsFirst : ℕ → List Open → Option Open → Type 0
IsFirst at opened None = list_any (is_expired at) opened ≡ false
IsFirst at opened (Some one) = IsFirstOne at opened one

module _ (test : Open → Bool) where
  any-push : (opened : List Open) (one : Open) → list_any test opened ≡ false → test one ≡ false → list_any test (opened ++ one ∷ []) ≡ false
  any-push [] one e f = rw f refl
  any-push (first ∷ others) one e f =
      let here : test first ≡ false = grind (arith, nat_tests) in
      let rest : list_any test others ≡ false = grind (arith, nat_tests) in
      rw (here, any-push others one rest f)

  any-at : (opened : List Open) (i : ℕ) (one : Open) → list_any test opened ≡ false → slice_get opened i ≡ Some one → test one ≡ false
  any-at [] i one e f = absurd (cc)
  any-at (first ∷ others) zero one e f =
      let here : test first ≡ false = grind (arith, nat_tests) in
      let same : first ≡ one = cc in
      ap test (sym same) ∙ here
  any-at (first ∷ others) (suc i) one e f =
      let rest : list_any test others ≡ false = grind (arith, nat_tests) in
      any-at others i one rest f

-- a test that fails where another fails
any-weaken : (test weaker : Open → Bool) (opened : List Open) → ((one : Open) → test one ≡ false → weaker one ≡ false) → list_any test opened ≡ false → list_any weaker opened ≡ false
any-weaken test weaker [] f e = refl
any-weaken test weaker (first ∷ others) f e =
    let here : test first ≡ false = grind (arith, nat_tests) in
    let rest : list_any test others ≡ false = grind (arith, nat_tests) in
    rw (f first here, any-weaken test weaker others f rest)

stands-push : (opened : List Open) (i : ℕ) (one new : Open) → slice_get opened i ≡ Some one → slice_get (opened ++ new ∷ []) i ≡ Some one
stands-push [] i one new e = absurd (cc)
stands-push (first ∷ others) zero one new e = e
stands-push (first ∷ others) (suc i) one new e = stands-push others i one new e

stands-last : (opened : List Open) (new : Open) → slice_get (opened ++ new ∷ []) (length opened) ≡ Some new
stands-last [] new = refl
stands-last (first ∷ others) new = stands-last others new

-- one more that isn't expired
pub first-kept : (at : ℕ) (opened : List Open) (first : Option Open) (new : Open) → IsFirst at opened first → is_expired at new ≡ false → IsFirst at (opened ++ new ∷ []) first
first-kept at opened None new h e = any-push (is_expired at) opened new h e
first-kept at opened (Some one) new h e = record {
  stands = record { place = h.stands.place; is = stands-push opened h.stands.place one new h.stands.is };
  expired = h.expired;
  none_before = any-push (λ (other : Open). is_expired at other && is_before other one) opened new h.none_before (rw e refl);
}

and_not : (a b : Bool) → a ≡ true → (a && b) ≡ false → b ≡ false
and_not true b e f = f
and_not false b e f = absurd (cc)

both_not : (a b c : Bool) → (b ≡ false → c ≡ false) → (a && b) ≡ false → (a && c) ≡ false
both_not true b c f e = f e
both_not false b c f e = refl

not_left : (a b : Bool) → a ≡ false → (a && b) ≡ false
not_left true b e = absurd (cc)
not_left false b e = refl

not_right : (a b : Bool) → b ≡ false → (a && b) ≡ false
not_right true b e = e
not_right false b e = refl

-- one more that is expired
pub first-earlier : (at : ℕ) (opened : List Open) (first : Option Open) (new : Open) → IsFirst at opened first → is_expired at new ≡ true → IsFirst at (opened ++ new ∷ []) (Some (earlier first new))
first-earlier at opened None new h e = record {
  stands = record { place = length opened; is = stands-last opened new };
  expired = e;
  none_before = any-push (λ (other : Open). is_expired at other && is_before other new) opened new
      (any-weaken (is_expired at) (λ (other : Open). is_expired at other && is_before other new) opened (λ one f. not_left (is_expired at one) (is_before one new) f) h)
      (not_right (is_expired at new) (is_before new new) (before-itself new));
}
first-earlier at opened (Some one) new h e = by_test (is_before new one) refl where
  by_test : (b : Bool) → is_before new one ≡ b → IsFirst at (opened ++ new ∷ []) (Some (earlier (Some one) new))
  by_test true q = rw q (record {
    stands = record { place = length opened; is = stands-last opened new };
    expired = e;
    none_before = any-push (λ (other : Open). is_expired at other && is_before other new) opened new
        (any-weaken (λ (other : Open). is_expired at other && is_before other one) (λ (other : Open). is_expired at other && is_before other new) opened
        (λ other f. both_not (is_expired at other) (is_before other one) (is_before other new) (λ g. before-trans new one other q g) f) h.none_before)
        (not_right (is_expired at new) (is_before new new) (before-itself new));
  })
  by_test false q = rw q (record {
    stands = record { place = h.stands.place; is = stands-push opened h.stands.place one new h.stands.is };
    expired = h.expired;
    none_before = any-push (λ (other : Open). is_expired at other && is_before other one) opened new h.none_before (not_right (is_expired at new) (is_before new one) q);
  })

-- nothing is found where nothing passes
find-none : (test : Open → Bool) (opened : List Open) → ((i : ℕ) (one : Open) → slice_get opened i ≡ Some one → test one ≡ false) → find test opened ≡ None
find-none test [] f = refl
find-none test (first ∷ others) f = rw (f 0 first refl) (find-none test others (λ i one e. f (suc i) one e))

-- the only one that passes is found
find-only : (test : Open → Bool) (opened : List Open) (place : ℕ) (one : Open) → slice_get opened place ≡ Some one → test one ≡ true → ((i : ℕ) (other : Open) → slice_get opened i ≡ Some other → test other ≡ true → other ≡ one) → find test opened ≡ Some one
find-only test [] place one e t f = absurd (cc)
find-only test (first ∷ others) zero one e t f =
    let same : first ≡ one = cc in
    let passes : test first ≡ true = ap test same ∙ t in
    rw passes (ap (λ (x : Open). Some x) same)
find-only test (first ∷ others) (suc place) one e t f = by_test (test first) refl (find-only test others place one e t (λ i other g q. f (suc i) other g q)) where
  by_test : (b : Bool) → test first ≡ b → find test others ≡ Some one → find test (first ∷ others) ≡ Some one
  by_test true q rest = rw q (ap (λ (x : Open). Some x) (f 0 first refl q))
  by_test false q rest = rw q rest

-- a test and a denied one both pass
and_left : (a b : Bool) → (a && not b) ≡ true → a ≡ true
and_left true b e = refl
and_left false b e = e

and_right : (a b : Bool) → (a && not b) ≡ true → b ≡ false
and_right true true e = absurd (cc)
and_right true false e = refl
and_right false b e = absurd (cc)

both : (a b : Bool) → a ≡ true → b ≡ false → (a && not b) ≡ true
both a b e f = rw (e, f) refl

-- what was found over the whole list is the first of the expired ones
pub first-is : (at : ℕ) (opened : List Open) (first : Option Open) → AreDifferent opened → IsFirst at opened first → first ≡ first_expired at opened
first-is at opened None d h =
    sym (find-none (is_first_expired at opened) opened (λ i one e. not_left (is_expired at one) (not (list_any (λ other. is_expired at other && is_before other one) opened)) (any-at (is_expired at) opened i one h e)))
first-is at opened (Some one) d h =
    sym (find-only (is_first_expired at opened) opened h.stands.place one h.stands.is
    (both (is_expired at one) (list_any (λ other. is_expired at other && is_before other one) opened) h.expired h.none_before)
    (λ i other e q.
    let expired = and_left (is_expired at other) (list_any (λ third. is_expired at third && is_before third other) opened) q in
    let none_before = and_right (is_expired at other) (list_any (λ third. is_expired at third && is_before third other) opened) q in
    let before_one = and_not (is_expired at other) (is_before other one) expired (any-at (λ (third : Open). is_expired at third && is_before third one) opened i other h.none_before e) in
    let before_other = and_not (is_expired at one) (is_before one other) h.expired (any-at (λ (third : Open). is_expired at third && is_before third other) opened h.stands.place one none_before h.stands.is) in
    same-system opened i h.stands.place other one d e h.stands.is (before-total other one before_one before_other)))

-- one more of a list
pub take-at : (opened : List Open) (place : ℕ) (one : Open) → slice_get opened place ≡ Some one → take (suc place) opened ≡ take place opened ++ one ∷ []
take-at [] place one e = absurd (cc)
take-at (first ∷ others) zero one e = let same : first ≡ one = cc in ap (λ (x : Open). x ∷ []) same
take-at (first ∷ others) (suc place) one e = ap (λ (os : List Open). first ∷ os) (take-at others place one e)

-- one more was looked at
pub first-more : (at place : ℕ) (opened : List Open) (later : Option Open) (one : Open) → slice_get opened place ≡ Some one → IsFirst at (take place opened ++ one ∷ []) later → IsFirst at (take (place + 1) opened) later
first-more at place opened later one e h = rw add-one (subst (λ (os : List Open). IsFirst at os later) (sym (take-at opened place one e)) h)

-- all were looked at
pub first-all : (at place : ℕ) (opened : List Open) (first : Option Open) → AreDifferent opened → length opened ≤ place → IsFirst at (take place opened) first → first ≡ first_expired at opened
first-all at place opened first d l h = first-is at opened first d (subst (λ (os : List Open). IsFirst at os first) (take_all place opened l) h)
