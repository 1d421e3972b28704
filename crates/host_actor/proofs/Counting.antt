-- Counts of a door, one call after another.
use Rattle.std.proofs.Common.{◌≡◌, ◌⊎◌, inl, inr, ℕ, zero, suc, ◌+◌, ◌-◌, ◌^◌, ◌<◌, ◌≤◌, min, ap, subst, sym, ◌∙◌, arith}
use Rattle.std.proofs.lemmas.Bool.{cases_lt}
use Rattle.outside.specs.Counts.{Rose, one_more}
use Rattle.host_actor.specs.Links.{raised}
use Rattle.host_actor.specs.HostSteps.{Moved, Climbed}

-- counts that stand still at a greatest number
more-than-more : (c m n top : ℕ) → min (min (c + m) top + n) top ≡ min (c + (m + n)) top
more-than-more c m n top = omega arith

add-zero-right : (n : ℕ) → n + 0 ≡ n
add-zero-right n = omega arith

add-zero-left : (n : ℕ) → 0 + n ≡ n
add-zero-left n = omega arith

add-both : (m n : ℕ) → suc m + suc n ≡ suc (m + suc n)
add-both m n = omega arith

add-same : (m n : ℕ) → suc (m + suc n) ≡ suc m + suc n
add-same m n = omega arith

-- so many more, and then so many
pub raised-more : (c m n : ℕ) → raised (raised c m) n ≡ raised c (m + n)
raised-more c zero n = ap (λ (k : ℕ). raised c k) (sym (add-zero-left n))
raised-more c (suc m) zero = ap (λ (k : ℕ). raised c k) (sym (add-zero-right (suc m)))
raised-more c (suc m) (suc n) =
    more-than-more c (suc m) (suc n) (2 ^ 64 - 1)
    ∙ (ap (λ (k : ℕ). min (c + k) (2 ^ 64 - 1)) (add-both m n) ∙ ap (λ (k : ℕ). raised c k) (add-same m n))

pub climbed-none : (a : ℕ) → Climbed a a
climbed-none a = inl (omega arith)

climbed-one : (a b c : ℕ) → a ≤ b → c ≡ one_more b → (b < c) ⊎ (c ≤ b) → Climbed a c
climbed-one a b c le more (inl rose) = inl (omega arith)
climbed-one a b c le more (inr stays) = inr (omega arith)

pub climbed-more : (a b c : ℕ) → Climbed a b → Moved b c → Climbed a c
climbed-more a b c (inl le) (inl stays) = inl (omega arith)
climbed-more a b c (inl le) (inr more) = climbed-one a b c le more (cases_lt b c)
climbed-more a b c (inr at) (inl stays) = inr (omega arith)
climbed-more a b c (inr at) (inr more) = inr (omega arith)

-- a count that rose in the last call has risen at all
pub rose-since : (a b c : ℕ) → Climbed a b → Moved b c → Rose b c → Rose a c
rose-since a b c (inl le) moved (inl rose) = inl (omega arith)
rose-since a b c climbed moved (inr at) = inr at
rose-since a b c (inr at) (inl stays) (inl rose) = inr (omega arith)
rose-since a b c (inr at) (inr more) (inl rose) = inr (omega arith)

pub rose-as : (a b c : ℕ) → b ≡ a → Rose b c → Rose a c
rose-as a b c same rose = subst (λ (n : ℕ). Rose n c) same rose

-- a count that rose isn't 0
pub rose-some : (a b : ℕ) → Rose a b → 0 < b
rose-some a b (inl rose) = omega arith
rose-some a b (inr at) = omega arith
