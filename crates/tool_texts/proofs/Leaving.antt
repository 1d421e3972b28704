-- Readings that leave at one place, beside one that may go on.
use Rattle.std.proofs.Common.{◌≡◌, ℕ, zero, suc, max, Result, Ok, Err, refl, ap, ◌∙◌, arith}
use Rattle.line_grammar.specs.Reading.{either_of}
use Rattle.tool_texts.proofs.Letters.{same, behind}

-- so many of them behind a reading
abbrev pub then_leave : {V : Type 0} → ℕ → ℕ → Result V ℕ → Result V ℕ
then_leave zero e r = r
then_leave (suc n) e r = either_of (then_leave n e r) (Err e)

pub leave : {V : Type 0} (n e : ℕ) → then_leave {V = V} n e (Err e) ≡ Err e
leave zero e = refl
leave {V = V} (suc n) e = ap (λ (r : Result V ℕ). either_of r (Err e)) (leave n e) ∙ ap (λ (k : ℕ). Err k) (same e)

-- a reading leaves no earlier, so that they add nothing
abbrev pub Reaches : {V : Type 0} → ℕ → Result V ℕ → Type 0
Reaches e r = either_of r (Err e) ≡ r

pub reaches_more : {V : Type 0} (e : ℕ) (r s : Result V ℕ) → Reaches e r → Reaches e (either_of r s)
reaches_more e (Ok x) s reaches = refl
reaches_more e (Err p) (Ok y) reaches = refl
reaches_more e (Err p) (Err q) reaches =
    let farther : max p e ≡ p = cc in
    let known : max (max p q) e ≡ max p q = omega arith in
    ap (λ (n : ℕ). Err n) known

pub then_nothing : {V : Type 0} (n e : ℕ) (r : Result V ℕ) → Reaches e r → then_leave n e r ≡ r
then_nothing zero e r reaches = refl
then_nothing {V = V} (suc n) e r reaches = ap (λ (s : Result V ℕ). either_of s (Err e)) (then_nothing n e r reaches) ∙ reaches

pub again : {V : Type 0} (e : ℕ) (r : Result V ℕ) → Reaches e (either_of r (Err e))
again e (Ok x) = refl
again e (Err q) = let known : max (max q e) e ≡ max q e = omega arith in ap (λ (n : ℕ). Err n) known

-- one word among others
pub alone : {V : Type 0} (before after e : ℕ) (r : Result V ℕ) → then_leave after e (either_of (then_leave before e (Err e)) r) ≡ either_of (Err e) r
alone {V = V} before after e r = ap (λ (s : Result V ℕ). then_leave after e (either_of s r)) (leave before e) ∙ then_nothing after e (either_of (Err e) r) (behind e r)

-- two of them, one after the other
pub both : {V : Type 0} (before after e : ℕ) (r s : Result V ℕ) → then_leave after e (either_of (either_of (then_leave before e (Err e)) r) s) ≡ either_of (either_of (Err e) r) s
both {V = V} before after e r s =
    ap (λ (t : Result V ℕ). then_leave after e (either_of (either_of t r) s)) (leave before e)
    ∙ then_nothing after e (either_of (either_of (Err e) r) s) (reaches_more e (either_of (Err e) r) s (behind e r))
