-- The first of several numbers that gives something.
use Rattle.std.proofs.Common.{◌≡◌, ℕ, zero, suc, ◌+◌, ◌-◌, ◌<◌, true, false, true≢false, Option, Some, None, is_some, refl, sym, arith}
use Rattle.robot_moves.specs.Moves.{first_of}

module _ {A : Type 0} (gives : ℕ → Option A) where
  -- the next number's turn, where this one gives nothing
  pub first_next : (index total : ℕ) → index < total → gives (index + 1) ≡ None → first_of gives (index + 1) (total - index) ≡ first_of gives (index + 1 + 1) (total - (index + 1))
  first_next index total l none =
      let count : total - index ≡ suc (total - (index + 1)) = omega arith in
      rw (count, none) refl

  -- this number is the first, where it gives something
  pub first_here : (index total : ℕ) → index < total → is_some (gives (index + 1)) ≡ true → first_of gives (index + 1) (total - index) ≡ gives (index + 1)
  first_here index total l some =
      let count : total - index ≡ suc (total - (index + 1)) = omega arith in
      rw count (by_option (gives (index + 1)) refl some)
    where
      by_option : (o : Option A) → gives (index + 1) ≡ o → is_some o ≡ true → first_of gives (index + 1) (suc (total - (index + 1))) ≡ gives (index + 1)
      by_option None e s = absurd (true≢false (sym s))
      by_option (Some x) e s = rw e refl

  -- none is left
  pub first_none : (index total : ℕ) → total ≡ index → first_of gives (index + 1) (total - index) ≡ None
  first_none index total e =
      let count : total - index ≡ zero = omega arith in
      rw count refl

-- what isn't something is nothing
pub is_nothing : {A : Type 0} (o : Option A) → is_some o ≡ false → o ≡ None
is_nothing None h = refl
is_nothing (Some x) h = absurd (true≢false h)
