-- A move that is ready is found.
use Rattle.std.proofs.Common.{◌≡◌, ℕ, zero, suc, ◌+◌, ◌-◌, ◌<◌, ◌≤◌, Bool, true, false, true≢false, List, [], ◌∷◌, length, Option, Some, None, refl, sym, ◌∙◌, ap, arith, slice_get}
use Rattle.std.specs.Option.{option_or}
use Rattle.robot_moves.specs.Modules.{module_at, is_idle}
use Rattle.robot_moves.specs.Moves.{first_of, module_move, next_move}
use Rattle.robot_moves.specs.declared.module.Module.{Module}
use Rattle.robot_moves.specs.declared.view.PlaceView.{PlaceView}
use Rattle.robot_moves.specs.declared.view.Move.{Move}
use Rattle.robot_moves.proofs.Giving.{move_is}

-- where neither of two is there, the first isn't, and the second isn't
neither : {A : Type 0} (x y : Option A) → option_or x y ≡ None → (x ≡ None) × (y ≡ None)
neither None y e = (refl, e)
neither (Some x) y e = absurd (cc)

-- where none of several numbers gives something, each of them gives nothing
none_gives : {A : Type 0} (gives : ℕ → Option A) (first count index : ℕ) → first_of gives first count ≡ None → index < count → gives (index + first) ≡ None
none_gives gives first zero index e l = absurd (omega (arith, l))
none_gives gives first (suc count) zero e l =
    let same : 0 + first ≡ first = omega arith in
    ap gives same ∙ (neither (gives first) (first_of gives (first + 1) count) e).0
none_gives gives first (suc count) (suc index) e l =
    let behind = none_gives gives (first + 1) count index (neither (gives first) (first_of gives (first + 1) count) e).1 (omega (arith, l)) in
    let same : index + (first + 1) ≡ suc index + first = omega arith in
    ap gives (sym same) ∙ behind

-- what is read of a list is within it
read_within : {A : Type 0} (xs : List A) (n : ℕ) (x : A) → slice_get xs n ≡ Some x → n < length xs
read_within [] n x e = absurd (cc)
read_within (y ∷ ys) zero x e = omega arith
read_within (y ∷ ys) (suc n) x e = omega (arith, read_within ys n x e)

-- a module that is Idle has a number up to how many there are
idle_within : (number : ℕ) (modules : List Module) (o : Option Module) → module_at number modules ≡ o → is_idle o ≡ true → (n : ℕ) × (number ≡ suc n) × (n < length modules)
idle_within number modules None e i = absurd (true≢false (sym i))
idle_within zero modules (Some m) e i = absurd (cc)
idle_within (suc n) modules (Some m) e i = (n, refl, read_within modules n m e)

-- where no next move is there, no module has one
pub none_ready : (views : List PlaceView) (modules : List Module) (number : ℕ) → next_move views modules ≡ None → module_move number views modules ≡ None
none_ready views modules number e = of (module_move number views modules) refl where
  of : (o : Option Move) → module_move number views modules ≡ o → module_move number views modules ≡ None
  of None here = here
  of (Some m) here =
      let found = idle_within number modules (module_at number modules) refl (move_is number views modules m here).idle in
      let none = none_gives (λ k. module_move k views modules) 1 (length modules) found.0 e found.2 in
      let same : found.0 + 1 ≡ number = omega (arith, found.1) in
      ap (λ k. module_move k views modules) (sym same) ∙ none
