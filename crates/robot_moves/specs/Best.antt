-- What the best pick is, as the profile says it.
use Rattle.std.specs.Prelude.{◌≡◌, ◌⊎◌, ℕ, ◌≤◌, ◌<◌, true, false, List, Some, slice_get}
use Rattle.std.specs.List.{AllByRecursion}
use Rattle.substrate.specs.Locations.{is_work_place}
use Rattle.robot_moves.specs.Moves.{is_useful, stage_of}
use Rattle.robot_moves.specs.declared.module.Module.{Module}
use Rattle.robot_moves.specs.declared.view.PlaceView.{PlaceView}

-- the stage of one is greater, or it is the same, and the number of registration no greater
abbrev pub GoesFirst : PlaceView → PlaceView → Type 0
GoesFirst v w = (stage_of w.at < stage_of v.at) ⊎ ((stage_of w.at ≡ stage_of v.at) × (v.number ≤ w.number))

-- Its pick is useful, and it goes first of all whose pick is.
pub record IsBestPick (views : List PlaceView) (modules : List Module) (v : PlaceView) : Type 0 where
  pub there : (i : ℕ) × (slice_get views i ≡ Some v)
  pub useful : is_useful views modules v ≡ true
  pub first : AllByRecursion (λ w. is_useful views modules w ≡ true → GoesFirst v w) views

-- no pick is useful
abbrev pub NoneUseful : List PlaceView → List Module → Type 0
NoneUseful views modules = AllByRecursion (λ w. is_useful views modules w ≡ false) views

-- a substrate rests where it is in a slot, or anywhere but at work, and may not start
abbrev pub Rests : PlaceView → Type 0
Rests v = (is_work_place v.at ≡ false) × (v.may_start ≡ false)

-- each does
abbrev pub AllRest : List PlaceView → Type 0
AllRest views = AllByRecursion Rests views
