-- The least row that is ready by itself.
use Rattle.std.proofs.Common.{◌≡◌, ℕ, ◌&&◌, not, Bool, true, false, if◌then◌else◌, Option, Some, None, is_some, option_map, refl, ◌∙◌, ap}
use Rattle.std.specs.Option.{option_or}
use Rattle.gem_tables.specs.Table.{firing}
use Rattle.gem_tables.specs.declared.firing.Firing.{Firing}
use Rattle.note_line.specs.Table3 as line
use Rattle.history_parts.specs.Additions.{completes}
use Rattle.gem_model.specs.State.{State, around, is_selected, can_ask}
use Rattle.gem_model.specs.Wants.{delay_is_over, is_attempt}
use Rattle.gem_model.specs.Machines.{least}
use Rattle.gem_model.specs.Ready.{ready_line, ready_floor}
use Rattle.gem_model.proofs.Effects.{gives_up, least_is}
use Rattle.core_state.specs.Firing.{fire_first}

-- ---- the first of two that is ready

-- a row of the line of notes completes no control job
pub line_none : (g : State) (y : Option Firing) → is_some (ready_line g) ≡ true → Some false ≡ option_map completes (option_or (ready_line g) y)
line_none g y = of (line.least (around g) g.line) where
  of : (row : Option ℕ) → is_some (option_map (firing 3 0) row) ≡ true → Some false ≡ option_map completes (option_or (option_map (firing 3 0) row) y)
  of None is = absurd (cc)
  of (Some row) is = refl

pub or_first : (x y : Option Firing) (g : State) → is_some x ≡ true → fire_first x g ≡ fire_first (option_or x y) g
or_first None y g is = absurd (cc)
or_first (Some f) y g is = refl

pub or_behind : (x y : Option Firing) → is_some x ≡ false → y ≡ option_or x y
or_behind None y is = refl
or_behind (Some f) y is = absurd (cc)

pub or_stays : (x : Option Firing) (g : State) → is_some x ≡ false → fire_first x g ≡ g
or_stays None g is = refl
or_stays (Some f) g is = absurd (cc)

-- ---- the least row of all tables

pub least_first : (g : State) → (delay_is_over g.moment g.comm && is_selected g) ≡ true → least g ≡ Some (firing 1 0 3)
least_first g asks =
    least_is g ∙ ap (λ (b : Bool). option_or (if b then Some (firing 1 0 3) else None) (option_or (gives_up g) (option_or (ready_line g) (ready_floor g)))) asks

pub least_second : (g : State) → (delay_is_over g.moment g.comm && is_selected g) ≡ false → (is_attempt g.control && not (can_ask g)) ≡ true → least g ≡ Some (firing 2 0 2)
least_second g quiet gives =
    least_is g
    ∙ ap (λ (b : Bool). option_or (if b then Some (firing 1 0 3) else None) (option_or (gives_up g) (option_or (ready_line g) (ready_floor g)))) quiet
    ∙ ap (λ (b : Bool). option_or (if b then Some (firing 2 0 2) else None) (option_or (ready_line g) (ready_floor g))) gives

pub least_rest : (g : State) → (delay_is_over g.moment g.comm && is_selected g) ≡ false → (is_attempt g.control && not (can_ask g)) ≡ false → least g ≡ option_or (ready_line g) (ready_floor g)
least_rest g quiet stays =
    least_is g
    ∙ ap (λ (b : Bool). option_or (if b then Some (firing 1 0 3) else None) (option_or (gives_up g) (option_or (ready_line g) (ready_floor g)))) quiet
    ∙ ap (λ (b : Bool). option_or (if b then Some (firing 2 0 2) else None) (option_or (ready_line g) (ready_floor g))) stays
