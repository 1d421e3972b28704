-- Where the tool has settled no row of its floor is ready: so it is at the beginning, and behind each step.
use Rattle.std.proofs.Common.{◌≡◌, ℕ, List, [], ◌∷◌, ◌++◌, Option, Some, None, option_map, sym, ◌∙◌, subst}
use Rattle.std.specs.Option.{option_or}
use Rattle.gem_tables.specs.declared.firing.Firing.{Firing}
use Rattle.tool_events.specs.declared.config.Config.{Config}
use Rattle.tool_events.specs.declared.event.Event.{Event}
use Rattle.tool_events.specs.declared.answer.Answer.TheVariants as answer
use Rattle.floor_model.specs.Machines.{floor_least}
use Rattle.floor_model.proofs.Keeping.{opening_quiet}
use Rattle.gem_model.specs.State.{State, opening, raised}
use Rattle.gem_model.specs.Machines.{least, creations}
use Rattle.gem_model.specs.Ready.{ready_line, ready_floor}
use Rattle.gem_model.specs.Fire.{fire}
use Rattle.gem_model.specs.Settle.{Path, settled, settling}
use Rattle.gem_model.specs.Step.{Outcome, answered, step, acts, settles}
use Rattle.gem_model.proofs.Effects.{asks_host, gives_up, least_is}
use Rattle.gem_model.proofs.Settling.{settles_so}
use Rattle.gem_model.proofs.Tests.{went, none_some}

-- no row of the floor is ready by itself
abbrev pub AtRest : State → Type 0
AtRest g = floor_least g.floor ≡ None

pub opening-rests : (c : Config) → AtRest (opening c)
opening-rests c = opening_quiet c.ports c.chambers c.recipes

-- a path ends where no row is ready
path_ends : (g : State) (due fs : List Firing) (h : State) → Path g due fs h → least h ≡ None
path_ends g [] [] h path = subst (λ (k : State). least k ≡ None) (sym path.1) path.0
path_ends g [] (f ∷ fs) h path = path_ends (fire g f) (creations g f) fs h path.1
path_ends g (d ∷ due) [] h path = absurd path
path_ends g (d ∷ due) (f ∷ fs) h path = path_ends (fire g d) (creations g d ++ due) fs h path.1

-- where none of two is there, the second is not
second_none : {A : Type 0} (x y : Option A) → option_or x y ≡ None → y ≡ None
second_none None y none = none
second_none (Some x) y none = absurd (cc)

rests : (g : State) → least g ≡ None → AtRest g
rests g none =
    second_none (ready_line g) (ready_floor g)
    (second_none (gives_up g) (option_or (ready_line g) (ready_floor g))
    (second_none (asks_host g) (option_or (gives_up g) (option_or (ready_line g) (ready_floor g))) (sym (least_is g) ∙ none)))

pub settled-rests : (g : State) → AtRest (settled g)
settled-rests g = rests (settled g) (path_ends g [] (settling g) (settled g) (settles_so g))

-- behind a step it has settled; where the run has ended, the state stays
pub step-rests : (g : State) (at : ℕ) (e : Event) (o : Outcome) → AtRest g → step g at e ≡ Some o → AtRest o.after
step-rests g at e o rest here = went g.quitting _ _ _ (λ _ is. there (answered answer.Ended (raised g at)) rest is) (λ _ is. behind (acts g.moment (raised g at) e) is) here
  where
    there : (x : Outcome) → AtRest x.after → Some x ≡ Some o → AtRest o.after
    there x at is = let same : x ≡ o = cc in subst (λ (y : Outcome). AtRest y.after) same at

    behind : (x : Option Outcome) → option_map settles x ≡ Some o → AtRest o.after
    behind None is = none_some o is
    behind (Some p) is = there (settles p) (settled-rests p.after) is
