-- What holds of the floor at every moment holds of each state that the tool reaches, whatever comes, as a part of its order.
use Rattle.std.proofs.Common.{◌≡◌, ℕ, ◌≤◌, List, [], ◌∷◌, Some, sym, subst}
use Rattle.load_port.specs.Ports.{most_ports}
use Rattle.tool_events.specs.declared.config.Config.{Config}
use Rattle.tool_events.specs.declared.entry.Entry.{Entry}
use Rattle.tool_events.specs.declared.event.Event.{Event}
use Rattle.floor_moves.specs.OnePlace.{OnePlace}
use Rattle.place_laws.specs.Picture.{picture}
use Rattle.place_laws.specs.Sound.{Sound}
use Rattle.floor_laws.proofs.FloorPlaces.{one_place_sound}
use Rattle.lot_laws.specs.Lot.{InOrder}
use Rattle.gem_model.specs.State.{State, opening, raised}
use Rattle.gem_model.specs.Settle.{settling, Along}
use Rattle.gem_model.specs.Step.{Outcome, acts}
use Rattle.gem_model.specs.Run.{Run}
use Rattle.history_laws.proofs.FloorFacts.{fact_kept, fact_automatic, fact_creation}
use Rattle.history_laws.proofs.Ordering.{Rested, order_fact, order_first}
use Rattle.gem_model.proofs.Walk.{Kept, kept_acts, kept_step}
use Rattle.gem_model.proofs.Resting.{AtRest, opening-rests, step-rests}
use Rattle.gem_model.proofs.Settling.{settled_along}

-- the floor of a state is in order
abbrev Ordered : State → Type 0
Ordered g = InOrder g.floor

order_kept : Kept Rested Ordered
order_kept = fact_kept Rested InOrder order_fact

-- ---- runs

-- what holds at rest, behind each entry
pub record Rests (g : State) : Type 0 where
  pub order : Ordered g
  pub rest : AtRest g

pub run_rests : (g : State) (entries : List Entry) (h : State) → Rests g → Run g entries h → Rests h
run_rests g [] h at run = subst Rests (sym run) at
run_rests g (e ∷ entries) h at run =
    run_rests run.0.after entries h
    (record { order = kept_step Rested Ordered order_kept g e.at.0 e.event run.0 at.rest at.order run.1; rest = step-rests g e.at.0 e.event run.0 at.rest run.1 })
    run.2

pub run_at : (c : Config) (entries : List Entry) (h : State) → c.ports ≤ most_ports → Run (opening c) entries h → Rests h
run_at c entries h few run = run_rests (opening c) entries h (record { order = order_first c few; rest = opening-rests c }) run

-- where a history leads
pub run-placed : (c : Config) (entries : List Entry) (h : State) → c.ports ≤ most_ports → Run (opening c) entries h → Sound h.floor
run-placed c entries h few run = (run_at c entries h few run).order.sound

-- and each substrate has one place in each state that the tool passes while it settles behind an event
pub run-places-along : (c : Config) (entries : List Entry) (h : State) (at : ℕ) (e : Event) (o : Outcome) → c.ports ≤ most_ports → Run (opening c) entries h → acts h.moment (raised h at) e ≡ Some o
    → Along (λ (g : State). OnePlace (picture g.floor)) o.after (settling o.after)
run-places-along c entries h at e o few run here =
    let rests = run_at c entries h few run in
    settled_along Ordered (λ (g : State). OnePlace (picture g.floor)) (λ g order. one_place_sound g.floor order.sound) (fact_automatic InOrder order_fact.ready) (fact_creation InOrder) o.after
    (kept_acts Rested Ordered order_kept h.moment (raised h at) e o rests.rest rests.order here)
