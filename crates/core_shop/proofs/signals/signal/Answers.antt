use Rattle.std.proofs.Common.{◌≡◌, OnOk, not, if◌then◌else◌, Bool, true, false, refl, sym, subst}
use Rattle.tool_events.specs.declared.event.Signal.{Signal}
use Rattle.gem_model.specs.State.{State}
use Rattle.gem_model.specs.Signals.{lacks_port, placed, signalled}
use Rattle.core_shop.proofs.signals.signal.Goals as goal

-- what is not lacking is there
there : (lacks : Bool) (here behind : State) → true ≡ not lacks → behind ≡ (if lacks then here else behind)
there false here behind has = refl
there true here behind has = absurd (cc)

pub returns-else-not-has_port : goal.returns-else-not-has_port
returns-else-not-has_port c =
    let before = c.args.plant.now in
    let port = c.in-Placed.port.0 in
    let behind = placed port c.in-Placed.id c.in-Placed.map before in
    subst (λ (told : Signal). OnOk c.place.result (c.place.new.plant ≡ signalled told before)) (sym c.in-Placed.is)
    (subst (λ (g : State). OnOk c.place.result (c.place.new.plant ≡ g)) (there (lacks_port port before) before behind c.if-not-has_port.ensures.has) c.place.ensures)
