use Rattle.std.proofs.Common.{◌≡◌, ◌+◌, ◌-◌, ℕ, suc, drop, sym, ap, ◌∙◌, arith}
use Rattle.floor_model.specs.Floor.{ToolFloor}
use Rattle.floor_model.specs.Substrates.{registers_slots}
use Rattle.floor_model.proofs.Registrations.{slots_next, slots_past}
use Rattle.tool_floor.proofs.floor.ToolFloor.register_slots.Goals.{in-Some+in_ok-register_slot, in_default}
use Rattle.tool_floor.proofs.floor.ToolFloor.register_slots.Goals as goal

pub loop-place-preserved : goal.loop-place-preserved
loop-place-preserved c =
    let more : suc (25 - (c.loop-place.place + 1)) ≡ 25 - c.loop-place.place = omega (arith, c.loop-place-test.true) in
    let goes_on = ap (λ (k : ℕ). registers_slots c.args.carrier.now c.args.port (c.loop-place.place + 1) k (drop c.loop-place.place c.args.carrier.now.map) c.loop-place.self) more ∙ c.loop-place.invariant in
    elim c.match-code_at.branch [
      | in-Some+in_ok-register_slot w ↦
          ap (λ (f : ToolFloor). registers_slots c.args.carrier.now c.args.port (c.loop-place.place + 1 + 1) (25 - (c.loop-place.place + 1)) (drop (c.loop-place.place + 1) c.args.carrier.now.map) f) (w.self-is ∙ w.in_ok-register_slot.ensures)
          ∙ slots_next c.args.carrier.now c.args.port (c.loop-place.place + 1) (25 - (c.loop-place.place + 1)) c.loop-place.place w.in-Some.code c.args.carrier.now.map c.loop-place.self (sym c.code_at.ensures ∙ w.in-Some.is)
          ∙ goes_on
      | in_default w ↦
          ap (λ (f : ToolFloor). registers_slots c.args.carrier.now c.args.port (c.loop-place.place + 1 + 1) (25 - (c.loop-place.place + 1)) (drop (c.loop-place.place + 1) c.args.carrier.now.map) f) w.self-is
          ∙ slots_past c.args.carrier.now c.args.port (c.loop-place.place + 1) (25 - (c.loop-place.place + 1)) c.loop-place.place c.args.carrier.now.map c.loop-place.self (sym c.code_at.ensures ∙ w.in_default.is)
          ∙ goes_on
    ]
