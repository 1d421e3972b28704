use Rattle.std.proofs.Common.{ℕ, List, bytes_eq, option_copied, sym, ap, ◌∙◌}
use Rattle.floor_model.specs.Floor.{ToolFloor}
use Rattle.floor_model.specs.Substrates.{is_in_slot}
use Rattle.floor_model.proofs.Slots.{is_called, in_slot_is}
use Rattle.tool_floor.proofs.floor.ToolFloor.is_in_slot.Goals as goal

pub returns-in-Some : goal.returns-in-Some
returns-in-Some c =
    c.eq.ensures
    ∙ ap (λ (name : List ℕ). bytes_eq name c.as_bytes-in-Some.result.now) c.as_bytes.ensures.value
    ∙ ap (λ (name : List ℕ). bytes_eq c.in-Some.name.now name) c.as_bytes-in-Some.ensures.value
    ∙ sym (in_slot_is c.args.s.now c.self.inside.places c.name_at.ensures.places ∙ ap (is_called c.args.s.now.sub) (sym c.name_at.ensures.value ∙ ap option_copied c.in-Some.is))
    ∙ ap (λ (f : ToolFloor). is_in_slot c.args.s.now f.places) c.self.view_is

pub returns-in-None : goal.returns-in-None
returns-in-None c =
    sym (in_slot_is c.args.s.now c.self.inside.places c.name_at.ensures.places ∙ ap (is_called c.args.s.now.sub) (sym c.name_at.ensures.value ∙ ap option_copied c.in-None.is))
    ∙ ap (λ (f : ToolFloor). is_in_slot c.args.s.now f.places) c.self.view_is
