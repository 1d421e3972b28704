use Rattle.std.proofs.Common.{◌≡◌, ap, ◌∙◌}
use Rattle.note_line.specs.Line.{open_head}
use Rattle.gem_model.specs.State.{State}
use Rattle.core_settling.proofs.LineRows.{asks_line}
use Rattle.core_settling.proofs.line.open_head.Goals as goal

pub open_head-requires : goal.open_head-requires
open_head-requires c =
    let line : c.send_head.new.plant.line ≡ c.args.plant.now.line = ap (λ (g : State). g.line) c.in_ok-send_head.ensures ∙ asks_line c.args.plant.now.line.waiting c.args.plant.now in
    rw (line, c.around-around.ensures) c.requires

pub returns : goal.returns
returns c =
    let sent = c.in_ok-send_head.ensures in
    let line : c.send_head.new.plant.line ≡ c.args.plant.now.line = ap (λ (g : State). g.line) sent ∙ asks_line c.args.plant.now.line.waiting c.args.plant.now in
    rw (c.open_head.ensures, line) (ap (λ (g : State). record g { line = open_head c.args.plant.now.line }) sent)
