use Rattle.note_line.specs.Kept.{line_of}
use Rattle.note_line.proofs.Rows.{noted-keeps}
use Rattle.note_line.proofs.Short.{noted-short}
use Rattle.note_line.proofs.line.NoteLine.add.Goals as goal

pub invariant_of-self-2 : goal.invariant_of-self-2
invariant_of-self-2 c =
    let l = line_of c.self.inside in
    rw (c.push_reserved.ensures.items, c.reserve.ensures.items, c.in_ok-push_back.ensures.items, c.next_number-number.ensures, ← c.self.view_is) (record {
      valid = (noted-keeps c.args.kind c.args.id c.args.text l c.self.invariant.valid).valid;
      short = noted-short c.args.kind c.args.id c.args.text l c.requires.short c.self.invariant.short;
    })
