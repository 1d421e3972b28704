use Rattle.body_parts.proofs.Parts.{count-met, count-unmet}
use Rattle.body_parts.proofs.reading.parts.Goals as goal

pub returns-in-Ok : goal.returns-in-Ok
returns-in-Ok g c =
    rw (c.in_ok-elements.ensures, c.in-Ok.ensures.1.same) (count-met g.row.N c.in_ok-elements.field-0.now c.in-Ok.ensures.1.long)

pub returns-in-Err : goal.returns-in-Err
returns-in-Err g c = rw c.in_ok-elements.ensures (count-unmet g.row.N c.in_ok-elements.field-0.now c.in-Err.ensures.1)
