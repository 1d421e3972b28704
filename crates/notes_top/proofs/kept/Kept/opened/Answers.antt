use Rattle.std.proofs.Common.{subst, sym, ◌∙◌}
use Rattle.notes_top.specs.Keeping.{KeptAt}
use Rattle.notes_top.proofs.Keeping.{KeptAt-open, OpenedAt-fresh, Refuses-fresh, not_write}
use Rattle.notes_top.proofs.kept.Kept.opened.Goals as goal

pub returns-in-Spool-clause-opened : goal.returns-in-Spool-clause-opened
returns-in-Spool-clause-opened g c = λ first stage at.
    KeptAt-open g.D.Disk.tells g.D.Disk.reads g.D.Disk.leaves g.D.Disk.faults first stage c.args.self c.in-Spool.spool c.in-Spool.is at

pub returns-in-Ok-clause-opened : goal.returns-in-Ok-clause-opened
returns-in-Ok-clause-opened g c = λ first stage at.
    let there = subst (KeptAt g.D.Disk.tells g.D.Disk.reads g.D.Disk.leaves g.D.Disk.faults first stage) c.in-Disk.is at in
    OpenedAt-fresh g.D.Disk.tells g.D.Disk.reads g.D.Disk.leaves g.D.Disk.faults g.D.Disk.moment g.D.Disk.left_since g.met.D.Disk.reads_so first c.in-Disk.disk stage c.in-Ok.spool there
    c.in-Ok.ensures.tells c.in-Ok.ensures.faults_stay c.in-Ok.ensures.opened c.in-Ok.ensures.quiet c.in-Ok.ensures.notes

pub returns-in-Err-clause-refused : goal.returns-in-Err-clause-refused
returns-in-Err-clause-refused g c = λ first stage says at.
    let there = subst (KeptAt g.D.Disk.tells g.D.Disk.reads g.D.Disk.leaves g.D.Disk.faults first stage) c.in-Disk.is at in
    rw c.stop_of.ensures (Refuses-fresh g.D.Disk.tells g.D.Disk.reads g.D.Disk.leaves g.D.Disk.faults g.D.Disk.moment g.D.Disk.left_since g.met.D.Disk.reads_so first c.in-Disk.disk c.in-Err.disk stage says c.in-Err.fault there
    c.in-Err.ensures.tells_err c.in-Err.ensures.faults_stay_err c.in-Err.ensures.quiet_err c.in-Err.ensures.fault)

pub returns-in-Err-clause-unwritten : goal.returns-in-Err-clause-unwritten
returns-in-Err-clause-unwritten g c = λ same. not_write c.in-Err.fault (sym c.stop_of.ensures ∙ same)
