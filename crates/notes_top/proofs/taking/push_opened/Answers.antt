use Rattle.std.proofs.Common.{sym, ◌∙◌}
use Rattle.notes_top.proofs.Keeping.{Pushed-kept, stopped_write}
use Rattle.notes_top.proofs.taking.push_opened.Goals as goal

pub returns-clause-takes : goal.returns-clause-takes
returns-clause-takes g c = λ first stage held opened.
    rw c.stopped-made.ensures (Pushed-kept g.D.Disk.tells g.D.Disk.reads g.D.Disk.leaves g.D.Disk.faults g.D.Disk.moment g.D.Disk.left_since g.met.D.Disk.counts_now first stage c.args.spool c.push.new.self c.args.overwrite c.args.note c.push.result held opened
    c.push.ensures.sizes c.push.ensures.pushed c.push.ensures.opened c.push.ensures.tells c.push.ensures.faults_stay c.push.ensures.acknowledged
    (c.push.ensures.any_moment opened.opened) (c.push.ensures.fault opened.opened) c.push.ensures.no_memory)

pub returns-clause-unwritten : goal.returns-clause-unwritten
returns-clause-unwritten g c = λ same. stopped_write c.push.result (sym c.stopped-made.ensures ∙ same)
