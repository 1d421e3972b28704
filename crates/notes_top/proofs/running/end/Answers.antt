use Rattle.std.proofs.Common.{refl}
use Rattle.notes_top.proofs.Keeping.{KeptAt-disk}
use Rattle.notes_top.proofs.running.end.Goals as goal

pub returns-in-End-clause-ends : goal.returns-in-End-clause-ends
returns-in-End-clause-ends g c = λ first stage at. rw c.in-End.is (rw c.line.ensures at c.take_last.ensures.ends first stage at)

pub returns-in-Fault-clause-ends : goal.returns-in-Fault-clause-ends
returns-in-Fault-clause-ends g c = λ first stage at. rw c.in-Fault.is (record { why_is = refl; disk = KeptAt-disk g.D.Disk.tells g.D.Disk.reads g.D.Disk.leaves g.D.Disk.faults first stage c.args.kept at; unwritten = refl })

pub returns-in-Bound-clause-ends : goal.returns-in-Bound-clause-ends
returns-in-Bound-clause-ends g c = λ first stage at. rw c.in-Bound.is (record { why_is = rw c.count.ensures refl; disk = KeptAt-disk g.D.Disk.tells g.D.Disk.reads g.D.Disk.leaves g.D.Disk.faults first stage c.args.kept at; unwritten = refl })

pub returns-in-Long-clause-ends : goal.returns-in-Long-clause-ends
returns-in-Long-clause-ends g c = λ first stage at. rw c.in-Long.is (record { why_is = refl; disk = KeptAt-disk g.D.Disk.tells g.D.Disk.reads g.D.Disk.leaves g.D.Disk.faults first stage c.args.kept at; unwritten = refl })

pub returns-in-NoMemory-clause-ends : goal.returns-in-NoMemory-clause-ends
returns-in-NoMemory-clause-ends g c = λ first stage at. rw c.in-NoMemory.is (record { why_is = refl; disk = KeptAt-disk g.D.Disk.tells g.D.Disk.reads g.D.Disk.leaves g.D.Disk.faults first stage c.args.kept at; unwritten = refl })
