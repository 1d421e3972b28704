use Rattle.std.proofs.Common.{inl, inr, refl, ◌∙◌}
use Rattle.actors.proofs.Taking.{frames-go, failed-as, writer-ends, writer-fails, writer-refused, writer-unsent}
use Rattle.actors.proofs.writer.write_frames.Goals as goal

pub returns-in-Err-clause-did : goal.returns-in-Err-clause-did
returns-in-Err-clause-did g c =
    let count = rw c.as_slice.ensures at c.in-Err.ensures.count in
    writer-fails _ c.in-Err.fault.written _ _ _ _ _ _ _ _ _ _ _ _ c.loop.invariant.frames
    (rw c.in-Ok-Frame.field-0-is at c.in-Ok-Frame.ensures.recorded)
    count.0 count.1
    (failed-as _ _ _ _ _ _ c.loop.invariant.faults c.loop.invariant.refusals c.in-Err.ensures.cause)
    c.saturating_add-count-in-Err.ensures
    c.tell_fault.ensures.posted

pub loop-preserved-in-Ok-Frame : goal.loop-preserved-in-Ok-Frame
loop-preserved-in-Ok-Frame g c = record {
  can_next = tt;
  is_finite = tt;
  frames = frames-go _ _ _ _ _ _ _ _ _ _ c.loop.invariant.frames
      (rw c.in-Ok-Frame.field-0-is at c.in-Ok-Frame.ensures.recorded)
      (rw c.as_slice.ensures at c.in-Ok.ensures.all)
      (rw c.as_slice-in-Ok.ensures at c.saturating_add-count.ensures);
  faults = c.in-Ok.ensures.unfailed.0 ∙ c.loop.invariant.faults;
  refusals = c.in-Ok.ensures.unfailed.1 ∙ c.loop.invariant.refusals;
  fulls = c.in-Ok-Frame.ensures.fulls ∙ c.loop.invariant.fulls;
  wants = c.in-Ok-Frame.ensures.wants ∙ c.loop.invariant.wants;
}

pub returns-in-Ok-Ended-clause-did : goal.returns-in-Ok-Ended-clause-did
returns-in-Ok-Ended-clause-did g c =
    writer-ends _ _ _ _ _ _ _ _ c.loop.invariant.frames (rw c.in-Ok-Ended.field-0-is at c.in-Ok-Ended.ensures.recorded)

pub returns-in-Err-Full-clause-did : goal.returns-in-Err-Full-clause-did
returns-in-Err-Full-clause-did g c = writer-refused _ _ _ _ _ _ _ _ _ c.loop.invariant.frames c.in-Err-Full.ensures.unrecorded (inl refl)

pub returns-in-Err-NoMemory-clause-did : goal.returns-in-Err-NoMemory-clause-did
returns-in-Err-NoMemory-clause-did g c = writer-refused _ _ _ _ _ _ _ _ _ c.loop.invariant.frames c.in-Err-NoMemory.ensures.unrecorded (inr refl)

pub returns-in-Err-flush-clause-did : goal.returns-in-Err-flush-clause-did
returns-in-Err-flush-clause-did g c =
    writer-unsent _ _ _ _ _ _ _ _ _ _ _ c.loop.invariant.frames c.in-Err-Again.ensures.unrecorded c.in-Err-flush.ensures.held
    (failed-as _ _ _ _ _ _ c.loop.invariant.faults c.loop.invariant.refusals (inl c.in-Err-flush.ensures.failed))
    c.tell_fault-in-Err-flush.ensures.posted
