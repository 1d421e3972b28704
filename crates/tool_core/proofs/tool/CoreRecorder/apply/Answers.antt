use Rattle.history_laws.proofs.Recording.{recorded-of}
use Rattle.tool_core.proofs.tool.CoreRecorder.apply.Goals as goal

pub returns-then-is_full-clause-before : goal.returns-then-is_full-clause-before
returns-then-is_full-clause-before c = rw (← c.self.view_is) (recorded-of _ _ _ c.self.invariant.config c.self.invariant.run)

pub returns-then-is_full-clause-recorded : goal.returns-then-is_full-clause-recorded
returns-then-is_full-clause-recorded c = rw (← c.self.view_is) (recorded-of _ _ _ c.self.invariant.config c.self.invariant.run)

pub returns-then-not-self-clause-before : goal.returns-then-not-self-clause-before
returns-then-not-self-clause-before c = rw (← c.self.view_is) (recorded-of _ _ _ c.self.invariant.config c.self.invariant.run)

pub returns-then-not-self-clause-recorded : goal.returns-then-not-self-clause-recorded
returns-then-not-self-clause-recorded c = rw (← c.self.view_is) (recorded-of _ _ _ c.self.invariant.config c.self.invariant.run)

pub returns-in-Ok-true-clause-before : goal.returns-in-Ok-true-clause-before
returns-in-Ok-true-clause-before c = rw (← c.self.view_is) (recorded-of _ _ _ c.self.invariant.config c.self.invariant.run)

pub returns-in-Ok-true-clause-recorded : goal.returns-in-Ok-true-clause-recorded
returns-in-Ok-true-clause-recorded c = c.record.ensures.recorded

pub returns-in-Ok-false-clause-before : goal.returns-in-Ok-false-clause-before
returns-in-Ok-false-clause-before c = rw (← c.self.view_is) (recorded-of _ _ _ c.self.invariant.config c.self.invariant.run)

pub returns-in-Ok-false-clause-recorded : goal.returns-in-Ok-false-clause-recorded
returns-in-Ok-false-clause-recorded c = c.record.ensures.recorded

pub returns-in-Err-clause-before : goal.returns-in-Err-clause-before
returns-in-Err-clause-before c = rw (← c.self.view_is) (recorded-of _ _ _ c.self.invariant.config c.self.invariant.run)

pub returns-in-Err-clause-recorded : goal.returns-in-Err-clause-recorded
returns-in-Err-clause-recorded c = c.record.ensures.recorded
