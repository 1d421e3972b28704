use Rattle.std.proofs.Common.{inl, inr, ap, sym, ◌∙◌}
use Rattle.feeding.specs.Views.{feeder_seen}
use Rattle.feeding.proofs.LineParts.{TakesLine-bytes, TakesLine-no_memory}
use Rattle.feeding.proofs.feeder.Feeder.take_bytes.Goals as goal

pub returns-clause-takes : goal.returns-clause-takes
returns-clause-takes g c = λ r reading.
    TakesLine-bytes r _ _ _ _ _ _ _ _ _ _ _ reading (sym c.session_up.ensures.session ∙ c.in-Some.is)
    (rw c.count_bytes.ensures.cutter at c.cut_bytes.ensures.max) (rw c.count_bytes.ensures.cutter at c.in-Ok-cut_bytes.ensures.cuts) (rw c.count_bytes.ensures.core at c.take_messages.ensures.goes)
    (c.in-Ok.ensures.counts r (sym reading.state))

-- there was no memory to count the bytes: all is as before
pub returns-in_default-count_bytes-clause-takes : goal.returns-in_default-count_bytes-clause-takes
returns-in_default-count_bytes-clause-takes g c = λ r reading.
    let e = c.in_default-count_bytes.ensures in
    TakesLine-no_memory r _ (feeder_seen g.C.Recorder.view c.args.self.now) (feeder_seen g.C.Recorder.view c.count_bytes.new.self) _
    (ap (λ f. (feeder_seen g.C.Recorder.view f).core) e.none)
    (inr (ap (λ f. (feeder_seen g.C.Recorder.view f).reads) e.none, ap (λ f. (feeder_seen g.C.Recorder.view f).core) e.none))

-- there was none to cut them: they are counted
pub returns-in_default-cut_bytes-clause-takes : goal.returns-in_default-cut_bytes-clause-takes
returns-in_default-cut_bytes-clause-takes g c = λ r reading.
    TakesLine-no_memory r _ (feeder_seen g.C.Recorder.view c.args.self.now) _ _ (ap g.C.Recorder.view c.in-Ok.ensures.core) (inl (c.in-Ok.ensures.counts r (sym reading.state)))
