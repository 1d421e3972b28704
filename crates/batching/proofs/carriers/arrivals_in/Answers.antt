use Rattle.std.proofs.Common.{[], ◌≡◌, ap, sym, subst}
use Rattle.hsms_frame.specs.Cut.{Kept, IsCutOf}
use Rattle.hsms_frame.proofs.Callers.{IsCutOf-new}
use Rattle.tool_events.specs.Sizes.{text_bytes}
use Rattle.batching.proofs.carriers.arrivals_in.Goals as goal

-- a cutter before the first byte has cut nothing
pub returns : goal.returns
returns c =
    let is = c.in_ok-cutter.ensures in
    (c.in_ok-cut_bytes.ensures.cuts [] (ap (λ (k : Kept). k.max) is) (subst (λ (k : Kept). IsCutOf [] [] k) (sym is) (IsCutOf-new text_bytes))).arrivals_are
