use Rattle.std.proofs.Common.{ap, Err}
use Rattle.hsms_frame.specs.declared.fault.CutFault.{CutFault}
use Rattle.line_feeding.proofs.Cutting.{Cuts-whole, Cuts-short}
use Rattle.line_feeding.proofs.cuts.cut_bytes.Goals as goal

pub returns-in-Ok-clause-cuts : goal.returns-in-Ok-clause-cuts
returns-in-Ok-clause-cuts c = λ stream max cut.
    Cuts-whole _ stream _ _ _ _ c.requires c.feed.ensures.max max (c.in-Ok.ensures.cut stream _ cut) c.in-Ok.ensures.ok

pub returns-in-Err-ShortLength-clause-cuts : goal.returns-in-Err-ShortLength-clause-cuts
returns-in-Err-ShortLength-clause-cuts c = λ stream max cut.
    let ensured = c.in-Err-ShortLength.ensures in
    let field = c.in-Err-ShortLength.field-0-is in
    Cuts-short _ stream _ _ _ _ c.in-Err-ShortLength.field-0-0 c.requires c.feed.ensures.max max ((rw field at ensured.cut) stream _ cut) (ensured.short c.in-Err-ShortLength.field-0-0 (ap (λ (e : CutFault). Err e) field))
