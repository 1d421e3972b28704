use Rattle.std.proofs.Common.{arith, ◌≡◌, length, ap, ◌∙◌}
use Rattle.hsms_frame.specs.Cut.{Kept}
use Rattle.hsms_frame.proofs.Callers.{IsCutOf-kept}
use Rattle.hsms_frame.proofs.cutter.Cutter.kept.Goals as goal

pub returns-clause-rest : goal.returns-clause-rest
returns-clause-rest c = λ stream arrivals cut.
    let number : c.len.result ≡ length c.self.inside.held.bytes.items = omega arith in
    number ∙ ap (λ (k : Kept). length k.bytes) c.self.view_is ∙ ap (λ (k : Kept). length k.bytes) (IsCutOf-kept stream arrivals c.args.self.now cut)
