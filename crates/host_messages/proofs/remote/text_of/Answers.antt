use Rattle.std.proofs.Common.{refl, sym}
use Rattle.body_parts.proofs.Texts.{text-met}
use Rattle.host_messages.proofs.remote.text_of.Goals as goal

pub returns-in-Ok : goal.returns-in-Ok
returns-in-Ok c =
    let fits = rw c.as_slice.ensures at (c.in-Ok.ensures.ok.0 refl) in
    rw (c.in-Ascii.is, c.in-Ok.ensures.text, c.as_slice.ensures) (sym (text-met c.in-Ascii.bytes fits))
