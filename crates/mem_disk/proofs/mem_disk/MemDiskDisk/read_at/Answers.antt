use Rattle.std.proofs.Common.{rules, ◌≡◌, ◌<◌, List, ℕ, length, get_or, reverse, ◌∙◌, ap, arith}
use Rattle.std.proofs.lemmas.List.{get_or_read}
use Rattle.std.proofs.lemmas.Bool.Decides.{nat_tests}
use Rattle.mem_disk.specs.Images.{reads_after}
use Rattle.mem_disk.specs.Images.{Remembered}
use Rattle.mem_disk.proofs.Calls.{read_one}
use Rattle.mem_disk.proofs.mem_disk.MemDiskDisk.read_at.Goals as goal

pub returns-clause-bytes : goal.returns-clause-bytes
returns-clause-bytes c told =
    let R = reads_after c.args.self.now.first (reverse c.args.self.now.calls) in
    let same : c.self.inside.bytes.items ≡ R = c.self.invariant ∙ ap (λ (d : Remembered). reads_after d.first (reverse d.calls)) c.self.view_is in
    let some : 0 < length c.args.buf.now = grind (arith, nat_tests) in
    let within : c.args.at < length c.self.inside.bytes.items = search rules in
    let byte : c.index.result.now ≡ get_or c.self.inside.bytes.items c.args.at 0 = get_or_read c.self.inside.bytes.items c.args.at c.index.result.now within c.index.ensures 0 in
    read_one R c.args.buf.now c.args.at c.index.result.now some (omega (arith, within, ap length same)) (byte ∙ ap (λ (l : List ℕ). get_or l c.args.at 0) same)
