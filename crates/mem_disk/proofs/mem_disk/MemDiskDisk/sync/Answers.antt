use Rattle.std.proofs.Common.{◌∷◌, [], ◌++◌, reverse, sym, ◌∙◌, subst}
use Rattle.mem_disk.specs.declared.mem_disk.Call.TheVariants.{Synced}
use Rattle.mem_disk.specs.Images.{Images}
use Rattle.mem_disk.specs.Images.{Remembered}
use Rattle.mem_disk.proofs.Calls.{is_chosen, synced_images}
use Rattle.mem_disk.proofs.mem_disk.MemDiskDisk.sync.Goals as goal

pub returns-clause-leaves : goal.returns-clause-leaves
returns-clause-leaves c told f left =
    let old = c.self.inside.calls.items in
    let more = is_chosen c.push.result (old ++ Synced ∷ []) old c.push.new.self.items (sym c.is_err.ensures.value ∙ c.if-is_err.false) c.push.ensures.items in
    subst (λ (d : Remembered). Images d.first (reverse d.calls) f) c.self.view_is (synced_images c.self.inside.first.items old c.push.new.self.items more f left)
