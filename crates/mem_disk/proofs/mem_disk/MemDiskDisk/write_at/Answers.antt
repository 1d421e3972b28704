use Rattle.std.proofs.Common.{◌≡◌, ◌∷◌, [], ◌++◌, List, ℕ, length, reverse, sym, ◌∙◌, ap, subst}
use Rattle.mem_disk.specs.declared.mem_disk.Call.TheVariants.{Wrote}
use Rattle.outside.specs.Disk.{WrittenAt}
use Rattle.mem_disk.specs.Images.{Remembered, put, reads_after}
use Rattle.mem_disk.specs.Laws.{newest, put_written}
use Rattle.std.proofs.Common.{rules}
use Rattle.mem_disk.proofs.Calls.{not_chosen, is_chosen, same_images}
use Rattle.mem_disk.proofs.mem_disk.MemDiskDisk.write_at.Goals as goal

pub returns-then-fails_now-clause-leaves : goal.returns-then-fails_now-clause-leaves
returns-then-fails_now-clause-leaves c told = same_images c.args.self.now (record { first = c.self.inside.first.items; calls = c.self.inside.calls.items; fails = []; count = 0; faults = 0 }) c.args.at (length c.args.bytes.now) (ap (λ d. d.first) c.self.view_is) (ap (λ d. d.calls) c.self.view_is)

pub returns-in_default-clause-leaves : goal.returns-in_default-clause-leaves
returns-in_default-clause-leaves c told = same_images c.args.self.now (record { first = c.self.inside.first.items; calls = c.self.inside.calls.items; fails = []; count = 0; faults = 0 }) c.args.at (length c.args.bytes.now) (ap (λ d. d.first) c.self.view_is) (ap (λ d. d.calls) c.self.view_is)

pub returns-in_default-to_vec-clause-leaves : goal.returns-in_default-to_vec-clause-leaves
returns-in_default-to_vec-clause-leaves c told = same_images c.args.self.now (record { first = c.self.inside.first.items; calls = c.self.inside.calls.items; fails = []; count = 0; faults = 0 }) c.args.at (length c.args.bytes.now) (ap (λ d. d.first) c.self.view_is) (ap (λ d. d.calls) c.self.view_is)

pub returns-then-is_err-clause-leaves : goal.returns-then-is_err-clause-leaves
returns-then-is_err-clause-leaves c told =
    let old = c.self.inside.calls.items in
    let none = not_chosen c.push.result (old ++ Wrote c.args.at c.in-Ok-to_vec.piece ∷ []) old c.push.new.self.items (sym c.is_err.ensures.value ∙ c.if-is_err.true) c.push.ensures.items in
    same_images c.args.self.now (record { first = c.self.inside.first.items; calls = c.push.new.self.items; fails = []; count = 0; faults = 0 }) c.args.at (length c.args.bytes.now) (ap (λ d. d.first) c.self.view_is) (none ∙ ap (λ d. d.calls) c.self.view_is)

pub returns-clause-written : goal.returns-clause-written
returns-clause-written c told =
    let old = c.self.inside.calls.items in
    let first = c.self.inside.first.items in
    let more = is_chosen c.push.result (old ++ Wrote c.args.at c.in-Ok-to_vec.piece ∷ []) old c.push.new.self.items (sym c.is_err.ensures.value ∙ c.if-is_err.false) c.push.ensures.items in
    let piece : c.in-Ok-to_vec.piece.items ≡ c.args.bytes.now = search rules in
    let R = reads_after first (reverse old) in
    let new : put c.args.at c.args.bytes.now R ≡ reads_after first (reverse c.push.new.self.items) = ap (λ (l : List ℕ). put c.args.at l R) (sym piece) ∙ sym (ap (reads_after first) (ap reverse more ∙ newest old (Wrote c.args.at c.in-Ok-to_vec.piece))) in
    let was : R ≡ reads_after c.args.self.now.first (reverse c.args.self.now.calls) = ap (λ (d : Remembered). reads_after d.first (reverse d.calls)) c.self.view_is in
    subst (λ (o : List ℕ). WrittenAt c.args.at c.args.bytes.now o (reads_after first (reverse c.push.new.self.items))) was
    (subst (λ (n : List ℕ). WrittenAt c.args.at c.args.bytes.now R n) new (put_written c.args.at c.args.bytes.now R))
