use Rattle.std.proofs.Common.{ℕ, length}
use Rattle.std.proofs.lemmas.List.{drop-replicate}
use Rattle.gem_ids.proofs.text.padded.Goals as goal

pub returns : goal.returns
returns c =
    let zeros = drop-replicate {X = ℕ} (length c.args.bytes.now) 80 0 in
    rw (c.copy_from_slice.ensures.after, zeros)
