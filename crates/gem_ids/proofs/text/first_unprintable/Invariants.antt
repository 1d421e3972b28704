use Rattle.std.proofs.Common.{ℕ, ◌<◌, slice_index}
use Rattle.gem_ids.specs.Texts.{IsPrintable}
use Rattle.gem_ids.proofs.text.first_unprintable.Given as goal

abbrev pub invariant-loop-place : goal.invariant-loop-place
invariant-loop-place l = (k : ℕ) → k < l.place → IsPrintable (slice_index l.bytes k)
