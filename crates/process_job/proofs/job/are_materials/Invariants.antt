use Rattle.std.proofs.Common.{◌≡◌, drop}
use Rattle.process_job.specs.Creating.{are_materials}
use Rattle.process_job.proofs.job.are_materials.Given as goal

abbrev pub invariant-loop-material : goal.invariant-loop-material
invariant-loop-material l = are_materials (drop l.material-index l.materials) ≡ are_materials l.materials
