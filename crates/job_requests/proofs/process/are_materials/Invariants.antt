use Rattle.std.proofs.Common.{◌≡◌, drop, map}
use Rattle.process_job.specs.Creating.{are_materials}
use Rattle.request_model.specs.Requests.{material_of}
use Rattle.job_requests.proofs.process.are_materials.Given as goal

abbrev pub invariant-loop-carrier : goal.invariant-loop-carrier
invariant-loop-carrier l = are_materials (map material_of (drop l.carrier-index l.carriers)) ≡ are_materials (map material_of l.carriers)
