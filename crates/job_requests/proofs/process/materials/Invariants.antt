use Rattle.std.proofs.Common.{◌≡◌, take, map}
use Rattle.request_model.specs.Requests.{material_of}
use Rattle.job_requests.proofs.process.materials.Given as goal

abbrev pub invariant-loop-carrier : goal.invariant-loop-carrier
invariant-loop-carrier l = l.materials ≡ map material_of (take l.carrier-index l.carriers)
