-- The carrier at a port that is READY TO UNLOAD goes on to have finished, where carriers are marked stopped.
use Rattle.std.proofs.Common.{List, [], ◌∷◌}
use Rattle.process_job.specs.declared.job.Material.{Material}
use Rattle.shop_floor.specs.Floor.{Floor, with_marked}
use Rattle.floor_model.specs.Jobs.{all_marked}
use Rattle.place_laws.specs.Ports.{Unloading}
use Rattle.place_laws.proofs.UnloadRows.{marked-unloading}

-- each of those that are named is
pub all_marked-unloading : (ms : List Material) (s : Floor) → Unloading s → Unloading (all_marked ms s)
all_marked-unloading [] s u = u
all_marked-unloading (m ∷ ms) s u = all_marked-unloading ms (with_marked m.carrier s) (marked-unloading m.carrier s u)
