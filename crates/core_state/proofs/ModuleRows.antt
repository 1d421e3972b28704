-- The rows of modules and of substrates may be listed.
use Rattle.std.proofs.Common.{◌≡◌, true, false, true≢false, List, [], ◌∷◌, sym, ◌∙◌}
use Rattle.gem_tables.specs.declared.firing.Firing.{Firing}
use Rattle.gem_model.specs.Direct.{Are, IsListed}
use Rattle.gem_model.proofs.FloorRows.{IsFloorRow, AreFloorRows}

-- rows of the floor are none of the line of notes
pub listed_floor : (fs : List Firing) → AreFloorRows fs → Are IsListed fs
listed_floor [] are = tt
listed_floor (f ∷ fs) are = ((λ third. absurd (true≢false (sym third ∙ are.0.not_3))), listed_floor fs are.1)
