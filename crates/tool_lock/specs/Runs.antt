-- Runs of a step relation.
use Rattle.std.specs.Prelude.{◌≡◌, List, [], ◌∷◌}

-- the entries lead from one state to another, each by a step of this relation
abbrev pub Run : {E G : Type 0} → (G → E → G → Type 0) → G → List E → G → Type 0
Run follows from [] to = from ≡ to
Run {G = G} follows from (entry ∷ entries) to = (between : G) × follows from entry between × Run follows between entries to
