-- A line that rests.
use Rattle.std.proofs.Common.{◌≡◌, true, List, [], ◌∷◌, None, refl, arith}
use Rattle.std.proofs.lemmas.Bool.Decides.{nat_tests}
use Rattle.spool.specs.declared.note.Note.{Note}
use Rattle.spool.specs.declared.states.Load.{Load}
use Rattle.spool.specs.declared.states.Load.TheVariants.{Inactive, NotFull, Full}
use Rattle.spool.specs.declared.states.Unload.{Unload}
use Rattle.spool.specs.declared.states.Unload.TheVariants.{NoOutput, Transmit, Purge}
use Rattle.note_line.specs.declared.around.Around.{Around}
use Rattle.note_line.specs.Line.{Line}
use Rattle.note_line.specs.Table3.{least, rests}

-- no row of a line that rests is ready, whatever lies around
pub none_ready : (a : Around) (l : Line) → rests l ≡ true → least a l ≡ None
none_ready a l calm = of l.waiting l.spool.load l.spool.unload l.spool.notes calm where
  of : (waiting : List Note) (load : Load) (unload : Unload) (notes : List Note)
      → rests (record l { waiting = waiting; spool = record l.spool { load = load; unload = unload; notes = notes } }) ≡ true
      → least a (record l { waiting = waiting; spool = record l.spool { load = load; unload = unload; notes = notes } }) ≡ None
  of [] Inactive NoOutput [] calm = refl
  of [] Inactive Purge [] calm = refl
  of [] Inactive Transmit notes calm = absurd (cc)
  of [] Inactive NoOutput (note ∷ notes) calm = absurd (grind (arith, nat_tests, calm))
  of [] Inactive Purge (note ∷ notes) calm = absurd (grind (arith, nat_tests, calm))
  of [] NotFull unload notes calm = absurd (cc)
  of [] Full unload notes calm = absurd (cc)
  of (note ∷ waiting) load unload notes calm = absurd (cc)
