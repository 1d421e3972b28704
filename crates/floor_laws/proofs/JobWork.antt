-- What is said of the work at a substrate is said of it by its number.
use Rattle.std.proofs.Common.{◌≡◌, ℕ, true, not, ◌&&◌, ◌||◌, Option, Some, refl, ◌∙◌, ap}
use Rattle.std.proofs.lemmas.Bool.{and_parts, and_from}
use Rattle.substrate.specs.Tables.{processing_number}
use Rattle.substrate.specs.Record.{is_finished}
use Rattle.substrate.specs.declared.record.Processing.{Processing}
use Rattle.substrate.specs.declared.record.Processing.TheVariants as processing
use Rattle.floor_model.specs.declared.tracked.Substrate.{Substrate}
use Rattle.floor_model.specs.Floor.{ToolFloor, substrate_numbered}
use Rattle.floor_model.specs.Substrates.{is_in_slot, is_removed}
use Rattle.floor_moves.specs.Floor as law
use Rattle.floor_moves.specs.Floor.{is_done}
use Rattle.place_laws.specs.Picture.{picture, of_one}
use Rattle.place_laws.specs.Sound.{Base}
use Rattle.floor_laws.proofs.JobSight.{back_tells}

-- a state is finished by its number
pub finished_number : (p : Processing) → law.is_finished (processing_number p) ≡ is_finished p
finished_number processing.NeedsProcessing = refl
finished_number processing.InProcess = refl
finished_number processing.Processed = refl
finished_number processing.Aborted = refl
finished_number processing.Stopped = refl
finished_number processing.Rejected = refl
finished_number processing.Lost = refl
finished_number processing.Skipped = refl

module _ (f : ToolFloor) (b : Base f) (n : ℕ) (s : Substrate) (found : substrate_numbered n f.substrates ≡ Some s) where
  -- it is finished
  pub finished_same : law.is_finished ((picture f).processing n) ≡ is_finished s.states.processing
  finished_same = ap (λ (o : Option Substrate). law.is_finished (of_one 0 (λ (s : Substrate). processing_number s.states.processing) o)) found ∙ finished_number s.states.processing

  -- one that is finished, and in its slot or removed, is done
  pub done_from : (is_finished s.states.processing && (is_in_slot s f.places || is_removed s f.places)) ≡ true → is_done n (picture f) ≡ true
  done_from e =
      let parts = and_parts (is_finished s.states.processing) (is_in_slot s f.places || is_removed s f.places) e in
      and_from (law.is_finished ((picture f).processing n)) (not (law.is_outside ((picture f).place_of n))) (finished_same ∙ parts.0) (ap not (back_tells f b n s found parts.1))
