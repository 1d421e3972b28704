-- The substrate that an open Process names is IN PROCESS where no row is ready.
use Rattle.std.proofs.Common.{◌≡◌, ℕ, Bool, true, false, List, Option, Some, None, refl, sym, ◌∙◌, ap, subst}
use Rattle.std.specs.List.{list_any}
use Rattle.std.proofs.lemmas.Bool.{true≢false}
use Rattle.gem_tables.specs.Table.{first_itself}
use Rattle.tool_tasks.specs.declared.task.Command.{Command as ToolCommand}
use Rattle.tool_tasks.specs.declared.task.Task.{Task as ToolTask}
use Rattle.tool_tasks.specs.declared.task.Task.TheVariants as task
use Rattle.robot_moves.specs.declared.module.Module.TheVariants.{Busy}
use Rattle.robot_moves.specs.Modules.{module_at}
use Rattle.substrate.specs.Tables as want
use Rattle.substrate.specs.Tables.{SubstrateWant, processing_number, processing_table}
use Rattle.substrate.specs.declared.record.Processing.{Processing}
use Rattle.substrate.specs.declared.record.Processing.TheVariants as processing
use Rattle.floor_model.specs.declared.tracked.Substrate.{Substrate}
use Rattle.floor_model.specs.Floor.{ToolFloor, substrate_numbered, number_of}
use Rattle.floor_model.specs.Modules.{number_named}
use Rattle.floor_model.specs.Naming.{processes}
use Rattle.floor_model.specs.Wants.{substrate_wants}
use Rattle.floor_model.specs.Machines.{substrate_ready, floor_least}
use Rattle.floor_model.proofs.AtRest.{none_ready}
use Rattle.floor_moves.specs.Floor as law
use Rattle.floor_moves.specs.Floor.{process, named}
use Rattle.floor_moves.specs.Valid.{ProcessStands}
use Rattle.place_laws.specs.Picture.{picture, of_one, number_or_none, task_of}
use Rattle.place_laws.specs.Sound.{Sound}
use Rattle.place_laws.proofs.Holding.{one_found, found_among}
use Rattle.floor_laws.proofs.EndOpen.{command_of, busy_at, busy_processes}
use Rattle.floor_laws.proofs.JobSight.{none_some}

-- ---- by its name

-- a substrate that NEEDS PROCESSING is ready where an open Process names it
ready_needing : (finds : SubstrateWant → Bool) → finds want.process_names_it ≡ true → first_itself processing_number finds processing_table processing.NeedsProcessing ≡ Some 2
ready_needing finds e = rw e refl

module _ (f : ToolFloor) (rest : floor_least f ≡ None) where
  pub is_in_process : (n : ℕ) (s : Substrate) → substrate_numbered n f.substrates ≡ Some s → list_any (processes s.sub) f.modules ≡ true → law.is_finished ((picture f).processing n) ≡ false → s.states.processing ≡ processing.InProcess
  is_in_process n s known names left = of s.states.processing refl (sym (ap (of_one 0 (λ (x : Substrate). processing_number x.states.processing)) known)) where
    ready : substrate_ready processing_number processing_table (λ x. x.processing) (Some s) f ≡ None
    ready = subst (λ (o : Option Substrate). substrate_ready processing_number processing_table (λ x. x.processing) o f ≡ None) known ((none_ready f rest).processing n (found_among number_of n f.substrates s known))

    ended : (p : Processing) → s.states.processing ≡ p → processing_number s.states.processing ≡ (picture f).processing n → law.is_finished (processing_number p) ≡ true → p ≡ processing.InProcess
    ended p q e finished = absurd (true≢false (sym finished ∙ ap (λ (x : Processing). law.is_finished (processing_number x)) (sym q) ∙ ap law.is_finished e ∙ left))

    of : (p : Processing) → s.states.processing ≡ p → processing_number s.states.processing ≡ (picture f).processing n → p ≡ processing.InProcess
    of processing.InProcess q e = refl
    of processing.NeedsProcessing q e =
        none_some 2
        (sym (subst (λ (p : Processing). first_itself processing_number (λ x. substrate_wants x s f) processing_table p ≡ None) q ready)
        ∙ ready_needing (λ x. substrate_wants x s f) names)
    of processing.Processed q e = ended processing.Processed q e refl
    of processing.Aborted q e = ended processing.Aborted q e refl
    of processing.Stopped q e = ended processing.Stopped q e refl
    of processing.Rejected q e = ended processing.Rejected q e refl
    of processing.Lost q e = ended processing.Lost q e refl
    of processing.Skipped q e = ended processing.Skipped q e refl

-- ---- by the command

-- by numbers it is a Process of its substrate
pub process_numbered : (f : ToolFloor) (c : ToolCommand) (sub recipe : List ℕ) → c.task ≡ task.Process sub recipe → (n : ℕ) → number_named sub f.places ≡ Some n → task_of c.task f.places ≡ process n
process_numbered f c sub recipe q n names = ap (λ (u : ToolTask). task_of u f.places) q ∙ ap (λ (o : Option ℕ). process (number_or_none o)) names

-- it is known and IN PROCESS, in a chamber, and in a job
pub record IsRunning (f : ToolFloor) (n : ℕ) : Type 0 where
  pub one : Substrate
  pub known : substrate_numbered n f.substrates ≡ Some one
  pub running : one.states.processing ≡ processing.InProcess
  pub chamber : ℕ
  pub at : (picture f).place_of n ≡ Some (law.chamber chamber)
  pub member : (picture f).jobs.is_member n ≡ true

module _ (f : ToolFloor) (sound : Sound f) (rest : floor_least f ≡ None) (m : ℕ) (c : ToolCommand) (fetched : Bool) (here : module_at m f.modules ≡ Some (Busy c fetched)) where
  pub running_there : (sub recipe : List ℕ) → c.task ≡ task.Process sub recipe → (n : ℕ) → number_named sub f.places ≡ Some n → IsRunning f n
  running_there sub recipe q n names = record {
    one = s.0;
    known = s.1;
    running = is_in_process f rest n s.0 s.1 (busy_processes f sound.base sound.valid.commands n s.0 s.1 m (command_of c f.places) busy_there t) stands.3;
    chamber = stands.0;
    at = stands.2;
    member = subst (λ (k : ℕ). (picture f).jobs.is_member k ≡ true) (ap named t) (sound.valid.members.named m (command_of c f.places) busy_there);
  } where
    busy_there : (picture f).equipment m ≡ law.busy (command_of c f.places)
    busy_there = busy_at f m c fetched here

    t : task_of c.task f.places ≡ process n
    t = process_numbered f c sub recipe q n names

    stands : ProcessStands m n (picture f)
    stands = sound.valid.commands.processes m n (command_of c f.places) busy_there t

    s : (x : Substrate) × (substrate_numbered n f.substrates ≡ Some x)
    s = one_found number_of n f.substrates (sound.valid.places.kept n (law.chamber stands.0) stands.2)
