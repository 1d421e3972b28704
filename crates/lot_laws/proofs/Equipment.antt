-- Done of the open command of a module takes one off what is owed, with all its rows, where no row is ready before it.
use Rattle.std.proofs.Common.{◌≡◌, ℕ, ◌+◌, Bool, true, false, if◌then◌else◌, not, ◌&&◌, nat_lt, arith, ◌++◌, List, [], ◌∷◌, length, Option, Some, None, refl, sym, ◌∙◌, ap, subst}
use Rattle.std.proofs.lemmas.Bool.{true≢false}
use Rattle.gem_tables.specs.Table.{firing, is_one_of, is_among}
use Rattle.gem_tables.proofs.Rows.{one_of_cases}
use Rattle.tool_tasks.specs.declared.task.Command.{Command as ToolCommand}
use Rattle.tool_tasks.specs.declared.task.Task.{Task as ToolTask}
use Rattle.tool_tasks.specs.declared.task.Task.TheVariants as task
use Rattle.robot_moves.specs.declared.module.Module.{Module}
use Rattle.robot_moves.specs.declared.module.Module.TheVariants.{Idle, Busy, Down}
use Rattle.robot_moves.specs.Modules.{module_at, is_open}
use Rattle.substrate.specs.Tables.{processing_number, processing_table}
use Rattle.substrate.specs.declared.record.Processing.{Processing}
use Rattle.substrate.specs.declared.record.Processing.TheVariants as processing
use Rattle.floor_model.specs.declared.tracked.Substrate.{Substrate}
use Rattle.floor_model.specs.Floor.{ToolFloor, substrate_numbered}
use Rattle.floor_model.specs.Jobs.{job_of, is_job_so, is_aborting}
use Rattle.floor_model.specs.Modules.{number_named}
use Rattle.floor_model.specs.Views.{route_for, goes_on}
use Rattle.floor_model.specs.Signals.{at_module, done_row, at_done, done_processed, done_processing, done_at, done_rows}
use Rattle.floor_model.specs.Machines.{substrate_starts, floor_starts, floor_fired, floor_least}
use Rattle.floor_moves.specs.Floor as law
use Rattle.floor_moves.specs.Floor.{Loc, next_step}
use Rattle.floor_moves.specs.Valid.{ProcessStands, IsUnnamed}
use Rattle.place_laws.specs.Picture.{picture}
use Rattle.place_laws.specs.Sound.{Sound}
use Rattle.place_laws.proofs.Routes.{its_job, last_is}
use Rattle.floor_laws.specs.Rows.{one_listed, listed}
use Rattle.floor_laws.proofs.EndOpen.{command_of, busy_at}
use Rattle.floor_laws.proofs.EndProcess.{done_closes, done_unnamed, process_sound}
use Rattle.floor_laws.proofs.EndRunning.{process_numbered, IsRunning, running_there}
use Rattle.floor_laws.proofs.FloorInputs.{listed_starts, done_starts, done_one}
use Rattle.lot_laws.specs.Lot.{HaveRoutes, Executes, TakesOneOff}
use Rattle.lot_laws.proofs.Standing.{on_base, job_said, undisturbed}
use Rattle.lot_laws.proofs.Answers.{done_moved-falls, stepped-falls, closed-executes, processed-falls}

-- one whose job isn't ABORTING goes on where a step is left
none_more : (a b : Bool) → a ≡ false → (not a && b) ≡ false → b ≡ false
none_more false b whole e = e
none_more true b whole e = absurd (true≢false whole)

-- a chamber is one by its place
same_chamber : (c d : ℕ) → Some (law.chamber c) ≡ Some (law.chamber d) → c ≡ d
same_chamber c d e = cc

-- row 3 or 4 of table 13 starts at one that is IN PROCESS
pub running_starts : (g : ToolFloor) (n row : ℕ) (s : Substrate) → substrate_numbered n g.substrates ≡ Some s → s.states.processing ≡ processing.InProcess → is_one_of (3 ∷ 4 ∷ []) row ≡ true → floor_starts (firing 13 n row) g ≡ true
running_starts g n row s known running one =
    one_of_cases (λ (r : ℕ). floor_starts (firing 13 n r) g ≡ true) (3 ∷ 4 ∷ []) row (
      ap (λ (o : Option Substrate). substrate_starts processing_number processing_table (λ x. x.processing) 3 o g) known ∙ ap (λ (p : Processing). (is_among processing_number (processing.InProcess ∷ []) p) && true) running,
      (ap (λ (o : Option Substrate). substrate_starts processing_number processing_table (λ x. x.processing) 4 o g) known ∙ ap (λ (p : Processing). (is_among processing_number (processing.InProcess ∷ []) p) && true) running, tt),
    ) one

-- ---- Done

module _ (number : ℕ) (planned : ℕ → List (List ℕ)) (counted : ℕ → Bool) (f : ToolFloor) (sound : Sound f) (routes : HaveRoutes f) (rest : floor_least f ≡ None) (e : Executes number planned counted f) (m : ℕ) where
  module _ (c : ToolCommand) (fetched : Bool) (here : module_at m f.modules ≡ Some (Busy c fetched)) where
    -- the row of a task that is no Process
    alone : (t : ToolTask) → c.task ≡ t → ((sub recipe : List ℕ) → t ≡ task.Process sub recipe → ⊥) → TakesOneOff number planned counted f (listed (firing 16 m (done_row t) ∷ []) f)
    alone t q other =
        subst (λ (g : ToolFloor). TakesOneOff number planned counted f g) (sym (listed_starts (firing 16 m (done_row t)) f (done_starts m f c fetched here t q)))
        (done_moved-falls number planned counted f sound e m c fetched here t q other)

    -- the rows of a Process
    module _ (sub recipe : List ℕ) (q : c.task ≡ task.Process sub recipe) (n : ℕ) (names : number_named sub f.places ≡ Some n) where
      r : IsRunning f n
      r = running_there f sound rest m c fetched here sub recipe q n names

      closes : floor_starts (firing 16 m 7) f ≡ true
      closes = done_starts m f c fetched here (task.Process sub recipe) q

      -- by numbers
      stands : ProcessStands m n (picture f)
      stands = sound.valid.commands.processes m n (command_of c f.places) (busy_at f m c fetched here) (process_numbered f c sub recipe q n names)

      -- its job isn't ABORTING
      whole : is_job_so is_aborting (job_of r.one f.jobs) ≡ false
      whole =
          job_said f n r.one r.known is_aborting
          ∙ (undisturbed number planned counted f (on_base f sound.base) e).jobs.not_aborting n

      -- one that doesn't go on has done the last step of its route
      last : goes_on (substrate_numbered n f.substrates) f ≡ false → (picture f).steps_of n + 1 ≡ length ((picture f).jobs.route_of n)
      last stays =
          let j = its_job f n r.one r.known r.member in
          let none = none_more (is_job_so is_aborting (job_of r.one f.jobs)) (nat_lt (r.one.steps + 1) (length (route_for r.one f.jobs))) whole (sym (ap (λ (o : Option Substrate). goes_on o f) r.known) ∙ stays) in
          let most = last_is f n r.one r.known j.0 j.1 none in
          let left = sound.valid.members.left n r.member stands.3 in
          omega (arith, most, left)

      -- the chamber is in its next step
      due : is_one_of (next_step n (picture f)) r.chamber ≡ true
      due = subst (λ (d : ℕ). is_one_of (next_step n (picture f)) d ≡ true) (same_chamber stands.0 r.chamber (sym stands.2 ∙ r.at)) stands.4

      -- it is done, or the substrate ends by its second row
      processed : IsUnnamed n (picture (floor_fired (firing 16 m 7) f)) → (b : Bool) → goes_on (substrate_numbered n f.substrates) f ≡ b
          → TakesOneOff number planned counted f (listed (firing 16 m 7 ∷ (if b then [] else firing 13 n (done_processing n f) ∷ [])) f)
      processed unnamed true goes =
          subst (λ (g : ToolFloor). TakesOneOff number planned counted f g) (sym (listed_starts (firing 16 m 7) f closes))
          (stepped-falls number planned counted f sound e m c fetched here sub recipe q n names routes r goes)
      processed unnamed false stays =
          let row = done_processing n f in
          let one = done_one n f in
          let g = floor_fired (firing 16 m 7) f in
          let same = done_closes f m c fetched here sub recipe q n names stays in
          let closed = closed-executes number planned counted f sound e m c fetched here sub recipe q n names stays in
          let starts = running_starts g n row r.one (ap (λ (h : ToolFloor). substrate_numbered n h.substrates) same ∙ r.known) r.running one in
          let falls = processed-falls number planned counted g closed.0 n (process_sound f m c fetched here sub recipe q n names sound r) unnamed row r.chamber one starts
          (ap (λ (h : ToolFloor). (picture h).place_of n) same ∙ r.at)
          (ap (λ (h : ToolFloor). is_one_of (next_step n (picture h)) r.chamber) same ∙ due)
          (subst (λ (h : ToolFloor). (picture h).steps_of n + 1 ≡ length ((picture h).jobs.route_of n)) (sym same) (last stays))
          (ap (λ (h : ToolFloor). (picture h).jobs.is_member n) same ∙ r.member)
          in
          subst (λ (g : ToolFloor). TakesOneOff number planned counted f (one_listed (firing 13 n row) g)) (sym (listed_starts (firing 16 m 7) f closes))
          (subst (λ (g : ToolFloor). TakesOneOff number planned counted f g) (sym (listed_starts (firing 13 n row) g starts)) (falls.0, falls.1 ∙ closed.1))

    -- by the task
    by_task : (t : ToolTask) → c.task ≡ t → TakesOneOff number planned counted f (listed (at_module (done_row t) m ++ done_processed t f) f)
    by_task (task.Pick sub from) q = alone (task.Pick sub from) q (λ s r u. cc)
    by_task (task.Place sub to) q = alone (task.Place sub to) q (λ s r u. cc)
    by_task (task.Align sub) q = alone (task.Align sub) q (λ s r u. cc)
    by_task (task.Process sub recipe) q =
        let w = done_unnamed f m c fetched here sound sub recipe q in
        subst (λ (o : Option ℕ). TakesOneOff number planned counted f (listed (firing 16 m 7 ∷ at_done o f) f)) (sym w.1) (processed sub recipe q w.0 w.1 w.2 (goes_on (substrate_numbered w.0 f.substrates) f) refl)

  -- Done of the open command of a module
  pub done-falls : (command : ℕ) → is_open command (module_at m f.modules) ≡ true → TakesOneOff number planned counted f (listed (done_rows m f) f)
  done-falls command open_there = of (module_at m f.modules) refl open_there where
    of : (o : Option Module) → module_at m f.modules ≡ o → is_open command o ≡ true → TakesOneOff number planned counted f (listed (done_at m o f) f)
    of None here is = absurd (cc)
    of (Some Idle) here is = absurd (cc)
    of (Some Down) here is = absurd (cc)
    of (Some (Busy c fetched)) here is = by_task c fetched here c.task refl
