-- Where no row of tables 12 and 13 is ready.
use Rattle.std.proofs.Common.{◌≡◌, ℕ, ◌==◌, Bool, true, false, not, ◌&&◌, ◌||◌, if◌then◌else◌, cond, List, [], ◌∷◌, map, Option, Some, None, refl, sym}
use Rattle.std.specs.List.{list_any}
use Rattle.std.proofs.lemmas.Bool.{true≢false}
use Rattle.gem_tables.specs.Table.{first_itself}
use Rattle.gem_tables.specs.Machine.{first_ready, ready_in}
use Rattle.gem_tables.proofs.Machines.{none_ready}
use Rattle.robot_moves.specs.declared.module.Module.{Module}
use Rattle.robot_moves.specs.declared.module.Module.TheVariants.{Idle, Busy, Down}
use Rattle.substrate.specs.Places.{is_any_at_work}
use Rattle.substrate.specs.Record.{is_needing, is_in_process}
use Rattle.substrate.specs.Tables.{transport_number, transport_table, processing_number, processing_table}
use Rattle.substrate.specs.declared.record.Transport.{Transport}
use Rattle.substrate.specs.declared.record.Transport.TheVariants.{AtSource, AtWork, AtDestination}
use Rattle.substrate.specs.declared.record.Processing.{Processing}
use Rattle.substrate.specs.declared.record.Processing.TheVariants.{NeedsProcessing, InProcess, Processed, Aborted, Stopped, Rejected, Lost, Skipped}
use Rattle.records.proofs.Truth.{or_false}
use Rattle.tool_tasks.specs.declared.task.Command.{Command}
use Rattle.tool_tasks.specs.declared.task.Task.{Task}
use Rattle.tool_tasks.specs.declared.task.Task.TheVariants as task
use Rattle.floor_model.specs.declared.tracked.Substrate.{Substrate}
use Rattle.floor_model.specs.Floor.{ToolFloor, substrate_numbered, number_of}
use Rattle.floor_model.specs.Machines.{substrate_ready, floor_machines}
use Rattle.floor_model.specs.Substrates.{is_outside, is_in_slot}
use Rattle.floor_model.specs.Naming.{module_names, task_processes, processes}
use Rattle.floor_model.specs.Wants.{is_between, substrate_wants}
use Rattle.process_job.specs.Jobs.{has_number, job_numbered}
use Rattle.process_job.specs.declared.job.ProcessJob.{ProcessJob}
use Rattle.process_job.specs.declared.record.JobState.{JobState}
use Rattle.floor_model.specs.Jobs.{job_of, is_job_so, is_stopping, is_aborting, is_ending}
use Rattle.floor_model.proofs.Working.{none_outside}

-- a substrate that is found by its number fails a test that none passes
found_fails : (test : Substrate → Bool) (n : ℕ) (ss : List Substrate) (s : Substrate) → list_any test ss ≡ false → substrate_numbered n ss ≡ Some s → test s ≡ false
found_fails test n [] s none e = absurd (cc)
found_fails test n (t ∷ ts) s none e =
    let parts = or_false (test t) (list_any test ts) none in
    of (t.number == n) parts.0 e (found_fails test n ts s parts.1)
  where
    of : (b : Bool) → test t ≡ false → cond b (Some t) (substrate_numbered n ts) ≡ Some s → (substrate_numbered n ts ≡ Some s → test s ≡ false) → test s ≡ false
    of true here is later = let same : t ≡ s = cc in rw (sym same) here
    of false here is later = later is

-- ---- transport

-- one that is AT WORK
abbrev pub moves_back : Substrate → Bool
moves_back s = transport_number s.states.transport == 1

-- none of a substrate that is not outside, and not AT WORK
none_of_transport : (f : ToolFloor) (s : Substrate) (t : Transport) → is_outside s f.places ≡ false → (transport_number t == 1) ≡ false
    → first_itself transport_number (λ want. substrate_wants want s f) transport_table t ≡ None
none_of_transport f s AtSource inside other = rw inside refl
none_of_transport f s AtWork inside other = absurd (true≢false other)
none_of_transport f s AtDestination inside other = refl

-- none where none is at work, by its place and by its state
pub no_transport : (f : ToolFloor) → is_any_at_work f.places ≡ false → list_any moves_back f.substrates ≡ false
    → first_ready 12 (λ n. ready_in floor_machines 12 n f) (map number_of f.substrates) ≡ None
no_transport f none other =
    none_ready 12 (λ n. ready_in floor_machines 12 n f) (map number_of f.substrates)
    (λ n. of (substrate_numbered n f.substrates) (λ s e. found_fails moves_back n f.substrates s other e))
  where
    of : (o : Option Substrate) → ((s : Substrate) → o ≡ Some s → moves_back s ≡ false) → substrate_ready transport_number transport_table (λ r. r.transport) o f ≡ None
    of None fails = refl
    of (Some s) fails = none_of_transport f s s.states.transport (none_outside s f.places none) (fails s refl)

-- ---- processing

-- one that NEEDS PROCESSING, which a module has an open command for
abbrev pub is_due : Module → Substrate → Bool
is_due m s = is_needing s.states.processing && processes s.sub m

none_due : (ss : List Substrate) → list_any (λ (s : Substrate). is_needing s.states.processing && false) ss ≡ false
none_due [] = refl
none_due (s ∷ ss) = of (is_needing s.states.processing) (none_due ss) where
  of : (b : Bool) → list_any (λ (x : Substrate). is_needing x.states.processing && false) ss ≡ false → ((b && false) || list_any (λ (x : Substrate). is_needing x.states.processing && false) ss) ≡ false
  of true later = later
  of false later = later

-- no task but a Process is for one
pub no_task_due : (ss : List Substrate) (t : Task) → ((sub recipe : List ℕ) → t ≡ task.Process sub recipe → ⊥) → list_any (λ (s : Substrate). is_needing s.states.processing && task_processes s.sub t) ss ≡ false
no_task_due ss (task.Pick sub from) other = none_due ss
no_task_due ss (task.Place sub to) other = none_due ss
no_task_due ss (task.Align sub) other = none_due ss
no_task_due ss (task.Process sub recipe) other = absurd (other sub recipe refl)

-- nor has a module an open command for one that has none
pub no_module_due : (ss : List Substrate) (m : Module) → ((c : Command) (fetched : Bool) → m ≡ Busy c fetched → ⊥) → list_any (is_due m) ss ≡ false
no_module_due ss Idle other = none_due ss
no_module_due ss (Busy c fetched) other = absurd (other c fetched refl)
no_module_due ss Down other = none_due ss

module _ (ss : List Substrate) (n : ℕ) (s : Substrate) (found : substrate_numbered n ss ≡ Some s) (needs : is_needing s.states.processing ≡ true) where
  -- where no module has one for a substrate that needs it, none has for this
  none_processes : (ms : List Module) → list_any (λ m. list_any (is_due m) ss) ms ≡ false → list_any (processes s.sub) ms ≡ false
  none_processes [] none = refl
  none_processes (m ∷ ms) none =
      let parts = or_false (list_any (is_due m) ss) (list_any (λ x. list_any (is_due x) ss) ms) none in
      let due = found_fails (is_due m) n ss s parts.0 found in
      let here : processes s.sub m ≡ false = of (is_needing s.states.processing) (processes s.sub m) needs due in
      rw here (none_processes ms parts.1)
    where
      of : (a b : Bool) → a ≡ true → (a && b) ≡ false → b ≡ false
      of true b is e = e
      of false b is e = absurd (true≢false (sym is))

-- ---- the process jobs

-- where no process job is STOPPING or ABORTING, that of no substrate is
module _ (n : ℕ) where
  of_test : (test : JobState → Bool) → ((j : ProcessJob) → is_ending j ≡ false → test j.states.state ≡ false) → (js : List ProcessJob) → list_any is_ending js ≡ false → is_job_so test (job_numbered n js) ≡ false
  of_test test less [] none = refl
  of_test test less (j ∷ js) none =
      let parts = or_false (is_ending j) (list_any is_ending js) none in
      of (has_number n j) (less j parts.0) (of_test test less js parts.1)
    where
      of : (b : Bool) → test j.states.state ≡ false → is_job_so test (job_numbered n js) ≡ false → is_job_so test (if b then Some j else job_numbered n js) ≡ false
      of true here later = here
      of false here later = later

  none_stopping : (js : List ProcessJob) → list_any is_ending js ≡ false → is_job_so is_stopping (job_numbered n js) ≡ false
  none_stopping = of_test is_stopping (λ j none. (or_false (is_stopping j.states.state) (is_aborting j.states.state) none).0)

  none_aborting : (js : List ProcessJob) → list_any is_ending js ≡ false → is_job_so is_aborting (job_numbered n js) ≡ false
  none_aborting = of_test is_aborting (λ j none. (or_false (is_stopping j.states.state) (is_aborting j.states.state) none).1)

-- none of rows 6 and 7 where the process job is in neither state
ends : (stopped aborted : Option ℕ) (stops aborts out between : Bool) → stops ≡ false → aborts ≡ false
    → (if (out && stops) && between then stopped else (if (out && aborts) && between then aborted else None)) ≡ None
ends stopped aborted true aborts out between e g = absurd (cc)
ends stopped aborted false true out between e g = absurd (cc)
ends stopped aborted false false true between e g = refl
ends stopped aborted false false false between e g = refl

-- nor row 5
chain : (skipped stopped aborted : Option ℕ) (stops aborts out here between : Bool) → stops ≡ false → aborts ≡ false
    → (if (stops || aborts) && here then skipped else (if (out && stops) && between then stopped else (if (out && aborts) && between then aborted else None))) ≡ None
chain skipped stopped aborted true aborts out here between e g = absurd (cc)
chain skipped stopped aborted false true out here between e g = absurd (cc)
chain skipped stopped aborted false false out here between e g = ends stopped aborted false false out between refl refl

-- none of a substrate that none processes, and whose process job isn't ending
none_of_processing : (f : ToolFloor) (s : Substrate) (p : Processing) → (is_needing p ≡ true → list_any (processes s.sub) f.modules ≡ false)
    → is_job_so is_stopping (job_of s f.jobs) ≡ false → is_job_so is_aborting (job_of s f.jobs) ≡ false
    → first_itself processing_number (λ want. substrate_wants want s f) processing_table p ≡ None
none_of_processing f s NeedsProcessing none stops aborts =
    rw (none refl) (chain (Some 5) (Some 6) (Some 7) (is_job_so is_stopping (job_of s f.jobs)) (is_job_so is_aborting (job_of s f.jobs)) (is_outside s f.places) (is_in_slot s f.places && not (list_any (module_names s.sub) f.modules)) (not (is_in_process s.states.processing && false)) stops aborts)
none_of_processing f s InProcess none stops aborts =
    ends (Some 6) (Some 7) (is_job_so is_stopping (job_of s f.jobs)) (is_job_so is_aborting (job_of s f.jobs)) (is_outside s f.places) (is_between s f) stops aborts
none_of_processing f s Processed none stops aborts = refl
none_of_processing f s Aborted none stops aborts = refl
none_of_processing f s Stopped none stops aborts = refl
none_of_processing f s Rejected none stops aborts = refl
none_of_processing f s Lost none stops aborts = refl
none_of_processing f s Skipped none stops aborts = refl

-- none where no module has an open command for a substrate that needs it, and no process job is STOPPING or ABORTING
pub no_processing : (f : ToolFloor) → list_any (λ m. list_any (is_due m) f.substrates) f.modules ≡ false → list_any is_ending f.jobs.process.kept ≡ false
    → first_ready 13 (λ n. ready_in floor_machines 13 n f) (map number_of f.substrates) ≡ None
no_processing f none calm =
    none_ready 13 (λ n. ready_in floor_machines 13 n f) (map number_of f.substrates)
    (λ n. of (substrate_numbered n f.substrates) (λ s e needs. none_processes f.substrates n s e needs f.modules none))
  where
    of : (o : Option Substrate) → ((s : Substrate) → o ≡ Some s → is_needing s.states.processing ≡ true → list_any (processes s.sub) f.modules ≡ false) → substrate_ready processing_number processing_table (λ r. r.processing) o f ≡ None
    of None fails = refl
    of (Some s) fails = none_of_processing f s s.states.processing (fails s refl) (none_stopping s.job f.jobs.process.kept calm) (none_aborting s.job f.jobs.process.kept calm)
