-- One that executes is at work, and one that is at work executes where it is EXECUTING and each process job that is left in it goes on.
use Rattle.std.proofs.Common.{◌≡◌, ℕ, Bool, true, false, List, [], ◌∷◌, Option, Some, None, refl, sym, ap}
use Rattle.std.proofs.lemmas.Bool.{true≢false}
use Rattle.std.proofs.lemmas.Bool.Decides.{Decides-eqb}
use Rattle.gem_tables.specs.Table.{is_one_of}
use Rattle.process_job.specs.Jobs.{job_numbered}
use Rattle.process_job.specs.declared.record.JobState.{JobState}
use Rattle.process_job.specs.declared.record.JobState.TheVariants as state
use Rattle.process_job.specs.declared.job.ProcessJob.{ProcessJob}
use Rattle.control_job.specs.Jobs.{job_numbered as control_numbered}
use Rattle.control_job.specs.Tables.{states_number}
use Rattle.control_job.specs.declared.job.ControlJob.{ControlJob}
use Rattle.tool_jobs.specs.Jobs.{Jobs}
use Rattle.floor_model.specs.Floor.{ToolFloor}
use Rattle.queue_laws.specs.Started.{is_left_in}
use Rattle.queue_laws.specs.Steers.{Steers, is_executing, goes_on}
use Rattle.lot_laws.specs.Lot.{Executes, is_under_way, breaks_off, AtWork}

-- one that goes on isn't STOPPING or ABORTING
pub going_whole : (s : JobState) → goes_on s ≡ true → breaks_off s ≡ false
going_whole state.Queued g = refl
going_whole state.SettingUp g = refl
going_whole state.Processing g = refl
going_whole state.Complete g = refl
going_whole _ g = absurd (true≢false (sym g))

-- one that is EXECUTING is at work
pub executing_works : (o : Option ControlJob) → is_executing o ≡ true → is_under_way o ≡ true
executing_works None e = e
executing_works (Some c) e = ap (is_one_of (3 ∷ 4 ∷ [])) ((Decides-eqb (states_number c.states) 3).0 e)

pub at_work_of : (number : ℕ) (planned : ℕ → List (List ℕ)) (counted : ℕ → Bool) (f : ToolFloor) → Executes number planned counted f → AtWork number planned counted f.jobs f
at_work_of number planned counted f e = record {
  steers = record {
    works = executing_works (control_numbered number f.jobs.control.jobs) e.steers.executes;
    alone = e.steers.alone;
    auto = e.steers.auto;
    whole = λ n j kept left. going_whole j.states.state (e.steers.going n j kept left);
    started = e.steers.started;
    were = λ n j kept left. (j, kept, left);
  };
  here = e.here;
  members = e.members;
  stands = e.stands;
  all = e.all;
  substrates = e.substrates;
}

module _ (number : ℕ) (planned : ℕ → List (List ℕ)) (counted : ℕ → Bool) (f : ToolFloor) where
  pub executes_of : {before : Jobs} → AtWork number planned counted before f → is_executing (control_numbered number f.jobs.control.jobs) ≡ true
      → ((n : ℕ) (j : ProcessJob) → job_numbered n f.jobs.process.kept ≡ Some j → is_left_in number j.id f.jobs ≡ true → goes_on j.states.state ≡ true) → Executes number planned counted f
  executes_of e executes going = record {
    steers = record { executes = executes; alone = e.steers.alone; auto = e.steers.auto; going = going; started = e.steers.started };
    here = e.here;
    members = e.members;
    stands = e.stands;
    all = e.all;
    substrates = e.substrates;
  }

  -- so it does where it steers
  pub executes_by : {before : Jobs} → AtWork number planned counted before f → Steers number f.jobs → Executes number planned counted f
  executes_by e v = executes_of e v.executes v.going
