-- What holds goes on where a process job is created, and where control jobs change.
use Rattle.std.proofs.Common.{◌≡◌, ◌≤◌, ℕ, ◌+◌, List, [], ◌∷◌, ◌++◌, map, Some, refl, sym, ◌∙◌, subst, arith}
use Rattle.gem_tables.specs.Table.{firing}
use Rattle.process_job.specs.Jobs.{job_numbered, created, with_created}
use Rattle.process_job.specs.declared.job.JobSpec.{JobSpec}
use Rattle.process_job.specs.declared.job.ProcessJob.{ProcessJob}
use Rattle.control_job.specs.Jobs.{JobStore}
use Rattle.tool_jobs.specs.Jobs.{Jobs}
use Rattle.floor_model.specs.declared.tracked.Substrate.{Substrate}
use Rattle.floor_model.specs.Floor.{ToolFloor, with_jobs, substrate_numbered, number_of}
use Rattle.floor_model.specs.Jobs.{job_of}
use Rattle.floor_model.specs.Machines.{floor_fired}
use Rattle.tool_jobs.specs.Rows.{control_fired}
use Rattle.shop_floor.proofs.Apart.{all_both, all_follows}
use Rattle.place_laws.specs.Sound.{IsInItsJob, JobsSound, Sound}
use Rattle.place_laws.proofs.Holding.{true_of_found}
use Rattle.floor_laws.proofs.JobChanges.{map_same}
use Rattle.floor_laws.proofs.JobSays.{behind, GoesOn, sound_on}
use Rattle.floor_laws.proofs.JobLists.{numbered_more, found_more}
use Rattle.floor_laws.proofs.JobFires.{here_before, over_before, stays_alone}

-- ---- control jobs

-- nothing that holds looks at control jobs
pub control_changes_sound : (f : ToolFloor) (s : JobStore) → Sound f → Sound (with_jobs (record f.jobs { control = s }) f)
control_changes_sound f s h = record {
  base = record {
    shop = h.base.shop;
    carried = h.base.carried;
    registered = h.base.registered;
    apart = h.base.apart;
    rising = h.base.rising;
    same_ports = h.base.same_ports;
    modules = h.base.modules;
    places = h.base.places;
    held = h.base.held;
    jobs = record { numbered = h.base.jobs.numbered; given = h.base.jobs.given; members = h.base.jobs.members };
  };
  ports = h.ports;
  unloading = h.unloading;
  valid = h.valid;
}

-- table 15
pub control_sound : (f : ToolFloor) (n row : ℕ) → Sound f → Sound (floor_fired (firing 15 n row) f)
control_sound f n row h = control_changes_sound f (control_fired row n f.jobs).control h

-- ---- a process job that is created

-- the jobs with one more
abbrev pub more_jobs : JobSpec → Jobs → Jobs
more_jobs j w = record w { process = with_created j w.process }

module _ (f : ToolFloor) (j : JobSpec) (h : Sound f) where
  -- the job that is created
  abbrev new : ProcessJob
  new = created (f.jobs.process.given + 1) j

  -- whoever has a job that was given is found in it as before
  same_job : (k : ℕ) → k ≤ f.jobs.process.given → job_numbered k (f.jobs.process.kept ++ new ∷ []) ≡ job_numbered k f.jobs.process.kept
  same_job k less = found_more k new f.jobs.process.kept (λ same. omega (arith, same, less))

  -- what holds of jobs
  jobs_created : JobsSound (with_jobs (more_jobs j f.jobs) f)
  jobs_created = record {
    numbered = numbered_more 0 f.jobs.process.given new f.jobs.process.kept h.base.jobs.numbered refl;
    given = all_follows (λ (s : Substrate). s.job ≤ f.jobs.process.given) (λ (s : Substrate). s.job ≤ f.jobs.process.given + 1) f.substrates (λ s less. omega (arith, less)) h.base.jobs.given;
    members = all_follows (λ (s : Substrate). (s.job ≤ f.jobs.process.given) × IsInItsJob f.shop.carriers f.jobs s) (IsInItsJob f.shop.carriers (more_jobs j f.jobs)) f.substrates (λ s both i e. both.1 i (sym (same_job s.job both.0) ∙ e)) (all_both _ _ f.substrates h.base.jobs.given h.base.jobs.members);
  }

  -- who is in a job was in it before
  was_in : (k : ℕ) (s : Substrate) (i : ProcessJob) → substrate_numbered k f.substrates ≡ Some s → job_of s (more_jobs j f.jobs) ≡ Some i → job_of s f.jobs ≡ Some i
  was_in k s i found its = sym (same_job s.job (true_of_found number_of k (λ (s : Substrate). s.job ≤ f.jobs.process.given) f.substrates s h.base.jobs.given found)) ∙ its

  -- and so all that is said of members
  goes_created : GoesOn f [] (λ (s : Substrate). s) stays_alone (more_jobs j f.jobs)
  goes_created = record {
    recipes = refl;
    stays = λ k s i found left its. (i, same_job s.job (true_of_found number_of k (λ (s : Substrate). s.job ≤ f.jobs.process.given) f.substrates s h.base.jobs.given found) ∙ its, refl);
    here = λ k s i found its. here_before f h.valid k s i found (was_in k s i found its);
    over = λ k s i found its done. over_before f h.valid k s i found (was_in k s i found its) done;
  }

  -- so all holds
  created_is : Sound (with_jobs (more_jobs j f.jobs) f)
  created_is =
      let same : map (λ (s : Substrate). s) f.substrates ≡ f.substrates = map_same f.substrates in
      let jobs : JobsSound (behind f [] (λ (s : Substrate). s) stays_alone (more_jobs j f.jobs)) = subst (λ (ss : List Substrate). JobsSound (record f { substrates = ss; jobs = more_jobs j f.jobs })) (sym same) jobs_created in
      subst (λ (ss : List Substrate). Sound (record f { substrates = ss; jobs = more_jobs j f.jobs })) same
      (sound_on f [] (λ (s : Substrate). s) stays_alone (more_jobs j f.jobs) h jobs goes_created)

-- a job that is created is in no substrate
pub created_sound : (f : ToolFloor) (j : JobSpec) → Sound f → Sound (with_jobs (record f.jobs { process = with_created j f.jobs.process }) f)
created_sound f j h = created_is f j h
