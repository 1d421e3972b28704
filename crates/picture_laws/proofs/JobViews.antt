-- What process jobs say stays where substrates and carriers change in nothing that they look at.
use Rattle.std.proofs.Common.{◌≡◌, ℕ, Bool, true, false, List, [], Option, Some, refl}
use Rattle.carrier.specs.declared.carrier.Carrier.{Carrier}
use Rattle.carrier.specs.Carriers.{carrier_numbered}
use Rattle.process_job.specs.Jobs.{job_numbered, recipe_named}
use Rattle.process_job.specs.declared.job.ProcessJob.{ProcessJob}
use Rattle.tool_jobs.specs.Jobs.{Jobs}
use Rattle.floor_model.specs.declared.tracked.Substrate.{Substrate}
use Rattle.floor_model.specs.Floor.{substrate_numbered}
use Rattle.floor_model.specs.Jobs.{is_any_of_carrier, is_processing, is_stopping, is_aborting}
use Rattle.floor_moves.specs.Agree.{SayAlike}
use Rattle.place_laws.specs.Picture.{of_one, is_complete, steps_in, job_view}

-- what is said of substrates by their jobs alone is the same
abbrev pub SameJobs : List Substrate → List Substrate → Type 1
SameJobs ss ts = (B : Type 0) (else_ : B) (says : ℕ → B) (k : ℕ) → of_one else_ (λ (s : Substrate). says s.job) (substrate_numbered k ts) ≡ of_one else_ (λ (s : Substrate). says s.job) (substrate_numbered k ss)

module _ (at : ℕ → Option ℕ) (w : Jobs) where
  -- what is said of a process job, by its number
  abbrev said_of : {B : Type 0} → B → (ProcessJob → B) → ℕ → B
  said_of else_ says n = of_one else_ says (job_numbered n w.process.kept)

  pub substrates_alike : (cs : List Carrier) (ss ts : List Substrate) → SameJobs ss ts → SayAlike at (job_view ss cs w) (job_view ts cs w)
  substrates_alike cs ss ts same = record {
    is_member = λ n. same Bool false (said_of false (λ j. true)) n;
    may_start = λ n. same Bool false (said_of false (λ j. is_processing j.states.state)) n;
    is_stopping = λ n. same Bool false (said_of false (λ j. is_stopping j.states.state)) n;
    is_aborting = λ n. same Bool false (said_of false (λ j. is_aborting j.states.state)) n;
    is_complete = λ n. same Bool false (said_of false (λ j. is_complete j.states.state)) n;
    route_of = λ n. same (List (List ℕ)) [] (said_of [] (λ j. steps_in (recipe_named j.recipe w.process.recipes))) n;
    names_carrier = λ c p here. refl;
    is_marked = λ c p here. refl;
  }

  -- what is said of the names of carriers that are present, and of whether they are marked stopped, is the same
  pub carriers_alike : (ss : List Substrate) (cs ds : List Carrier)
      → ((says : List ℕ → Bool) (c p : ℕ) → at c ≡ Some p → of_one false (λ (x : Carrier). says x.name) (carrier_numbered c ds) ≡ of_one false (λ (x : Carrier). says x.name) (carrier_numbered c cs))
      → ((c p : ℕ) → at c ≡ Some p → of_one false (λ (x : Carrier). x.stopped) (carrier_numbered c ds) ≡ of_one false (λ (x : Carrier). x.stopped) (carrier_numbered c cs))
      → SayAlike at (job_view ss cs w) (job_view ss ds w)
  carriers_alike ss cs ds names marks = record {
    is_member = λ n. refl;
    may_start = λ n. refl;
    is_stopping = λ n. refl;
    is_aborting = λ n. refl;
    is_complete = λ n. refl;
    route_of = λ n. refl;
    names_carrier = λ c p here. names (λ name. is_any_of_carrier name w) c p here;
    is_marked = λ c p here. marks c p here;
  }
