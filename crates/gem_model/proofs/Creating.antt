-- Where a job is created no fault stands against it.
use Rattle.std.proofs.Common.{◌≡◌, ℕ, nat_lt, Bool, true, false, not, ◌&&◌, if◌then◌else◌, List, [], ◌∷◌, codes, length, Option, Some, None, is_some, refl}
use Rattle.std.specs.Str.{bytes_eq}
use Rattle.item_model.specs.Data.{Data}
use Rattle.process_job.specs.Jobs.{is_known, most_jobs}
use Rattle.process_job.specs.Creating.{is_recipe, is_some_material, create_fault}
use Rattle.process_job.specs.declared.fault.JobFault.{JobFault}
use Rattle.process_job.specs.declared.fault.JobFault.TheVariants.{NameTaken, NoRecipe, NoMaterial, NoSpace}
use Rattle.process_job.specs.declared.job.JobSpec.{JobSpec}
use Rattle.control_job.specs.Names.{are_named}
use Rattle.control_job.specs.Creating.{created, create_fault as control_create_fault}
use Rattle.control_job.specs.Jobs.{JobStore, headed, is_kept_open, most_jobs as most_control_jobs}
use Rattle.tool_jobs.specs.declared.fault.ControlFault.{ControlFault}
use Rattle.tool_jobs.specs.declared.fault.ControlFault.TheVariants as control
use Rattle.tool_jobs.specs.Creating.{control_fault, is_any_missing, is_any_owned}
use Rattle.tool_jobs.specs.Jobs.{Jobs}
use Rattle.request_model.specs.declared.error.JobError.{JobError}
use Rattle.request_model.specs.declared.error.JobError.TheVariants as error
use Rattle.request_model.specs.declared.control.ControlRequest.{ControlRequest}
use Rattle.request_model.specs.Errors.{first_error, or_else, of_process_fault, of_control_fault}
use Rattle.request_model.specs.Requests.{is_job_name, is_empty_list, process_error, request_error}

-- the fault of a creation, by its tests
abbrev fault_by : Bool → Bool → Bool → Bool → Option JobFault
fault_by known recipe material room =
    if known then Some NameTaken
    else (if not recipe then Some NoRecipe
    else (if not material then Some NoMaterial
    else (if room then None else Some (NoSpace most_jobs))))

no_fault : (known recipe material room : Bool) → of_process_fault (fault_by known recipe material room) ≡ None → fault_by known recipe material room ≡ None
no_fault true recipe material room e = absurd (cc)
no_fault false false material room e = absurd (cc)
no_fault false true false room e = absurd (cc)
no_fault false true true false e = absurd (cc)
no_fault false true true true e = refl

second_none : (first later : Option JobError) → or_else first later ≡ None → later ≡ None
second_none None later e = e
second_none (Some x) later e = absurd (cc)

-- where no error is told of a process job that is asked for, no fault stands against it
pub faultless : (local : Bool) (spec : JobSpec) (events : Data) (w : Jobs) → process_error local spec events w ≡ None → create_fault spec w.process ≡ None
faultless local spec events w e =
    no_fault (is_known spec.id w.process.kept) (is_recipe spec.recipe w.process.recipes) (is_some_material spec.material) (nat_lt (length w.process.kept) most_jobs)
    (second_none (first_error ((local, error.NotNow) ∷ (not (is_empty_list events), error.NotOffered) ∷ (not (is_job_name spec.id), error.UnknownObject) ∷ []))
    (of_process_fault (create_fault spec w.process)) e)

-- ---- control jobs

-- what becomes of the control jobs: one is created against which no fault stands, or one is made the head of the queue
pub data BecomesControl (w : Jobs) : JobStore → Type 0 where
  one_added : (name : List ℕ) (named : List (List ℕ)) (auto : Bool) → control_fault name named w ≡ None → BecomesControl w (created name named auto w.control)
  one_headed : (name : List ℕ) → BecomesControl w (headed name w.control)

-- the fault of a creation, by its tests
abbrev control_fault_by : Bool → Bool → Bool → Bool → Bool → Option ControlFault
control_fault_by kept unnamed missing owned room =
    if kept then Some control.NameTaken
    else (if unnamed then Some control.NoJobs
    else (if missing then Some control.NotThere
    else (if owned then Some control.HasControlJob
    else (if room then Some (control.NoSpace most_control_jobs) else None))))

no_control_fault : (kept unnamed missing owned room : Bool) → of_control_fault (control_fault_by kept unnamed missing owned room) ≡ None → control_fault_by kept unnamed missing owned room ≡ None
no_control_fault true unnamed missing owned room e = absurd (cc)
no_control_fault false true missing owned room e = absurd (cc)
no_control_fault false false true owned room e = absurd (cc)
no_control_fault false false false true room e = absurd (cc)
no_control_fault false false false false true e = absurd (cc)
no_control_fault false false false false false e = refl

-- where no error is told of a control job that is asked for, no fault stands against it
pub control_faultless : (local : Bool) (type : List ℕ) (r : ControlRequest) (w : Jobs) → request_error local type r w ≡ None → control_fault r.name r.jobs w ≡ None
control_faultless local type r w e =
    no_control_fault (is_kept_open r.name w.control.jobs) (not (are_named r.jobs)) (is_any_missing r.jobs w) (is_any_owned r.jobs w) (is_some (control_create_fault r.name r.jobs w.control.jobs))
    (second_none (first_error ((local, error.NotNow) ∷ (not (bytes_eq type (codes "ControlJob") && r.is_taken), error.NotOffered) ∷ (not (is_job_name r.name), error.UnknownObject) ∷ []))
    (of_control_fault (control_fault r.name r.jobs w)) e)
