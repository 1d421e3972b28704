-- Why something that the host asks of jobs isn't done (this tool's profile, messages, errors).
use Rattle.std.specs.Prelude.{ℕ, ◌==◌, Bool, if◌then◌else◌, List, [], ◌∷◌, codes, Option, Some, None, Result, Ok, Err}
use Rattle.process_job.specs.declared.fault.JobFault.{JobFault}
use Rattle.process_job.specs.declared.fault.JobFault.TheVariants as process
use Rattle.tool_jobs.specs.declared.fault.ControlFault.{ControlFault}
use Rattle.tool_jobs.specs.declared.fault.ControlFault.TheVariants as control
use Rattle.request_model.specs.declared.error.JobError.{JobError}
use Rattle.request_model.specs.declared.error.JobError.TheVariants.{UnknownObject, NotNow, NameTaken, NoRecipe, NoMaterial, NoSpace, UnknownCommand, NotOffered}

-- the codes of the errors
abbrev pub error_code : JobError → ℕ
error_code UnknownObject = 1
error_code NotNow = 2
error_code NameTaken = 3
error_code NoRecipe = 4
error_code NoMaterial = 5
error_code NoSpace = 6
error_code UnknownCommand = 7
error_code NotOffered = 8

-- their texts
abbrev pub error_text : JobError → List ℕ
error_text UnknownObject = codes "unknown object"
error_text NotNow = codes "not now"
error_text NameTaken = codes "name taken"
error_text NoRecipe = codes "no recipe"
error_text NoMaterial = codes "no material"
error_text NoSpace = codes "no space"
error_text UnknownCommand = codes "unknown command"
error_text NotOffered = codes "not offered"

-- the error of the first of these tests that holds
abbrev pub first_error : List (Bool × JobError) → Option JobError
first_error [] = None
first_error (one ∷ others) = if one.0 then Some one.1 else first_error others

-- the first error, or what comes behind it
abbrev pub or_else : Option JobError → Option JobError → Option JobError
or_else (Some e) later = Some e
or_else None later = later

-- the error of a fault in the creation of a process job; want of memory is none
abbrev pub of_process_fault : Option JobFault → Option JobError
of_process_fault None = None
of_process_fault (Some process.NameTaken) = Some NameTaken
of_process_fault (Some process.NoRecipe) = Some NoRecipe
of_process_fault (Some process.NoMaterial) = Some NoMaterial
of_process_fault (Some (process.NoSpace most)) = Some NoSpace
of_process_fault (Some process.NoMemory) = None

-- the error of a fault in the creation of a control job
abbrev pub of_control_fault : Option ControlFault → Option JobError
of_control_fault None = None
of_control_fault (Some control.NameTaken) = Some NameTaken
of_control_fault (Some control.NoJobs) = Some NoMaterial
of_control_fault (Some control.NotThere) = Some UnknownObject
of_control_fault (Some control.HasControlJob) = Some NotNow
of_control_fault (Some (control.NoSpace most)) = Some NoSpace
of_control_fault (Some control.NoMemory) = None

-- the error that a command is answered by its code: 1, 2 or 7
abbrev pub of_code : ℕ → JobError
of_code n = if n == 1 then UnknownObject else (if n == 7 then UnknownCommand else NotNow)

-- the error of a command's answer; none where it is done
abbrev pub of_answer : {A : Type 0} → Result A ℕ → Option JobError
of_answer (Ok a) = None
of_answer (Err n) = Some (of_code n)
