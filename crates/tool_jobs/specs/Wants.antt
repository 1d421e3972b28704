-- What the rows of tables 14 and 15 want besides the states (after SEMI E40 and SEMI E94; this tool's profile, tables 14 and 15).
use Rattle.std.specs.Prelude.{ℕ, ◌==◌, Bool, true, false, not, ◌&&◌, ◌||◌, List, [], ◌∷◌, Option, Some, None}
use Rattle.std.specs.Str.{bytes_eq}
use Rattle.process_job.specs.Tables as want
use Rattle.process_job.specs.Tables.{JobWant}
use Rattle.process_job.specs.declared.job.ProcessJob.{ProcessJob}
use Rattle.control_job.specs.Tables as control
use Rattle.control_job.specs.Tables.{ControlWant, state_number}
use Rattle.control_job.specs.Jobs.{JobStore, first_waiting, is_any_active}
use Rattle.control_job.specs.declared.job.ControlJob.{ControlJob}
use Rattle.control_job.specs.declared.record.Ending.{Ending}
use Rattle.control_job.specs.declared.record.Ending.TheVariants.{No, ByStop, ByAbort}
use Rattle.tool_jobs.specs.declared.sight.Sight.{Sight}
use Rattle.tool_jobs.specs.Jobs.{Jobs, owner}

-- ---- how the control job of a process job ends

abbrev pub is_ending : Ending → Bool
is_ending No = false
is_ending _ = true

abbrev pub is_by_stop : Ending → Bool
is_by_stop ByStop = true
is_by_stop _ = false

abbrev pub is_by_abort : Ending → Bool
is_by_abort ByAbort = true
is_by_abort _ = false

-- there is a control job, and its ending is such
abbrev pub ends_so : (Ending → Bool) → Option ControlJob → Bool
ends_so test None = false
ends_so test (Some c) = test c.states.ending

-- ---- a process job

-- a name is the first of these
abbrev pub is_first : List ℕ → List (List ℕ) → Bool
is_first name [] = false
is_first name (n ∷ names) = bytes_eq n name

-- there is a control job that is EXECUTING and isn't ending, and the process job of a name is the first left in it
abbrev pub is_first_left : List ℕ → Option ControlJob → Bool
is_first_left name None = false
is_first_left name (Some c) = ((state_number c.states.state == 3) && not (is_ending c.states.ending)) && is_first name c.left

-- what a row of a process job wants is so, where the floor shows this of its carriers and substrates
abbrev pub process_wants : JobWant → ProcessJob → Sight → Jobs → Bool
process_wants want.nothing_more j sight w = true
process_wants want.first_left j sight w = is_first_left j.id (owner j.id w) && sight.here
process_wants want.start_by_hand j sight w = not j.auto
process_wants want.automatic_start j sight w = j.auto
process_wants want.settled j sight w = sight.settled
process_wants want.none_outside j sight w = sight.still
process_wants want.control_job_ends j sight w = ends_so is_ending (owner j.id w)
process_wants want.control_job_stops j sight w = ends_so is_by_stop (owner j.id w)
process_wants want.control_job_aborts j sight w = ends_so is_by_abort (owner j.id w)

-- ---- a control job

-- no name is left
abbrev pub is_none_left : List (List ℕ) → Bool
is_none_left [] = true
is_none_left (n ∷ names) = false

-- the number is that one
abbrev pub is_that : ℕ → Option ℕ → Bool
is_that n None = false
is_that n (Some m) = m == n

-- the material of its first process job is here, or none is left
abbrev pub is_ready : ControlJob → Bool → Bool
is_ready c here = is_none_left c.left || here

-- what a row of a control job wants is so, where the material of its first process job is here, or isn't
abbrev pub control_wants : ControlWant → ControlJob → Bool → JobStore → Bool
control_wants control.nothing_more c here s = true
control_wants control.first_queued_and_none_active c here s = is_that c.number (first_waiting s) && not (is_any_active s.jobs)
control_wants control.ready_by_hand c here s = not c.auto && is_ready c here
control_wants control.ready_by_itself c here s = c.auto && is_ready c here
control_wants control.none_left c here s = is_none_left c.left
