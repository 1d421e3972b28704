-- What a command on a control job does, as it is handed out (SEMI E94, S16F27).
use Rattle.std.specs.Prelude.{ℕ, List, [], ◌∷◌, Option, Some, None}
use Rattle.gem_tables.specs.Table.{firing}
use Rattle.gem_tables.specs.declared.firing.Firing.{Firing}
use Rattle.control_job.specs.Jobs.{headed}
use Rattle.control_job.specs.declared.job.ControlJob.{ControlJob}
use Rattle.tool_jobs.specs.Jobs.{Jobs}
use Rattle.request_model.specs.declared.queue.QueueAct.{QueueAct}
use Rattle.request_model.specs.declared.queue.QueueAct.TheVariants.{Fires, Heads}

-- what it fires
abbrev pub act_rows : Option QueueAct → List Firing
act_rows (Some (Fires f)) = f ∷ []
act_rows (Some Heads) = []
act_rows None = []

-- what it does to the queue, at the job of a name
abbrev pub act_after : List ℕ → Option QueueAct → Jobs → Jobs
act_after job (Some (Fires f)) w = w
act_after job (Some Heads) w = record w { control = headed job w.control }
act_after job None w = w

-- a row fires at a control job that was looked for
abbrev pub row_at : ℕ → Option ControlJob → Option QueueAct
row_at row None = None
row_at row (Some c) = Some (Fires (firing 15 c.number row))
