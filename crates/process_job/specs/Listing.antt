-- What S16F20 tells of the process jobs (this tool's profile, S16F19).
use Rattle.std.specs.Prelude.{List, [], ◌∷◌}
use Rattle.item_model.specs.Data.{Data, DataList, list, ascii, u1, no_items, item}
use Rattle.process_job.specs.Tables.{job_number}
use Rattle.process_job.specs.declared.job.ProcessJob.{ProcessJob}

-- a job: its name, and the number of its state
abbrev pub job_item : ProcessJob → Data
job_item j = list (item (ascii j.id) (item (u1 (job_number j.states.state ∷ [])) no_items))

-- the jobs, in their order
abbrev pub job_items : List ProcessJob → DataList
job_items [] = no_items
job_items (j ∷ js) = item (job_item j) (job_items js)

-- the items of a list, and those of another behind them
abbrev pub joined : DataList → DataList → DataList
joined no_items more = more
joined (item d ds) more = item d (joined ds more)
