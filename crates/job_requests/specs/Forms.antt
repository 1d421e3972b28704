-- The form in which the process jobs are named, as the readers of an S14F9 take it (SEMI E94, S14F9; this tool's profile, messages).
use Rattle.std.specs.Prelude.{ℕ, List}
use Rattle.message_model.specs.Bodies.{Form, text}
use Rattle.request_model.specs.Attributes.{job_with_more}
use Rattle.job_requests.specs.declared.attributes.JobForm.{JobForm}
use Rattle.job_requests.specs.declared.attributes.JobForm.TheVariants.{Alone, WithMore}

-- the form of one of the names: the text alone, or the list that begins with it
abbrev pub job_form : JobForm → Form (List ℕ)
job_form Alone = text
job_form WithMore = job_with_more
