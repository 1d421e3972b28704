-- How the process jobs are kept.
use Rattle.std.specs.Prelude.{ℕ, List}
use Rattle.tool_tasks.specs.declared.recipes.Recipe.{Recipe}
use Rattle.process_job.specs.Jobs.{JobBook}
use Rattle.process_job.specs.declared.job.ProcessJob.{ProcessJob}

-- what is kept, as one
abbrev pub book_of : List ProcessJob → List Recipe → ℕ → JobBook
book_of kept recipes given = record { kept = kept; recipes = recipes; given = given }
