use Rattle.std.proofs.Common.{◌∙◌, ap, sym, subst, position, slice_get, List}
use Rattle.process_job.specs.Jobs.{JobBook, has_number, job_numbered, starts_row, fires_row, fired, AreJobs}
use Rattle.process_job.specs.Kept.{book_of}
use Rattle.process_job.specs.declared.job.ProcessJob.{ProcessJob}
use Rattle.process_job.proofs.Apart.{jobs_update}
use Rattle.records.proofs.Places.{IsPlace, place_is, missing_is}
use Rattle.process_job.proofs.jobs.ProcessJobs.fire.Goals.{After-change_at}
use Rattle.process_job.proofs.jobs.ProcessJobs.fire.Goals as goal

-- the place that is found is that of the number
place : (c : After-change_at) → IsPlace (has_number c.args.number) c.self.inside.jobs c.in-Some.place
place c =
    place_is (has_number c.args.number) c.self.inside.jobs c.in-Some.place
    (ap (λ (b : JobBook). position (has_number c.args.number) b.kept) c.self.view_is ∙ sym c.place_numbered.ensures ∙ c.in-Some.is)

pub invariant_of-self : goal.invariant_of-self
invariant_of-self c =
    subst (λ (js : List ProcessJob). AreJobs (book_of js c.self.inside.recipes.items c.self.inside.given)) (sym c.change_at.ensures)
    (jobs_update c.args.row c.in-Some.place c.self.inside.jobs c.self.inside.recipes.items c.self.inside.given c.self.invariant)

pub returns-in-Some-clause-fires : goal.returns-in-Some-clause-fires
returns-in-Some-clause-fires c =
    c.starts_at-starts.ensures
    ∙ ap (λ (b : JobBook). starts_row c.args.row (slice_get b.kept c.in-Some.place)) (sym c.self.view_is)
    ∙ ap (starts_row c.args.row) (place c).found
    ∙ ap (λ (b : JobBook). starts_row c.args.row (job_numbered c.args.number b.kept)) c.self.view_is

pub returns-in-Some-clause-after : goal.returns-in-Some-clause-after
returns-in-Some-clause-after c =
    ap (λ (js : List ProcessJob). book_of js c.self.inside.recipes.items c.self.inside.given) (c.change_at.ensures ∙ (place c).changed (fires_row c.args.row))
    ∙ ap (fired c.args.number c.args.row) c.self.view_is

pub returns-in-None-clause-fires : goal.returns-in-None-clause-fires
returns-in-None-clause-fires c =
    sym (ap (starts_row c.args.row) (missing_is (has_number c.args.number) c.args.self.now.kept (sym c.place_numbered.ensures ∙ c.in-None.is)).found)

pub returns-in-None-clause-after : goal.returns-in-None-clause-after
returns-in-None-clause-after c =
    sym (ap (λ (js : List ProcessJob). record c.args.self.now { kept = js }) ((missing_is (has_number c.args.number) c.args.self.now.kept (sym c.place_numbered.ensures ∙ c.in-None.is)).changed (fires_row c.args.row)))
