use Rattle.std.proofs.Common.{◌∙◌, ap, sym, subst, position, List}
use Rattle.process_job.specs.Jobs.{JobBook, has_number, is_numbered, forgotten, AreJobs}
use Rattle.process_job.specs.Kept.{book_of}
use Rattle.process_job.specs.declared.job.ProcessJob.{ProcessJob}
use Rattle.process_job.proofs.Apart.{jobs_fewer}
use Rattle.records.proofs.Places.{IsPlace, place_is, missing_is}
use Rattle.process_job.proofs.jobs.ProcessJobs.forget.Goals.{After-remove_at}
use Rattle.process_job.proofs.jobs.ProcessJobs.forget.Goals as goal

-- the place that is found is that of the number
place : (c : After-remove_at) → IsPlace (has_number c.args.number) c.self.inside.jobs c.in-Some.place
place c =
    place_is (has_number c.args.number) c.self.inside.jobs c.in-Some.place
    (ap (λ (b : JobBook). position (has_number c.args.number) b.kept) c.self.view_is ∙ sym c.place_numbered.ensures ∙ c.in-Some.is)

pub invariant_of-self : goal.invariant_of-self
invariant_of-self c =
    subst (λ (js : List ProcessJob). AreJobs (book_of js c.self.inside.recipes.items c.self.inside.given)) (sym c.remove_at.ensures)
    (jobs_fewer c.self.inside.jobs c.in-Some.place c.self.inside.recipes.items c.self.inside.given c.self.invariant)

pub returns-in-Some-clause-known : goal.returns-in-Some-clause-known
returns-in-Some-clause-known c =
    sym (place c).known ∙ ap (λ (b : JobBook). is_numbered c.args.number b.kept) c.self.view_is

pub returns-in-Some-clause-after : goal.returns-in-Some-clause-after
returns-in-Some-clause-after c =
    ap (λ (js : List ProcessJob). book_of js c.self.inside.recipes.items c.self.inside.given) (c.remove_at.ensures ∙ (place c).removed)
    ∙ ap (forgotten c.args.number) c.self.view_is

pub returns-in-None-clause-known : goal.returns-in-None-clause-known
returns-in-None-clause-known c =
    sym (missing_is (has_number c.args.number) c.args.self.now.kept (sym c.place_numbered.ensures ∙ c.in-None.is)).known

pub returns-in-None-clause-after : goal.returns-in-None-clause-after
returns-in-None-clause-after c =
    sym (ap (λ (js : List ProcessJob). record c.args.self.now { kept = js }) (missing_is (has_number c.args.number) c.args.self.now.kept (sym c.place_numbered.ensures ∙ c.in-None.is)).removed)
