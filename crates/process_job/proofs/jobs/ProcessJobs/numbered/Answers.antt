use Rattle.std.proofs.Common.{◌∙◌, ap, sym, position}
use Rattle.process_job.specs.Jobs.{JobBook, has_number, job_numbered}
use Rattle.records.proofs.Places.{place_is, missing_is}
use Rattle.process_job.proofs.jobs.ProcessJobs.numbered.Goals as goal

pub returns-in-Some-clause-value : goal.returns-in-Some-clause-value
returns-in-Some-clause-value c =
    c.get.ensures
    ∙ (place_is (has_number c.args.number) c.self.inside.jobs c.in-Some.place (ap (λ (b : JobBook). position (has_number c.args.number) b.kept) c.self.view_is ∙ sym c.place_numbered.ensures ∙ c.in-Some.is)).found
    ∙ ap (λ (b : JobBook). job_numbered c.args.number b.kept) c.self.view_is

pub returns-in-None-clause-value : goal.returns-in-None-clause-value
returns-in-None-clause-value c = sym (missing_is (has_number c.args.number) c.args.self.now.kept (sym c.place_numbered.ensures ∙ c.in-None.is)).found
