use Rattle.std.proofs.Common.{◌≡◌, ◌+◌, ap, sym, subst, false, None, List}
use Rattle.process_job.specs.Jobs.{JobBook, is_known, AreJobs}
use Rattle.process_job.specs.Creating.{create_fault}
use Rattle.process_job.specs.Kept.{book_of}
use Rattle.process_job.specs.declared.job.ProcessJob.{ProcessJob}
use Rattle.process_job.proofs.Apart.{jobs_more}
use Rattle.process_job.proofs.Faults.{is_free}
use Rattle.process_job.proofs.jobs.ProcessJobs.add.Goals as goal

pub invariant_of-self : goal.invariant_of-self
invariant_of-self c =
    let book = book_of c.self.inside.jobs c.self.inside.recipes.items c.self.inside.given in
    let free = is_free c.args.j book (subst (λ (b : JobBook). create_fault c.args.j b ≡ None) (sym c.self.view_is) c.requires) in
    let unknown = subst (λ (j : ProcessJob). is_known j.id c.self.inside.jobs ≡ false) (sym c.new.ensures) free.unknown in
    subst (λ (js : List ProcessJob). AreJobs (book_of js c.self.inside.recipes.items (c.self.inside.given + 1))) (sym c.in-Ok.ensures.added)
    (jobs_more c.new.result c.self.inside.jobs c.self.inside.recipes.items c.self.inside.given c.self.invariant (ap (λ (j : ProcessJob). j.number) c.new.ensures) unknown free.few)
