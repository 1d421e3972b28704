use Rattle.std.proofs.Common.{◌≡◌, ◌∙◌, Some, None, ap, sym, subst, position, List}
use Rattle.records.specs.Numbers.{has_number, IsRising}
use Rattle.records.proofs.Places.{place_is, missing_is}
use Rattle.records.proofs.Rising.{rising_records}
use Rattle.control_job.specs.Jobs.{JobStore, number_of, job_numbered}
use Rattle.control_job.specs.declared.job.ControlJob.{ControlJob}
use Rattle.control_job.proofs.jobs.ControlJobs.get.Goals as goal

pub place_numbered-requires : goal.place_numbered-requires
place_numbered-requires c = record {
  rising = subst (λ (js : List ControlJob). IsRising number_of js) (sym c.as_slice.ensures) (c.self.inside.given, rising_records number_of 0 c.self.inside.given c.self.inside.jobs.kept c.self.invariant.store.rising);
}

pub returns-in-Some : goal.returns-in-Some
returns-in-Some c =
    let test = has_number number_of c.args.number in
    let placed : position test c.self.inside.jobs.kept ≡ Some c.in-Some.place =
    ap (λ (js : List ControlJob). position test js) (sym c.as_slice.ensures) ∙ sym c.place_numbered.ensures ∙ c.in-Some.is in
    c.get.ensures ∙ (place_is test c.self.inside.jobs.kept c.in-Some.place placed).found ∙ ap (λ (s : JobStore). job_numbered c.args.number s.jobs) c.self.view_is

pub returns-in-None : goal.returns-in-None
returns-in-None c =
    let test = has_number number_of c.args.number in
    let missing : position test c.self.inside.jobs.kept ≡ None =
    ap (λ (js : List ControlJob). position test js) (sym c.as_slice.ensures) ∙ sym c.place_numbered.ensures ∙ c.in-None.is in
    sym (missing_is test c.self.inside.jobs.kept missing).found ∙ ap (λ (s : JobStore). job_numbered c.args.number s.jobs) c.self.view_is
