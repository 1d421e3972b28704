-- Jobs that are found by a name have it.
use Rattle.std.proofs.Common.{◌≡◌, ℕ, Bool, true, false, cond, ◌&&◌, find, List, [], ◌∷◌, Some, None, is_some, option_map, refl, sym, ap, ◌∙◌}
use Rattle.process_job.specs.Jobs.{has_name, job_named, is_known}
use Rattle.process_job.specs.declared.job.ProcessJob.{ProcessJob}
use Rattle.records.proofs.Texts.{same_name}
use Rattle.records.proofs.Places.{known_found}
use Rattle.records.proofs.Truth.{is_there}
use Rattle.control_job.specs.Jobs as control
use Rattle.control_job.specs.declared.job.ControlJob.{ControlJob}

pub process_same : (name id : List ℕ) (js : List ProcessJob) → Some id ≡ option_map (λ j. j.id) (job_named name js) → id ≡ name
process_same name id [] e = absurd (cc)
process_same name id (j ∷ js) e = by_test (has_name name j) refl e (process_same name id js) where
  by_test : (b : Bool) → has_name name j ≡ b → Some id ≡ option_map (λ k. k.id) (cond b (Some j) (job_named name js)) → (Some id ≡ option_map (λ k. k.id) (job_named name js) → id ≡ name) → id ≡ name
  by_test true t f later = let same : id ≡ j.id = cc in same ∙ same_name j.id name t
  by_test false t f later = later f

pub control_same : (name id : List ℕ) (js : List ControlJob) → Some id ≡ option_map (λ j. j.name) (control.job_named name js) → id ≡ name
control_same name id [] e = absurd (cc)
control_same name id (j ∷ js) e = by_test (control.has_name name j) refl e (control_same name id js) where
  by_test : (b : Bool) → control.has_name name j ≡ b → Some id ≡ option_map (λ k. k.name) (cond b (Some j) (control.job_named name js)) → (Some id ≡ option_map (λ k. k.name) (control.job_named name js) → id ≡ name) → id ≡ name
  by_test true t f later = let same : id ≡ j.name = cc in same ∙ same_name j.name name t
  by_test false t f later = later f

-- where none is found the name isn't known
pub none_known : (name : List ℕ) (js : List ProcessJob) → None ≡ option_map (λ j. j.id) (job_named name js) → is_known name js ≡ false
none_known name js e = sym (known_found (has_name name) js) ∙ sym (is_there (λ j. j.id) (job_named name js)) ∙ ap is_some (sym e)

-- and no control job of it is QUEUED
pub none_waiting : (name : List ℕ) (js : List ControlJob) → None ≡ option_map (λ j. j.name) (control.job_named name js) → control.waiting_named name js ≡ None
none_waiting name [] e = refl
none_waiting name (j ∷ js) e = by_test (control.has_name name j) e (none_waiting name js) where
  by_test : (b : Bool) → None ≡ option_map (λ k. k.name) (cond b (Some j) (control.job_named name js)) → (None ≡ option_map (λ k. k.name) (control.job_named name js) → control.waiting_named name js ≡ None) →
      option_map (λ k. k.number) (cond (b && control.is_waiting j) (Some j) (find (λ k. control.has_name name k && control.is_waiting k) js)) ≡ None
  by_test true f later = absurd (cc)
  by_test false f later = later f
