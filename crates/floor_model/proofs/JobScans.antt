-- The jobs place by place.
use Rattle.std.proofs.Common.{◌≡◌, ◌<◌, ◌≤◌, ℕ, zero, suc, ◌==◌, Bool, true, false, if◌then◌else◌, List, [], ◌∷◌, map, Option, Some, None, option_map, slice_get, refl, sym, ap, ◌∙◌, arith}
use Rattle.std.proofs.lemmas.Bool.Decides.{nat_tests}
use Rattle.std.proofs.lemmas.Option.{slice_get-map}
use Rattle.process_job.specs.Jobs as process
use Rattle.process_job.specs.Jobs.{JobBook}
use Rattle.process_job.specs.declared.job.ProcessJob.{ProcessJob}
use Rattle.records.proofs.Rising.{numbered_at}
use Rattle.control_job.specs.Jobs as control
use Rattle.control_job.specs.Jobs.{JobStore, AreRising, numbers_of}
use Rattle.control_job.specs.declared.job.ControlJob.{ControlJob}
use Rattle.floor_model.specs.Machines.{process_numbers}

pub process_number : (js : List ProcessJob) (place : ℕ) (j : ProcessJob) → slice_get js place ≡ Some j → slice_get (process_numbers js) place ≡ Some j.number
process_number js place j e = slice_get-map (λ (k : ProcessJob). k.number) js place ∙ ap (option_map (λ (k : ProcessJob). k.number)) e

pub no_process : (js : List ProcessJob) (place : ℕ) → slice_get js place ≡ None → slice_get (process_numbers js) place ≡ None
no_process js place e = slice_get-map (λ (k : ProcessJob). k.number) js place ∙ ap (option_map (λ (k : ProcessJob). k.number)) e

pub process_found : (b : JobBook) (place : ℕ) (j : ProcessJob) → process.AreJobs b → slice_get b.kept place ≡ Some j → process.job_numbered j.number b.kept ≡ Some j
process_found b place j h e = numbered_at process.number_of 0 b.given b.kept place j h.numbered e

pub control_number : (js : List ControlJob) (place : ℕ) (j : ControlJob) → slice_get js place ≡ Some j → slice_get (numbers_of js) place ≡ Some j.number
control_number js place j e = slice_get-map (λ (k : ControlJob). k.number) js place ∙ ap (option_map (λ (k : ControlJob). k.number)) e

pub no_control : (js : List ControlJob) (place : ℕ) → slice_get js place ≡ None → slice_get (numbers_of js) place ≡ None
no_control js place e = slice_get-map (λ (k : ControlJob). k.number) js place ∙ ap (option_map (λ (k : ControlJob). k.number)) e

-- one behind the first has a greater number
past : (last given : ℕ) (js : List ControlJob) (place : ℕ) (j : ControlJob) → AreRising last given (numbers_of js) → slice_get js place ≡ Some j → last < j.number
past last given [] place j rise e = absurd (cc)
past last given (k ∷ ks) zero j rise e = let same : k ≡ j = cc in let here = rise.0 in let number = ap (λ (x : ControlJob). x.number) same in omega (arith, here, number)
past last given (k ∷ ks) (suc place) j rise e = let later = past k.number given ks place j rise.1 e in let here = rise.0 in omega (arith, later, here)

found : (last given : ℕ) (js : List ControlJob) (place : ℕ) (j : ControlJob) → AreRising last given (numbers_of js) → slice_get js place ≡ Some j → control.job_numbered j.number js ≡ Some j
found last given [] place j rise e = absurd (cc)
found last given (k ∷ ks) zero j rise e =
    let same : k ≡ j = cc in
    let own : (k.number == j.number) ≡ true = (let number = ap (λ (x : ControlJob). x.number) same in grind (arith, nat_tests, number)) in
    rw own (ap (λ (x : ControlJob). Some x) same)
found last given (k ∷ ks) (suc place) j rise e =
    let less = past k.number given ks place j rise.1 e in
    let other : (k.number == j.number) ≡ false = grind (arith, nat_tests, less) in
    rw other (found k.number given ks place j rise.1 e)

pub control_found : (s : JobStore) (place : ℕ) (j : ControlJob) → control.AreJobs s → slice_get s.jobs place ≡ Some j → control.job_numbered j.number s.jobs ≡ Some j
control_found s place j h e = found 0 s.given s.jobs place j h.rising e
