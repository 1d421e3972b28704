-- The room for a job that can be created.
use Rattle.std.proofs.Common.{◌≡◌, ℕ, ◌<◌, nat_lt, Bool, true, false, true≢false, cond, not, ◌||◌, List, [], ◌∷◌, length, Option, Some, None, option_map, refl, sym, ap, ◌∙◌, arith}
use Rattle.std.proofs.lemmas.Bool.Decides.{nat_tests}
use Rattle.gem_tables.specs.Table.{is_one_of}
use Rattle.control_job.specs.Names.{are_named}
use Rattle.control_job.specs.Jobs.{JobStore, AreJobs, has_name, is_open, job_named, job_numbered, is_kept, is_kept_open, open_count, most_jobs, starts_row, numbers_of, jobs_without}
use Rattle.control_job.specs.Creating.{create_fault, first_completed, number_named, replaced_by, kept_without}
use Rattle.control_job.specs.declared.job.ControlJob.{ControlJob}
use Rattle.control_job.specs.declared.fault.CtlFault.TheVariants.{NameTaken, NoJobs, NoSpace}
use Rattle.control_job.proofs.Called.{kept_is, none_kept, name_gone, found_in, numbered_in, none_completed}
use Rattle.control_job.proofs.Keeping.{fewer}

-- the number of a job that is replaced is that of one that is kept
pub replaced_in : (name : List ℕ) (js : List ControlJob) (n : ℕ) → replaced_by name js ≡ Some n → is_one_of (numbers_of js) n ≡ true
replaced_in name js n e = by_kept (is_kept name js) e where
  by_room : (b : Bool) → cond b None (first_completed js) ≡ Some n → is_one_of (numbers_of js) n ≡ true
  by_room true f = absurd (cc)
  by_room false f = found_in (λ j. not (is_open j)) js n f

  by_kept : (b : Bool) → cond b (number_named name js) (cond (nat_lt (length js) most_jobs) None (first_completed js)) ≡ Some n → is_one_of (numbers_of js) n ≡ true
  by_kept true f = found_in (has_name name) js n f
  by_kept false f = by_room (nat_lt (length js) most_jobs) f

-- a row that starts at the job of a number starts at one that is kept
pub starts_in : (n row : ℕ) (js : List ControlJob) → starts_row row (job_numbered n js) ≡ true → is_one_of (numbers_of js) n ≡ true
starts_in n row js e = by_job (job_numbered n js) refl e where
  by_job : (o : Option ControlJob) → job_numbered n js ≡ o → starts_row row o ≡ true → is_one_of (numbers_of js) n ≡ true
  by_job None f t = absurd (true≢false (sym t))
  by_job (Some j) f t = numbered_in n j js f

-- fewer than 32 aren't COMPLETED
few_open : (name : List ℕ) (named : List (List ℕ)) (js : List ControlJob) → create_fault name named js ≡ None → nat_lt (open_count js) most_jobs ≡ true
few_open name named js e = by_name (is_kept_open name js) e where
  by_room : (b : Bool) → cond b None (Some (NoSpace most_jobs)) ≡ None → b ≡ true
  by_room true f = refl
  by_room false f = absurd (cc)

  by_named : (b : Bool) → cond b (cond (nat_lt (open_count js) most_jobs) None (Some (NoSpace most_jobs))) (Some NoJobs) ≡ None → nat_lt (open_count js) most_jobs ≡ true
  by_named true f = by_room (nat_lt (open_count js) most_jobs) f
  by_named false f = absurd (cc)

  by_name : (b : Bool) → cond b (Some NameTaken) (cond (are_named named) (cond (nat_lt (open_count js) most_jobs) None (Some (NoSpace most_jobs))) (Some NoJobs)) ≡ None → nat_lt (open_count js) most_jobs ≡ true
  by_name true f = absurd (cc)
  by_name false f = by_named (are_named named) f

-- one that is kept is found
kept_found : (name : List ℕ) (js : List ControlJob) → is_kept name js ≡ true → job_named name js ≡ None → true ≡ false
kept_found name [] t e = sym t
kept_found name (j ∷ js) t e = by_test (has_name name j) t e (kept_found name js) where
  by_test : (b : Bool) → (b || is_kept name js) ≡ true → cond b (Some j) (job_named name js) ≡ None → (is_kept name js ≡ true → job_named name js ≡ None → true ≡ false) → true ≡ false
  by_test true u f later = absurd (cc)
  by_test false u f later = later u f

-- the name is that of none that stays, and there is a place for one more
abbrev pub HasRoom : List ℕ → JobStore → Option ℕ → Type 0
HasRoom name s replaced = (is_kept name (kept_without replaced s).jobs ≡ false) × (length (kept_without replaced s).jobs < most_jobs)

one_goes : (name : List ℕ) (s : JobStore) (n : ℕ) → AreJobs s → is_one_of (numbers_of s.jobs) n ≡ true → length (jobs_without n s.jobs) < most_jobs
one_goes name s n h e = let less = fewer s n h e in let few = h.few in omega (arith, less, few)

pub room_after : (name : List ℕ) (named : List (List ℕ)) (s : JobStore) → AreJobs s → create_fault name named s.jobs ≡ None → HasRoom name s (replaced_by name s.jobs)
room_after name named s h e = by_kept (is_kept name s.jobs) refl where
  by_job : (o : Option ControlJob) → job_named name s.jobs ≡ o → is_kept name s.jobs ≡ true → HasRoom name s (option_map (λ (j : ControlJob). j.number) o)
  by_job None f t = absurd (true≢false (kept_found name s.jobs t f))
  by_job (Some j) f t = (
    sym (kept_is name (jobs_without j.number s.jobs)) ∙ name_gone name j s.jobs h.named_apart f,
    one_goes name s j.number h (found_in (has_name name) s.jobs j.number (ap (option_map (λ (k : ControlJob). k.number)) f)),
  )

  by_completed : (o : Option ℕ) → first_completed s.jobs ≡ o → is_kept name s.jobs ≡ false → nat_lt (length s.jobs) most_jobs ≡ false → HasRoom name s o
  by_completed None f t full =
      let all : open_count s.jobs ≡ length s.jobs = none_completed s.jobs f in
      absurd (true≢false (sym (few_open name named s.jobs e) ∙ ap (λ (n : ℕ). nat_lt n most_jobs) all ∙ full))
  by_completed (Some n) f t full = (
    sym (kept_is name (jobs_without n s.jobs)) ∙ none_kept name n s.jobs (kept_is name s.jobs ∙ t),
    one_goes name s n h (found_in (λ j. not (is_open j)) s.jobs n f),
  )

  by_room : (b : Bool) → nat_lt (length s.jobs) most_jobs ≡ b → is_kept name s.jobs ≡ false → HasRoom name s (cond b None (first_completed s.jobs))
  by_room true u t = (t, let l : length s.jobs < most_jobs = grind (arith, nat_tests, u) in l)
  by_room false u t = by_completed (first_completed s.jobs) refl t u

  by_kept : (b : Bool) → is_kept name s.jobs ≡ b → HasRoom name s (cond b (number_named name s.jobs) (cond (nat_lt (length s.jobs) most_jobs) None (first_completed s.jobs)))
  by_kept true t = by_job (job_named name s.jobs) refl t
  by_kept false t = by_room (nat_lt (length s.jobs) most_jobs) refl t
