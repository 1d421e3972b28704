-- Lists of process jobs: as they are listed, and no more are cancelled than are kept.
use Rattle.std.proofs.lemmas.List.{map-append}
use Rattle.std.proofs.Common.{◌≡◌, ℕ, suc, ◌≤◌, Bool, true, false, true≢false, cond, not, ◌&&◌, List, [], ◌∷◌, ◌++◌, ◌+◌, length, take, slice_get, map, filter, bytes_eq, Option, Some, None, refl, sym, ap, ◌∙◌, arith}
use Rattle.process_job.specs.Jobs.{has_name, job_named}
use Rattle.process_job.specs.Commands.{row_of, answer_at, command_answer}
use Rattle.process_job.specs.declared.job.ProcessJob.{ProcessJob}
use Rattle.records.proofs.Texts.{same_name}
use Rattle.records.proofs.Scans.{take_here}
use Rattle.tool_tasks.specs.declared.words.JobWord.TheVariants.{Cancel}
use Rattle.tool_jobs.specs.Jobs.{Jobs}
use Rattle.message_model.specs.declared.shop_reply.JobState.{JobState}
use Rattle.gem_model.specs.JobMessages.{listed_job}
use Rattle.request_model.specs.declared.error.JobError.{JobError}
use Rattle.request_model.specs.Errors.{or_else, of_answer}
use Rattle.request_model.specs.Requests.{names_error, each_once, cancelled, is_queued}

-- ---- lists

module _ {X : Type 0} where
  -- what passes a test is no more than there is
  pub fewer : (p : X → Bool) (xs : List X) → length (filter p xs) ≤ length xs
  fewer p [] = omega arith
  fewer p (x ∷ xs) = by_test (p x) (fewer p xs) where
    by_test : (b : Bool) → length (filter p xs) ≤ length xs → length (cond b (x ∷ filter p xs) (filter p xs)) ≤ suc (length xs)
    by_test true later = omega (arith, later)
    by_test false later = omega (arith, later)

  -- one test behind another is both
  both : (p q : X → Bool) (xs : List X) → filter p (filter q xs) ≡ filter (λ x. p x && q x) xs
  both p q [] = refl
  both p q (x ∷ xs) = by_tests (q x) (p x) refl (both p q xs) where
    by_tests : (a b : Bool) → p x ≡ b → filter p (filter q xs) ≡ filter (λ y. p y && q y) xs → filter p (cond a (x ∷ filter q xs) (filter q xs)) ≡ cond (b && a) (x ∷ filter (λ y. p y && q y) xs) (filter (λ y. p y && q y) xs)
    by_tests true true e later = rw e (ap (λ ys. x ∷ ys) later)
    by_tests true false e later = rw e later
    by_tests false true e later = later
    by_tests false false e later = later

  -- all pass what always holds
  all_pass : (xs : List X) → filter (λ x. true) xs ≡ xs
  all_pass [] = refl
  all_pass (x ∷ xs) = ap (λ ys. x ∷ ys) (all_pass xs)

  -- how long what is made of them is
  pub same_length : {Y : Type 0} (made : X → Y) (xs : List X) → length (map made xs) ≡ length xs
  same_length made [] = refl
  same_length made (x ∷ xs) = ap suc (same_length made xs)

  -- fewer pass one test more
  fewer_both : (p q : X → Bool) (xs : List X) → length (filter (λ x. p x && q x) xs) ≤ length (filter p xs)
  fewer_both p q [] = omega arith
  fewer_both p q (x ∷ xs) = by_tests (p x) (q x) (fewer_both p q xs) where
    by_tests : (a b : Bool) → length (filter (λ y. p y && q y) xs) ≤ length (filter p xs) →
        length (cond (a && b) (x ∷ filter (λ y. p y && q y) xs) (filter (λ y. p y && q y) xs)) ≤ length (cond a (x ∷ filter p xs) (filter p xs))
    by_tests true true later = omega (arith, later)
    by_tests true false later = omega (arith, later)
    by_tests false b later = later

-- ---- jobs

-- the jobs whose names pass a test
abbrev of_names : (List ℕ → Bool) → List ProcessJob → List ProcessJob
of_names p js = filter (λ j. p j.id) js

-- without the job of a name there is one less
one_less : (p : List ℕ → Bool) (n : List ℕ) (js : List ProcessJob) (k : ProcessJob) → job_named n js ≡ Some k → p n ≡ true →
    suc (length (of_names (λ m. p m && not (bytes_eq m n)) js)) ≤ length (of_names p js)
one_less p n [] k e t = absurd (cc)
one_less p n (j ∷ js) k e t = by_test (has_name n j) refl e (one_less p n js k) where
  rest : List ProcessJob
  rest = of_names (λ m. p m && not (bytes_eq m n)) js

  by_other : (a : Bool) → suc (length rest) ≤ length (of_names p js) → suc (length (cond (a && true) (j ∷ rest) rest)) ≤ length (cond a (j ∷ of_names p js) (of_names p js))
  by_other true later = omega (arith, later)
  by_other false later = later

  by_same : (a : Bool) → a ≡ true → length rest ≤ length (of_names p js) → suc (length (cond (a && false) (j ∷ rest) rest)) ≤ length (cond a (j ∷ of_names p js) (of_names p js))
  by_same true s less = omega (arith, less)
  by_same false s less = absurd (true≢false (sym s))

  by_test : (b : Bool) → has_name n j ≡ b → cond b (Some j) (job_named n js) ≡ Some k → (job_named n js ≡ Some k → p n ≡ true → suc (length rest) ≤ length (of_names p js)) →
      suc (length (cond (p j.id && not b) (j ∷ rest) rest)) ≤ length (cond (p j.id) (j ∷ of_names p js) (of_names p js))
  by_test true h f later = by_same (p j.id) (ap p (same_name j.id n h) ∙ t) (fewer_both (λ (i : ProcessJob). p i.id) (λ (i : ProcessJob). not (bytes_eq i.id n)) js)
  by_test false h f later = by_other (p j.id) (later f t)

-- ---- names

-- the job of a name that can be cancelled
its_job : (row : ℕ) (o : Option ProcessJob) → of_answer (answer_at row o) ≡ None → (k : ProcessJob) × (o ≡ Some k)
its_job row None e = absurd (cc)
its_job row (Some k) e = (k, refl)

-- neither of two has an error
neither : (a b : Option JobError) → or_else a b ≡ None → (a ≡ None) × (b ≡ None)
neither None b e = (refl, e)
neither (Some x) b e = absurd (cc)

-- one name more that has no error, whose job is kept
one_more : (p : List ℕ → Bool) (n : List ℕ) (names : List (List ℕ)) (js : List ProcessJob) → (k : ProcessJob) → job_named n js ≡ Some k
    → length (filter (λ m. p m && not (bytes_eq m n)) (each_once names)) ≤ length (of_names (λ m. p m && not (bytes_eq m n)) js)
    → length (filter p (each_once (n ∷ names))) ≤ length (of_names p js)
one_more p n names js k found later = by_test (p n) refl where
  same : length (filter p (filter (λ m. not (bytes_eq m n)) (each_once names))) ≡ length (filter (λ m. p m && not (bytes_eq m n)) (each_once names))
  same = ap length (both p (λ m. not (bytes_eq m n)) (each_once names))

  by_test : (b : Bool) → p n ≡ b → length (cond b (n ∷ filter p (filter (λ m. not (bytes_eq m n)) (each_once names))) (filter p (filter (λ m. not (bytes_eq m n)) (each_once names)))) ≤ length (of_names p js)
  by_test true t = let less = one_less p n js k found t in omega (arith, later, same, less)
  by_test false t = let less = fewer_both (λ (i : ProcessJob). p i.id) (λ (i : ProcessJob). not (bytes_eq i.id n)) js in omega (arith, later, same, less)

-- names that have no error are, each once and as far as they pass a test, no more than the jobs of such names
few_once : (p : List ℕ → Bool) (names : List (List ℕ)) (w : Jobs) → names_error names w ≡ None → length (filter p (each_once names)) ≤ length (of_names p w.process.kept)
few_once p [] w e = omega arith
few_once p (n ∷ names) w e =
    let parts = neither (of_answer (command_answer n Cancel w.process)) (names_error names w) e in
    let found = its_job (row_of Cancel) (job_named n w.process.kept) parts.0 in
    one_more p n names w.process.kept found.0 found.1 (few_once (λ m. p m && not (bytes_eq m n)) names w parts.1)

-- the jobs that are cancelled are no more than are kept
pub few_cancelled : (names : List (List ℕ)) (w : Jobs) → names_error names w ≡ None → length (cancelled names w) ≤ length w.process.kept
few_cancelled [] w e =
    let same = same_length (λ (j : ProcessJob). j.id) (filter is_queued w.process.kept) in
    let less = fewer is_queued w.process.kept in
    omega (arith, same, less)
few_cancelled (n ∷ names) w e =
    let less = few_once (λ m. true) (n ∷ names) w e in
    let same : length (filter (λ m. true) (each_once (n ∷ names))) ≡ length (each_once (n ∷ names)) = ap length (all_pass (each_once (n ∷ names))) in
    let all : length (of_names (λ m. true) w.process.kept) ≡ length w.process.kept = ap length (all_pass w.process.kept) in
    omega (arith, less, same, all)

-- ---- the list

-- one job more is listed
pub listed_step : (kept : List ProcessJob) (place : ℕ) (j : ProcessJob) (jobs : List JobState) (one : JobState) → slice_get kept place ≡ Some j → jobs ≡ map listed_job (take place kept) → one ≡ listed_job j
    → jobs ++ one ∷ [] ≡ map listed_job (take (place + 1) kept)
listed_step kept place j jobs one e i o =
    ap (λ (js : List JobState). js ++ one ∷ []) i
    ∙ ap (λ (k : JobState). map listed_job (take place kept) ++ k ∷ []) o
    ∙ sym (ap (map listed_job) (take_here kept place j e) ∙ map-append listed_job (take place kept) (j ∷ []))
