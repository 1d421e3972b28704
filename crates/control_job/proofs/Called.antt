-- Lists of control jobs, of which each has its own name and number.
use Rattle.std.proofs.Common.{◌≡◌, ℕ, suc, ◌==◌, Bool, true, false, cond, not, ◌||◌, List, [], ◌∷◌, ◌++◌, length, map, filter, find, Some, None, option_map, refl, sym, ap, ◌∙◌, subst, arith}
use Rattle.std.proofs.lemmas.Bool.Decides.{nat_tests}
use Rattle.gem_tables.specs.Table.{is_one_of}
use Rattle.records.proofs.Truth.{and_true, not_true}
use Rattle.records.proofs.Texts.{same_name}
use Rattle.records.proofs.Apart.{known_by_names, apart_by_names, apart_more, known_fewer, apart_fewer, found_named, mapped_same, mapped_more}
use Rattle.control_job.specs.Names.{itself, is_in, is_each_once}
use Rattle.control_job.specs.Creating.{first_completed}
use Rattle.control_job.specs.Jobs.{name_of, number_of, has_name, is_open, job_named, job_numbered, is_kept, open_count, jobs_without, names_of, numbers_of, order_without}
use Rattle.control_job.specs.declared.job.ControlJob.{ControlJob}

-- a name that isn't among them goes behind them
pub once_more : (n : List ℕ) (ns : List (List ℕ)) → is_each_once ns ≡ true → is_in n ns ≡ false → is_each_once (ns ++ n ∷ []) ≡ true
once_more n ns h e = apart_more itself n ns h e

-- ---- the names and numbers of jobs

pub kept_is : (name : List ℕ) (js : List ControlJob) → is_in name (names_of js) ≡ is_kept name js
kept_is name js = sym (known_by_names name_of name js)

pub names_more : (js : List ControlJob) (j : ControlJob) → names_of (js ++ j ∷ []) ≡ names_of js ++ j.name ∷ []
names_more js j = mapped_more name_of js j

pub numbers_more : (js : List ControlJob) (j : ControlJob) → numbers_of (js ++ j ∷ []) ≡ numbers_of js ++ j.number ∷ []
numbers_more js j = mapped_more number_of js j

pub numbers_without : (n : ℕ) (js : List ControlJob) → numbers_of (jobs_without n js) ≡ order_without n (numbers_of js)
numbers_without n [] = refl
numbers_without n (j ∷ js) = by_test (j.number == n) (numbers_without n js) where
  by_test : (b : Bool) → numbers_of (jobs_without n js) ≡ order_without n (numbers_of js) → numbers_of (cond (not b) (j ∷ jobs_without n js) (jobs_without n js)) ≡ cond (not b) (j.number ∷ order_without n (numbers_of js)) (order_without n (numbers_of js))
  by_test true later = later
  by_test false later = ap (λ (ns : List ℕ). j.number ∷ ns) later

-- a name that none has, none has that stays
pub none_kept : (name : List ℕ) (n : ℕ) (js : List ControlJob) → is_in name (names_of js) ≡ false → is_in name (names_of (jobs_without n js)) ≡ false
none_kept name n js h =
    kept_is name (jobs_without n js) ∙ known_fewer name_of (λ j. not (j.number == n)) name js (sym (kept_is name js) ∙ h)

pub named_without : (n : ℕ) (js : List ControlJob) → is_each_once (names_of js) ≡ true → is_each_once (names_of (jobs_without n js)) ≡ true
named_without n js h =
    sym (apart_by_names name_of (jobs_without n js)) ∙ apart_fewer name_of (λ j. not (j.number == n)) js (apart_by_names name_of js ∙ h)

-- the number of a job that is found is one of the numbers
pub found_in : (test : ControlJob → Bool) (js : List ControlJob) (n : ℕ) → option_map (λ (j : ControlJob). j.number) (find test js) ≡ Some n → is_one_of (numbers_of js) n ≡ true
found_in test [] n e = absurd (cc)
found_in test (j ∷ js) n e = by_test (test j) e (found_in test js n) where
  by_test : (b : Bool) → option_map (λ (k : ControlJob). k.number) (cond b (Some j) (find test js)) ≡ Some n → (option_map (λ (k : ControlJob). k.number) (find test js) ≡ Some n → is_one_of (numbers_of js) n ≡ true) → ((j.number == n) || is_one_of (numbers_of js) n) ≡ true
  by_test true f later = let same : j.number ≡ n = cc in let here : (j.number == n) ≡ true = grind (arith, nat_tests, same) in rw here refl
  by_test false f later = rw (later f) (or_true (j.number == n)) where
    or_true : (b : Bool) → (b || true) ≡ true
    or_true true = refl
    or_true false = refl

-- where each name is that of one job, no other has the name of the one that goes
pub name_gone : (name : List ℕ) (j : ControlJob) (js : List ControlJob) → is_each_once (names_of js) ≡ true → job_named name js ≡ Some j → is_in name (names_of (jobs_without j.number js)) ≡ false
name_gone name j [] h e = absurd (cc)
name_gone name j (k ∷ ks) h e =
    let parts = and_true (not (is_in k.name (names_of ks))) (is_each_once (names_of ks)) h in
    by_test (has_name name k) refl e (not_true (is_in k.name (names_of ks)) parts.0) (name_gone name j ks parts.1)
  where
    stays : (b : Bool) → has_name name k ≡ false → is_in name (names_of (jobs_without j.number ks)) ≡ false → is_in name (names_of (cond (not b) (k ∷ jobs_without j.number ks) (jobs_without j.number ks))) ≡ false
    stays true t later = later
    stays false t later = rw (t, later) refl

    by_test : (b : Bool) → has_name name k ≡ b → cond b (Some k) (job_named name ks) ≡ Some j → is_in k.name (names_of ks) ≡ false → (job_named name ks ≡ Some j → is_in name (names_of (jobs_without j.number ks)) ≡ false) → is_in name (names_of (jobs_without j.number (k ∷ ks))) ≡ false
    by_test true t f first later =
        let same : k ≡ j = cc in
        let called : k.name ≡ name = same_name k.name name t in
        let here : (k.number == j.number) ≡ true = let number : k.number ≡ j.number = ap (λ (one : ControlJob). one.number) same in grind (arith, nat_tests, number) in
        rw here (none_kept name j.number ks (subst (λ (n : List ℕ). is_in n (names_of ks) ≡ false) called first))
    by_test false t f first later = stays (k.number == j.number) t (later f)

-- where no job is COMPLETED, all are counted
pub none_completed : (js : List ControlJob) → first_completed js ≡ None → open_count js ≡ length js
none_completed [] e = refl
none_completed (j ∷ js) e = by_test (is_open j) e (none_completed js) where
  by_test : (b : Bool) → option_map (λ (k : ControlJob). k.number) (cond (not b) (Some j) (find (λ (k : ControlJob). not (is_open k)) js)) ≡ None → (first_completed js ≡ None → open_count js ≡ length js) → length (cond b (j ∷ filter is_open js) (filter is_open js)) ≡ suc (length js)
  by_test false f later = absurd (cc)
  by_test true f later = ap suc (later f)

-- ---- a change of the job of a number leaves names and numbers

pub names_changed : (change : ControlJob → ControlJob) (js : List ControlJob) → ((j : ControlJob) → (change j).name ≡ j.name) → names_of (map change js) ≡ names_of js
names_changed change js same = mapped_same name_of change same js

pub numbers_changed : (change : ControlJob → ControlJob) (js : List ControlJob) → ((j : ControlJob) → (change j).number ≡ j.number) → numbers_of (map change js) ≡ numbers_of js
numbers_changed change js same = mapped_same number_of change same js

-- ---- a job that is found by its number

-- its number is one of the numbers
pub numbered_in : (n : ℕ) (j : ControlJob) (js : List ControlJob) → job_numbered n js ≡ Some j → is_one_of (numbers_of js) n ≡ true
numbered_in n j [] e = absurd (cc)
numbered_in n j (k ∷ ks) e = by_test (k.number == n) e (numbered_in n j ks) where
  by_test : (b : Bool) → cond b (Some k) (job_numbered n ks) ≡ Some j → (job_numbered n ks ≡ Some j → is_one_of (numbers_of ks) n ≡ true) → (b || is_one_of (numbers_of ks) n) ≡ true
  by_test true f later = refl
  by_test false f later = later f

-- where each name is that of one job, it is the one of its name
pub numbered_named : (n : ℕ) (j : ControlJob) (js : List ControlJob) → is_each_once (names_of js) ≡ true → job_numbered n js ≡ Some j → job_named j.name js ≡ Some j
numbered_named n j js h e = found_named name_of (λ k. k.number == n) js j (apart_by_names name_of js ∙ h) e
