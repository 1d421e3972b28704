-- What the jobs are after a change.
use Rattle.std.proofs.Common.{◌≡◌, ℕ, suc, ◌==◌, ◌<◌, nat_le, Bool, true, false, cond, List, [], ◌∷◌, ◌++◌, length, map, refl, sym, ap, ◌∙◌, subst, arith}
use Rattle.std.proofs.lemmas.List.{length-map}
use Rattle.std.proofs.lemmas.Bool.Decides.{nat_tests}
use Rattle.gem_tables.specs.Table.{is_one_of}
use Rattle.records.proofs.Apart.{length_more}
use Rattle.control_job.specs.Names.{others}
use Rattle.control_job.specs.Jobs.{JobStore, AreJobs, AreRising, owns, leaves, is_kept, most_jobs, fires_row, fires_at, put_first, put_last, order_without, jobs_without, forgotten, added, names_of, numbers_of}
use Rattle.control_job.specs.declared.job.ControlJob.{ControlJob}
use Rattle.control_job.proofs.Orders.{gone, apart_without, one_less, all_without, in_last, in_first, both_without, still_in, last_in, apart_more, all_more, all_wider, one_of_all, rising_without, rising_more, rising_apart, fresh, given_later}
use Rattle.control_job.proofs.Called.{once_more, kept_is, names_more, numbers_more, numbers_without, named_without, names_changed, numbers_changed}

-- ---- a change of jobs that keep their names and numbers

pub jobs_changed : (s : JobStore) (change : ControlJob → ControlJob) → AreJobs s
    → ((j : ControlJob) → (change j).name ≡ j.name) → ((j : ControlJob) → (change j).number ≡ j.number)
    → AreJobs (record s { jobs = map change s.jobs })
jobs_changed s change h names numbers =
    let many : length (map change s.jobs) ≡ length s.jobs = length-map s.jobs change in
    record {
      named_apart = rw (names_changed change s.jobs names) (h.named_apart);
      rising = subst (λ (ns : List ℕ). AreRising 0 s.given ns) (sym (numbers_changed change s.jobs numbers)) h.rising;
      few = let few = h.few in omega (arith, many, few);
      ordered = rw (numbers_changed change s.jobs numbers) (h.ordered);
      once = h.once;
      as_many = h.as_many ∙ sym many;
      were_given = h.were_given;
    }

pub fires_name : (n row : ℕ) (j : ControlJob) → (fires_at n row j).name ≡ j.name
fires_name n row j = by_test (j.number == n) where
  by_test : (b : Bool) → (cond b (fires_row row j) j).name ≡ j.name
  by_test true = refl
  by_test false = refl

pub fires_number : (n row : ℕ) (j : ControlJob) → (fires_at n row j).number ≡ j.number
fires_number n row j = by_test (j.number == n) where
  by_test : (b : Bool) → (cond b (fires_row row j) j).number ≡ j.number
  by_test true = refl
  by_test false = refl

pub leaves_name : (job : List ℕ) (j : ControlJob) → (leaves job j).name ≡ j.name
leaves_name job j = by_test (owns job j) where
  by_test : (b : Bool) → (cond b (record j { left = others job j.left }) j).name ≡ j.name
  by_test true = refl
  by_test false = refl

pub leaves_number : (job : List ℕ) (j : ControlJob) → (leaves job j).number ≡ j.number
leaves_number job j = by_test (owns job j) where
  by_test : (b : Bool) → (cond b (record j { left = others job j.left }) j).number ≡ j.number
  by_test true = refl
  by_test false = refl

-- ---- a change of the order

-- the number of a job is in the order
pub in_order : (s : JobStore) (n : ℕ) → AreJobs s → is_one_of (numbers_of s.jobs) n ≡ true → is_one_of s.order n ≡ true
in_order s n h e = one_of_all (is_one_of s.order) n (numbers_of s.jobs) h.ordered e

pub jobs_first : (s : JobStore) (n : ℕ) → AreJobs s → is_one_of s.order n ≡ true → AreJobs (record s { order = put_first n s.order })
jobs_first s n h e = record {
  named_apart = h.named_apart;
  rising = h.rising;
  few = h.few;
  ordered = all_wider (is_one_of s.order) (is_one_of (put_first n s.order)) (numbers_of s.jobs) (λ m k. in_first n m s.order k) h.ordered;
  once = rw (gone n s.order, apart_without n s.order h.once) refl;
  as_many = one_less n s.order h.once e ∙ h.as_many;
  were_given = rw (one_of_all (λ m. nat_le m s.given) n s.order h.were_given e, all_without (λ m. nat_le m s.given) n s.order h.were_given) refl;
}

pub jobs_last : (s : JobStore) (n : ℕ) → AreJobs s → is_one_of s.order n ≡ true → AreJobs (record s { order = put_last n s.order })
jobs_last s n h e = record {
  named_apart = h.named_apart;
  rising = h.rising;
  few = h.few;
  ordered = all_wider (is_one_of s.order) (is_one_of (put_last n s.order)) (numbers_of s.jobs) (λ m k. in_last n m s.order k) h.ordered;
  once = apart_more n (order_without n s.order) (apart_without n s.order h.once) (gone n s.order);
  as_many = length_more n (order_without n s.order) ∙ one_less n s.order h.once e ∙ h.as_many;
  were_given = all_more (λ m. nat_le m s.given) n (order_without n s.order) (all_without (λ m. nat_le m s.given) n s.order h.were_given) (one_of_all (λ m. nat_le m s.given) n s.order h.were_given e);
}

-- ---- a job goes, or comes

numbers_length : (js : List ControlJob) → length (numbers_of js) ≡ length js
numbers_length js = length-map js (λ j. j.number)

-- one less is kept
pub fewer : (s : JobStore) (n : ℕ) → AreJobs s → is_one_of (numbers_of s.jobs) n ≡ true → suc (length (jobs_without n s.jobs)) ≡ length s.jobs
fewer s n h e =
    ap suc (sym (numbers_length (jobs_without n s.jobs)) ∙ ap length (numbers_without n s.jobs))
    ∙ one_less n (numbers_of s.jobs) (rising_apart 0 s.given (numbers_of s.jobs) h.rising) e
    ∙ numbers_length s.jobs

pub jobs_forgotten : (s : JobStore) (n : ℕ) → AreJobs s → is_one_of (numbers_of s.jobs) n ≡ true → AreJobs (forgotten n s)
jobs_forgotten s n h e =
    let less : suc (length (jobs_without n s.jobs)) ≡ length s.jobs = fewer s n h e in
    let shorter : suc (length (order_without n s.order)) ≡ length s.order = one_less n s.order h.once (in_order s n h e) in
    record {
      named_apart = named_without n s.jobs h.named_apart;
      rising = subst (λ (ns : List ℕ). AreRising 0 s.given ns) (sym (numbers_without n s.jobs)) (rising_without n 0 s.given (numbers_of s.jobs) h.rising);
      few = let few = h.few in omega (arith, few, less);
      ordered = rw (numbers_without n s.jobs) (both_without n s.order (numbers_of s.jobs) h.ordered);
      once = apart_without n s.order h.once;
      as_many = let many = h.as_many in omega (arith, less, shorter, many);
      were_given = all_without (λ m. nat_le m s.given) n s.order h.were_given;
    }

pub jobs_added : (s : JobStore) (j : ControlJob) → AreJobs s → s.given < j.number → is_kept j.name s.jobs ≡ false → length s.jobs < most_jobs → AreJobs (added j s)
jobs_added s j h next unknown few =
    let longer : length (s.jobs ++ j ∷ []) ≡ suc (length s.jobs) = length_more j s.jobs in
    let new : is_one_of s.order j.number ≡ false = fresh s.given j.number s.order h.were_given next in
    let own : nat_le j.number j.number ≡ true = grind (arith, nat_tests) in
    record {
      named_apart = rw (names_more s.jobs j) (once_more j.name (names_of s.jobs) h.named_apart (kept_is j.name s.jobs ∙ unknown));
      rising = subst (λ (ns : List ℕ). AreRising 0 j.number ns) (sym (numbers_more s.jobs j)) (rising_more 0 s.given j.number (numbers_of s.jobs) h.rising next);
      few = omega (arith, few, longer);
      ordered = rw (numbers_more s.jobs j) (all_more (is_one_of (s.order ++ j.number ∷ [])) j.number (numbers_of s.jobs)
          (all_wider (is_one_of s.order) (is_one_of (s.order ++ j.number ∷ [])) (numbers_of s.jobs) (λ m e. still_in m j.number s.order e) h.ordered)
          (last_in j.number s.order));
      once = apart_more j.number s.order h.once new;
      as_many = length_more j.number s.order ∙ ap suc h.as_many ∙ sym longer;
      were_given = all_more (λ m. nat_le m j.number) j.number s.order (given_later s.given j.number s.order h.were_given next) own;
    }
