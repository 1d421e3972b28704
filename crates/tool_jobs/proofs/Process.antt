-- The process jobs behind a row, or one that is created or forgotten.
use Rattle.std.proofs.Common.{◌≡◌, ℕ, ◌+◌, Bool, true, false, true≢false, cond, ◌||◌, List, [], ◌∷◌, ◌++◌, Option, Some, None, position, bytes_eq, refl, sym, ap, ◌∙◌, subst}
use Rattle.process_job.specs.Jobs.{JobBook, AreJobs, has_name, has_number, job_numbered, is_known, change_numbered, without_numbered, fires_row, fired, forgotten, created, with_created}
use Rattle.process_job.specs.Creating.{create_fault}
use Rattle.process_job.specs.declared.job.ProcessJob.{ProcessJob}
use Rattle.process_job.specs.declared.job.JobSpec.{JobSpec}
use Rattle.process_job.proofs.Apart.{jobs_more, jobs_update, jobs_fewer}
use Rattle.process_job.proofs.Faults.{is_free}
use Rattle.records.proofs.Texts.{turned}
use Rattle.records.proofs.Places.{place_is, missing_is}

-- ---- a row

pub jobs_fired : (number row : ℕ) (b : JobBook) → AreJobs b → AreJobs (fired number row b)
jobs_fired number row b h = by_place (position (has_number number) b.kept) refl where
  by_place : (o : Option ℕ) → position (has_number number) b.kept ≡ o → AreJobs (fired number row b)
  by_place (Some place) e = subst (λ (js : List ProcessJob). AreJobs (record b { kept = js })) ((place_is (has_number number) b.kept place e).changed (fires_row row)) (jobs_update row place b.kept b.recipes b.given h)
  by_place None e = subst (λ (js : List ProcessJob). AreJobs (record b { kept = js })) (sym ((missing_is (has_number number) b.kept e).changed (fires_row row))) h

pub known_fired : (name : List ℕ) (number row : ℕ) (js : List ProcessJob) → is_known name (change_numbered number (fires_row row) js) ≡ is_known name js
known_fired name number row [] = refl
known_fired name number row (j ∷ js) = by_test (has_number number j) (known_fired name number row js) where
  by_test : (b : Bool) → is_known name (change_numbered number (fires_row row) js) ≡ is_known name js → is_known name (cond b (fires_row row j ∷ js) (j ∷ change_numbered number (fires_row row) js)) ≡ is_known name (j ∷ js)
  by_test true later = refl
  by_test false later = ap (λ (b : Bool). has_name name j || b) later

-- a row leaves the name of a job
pub name_fired : (number row : ℕ) (js : List ProcessJob) (j : ProcessJob) → job_numbered number js ≡ Some j → job_numbered number (change_numbered number (fires_row row) js) ≡ Some (fires_row row j)
name_fired number row [] j e = absurd (cc)
name_fired number row (k ∷ ks) j e = by_test (has_number number k) refl e (name_fired number row ks j) where
  by_test : (b : Bool) → has_number number k ≡ b → cond b (Some k) (job_numbered number ks) ≡ Some j → (job_numbered number ks ≡ Some j → job_numbered number (change_numbered number (fires_row row) ks) ≡ Some (fires_row row j)) → job_numbered number (cond b (fires_row row k ∷ ks) (k ∷ change_numbered number (fires_row row) ks)) ≡ Some (fires_row row j)
  by_test true t f later = let same : k ≡ j = cc in rw t (ap (λ (one : ProcessJob). Some (fires_row row one)) same)
  by_test false t f later = rw t (later f)

pub none_fired : (number row : ℕ) (js : List ProcessJob) → job_numbered number js ≡ None → change_numbered number (fires_row row) js ≡ js
none_fired number row [] e = refl
none_fired number row (k ∷ ks) e = by_test (has_number number k) e (none_fired number row ks) where
  by_test : (b : Bool) → cond b (Some k) (job_numbered number ks) ≡ None → (job_numbered number ks ≡ None → change_numbered number (fires_row row) ks ≡ ks) → cond b (fires_row row k ∷ ks) (k ∷ change_numbered number (fires_row row) ks) ≡ k ∷ ks
  by_test true f later = absurd (cc)
  by_test false f later = ap (λ (js : List ProcessJob). k ∷ js) (later f)

-- a job goes whatever row fired at it
pub gone_fired : (number row : ℕ) (js : List ProcessJob) → without_numbered number (change_numbered number (fires_row row) js) ≡ without_numbered number js
gone_fired number row [] = refl
gone_fired number row (k ∷ ks) = by_test (has_number number k) refl (gone_fired number row ks) where
  by_test : (b : Bool) → has_number number k ≡ b → without_numbered number (change_numbered number (fires_row row) ks) ≡ without_numbered number ks → without_numbered number (cond b (fires_row row k ∷ ks) (k ∷ change_numbered number (fires_row row) ks)) ≡ cond b ks (k ∷ without_numbered number ks)
  by_test true t later = rw t refl
  by_test false t later = rw t (ap (λ (js : List ProcessJob). k ∷ js) later)

-- ---- a job that is forgotten

pub jobs_forgotten : (number : ℕ) (b : JobBook) → AreJobs b → AreJobs (forgotten number b)
jobs_forgotten number b h = by_place (position (has_number number) b.kept) refl where
  by_place : (o : Option ℕ) → position (has_number number) b.kept ≡ o → AreJobs (forgotten number b)
  by_place (Some place) e = subst (λ (js : List ProcessJob). AreJobs (record b { kept = js })) ((place_is (has_number number) b.kept place e).removed) (jobs_fewer b.kept place b.recipes b.given h)
  by_place None e = subst (λ (js : List ProcessJob). AreJobs (record b { kept = js })) (sym ((missing_is (has_number number) b.kept e).removed)) h

-- the others are known still
pub known_left : (name : List ℕ) (number : ℕ) (js : List ProcessJob) (j : ProcessJob) → job_numbered number js ≡ Some j → bytes_eq name j.id ≡ false → is_known name js ≡ true → is_known name (without_numbered number js) ≡ true
known_left name number [] j e other h = absurd (cc)
known_left name number (k ∷ ks) j e other h = by_test (has_number number k) (has_name name k) refl e h (known_left name number ks j) where
  by_test : (b c : Bool) → has_name name k ≡ c → cond b (Some k) (job_numbered number ks) ≡ Some j → (c || is_known name ks) ≡ true → (job_numbered number ks ≡ Some j → bytes_eq name j.id ≡ false → is_known name ks ≡ true → is_known name (without_numbered number ks) ≡ true) → is_known name (cond b ks (k ∷ without_numbered number ks)) ≡ true
  by_test true true t f g later =
      let same : k ≡ j = cc in
      absurd (true≢false (sym t ∙ turned k.id name ∙ ap (λ (one : ProcessJob). bytes_eq name one.id) same ∙ other))
  by_test true false t f g later = g
  by_test false true t f g later = rw t refl
  by_test false false t f g later = rw t (later f other g)

pub none_left : (number : ℕ) (js : List ProcessJob) → job_numbered number js ≡ None → without_numbered number js ≡ js
none_left number [] e = refl
none_left number (k ∷ ks) e = by_test (has_number number k) e (none_left number ks) where
  by_test : (b : Bool) → cond b (Some k) (job_numbered number ks) ≡ None → (job_numbered number ks ≡ None → without_numbered number ks ≡ ks) → cond b ks (k ∷ without_numbered number ks) ≡ k ∷ ks
  by_test true f later = absurd (cc)
  by_test false f later = ap (λ (js : List ProcessJob). k ∷ js) (later f)

-- ---- a job that is created

pub jobs_created : (spec : JobSpec) (b : JobBook) → create_fault spec b ≡ None → AreJobs b → AreJobs (with_created spec b)
jobs_created spec b e h =
    let free = is_free spec b e in
    jobs_more (created (b.given + 1) spec) b.kept b.recipes b.given h refl free.unknown free.few

pub known_more : (name : List ℕ) (j : ProcessJob) (js : List ProcessJob) → is_known name js ≡ true → is_known name (js ++ j ∷ []) ≡ true
known_more name j [] e = absurd (true≢false (sym e))
known_more name j (k ∷ ks) e = by_test (has_name name k) e (known_more name j ks) where
  by_test : (b : Bool) → (b || is_known name ks) ≡ true → (is_known name ks ≡ true → is_known name (ks ++ j ∷ []) ≡ true) → (b || is_known name (ks ++ j ∷ [])) ≡ true
  by_test true f later = refl
  by_test false f later = later f
