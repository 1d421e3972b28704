-- Process jobs by their numbers, where the state of one changes or one is forgotten.
use Rattle.std.proofs.Common.{◌≡◌, ◌≤◌, ◌<◌, ℕ, ◌+◌, ◌==◌, Bool, true, false, if◌then◌else◌, List, [], ◌∷◌, ◌++◌, Option, Some, None, option_map, refl, sym, ◌∙◌, ap, subst, ◌⊎◌, inl, inr, arith}
use Rattle.std.proofs.lemmas.Bool.{true≢false}
use Rattle.std.proofs.lemmas.Bool.Decides.{Decides-eqb}
use Rattle.process_job.specs.Jobs.{number_of, job_numbered, change_numbered, without_numbered, fires_row, AreNumbered}
use Rattle.process_job.specs.declared.job.ProcessJob.{ProcessJob}
use Rattle.records.proofs.Rising.{last_given}
use Rattle.floor_laws.proofs.JobSight.{none_some, some_same}

-- ---- numbers

-- two tests of one pair of numbers, turned
pub apart_numbers : (a n k : ℕ) → (a == n) ≡ true → (k ≡ n → ⊥) → (a == k) ≡ false
apart_numbers a n k e other = of (a == k) refl where
  of : (b : Bool) → (a == k) ≡ b → b ≡ false
  of true q = absurd (other (sym ((Decides-eqb a k).0 q) ∙ (Decides-eqb a n).0 e))
  of false q = refl

-- the job that is found has the number, past the last one before and not past what was given
pub job_number_is : (n last given : ℕ) (js : List ProcessJob) (j : ProcessJob) → AreNumbered last given js → job_numbered n js ≡ Some j → (j.number ≡ n) × (last < n) × (n ≤ given)
job_number_is n last given [] j numbered e = none_some j e
job_number_is n last given (k ∷ ks) j numbered e = of (k.number == n) refl e (job_number_is n k.number given ks j numbered.1) where
  of : (b : Bool) → (k.number == n) ≡ b → (if b then Some k else job_numbered n ks) ≡ Some j → (job_numbered n ks ≡ Some j → (j.number ≡ n) × (k.number < n) × (n ≤ given)) → (j.number ≡ n) × (last < n) × (n ≤ given)
  of true q e rest =
      let number : k.number ≡ n = (Decides-eqb k.number n).0 q in
      let less : last < k.number = numbered.0 in
      let most = last_given number_of k.number given ks numbered.1 in
      (sym (ap (λ (x : ProcessJob). x.number) (some_same k j e)) ∙ number, omega (arith, less, number), omega (arith, most, number))
  of false q e rest = let r = rest e in let less : last < k.number = numbered.0 in let more : k.number < n = r.1 in (r.0, omega (arith, less, more), r.2)

-- no job has the number 0
pub none_first : (given : ℕ) (js : List ProcessJob) → AreNumbered 0 given js → job_numbered 0 js ≡ None
none_first given js numbered = of (job_numbered 0 js) refl where
  of : (o : Option ProcessJob) → job_numbered 0 js ≡ o → o ≡ None
  of None q = refl
  of (Some j) q = let r = job_number_is 0 0 given js j numbered q in let less : 0 < 0 = r.1 in absurd (omega (arith, less))

-- the numbers from behind one number on rise from behind a smaller one
lower : (low last given : ℕ) (js : List ProcessJob) → low ≤ last → AreNumbered last given js → AreNumbered low given js
lower low last given [] less numbered = omega (arith, less, numbered)
lower low last given (j ∷ js) less numbered = (omega (arith, less, numbered.0), numbered.1)

-- ---- a row fires at one

module _ (n row : ℕ) where
  -- the numbers rise behind it
  pub numbered_fired : (last given : ℕ) (js : List ProcessJob) → AreNumbered last given js → AreNumbered last given (change_numbered n (fires_row row) js)
  numbered_fired last given [] numbered = numbered
  numbered_fired last given (j ∷ js) numbered = of (j.number == n) (numbered_fired j.number given js numbered.1) where
    of : (b : Bool) → AreNumbered j.number given (change_numbered n (fires_row row) js) → AreNumbered last given (if b then fires_row row j ∷ js else j ∷ change_numbered n (fires_row row) js)
    of true rest = numbered
    of false rest = (numbered.0, rest)

  -- the job of the number is found behind the row
  pub fired_there : (js : List ProcessJob) → job_numbered n (change_numbered n (fires_row row) js) ≡ option_map (fires_row row) (job_numbered n js)
  fired_there [] = refl
  fired_there (j ∷ js) = of (j.number == n) refl (fired_there js) where
    of : (b : Bool) → (j.number == n) ≡ b → job_numbered n (change_numbered n (fires_row row) js) ≡ option_map (fires_row row) (job_numbered n js) → job_numbered n (if b then fires_row row j ∷ js else j ∷ change_numbered n (fires_row row) js) ≡ option_map (fires_row row) (if b then Some j else job_numbered n js)
    of true e rest = ap (λ (b : Bool). if b then Some (fires_row row j) else job_numbered n js) e
    of false e rest = ap (λ (b : Bool). if b then Some j else job_numbered n (change_numbered n (fires_row row) js)) e ∙ rest

  -- each other is found as it was
  pub fired_else : (k : ℕ) → (k ≡ n → ⊥) → (js : List ProcessJob) → job_numbered k (change_numbered n (fires_row row) js) ≡ job_numbered k js
  fired_else k other [] = refl
  fired_else k other (j ∷ js) = of (j.number == n) refl (fired_else k other js) where
    of : (b : Bool) → (j.number == n) ≡ b → job_numbered k (change_numbered n (fires_row row) js) ≡ job_numbered k js → job_numbered k (if b then fires_row row j ∷ js else j ∷ change_numbered n (fires_row row) js) ≡ job_numbered k (j ∷ js)
    of true e rest =
        let apart = apart_numbers j.number n k e other in
        ap (λ (b : Bool). if b then Some (fires_row row j) else job_numbered k js) apart ∙ sym (ap (λ (b : Bool). if b then Some j else job_numbered k js) apart)
    of false e rest = ap (λ (o : Option ProcessJob). if j.number == k then Some j else o) rest

  -- one that is found behind the row was another, or is that of the row
  pub record WasFound (k : ℕ) (js : List ProcessJob) (i : ProcessJob) : Type 0 where
    pub job : ProcessJob
    pub found : job_numbered k js ≡ Some job
    pub is : (i ≡ job) ⊎ ((k ≡ n) × (i ≡ fires_row row job))

  -- there is such a job
  pub fired_was : (k : ℕ) (js : List ProcessJob) (i : ProcessJob) → job_numbered k (change_numbered n (fires_row row) js) ≡ Some i → WasFound k js i
  fired_was k js i e = of (k == n) refl where
    at_row : (o : Option ProcessJob) → job_numbered k js ≡ o → option_map (fires_row row) o ≡ Some i → k ≡ n → WasFound k js i
    at_row None q e same = none_some i e
    at_row (Some j) q e same = record { job = j; found = q; is = inr (same, sym (some_same (fires_row row j) i e)) }

    of : (b : Bool) → (k == n) ≡ b → WasFound k js i
    of true q =
        let same : k ≡ n = (Decides-eqb k n).0 q in
        let there : option_map (fires_row row) (job_numbered k js) ≡ Some i = subst (λ (m : ℕ). option_map (fires_row row) (job_numbered m js) ≡ Some i) (sym same) (sym (fired_there js) ∙ subst (λ (m : ℕ). job_numbered m (change_numbered n (fires_row row) js) ≡ Some i) same e) in
        at_row (job_numbered k js) refl there same
    of false q = record { job = i; found = sym (fired_else k (λ same. true≢false (sym ((Decides-eqb k n).1 same) ∙ q)) js) ∙ e; is = inl refl }

  -- each is found behind the row, of its recipe
  pub fired_on : (k : ℕ) (js : List ProcessJob) (j : ProcessJob) → job_numbered k js ≡ Some j → (i : ProcessJob) × (job_numbered k (change_numbered n (fires_row row) js) ≡ Some i) × (i.recipe ≡ j.recipe)
  fired_on k js j e = of (k == n) refl where
    of : (b : Bool) → (k == n) ≡ b → (i : ProcessJob) × (job_numbered k (change_numbered n (fires_row row) js) ≡ Some i) × (i.recipe ≡ j.recipe)
    of true q =
        let same : k ≡ n = (Decides-eqb k n).0 q in
        (fires_row row j, subst (λ (m : ℕ). job_numbered m (change_numbered n (fires_row row) js) ≡ Some (fires_row row j)) (sym same) (fired_there js ∙ ap (option_map (fires_row row)) (subst (λ (m : ℕ). job_numbered m js ≡ Some j) same e)), refl)
    of false q = (j, fired_else k (λ same. true≢false (sym ((Decides-eqb k n).1 same) ∙ q)) js ∙ e, refl)

-- ---- one is forgotten

-- the numbers of the others rise
pub numbered_without : (n last given : ℕ) (js : List ProcessJob) → AreNumbered last given js → AreNumbered last given (without_numbered n js)
numbered_without n last given [] numbered = numbered
numbered_without n last given (j ∷ js) numbered = of (j.number == n) (numbered_without n j.number given js numbered.1) where
  of : (b : Bool) → AreNumbered j.number given (without_numbered n js) → AreNumbered last given (if b then js else j ∷ without_numbered n js)
  of true rest = let less : last < j.number = numbered.0 in lower last j.number given js (omega (arith, less)) numbered.1
  of false rest = (numbered.0, rest)

-- each other is found as it was
pub without_else : (n k : ℕ) → (k ≡ n → ⊥) → (js : List ProcessJob) → job_numbered k (without_numbered n js) ≡ job_numbered k js
without_else n k other [] = refl
without_else n k other (j ∷ js) = of (j.number == n) refl (without_else n k other js) where
  of : (b : Bool) → (j.number == n) ≡ b → job_numbered k (without_numbered n js) ≡ job_numbered k js → job_numbered k (if b then js else j ∷ without_numbered n js) ≡ job_numbered k (j ∷ js)
  of true e rest = sym (ap (λ (b : Bool). if b then Some j else job_numbered k js) (apart_numbers j.number n k e other))
  of false e rest = ap (λ (o : Option ProcessJob). if j.number == k then Some j else o) rest

-- ---- one is created

-- the numbers rise, with that of the new one
pub numbered_more : (last given : ℕ) (k : ProcessJob) (js : List ProcessJob) → AreNumbered last given js → k.number ≡ given + 1 → AreNumbered last (given + 1) (js ++ k ∷ [])
numbered_more last given k [] numbered e = (omega (arith, numbered, e), omega (arith, e))
numbered_more last given k (j ∷ js) numbered e = (numbered.0, numbered_more j.number given k js numbered.1 e)

-- one that is kept is found as it was, and so is none but of the new number
pub found_more : (n : ℕ) (k : ProcessJob) (js : List ProcessJob) → (n ≡ k.number → ⊥) → job_numbered n (js ++ k ∷ []) ≡ job_numbered n js
found_more n k [] other = of (k.number == n) refl where
  of : (b : Bool) → (k.number == n) ≡ b → (if b then Some k else None) ≡ None
  of true q = absurd (other (sym ((Decides-eqb k.number n).0 q)))
  of false q = refl
found_more n k (j ∷ js) other = ap (λ (o : Option ProcessJob). if j.number == n then Some j else o) (found_more n k js other)
