-- Lists, and what is found in them by a number or a name, behind a change.
use Rattle.std.proofs.Common.{◌≡◌, ℕ, ◌==◌, ◌≤◌, ◌<◌, Bool, true, false, true≢false, cond, not, ◌&&◌, ◌||◌, List, [], ◌∷◌, ◌++◌, length, map, filter, find, Option, Some, None, option_map, bytes_eq, refl, sym, ap, ◌∙◌, subst, ◌⊎◌, inl, inr, arith}
use Rattle.std.specs.List.{list_all}
use Rattle.std.proofs.lemmas.Bool.Decides.{nat_tests}
use Rattle.process_job.specs.Jobs as process
use Rattle.process_job.specs.Jobs.{name_of, has_number, has_name, is_known, change_numbered, without_numbered, are_named_apart, AreNumbered}
use Rattle.process_job.specs.declared.job.ProcessJob.{ProcessJob}
use Rattle.records.proofs.Texts.{same_name, turned}
use Rattle.records.proofs.Apart.{first_apart, rest_apart}
use Rattle.control_job.specs.Names.{is_in, others}
use Rattle.control_job.specs.Jobs as control
use Rattle.control_job.specs.Jobs.{jobs_without}
use Rattle.control_job.specs.declared.job.ControlJob.{ControlJob}

-- ---- any list

module _ {X : Type 0} where
  -- what is found passes the test
  pub find_meets : (test : X → Bool) (xs : List X) (x : X) → find test xs ≡ Some x → test x ≡ true
  find_meets test [] x e = absurd (cc)
  find_meets test (y ∷ ys) x e = by_test (test y) refl e (find_meets test ys x) where
    by_test : (b : Bool) → test y ≡ b → cond b (Some y) (find test ys) ≡ Some x → (find test ys ≡ Some x → test x ≡ true) → test x ≡ true
    by_test true t f later = let same : y ≡ x = cc in subst (λ (z : X). test z ≡ true) same t
    by_test false t f later = later f

  -- what all pass, what is found passes
  pub all_found : (good test : X → Bool) (xs : List X) (x : X) → list_all good xs ≡ true → find test xs ≡ Some x → good x ≡ true
  all_found good test [] x h e = absurd (cc)
  all_found good test (y ∷ ys) x h e = by_test (test y) (good y) refl h e (all_found good test ys x) where
    by_test : (b a : Bool) → good y ≡ a → (a && list_all good ys) ≡ true → cond b (Some y) (find test ys) ≡ Some x → (list_all good ys ≡ true → find test ys ≡ Some x → good x ≡ true) → good x ≡ true
    by_test b false t g f later = absurd (true≢false (sym g))
    by_test true true t g f later = let same : y ≡ x = cc in subst (λ (z : X). good z ≡ true) same t
    by_test false true t g f later = later g f

  -- one that is found is counted
  pub one_passes : (good test : X → Bool) (xs : List X) (x : X) → find test xs ≡ Some x → good x ≡ true → 0 < length (filter good xs)
  one_passes good test [] x e g = absurd (cc)
  one_passes good test (y ∷ ys) x e g = by_test (test y) (good y) refl e (λ f. one_passes good test ys x f g) where
    by_test : (b a : Bool) → good y ≡ a → cond b (Some y) (find test ys) ≡ Some x → (find test ys ≡ Some x → 0 < length (filter good ys)) → 0 < length (cond a (y ∷ filter good ys) (filter good ys))
    by_test b true t f later = omega arith
    by_test true false t f later =
        let same : y ≡ x = cc in
        absurd (true≢false (sym g ∙ ap good (sym same) ∙ t))
    by_test false false t f later = later f

-- ---- control jobs by number

-- the job that is found has the number
pub number_is : (n : ℕ) (cs : List ControlJob) (c : ControlJob) → control.job_numbered n cs ≡ Some c → c.number ≡ n
number_is n cs c e = let t = find_meets (λ (d : ControlJob). d.number == n) cs c e in grind (arith, nat_tests, t)

-- a change that leaves numbers changes what is found
pub numbered_changed : (change : ControlJob → ControlJob) (n : ℕ) (cs : List ControlJob) → ((c : ControlJob) → (change c).number ≡ c.number)
    → control.job_numbered n (map change cs) ≡ option_map change (control.job_numbered n cs)
numbered_changed change n [] same = refl
numbered_changed change n (c ∷ cs) same = by_test (c.number == n) (ap (λ (m : ℕ). m == n) (same c)) (numbered_changed change n cs same) where
  by_test : (b : Bool) → ((change c).number == n) ≡ b → control.job_numbered n (map change cs) ≡ option_map change (control.job_numbered n cs) → cond ((change c).number == n) (Some (change c)) (control.job_numbered n (map change cs)) ≡ option_map change (cond b (Some c) (control.job_numbered n cs))
  by_test true t later = subst (λ (b : Bool). cond b (Some (change c)) (control.job_numbered n (map change cs)) ≡ Some (change c)) (sym t) refl
  by_test false t later = subst (λ (b : Bool). cond b (Some (change c)) (control.job_numbered n (map change cs)) ≡ option_map change (control.job_numbered n cs)) (sym t) later

-- so what is found behind it comes from one before
pub changed_back : (change : ControlJob → ControlJob) (n : ℕ) (cs : List ControlJob) (d : ControlJob) → ((c : ControlJob) → (change c).number ≡ c.number)
    → control.job_numbered n (map change cs) ≡ Some d → (c : ControlJob) × (control.job_numbered n cs ≡ Some c) × (d ≡ change c)
changed_back change n cs d same e = by_job (control.job_numbered n cs) refl (sym (numbered_changed change n cs same) ∙ e) where
  by_job : (o : Option ControlJob) → control.job_numbered n cs ≡ o → option_map change o ≡ Some d → (c : ControlJob) × (control.job_numbered n cs ≡ Some c) × (d ≡ change c)
  by_job None f g = absurd (cc)
  by_job (Some c) f g = let is : d ≡ change c = cc in (c, f, is)

-- and what was found before is found changed
pub changed_on : (change : ControlJob → ControlJob) (n : ℕ) (cs : List ControlJob) (c : ControlJob) → ((d : ControlJob) → (change d).number ≡ d.number)
    → control.job_numbered n cs ≡ Some c → control.job_numbered n (map change cs) ≡ Some (change c)
changed_on change n cs c same e = numbered_changed change n cs same ∙ ap (option_map change) e

-- without the one of another number
pub without_on : (k n : ℕ) (cs : List ControlJob) (c : ControlJob) → (n == k) ≡ false → control.job_numbered n cs ≡ Some c → control.job_numbered n (jobs_without k cs) ≡ Some c
without_on k n [] c other e = absurd (cc)
without_on k n (d ∷ ds) c other e = by_test (d.number == k) (d.number == n) refl refl e (without_on k n ds c other) where
  by_test : (a b : Bool) → (d.number == k) ≡ a → (d.number == n) ≡ b → cond b (Some d) (control.job_numbered n ds) ≡ Some c → (control.job_numbered n ds ≡ Some c → control.job_numbered n (jobs_without k ds) ≡ Some c)
      → control.job_numbered n (cond (not a) (d ∷ jobs_without k ds) (jobs_without k ds)) ≡ Some c
  by_test true true t u f later = let clash : (n == k) ≡ true = grind (arith, nat_tests, t, u) in absurd (true≢false (sym clash ∙ other))
  by_test true false t u f later = later f
  by_test false true t u f later = rw u f
  by_test false false t u f later = rw u (later f)

pub without_back : (k n : ℕ) (cs : List ControlJob) (c : ControlJob) → control.job_numbered n (jobs_without k cs) ≡ Some c → control.job_numbered n cs ≡ Some c
without_back k n [] c e = e
without_back k n (d ∷ ds) c e = by_test (d.number == k) (d.number == n) refl refl e (without_back k n ds c) where
  gone : (d.number == k) ≡ true → (d.number == n) ≡ true → control.job_numbered n (jobs_without k ds) ≡ Some c → ⊥
  gone t u f = let same : k ≡ n = grind (arith, nat_tests, t, u) in none_without n ds c (subst (λ (m : ℕ). control.job_numbered n (jobs_without m ds) ≡ Some c) same f)
    where
      none_without : (m : ℕ) (es : List ControlJob) (x : ControlJob) → control.job_numbered m (jobs_without m es) ≡ Some x → ⊥
      none_without m [] x g = absurd (cc)
      none_without m (y ∷ es) x g = at (y.number == m) refl g (none_without m es x) where
        at : (b : Bool) → (y.number == m) ≡ b → control.job_numbered m (cond (not b) (y ∷ jobs_without m es) (jobs_without m es)) ≡ Some x → (control.job_numbered m (jobs_without m es) ≡ Some x → ⊥) → ⊥
        at true t2 h later = later h
        at false t2 h later = later (subst (λ (b : Bool). cond b (Some y) (control.job_numbered m (jobs_without m es)) ≡ Some x) t2 h)

  by_test : (a b : Bool) → (d.number == k) ≡ a → (d.number == n) ≡ b → control.job_numbered n (cond (not a) (d ∷ jobs_without k ds) (jobs_without k ds)) ≡ Some c → (control.job_numbered n (jobs_without k ds) ≡ Some c → control.job_numbered n ds ≡ Some c)
      → cond b (Some d) (control.job_numbered n ds) ≡ Some c
  by_test true true t u f later = absurd (gone t u f)
  by_test true false t u f later = later f
  by_test false true t u f later = subst (λ (b : Bool). cond b (Some d) (control.job_numbered n (jobs_without k ds)) ≡ Some c) u f
  by_test false false t u f later = later (subst (λ (b : Bool). cond b (Some d) (control.job_numbered n (jobs_without k ds)) ≡ Some c) u f)

-- one more behind the others
pub more_on : (d : ControlJob) (n : ℕ) (cs : List ControlJob) (c : ControlJob) → control.job_numbered n cs ≡ Some c → control.job_numbered n (cs ++ d ∷ []) ≡ Some c
more_on d n [] c e = absurd (cc)
more_on d n (x ∷ xs) c e = by_test (x.number == n) e (more_on d n xs c) where
  by_test : (b : Bool) → cond b (Some x) (control.job_numbered n xs) ≡ Some c → (control.job_numbered n xs ≡ Some c → control.job_numbered n (xs ++ d ∷ []) ≡ Some c) → cond b (Some x) (control.job_numbered n (xs ++ d ∷ [])) ≡ Some c
  by_test true f later = f
  by_test false f later = later f

pub more_back : (d : ControlJob) (n : ℕ) (cs : List ControlJob) (c : ControlJob) → control.job_numbered n (cs ++ d ∷ []) ≡ Some c → (control.job_numbered n cs ≡ Some c) ⊎ (c ≡ d)
more_back d n [] c e = by_test (d.number == n) e where
  by_test : (b : Bool) → cond b (Some d) None ≡ Some c → (control.job_numbered n [] ≡ Some c) ⊎ (c ≡ d)
  by_test true f = let same : c ≡ d = cc in inr same
  by_test false f = absurd (cc)
more_back d n (x ∷ xs) c e = by_test (x.number == n) e (more_back d n xs c) where
  by_test : (b : Bool) → cond b (Some x) (control.job_numbered n (xs ++ d ∷ [])) ≡ Some c → (control.job_numbered n (xs ++ d ∷ []) ≡ Some c → (control.job_numbered n xs ≡ Some c) ⊎ (c ≡ d)) → (cond b (Some x) (control.job_numbered n xs) ≡ Some c) ⊎ (c ≡ d)
  by_test true f later = inl f
  by_test false f later = later f

-- where one at most passes a test, two that pass it have one number
pub one_alone : (good : ControlJob → Bool) (m n : ℕ) (cs : List ControlJob) (c d : ControlJob) → length (filter good cs) ≤ 1
    → control.job_numbered m cs ≡ Some c → control.job_numbered n cs ≡ Some d → good c ≡ true → good d ≡ true → m ≡ n
one_alone good m n [] c d few e f g h = absurd (cc)
one_alone good m n (x ∷ xs) c d few e f g h = by_test (x.number == m) (x.number == n) (good x) refl refl refl few e f (λ l a b. one_alone good m n xs c d l a b g h) where
  last : control.job_numbered n xs ≡ Some d → 0 < length (filter good xs)
  last b = one_passes good (λ (y : ControlJob). y.number == n) xs d b h

  other : control.job_numbered m xs ≡ Some c → 0 < length (filter good xs)
  other a = one_passes good (λ (y : ControlJob). y.number == m) xs c a g

  passes : (y : ControlJob) → x ≡ y → good y ≡ true → good x ≡ false → ⊥
  passes y same p q = absurd (true≢false (sym p ∙ ap good (sym same) ∙ q))

  by_test : (a b p : Bool) → (x.number == m) ≡ a → (x.number == n) ≡ b → good x ≡ p → length (cond p (x ∷ filter good xs) (filter good xs)) ≤ 1
      → cond a (Some x) (control.job_numbered m xs) ≡ Some c → cond b (Some x) (control.job_numbered n xs) ≡ Some d
      → (length (filter good xs) ≤ 1 → control.job_numbered m xs ≡ Some c → control.job_numbered n xs ≡ Some d → m ≡ n) → m ≡ n
  by_test true true p t u q l i k later = grind (arith, nat_tests, t, u)
  by_test true false true t u q l i k later = let some = last k in absurd (omega (arith, l, some))
  by_test true false false t u q l i k later = let same : x ≡ c = cc in absurd (passes c same g q)
  by_test false true true t u q l i k later = let some = other i in absurd (omega (arith, l, some))
  by_test false true false t u q l i k later = let same : x ≡ d = cc in absurd (passes d same h q)
  by_test false false true t u q l i k later = later (omega (arith, l)) i k
  by_test false false false t u q l i k later = later l i k

-- ---- process jobs by number

-- behind a change of the job of a number
pub at_number : (number : ℕ) (change : ProcessJob → ProcessJob) (n : ℕ) (js : List ProcessJob) (k : ProcessJob) → ((j : ProcessJob) → (change j).number ≡ j.number) → process.job_numbered n (change_numbered number change js) ≡ Some k
    → (j : ProcessJob) × (process.job_numbered n js ≡ Some j) × (((n ≡ number) × (k ≡ change j)) ⊎ (((n == number) ≡ false) × (k ≡ j)))
at_number number change n [] k same e = absurd (cc)
at_number number change n (x ∷ xs) k same e = by_test (has_number number x) (has_number n x) refl refl (has_number n (change x)) (ap (λ (m : ℕ). m == n) (same x)) e (at_number number change n xs k same) where
  Result : Bool → Type 0
  Result b = (j : ProcessJob) × (cond b (Some x) (process.job_numbered n xs) ≡ Some j) × (((n ≡ number) × (k ≡ change j)) ⊎ (((n == number) ≡ false) × (k ≡ j)))

  apart : (x.number == number) ≡ true → (x.number == n) ≡ false → (n == number) ≡ false
  apart t u = grind (arith, nat_tests, t, u)

  later_same : process.job_numbered n xs ≡ Some k → (n == number) ≡ false → Result false
  later_same f other = (k, f, inr (other, refl))

  by_test : (a b : Bool) → has_number number x ≡ a → has_number n x ≡ b → (d : Bool) → has_number n (change x) ≡ has_number n x
      → process.job_numbered n (cond a (change x ∷ xs) (x ∷ change_numbered number change xs)) ≡ Some k
      → (process.job_numbered n (change_numbered number change xs) ≡ Some k → (j : ProcessJob) × (process.job_numbered n xs ≡ Some j) × (((n ≡ number) × (k ≡ change j)) ⊎ (((n == number) ≡ false) × (k ≡ j))))
      → Result b
  by_test true true t u d v f later =
      let here : Some (change x) ≡ Some k = subst (λ (b : Bool). cond b (Some (change x)) (process.job_numbered n xs) ≡ Some k) (v ∙ u) f in
      let is : k ≡ change x = cc in
      let number_same : n ≡ number = grind (arith, nat_tests, t, u) in
      (x, refl, inl (number_same, is))
  by_test true false t u d v f later = later_same (subst (λ (b : Bool). cond b (Some (change x)) (process.job_numbered n xs) ≡ Some k) (v ∙ u) f) (apart t u)
  by_test false true t u d v f later =
      let here : Some x ≡ Some k = subst (λ (b : Bool). cond b (Some x) (process.job_numbered n (change_numbered number change xs)) ≡ Some k) u f in
      let is : k ≡ x = cc in
      let other : (n == number) ≡ false = grind (arith, nat_tests, t, u) in
      (x, refl, inr (other, is))
  by_test false false t u d v f later = later (subst (λ (b : Bool). cond b (Some x) (process.job_numbered n (change_numbered number change xs)) ≡ Some k) u f)

-- a number below the first is none
none_below : (n last given : ℕ) (js : List ProcessJob) (k : ProcessJob) → n ≤ last → AreNumbered last given js → process.job_numbered n js ≡ Some k → ⊥
none_below n last given [] k l h e = absurd (cc)
none_below n last given (j ∷ js) k l h e =
    let less = h.0 in
    let other : (j.number == n) ≡ false = grind (arith, nat_tests, l, less) in
    none_below n j.number given js k (omega (arith, l, less)) h.1 (subst (λ (b : Bool). cond b (Some j) (process.job_numbered n js) ≡ Some k) other e)

-- without the job of a number
pub gone_back : (number n last given : ℕ) (js : List ProcessJob) (k : ProcessJob) → AreNumbered last given js → process.job_numbered n (without_numbered number js) ≡ Some k
    → (process.job_numbered n js ≡ Some k) × ((n == number) ≡ false)
gone_back number n last given [] k h e = absurd (cc)
gone_back number n last given (x ∷ xs) k h e = by_test (has_number number x) (has_number n x) refl refl e (gone_back number n x.number given xs k h.1) where
  by_test : (a b : Bool) → has_number number x ≡ a → has_number n x ≡ b → process.job_numbered n (cond a xs (x ∷ without_numbered number xs)) ≡ Some k
      → (process.job_numbered n (without_numbered number xs) ≡ Some k → (process.job_numbered n xs ≡ Some k) × ((n == number) ≡ false))
      → (cond b (Some x) (process.job_numbered n xs) ≡ Some k) × ((n == number) ≡ false)
  by_test true true t u f later =
      let below : n ≤ x.number = grind (arith, nat_tests, u) in
      absurd (none_below n x.number given xs k below h.1 f)
  by_test true false t u f later = let other : (n == number) ≡ false = grind (arith, nat_tests, t, u) in (f, other)
  by_test false true t u f later =
      let here : Some x ≡ Some k = subst (λ (b : Bool). cond b (Some x) (process.job_numbered n (without_numbered number xs)) ≡ Some k) u f in
      let other : (n == number) ≡ false = grind (arith, nat_tests, t, u) in
      (here, other)
  by_test false false t u f later = later (subst (λ (b : Bool). cond b (Some x) (process.job_numbered n (without_numbered number xs)) ≡ Some k) u f)

-- one more behind the others
pub one_more_back : (d : ProcessJob) (n : ℕ) (js : List ProcessJob) (k : ProcessJob) → process.job_numbered n (js ++ d ∷ []) ≡ Some k → (process.job_numbered n js ≡ Some k) ⊎ (k ≡ d)
one_more_back d n [] k e = by_test (has_number n d) e where
  by_test : (b : Bool) → cond b (Some d) None ≡ Some k → (process.job_numbered n [] ≡ Some k) ⊎ (k ≡ d)
  by_test true f = let same : k ≡ d = cc in inr same
  by_test false f = absurd (cc)
one_more_back d n (x ∷ xs) k e = by_test (has_number n x) e (one_more_back d n xs k) where
  by_test : (b : Bool) → cond b (Some x) (process.job_numbered n (xs ++ d ∷ [])) ≡ Some k → (process.job_numbered n (xs ++ d ∷ []) ≡ Some k → (process.job_numbered n xs ≡ Some k) ⊎ (k ≡ d)) → (cond b (Some x) (process.job_numbered n xs) ≡ Some k) ⊎ (k ≡ d)
  by_test true f later = inl f
  by_test false f later = later f

-- one that is found is known by its name
known_numbered : (n : ℕ) (js : List ProcessJob) (j : ProcessJob) (name : List ℕ) → process.job_numbered n js ≡ Some j → bytes_eq j.id name ≡ true → is_known name js ≡ true
known_numbered n [] j name e t = absurd (cc)
known_numbered n (x ∷ xs) j name e t = by_test (has_number n x) (has_name name x) refl e (λ f. known_numbered n xs j name f t) where
  by_test : (b a : Bool) → has_name name x ≡ a → cond b (Some x) (process.job_numbered n xs) ≡ Some j → (process.job_numbered n xs ≡ Some j → is_known name xs ≡ true) → (a || is_known name xs) ≡ true
  by_test b true u f later = refl
  by_test true false u f later =
      let same : x ≡ j = cc in
      absurd (true≢false (sym t ∙ ap (λ (y : ProcessJob). bytes_eq y.id name) (sym same) ∙ u))
  by_test false false u f later = later f

-- jobs of different numbers have different names
pub names_differ : (m n : ℕ) (js : List ProcessJob) (j k : ProcessJob) → are_named_apart js ≡ true → process.job_numbered m js ≡ Some j → process.job_numbered n js ≡ Some k → (m == n) ≡ false → bytes_eq j.id k.id ≡ false
names_differ m n [] j k h e f other = absurd (cc)
names_differ m n (x ∷ xs) j k h e f other = by_test (has_number m x) (has_number n x) refl refl e f (λ a b. names_differ m n xs j k (rest_apart name_of x xs h) a b other) where
  unknown : is_known x.id xs ≡ false
  unknown = first_apart name_of x xs h

  decided : (y : ProcessJob) (i : ℕ) → process.job_numbered i xs ≡ Some y → bytes_eq y.id x.id ≡ false
  decided y i a = by (bytes_eq y.id x.id) refl where
    by : (b : Bool) → bytes_eq y.id x.id ≡ b → b ≡ false
    by true t = absurd (true≢false (sym (known_numbered i xs y x.id a t) ∙ unknown))
    by false t = refl

  by_test : (a b : Bool) → has_number m x ≡ a → has_number n x ≡ b → cond a (Some x) (process.job_numbered m xs) ≡ Some j → cond b (Some x) (process.job_numbered n xs) ≡ Some k
      → (process.job_numbered m xs ≡ Some j → process.job_numbered n xs ≡ Some k → bytes_eq j.id k.id ≡ false) → bytes_eq j.id k.id ≡ false
  by_test true true t u g i later = let clash : (m == n) ≡ true = grind (arith, nat_tests, t, u) in absurd (true≢false (sym clash ∙ other))
  by_test true false t u g i later =
      let same : x ≡ j = cc in
      subst (λ (y : ProcessJob). bytes_eq y.id k.id ≡ false) same (turned x.id k.id ∙ decided k n i)
  by_test false true t u g i later = let same : x ≡ k = cc in subst (λ (y : ProcessJob). bytes_eq j.id y.id ≡ false) same (decided j m g)
  by_test false false t u g i later = later g i

-- ---- names

-- another name stays where one goes
pub stays_in_others : (gone name : List ℕ) (ns : List (List ℕ)) → bytes_eq name gone ≡ false → is_in name ns ≡ true → is_in name (others gone ns) ≡ true
stays_in_others gone name [] other e = absurd (true≢false (sym e))
stays_in_others gone name (n ∷ ns) other e = by_test (bytes_eq n gone) (bytes_eq n name) refl refl e (stays_in_others gone name ns other) where
  by_test : (a b : Bool) → bytes_eq n gone ≡ a → bytes_eq n name ≡ b → (b || is_in name ns) ≡ true → (is_in name ns ≡ true → is_in name (others gone ns) ≡ true) → is_in name (cond (not a) (n ∷ others gone ns) (others gone ns)) ≡ true
  by_test true true t u f later =
      let same : n ≡ name = same_name n name u in
      absurd (true≢false (sym (subst (λ (m : List ℕ). bytes_eq m gone ≡ true) same t) ∙ other))
  by_test true false t u f later = later f
  by_test false true t u f later = rw u refl
  by_test false false t u f later = rw u (later f)
