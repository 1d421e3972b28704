-- The first process job that is left in a control job and names the slot of a substrate, where jobs change.
use Rattle.std.proofs.Common.{◌≡◌, ℕ, ◌==◌, Bool, true, false, if◌then◌else◌, not, ◌&&◌, ◌||◌, List, [], ◌∷◌, ◌++◌, find, Option, Some, None, is_some, option_map, bytes_eq, refl, sym, ◌∙◌, ap, subst}
use Rattle.std.specs.List.{list_any}
use Rattle.std.proofs.lemmas.Bool.{true≢false, or_right}
use Rattle.std.proofs.lemmas.Bool.Decides.{Decides-eqb}
use Rattle.gem_ids.specs.declared.numbers.LocId.{LocId}
use Rattle.records.proofs.Texts.{same_name, own_name, turned}
use Rattle.records.proofs.Apart.{found_named}
use Rattle.process_job.specs.Jobs.{name_of, has_number, is_known, job_named, job_numbered, change_numbered, without_numbered, fires_row, are_named_apart}
use Rattle.process_job.specs.declared.job.ProcessJob.{ProcessJob}
use Rattle.control_job.specs.Names.{is_in, others}
use Rattle.control_job.specs.Jobs.{job_numbered as control_numbered}
use Rattle.tool_jobs.specs.Wants.{is_first}
use Rattle.shop_floor.specs.Floor.{Floor}
use Rattle.floor_model.specs.declared.tracked.Substrate.{Substrate}
use Rattle.floor_model.specs.Floor.{ToolFloor, with_shop, with_jobs}
use Rattle.floor_model.specs.Jobs.{is_carrier_of, is_slot_named, names_slot_of}
use Rattle.floor_laws.proofs.JobFires.{fired_jobs}
use Rattle.floor_laws.proofs.JobLists.{fired_there, fired_else}
use Rattle.floor_laws.proofs.JobSight.{none_some, some_same}
use Rattle.lot_laws.specs.Lot.{is_in_named_slot, is_in_found_slot, names_slot, names_left, first_naming}

-- ---- lists

-- tests that agree on each find some alike
pub any_alike : {A : Type 0} (t u : A → Bool) (xs : List A) → ((x : A) → t x ≡ u x) → list_any t xs ≡ list_any u xs
any_alike t u [] h = refl
any_alike t u (x ∷ xs) h = ap (λ (b : Bool). b || list_any t xs) (h x) ∙ ap (λ (b : Bool). u x || b) (any_alike t u xs h)

-- ---- names

-- tests that agree on each of these find the same
pub find_alike : (t u : List ℕ → Bool) (ns : List (List ℕ)) → ((n : List ℕ) → is_in n ns ≡ true → t n ≡ u n) → find t ns ≡ find u ns
find_alike t u [] same = refl
find_alike t u (n ∷ ns) same =
    ap (λ (b : Bool). if b then Some n else find t ns) (same n (ap (λ (b : Bool). b || is_in n ns) (own_name n)))
    ∙ ap (λ (o : Option (List ℕ)). if u n then Some n else o) (find_alike t u ns (λ m i. same m (or_right (bytes_eq n m) (is_in m ns) i)))

-- one that is found is one of them
pub find_in : (t : List ℕ → Bool) (ns : List (List ℕ)) (name : List ℕ) → find t ns ≡ Some name → is_in name ns ≡ true
find_in t [] name e = none_some name e
find_in t (n ∷ ns) name e = of (t n) e (find_in t ns name) where
  of : (b : Bool) → (if b then Some n else find t ns) ≡ Some name → (find t ns ≡ Some name → is_in name ns ≡ true) → (bytes_eq n name || is_in name ns) ≡ true
  of true f later = ap (λ (b : Bool). b || is_in name ns) (subst (λ (m : List ℕ). bytes_eq n m ≡ true) (some_same n name f) (own_name n))
  of false f later = or_right (bytes_eq n name) (is_in name ns) (later f)

-- where one of them passes, one is found
pub find_there : (t : List ℕ → Bool) (ns : List (List ℕ)) (name : List ℕ) → is_in name ns ≡ true → t name ≡ true → is_some (find t ns) ≡ true
find_there t [] name i p = absurd (true≢false (sym i))
find_there t (n ∷ ns) name i p = of (t n) refl (bytes_eq n name) refl i (λ j. find_there t ns name j p) where
  of : (a : Bool) → t n ≡ a → (b : Bool) → bytes_eq n name ≡ b → (b || is_in name ns) ≡ true → (is_in name ns ≡ true → is_some (find t ns) ≡ true) → is_some (if a then Some n else find t ns) ≡ true
  of true q b r j later = refl
  of false q true r j later = absurd (true≢false (sym p ∙ ap t (sym (same_name n name r)) ∙ q))
  of false q false r j later = later j

-- where the first of them passes, it is found
pub find_first : (t : List ℕ → Bool) (ns : List (List ℕ)) (name : List ℕ) → is_first name ns ≡ true → t name ≡ true → find t ns ≡ Some name
find_first t [] name i p = absurd (true≢false (sym i))
find_first t (n ∷ ns) name i p =
    let same : n ≡ name = same_name n name i in
    ap (λ (b : Bool). if b then Some n else find t ns) (ap t same ∙ p) ∙ ap (λ (m : List ℕ). Some m) same

-- the one that passes is found, where none before it does
pub find_behind : (t : List ℕ → Bool) (before behind : List (List ℕ)) (name : List ℕ) → t name ≡ true → list_any t before ≡ false → find t (before ++ name ∷ behind) ≡ Some name
find_behind t [] behind name p none = ap (λ (b : Bool). if b then Some name else find t behind) p
find_behind t (n ∷ ns) behind name p none = of (t n) none (find_behind t ns behind name p) where
  of : (b : Bool) → (b || list_any t ns) ≡ false → (list_any t ns ≡ false → find t (ns ++ name ∷ behind) ≡ Some name) → (if b then Some n else find t (ns ++ name ∷ behind)) ≡ Some name
  of true none later = absurd (true≢false none)
  of false none later = later none

-- where another one goes, and the test stays as it is of those that stay, it is found still
pub find_gone : (t u : List ℕ → Bool) (gone : List ℕ) → ((n : List ℕ) → bytes_eq n gone ≡ false → u n ≡ t n) → (ns : List (List ℕ)) (name : List ℕ) → bytes_eq name gone ≡ false → find t ns ≡ Some name → find u (others gone ns) ≡ Some name
find_gone t u gone same [] name other e = none_some name e
find_gone t u gone same (n ∷ ns) name other e = of (bytes_eq n gone) refl (t n) refl e (find_gone t u gone same ns name other) where
  of : (a : Bool) → bytes_eq n gone ≡ a → (b : Bool) → t n ≡ b → (if b then Some n else find t ns) ≡ Some name → (find t ns ≡ Some name → find u (others gone ns) ≡ Some name) → find u (if not a then n ∷ others gone ns else others gone ns) ≡ Some name
  of true q true r f later = absurd (true≢false (sym q ∙ ap (λ (m : List ℕ). bytes_eq m gone) (some_same n name f) ∙ other))
  of true q false r f later = later f
  of false q true r f later = ap (λ (b : Bool). if b then Some n else find u (others gone ns)) (same n q ∙ r) ∙ f
  of false q false r f later = ap (λ (b : Bool). if b then Some n else find u (others gone ns)) (same n q ∙ r) ∙ later f

-- ---- process jobs by their names

-- a job that is found by its number is found by its name
pub by_name : (n : ℕ) (js : List ProcessJob) (j : ProcessJob) → are_named_apart js ≡ true → job_numbered n js ≡ Some j → job_named j.id js ≡ Some j
by_name n js j apart e = found_named name_of (has_number n) js j apart e

-- each names the slot as before where the state of one changes
naming_fired : (shop : Floor) (s : Substrate) (n row : ℕ) (name : List ℕ) (js : List ProcessJob) → is_in_found_slot (job_named name (change_numbered n (fires_row row) js)) shop s ≡ is_in_found_slot (job_named name js) shop s
naming_fired shop s n row name [] = refl
naming_fired shop s n row name (x ∷ xs) = of (x.number == n) (naming_fired shop s n row name xs) where
  of : (a : Bool) → is_in_found_slot (job_named name (change_numbered n (fires_row row) xs)) shop s ≡ is_in_found_slot (job_named name xs) shop s
      → is_in_found_slot (job_named name (if a then fires_row row x ∷ xs else x ∷ change_numbered n (fires_row row) xs)) shop s ≡ is_in_found_slot (job_named name (x ∷ xs)) shop s
  of true rest = at (bytes_eq x.id name) where
    at : (c : Bool) → is_in_found_slot (if c then Some (fires_row row x) else job_named name xs) shop s ≡ is_in_found_slot (if c then Some x else job_named name xs) shop s
    at true = refl
    at false = refl
  of false rest = at (bytes_eq x.id name) where
    at : (c : Bool) → is_in_found_slot (if c then Some x else job_named name (change_numbered n (fires_row row) xs)) shop s ≡ is_in_found_slot (if c then Some x else job_named name xs) shop s
    at true = refl
    at false = rest

-- another one is found as before where one is forgotten
named_without : (n : ℕ) (name : List ℕ) (js : List ProcessJob) (j : ProcessJob) → job_numbered n js ≡ Some j → bytes_eq name j.id ≡ false → job_named name (without_numbered n js) ≡ job_named name js
named_without n name [] j e other = refl
named_without n name (x ∷ xs) j e other = of (x.number == n) e (λ f. named_without n name xs j f other) where
  of : (b : Bool) → (if b then Some x else job_numbered n xs) ≡ Some j → (job_numbered n xs ≡ Some j → job_named name (without_numbered n xs) ≡ job_named name xs) → job_named name (if b then xs else x ∷ without_numbered n xs) ≡ job_named name (x ∷ xs)
  of true f later = sym (ap (λ (b : Bool). if b then Some x else job_named name xs) (ap (λ (y : ProcessJob). bytes_eq y.id name) (some_same x j f) ∙ turned j.id name ∙ other))
  of false f later = ap (λ (o : Option ProcessJob). if bytes_eq x.id name then Some x else o) (later f)

-- one that is kept is found as before where one is created
pub named_more : (name : List ℕ) (js : List ProcessJob) (new : ProcessJob) → is_known name js ≡ true → job_named name (js ++ new ∷ []) ≡ job_named name js
named_more name [] new e = absurd (true≢false (sym e))
named_more name (x ∷ xs) new e = of (bytes_eq x.id name) e (named_more name xs new) where
  of : (b : Bool) → (b || is_known name xs) ≡ true → (is_known name xs ≡ true → job_named name (xs ++ new ∷ []) ≡ job_named name xs) → (if b then Some x else job_named name (xs ++ new ∷ [])) ≡ (if b then Some x else job_named name xs)
  of true f later = refl
  of false f later = later f

-- one that is found by its number is found behind a row, under its name and with its recipe
pub named_on : (n row k : ℕ) (js : List ProcessJob) (j : ProcessJob) → job_numbered k js ≡ Some j → (i : ProcessJob) × (job_numbered k (change_numbered n (fires_row row) js) ≡ Some i) × (i.id ≡ j.id) × (i.recipe ≡ j.recipe)
named_on n row k js j e = of (k == n) refl where
  of : (b : Bool) → (k == n) ≡ b → (i : ProcessJob) × (job_numbered k (change_numbered n (fires_row row) js) ≡ Some i) × (i.id ≡ j.id) × (i.recipe ≡ j.recipe)
  of true q =
      let same : k ≡ n = (Decides-eqb k n).0 q in
      (fires_row row j, subst (λ (m : ℕ). job_numbered m (change_numbered n (fires_row row) js) ≡ Some (fires_row row j)) (sym same) (fired_there n row js ∙ ap (option_map (fires_row row)) (subst (λ (m : ℕ). job_numbered m js ≡ Some j) same e)), refl, refl)
  of false q = (j, fired_else n row k (λ same. true≢false (sym ((Decides-eqb k n).1 same) ∙ q)) js ∙ e, refl, refl)

-- ---- the first that names its slot

-- each process job names the slots alike of substrates of one carrier in one slot
named_alike : (shop : Floor) (y x : Substrate) → y.carrier ≡ x.carrier → y.slot ≡ x.slot → (j : ProcessJob) → is_in_named_slot j shop y ≡ is_in_named_slot j shop x
named_alike shop y x carrier slot j =
    any_alike (names_slot_of shop y) (names_slot_of shop x) j.material
    (λ m. ap (λ (n : ℕ). list_any (is_carrier_of m.carrier n) shop.carriers && is_slot_named m.slots y.slot) carrier ∙ ap (λ (l : LocId). list_any (is_carrier_of m.carrier x.carrier) shop.carriers && is_slot_named m.slots l) slot)

module _ (number : ℕ) (f : ToolFloor) (x : Substrate) where
  -- it is the same for a substrate of the same carrier in the same slot
  pub first_alone : (y : Substrate) → y.carrier ≡ x.carrier → y.slot ≡ x.slot → first_naming number f y ≡ first_naming number f x
  first_alone y carrier slot = find_alike (names_slot f y) (names_slot f x) (names_left (control_numbered number f.jobs.control.jobs)) (λ name i. of (job_named name f.jobs.process.kept)) where
    of : (o : Option ProcessJob) → is_in_found_slot o f.shop y ≡ is_in_found_slot o f.shop x
    of None = refl
    of (Some j) = named_alike f.shop y x carrier slot j

  -- it is the same where the state of a process job changes
  pub first_fired : (n row : ℕ) → first_naming number (with_jobs (fired_jobs n row f.jobs) f) x ≡ first_naming number f x
  first_fired n row =
      find_alike (names_slot (with_jobs (fired_jobs n row f.jobs) f) x) (names_slot f x) (names_left (control_numbered number f.jobs.control.jobs))
      (λ name i. naming_fired f.shop x n row name f.jobs.process.kept)

  -- and where load ports and carriers change, and each process job names its slot as before
  pub first_shop : (s : Floor) → ((j : ProcessJob) → is_in_named_slot j s x ≡ is_in_named_slot j f.shop x) → first_naming number (with_shop s f) x ≡ first_naming number f x
  first_shop s same =
      find_alike (names_slot (with_shop s f) x) (names_slot f x) (names_left (control_numbered number f.jobs.control.jobs)) (λ name i. of (job_named name f.jobs.process.kept))
    where
      of : (o : Option ProcessJob) → is_in_found_slot o s x ≡ is_in_found_slot o f.shop x
      of None = refl
      of (Some j) = same j

  -- and where another process job ends
  pub first_ended : (n : ℕ) (j : ProcessJob) → job_numbered n f.jobs.process.kept ≡ Some j → (left : List (List ℕ)) → left ≡ others j.id (names_left (control_numbered number f.jobs.control.jobs))
      → (name : List ℕ) → bytes_eq name j.id ≡ false → first_naming number f x ≡ Some name → find (λ m. is_in_found_slot (job_named m (without_numbered n f.jobs.process.kept)) f.shop x) left ≡ Some name
  first_ended n j known left is name other e =
      ap (find (λ m. is_in_found_slot (job_named m (without_numbered n f.jobs.process.kept)) f.shop x)) is
      ∙ find_gone (names_slot f x) (λ m. is_in_found_slot (job_named m (without_numbered n f.jobs.process.kept)) f.shop x) j.id
      (λ m q. ap (λ (o : Option ProcessJob). is_in_found_slot o f.shop x) (named_without n m f.jobs.process.kept j known q)) (names_left (control_numbered number f.jobs.control.jobs)) name other e

  -- it is one of which none before it names the slot
  pub first_behind : (before behind : List (List ℕ)) (name : List ℕ) → names_left (control_numbered number f.jobs.control.jobs) ≡ before ++ name ∷ behind → names_slot f x name ≡ true → list_any (names_slot f x) before ≡ false → first_naming number f x ≡ Some name
  first_behind before behind name is names none = ap (find (names_slot f x)) is ∙ find_behind (names_slot f x) before behind name names none

  -- the first that is left is it, where it names its slot
  pub first_is : (n : ℕ) (j : ProcessJob) → are_named_apart f.jobs.process.kept ≡ true → job_numbered n f.jobs.process.kept ≡ Some j → is_first j.id (names_left (control_numbered number f.jobs.control.jobs)) ≡ true
      → is_in_named_slot j f.shop x ≡ true → first_naming number f x ≡ Some j.id
  first_is n j apart known first names =
      find_first (names_slot f x) (names_left (control_numbered number f.jobs.control.jobs)) j.id first
      (ap (λ (o : Option ProcessJob). is_in_found_slot o f.shop x) (by_name n f.jobs.process.kept j apart known) ∙ names)

  -- where one that is left names its slot, there is a first
  pub some_first : (n : ℕ) (j : ProcessJob) → are_named_apart f.jobs.process.kept ≡ true → job_numbered n f.jobs.process.kept ≡ Some j → is_in j.id (names_left (control_numbered number f.jobs.control.jobs)) ≡ true
      → is_in_named_slot j f.shop x ≡ true → is_some (first_naming number f x) ≡ true
  some_first n j apart known left names =
      find_there (names_slot f x) (names_left (control_numbered number f.jobs.control.jobs)) j.id left
      (ap (λ (o : Option ProcessJob). is_in_found_slot o f.shop x) (by_name n f.jobs.process.kept j apart known) ∙ names)
