-- A list with one more behind, and numbers that were not given.
use Rattle.std.proofs.Common.{◌≡◌, ◌≤◌, ◌<◌, ℕ, ◌+◌, ◌==◌, Bool, true, false, ◌||◌, if◌then◌else◌, List, [], ◌∷◌, ◌++◌, map, Some, None, refl, ap, arith}
use Rattle.std.specs.List.{AllByRecursion, list_any}
use Rattle.std.proofs.lemmas.Bool.Decides.{Decides-eqb}
use Rattle.gem_tables.specs.Table.{is_one_of}
use Rattle.process_job.specs.Jobs.{job_numbered, AreNumbered as JobsNumbered}
use Rattle.process_job.specs.declared.job.ProcessJob.{ProcessJob}
use Rattle.shop_floor.proofs.Apart.{all_pushed}
use Rattle.substrate.specs.Places.{AreNumbered}
use Rattle.substrate.specs.declared.registered.Registered.{Registered}
use Rattle.floor_model.specs.declared.tracked.Substrate.{Substrate}
use Rattle.floor_model.specs.Floor.{substrate_numbered, number_of}
use Rattle.floor_model.specs.Floor.{RiseTo}
use Rattle.place_laws.specs.Standing.{AreApart}
use Rattle.floor_laws.proofs.GrowFound.{numbers_rise}

-- ---- one more

-- no two have one slot, where none has that of the last
pub apart_more : (ss : List Substrate) (x : Substrate) → AreApart ss → AllByRecursion (λ (t : Substrate). t.slot ≡ x.slot → ⊥) ss → AreApart (ss ++ x ∷ [])
apart_more [] x apart other = (tt, tt)
apart_more (s ∷ ss) x apart other = (all_pushed (λ (t : Substrate). s.slot ≡ t.slot → ⊥) ss x apart.0 other.0, apart_more ss x apart.1 other.1)

-- their numbers rise to the next one
pub rise_more : (last given : ℕ) (ss : List Substrate) (x : Substrate) → x.number ≡ given + 1 → RiseTo last given ss → RiseTo last (given + 1) (ss ++ x ∷ [])
rise_more last given [] x is rising = (omega (arith, is, rising), omega (arith, is))
rise_more last given (s ∷ ss) x is rising = (rising.0, rise_more s.number given ss x is rising.1)

-- one that passes a test is there still
pub any_more : (test : Substrate → Bool) (ss : List Substrate) (x : Substrate) → list_any test ss ≡ true → list_any test (ss ++ x ∷ []) ≡ true
any_more test [] x e = absurd (cc)
any_more test (s ∷ ss) x e = of (test s) e (any_more test ss x) where
  of : (b : Bool) → (b || list_any test ss) ≡ true → (list_any test ss ≡ true → list_any test (ss ++ x ∷ []) ≡ true) → (b || list_any test (ss ++ x ∷ [])) ≡ true
  of true e rest = refl
  of false e rest = rest e

-- and the last may pass it
pub any_last : (test : Substrate → Bool) (ss : List Substrate) (x : Substrate) → test x ≡ true → list_any test (ss ++ x ∷ []) ≡ true
any_last test [] x e = ap (λ (b : Bool). b || false) e
any_last test (s ∷ ss) x e = of (test s) (any_last test ss x e) where
  of : (b : Bool) → list_any test (ss ++ x ∷ []) ≡ true → (b || list_any test (ss ++ x ∷ [])) ≡ true
  of true rest = refl
  of false rest = rest

-- what is found among them is found with one more
pub found_front : (n : ℕ) (ss : List Substrate) (x t : Substrate) → substrate_numbered n ss ≡ Some t → substrate_numbered n (ss ++ x ∷ []) ≡ Some t
found_front n [] x t e = absurd (cc)
found_front n (s ∷ ss) x t e = of (s.number == n) e (found_front n ss x t) where
  of : (b : Bool) → (if b then Some s else substrate_numbered n ss) ≡ Some t → (substrate_numbered n ss ≡ Some t → substrate_numbered n (ss ++ x ∷ []) ≡ Some t) → (if b then Some s else substrate_numbered n (ss ++ x ∷ [])) ≡ Some t
  of true e rest = e
  of false e rest = rest e

-- and so is the last, where none of them has its number
pub found_last : (n : ℕ) (ss : List Substrate) (x : Substrate) → x.number ≡ n → is_one_of (map number_of ss) n ≡ false → substrate_numbered n (ss ++ x ∷ []) ≡ Some x
found_last n [] x is none = ap (λ (b : Bool). if b then Some x else None) ((Decides-eqb x.number n).1 is)
found_last n (s ∷ ss) x is none = of (s.number == n) none (found_last n ss x is) where
  of : (b : Bool) → (b || is_one_of (map number_of ss) n) ≡ false → (is_one_of (map number_of ss) n ≡ false → substrate_numbered n (ss ++ x ∷ []) ≡ Some x) → (if b then Some s else substrate_numbered n (ss ++ x ∷ [])) ≡ Some x
  of true e rest = absurd (cc)
  of false e rest = rest e

-- ---- numbers that were not given

-- so none has a number past the last that was given
pub none_held : (last given n : ℕ) (rs : List Registered) → AreNumbered last given rs → given < n → is_one_of (map (λ (r : Registered). r.number) rs) n ≡ false
none_held last given n [] rising past = refl
none_held last given n (r ∷ rs) rising past = of (r.number == n) refl (none_held r.number given n rs rising.1 past) where
  of : (b : Bool) → (r.number == n) ≡ b → is_one_of (map (λ (x : Registered). x.number) rs) n ≡ false → (b || is_one_of (map (λ (x : Registered). x.number) rs) n) ≡ false
  of true e rest = let same = (Decides-eqb r.number n).0 e in let less = numbers_rise r.number given rs rising.1 in absurd (omega (arith, same, less, past))
  of false e rest = rest

-- and no job has the number 0
pub no_job : (last given n : ℕ) (js : List ProcessJob) → JobsNumbered last given js → n ≤ last → job_numbered n js ≡ None
no_job last given n [] rising less = refl
no_job last given n (j ∷ js) rising less = of (j.number == n) refl (let more = rising.0 in no_job j.number given n js rising.1 (omega (arith, less, more))) where
  of : (b : Bool) → (j.number == n) ≡ b → job_numbered n js ≡ None → (if b then Some j else job_numbered n js) ≡ None
  of true e rest = let same = (Decides-eqb j.number n).0 e in let more = rising.0 in absurd (omega (arith, same, less, more))
  of false e rest = rest

-- a number is itself
pub own_number : (n : ℕ) → (n == n) ≡ true
own_number n = (Decides-eqb n n).1 refl
