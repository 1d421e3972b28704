-- What holds besides ports and numbers is kept where one substrate changes in what none of it looks at.
use Rattle.std.proofs.Common.{◌≡◌, ◌≤◌, ℕ, ◌+◌, ◌==◌, Bool, true, false, ◌&&◌, ◌||◌, if◌then◌else◌, List, [], ◌∷◌, Some, option_map, refl, sym, ◌∙◌, ap, subst}
use Rattle.std.specs.List.{AllByRecursion, list_any}
use Rattle.std.specs.Str.{bytes_eq}
use Rattle.std.proofs.lemmas.Bool.Decides.{Decides-eqb}
use Rattle.gem_ids.specs.declared.numbers.LocId.{LocId}
use Rattle.carrier.specs.declared.carrier.Carrier.{Carrier}
use Rattle.carrier.specs.Carriers.{carrier_numbered}
use Rattle.shop_floor.proofs.Apart.{all_follows}
use Rattle.substrate.specs.Locations.{is_same}
use Rattle.substrate.specs.declared.registered.Registered.{Registered}
use Rattle.process_job.specs.Jobs.{job_numbered}
use Rattle.tool_jobs.specs.Jobs.{Jobs}
use Rattle.floor_model.specs.declared.tracked.Substrate.{Substrate}
use Rattle.floor_model.specs.Floor.{ToolFloor, substrate_numbered, change_numbered}
use Rattle.floor_model.specs.Floor.{RiseTo}
use Rattle.place_laws.specs.Standing.{IsCarried, AreApart, AreRegistered}
use Rattle.place_laws.specs.Sound.{IsOfKept, IsInItsJob, JobsSound, Base}
use Rattle.picture_laws.proofs.Columns.{found_there, found_else}

-- a change of substrates leaves what they are of: number, name, carrier, slot and job
pub record Leaves (change : Substrate → Substrate) : Type 0 where
  pub number : (s : Substrate) → (change s).number ≡ s.number
  pub sub : (s : Substrate) → (change s).sub ≡ s.sub
  pub carrier : (s : Substrate) → (change s).carrier ≡ s.carrier
  pub slot : (s : Substrate) → (change s).slot ≡ s.slot
  pub job : (s : Substrate) → (change s).job ≡ s.job

module _ (n : ℕ) (change : Substrate → Substrate) (leaves : Leaves change) where
  -- what is true of each is true of each behind the change
  all_changed : (P : Substrate → Type 0) → ((s : Substrate) → P s → P (change s)) → (ss : List Substrate) → AllByRecursion P ss → AllByRecursion P (change_numbered n change ss)
  all_changed P on [] all = tt
  all_changed P on (s ∷ ss) all = of (s.number == n) (all_changed P on ss all.1) where
    of : (b : Bool) → AllByRecursion P (change_numbered n change ss) → AllByRecursion P (if b then change s ∷ ss else s ∷ change_numbered n change ss)
    of true rest = (on s all.0, all.1)
    of false rest = (all.0, rest)

  -- one passes where one passed
  any_same : (test : Substrate → Bool) → ((s : Substrate) → test (change s) ≡ test s) → (ss : List Substrate) → list_any test (change_numbered n change ss) ≡ list_any test ss
  any_same test same [] = refl
  any_same test same (s ∷ ss) = of (s.number == n) (any_same test same ss) where
    of : (b : Bool) → list_any test (change_numbered n change ss) ≡ list_any test ss → list_any test (if b then change s ∷ ss else s ∷ change_numbered n change ss) ≡ (test s || list_any test ss)
    of true rest = ap (λ (b : Bool). b || list_any test ss) (same s)
    of false rest = ap (λ (b : Bool). test s || b) rest

  -- slots differ as they did
  apart_changed : (ss : List Substrate) → AreApart ss → AreApart (change_numbered n change ss)
  apart_changed [] apart = tt
  apart_changed (s ∷ ss) apart = of (s.number == n) (apart_changed ss apart.1) where
    of : (b : Bool) → AreApart (change_numbered n change ss) → AreApart (if b then change s ∷ ss else s ∷ change_numbered n change ss)
    of true rest = (all_follows (λ (t : Substrate). s.slot ≡ t.slot → ⊥) (λ (t : Substrate). (change s).slot ≡ t.slot → ⊥) ss (λ t other same. other (sym (leaves.slot s) ∙ same)) apart.0, apart.1)
    of false rest = (all_changed (λ (t : Substrate). s.slot ≡ t.slot → ⊥) (λ t other same. other (same ∙ leaves.slot t)) ss apart.0, rest)

  -- numbers rise as they did
  rising_changed : (last given : ℕ) (ss : List Substrate) → RiseTo last given ss → RiseTo last given (change_numbered n change ss)
  rising_changed last given [] rising = rising
  rising_changed last given (s ∷ ss) rising = of (s.number == n) (rising_changed s.number given ss rising.1) where
    of : (b : Bool) → RiseTo s.number given (change_numbered n change ss) → RiseTo last given (if b then change s ∷ ss else s ∷ change_numbered n change ss)
    of true rest = subst (λ (k : ℕ). (last + 1 ≤ k) × RiseTo k given ss) (sym (leaves.number s)) rising
    of false rest = (rising.0, rest)

  -- it is of the carrier that it was of
  carried_on : (cs : List Carrier) (s : Substrate) → IsCarried cs s → IsCarried cs (change s)
  carried_on cs s is =
      let of = is.2 in (
        is.0,
        ap (λ (k : ℕ). carrier_numbered k cs) (leaves.carrier s) ∙ is.1,
        record { present = of.present; verified = of.verified; port = of.port; slot = of.slot; at = of.at; own = leaves.slot s ∙ of.own; named = leaves.sub s ∙ of.named; first = of.first; last = of.last },
      )

  -- a substrate that is found is found behind the change, under its name
  kept_on : (ss : List Substrate) (r : Registered) → IsOfKept ss r → IsOfKept (change_numbered n change ss) r
  kept_on ss r is = by (r.number == n) refl where
    by : (b : Bool) → (r.number == n) ≡ b → IsOfKept (change_numbered n change ss) r
    by true e =
        let same : r.number ≡ n = (Decides-eqb r.number n).0 e in
        let there : substrate_numbered n ss ≡ Some is.0 = ap (λ (k : ℕ). substrate_numbered k ss) (sym same) ∙ is.1 in
        (change is.0, ap (λ (k : ℕ). substrate_numbered k (change_numbered n change ss)) same ∙ found_there n change leaves.number ss ∙ ap (option_map change) there, leaves.sub is.0 ∙ is.2)
    by false e = (is.0, found_else n change leaves.number r.number (λ same. let t = (Decides-eqb r.number n).1 same in cc) ss ∙ is.1, is.2)

  -- it is in the job that it was in
  in_job_on : (cs : List Carrier) (w : Jobs) (s : Substrate) → IsInItsJob cs w s → IsInItsJob cs w (change s)
  in_job_on cs w s is j found =
      let old = is j (ap (λ (k : ℕ). job_numbered k w.process.kept) (sym (leaves.job s)) ∙ found) in
      record { begun = old.begun; carrier = old.carrier; its = ap (λ (k : ℕ). carrier_numbered k cs) (leaves.carrier s) ∙ old.its; named = old.named }

  -- what is said of the slot of a carrier is said of it still
  that_same : (carrier : ℕ) (name : List ℕ) (slot : LocId) (s : Substrate) → (((change s).carrier == carrier) && (is_same (change s).slot slot && bytes_eq (change s).sub name)) ≡ ((s.carrier == carrier) && (is_same s.slot slot && bytes_eq s.sub name))
  that_same carrier name slot s =
      ap (λ (k : ℕ). (k == carrier) && (is_same (change s).slot slot && bytes_eq (change s).sub name)) (leaves.carrier s)
      ∙ ap (λ (l : LocId). (s.carrier == carrier) && (is_same l slot && bytes_eq (change s).sub name)) (leaves.slot s)
      ∙ ap (λ (t : List ℕ). (s.carrier == carrier) && (is_same s.slot slot && bytes_eq t name)) (leaves.sub s)

  -- what is said of jobs
  pub changed_jobs : (f : ToolFloor) → JobsSound f → JobsSound (record f { substrates = change_numbered n change f.substrates })
  changed_jobs f b = record {
    numbered = b.numbered;
    given = all_changed (λ (s : Substrate). s.job ≤ f.jobs.process.given) (λ s less. subst (λ (k : ℕ). k ≤ f.jobs.process.given) (sym (leaves.job s)) less) f.substrates b.given;
    members = all_changed (IsInItsJob f.shop.carriers f.jobs) (in_job_on f.shop.carriers f.jobs) f.substrates b.members;
  }

  -- all of it
  pub changed_base : (f : ToolFloor) → Base f → Base (record f { substrates = change_numbered n change f.substrates })
  changed_base f b = record {
    shop = b.shop;
    carried = all_changed (IsCarried f.shop.carriers) (carried_on f.shop.carriers) f.substrates b.carried;
    registered = all_follows (AreRegistered f.substrates) (AreRegistered (change_numbered n change f.substrates)) f.shop.carriers (λ c are v port slot at last code. any_same _ (that_same _ _ _) f.substrates ∙ are v port slot at last code) b.registered;
    apart = apart_changed f.substrates b.apart;
    rising = rising_changed 0 f.places.given f.substrates b.rising;
    same_ports = b.same_ports;
    modules = b.modules;
    places = b.places;
    held = all_follows (IsOfKept f.substrates) (IsOfKept (change_numbered n change f.substrates)) f.places.held (kept_on f.substrates) b.held;
    jobs = changed_jobs f b.jobs;
  }
