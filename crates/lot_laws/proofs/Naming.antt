-- Process jobs that are found by a test, and what one names that takes a substrate.
use Rattle.std.proofs.Common.{◌≡◌, ◌≤◌, ℕ, ◌==◌, Bool, true, false, ◌&&◌, ◌||◌, if◌then◌else◌, List, [], ◌∷◌, Option, Some, None, refl, sym, ◌∙◌, ap, subst, arith}
use Rattle.std.specs.List.{list_any}
use Rattle.std.specs.Str.{bytes_eq}
use Rattle.std.proofs.lemmas.Bool.{true≢false, and_parts, or_right}
use Rattle.std.proofs.lemmas.Bool.Decides.{Decides-eqb, nat_tests}
use Rattle.std.proofs.lemmas.Slice.Eq.{bytes_eq-Decides}
use Rattle.carrier.specs.declared.carrier.Carrier.{Carrier}
use Rattle.carrier.specs.Tables.{access_number}
use Rattle.carrier.specs.Record.{is_map_verified}
use Rattle.carrier.specs.Carriers.{has_name, carrier_named, carrier_numbered}
use Rattle.shop_floor.specs.Floor.{Floor}
use Rattle.shop_floor.specs.Valid.{IsFloor}
use Rattle.shop_floor.proofs.Apart.{IsOnly, found_only, found_passes, has_its_name, named_so}
use Rattle.process_job.specs.Jobs.{job_numbered, AreNumbered}
use Rattle.process_job.specs.declared.job.Material.{Material}
use Rattle.process_job.specs.declared.job.ProcessJob.{ProcessJob}
use Rattle.floor_model.specs.declared.tracked.Substrate.{Substrate}
use Rattle.floor_model.specs.Jobs.{is_carrier_of, is_slot_named, names_slot_of, is_in_use, is_carrier_here, is_material_here, is_here, names_carrier}
use Rattle.floor_laws.proofs.JobSight.{none_some}
use Rattle.floor_laws.proofs.JobJoins.{both_pass, name_there, use_number}
use Rattle.lot_laws.specs.Lot.{is_in_named_slot}
use Rattle.place_laws.proofs.Names.{each_found}

-- ---- process jobs

-- a number that is not past the last before the first is none
not_found : (n last given : ℕ) (js : List ProcessJob) (j : ProcessJob) → n ≤ last → AreNumbered last given js → job_numbered n js ≡ Some j → ⊥
not_found n last given [] j l h e = none_some j e
not_found n last given (x ∷ xs) j l h e =
    let less = h.0 in
    let other : (x.number == n) ≡ false = grind (arith, nat_tests, l, less) in
    not_found n x.number given xs j (omega (arith, l, less)) h.1 (subst (λ (b : Bool). (if b then Some x else job_numbered n xs) ≡ Some j) other e)

-- where some pass a test, one that is found by its number does
pub any_numbered : (test : ProcessJob → Bool) (last given : ℕ) (js : List ProcessJob) → AreNumbered last given js → list_any test js ≡ true
    → (j : ProcessJob) × (job_numbered j.number js ≡ Some j) × (test j ≡ true)
any_numbered test last given [] h e = absurd (true≢false (sym e))
any_numbered test last given (x ∷ xs) h e = by_test (test x) refl e (any_numbered test x.number given xs h.1) where
  by_test : (b : Bool) → test x ≡ b → (b || list_any test xs) ≡ true → (list_any test xs ≡ true → (j : ProcessJob) × (job_numbered j.number xs ≡ Some j) × (test j ≡ true))
      → (j : ProcessJob) × (job_numbered j.number (x ∷ xs) ≡ Some j) × (test j ≡ true)
  by_test true t f later = (x, ap (λ (b : Bool). if b then Some x else job_numbered x.number xs) ((Decides-eqb x.number x.number).1 refl), t)
  by_test false t f later =
      let w = later f in
      (w.0, ap (λ (b : Bool). if b then Some x else job_numbered w.0.number xs) (apart w.0 w.1) ∙ w.1, w.2)
    where
      apart : (j : ProcessJob) → job_numbered j.number xs ≡ Some j → (x.number == j.number) ≡ false
      apart j g = by (x.number == j.number) refl where
        by : (b : Bool) → (x.number == j.number) ≡ b → b ≡ false
        by false q = refl
        by true q = absurd (let same = (Decides-eqb x.number j.number).0 q in not_found j.number x.number given xs j (omega (arith, same)) h.1 g)

-- ---- carriers

-- where a process job names the slot of a substrate, it names its carrier
pub slot_names_carrier : (j : ProcessJob) (shop : Floor) (s : Substrate) (c : Carrier) → IsFloor shop → carrier_numbered s.carrier shop.carriers ≡ Some c → is_in_named_slot j shop s ≡ true → names_carrier c.name j ≡ true
slot_names_carrier j shop s c h found e = of j.material e where
  of : (ms : List Material) → list_any (names_slot_of shop s) ms ≡ true → list_any (λ (m : Material). bytes_eq m.carrier c.name) ms ≡ true
  of [] e = absurd (true≢false (sym e))
  of (m ∷ ms) e = by (names_slot_of shop s m) refl e (of ms) where
    by : (b : Bool) → names_slot_of shop s m ≡ b → (b || list_any (names_slot_of shop s) ms) ≡ true → (list_any (names_slot_of shop s) ms ≡ true → list_any (λ (x : Material). bytes_eq x.carrier c.name) ms ≡ true) → (bytes_eq m.carrier c.name || list_any (λ (x : Material). bytes_eq x.carrier c.name) ms) ≡ true
    by true q f later =
        let named = name_there m.carrier s.carrier 1 shop.next_carrier shop.carriers c h.rising (and_parts (list_any (is_carrier_of m.carrier s.carrier) shop.carriers) (is_slot_named m.slots s.slot) q).0 found in
        ap (λ (b : Bool). b || list_any (λ (x : Material). bytes_eq x.carrier c.name) ms) ((bytes_eq-Decides m.carrier c.name).1 (sym named))
    by false q f later = or_right (bytes_eq m.carrier c.name) (list_any (λ (x : Material). bytes_eq x.carrier c.name) ms) (later f)

-- and where its material is here, the carrier is NOT ACCESSED or IN ACCESS
pub slot_in_use : (j : ProcessJob) (shop : Floor) (s : Substrate) (c : Carrier) → IsFloor shop → carrier_numbered s.carrier shop.carriers ≡ Some c → is_in_named_slot j shop s ≡ true → is_here j shop ≡ true → access_number c.states.access ≤ 1
slot_in_use j shop s c h found e present =
    let w = both_pass (names_slot_of shop s) (is_material_here shop) j.material e present in
    let named = name_there w.one.carrier s.carrier 1 shop.next_carrier shop.carriers c h.rising (and_parts (list_any (is_carrier_of w.one.carrier s.carrier) shop.carriers) (is_slot_named w.one.slots s.slot) w.first).0 found in
    at_use w.one.carrier named (carrier_named w.one.carrier shop.carriers) refl w.second
  where
    at_use : (name : List ℕ) → c.name ≡ name → (o : Option Carrier) → carrier_named name shop.carriers ≡ o → is_carrier_here o ≡ true → access_number c.states.access ≤ 1
    at_use name is None q e = absurd (true≢false (sym e))
    at_use name is (Some d) q e =
        let its : d.name ≡ c.name = named_so name d (found_passes (has_name name) shop.carriers d q) ∙ sym is in
        let same : d ≡ c = each_found (IsOnly c) (has_name name) shop.carriers d (found_only (λ (x : Carrier). x.number == s.carrier) shop.carriers c h.apart found) q (has_its_name c.name d its) in
        let uses = and_parts (is_map_verified d.states.map) (is_in_use d.states.access) (and_parts d.present (is_map_verified d.states.map && is_in_use d.states.access) e).1 in
        subst (λ (x : Carrier). access_number x.states.access ≤ 1) same (use_number d.states.access uses.1)
