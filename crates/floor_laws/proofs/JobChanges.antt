-- What is said of substrates stays where no more than their jobs change, and what is said of carriers where some are marked stopped.
use Rattle.std.proofs.Common.{◌≡◌, ◌≤◌, ℕ, ◌+◌, ◌==◌, Bool, true, false, ◌&&◌, ◌||◌, if◌then◌else◌, List, [], ◌∷◌, map, Option, Some, None, option_map, refl, sym, ◌∙◌, ap, subst}
use Rattle.std.specs.List.{AllByRecursion, list_any}
use Rattle.std.specs.Str.{bytes_eq}
use Rattle.gem_ids.specs.declared.numbers.LocId.{LocId}
use Rattle.carrier.specs.declared.carrier.Carrier.{Carrier}
use Rattle.carrier.specs.Record.{is_map_verified}
use Rattle.carrier.specs.Carriers.{has_name, carrier_numbered, marks}
use Rattle.shop_floor.specs.Floor as shop
use Rattle.shop_floor.specs.Floor.{Floor, with_marked}
use Rattle.shop_floor.proofs.Apart.{all_follows, all_changed}
use Rattle.substrate.specs.Locations.{is_same}
use Rattle.substrate.specs.declared.registered.Registered.{Registered}
use Rattle.process_job.specs.declared.job.Material.{Material}
use Rattle.floor_model.specs.declared.tracked.Substrate.{Substrate}
use Rattle.floor_model.specs.Floor.{substrate_numbered, number_of}
use Rattle.floor_model.specs.Floor.{RiseTo}
use Rattle.floor_model.specs.Jobs.{all_marked}
use Rattle.place_laws.specs.Picture.{of_one}
use Rattle.place_laws.specs.Ports.{IsAtPort, IsNamedHere, AtPorts}
use Rattle.place_laws.specs.Standing.{IsOf, IsCarried, IsElsewhere, AreApart, is_that_of, AreRegistered}
use Rattle.place_laws.specs.Sound.{IsOfKept}
use Rattle.place_laws.proofs.Away.{away_changed}
use Rattle.place_laws.proofs.Leaving.{Leaves, leaves_same, leaves_then}
use Rattle.place_laws.proofs.PortChanges.{carriers-at-ports}
use Rattle.place_laws.proofs.Stays.{GoesOn, stay_named, leaves-registered}
use Rattle.picture_laws.proofs.CarrierColumns.{numbers_named, says_named_same}
use Rattle.floor_laws.proofs.JobSight.{none_some, some_same}

-- ---- substrates whose jobs alone change

-- a change of no more than the job
abbrev pub IsJobAlone : (Substrate → Substrate) → Type 0
IsJobAlone change = (s : Substrate) → record (change s) { job = s.job } ≡ s

module _ (change : Substrate → Substrate) (alone : IsJobAlone change) where
  -- a substrate keeps its number
  number_kept : (s : Substrate) → (change s).number ≡ s.number
  number_kept s = ap (λ (x : Substrate). x.number) (alone s)

  -- the numbers stay
  pub numbers_map : (ss : List Substrate) → map number_of (map change ss) ≡ map number_of ss
  numbers_map [] = refl
  numbers_map (s ∷ ss) = ap (λ (k : ℕ). k ∷ map number_of (map change ss)) (number_kept s) ∙ ap (λ (ks : List ℕ). s.number ∷ ks) (numbers_map ss)

  -- one is found as it is behind the change
  pub found_map : (k : ℕ) (ss : List Substrate) → substrate_numbered k (map change ss) ≡ option_map change (substrate_numbered k ss)
  found_map k [] = refl
  found_map k (s ∷ ss) = ap (λ (m : ℕ). if m == k then Some (change s) else substrate_numbered k (map change ss)) (number_kept s) ∙ of (s.number == k) (found_map k ss) where
    of : (b : Bool) → substrate_numbered k (map change ss) ≡ option_map change (substrate_numbered k ss) → (if b then Some (change s) else substrate_numbered k (map change ss)) ≡ option_map change (if b then Some s else substrate_numbered k ss)
    of true rest = refl
    of false rest = rest

  -- what doesn't look at the job is said as before
  pub says_map : {B : Type 0} (else_ : B) (says : Substrate → B) → ((s : Substrate) → says (change s) ≡ says s) → (k : ℕ) (ss : List Substrate) → of_one else_ says (substrate_numbered k (map change ss)) ≡ of_one else_ says (substrate_numbered k ss)
  says_map else_ says same k ss = ap (of_one else_ says) (found_map k ss) ∙ of (substrate_numbered k ss) where
    of : (o : Option Substrate) → of_one else_ says (option_map change o) ≡ of_one else_ says o
    of None = refl
    of (Some s) = same s

  -- ---- what holds of substrates

  -- each is of its carrier
  pub carried_map : (cs : List Carrier) (ss : List Substrate) → AllByRecursion (IsCarried cs) ss → AllByRecursion (IsCarried cs) (map change ss)
  carried_map cs [] all = tt
  carried_map cs (s ∷ ss) all = ((all.0.0, ap (λ (x : Substrate). carrier_numbered x.carrier cs) (alone s) ∙ all.0.1, one all.0.0 all.0.2), carried_map cs ss all.1) where
    one : (c : Carrier) → IsOf s c → IsOf (change s) c
    one c of = record {
      present = of.present;
      verified = of.verified;
      port = of.port;
      slot = of.slot;
      at = of.at;
      own = ap (λ (x : Substrate). x.slot) (alone s) ∙ of.own;
      named = ap (λ (x : Substrate). x.sub) (alone s) ∙ of.named;
      first = of.first;
      last = of.last;
    }

  -- one is registered in a slot where it was
  any_that : (carrier : ℕ) (name : List ℕ) (slot : LocId) (ss : List Substrate) → list_any (is_that_of carrier name slot) (map change ss) ≡ list_any (is_that_of carrier name slot) ss
  any_that carrier name slot [] = refl
  any_that carrier name slot (s ∷ ss) =
      ap (λ (x : Substrate). ((x.carrier == carrier) && (is_same x.slot slot && bytes_eq x.sub name)) || list_any (is_that_of carrier name slot) (map change ss)) (alone s)
      ∙ ap (λ (b : Bool). is_that_of carrier name slot s || b) (any_that carrier name slot ss)

  -- of each carrier those that are registered are so still
  pub registered_map : (ss : List Substrate) (cs : List Carrier) → AllByRecursion (AreRegistered ss) cs → AllByRecursion (AreRegistered (map change ss)) cs
  registered_map ss cs all = all_follows (AreRegistered ss) (AreRegistered (map change ss)) cs (λ c are v port slot at last code. any_that c.number _ _ ss ∙ are v port slot at last code) all

  -- none has the slot of another
  elsewhere_map : (s : Substrate) (ss : List Substrate) → IsElsewhere s ss → IsElsewhere (change s) (map change ss)
  elsewhere_map s [] all = tt
  elsewhere_map s (t ∷ ts) all = ((λ same. all.0 (sym (ap (λ (x : Substrate). x.slot) (alone s)) ∙ same ∙ ap (λ (x : Substrate). x.slot) (alone t))), elsewhere_map s ts all.1)

  -- no two have the same slot
  pub apart_map : (ss : List Substrate) → AreApart ss → AreApart (map change ss)
  apart_map [] apart = tt
  apart_map (s ∷ ss) apart = (elsewhere_map s ss apart.0, apart_map ss apart.1)

  -- their numbers rise
  pub rising_map : (last given : ℕ) (ss : List Substrate) → RiseTo last given ss → RiseTo last given (map change ss)
  rising_map last given [] rising = rising
  rising_map last given (s ∷ ss) rising = (subst (λ (k : ℕ). last + 1 ≤ k) (sym (number_kept s)) rising.0, subst (λ (k : ℕ). RiseTo k given (map change ss)) (sym (number_kept s)) (rising_map s.number given ss rising.1))

  -- each place is that of one that is kept
  pub held_map : (ss : List Substrate) (rs : List Registered) → AllByRecursion (IsOfKept ss) rs → AllByRecursion (IsOfKept (map change ss)) rs
  held_map ss rs all = all_follows (IsOfKept ss) (IsOfKept (map change ss)) rs (λ r k. (change k.0, found_map r.number ss ∙ ap (option_map change) k.1, ap (λ (x : Substrate). x.sub) (alone k.0) ∙ k.2)) all

-- no change is one
pub map_same : (ss : List Substrate) → map (λ (s : Substrate). s) ss ≡ ss
map_same [] = refl
map_same (s ∷ ss) = ap (λ (ts : List Substrate). s ∷ ts) (map_same ss)

-- ---- carriers that are marked stopped

-- what a mark leaves of the substrates
one_marked : (ss : List Substrate) (name : List ℕ) (s : Floor) → Leaves ss s (with_marked name s)
one_marked ss name s = record {
  stay = stay_named name marks (λ c. refl) s.carriers (every s.carriers);
  registered = λ are. all_changed (AreRegistered ss) (AreRegistered ss) name marks s.carriers (λ c named r. leaves-registered ss c (marks c) (record { number = refl; name = refl; port = refl; map = refl; verified = λ v. v }) r) (λ c other r. r) are;
  ports = refl;
} where
  every : (cs : List Carrier) → AllByRecursion (λ (c : Carrier). has_name name c ≡ true → c.present ≡ true → is_map_verified c.states.map ≡ true → GoesOn c (marks c)) cs
  every [] = tt
  every (c ∷ cs) = ((λ named present verified. record { present = present; verified = verified; name = refl; port = refl }), every cs)

-- what marks leave of them
pub marked_leaves : (ss : List Substrate) (ms : List Material) (s : Floor) → Leaves ss s (all_marked ms s)
marked_leaves ss [] s = leaves_same ss s
marked_leaves ss (m ∷ ms) s = leaves_then ss s (with_marked m.carrier s) (all_marked ms (with_marked m.carrier s)) (one_marked ss m.carrier s) (marked_leaves ss ms (with_marked m.carrier s))

-- what holds of the ports holds where a carrier is marked
one_at_ports : (name : List ℕ) (s : Floor) → AtPorts s → AtPorts (with_marked name s)
one_at_ports name s at =
    carriers-at-ports s (with_marked name s).carriers s.next_carrier
    (all_changed (IsAtPort s.ports) (IsAtPort s.ports) name marks s.carriers (λ c named p. p) (λ c other p. p) at.at)
    (all_changed IsNamedHere IsNamedHere name marks s.carriers (λ c named p. p) (λ c other p. p) at.named)
    (away_changed name marks s.carriers (λ c. refl) (λ c. refl))
    at

-- and where some are
pub marked_at_ports : (ms : List Material) (s : Floor) → AtPorts s → AtPorts (all_marked ms s)
marked_at_ports [] s at = at
marked_at_ports (m ∷ ms) s at = marked_at_ports ms (with_marked m.carrier s) (one_at_ports m.carrier s at)

-- the numbers of carriers stay
pub marked_numbers : (ms : List Material) (s : Floor) → map shop.number_of (all_marked ms s).carriers ≡ map shop.number_of s.carriers
marked_numbers [] s = refl
marked_numbers (m ∷ ms) s = marked_numbers ms (with_marked m.carrier s) ∙ numbers_named m.carrier marks (λ c. refl) s.carriers

-- what doesn't look at the mark is said as before
pub marked_says : {B : Type 0} (else_ : B) (says : Carrier → B) → ((c : Carrier) → says (marks c) ≡ says c) → (ms : List Material) (s : Floor) (k : ℕ) → of_one else_ says (carrier_numbered k (all_marked ms s).carriers) ≡ of_one else_ says (carrier_numbered k s.carriers)
marked_says else_ says same [] s k = refl
marked_says else_ says same (m ∷ ms) s k = marked_says else_ says same ms (with_marked m.carrier s) k ∙ says_named_same m.carrier marks (λ c. refl) else_ says same k s.carriers

-- one is found under its name
pub marked_found : (ms : List Material) (s : Floor) (k : ℕ) (c : Carrier) → carrier_numbered k s.carriers ≡ Some c → (d : Carrier) × (carrier_numbered k (all_marked ms s).carriers ≡ Some d) × (d.name ≡ c.name)
marked_found ms s k c e = of (carrier_numbered k (all_marked ms s).carriers) refl (marked_says None (λ (x : Carrier). Some x.name) (λ x. refl) ms s k ∙ ap (of_one None (λ (x : Carrier). Some x.name)) e) where
  of : (o : Option Carrier) → carrier_numbered k (all_marked ms s).carriers ≡ o → of_one None (λ (x : Carrier). Some x.name) o ≡ Some c.name → (d : Carrier) × (carrier_numbered k (all_marked ms s).carriers ≡ Some d) × (d.name ≡ c.name)
  of None q same = none_some c.name same
  of (Some d) q same = (d, q, some_same d.name c.name same)
