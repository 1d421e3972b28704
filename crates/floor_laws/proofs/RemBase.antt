-- What holds of the floor behind a removal: the carrier goes with its substrates, and no other.
use Rattle.std.proofs.Common.{◌≡◌, ◌≤◌, ℕ, ◌+◌, ◌==◌, Bool, true, false, not, List, filter, length, Some, sym, ◌∙◌, ap, subst}
use Rattle.std.specs.List.{AllByRecursion}
use Rattle.std.proofs.lemmas.Bool.{and_parts, not-true}
use Rattle.std.proofs.lemmas.Bool.Decides.{Decides-eqb}
use Rattle.load_port.specs.declared.port.Port.{Port}
use Rattle.carrier.specs.declared.carrier.Carrier.{Carrier}
use Rattle.carrier.specs.Carriers.{has_name, carrier_named, carrier_numbered, without}
use Rattle.shop_floor.specs.Floor.{floor_of}
use Rattle.shop_floor.specs.Valid.{IsFloor}
use Rattle.shop_floor.proofs.Apart.{all_both, all_filtered}
use Rattle.substrate.specs.declared.registered.Registered.{Registered}
use Rattle.floor_model.specs.declared.tracked.Substrate.{Substrate}
use Rattle.floor_model.specs.Floor.{ToolFloor, with_shop}
use Rattle.floor_model.specs.Floor.{RiseTo}
use Rattle.floor_model.specs.Substrates.{without_carrier}
use Rattle.floor_moves.specs.Carriers.{forgotten, HasEnded}
use Rattle.floor_moves.specs.Valid.{Valid}
use Rattle.floor_moves.proofs.Agreeing.{agree-keeps}
use Rattle.floor_moves.proofs.Carrying.{forgotten-keeps}
use Rattle.place_laws.specs.Picture.{picture}
use Rattle.place_laws.specs.Standing.{IsCarried, AreRegistered}
use Rattle.place_laws.specs.Sound.{IsOfKept, IsInItsJob, Base}
use Rattle.floor_laws.proofs.RemLists.{apart_fewer, rise_fewer, any_fewer}
use Rattle.floor_laws.proofs.RemPlaces.{stays, removed_held, removed_ports, removed_chambers, removed_given, places_fewer}
use Rattle.floor_laws.proofs.RemAgree.{is_other, own_numbers, other_number, others_found, stays_so, still_found, forgetting_agrees}

module _ (f : ToolFloor) (b : Base f) (name : List ℕ) (c : Carrier) (found : carrier_named name f.shop.carriers ≡ Some c) where
  -- a substrate is of another carrier
  abbrev stays_here : Substrate → Bool
  stays_here s = is_other f b name c found s

  other_carrier : (s : Substrate) → stays_here s ≡ true → (s.carrier == c.number) ≡ false
  other_carrier s other = not-true _ other

  -- a substrate of another keeps its carrier
  carried_one : (s : Substrate) → stays_here s ≡ true → IsCarried f.shop.carriers s → IsCarried (without name f.shop.carriers) s
  carried_one s other is = (is.0, others_found f b name c found s.carrier (other_carrier s other) ∙ is.1, is.2)

  -- and its job
  in_job_one : (s : Substrate) → stays_here s ≡ true → IsInItsJob f.shop.carriers f.jobs s → IsInItsJob (without name f.shop.carriers) f.jobs s
  in_job_one s other is j its =
      let old = is j its in
      record { begun = old.begun; carrier = old.carrier; its = others_found f b name c found s.carrier (other_carrier s other) ∙ old.its; named = old.named }

  -- what is registered of the others
  registered_one : (d : Carrier) → (d.number == c.number) ≡ false → AreRegistered f.substrates d → AreRegistered (filter stays_here f.substrates) d
  registered_one d other are v port slot at last code =
      any_fewer stays_here _ f.substrates (λ s is. stay s (and_parts (s.carrier == d.number) _ is).0) (are v port slot at last code) where
        stay : (s : Substrate) → (s.carrier == d.number) ≡ true → stays_here s ≡ true
        stay s is = ap not (ap (λ (n : ℕ). n == c.number) ((Decides-eqb s.carrier d.number).0 is) ∙ other)

  registered_fewer : AllByRecursion (AreRegistered (filter stays_here f.substrates)) (without name f.shop.carriers)
  registered_fewer =
      all_filtered (λ (d : Carrier). AreRegistered f.substrates d × (carrier_numbered d.number f.shop.carriers ≡ Some d)) (AreRegistered (filter stays_here f.substrates)) (λ (d : Carrier). not (has_name name d)) f.shop.carriers
      (λ d other both. registered_one d (other_number f b name c found d both.1 ∙ not-true _ other) both.0)
      (all_both (AreRegistered f.substrates) (λ (d : Carrier). carrier_numbered d.number f.shop.carriers ≡ Some d) f.shop.carriers b.registered (own_numbers f b name c found))

  -- what has a place is kept
  held_fewer : AllByRecursion (IsOfKept (filter stays_here f.substrates)) (filter (stays c.number f.substrates) f.places.held)
  held_fewer =
      all_filtered (IsOfKept f.substrates) (IsOfKept (filter stays_here f.substrates)) (stays c.number f.substrates) f.places.held
      (λ r stay kept. (kept.0, still_found f b name c found r.number kept.0 kept.1 (sym (stays_so f b name c found r kept.0 kept.1 kept.2) ∙ stay), kept.2)) b.held

  module _ (ports : List Port) (next : ℕ) where
    -- the floor behind it
    abbrev left : ToolFloor
    left = with_shop (floor_of ports (without name f.shop.carriers) next) (without_carrier (Some c.number) f)

    pub taken_base : IsFloor (floor_of ports (without name f.shop.carriers) next) → length ports ≡ length f.shop.ports → Base left
    taken_base valid count = record {
      shop = valid;
      carried = all_filtered (IsCarried f.shop.carriers) (IsCarried (without name f.shop.carriers)) stays_here f.substrates (λ s other is. carried_one s other is) b.carried;
      registered = registered_fewer;
      apart = apart_fewer stays_here f.substrates b.apart;
      rising = subst (λ (n : ℕ). RiseTo 0 n (filter stays_here f.substrates)) (sym (removed_given c.number f.substrates f.places)) (rise_fewer stays_here 0 f.places.given f.substrates b.rising);
      same_ports = removed_ports c.number f.substrates f.places ∙ b.same_ports ∙ sym count;
      modules = subst (λ (n : ℕ). length f.modules ≤ 2 + n) (sym (removed_chambers c.number f.substrates f.places)) b.modules;
      places = places_fewer c.number f.substrates f.places b.places;
      held = subst (λ (rs : List Registered). AllByRecursion (IsOfKept (filter stays_here f.substrates)) rs) (sym (removed_held c.number f.substrates f.places)) held_fewer;
      jobs = record {
        numbered = b.jobs.numbered;
        given = all_filtered (λ (s : Substrate). s.job ≤ f.jobs.process.given) (λ (s : Substrate). s.job ≤ f.jobs.process.given) stays_here f.substrates (λ s other less. less) b.jobs.given;
        members = all_filtered (IsInItsJob f.shop.carriers f.jobs) (IsInItsJob (without name f.shop.carriers) f.jobs) stays_here f.substrates (λ s other is. in_job_one s other is) b.jobs.members;
      };
    }

    pub taken_valid : HasEnded c.number (picture f) → Valid (picture f) → Valid (picture left)
    taken_valid ends v = agree-keeps (forgotten c.number (picture f)) (picture left) (forgetting_agrees f b name c found ends v ports next) (forgotten-keeps (picture f) v c.number ends)
