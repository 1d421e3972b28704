-- The load ports and the carriers change, and what holds goes on to hold: the carriers of substrates stay, and those of members of
-- process jobs are NOT ACCESSED or IN ACCESS still.
use Rattle.std.proofs.Common.{◌≡◌, ◌≤◌, ℕ, true, false, List, [], ◌∷◌, Some, None, sym, ◌∙◌, ap}
use Rattle.std.specs.List.{AllByRecursion}
use Rattle.carrier.specs.declared.carrier.Carrier.{Carrier}
use Rattle.carrier.specs.Tables.{access_number}
use Rattle.carrier.specs.Record.{is_map_verified}
use Rattle.carrier.specs.Carriers.{carrier_numbered}
use Rattle.shop_floor.specs.Floor.{Floor}
use Rattle.shop_floor.specs.Floor as shop
use Rattle.shop_floor.specs.Valid.{IsFloor}
use Rattle.shop_floor.proofs.Present.{one_number}
use Rattle.substrate.specs.declared.record.LocationRecord.{LocationRecord}
use Rattle.tool_jobs.specs.Jobs.{Jobs}
use Rattle.floor_model.specs.declared.tracked.Substrate.{Substrate}
use Rattle.floor_model.specs.Floor.{ToolFloor, with_shop}
use Rattle.floor_model.specs.Jobs.{names_carrier, is_any_of_carrier}
use Rattle.floor_moves.specs.Valid.{Carriers, Members, Valid}
use Rattle.place_laws.specs.Picture.{picture, of_one, where_present}
use Rattle.place_laws.specs.Ports.{AtPorts, Unloading}
use Rattle.place_laws.specs.Standing.{IsCarried}
use Rattle.place_laws.specs.Sound.{IsInItsJob, Base, Sound}
use Rattle.place_laws.proofs.Stays.{Stay, stay-carried}
use Rattle.place_laws.proofs.Leaving.{Leaves}
use Rattle.place_laws.proofs.Holding.{found_among, kept_there, its_carrier, its_port, own_port, present_tells}

-- ---- besides what holds by numbers

-- a substrate is in a job of its carrier behind a change of carriers
one_in_job : (cs ds : List Carrier) → Stay cs ds → (w : Jobs) (s : Substrate) → IsCarried cs s → IsInItsJob cs w s → IsInItsJob ds w s
one_in_job cs ds stay w s is in_job j its =
    let of = in_job j its in
    let there = stay s.carrier is.0 is.1 is.2.present is.2.verified in
    let one : Some is.0 ≡ Some of.carrier = sym is.1 ∙ of.its in
    let same : is.0 ≡ of.carrier = cc in
    record { begun = of.begun; carrier = there.0; its = there.1; named = ap (λ (name : List ℕ). names_carrier name j) (there.2.name ∙ ap (λ (c : Carrier). c.name) same) ∙ of.named }

-- so is each
all_in_job : (cs ds : List Carrier) → Stay cs ds → (w : Jobs) (ss : List Substrate) → AllByRecursion (IsCarried cs) ss → AllByRecursion (IsInItsJob cs w) ss → AllByRecursion (IsInItsJob ds w) ss
all_in_job cs ds stay w [] carried all = tt
all_in_job cs ds stay w (s ∷ ss) carried all = (one_in_job cs ds stay w s carried.0 all.0, all_in_job cs ds stay w ss carried.1 all.1)

pub shop_base : (f : ToolFloor) (s : Floor) → Leaves f.substrates f.shop s → IsFloor s → Base f → Base (with_shop s f)
shop_base f s leaves valid b = record {
  shop = valid;
  carried = stay-carried f.shop.carriers s.carriers leaves.stay f.substrates b.carried;
  registered = leaves.registered b.registered;
  apart = b.apart;
  rising = b.rising;
  same_ports = b.same_ports ∙ sym leaves.ports;
  modules = b.modules;
  places = b.places;
  held = b.held;
  jobs = record {
    numbered = b.jobs.numbered;
    given = b.jobs.given;
    members = all_in_job f.shop.carriers s.carriers leaves.stay f.jobs f.substrates b.carried b.jobs.members;
  };
}

-- ---- by numbers

-- what holds of carriers by numbers holds where the carrier of each substrate is present with its map VERIFIED
pub based_carriers : (f : ToolFloor) → IsFloor f.shop → AllByRecursion (IsCarried f.shop.carriers) f.substrates → Carriers (picture f)
based_carriers f valid carried = record {
  present = λ n e. let h = kept_there f carried n e in its_carrier f None where_present n h ∙ its_port f n h ∙ ap (λ (p : ℕ). Some p) (sym (own_port f n h));
  verified = λ n e. let h = kept_there f carried n e in its_carrier f false (λ (c : Carrier). is_map_verified c.states.map) n h ∙ h.of.verified;
  alone = λ c d p e g. let x = present_tells f c p e in let y = present_tells f d p g in one_number f.shop p c d x.0 y.0 x.1 y.1 x.2 y.2 valid;
  known = λ c p e. let x = present_tells f c p e in found_among shop.number_of c f.shop.carriers x.0 x.1;
}

-- the state of accessing of a carrier
abbrev pub accessing : Carrier → ℕ
accessing c = access_number c.states.access

-- behind a change of the shop floor the carriers of members of process jobs are NOT ACCESSED or IN ACCESS
abbrev pub StayOpen : ToolFloor → Floor → Type 0
StayOpen f s = (n : ℕ) → (picture f).jobs.is_member n ≡ true → of_one 0 accessing (carrier_numbered ((picture f).carrier_of n) s.carriers) ≤ 1

module _ (f : ToolFloor) (s : Floor) where
  -- the job of a member names its carrier still
  still_named : AllByRecursion (IsCarried f.shop.carriers) f.substrates → Stay f.shop.carriers s.carriers → Members (picture f) → (n : ℕ) → (picture f).jobs.is_member n ≡ true → (picture (with_shop s f)).jobs.names_carrier ((picture f).carrier_of n) ≡ true
  still_named carried stay v n is =
      let h = kept_there f carried n (v.kept n is) in
      let there = stay h.one.carrier h.its h.known h.of.present h.of.verified in
      let before = sym (its_carrier f false (λ (x : Carrier). is_any_of_carrier x.name f.jobs) n h) ∙ v.carrier n is in
      let which : (picture f).carrier_of n ≡ h.one.carrier = ap (of_one 0 (λ (t : Substrate). t.carrier)) h.found in
      ap (λ (c : ℕ). of_one false (λ (x : Carrier). is_any_of_carrier x.name f.jobs) (carrier_numbered c s.carriers)) which
      ∙ ap (of_one false (λ (x : Carrier). is_any_of_carrier x.name f.jobs)) there.1
      ∙ ap (λ (name : List ℕ). is_any_of_carrier name f.jobs) there.2.name
      ∙ before

  pub shop_valid : AllByRecursion (IsCarried f.shop.carriers) f.substrates → Stay f.shop.carriers s.carriers → IsFloor s → StayOpen f s → Valid (picture f) → Valid (picture (with_shop s f))
  shop_valid carried stay valid here v = record {
    places = v.places;
    carriers = based_carriers (with_shop s f) valid (stay-carried f.shop.carriers s.carriers stay f.substrates carried);
    commands = v.commands;
    members = record {
      outside = v.members.outside;
      named = v.members.named;
      starting = v.members.starting;
      kept = v.members.kept;
      carrier = still_named carried stay v.members;
      here = here;
      complete = v.members.complete;
      left = v.members.left;
    };
    steps = v.steps;
    removed = v.removed;
  }

  -- all of it
  pub shop_sound : Leaves f.substrates f.shop s → IsFloor s → AtPorts s → Unloading s → StayOpen f s → Sound f → Sound (with_shop s f)
  shop_sound leaves valid at unloading here sound = record {
    base = shop_base f s leaves valid sound.base;
    ports = at;
    unloading = unloading;
    valid = shop_valid sound.base.carried leaves.stay valid here sound.valid;
  }

-- ---- locations

pub location_sound : (f : ToolFloor) (locations : List LocationRecord) → Sound f → Sound (record f { locations = locations })
location_sound f locations sound =
    let b = sound.base in
    record {
      base = record { shop = b.shop; carried = b.carried; registered = b.registered; apart = b.apart; rising = b.rising; same_ports = b.same_ports; modules = b.modules; places = b.places; held = b.held; jobs = record { numbered = b.jobs.numbered; given = b.jobs.given; members = b.jobs.members } };
      ports = sound.ports;
      unloading = sound.unloading;
      valid = sound.valid;
    }
