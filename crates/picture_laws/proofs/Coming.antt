-- A carrier that is created, that comes to a port, and whose slot map becomes VERIFIED, does to the floor by numbers what the laws have.
use Rattle.std.proofs.Common.{◌≡◌, ℕ, ◌==◌, Bool, true, false, if◌then◌else◌, List, Some, None, refl, ◌∙◌, ap}
use Rattle.load_port.specs.declared.port.Port.{Port}
use Rattle.carrier.specs.declared.carrier.Carrier.{Carrier}
use Rattle.carrier.specs.Tables.{access_number}
use Rattle.carrier.specs.Record.{is_map_verified}
use Rattle.carrier.specs.Carriers as carriers
use Rattle.carrier.specs.Carriers.{carrier_named, carrier_numbered, change_numbered, change_named, created as new_carrier, with_created, came_to}
use Rattle.shop_floor.specs.Floor.{floor_of, number_of as carrier_number}
use Rattle.shop_floor.specs.Valid.{IsFloor}
use Rattle.floor_model.specs.Floor.{ToolFloor, with_shop}
use Rattle.floor_moves.specs.Carriers.{created, arrived, verified}
use Rattle.floor_moves.specs.Effects.{accessed}
use Rattle.floor_moves.specs.Agree.{Agree}
use Rattle.place_laws.specs.Picture.{picture, where_present, of_one}
use Rattle.place_laws.proofs.Appended.{numbers_on, says_on}
use Rattle.picture_laws.proofs.JobViews.{carriers_alike}
use Rattle.picture_laws.proofs.CarrierColumns.{none_next, numbers_kept, says_changed, says_kept, numbers_named, says_named, says_named_same}

module _ (f : ToolFloor) where
  -- ---- created

  pub creating_agrees : (name : List ℕ) (ports : List Port) (next : ℕ) → IsFloor f.shop → Agree (created f.shop.next_carrier (picture f)) (picture (with_shop (floor_of ports (with_created f.shop.next_carrier name f.shop.carriers) next) f))
  creating_agrees name ports next valid =
      let new = new_carrier f.shop.next_carrier name in
      let none = none_next 1 f.shop.next_carrier f.shop.carriers valid.rising in
      record {
        substrates = refl;
        next_substrate = refl;
        carrier_of = λ k _. refl;
        port_of = λ k _. refl;
        slot_of = λ k _. refl;
        place_of = λ k. refl;
        processing = λ k _. refl;
        is_aligned = λ k _. refl;
        steps_of = λ k _ _. refl;
        carriers = numbers_on carrier_number f.shop.carriers new;
        present_at = λ c. says_on carrier_number None where_present f.shop.carriers new _ refl none c;
        is_verified = λ c _. says_on carrier_number false (λ (x : Carrier). is_map_verified x.states.map) f.shop.carriers new _ refl none c;
        access = λ c _. says_on carrier_number 0 (λ (x : Carrier). access_number x.states.access) f.shop.carriers new _ refl none c;
        jobs = carriers_alike _ f.jobs f.substrates f.shop.carriers _
            (λ says c p here. kept (λ (x : Carrier). says x.name) c p here)
            (λ c p here. kept (λ (x : Carrier). x.stopped) c p here);
        chambers = refl;
        equipment = λ m. refl;
        next_command = refl;
      } where
        -- one that is present was there before
        kept : (says : Carrier → Bool) (c p : ℕ) → (created f.shop.next_carrier (picture f)).present_at c ≡ Some p
            → of_one false says (carrier_numbered c (with_created f.shop.next_carrier name f.shop.carriers)) ≡ of_one false says (carrier_numbered c f.shop.carriers)
        kept says c p here = says_on carrier_number false says f.shop.carriers (new_carrier f.shop.next_carrier name) _ refl (none_next 1 f.shop.next_carrier f.shop.carriers valid.rising) c ∙ of (c == f.shop.next_carrier) here where
          of : (b : Bool) → (if b then None else (picture f).present_at c) ≡ Some p → (if b then says (new_carrier f.shop.next_carrier name) else of_one false says (carrier_numbered c f.shop.carriers)) ≡ of_one false says (carrier_numbered c f.shop.carriers)
          of true e = absurd (cc)
          of false e = refl

  -- ---- present at a port

  pub arriving_agrees : (name : List ℕ) (port : ℕ) (is_read : Bool) (slots : List ℕ) (ports : List Port) (next : ℕ) (d : Carrier) → IsFloor f.shop
      → carrier_named name f.shop.carriers ≡ Some d → carrier_numbered d.number f.shop.carriers ≡ Some d
      → Agree (arrived d.number port (picture f)) (picture (with_shop (floor_of ports (change_named name (came_to port is_read slots) f.shop.carriers) next) f))
  arriving_agrees name port is_read slots ports next d valid named own = record {
    substrates = refl;
    next_substrate = refl;
    carrier_of = λ k _. refl;
    port_of = λ k _. refl;
    slot_of = λ k _. refl;
    place_of = λ k. refl;
    processing = λ k _. refl;
    is_aligned = λ k _. refl;
    steps_of = λ k _ _. refl;
    carriers = numbers_named name (came_to port is_read slots) (λ c. refl) f.shop.carriers;
    present_at = λ c. says_named name (came_to port is_read slots) (λ x. refl) None where_present d c f.shop.carriers valid.apart named own;
    is_verified = λ c _. says_named_same name (came_to port is_read slots) (λ x. refl) false (λ (x : Carrier). is_map_verified x.states.map) (λ x. refl) c f.shop.carriers;
    access = λ c _. says_named_same name (came_to port is_read slots) (λ x. refl) 0 (λ (x : Carrier). access_number x.states.access) (λ x. refl) c f.shop.carriers;
    jobs = carriers_alike _ f.jobs f.substrates f.shop.carriers _
        (λ says c p here. says_named_same name (came_to port is_read slots) (λ x. refl) false (λ (x : Carrier). says x.name) (λ x. refl) c f.shop.carriers)
        (λ c p here. says_named_same name (came_to port is_read slots) (λ x. refl) false (λ (x : Carrier). x.stopped) (λ x. refl) c f.shop.carriers);
    chambers = refl;
    equipment = λ m. refl;
    next_command = refl;
  }

  -- ---- a row of the slot map, or of accessing

  pub verifying_agrees : (n row : ℕ) (c : Carrier) → carrier_numbered n f.shop.carriers ≡ Some c → is_map_verified (carriers.fires_row 9 row c).states.map ≡ true
      → Agree (verified n (picture f)) (picture (with_shop (record f.shop { carriers = change_numbered n (carriers.fires_row 9 row) f.shop.carriers }) f))
  verifying_agrees n row c there becomes = record {
    substrates = refl;
    next_substrate = refl;
    carrier_of = λ k _. refl;
    port_of = λ k _. refl;
    slot_of = λ k _. refl;
    place_of = λ k. refl;
    processing = λ k _. refl;
    is_aligned = λ k _. refl;
    steps_of = λ k _ _. refl;
    carriers = numbers_kept n (carriers.fires_row 9 row) (λ x. refl) f.shop.carriers;
    present_at = λ k. says_kept n (carriers.fires_row 9 row) (λ x. refl) None where_present (λ x. refl) k f.shop.carriers;
    is_verified = λ k _. says_changed n (carriers.fires_row 9 row) (λ x. refl) false (λ (x : Carrier). is_map_verified x.states.map) c k f.shop.carriers there ∙ ap (λ (b : Bool). if k == n then b else of_one false (λ (x : Carrier). is_map_verified x.states.map) (carrier_numbered k f.shop.carriers)) becomes;
    access = λ k _. says_kept n (carriers.fires_row 9 row) (λ x. refl) 0 (λ (x : Carrier). access_number x.states.access) (λ x. refl) k f.shop.carriers;
    jobs = carriers_alike _ f.jobs f.substrates f.shop.carriers _
        (λ says c p here. says_kept n (carriers.fires_row 9 row) (λ x. refl) false (λ (x : Carrier). says x.name) (λ x. refl) c f.shop.carriers)
        (λ c p here. says_kept n (carriers.fires_row 9 row) (λ x. refl) false (λ (x : Carrier). x.stopped) (λ x. refl) c f.shop.carriers);
    chambers = refl;
    equipment = λ m. refl;
    next_command = refl;
  }

  -- ---- a row of accessing

  pub accessing_agrees : (n row state : ℕ) (c : Carrier) → carrier_numbered n f.shop.carriers ≡ Some c → access_number (carriers.fires_row 10 row c).states.access ≡ state
      → Agree (accessed n state (picture f)) (picture (with_shop (record f.shop { carriers = change_numbered n (carriers.fires_row 10 row) f.shop.carriers }) f))
  accessing_agrees n row state c there becomes = record {
    substrates = refl;
    next_substrate = refl;
    carrier_of = λ k _. refl;
    port_of = λ k _. refl;
    slot_of = λ k _. refl;
    place_of = λ k. refl;
    processing = λ k _. refl;
    is_aligned = λ k _. refl;
    steps_of = λ k _ _. refl;
    carriers = numbers_kept n (carriers.fires_row 10 row) (λ x. refl) f.shop.carriers;
    present_at = λ k. says_kept n (carriers.fires_row 10 row) (λ x. refl) None where_present (λ x. refl) k f.shop.carriers;
    is_verified = λ k _. says_kept n (carriers.fires_row 10 row) (λ x. refl) false (λ (x : Carrier). is_map_verified x.states.map) (λ x. refl) k f.shop.carriers;
    access = λ k _. says_changed n (carriers.fires_row 10 row) (λ x. refl) 0 (λ (x : Carrier). access_number x.states.access) c k f.shop.carriers there ∙ ap (λ (m : ℕ). if k == n then m else of_one 0 (λ (x : Carrier). access_number x.states.access) (carrier_numbered k f.shop.carriers)) becomes;
    jobs = carriers_alike _ f.jobs f.substrates f.shop.carriers _
        (λ says c p here. says_kept n (carriers.fires_row 10 row) (λ x. refl) false (λ (x : Carrier). says x.name) (λ x. refl) c f.shop.carriers)
        (λ c p here. says_kept n (carriers.fires_row 10 row) (λ x. refl) false (λ (x : Carrier). x.stopped) (λ x. refl) c f.shop.carriers);
    chambers = refl;
    equipment = λ m. refl;
    next_command = refl;
  }
