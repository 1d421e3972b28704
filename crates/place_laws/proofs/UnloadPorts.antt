-- The carrier at a port that is READY TO UNLOAD goes on to have finished, where ports change: the rows of tables 4 to 6.
use Rattle.std.proofs.Common.{◌≡◌, ℕ, zero, suc, Bool, true, ◌&&◌, List, [], ◌∷◌, find, Option, Some, None, slice_get, refl, sym, ap, ◌∙◌}
use Rattle.std.specs.List.{AllByRecursion}
use Rattle.std.proofs.lemmas.Bool.{and_parts}
use Rattle.gem_tables.specs.Table.{update_at, firing, after}
use Rattle.gem_tables.proofs.Rows.{looked_for}
use Rattle.gem_ids.specs.declared.numbers.PortNo.{PortNo}
use Rattle.load_port.specs.declared.port.Port.{Port}
use Rattle.load_port.specs.declared.record.Transfer.{Transfer}
use Rattle.load_port.specs.declared.record.Transfer.TheVariants.{OutOfService, TransferBlocked, ReadyToLoad, ReadyToUnload}
use Rattle.load_port.specs.declared.record.Access.{Access}
use Rattle.load_port.specs.declared.record.Reservation.{Reservation}
use Rattle.load_port.specs.Tables.{PortRow, transfer_number, transfer_table, access_table, reservation_table}
use Rattle.load_port.specs.Record.{is_unloadable}
use Rattle.load_port.specs.Ports as ports
use Rattle.load_port.specs.Ports.{port_numbered, change_port}
use Rattle.carrier.specs.declared.carrier.Carrier.{Carrier}
use Rattle.carrier.specs.Carriers.{is_port, is_present_at, is_finished}
use Rattle.shop_floor.specs.Floor.{Floor, floor_of, opening, with_port}
use Rattle.shop_floor.specs.Rows.{has_finished, found_does}
use Rattle.shop_floor.specs.Requests.{came}
use Rattle.load_port.specs.declared.port.Arrival.{Arrival}
use Rattle.shop_floor.specs.Machines.{floor_starts, floor_fired}
use Rattle.shop_floor.specs.Valid.{port_of, Belongs, IsFloor}
use Rattle.shop_floor.proofs.Apart.{IsOnly, all_both, all_follows, found_one, found_only, found_passes, has_its_name}
use Rattle.shop_floor.proofs.Cases.{starts_at_port}
use Rattle.place_laws.specs.Ports.{unloads, IsFinishedThere, IsReadById, Unloading}
use Rattle.place_laws.proofs.Stays.{at_found}
use Rattle.place_laws.proofs.PortChanges.{numbered_cases}
use Rattle.place_laws.proofs.PortRemoval.{owned_here}

-- ---- the beginning

pub opening-unloading : (n : ℕ) → Unloading (opening n)
opening-unloading n = record { finished = tt; by_id = tt }

-- ---- no port becomes READY TO UNLOAD

-- a change of a port makes none so
abbrev pub MakesNone : (Port → Port) → Type 0
MakesNone change = (p : Port) → is_unloadable (change p).states.transfer ≡ true → is_unloadable p.states.transfer ≡ true

unloads_at : (place m : ℕ) (change : Port → Port) (ps : List Port) → MakesNone change → unloads (slice_get (update_at place change ps) m) ≡ true → unloads (slice_get ps m) ≡ true
unloads_at zero m change [] makes e = e
unloads_at (suc place) m change [] makes e = e
unloads_at zero zero change (p ∷ ps) makes e = makes p e
unloads_at zero (suc m) change (p ∷ ps) makes e = e
unloads_at (suc place) zero change (p ∷ ps) makes e = e
unloads_at (suc place) (suc m) change (p ∷ ps) makes e = unloads_at place m change ps makes e

unloads_numbered : (n place : ℕ) (change : Port → Port) (ps : List Port) → MakesNone change → unloads (port_numbered n (update_at place change ps)) ≡ true → unloads (port_numbered n ps) ≡ true
unloads_numbered zero place change ps makes e = e
unloads_numbered (suc n) place change ps makes e = unloads_at place n change ps makes e

-- a port that is so behind it was so before
pub unloads_before : (o : Option PortNo) (number : ℕ) (change : Port → Port) (ps : List Port) → MakesNone change → unloads (port_of o (change_port number change ps)) ≡ true → unloads (port_of o ps) ≡ true
unloads_before o zero change ps makes e = e
unloads_before None (suc place) change ps makes e = e
unloads_before (Some n) (suc place) change ps makes e = unloads_numbered n.0 place change ps makes e

-- where the carriers change, too
pub moved-unloading : (number : ℕ) (change : Port → Port) (f : Floor) (cs : List Carrier) (next : ℕ) → MakesNone change → AllByRecursion (IsFinishedThere f.ports) cs → AllByRecursion IsReadById cs → Unloading (floor_of (change_port number change f.ports) cs next)
moved-unloading number change f cs next makes finished by_id = record {
  finished = all_follows (IsFinishedThere f.ports) (IsFinishedThere (change_port number change f.ports)) cs (λ c was present there. was present (unloads_before c.port number change f.ports makes there)) finished;
  by_id = by_id;
}

pub ports-unloading : (number : ℕ) (change : Port → Port) (f : Floor) → MakesNone change → Unloading f → Unloading (with_port number change f)
ports-unloading number change f makes u = moved-unloading number change f f.carriers f.next_carrier makes u.finished u.by_id

-- ---- table 4

none_by_1 : (t : Transfer) → is_unloadable (after transfer_number transfer_table 1 t) ≡ true → is_unloadable t ≡ true
none_by_1 OutOfService e = e
none_by_1 TransferBlocked e = e
none_by_1 ReadyToLoad e = e
none_by_1 ReadyToUnload e = refl

none_by_2 : (t : Transfer) → is_unloadable (after transfer_number transfer_table 2 t) ≡ true → is_unloadable t ≡ true
none_by_2 OutOfService e = e
none_by_2 TransferBlocked e = e
none_by_2 ReadyToLoad e = absurd (cc)
none_by_2 ReadyToUnload e = refl

none_by_3 : (t : Transfer) → is_unloadable (after transfer_number transfer_table 3 t) ≡ true → is_unloadable t ≡ true
none_by_3 OutOfService e = e
none_by_3 TransferBlocked e = e
none_by_3 ReadyToLoad e = e
none_by_3 ReadyToUnload e = refl

none_by_5 : (t : Transfer) → is_unloadable (after transfer_number transfer_table 5 t) ≡ true → is_unloadable t ≡ true
none_by_5 OutOfService e = e
none_by_5 TransferBlocked e = e
none_by_5 ReadyToLoad e = e
none_by_5 ReadyToUnload e = refl

-- row 4: the one carrier that is present there has finished
finished-unloading : (place : ℕ) (f : Floor) (p : Port) → slice_get f.ports place ≡ Some p → has_finished (suc place) f.carriers ≡ true → IsFloor f → Unloading f → Unloading (with_port (suc place) (ports.fires_row 4 4) f)
finished-unloading place f p s wants valid u = record {
  finished = all_follows (λ d. IsFinishedThere f.ports d × (Belongs f.ports d × IsOnly c d)) (IsFinishedThere (update_at place (ports.fires_row 4 4) f.ports)) f.carriers
      (λ d b present there. at_port d.port (λ here. its d b.1.0 b.1.1 present here) (λ before. b.0 present before) there)
      (all_both (IsFinishedThere f.ports) (λ d. Belongs f.ports d × IsOnly c d) f.carriers u.finished
      (all_both (Belongs f.ports) (IsOnly c) f.carriers valid.belong (found_only test f.carriers c valid.apart one.1)));
  by_id = u.by_id;
} where
  test : Carrier → Bool
  test d = is_present_at (suc place) d && is_finished d.states

  one : (d : Carrier) × (find test f.carriers ≡ Some d)
  one = found_one test f.carriers wants

  c : Carrier
  c = one.0

  -- it is present there, and has finished
  parts : (is_present_at (suc place) c ≡ true) × (is_finished c.states ≡ true)
  parts = and_parts (is_present_at (suc place) c) (is_finished c.states) (found_passes test f.carriers c one.1)

  owns : p.carrier ≡ Some c.name
  owns =
      let there = and_parts c.present (is_port (suc place) c.port) parts.0 in
      owned_here place f p c s (at_found (Belongs f.ports) test f.carriers c valid.belong one.1) there.0 there.1

  -- another that is present there is it
  its : (d : Carrier) → Belongs f.ports d → IsOnly c d → d.present ≡ true → is_port (suc place) d.port ≡ true → is_finished d.states ≡ true
  its d belongs only present here =
      let both : Some d.name ≡ Some c.name = sym (owned_here place f p d s belongs present here) ∙ owns in
      let same : d.name ≡ c.name = cc in
      ap (λ (x : Carrier). is_finished x.states) (only (has_its_name c.name d same)) ∙ parts.1

  at_port : {P : Type 0} (o : Option PortNo) → (is_port (suc place) o ≡ true → P) → (unloads (port_of o f.ports) ≡ true → P) → unloads (port_of o (update_at place (ports.fires_row 4 4) f.ports)) ≡ true → P
  at_port None here before e = before e
  at_port {P} (Some n) here before e = numbered_cases (λ (q : Option Port). unloads q ≡ true → P) n.0 place (ports.fires_row 4 4) f.ports p s (λ is t. here is) (λ is t. before t) e

pub transfer-unloading : (f : Floor) (port row : ℕ) → floor_starts (firing 4 port row) f ≡ true → IsFloor f → Unloading f → Unloading (floor_fired (firing 4 port row) f)
transfer-unloading f port row starts valid u =
    starts_at_port transfer_number transfer_table (λ s. s.transfer) (λ to s. record s { transfer = to })
    (λ (n r : ℕ) (o : Option (PortRow Transfer)). Unloading (with_port n (ports.fires_row 4 r) (found_does o n f))) f port row
    (λ place p s. (
      (λ among wants. ports-unloading (suc place) (ports.fires_row 4 1) f (λ q e. none_by_1 q.states.transfer e) u),
      (
        (λ among wants. ports-unloading (suc place) (ports.fires_row 4 2) f (λ q e. none_by_2 q.states.transfer e) u),
        (
          (λ among wants. ports-unloading (suc place) (ports.fires_row 4 3) f (λ q e. none_by_3 q.states.transfer e) u),
          (
            (λ among wants. finished-unloading place f p s wants valid u),
            ((λ among wants. ports-unloading (suc place) (ports.fires_row 4 5) f (λ q e. none_by_5 q.states.transfer e) u), tt),
          ),
        ),
      ),
    ))
    starts

-- a carrier is placed: what came is written, and row 3 fires
pub placing-unloading : (port : ℕ) (a : Arrival) (f : Floor) → Unloading f → Unloading (floor_fired (firing 4 port 3) (came port a f))
placing-unloading port a f u = ports-unloading port (ports.fires_row 4 3) (came port a f) (λ q e. none_by_3 q.states.transfer e) (ports-unloading port (λ p. record p { arrival = Some a }) f (λ q e. e) u)

-- one is removed: row 5
pub vacated-unloading : (port : ℕ) (f : Floor) → Unloading f → Unloading (floor_fired (firing 4 port 5) f)
vacated-unloading port f u = ports-unloading port (ports.fires_row 4 5) f (λ q e. none_by_5 q.states.transfer e) u

-- ---- tables 5 and 6

pub mode-unloading : (f : Floor) (port row : ℕ) → Unloading f → Unloading (floor_fired (firing 5 port row) f)
mode-unloading f port row u =
    let still = ports-unloading port (ports.fires_row 5 row) f (λ q e. e) u in
    looked_for (λ (o : Option (PortRow Access)). Unloading (with_port port (ports.fires_row 5 row) (found_does o port f))) access_table row still (still, (still, tt))

pub reservation-unloading : (f : Floor) (port row : ℕ) → Unloading f → Unloading (floor_fired (firing 6 port row) f)
reservation-unloading f port row u =
    let still = ports-unloading port (ports.fires_row 6 row) f (λ q e. e) u in
    looked_for (λ (o : Option (PortRow Reservation)). Unloading (with_port port (ports.fires_row 6 row) (found_does o port f))) reservation_table row still (still, (still, (still, tt)))
