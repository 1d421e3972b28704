-- What becomes of the places of substrates where a carrier is removed from a port, by row 5 of table 4 and row 6 of table 7.
use Rattle.std.proofs.Common.{◌≡◌, ℕ, zero, suc, true, List, Option, Some, None, slice_get, refl, sym, ◌∙◌, ap}
use Rattle.std.proofs.lemmas.Bool.{true≢false}
use Rattle.gem_tables.specs.Table.{firing}
use Rattle.load_port.specs.declared.port.Port.{Port}
use Rattle.load_port.specs.Tables.{transfer_number, transfer_table}
use Rattle.load_port.specs.Ports as ports
use Rattle.load_port.specs.Ports.{port_numbered}
use Rattle.shop_floor.specs.Rows.{owner, is_elsewhere}
use Rattle.shop_floor.specs.Valid.{IsFloor}
use Rattle.shop_floor.specs.Machines as shop
use Rattle.shop_floor.specs.Machines.{port_starts}
use Rattle.shop_floor.proofs.Belonging.{owner_changed, ports_length}
use Rattle.shop_floor.proofs.Keeps.{row-keeps as shop_keeps}
use Rattle.floor_model.specs.Floor.{ToolFloor}
use Rattle.floor_model.specs.Machines.{floor_starts, floor_fired}
use Rattle.place_laws.specs.Sound.{Base, Sound}
use Rattle.place_laws.proofs.QuietPorts.{quiet_port}
use Rattle.floor_laws.proofs.GrowPlaces.{Grown, grown_same, grown_then}
use Rattle.floor_laws.proofs.GrowTaken.{IsHere, taken_grows}
use Rattle.floor_laws.proofs.GrowEnds.{ends_at}

-- the floor behind row 5 of table 4 at a port
abbrev pub unloaded : ℕ → ToolFloor → ToolFloor
unloaded port f = floor_fired (firing 4 port 5) f

-- what belongs to the port stays so
owner_stays : (port : ℕ) (f : ToolFloor) → owner (port_numbered port (unloaded port f).shop.ports) ≡ owner (port_numbered port f.shop.ports)
owner_stays zero f = refl
owner_stays (suc place) f = owner_changed (Some (record { 0 = suc place })) (suc place) (ports.fires_row 4 5) f.shop.ports (λ q. refl)

-- what holds without ports holds behind it
unloaded_base : (port : ℕ) (f : ToolFloor) → floor_starts (firing 4 port 5) f ≡ true → Base f → Base (unloaded port f)
unloaded_base port f starts b = record {
  shop = shop_keeps (firing 4 port 5) f.shop starts b.shop;
  carried = b.carried;
  registered = b.registered;
  apart = b.apart;
  rising = b.rising;
  same_ports = b.same_ports ∙ sym (ports_length port (ports.fires_row 4 5) f.shop.ports);
  modules = b.modules;
  places = b.places;
  held = b.held;
  jobs = record { numbered = b.jobs.numbered; given = b.jobs.given; members = b.jobs.members };
}

-- where no row is ready by itself, the carrier of a port from which one is removed is not present at another, also behind row 5 of table 4
quiet_here : (port : ℕ) (f : ToolFloor) → shop.floor_starts (firing 4 port 5) f.shop ≡ true → shop.floor_least f.shop ≡ None → IsFloor f.shop → IsHere port (unloaded port f).shop
quiet_here zero f starts rests valid = absurd (true≢false (sym starts))
quiet_here (suc place) f starts rests valid = of (slice_get f.shop.ports place) refl starts where
  of : (o : Option Port) → slice_get f.shop.ports place ≡ o → port_starts transfer_number transfer_table (λ s. s.transfer) (λ to s. record s { transfer = to }) 5 (suc place) f.shop o ≡ true → IsHere (suc place) (unloaded (suc place) f).shop
  of None is e = absurd (true≢false (sym e))
  of (Some p) is e =
      let quiet = quiet_port f.shop place p is rests valid in
      ap (λ (o : Option (List ℕ)). is_elsewhere (suc place) o f.shop.carriers) (owner_stays (suc place) f ∙ ap owner is) ∙ quiet.not_elsewhere

-- where no row is ready by itself
pub removal_grows : (May : ℕ → Type 0) (port : ℕ) (f : ToolFloor) → May port → floor_starts (firing 4 port 5) f ≡ true → shop.floor_least f.shop ≡ None → Sound f
    → Grown May f (floor_fired (firing 7 port 6) (floor_fired (firing 4 port 5) f))
removal_grows May port f may starts rests sound =
    let g = unloaded port f in
    let ends = ends_at port f starts rests sound.base.shop sound.unloading in
    grown_then May f g (floor_fired (firing 7 port 6) g) (grown_same May f g refl)
    (taken_grows May g (unloaded_base port f starts sound.base) sound.valid port may (quiet_here port f starts rests sound.base.shop) (λ name c its found present. ends name c (sym (owner_stays port f) ∙ its) found present))
