-- A carrier that is removed from its port leaves what holds: row 5 of table 4, and row 6 of table 7 where that starts.
use Rattle.std.proofs.Common.{◌≡◌, ℕ, suc, Bool, true, false, not, ◌&&◌, List, [], ◌∷◌, length, Option, Some, None, option_map, slice_get, refl, sym, ◌∙◌, ap, subst}
use Rattle.std.proofs.lemmas.Bool.{and_parts}
use Rattle.gem_tables.specs.Table.{firing, is_among}
use Rattle.load_port.specs.declared.port.Port.{Port}
use Rattle.load_port.specs.declared.record.Transfer.TheVariants.{ReadyToUnload}
use Rattle.load_port.specs.Tables.{transfer_number}
use Rattle.load_port.specs.Ports as ports
use Rattle.load_port.specs.Ports.{port_numbered, change_port}
use Rattle.carrier.specs.declared.carrier.Carrier.{Carrier}
use Rattle.carrier.specs.Carriers.{has_name, carrier_named, without}
use Rattle.shop_floor.specs.Floor.{Floor, floor_of, number_of}
use Rattle.shop_floor.specs.Owning.{number_named}
use Rattle.shop_floor.specs.Rows.{freed, owner, forgets}
use Rattle.shop_floor.specs.Machines as shop
use Rattle.shop_floor.specs.Valid.{IsFloor}
use Rattle.shop_floor.proofs.Apart.{all_follows, none_passes, unknown_all}
use Rattle.shop_floor.proofs.Belonging.{get_updated, ports_length}
use Rattle.shop_floor.proofs.Keeps.{row-keeps as shop_keeps}
use Rattle.floor_model.specs.Floor.{ToolFloor, with_shop}
use Rattle.floor_model.specs.Machines.{floor_starts, floor_fired}
use Rattle.floor_model.specs.Substrates.{without_carrier}
use Rattle.floor_moves.specs.Carriers.{HasEnded}
use Rattle.floor_moves.specs.Valid.{Valid}
use Rattle.place_laws.specs.Picture.{picture}
use Rattle.place_laws.specs.Sound.{Base, Sound}
use Rattle.place_laws.proofs.PortChanges.{at_place}
use Rattle.place_laws.proofs.PortTransfers.{among_unloadable}
use Rattle.place_laws.proofs.PortRemoval.{removal-at-ports, removal-left-at-ports}
use Rattle.place_laws.proofs.UnloadPorts.{vacated-unloading}
use Rattle.place_laws.proofs.UnloadRows.{removal-unloading}
use Rattle.floor_laws.proofs.RemPlaces.{filter_all}
use Rattle.floor_laws.proofs.RemBase.{taken_base, taken_valid}

-- The carrier that belongs to the port has ended: it is CARRIER COMPLETE or CARRIER STOPPED, or its slot map isn't VERIFIED.
abbrev pub OwnerEnded : ℕ → ToolFloor → Type 0
OwnerEnded port f = (name : List ℕ) (c : Carrier) → owner (port_numbered port f.shop.ports) ≡ Some name → carrier_named name f.shop.carriers ≡ Some c → HasEnded c.number (picture f)

-- what holds but for the ports
pub record Kept (f : ToolFloor) : Type 0 where
  pub base : Base f
  pub valid : Valid (picture f)

-- ---- where the carriers stay

-- other ports, as many, with the same carriers
pub ports_kept : (f : ToolFloor) (ps : List Port) (cs : List Carrier) (next : ℕ) → cs ≡ f.shop.carriers → length ps ≡ length f.shop.ports → IsFloor (floor_of ps cs next) → Kept f → Kept (with_shop (floor_of ps cs next) f)
ports_kept f ps cs next same count valid kept =
    subst (λ (ds : List Carrier). IsFloor (floor_of ps ds next) → Kept (with_shop (floor_of ps ds next) f)) (sym same) on valid where
      on : IsFloor (floor_of ps f.shop.carriers next) → Kept (with_shop (floor_of ps f.shop.carriers next) f)
      on ok = record {
        base = record {
          shop = ok;
          carried = kept.base.carried;
          registered = kept.base.registered;
          apart = kept.base.apart;
          rising = kept.base.rising;
          same_ports = kept.base.same_ports ∙ sym count;
          modules = kept.base.modules;
          places = kept.base.places;
          held = kept.base.held;
          jobs = record { numbered = kept.base.jobs.numbered; given = kept.base.jobs.given; members = kept.base.jobs.members };
        };
        valid = kept.valid;
      }

-- ---- row 5 of table 4

-- it leaves the carriers
pub vacated_kept : (port : ℕ) (f : ToolFloor) → floor_starts (firing 4 port 5) f ≡ true → Kept f → Kept (floor_fired (firing 4 port 5) f)
vacated_kept port f starts kept =
    ports_kept f (change_port port (ports.fires_row 4 5) f.shop.ports) f.shop.carriers f.shop.next_carrier refl (ports_length port (ports.fires_row 4 5) f.shop.ports)
    (shop_keeps (firing 4 port 5) f.shop starts kept.base.shop) kept

-- ---- row 6 of table 7

-- the load ports and carriers behind it, where this carrier belongs to the port
abbrev behind : ℕ → Option (List ℕ) → Floor → Floor
behind port o f = floor_of (change_port port (ports.fires_row 7 6) (change_port port freed f.ports)) (forgets o f.carriers) f.next_carrier

-- so many ports
same_count : (port : ℕ) (f : Floor) → length (change_port port (ports.fires_row 7 6) (change_port port freed f.ports)) ≡ length f.ports
same_count port f = ports_length port (ports.fires_row 7 6) (change_port port freed f.ports) ∙ ports_length port freed f.ports

-- none is left out, where none has the name
without_nobody : (name : List ℕ) (cs : List Carrier) → carrier_named name cs ≡ None → without name cs ≡ cs
without_nobody name cs none =
    filter_all (λ (c : Carrier). not (has_name name c)) cs
    (all_follows (λ (c : Carrier). has_name name c ≡ false) (λ (c : Carrier). not (has_name name c) ≡ true) cs (λ c other. ap not other) (unknown_all name cs (none_passes (has_name name) cs none)))

-- the port's carrier goes with its substrates
pub forgotten_kept : (port : ℕ) (f : ToolFloor) → floor_starts (firing 7 port 6) f ≡ true → OwnerEnded port f → Kept f → Kept (floor_fired (firing 7 port 6) f)
forgotten_kept port f starts ends kept = of (owner (port_numbered port f.shop.ports)) refl (shop_keeps (firing 7 port 6) f.shop starts kept.base.shop) where
  named : (name : List ℕ) → owner (port_numbered port f.shop.ports) ≡ Some name → (k : Option Carrier) → carrier_named name f.shop.carriers ≡ k → IsFloor (behind port (Some name) f.shop) → Kept (with_shop (behind port (Some name) f.shop) (without_carrier (option_map number_of k) f))
  named name its None none ok = ports_kept f (change_port port (ports.fires_row 7 6) (change_port port freed f.shop.ports)) (without name f.shop.carriers) f.shop.next_carrier (without_nobody name f.shop.carriers none) (same_count port f.shop) ok kept
  named name its (Some c) found ok = record {
    base = taken_base f kept.base name c found (change_port port (ports.fires_row 7 6) (change_port port freed f.shop.ports)) f.shop.next_carrier ok (same_count port f.shop);
    valid = taken_valid f kept.base name c found (change_port port (ports.fires_row 7 6) (change_port port freed f.shop.ports)) f.shop.next_carrier (ends name c its found) kept.valid;
  }

  of : (o : Option (List ℕ)) → owner (port_numbered port f.shop.ports) ≡ o → IsFloor (behind port o f.shop) → Kept (with_shop (behind port o f.shop) (without_carrier (number_named o f.shop) f))
  of None is ok = ports_kept f (change_port port (ports.fires_row 7 6) (change_port port freed f.shop.ports)) f.shop.carriers f.shop.next_carrier refl (same_count port f.shop) ok kept
  of (Some name) is ok = named name is (carrier_named name f.shop.carriers) refl ok

-- ---- both

-- a port at which row 5 of table 4 starts is there, and is READY TO UNLOAD
pub unloadable_at : (P : ℕ → Type 0) (port : ℕ) (f : Floor) → shop.floor_starts (firing 4 port 5) f ≡ true → ((place : ℕ) (p : Port) → slice_get f.ports place ≡ Some p → p.states.transfer ≡ ReadyToUnload → P (suc place)) → P port
unloadable_at P port f starts there =
    at_place P starts_there f.ports port (λ n. refl) (λ place p s e. there place p s (among_unloadable p.states.transfer (and_parts (is_among transfer_number (ReadyToUnload ∷ []) p.states.transfer) true e).0)) starts where
      starts_there : ℕ → Option Port → Bool
      starts_there n None = false
      starts_there n (Some p) = is_among transfer_number (ReadyToUnload ∷ []) p.states.transfer && true

-- its carrier belongs to it still
still_owned : (port : ℕ) (f : Floor) → shop.floor_starts (firing 4 port 5) f ≡ true → owner (port_numbered port (change_port port (ports.fires_row 4 5) f.ports)) ≡ owner (port_numbered port f.ports)
still_owned port f starts =
    unloadable_at (λ n. owner (port_numbered n (change_port n (ports.fires_row 4 5) f.ports)) ≡ owner (port_numbered n f.ports)) port f starts
    (λ place p s is. ap owner (get_updated place (ports.fires_row 4 5) f.ports p s) ∙ sym (ap owner s))

-- where row 6 of table 7 starts behind row 5 of table 4
pub removal_sound : (port : ℕ) (f : ToolFloor) → floor_starts (firing 4 port 5) f ≡ true → floor_starts (firing 7 port 6) (floor_fired (firing 4 port 5) f) ≡ true → OwnerEnded port f → Sound f → Sound (floor_fired (firing 7 port 6) (floor_fired (firing 4 port 5) f))
removal_sound port f starts then_starts ends sound =
    let between = vacated_kept port f starts (record { base = sound.base; valid = sound.valid }) in
    let kept = forgotten_kept port (floor_fired (firing 4 port 5) f) then_starts (λ name c its found. ends name c (sym (still_owned port f.shop starts) ∙ its) found) between in
    record { base = kept.base; ports = removal-at-ports port f.shop starts sound.base.shop sound.ports; unloading = removal-unloading port f.shop sound.unloading; valid = kept.valid }

-- where it doesn't
pub removal_left_sound : (port : ℕ) (f : ToolFloor) → floor_starts (firing 4 port 5) f ≡ true → floor_starts (firing 7 port 6) (floor_fired (firing 4 port 5) f) ≡ false → Sound f → Sound (floor_fired (firing 4 port 5) f)
removal_left_sound port f starts left sound =
    let kept = vacated_kept port f starts (record { base = sound.base; valid = sound.valid }) in
    record { base = kept.base; ports = removal-left-at-ports port f.shop starts left sound.base.shop sound.ports; unloading = vacated-unloading port f.shop sound.unloading; valid = kept.valid }
