-- Each row of the load ports and the carriers, but for those that forget a carrier or verify a slot map, leaves the substrates.
use Rattle.std.proofs.Common.{◌≡◌, ℕ, suc, Bool, true, false, not, List, [], ◌∷◌, find, Option}
use Rattle.std.proofs.lemmas.Bool.{and_parts}
use Rattle.gem_tables.specs.Table.{firing, is_one_of}
use Rattle.gem_tables.proofs.Rows.{looked_for}
use Rattle.load_port.specs.declared.record.Transfer.{Transfer}
use Rattle.load_port.specs.declared.record.Access.{Access}
use Rattle.load_port.specs.declared.record.Reservation.{Reservation}
use Rattle.load_port.specs.declared.record.Association.{Association}
use Rattle.load_port.specs.Tables.{PortRow, transfer_table, access_table, reservation_table, association_number, association_table}
use Rattle.load_port.specs.Ports as ports
use Rattle.carrier.specs.Carriers as carriers
use Rattle.shop_floor.specs.Floor.{Floor, with_port}
use Rattle.shop_floor.specs.Rows.{freed, is_directed, binding, found_does}
use Rattle.shop_floor.specs.Machines.{floor_starts, floor_fired}
use Rattle.shop_floor.specs.Valid.{IsFloor}
use Rattle.shop_floor.proofs.Cases.{starts_at_port}
use Rattle.shop_floor.proofs.Keeps.{own_some}
use Rattle.floor_model.specs.declared.tracked.Substrate.{Substrate}
use Rattle.floor_model.specs.Substrates.{reaches_verified}
use Rattle.place_laws.specs.Ports.{AtPorts}
use Rattle.place_laws.proofs.Leaving.{Leaves, port_leaves, carrier_leaves, id_goes, access_goes, map_goes, bound_leaves, arrives_leaves, replaces_leaves, then_fires}

-- a row of table 7 forgets no carrier that may be present
abbrev pub is_gentle : ℕ → Bool
is_gentle row = not (is_one_of (2 ∷ 6 ∷ []) row)

module _ (ss : List Substrate) (f : Floor) where
  ports_leave : (table number row : ℕ) → Leaves ss f (with_port number (ports.fires_row table row) f)
  ports_leave table number row = port_leaves ss number (ports.fires_row table row) f

  pub transfer_leaves : (port row : ℕ) → Leaves ss f (floor_fired (firing 4 port row) f)
  transfer_leaves port row =
      let left = ports_leave 4 port row in
      looked_for (λ (o : Option (PortRow Transfer)). Leaves ss f (with_port port (ports.fires_row 4 row) (found_does o port f))) transfer_table row left (left, (left, (left, (left, (left, tt)))))

  pub mode_leaves : (port row : ℕ) → Leaves ss f (floor_fired (firing 5 port row) f)
  mode_leaves port row =
      let left = ports_leave 5 port row in
      looked_for (λ (o : Option (PortRow Access)). Leaves ss f (with_port port (ports.fires_row 5 row) (found_does o port f))) access_table row left (left, (left, tt))

  pub reservation_leaves : (port row : ℕ) → Leaves ss f (floor_fired (firing 6 port row) f)
  reservation_leaves port row =
      let left = ports_leave 6 port row in
      looked_for (λ (o : Option (PortRow Reservation)). Leaves ss f (with_port port (ports.fires_row 6 row) (found_does o port f))) reservation_table row left (left, (left, (left, tt)))

  pub association_leaves : (port row : ℕ) → IsFloor f → AtPorts f → is_gentle row ≡ true → floor_starts (firing 7 port row) f ≡ true → Leaves ss f (floor_fired (firing 7 port row) f)
  association_leaves port row valid at gentle starts =
      starts_at_port association_number association_table (λ s. s.association) (λ to s. record s { association = to })
      (λ (n r : ℕ) (o : Option (PortRow Association)). is_gentle r ≡ true → Leaves ss f (with_port n (ports.fires_row 7 r) (found_does o n f))) f port row
      (λ place p s. (
        (λ among wants kind. then_fires ss 1 place f (binding (suc place) f) (bound_leaves ss place f (find (is_directed (suc place)) f.carriers))),
        (
          (λ among wants kind. absurd (cc)),
          (
            (λ among wants kind. then_fires ss 3 place f _ (arrives_leaves ss place f p valid at s wants)),
            (
              (λ among wants kind. then_fires ss 4 place f _ (replaces_leaves ss place f p valid at s (and_parts _ _ wants).0)),
              (
                (λ among wants kind. then_fires ss 5 place f _ (arrives_leaves ss place f p valid at s (own_some p.carrier p.arrival wants))),
                ((λ among wants kind. absurd (cc)), ((λ among wants kind. then_fires ss 7 place f (with_port (suc place) freed f) (port_leaves ss (suc place) freed f)), tt)),
              ),
            ),
          ),
        ),
      ))
      starts gentle

  pub id_leaves : (carrier row : ℕ) → Leaves ss f (floor_fired (firing 8 carrier row) f)
  id_leaves carrier row = carrier_leaves ss carrier (carriers.fires_row 8 row) f (id_goes ss row)

  pub map_leaves : (carrier row : ℕ) → reaches_verified row ≡ false → Leaves ss f (floor_fired (firing 9 carrier row) f)
  map_leaves carrier row other = carrier_leaves ss carrier (carriers.fires_row 9 row) f (map_goes ss row other)

  pub accessing_leaves : (carrier row : ℕ) → Leaves ss f (floor_fired (firing 10 carrier row) f)
  accessing_leaves carrier row = carrier_leaves ss carrier (carriers.fires_row 10 row) f (access_goes ss row)
