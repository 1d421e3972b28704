-- What the rows do, by their numbers and their tables.
use Rattle.std.proofs.Common.{◌≡◌, ℕ, true, [], ◌∷◌, Option, refl, ◌⊎◌, inl, inr}
use Rattle.gem_tables.specs.Table.{firing, row_of, is_one_of}
use Rattle.gem_tables.specs.declared.firing.Firing.{Firing}
use Rattle.gem_tables.proofs.Rows.{looked_for, one_of_cases}
use Rattle.load_port.specs.declared.record.Transfer.{Transfer}
use Rattle.load_port.specs.declared.record.Access.{Access}
use Rattle.load_port.specs.declared.record.Reservation.{Reservation}
use Rattle.load_port.specs.Tables.{PortRow, transfer_table, access_table, reservation_table, association_table}
use Rattle.load_port.specs.Ports as ports
use Rattle.carrier.specs.Carriers as carriers
use Rattle.shop_floor.specs.Floor.{Floor, with_port, with_carrier}
use Rattle.shop_floor.specs.Rows.{forgetting, found_does}
use Rattle.shop_floor.specs.Machines.{floor_fired}

-- rows 7.2 and 7.6 forget the port's carrier
pub forgets_owner : (row port : ℕ) (f : Floor) → (row ≡ 2) ⊎ (row ≡ 6) → forgetting port f ≡ found_does (row_of association_table row) port f
forgets_owner row port f (inl is) = rw is refl
forgets_owner row port f (inr is) = rw is refl

-- a row of another table of ports does no more than its state says
pub port_fires : (x : Firing) (f : Floor) → is_one_of (4 ∷ 5 ∷ 6 ∷ 7 ∷ []) x.row.table ≡ true → (x.row.table ≡ 7 → ⊥) → with_port x.object (ports.fires_row x.row.table x.row.row) f ≡ floor_fired x f
port_fires x f among other =
    one_of_cases (λ (t : ℕ). (t ≡ 7 → ⊥) → with_port x.object (ports.fires_row t x.row.row) f ≡ floor_fired (firing t x.object x.row.row) f) (4 ∷ 5 ∷ 6 ∷ 7 ∷ []) x.row.table (
      (λ _. looked_for (λ (o : Option (PortRow Transfer)). with_port x.object (ports.fires_row 4 x.row.row) f ≡ with_port x.object (ports.fires_row 4 x.row.row) (found_does o x.object f)) transfer_table x.row.row refl (refl, (refl, (refl, (refl, (refl, tt)))))),
      (
        (λ _. looked_for (λ (o : Option (PortRow Access)). with_port x.object (ports.fires_row 5 x.row.row) f ≡ with_port x.object (ports.fires_row 5 x.row.row) (found_does o x.object f)) access_table x.row.row refl (refl, (refl, tt))),
        ((λ _. looked_for (λ (o : Option (PortRow Reservation)). with_port x.object (ports.fires_row 6 x.row.row) f ≡ with_port x.object (ports.fires_row 6 x.row.row) (found_does o x.object f)) reservation_table x.row.row refl (refl, (refl, (refl, tt)))), ((λ seven. absurd (seven refl)), tt)),
      ),
    ) among other

-- nor does one of a table of carriers
pub carrier_fires : (x : Firing) (f : Floor) → is_one_of (8 ∷ 9 ∷ 10 ∷ []) x.row.table ≡ true → with_carrier x.object (carriers.fires_row x.row.table x.row.row) f ≡ floor_fired x f
carrier_fires x f among =
    one_of_cases (λ (t : ℕ). with_carrier x.object (carriers.fires_row t x.row.row) f ≡ floor_fired (firing t x.object x.row.row) f) (8 ∷ 9 ∷ 10 ∷ []) x.row.table (refl, (refl, (refl, tt))) among
