-- A control job that is at work is so behind what the host writes of carriers, a carrier that is cancelled, a binding that is cancelled, and a
-- carrier that is placed; and where one is removed from a port to which no carrier belongs.
use Rattle.std.proofs.Common.{◌≡◌, ℕ, ◌==◌, Bool, true, false, ◌&&◌, List, Option, Some, refl, sym, ◌∙◌, ap, subst, ◌⊎◌, inl, inr}
use Rattle.std.proofs.lemmas.Bool.{and_parts}
use Rattle.std.proofs.lemmas.Bool.Decides.{Decides-eqb}
use Rattle.gem_tables.specs.Table.{firing}
use Rattle.gem_tables.specs.declared.firing.Firing.{Firing}
use Rattle.load_port.specs.Caack.{is_done_code}
use Rattle.load_port.specs.Ports.{port_numbered}
use Rattle.carrier.specs.declared.carrier.Carrier.{Carrier}
use Rattle.carrier.specs.declared.action.CarrierAction.{CarrierAction}
use Rattle.carrier.specs.Carriers as carriers
use Rattle.carrier.specs.Carriers.{carrier_numbered}
use Rattle.shop_floor.specs.Floor.{Floor, arrival_of, with_carrier}
use Rattle.shop_floor.specs.Rows.{owner}
use Rattle.shop_floor.specs.Requests.{came, carrier_code, carrier_written}
use Rattle.shop_floor.specs.Machines as shop
use Rattle.shop_floor.specs.Valid.{IsFloor}
use Rattle.shop_floor.proofs.Asked.{written-keeps}
use Rattle.shop_floor.proofs.Keeps.{row-keeps as shop_keeps, came-keeps, accessing-keeps}
use Rattle.tool_jobs.specs.Jobs.{Jobs}
use Rattle.floor_model.specs.Floor.{ToolFloor, with_shop}
use Rattle.floor_model.specs.Jobs.{is_any_of_carrier}
use Rattle.floor_model.specs.Substrates.{reaches_verified}
use Rattle.floor_model.specs.Machines.{floor_starts, floor_fired}
use Rattle.place_laws.specs.Sound.{Sound}
use Rattle.place_laws.proofs.Stays.{NonePresent}
use Rattle.place_laws.proofs.Leaving.{Leaves, leaves_then, port_leaves}
use Rattle.place_laws.proofs.ShopRows.{transfer_leaves, accessing_leaves}
use Rattle.place_laws.proofs.Written.{written_leaves}
use Rattle.floor_laws.proofs.ShopAccess.{SameAccess, finds_forgets, access_found, transfer_access}
use Rattle.floor_laws.proofs.ShopHost.{forgets_leaves, still_placed, written_access}
use Rattle.floor_laws.proofs.ShopTables.{is_shop_row}
use Rattle.lot_laws.specs.Lot.{is_registration, AtWork}
use Rattle.lot_laws.proofs.Failing.{turned-works}
use Rattle.lot_laws.proofs.Registering.{registration-works}
use Rattle.lot_laws.proofs.Shops.{same_use, shop-works, shop_row-works, accessing_use}
use Rattle.lot_laws.proofs.Works.{WorksOn}

module _ (number : ℕ) (planned : ℕ → List (List ℕ)) (counted : ℕ → Bool) (f : ToolFloor) (sound : Sound f) {before : Jobs} (e : AtWork number planned counted before f) where
  by_change : (s : Floor) → Leaves f.substrates f.shop s → IsFloor s → SameAccess f.shop.carriers s.carriers → WorksOn number planned counted before f (with_shop s f)
  by_change s leaves valid same = (shop-works number planned counted f sound.base e s leaves.stay valid (same_use f s same), refl, refl)

  -- what the host writes of a carrier
  pub written-works : (a : CarrierAction) → is_done_code (carrier_code f.shop a) ≡ true → WorksOn number planned counted before f (with_shop (carrier_written a f.shop) f)
  written-works a code =
      by_change (carrier_written a f.shop) (written_leaves f.substrates f.shop sound.base.shop a code) (written-keeps a f.shop code sound.base.shop)
      (written_access a.word a.id a.port a.map a.bad_attr f.shop sound.base.shop code)

  -- row 4 of table 10, CancelCarrier of a carrier that no process job names
  pub cancelled-works : (n : ℕ) (c : Carrier) → carrier_numbered n f.shop.carriers ≡ Some c → is_any_of_carrier c.name f.jobs ≡ false → WorksOn number planned counted before f (floor_fired (firing 10 n 4) f)
  cancelled-works n c known unnamed = (
    shop-works number planned counted f sound.base e (with_carrier n (carriers.fires_row 10 4) f.shop) (accessing_leaves f.substrates f.shop n 4).stay (accessing-keeps f.shop n 4 sound.base.shop)
        (accessing_use f n 4 c known (inr unnamed)),
    refl,
    refl,
  )

  -- row 2 of table 7, where the port's carrier isn't present
  pub unbinding-works : (port : ℕ) → floor_starts (firing 7 port 2) f ≡ true → ((name : List ℕ) → owner (port_numbered port f.shop.ports) ≡ Some name → NonePresent name f.shop.carriers) → WorksOn number planned counted before f (floor_fired (firing 7 port 2) f)
  unbinding-works port starts none =
      let o = owner (port_numbered port f.shop.ports) in
      by_change (shop.floor_fired (firing 7 port 2) f.shop) (forgets_leaves f.substrates 2 port o f.shop none) (shop_keeps (firing 7 port 2) f.shop starts sound.base.shop)
      (access_found f.shop.carriers (shop.floor_fired (firing 7 port 2) f.shop).carriers (finds_forgets o f.shop.carriers none))

  -- a carrier is placed
  pub placing-works : (port : ℕ) (name : Option (List ℕ)) (slots : List ℕ) → floor_starts (firing 4 port 3) f ≡ true
      → WorksOn number planned counted before f (floor_fired (firing 4 port 3) (with_shop (came port (arrival_of port name slots f.shop.carriers) f.shop) f))
  placing-works port name slots starts =
      let a = arrival_of port name slots f.shop.carriers in
      let g = came port a f.shop in
      by_change (shop.floor_fired (firing 4 port 3) g) (leaves_then f.substrates f.shop g (shop.floor_fired (firing 4 port 3) g) (port_leaves f.substrates port _ f.shop) (transfer_leaves f.substrates g port 3))
      (shop_keeps (firing 4 port 3) g (still_placed port a f.shop starts) (came-keeps port a f.shop sound.base.shop)) (transfer_access g port 3)

  -- row 5 of table 4
  pub vacated-works : (port : ℕ) → floor_starts (firing 4 port 5) f ≡ true → WorksOn number planned counted before f (floor_fired (firing 4 port 5) f)
  vacated-works port starts =
      by_change (shop.floor_fired (firing 4 port 5) f.shop) (transfer_leaves f.substrates f.shop port 5) (shop_keeps (firing 4 port 5) f.shop starts sound.base.shop) (transfer_access f.shop port 5)

  -- ---- a row alone

  -- A row that inputs fire alone and that is none of a job: of the load ports, the carriers and the locations, one by which a slot map is
  -- VERIFIED, or `up`.
  pub row-works : (x : Firing) → floor_starts x f ≡ true → (is_shop_row x ≡ true) ⊎ ((is_registration x ≡ true) ⊎ (((x.row.table == 16) && (x.row.row == 10)) ≡ true)) → WorksOn number planned counted before f (floor_fired x f)
  row-works x starts (inl is) = shop_row-works number planned counted f sound e x starts is
  row-works x starts (inr (inl is)) =
      let parts = and_parts (x.row.table == 9) (reaches_verified x.row.row) is in
      let same : x ≡ firing 9 x.object x.row.row = ap (λ (n : ℕ). firing n x.object x.row.row) ((Decides-eqb x.row.table 9).0 parts.0) in
      subst (λ (y : Firing). WorksOn number planned counted before f (floor_fired y f)) (sym same)
      (registration-works number planned counted f sound e x.object x.row.row parts.1 (subst (λ (y : Firing). floor_starts y f ≡ true) same starts))
  row-works x starts (inr (inr is)) =
      let parts = and_parts (x.row.table == 16) (x.row.row == 10) is in
      let same : x ≡ firing 16 x.object 10 = ap (λ (n : ℕ). firing n x.object x.row.row) ((Decides-eqb x.row.table 16).0 parts.0) ∙ ap (firing 16 x.object) ((Decides-eqb x.row.row 10).0 parts.1) in
      subst (λ (y : Firing). WorksOn number planned counted before f (floor_fired y f)) (sym same) (turned-works number planned counted f e x.object 10 refl)
