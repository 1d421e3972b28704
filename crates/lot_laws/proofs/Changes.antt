-- It is at work, or is disturbed, behind each change of the floor by an input that leaves the jobs as they are.
use Rattle.std.proofs.Common.{◌≡◌, ℕ, ◌==◌, Bool, true, false, not, ◌&&◌, ◌||◌, List, Option, Some, None, refl, sym, ◌∙◌, ap, ◌⊎◌, inl, inr}
use Rattle.std.proofs.lemmas.Bool.{true≢false}
use Rattle.gem_tables.specs.Table.{firing}
use Rattle.gem_tables.specs.declared.firing.Firing.{Firing}
use Rattle.floor_model.proofs.EachTable.{starts_cases}
use Rattle.load_port.specs.Caack.{is_done_code}
use Rattle.load_port.specs.Ports.{port_numbered}
use Rattle.carrier.specs.declared.carrier.Carrier.{Carrier}
use Rattle.carrier.specs.declared.action.CarrierAction.{CarrierAction}
use Rattle.carrier.specs.Carriers as carriers
use Rattle.carrier.specs.Carriers.{carrier_numbered}
use Rattle.shop_floor.specs.Floor.{arrival_of, with_carrier}
use Rattle.shop_floor.specs.Rows.{owner}
use Rattle.shop_floor.specs.Requests.{came, carrier_code, carrier_written}
use Rattle.shop_floor.specs.Machines as shop
use Rattle.floor_model.specs.Floor.{ToolFloor, with_shop, fetched}
use Rattle.floor_model.specs.Jobs.{is_any_of_carrier}
use Rattle.floor_model.specs.Substrates.{reaches_verified}
use Rattle.floor_model.specs.Machines.{floor_starts, floor_fired}
use Rattle.place_laws.specs.Sound.{Sound}
use Rattle.place_laws.proofs.Stays.{NonePresent}
use Rattle.floor_laws.specs.Rows.{is_common}
use Rattle.floor_laws.proofs.ShopTables.{is_shop_row}
use Rattle.lot_laws.specs.Lot.{is_registration, Executes, AtWork, Disturbed, WorksOrIsDisturbed}
use Rattle.lot_laws.proofs.AtWork.{at_work_of}
use Rattle.lot_laws.proofs.Disturbs.{disturbed-shop, disturbed-fetched, leaves_jobs, disturbed-row}
use Rattle.lot_laws.proofs.Failing.{fetched-works}
use Rattle.lot_laws.proofs.Removing.{removed-works}
use Rattle.lot_laws.proofs.Shopping.{row-works, written-works, cancelled-works, unbinding-works, placing-works, vacated-works}
use Rattle.lot_laws.proofs.Works.{WorksOn}
use Rattle.std.proofs.Math.Bool.{or-false}

-- ---- rows that inputs fire alone

-- of the load ports, the carriers and the locations, one by which a slot map is VERIFIED, or `up`
abbrev Kind : Firing → Type 0
Kind x = (is_shop_row x ≡ true) ⊎ ((is_registration x ≡ true) ⊎ (((x.row.table == 16) && (x.row.row == 10)) ≡ true))

slots : (carrier row : ℕ) → Kind (firing 9 carrier row)
slots carrier row = of (reaches_verified row) refl where
  of : (b : Bool) → reaches_verified row ≡ b → Kind (firing 9 carrier row)
  of true is = inr (inl is)
  of false is = inl (ap (λ (b : Bool). not b || false) is)

-- so is each that leaves the jobs
kind : (number : ℕ) (counted : ℕ → Bool) (before f : ToolFloor) (x : Firing) → floor_starts x f ≡ true → is_common x ≡ true → leaves_jobs number counted before x ≡ true → Kind x
kind number counted before f x starts common leaves =
    starts_cases (λ (y : Firing). is_common y ≡ true → leaves_jobs number counted before y ≡ true → Kind y) f x (record {
      transfer = λ s c l. inl c;
      access = λ s c l. inl refl;
      reservation = λ s c l. inl refl;
      association = λ s c l. inl c;
      id = λ s c l. inl refl;
      map = λ s c l. slots x.object x.row.row;
      accessing = λ s c l. inl (sym (or-false (not (x.row.row == 4))) ∙ c);
      location = λ s c l. inl refl;
      transport = λ s c l. absurd (true≢false (sym l));
      processing = λ s c l. absurd (true≢false (sym l));
      process_job = λ s c l. absurd (true≢false (sym l));
      control_job = λ s c l. absurd (true≢false (sym l));
      move = λ s c l. inr (inr l);
    }) starts common leaves

-- ---- as an input comes

module _ (number : ℕ) (planned : ℕ → List (List ℕ)) (counted : ℕ → Bool) (before f : ToolFloor) (sound : Sound f) where
  goes_on : (g : ToolFloor) → (AtWork number planned counted before.jobs f → WorksOn number planned counted before.jobs f g) → (Disturbed number counted before f → Disturbed number counted before g) → WorksOrIsDisturbed number planned counted before f → WorksOrIsDisturbed number planned counted before g
  goes_on g work stays (inl w) = let on = work w.0 in inl (on.0, on.2 ∙ w.1)
  goes_on g work stays (inr d) = inr (stays d)

  -- a row that an input fires alone and that leaves the jobs
  pub row-goes : (x : Firing) → floor_starts x f ≡ true → is_common x ≡ true → leaves_jobs number counted before x ≡ true → WorksOrIsDisturbed number planned counted before f → WorksOrIsDisturbed number planned counted before (floor_fired x f)
  row-goes x starts common leaves =
      goes_on (floor_fired x f) (λ e. row-works number planned counted f sound e x starts (kind number counted before f x starts common leaves)) (λ d. disturbed-row number counted before f d x starts leaves)

  -- a command is fetched
  pub fetched-goes : (m : ℕ) → WorksOrIsDisturbed number planned counted before f → WorksOrIsDisturbed number planned counted before (fetched m f)
  fetched-goes m = goes_on (fetched m f) (λ e. fetched-works number planned counted f e m) (λ d. disturbed-fetched number counted before f m d)

  -- the host writes of a carrier
  pub written-goes : (a : CarrierAction) → is_done_code (carrier_code f.shop a) ≡ true → WorksOrIsDisturbed number planned counted before f → WorksOrIsDisturbed number planned counted before (with_shop (carrier_written a f.shop) f)
  written-goes a code = goes_on (with_shop (carrier_written a f.shop) f) (λ e. written-works number planned counted f sound e a code) (λ d. disturbed-shop number counted before f (carrier_written a f.shop) d)

  -- CancelCarrier of a carrier that no process job names
  pub cancelled-goes : (n : ℕ) (c : Carrier) → carrier_numbered n f.shop.carriers ≡ Some c → is_any_of_carrier c.name f.jobs ≡ false → WorksOrIsDisturbed number planned counted before f → WorksOrIsDisturbed number planned counted before (floor_fired (firing 10 n 4) f)
  cancelled-goes n c known unnamed =
      goes_on (floor_fired (firing 10 n 4) f) (λ e. cancelled-works number planned counted f sound e n c known unnamed) (λ d. disturbed-shop number counted before f (with_carrier n (carriers.fires_row 10 4) f.shop) d)

  -- a binding is cancelled
  pub unbinding-goes : (port : ℕ) → floor_starts (firing 7 port 2) f ≡ true → ((name : List ℕ) → owner (port_numbered port f.shop.ports) ≡ Some name → NonePresent name f.shop.carriers) → WorksOrIsDisturbed number planned counted before f
      → WorksOrIsDisturbed number planned counted before (floor_fired (firing 7 port 2) f)
  unbinding-goes port starts none = goes_on (floor_fired (firing 7 port 2) f) (λ e. unbinding-works number planned counted f sound e port starts none) (λ d. disturbed-shop number counted before f (shop.floor_fired (firing 7 port 2) f.shop) d)

  -- a carrier is placed
  pub placing-goes : (port : ℕ) (name : Option (List ℕ)) (slots : List ℕ) → floor_starts (firing 4 port 3) f ≡ true → WorksOrIsDisturbed number planned counted before f
      → WorksOrIsDisturbed number planned counted before (floor_fired (firing 4 port 3) (with_shop (came port (arrival_of port name slots f.shop.carriers) f.shop) f))
  placing-goes port name slots starts =
      goes_on (floor_fired (firing 4 port 3) (with_shop (came port (arrival_of port name slots f.shop.carriers) f.shop) f)) (λ e. placing-works number planned counted f sound e port name slots starts)
      (λ d. disturbed-shop number counted before f (shop.floor_fired (firing 4 port 3) (came port (arrival_of port name slots f.shop.carriers) f.shop)) d)

  -- a carrier is removed from a port to which none belongs
  pub removal_left-goes : (port : ℕ) → floor_starts (firing 4 port 5) f ≡ true → WorksOrIsDisturbed number planned counted before f → WorksOrIsDisturbed number planned counted before (floor_fired (firing 4 port 5) f)
  removal_left-goes port starts = goes_on (floor_fired (firing 4 port 5) f) (λ e. vacated-works number planned counted f sound e port starts) (λ d. disturbed-shop number counted before f (shop.floor_fired (firing 4 port 5) f.shop) d)

-- where it executes, and a carrier is removed with its substrates, it is at work still
pub removal-goes : (number : ℕ) (planned : ℕ → List (List ℕ)) (counted : ℕ → Bool) (f : ToolFloor) → Sound f → Executes number planned counted f → (port : ℕ) → floor_starts (firing 4 port 5) f ≡ true → floor_starts (firing 7 port 6) (floor_fired (firing 4 port 5) f) ≡ true
    → shop.floor_least f.shop ≡ None → WorksOrIsDisturbed number planned counted f (floor_fired (firing 7 port 6) (floor_fired (firing 4 port 5) f))
removal-goes number planned counted f sound e port starts next rests = let on = removed-works number planned counted port f sound (at_work_of number planned counted f e) starts next rests in inl (on.0, on.2)
