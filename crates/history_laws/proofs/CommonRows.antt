-- Rows that inputs fire by themselves, and those that the ends of transactions and S3F17 list.
use Rattle.std.proofs.Common.{◌≡◌, ℕ, Bool, true, false, ◌||◌, if◌then◌else◌, List, [], ◌∷◌, Option, Some, None, refl, ◌∙◌, ap, not, nat_lt, length, map}
use Rattle.gem_tables.specs.Table.{firing}
use Rattle.gem_tables.proofs.Rows.{one_of_cases}
use Rattle.gem_tables.specs.declared.firing.Firing.{Firing}
use Rattle.load_port.specs.Ports.{port_numbered, view_of}
use Rattle.carrier.specs.declared.carrier.Carrier.{Carrier}
use Rattle.carrier.specs.Record.{is_id_waiting}
use Rattle.carrier.specs.Carriers.{is_known, carrier_named}
use Rattle.shop_floor.specs.Floor.{Floor}
use Rattle.shop_floor.specs.Rows.{owner}
use Rattle.shop_floor.specs.Requests.{creation_of, proceeding}
use Rattle.floor_model.specs.Floor.{ToolFloor}
use Rattle.floor_model.specs.Machines.{floor_fired}
use Rattle.place_laws.proofs.Stays.{NonePresent}
use Rattle.floor_laws.specs.Rows.{is_common}
use Rattle.carrier.specs.Verdict.{is_carrier_name, cancel_code, carrier_caack}
use Rattle.load_port.specs.Caack.{is_done_code}
use Rattle.load_port.specs.declared.action.PortView.{PortView}
use Rattle.floor_model.specs.Jobs.{carrier_code, is_any_of_carrier}
use Rattle.load_port.specs.declared.caack.Caack.{Caack}
use Rattle.load_port.specs.declared.caack.Caack.TheVariants as caack
use Rattle.carrier.specs.declared.action.CarrierAction.{CarrierAction}
use Rattle.carrier.specs.declared.action.CarrierWord.{CarrierWord}
use Rattle.carrier.specs.declared.action.CarrierWord.TheVariants as word
use Rattle.gem_model.specs.State.{State}
use Rattle.gem_model.specs.Fire.{fire, fire_all, advanced}
use Rattle.gem_model.specs.Machines.{creations}
use Rattle.gem_model.specs.Direct.{Are}
use Rattle.gem_model.proofs.Tests.{either_way}
use Rattle.gem_model.proofs.FloorRows.{IsFloorRow, IsOfInput, input_line, input_transfer, input_access, input_reservation, input_binding, input_name, input_map, input_process, input_control, input_module, effect_is}
use Rattle.gem_model.proofs.Listed.{IsFree, free_enabled, free_met, free_attempted, free_off_line, free_elsewhere, free_unload, free_purge, free_floor, IsEnd}
use Rattle.place_laws.proofs.PortRequests.{action}

common_so : {f x : Firing} → is_common x ≡ true → f ≡ x → is_common f ≡ true
common_so is same = rw same is

-- what inputs fire by themselves is none of what they fire together
pub input_common : (f : Firing) → IsOfInput f → is_common f ≡ true
input_common f (input_line is) = one_of_cases (λ (t : ℕ). is_common (firing t f.object f.row.row) ≡ true) (1 ∷ 2 ∷ 3 ∷ []) f.row.table (refl, (refl, (refl, tt))) is
input_common f (input_transfer n row is same) = common_so (one_of_cases (λ (r : ℕ). is_common (firing 4 n r) ≡ true) (1 ∷ 2 ∷ []) row (refl, (refl, tt)) is) same
input_common f (input_access n row same) = common_so refl same
input_common f (input_reservation n row same) = common_so refl same
input_common f (input_binding n same) = common_so refl same
input_common f (input_name n row is same) = common_so refl same
input_common f (input_map n row is same) = common_so refl same
input_common f (input_process n row is same) = common_so refl same
input_common f (input_control n row is same) = common_so refl same
input_common f (input_module n same) = common_so refl same

pub free_input : (f : Firing) → IsFree f → IsOfInput f
free_input f (free_enabled same) = input_line (rw same refl)
free_input f (free_met same) = input_line (rw same refl)
free_input f (free_attempted same) = input_line (rw same refl)
free_input f (free_off_line same) = input_line (rw same refl)
free_input f (free_elsewhere row never alone same) = input_line (rw same refl)
free_input f (free_unload same) = input_line (rw same refl)
free_input f (free_purge same) = input_line (rw same refl)
free_input f (free_floor floor input) = input

pub end_input : (f : Firing) → IsEnd f → IsOfInput f
end_input f end = input_line end.first_tables

pub is_4 : (n row : ℕ) → IsFloorRow (firing 4 n row)
is_4 n row = record { not_1 = refl; not_2 = refl; not_3 = refl }

pub is_6 : (n row : ℕ) → IsFloorRow (firing 6 n row)
is_6 n row = record { not_1 = refl; not_2 = refl; not_3 = refl }

pub is_7 : (n row : ℕ) → IsFloorRow (firing 7 n row)
is_7 n row = record { not_1 = refl; not_2 = refl; not_3 = refl }

pub is_10 : (n row : ℕ) → IsFloorRow (firing 10 n row)
is_10 n row = record { not_1 = refl; not_2 = refl; not_3 = refl }

-- the floor behind a row that creates nothing
pub advanced_floor : (g : State) (f : Firing) → IsFloorRow f → creations g f ≡ [] → (advanced g f).floor ≡ floor_fired f g.floor
advanced_floor g f floor none = ap (λ (ds : List Firing). (fire_all ds (fire g f)).floor) none ∙ ap (λ (h : State). h.floor) (effect_is g f floor)

abbrev pub AreOfInput : List Firing → Type 0
AreOfInput fs = Are IsOfInput fs

pub created_input : (name : List ℕ) (f : Floor) → AreOfInput (creation_of name f)
created_input name f = either_way AreOfInput (is_known name f.carriers) [] (firing 8 f.next_carrier 1 ∷ []) tt (input_name f.next_carrier 1 refl refl, tt)

pub proceeding_input : (o : Option Carrier) → AreOfInput (proceeding o)
proceeding_input None = tt
proceeding_input (Some c) = either_way AreOfInput (is_id_waiting c.states.id) (firing 8 c.number 4 ∷ []) (firing 9 c.number 3 ∷ []) (input_name c.number 4 refl refl, tt) (input_map c.number 3 refl refl, tt)

-- the carrier that belongs to a port is not present
abbrev pub IsAway : ℕ → ToolFloor → Type 0
IsAway port f = (name : List ℕ) → owner (port_numbered port f.shop.ports) ≡ Some name → NonePresent name f.shop.carriers

-- ---- CancelCarrier

well_formed : (x : Bool) (m : Caack) → is_done_code (if x then caack.Faulty else m) ≡ true → is_done_code m ≡ true
well_formed true m e = absurd (cc)
well_formed false m e = e

cancel_so : (w : CarrierWord) (id : List ℕ) (port : ℕ) (slots : Option (List ℕ)) (bad : Bool) (cs : List Carrier) (ports : List PortView) (named : Bool) → w ≡ word.Cancel
    → is_done_code (carrier_caack cs ports (action w id port slots bad) named) ≡ true → is_done_code (cancel_code (carrier_named id cs) named) ≡ true
cancel_so word.Cancel id port slots bad cs ports named is e = well_formed (bad || (not (is_carrier_name id) || nat_lt (length ports) port)) (cancel_code (carrier_named id cs) named) e
cancel_so _ id port slots bad cs ports named is e = absurd (cc)

-- where it is done, so its code says
pub cancel_done : (a : CarrierAction) (f : ToolFloor) → a.word ≡ word.Cancel → is_done_code (carrier_code a f) ≡ true → is_done_code (cancel_code (carrier_named a.id f.shop.carriers) (is_any_of_carrier a.id f.jobs)) ≡ true
cancel_done a f is e = cancel_so a.word a.id a.port a.map a.bad_attr f.shop.carriers (map view_of f.shop.ports) (is_any_of_carrier a.id f.jobs) is e
