-- What is done of an action on a carrier is done also where no process job names the carrier.
use Rattle.std.proofs.Common.{◌≡◌, ℕ, nat_lt, length, Bool, true, false, not, ◌&&◌, ◌||◌, if◌then◌else◌, List, map, Option, Some, None, refl}
use Rattle.load_port.specs.declared.action.PortView.{PortView}
use Rattle.load_port.specs.declared.caack.Caack.{Caack}
use Rattle.load_port.specs.declared.caack.Caack.TheVariants as caack
use Rattle.load_port.specs.Caack.{is_done_code}
use Rattle.load_port.specs.Ports.{view_of}
use Rattle.carrier.specs.declared.action.CarrierAction.{CarrierAction}
use Rattle.carrier.specs.declared.action.CarrierWord.{CarrierWord}
use Rattle.carrier.specs.declared.action.CarrierWord.TheVariants as word
use Rattle.carrier.specs.declared.carrier.Carrier.{Carrier}
use Rattle.carrier.specs.Record.{is_id_waiting, is_map_waiting, is_map_verified, is_not_accessed}
use Rattle.carrier.specs.Carriers.{carrier_named}
use Rattle.carrier.specs.Verdict.{is_carrier_name, cancel_code, carrier_caack}
use Rattle.shop_floor.specs.Requests.{carrier_code as code_alone}
use Rattle.floor_model.specs.Floor.{ToolFloor}
use Rattle.floor_model.specs.Jobs.{carrier_code, is_any_of_carrier}

-- CancelCarrier that is done where a job may name the carrier is done where none does
cancelled : (o : Option Carrier) (named : Bool) → is_done_code (cancel_code o named) ≡ true → is_done_code (cancel_code o false) ≡ true
cancelled None named e = absurd (cc)
cancelled (Some c) named e = of (is_id_waiting c.states.id) (is_map_waiting c.states.map) (is_map_verified c.states.map) (is_not_accessed c.states.access) named e where
  of : (a b d g h : Bool) → is_done_code (if a || (b || (d && (g && not h))) then caack.Done else caack.Impossible) ≡ true → is_done_code (if a || (b || (d && (g && not false))) then caack.Done else caack.Impossible) ≡ true
  of true b d g h e = refl
  of false true d g h e = refl
  of false false true true h e = refl
  of false false true false h e = e
  of false false false g h e = e

-- what is done where the parts are well formed
where_formed : (x : Bool) (m n : Caack) → (is_done_code m ≡ true → is_done_code n ≡ true) → is_done_code (if x then caack.Faulty else m) ≡ true → is_done_code (if x then caack.Faulty else n) ≡ true
where_formed true m n on e = e
where_formed false m n on e = on e

-- an action of these parts
abbrev action : CarrierWord → List ℕ → ℕ → Option (List ℕ) → Bool → CarrierAction
action w id port slots bad = record { word = w; id = id; port = port; map = slots; bad_attr = bad }

word_done : (w : CarrierWord) (id : List ℕ) (port : ℕ) (slots : Option (List ℕ)) (bad : Bool) (cs : List Carrier) (ports : List PortView) (named : Bool)
    → is_done_code (carrier_caack cs ports (action w id port slots bad) named) ≡ true → is_done_code (carrier_caack cs ports (action w id port slots bad) false) ≡ true
word_done word.Bind id port slots bad cs ports named e = e
word_done word.CancelBind id port slots bad cs ports named e = e
word_done word.Proceed id port slots bad cs ports named e = e
word_done word.Cancel id port slots bad cs ports named e =
    where_formed (bad || (not (is_carrier_name id) || nat_lt (length ports) port)) (cancel_code (carrier_named id cs) named) (cancel_code (carrier_named id cs) false)
    (cancelled (carrier_named id cs) named) e
word_done word.Notify id port slots bad cs ports named e = e
word_done word.CancelNotify id port slots bad cs ports named e = e
word_done word.Unknown id port slots bad cs ports named e = e

-- so does each action
pub done_by_jobs : (a : CarrierAction) (f : ToolFloor) → is_done_code (carrier_code a f) ≡ true → is_done_code (code_alone f.shop a) ≡ true
done_by_jobs a f e = word_done a.word a.id a.port a.map a.bad_attr f.shop.carriers (map view_of f.shop.ports) (is_any_of_carrier a.id f.jobs) e
