-- The load ports and the carriers stay valid, whatever comes: so at most sixteen carriers are known.
use Rattle.std.proofs.Common.{◌≡◌, ℕ, ◌≤◌, List, length, Some}
use Rattle.load_port.specs.Ports.{most_ports}
use Rattle.carrier.specs.Carriers.{most_carriers}
use Rattle.shop_floor.specs.Floor.{arrival_of}
use Rattle.shop_floor.specs.Valid.{IsFloor}
use Rattle.shop_floor.proofs.Asked.{written-keeps}
use Rattle.shop_floor.proofs.Keeps.{opening-valid, came-keeps}
use Rattle.shop_floor.proofs.Room.{few-carriers}
use Rattle.floor_model.specs.Floor.{ToolFloor}
use Rattle.floor_model.proofs.Asked.{done_by_jobs}
use Rattle.floor_model.proofs.Keeping.{row-keeps}
use Rattle.tool_events.specs.declared.config.Config.{Config}
use Rattle.tool_events.specs.declared.entry.Entry.{Entry}
use Rattle.tool_events.specs.declared.event.Event.{Event}
use Rattle.gem_model.specs.State.{State, opening, raised}
use Rattle.gem_model.specs.Settle.{settling, Along}
use Rattle.gem_model.specs.Step.{Outcome, acts}
use Rattle.gem_model.specs.Run.{Run}
use Rattle.gem_model.proofs.Each.{each_kept}
use Rattle.gem_model.proofs.EachFloor.{EachOnFloor, at_automatic, at_creation, floor_each, run_holds}
use Rattle.gem_model.proofs.Walk.{Any, kept_acts}
use Rattle.gem_model.proofs.Settling.{settled_along}

-- the ports and the carriers of a floor are valid
abbrev IsShop : ToolFloor → Type 0
IsShop f = IsFloor f.shop

-- each row keeps them so
shop_each : EachOnFloor IsShop
shop_each = record {
  row = λ x f starts valid. row-keeps x f starts valid;
  fetched = λ number f valid. valid;
  came = λ port name slots f valid. came-keeps port (arrival_of port name slots f.shop.carriers) f.shop valid;
  written = λ a f is valid. written-keeps a f.shop (done_by_jobs a f is) valid;
  process = λ spec f faultless valid. valid;
  control = λ s f becomes valid. valid;
}

-- those of a state
abbrev Sound : State → Type 0
Sound g = IsFloor g.floor.shop

-- where a history leads, the ports and the carriers are valid
pub run-floor : (c : Config) (entries : List Entry) (h : State) → c.ports ≤ most_ports → Run (opening c) entries h → IsFloor h.floor.shop
run-floor c entries h ports run = run_holds IsShop shop_each (opening c) entries h (opening-valid c.ports ports) run

-- so at most sixteen carriers are known
pub run-carriers : (c : Config) (entries : List Entry) (h : State) → c.ports ≤ most_ports → Run (opening c) entries h → length h.floor.shop.carriers ≤ most_carriers
run-carriers c entries h ports run = few-carriers h.floor.shop (run-floor c entries h ports run)

-- and they are valid in each state that the tool passes while it settles behind an event
pub run-floor-along : (c : Config) (entries : List Entry) (h : State) (at : ℕ) (e : Event) (o : Outcome) → c.ports ≤ most_ports → Run (opening c) entries h → acts h.moment (raised h at) e ≡ Some o → Along (λ (g : State). IsFloor g.floor.shop) o.after (settling o.after)
run-floor-along c entries h at e o ports run here =
    settled_along Sound Sound (λ g valid. valid) (at_automatic IsShop shop_each) (at_creation IsShop shop_each) o.after
    (kept_acts Any Sound (each_kept Sound (floor_each IsShop shop_each)) h.moment (raised h at) e o tt (run-floor c entries h ports run) here)
