-- While work is left where a history leads, and no module is Down, a command is open.
use Rattle.std.proofs.Common.{◌≡◌, ◌≤◌, true, false, List}
use Rattle.load_port.specs.Ports.{most_ports}
use Rattle.tool_events.specs.declared.config.Config.{Config}
use Rattle.tool_events.specs.declared.entry.Entry.{Entry}
use Rattle.shop_floor.specs.Floor.{arrival_of}
use Rattle.shop_floor.specs.Requests.{came, carrier_written}
use Rattle.tool_events.specs.Configs.{are_usable}
use Rattle.work_laws.specs.Equipped.{most_chambers, Equipped}
use Rattle.work_laws.specs.Work.{is_work_left, is_any_down, is_any_open}
use Rattle.work_laws.proofs.Staying.{opening_equipped, row_equipped, fetched_equipped, shop_equipped, created_equipped, control_equipped}
use Rattle.work_laws.proofs.Working.{open_while_work}
use Rattle.gem_model.specs.State.{State, opening}
use Rattle.gem_model.specs.Run.{Run}
use Rattle.gem_model.proofs.EachFloor.{EachOnFloor, run_holds}
use Rattle.history_laws.proofs.Placed.{Rests, run_at}

-- what the tool has for its process jobs stays
pub equipped_each : EachOnFloor Equipped
equipped_each = record {
  row = λ x f starts has. row_equipped x f has;
  fetched = λ number f has. fetched_equipped number f has;
  came = λ port name slots f has. shop_equipped (came port (arrival_of port name slots f.shop.carriers) f.shop) f has;
  written = λ a f is has. shop_equipped (carrier_written a f.shop) f has;
  process = λ spec f faultless has. created_equipped f spec faultless has;
  control = λ s f becomes has. control_equipped f s has;
}

-- so it has it where a history leads, where each step of each recipe of the configuration has a chamber of the tool
pub run-equipped : (c : Config) (entries : List Entry) (h : State) → c.chambers ≤ most_chambers → are_usable c.chambers c.recipes ≡ true → Run (opening c) entries h → Equipped h.floor
run-equipped c entries h chambers usable run = run_holds Equipped equipped_each (opening c) entries h (opening_equipped c.ports c.chambers c.recipes chambers usable) run

-- so a command is open there while work is left
pub run-works : (c : Config) (entries : List Entry) (h : State) → c.ports ≤ most_ports → c.chambers ≤ most_chambers → are_usable c.chambers c.recipes ≡ true → Run (opening c) entries h
    → is_any_down h.floor.modules ≡ false → is_work_left h.floor ≡ true → is_any_open h.floor.modules ≡ true
run-works c entries h ports chambers usable run up work =
    let rests : Rests h = run_at c entries h ports run in
    let order = rests.order in
    open_while_work h.floor order.sound (run-equipped c entries h chambers usable run) rests.rest up work
