-- The rows that inputs list are such as inputs fire.
use Rattle.std.proofs.Common.{◌≡◌, ℕ, true, if◌then◌else◌, List, [], ◌∷◌, ◌++◌, Option, Some, None, refl, sym, subst}
use Rattle.gem_tables.specs.Table.{firing}
use Rattle.gem_tables.specs.declared.firing.Firing.{Firing}
use Rattle.gem_tables.proofs.Rows.{one_of_cases}
use Rattle.carrier.specs.declared.carrier.Carrier.{Carrier}
use Rattle.carrier.specs.declared.action.CarrierAction.{CarrierAction}
use Rattle.carrier.specs.declared.action.CarrierWord.{CarrierWord}
use Rattle.carrier.specs.declared.action.CarrierWord.TheVariants as word
use Rattle.carrier.specs.Record.{is_id_waiting, is_map_waiting}
use Rattle.carrier.specs.Carriers.{is_known, carrier_named}
use Rattle.load_port.specs.Caack.{is_done_code}
use Rattle.message_model.specs.ShopPrimaries.{Message, S3F17, S3F25, S3F27, S14F9, S16F5, S16F11, S16F17, S16F19, S16F21, S16F27}
use Rattle.load_port.specs.declared.action.PortAction.TheVariants as ask
use Rattle.load_port.specs.Caack.{caack_number}
use Rattle.message_model.specs.declared.shop_reply.ShopReply.TheVariants as reply
use Rattle.shop_floor.specs.Floor.{Floor}
use Rattle.shop_floor.specs.Requests.{at_port, creation_of, proceeding, cancelling, word_rows, carrier_rows}
use Rattle.tool_tasks.specs.declared.task.Task.{Task}
use Rattle.tool_tasks.specs.declared.task.Task.TheVariants as task
use Rattle.robot_moves.specs.declared.module.Module.{Module}
use Rattle.robot_moves.specs.declared.module.Module.TheVariants.{Idle, Busy, Down}
use Rattle.robot_moves.specs.Modules.{module_at}
use Rattle.floor_model.specs.Floor.{ToolFloor, substrate_numbered}
use Rattle.floor_model.specs.Modules.{number_named}
use Rattle.floor_model.specs.Views.{goes_on}
use Rattle.floor_model.specs.Signals.{done_row, at_module, at_processed, processed_rows, is_of_aborting, done_processing, at_done, done_processed, done_at, done_rows, closing_at, closing_rows, can_be_lost, lost_at, lost_rows}
use Rattle.gem_model.specs.State.{State}
use Rattle.gem_model.specs.Direct.{Are}
use Rattle.gem_model.specs.HostMessages.{HostMessage, Gem, Shop}
use Rattle.gem_model.specs.Shop.{carrier_action, carrier_caack, port_word, port_caack}
use Rattle.gem_model.specs.Messages.{done, gem_done, shop_done}
use Rattle.gem_model.proofs.Tests.{either_way}
use Rattle.gem_model.proofs.FloorRows.{IsOfInput, input_line, input_transfer, input_access, input_reservation, input_binding, input_name, input_map, input_process, input_control, input_module}
use Rattle.history_laws.proofs.CommonRows.{free_input, end_input}
use Rattle.gem_model.proofs.Listed.{IsFree, IsEnd, are_both, free_gem, free_port, free_jobs}
use Rattle.history_laws.proofs.CalmRows.{is_input}

-- an input fires it
abbrev pub IsInput : Firing → Type 0
IsInput x = is_input x ≡ true

abbrev pub AreInputs : List Firing → Type 0
AreInputs xs = Are IsInput xs

-- ---- those that are listed alone

input_so : {x y : Firing} → x ≡ y → is_input y ≡ true → is_input x ≡ true
input_so same is = subst (λ (z : Firing). is_input z ≡ true) (sym same) is

of_input : (x : Firing) → IsOfInput x → IsInput x
of_input x (input_line is) = one_of_cases (λ (t : ℕ). is_input (firing t x.object x.row.row) ≡ true) (1 ∷ 2 ∷ 3 ∷ []) x.row.table (refl, (refl, (refl, tt))) is
of_input x (input_transfer n row is same) = input_so same refl
of_input x (input_access n row same) = input_so same refl
of_input x (input_reservation n row same) = input_so same refl
of_input x (input_binding n same) = input_so same refl
of_input x (input_name n row is same) = input_so same refl
of_input x (input_map n row is same) = input_so same refl
of_input x (input_process n row is same) = input_so same is
of_input x (input_control n row is same) = input_so same is
of_input x (input_module n same) = input_so same refl

all : (Is : Firing → Type 0) → ((x : Firing) → Is x → IsOfInput x) → (xs : List Firing) → Are Is xs → AreInputs xs
all Is input [] are = tt
all Is input (x ∷ xs) are = (of_input x (input x are.0), all Is input xs are.1)

pub free_inputs : (xs : List Firing) → Are IsFree xs → AreInputs xs
free_inputs xs are = all IsFree free_input xs are

pub end_inputs : (xs : List Firing) → Are IsEnd xs → AreInputs xs
end_inputs xs are = all IsEnd end_input xs are

-- ---- the equipment

pub placing_inputs : (port : ℕ) → AreInputs (at_port 4 3 port)
placing_inputs port = (refl, tt)

done_one : (n : ℕ) (f : ToolFloor) → IsInput (firing 13 n (done_processing n f))
done_one n f = either_way (λ (row : ℕ). IsInput (firing 13 n row)) (is_of_aborting (substrate_numbered n f.substrates) f) 4 3 refl refl

done_next : (o : Option ℕ) (f : ToolFloor) → AreInputs (at_done o f)
done_next None f = tt
done_next (Some n) f =
    either_way AreInputs (goes_on (substrate_numbered n f.substrates) f) [] (firing 13 n (done_processing n f) ∷ []) tt (done_one n f, tt)

done_task : (number : ℕ) (t : Task) (f : ToolFloor) → AreInputs (at_module (done_row t) number ++ done_processed t f)
done_task number (task.Pick sub from) f = (refl, tt)
done_task number (task.Place sub to) f = (refl, tt)
done_task number (task.Align sub) f = (refl, tt)
done_task number (task.Process sub recipe) f = (refl, done_next (number_named sub f.places) f)

done_module : (number : ℕ) (o : Option Module) (f : ToolFloor) → AreInputs (done_at number o f)
done_module number None f = tt
done_module number (Some Idle) f = tt
done_module number (Some Down) f = tt
done_module number (Some (Busy c fetched)) f = done_task number c.task f

pub done_inputs : (number : ℕ) (f : ToolFloor) → AreInputs (done_rows number f)
done_inputs number f = done_module number (module_at number f.modules) f

closing_next : (o : Option ℕ) → AreInputs (at_processed 4 o)
closing_next None = tt
closing_next (Some n) = (refl, tt)

closing_task : (t : Task) (f : ToolFloor) → AreInputs (processed_rows 4 t f)
closing_task (task.Pick sub from) f = tt
closing_task (task.Place sub to) f = tt
closing_task (task.Align sub) f = tt
closing_task (task.Process sub recipe) f = closing_next (number_named sub f.places)

closing_module : (row number : ℕ) → IsInput (firing 16 number row) → (o : Option Module) (f : ToolFloor) → AreInputs (closing_at row number o f)
closing_module row number is None f = (is, tt)
closing_module row number is (Some Idle) f = (is, tt)
closing_module row number is (Some Down) f = (is, tt)
closing_module row number is (Some (Busy c fetched)) f = (is, closing_task c.task f)

pub failed_inputs : (number : ℕ) (f : ToolFloor) → AreInputs (closing_rows 8 number f)
failed_inputs number f = closing_module 8 number refl (module_at number f.modules) f

pub down_inputs : (number : ℕ) (f : ToolFloor) → AreInputs (closing_rows 9 number f)
down_inputs number f = closing_module 9 number refl (module_at number f.modules) f

lost_one : (o : Option ℕ) (f : ToolFloor) → AreInputs (lost_at o f)
lost_one None f = tt
lost_one (Some n) f = either_way AreInputs (can_be_lost (substrate_numbered n f.substrates) f) (firing 13 n 8 ∷ []) [] (refl, tt) tt

pub lost_inputs : (sub : List ℕ) (f : ToolFloor) → AreInputs (lost_rows sub f)
lost_inputs sub f = lost_one (number_named sub f.places) f

-- ---- messages

creation_inputs : (name : List ℕ) (f : Floor) → AreInputs (creation_of name f)
creation_inputs name f = either_way AreInputs (is_known name f.carriers) [] (firing 8 f.next_carrier 1 ∷ []) tt (refl, tt)

proceeding_inputs : (o : Option Carrier) → AreInputs (proceeding o)
proceeding_inputs None = tt
proceeding_inputs (Some c) = either_way AreInputs (is_id_waiting c.states.id) (firing 8 c.number 4 ∷ []) (firing 9 c.number 3 ∷ []) (refl, tt) (refl, tt)

cancelling_inputs : (o : Option Carrier) → AreInputs (cancelling o)
cancelling_inputs None = tt
cancelling_inputs (Some c) =
    either_way AreInputs (is_id_waiting c.states.id) (firing 8 c.number 5 ∷ []) (if is_map_waiting c.states.map then firing 9 c.number 4 ∷ [] else firing 10 c.number 4 ∷ []) (refl, tt)
    (either_way AreInputs (is_map_waiting c.states.map) (firing 9 c.number 4 ∷ []) (firing 10 c.number 4 ∷ []) (refl, tt) (refl, tt))

word_inputs : (w : CarrierWord) (a : CarrierAction) (f : Floor) → AreInputs (word_rows w a f)
word_inputs word.Bind a f = are_both IsInput (creation_of a.id f) (at_port 6 1 a.port ++ at_port 7 1 a.port) (creation_inputs a.id f) (refl, (refl, tt))
word_inputs word.CancelBind a f = (refl, (refl, tt))
word_inputs word.Proceed a f = proceeding_inputs (carrier_named a.id f.carriers)
word_inputs word.Cancel a f = cancelling_inputs (carrier_named a.id f.carriers)
word_inputs word.Notify a f = creation_inputs a.id f
word_inputs word.CancelNotify a f = tt
word_inputs word.Unknown a f = tt

action_inputs : (a : CarrierAction) (g : State) → AreInputs (if is_done_code (carrier_caack a g) then carrier_rows a g.floor.shop else [])
action_inputs a g = either_way AreInputs (is_done_code (carrier_caack a g)) (carrier_rows a g.floor.shop) [] (word_inputs a.word a g.floor.shop) tt

shop_inputs : (m : Message) (g : State) → AreInputs (shop_done g m).rows
shop_inputs (S3F17 dataid action carrier number attributes) g = action_inputs (carrier_action action carrier number attributes) g
shop_inputs (S3F25 action number value) g =
    let code = port_caack (port_word action number) g in
    free_inputs (shop_done g (S3F25 action number value)).rows (free_port (port_word action number) g (reply.S3F26 (caack_number code)) code)
shop_inputs (S3F27 mode numbers) g =
    let code = port_caack (ask.Access mode numbers) g in
    free_inputs (shop_done g (S3F27 mode numbers)).rows (free_port (ask.Access mode numbers) g (reply.S3F28 (caack_number code)) code)
shop_inputs (S14F9 object type attributes) g = free_inputs (shop_done g (S14F9 object type attributes)).rows (free_jobs (S14F9 object type attributes) g refl)
shop_inputs (S16F5 dataid job command value) g = free_inputs (shop_done g (S16F5 dataid job command value)).rows (free_jobs (S16F5 dataid job command value) g refl)
shop_inputs (S16F11 dataid job material recipe start events) g =
    free_inputs (shop_done g (S16F11 dataid job material recipe start events)).rows (free_jobs (S16F11 dataid job material recipe start events) g refl)
shop_inputs (S16F17 jobs) g = free_inputs (shop_done g (S16F17 jobs)).rows (free_jobs (S16F17 jobs) g refl)
shop_inputs S16F19 g = tt
shop_inputs S16F21 g = tt
shop_inputs (S16F27 job command value) g = free_inputs (shop_done g (S16F27 job command value)).rows (free_jobs (S16F27 job command value) g refl)

pub message_inputs : (m : HostMessage) (g : State) → AreInputs (done g m).rows
message_inputs (Gem m) g = free_inputs (gem_done g m).rows (free_gem m g)
message_inputs (Shop m) g = shop_inputs m g
