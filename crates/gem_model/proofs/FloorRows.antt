-- The rows of the load ports and the carriers: what they leave alone, whether an input fires them or they fire by themselves.
use Rattle.std.proofs.Common.{◌≡◌, ℕ, ◌+◌, ◌*◌, ◌==◌, Bool, true, false, if◌then◌else◌, List, [], ◌∷◌, ◌++◌, Option, Some, None, refl, sym, subst, ◌∙◌, Result, Ok, Err}
use Rattle.gem_tables.specs.Table.{firing, is_one_of}
use Rattle.gem_tables.specs.declared.firing.Firing.{Firing}
use Rattle.gem_rows.specs.Events.{ceid_of}
use Rattle.shop_floor.specs.Floor.{Floor}
use Rattle.floor_model.specs.Floor.{ToolFloor}
use Rattle.shop_floor.specs.Requests.{at_port, at_ports, creation_of, unbinding, proceeding, cancelling, port_number_of, word_rows, carrier_rows, port_rows, mode_row, or_all, removal}
use Rattle.carrier.specs.declared.carrier.Carrier.{Carrier}
use Rattle.carrier.specs.declared.action.CarrierAction.{CarrierAction}
use Rattle.carrier.specs.declared.action.CarrierWord.{CarrierWord}
use Rattle.carrier.specs.declared.action.CarrierWord.TheVariants as word
use Rattle.carrier.specs.Record.{is_id_waiting, is_map_waiting}
use Rattle.carrier.specs.Carriers.{is_known, carrier_named}
use Rattle.load_port.specs.declared.caack.Caack.{Caack}
use Rattle.load_port.specs.Caack.{caack_number, is_done_code}
use Rattle.load_port.specs.declared.action.PortAction.{PortAction}
use Rattle.load_port.specs.declared.action.PortAction.TheVariants as ask
use Rattle.message_model.specs.ShopPrimaries.{Message, S3F17, S3F25, S3F27, S14F9, S16F5, S16F11, S16F17, S16F19, S16F21, S16F27}
use Rattle.message_model.specs.declared.shop_reply.ShopReply.{ShopReply}
use Rattle.message_model.specs.declared.shop_reply.ShopReply.TheVariants as reply
use Rattle.tool_tasks.specs.declared.words.JobWord.{JobWord}
use Rattle.tool_tasks.specs.declared.words.JobWord.TheVariants.{Cancel}
use Rattle.process_job.specs.Commands.{row_of}
use Rattle.process_job.specs.Jobs.{job_named as process_named}
use Rattle.process_job.specs.declared.job.ProcessJob.{ProcessJob}
use Rattle.control_job.specs.Commands.{command_answer}
use Rattle.control_job.specs.Jobs.{job_named as control_named}
use Rattle.control_job.specs.declared.command.CtlAct.{CtlAct}
use Rattle.control_job.specs.declared.command.CtlAct.TheVariants.{Row, Head}
use Rattle.control_job.specs.declared.job.ControlJob.{ControlJob}
use Rattle.tool_jobs.specs.Jobs.{Jobs}
use Rattle.request_model.specs.declared.error.JobError.{JobError}
use Rattle.request_model.specs.Requests.{command_named, command_error, command_rows, asked_process, process_error, process_rows, asked_control, request_error, control_rows, cancel_error, cancelled, cancel_rows, control_command_error, control_command_rows, at_process, at_control}
use Rattle.gem_model.specs.Remote.{is_local}
use Rattle.gem_model.specs.JobMessages.{jobs_of, asked_of_jobs, rows_of_command}
use Rattle.gem_model.specs.Shop.{carrier_action, port_word, carrier_caack, port_caack}
use Rattle.gem_model.specs.Messages.{carrier_done, port_done, shop_done}
use Rattle.gem_model.specs.State.{State, is_online}
use Rattle.gem_model.specs.Values.{Occasion}
use Rattle.gem_model.specs.Machines.{creations, fire_floor, object_name, row_starts, takes_effect}
use Rattle.gem_model.specs.Noting.{line_behind}
use Rattle.gem_model.specs.Fire.{fire, fire_all, advanced}
use Rattle.gem_model.specs.Direct.{Are}
use Rattle.floor_model.specs.Floor.{substrate_numbered}
use Rattle.floor_model.specs.Modules.{number_named}
use Rattle.floor_model.specs.Views.{goes_on}
use Rattle.robot_moves.specs.Modules.{module_at}
use Rattle.tool_tasks.specs.declared.task.Task.{Task}
use Rattle.tool_tasks.specs.declared.task.Task.TheVariants as task
use Rattle.floor_model.specs.Signals.{at_module, at_processed, processed_rows, done_processing, at_done, done_processed, done_at, done_rows, done_row, closing_at, closing_rows, can_be_lost, lost_at, lost_rows}
use Rattle.floor_model.specs.Machines.{floor_starts, creation_rows, is_creation, floor_least, object_name as floor_object}
use Rattle.floor_model.proofs.Keeping as keeping
use Rattle.floor_model.proofs.Keeping.{AreCreations, creation_not, creation_last, not_table_1, not_table_2, not_table_3}
use Rattle.robot_moves.specs.declared.module.Module.{Module}
use Rattle.robot_moves.specs.declared.module.Module.TheVariants.{Idle, Busy, Down}
use Rattle.gem_model.proofs.OnFloor.{starts_as, effect_as, creations_as, object_as}
use Rattle.gem_model.proofs.Tests.{either_way}

-- a row of tables 4 to 10 and 16
pub record IsFloorRow (f : Firing) : Type 0 where
  pub not_1 : (f.row.table == 1) ≡ false
  pub not_2 : (f.row.table == 2) ≡ false
  pub not_3 : (f.row.table == 3) ≡ false

abbrev pub AreFloorRows : List Firing → Type 0
AreFloorRows fs = Are IsFloorRow fs

-- a row that an input fires by itself, and keeps what holds of the floor wherever it starts: one of tables 1 to 3, or of the floor these
pub data IsOfInput (x : Firing) : Type 0 where
  input_line : is_one_of (1 ∷ 2 ∷ 3 ∷ []) x.row.table ≡ true → IsOfInput x
  input_transfer : (n row : ℕ) → is_one_of (1 ∷ 2 ∷ []) row ≡ true → x ≡ firing 4 n row → IsOfInput x
  input_access : (n row : ℕ) → x ≡ firing 5 n row → IsOfInput x
  input_reservation : (n row : ℕ) → x ≡ firing 6 n row → IsOfInput x
  input_binding : (n : ℕ) → x ≡ firing 7 n 1 → IsOfInput x
  input_name : (n row : ℕ) → is_one_of (1 ∷ 4 ∷ 5 ∷ []) row ≡ true → x ≡ firing 8 n row → IsOfInput x
  input_map : (n row : ℕ) → is_one_of (3 ∷ 4 ∷ []) row ≡ true → x ≡ firing 9 n row → IsOfInput x
  input_process : (n row : ℕ) → is_one_of (1 ∷ 5 ∷ 8 ∷ 10 ∷ 11 ∷ 12 ∷ 15 ∷ []) row ≡ true → x ≡ firing 14 n row → IsOfInput x
  input_control : (n row : ℕ) → is_one_of (1 ∷ 5 ∷ 6 ∷ 7 ∷ 9 ∷ 10 ∷ 11 ∷ 12 ∷ []) row ≡ true → x ≡ firing 15 n row → IsOfInput x
  input_module : (n : ℕ) → x ≡ firing 16 n 10 → IsOfInput x

pub effect_is : (g : State) (f : Firing) → IsFloorRow f → takes_effect g f ≡ fire_floor f g
effect_is g f is = effect_as g f ∙ rw (is.not_1, is.not_2, is.not_3) refl

pub starts_is : (g : State) (f : Firing) → IsFloorRow f → row_starts g f ≡ floor_starts f g.floor
starts_is g f is = starts_as g f ∙ rw (is.not_1, is.not_2, is.not_3) refl

pub creations_is : (g : State) (f : Firing) → IsFloorRow f → creations g f ≡ creation_rows f g.floor
creations_is g f is = creations_as g f ∙ rw (is.not_1, is.not_2, is.not_3) refl

pub object_is : (g : State) (f : Firing) → IsFloorRow f → object_name g f ≡ floor_object f g.floor
object_is g f is = object_as g f ∙ rw (is.not_1, is.not_2, is.not_3) refl

-- those that are ready by themselves are such rows
pub ready_is : (g : State) (f : Firing) → floor_least g.floor ≡ Some f → IsFloorRow f
ready_is g f ready = record { not_1 = not_table_1 g.floor f ready; not_2 = not_table_2 g.floor f ready; not_3 = not_table_3 g.floor f ready }

pub both_are : (fs gs : List Firing) → AreFloorRows fs → AreFloorRows gs → AreFloorRows (fs ++ gs)
both_are [] gs first next = next
both_are (f ∷ fs) gs first next = (first.0, both_are fs gs first.1 next)

is_4 : (n row : ℕ) → IsFloorRow (firing 4 n row)
is_4 n row = record { not_1 = refl; not_2 = refl; not_3 = refl }

is_5 : (n row : ℕ) → IsFloorRow (firing 5 n row)
is_5 n row = record { not_1 = refl; not_2 = refl; not_3 = refl }

is_6 : (n row : ℕ) → IsFloorRow (firing 6 n row)
is_6 n row = record { not_1 = refl; not_2 = refl; not_3 = refl }

is_7 : (n row : ℕ) → IsFloorRow (firing 7 n row)
is_7 n row = record { not_1 = refl; not_2 = refl; not_3 = refl }

pub is_8 : (n row : ℕ) → IsFloorRow (firing 8 n row)
is_8 n row = record { not_1 = refl; not_2 = refl; not_3 = refl }

is_9 : (n row : ℕ) → IsFloorRow (firing 9 n row)
is_9 n row = record { not_1 = refl; not_2 = refl; not_3 = refl }

is_10 : (n row : ℕ) → IsFloorRow (firing 10 n row)
is_10 n row = record { not_1 = refl; not_2 = refl; not_3 = refl }

pub service_are : (on : Bool) (port : ℕ) → AreFloorRows (at_port 4 (if on then 1 else 2) port)
service_are on port = (is_4 port (if on then 1 else 2), tt)

pub access_are : (auto : Bool) (port : ℕ) → AreFloorRows (at_port 5 (if auto then 1 else 2) port)
access_are auto port = (is_5 port (if auto then 1 else 2), tt)

pub placing_are : (port : ℕ) → AreFloorRows (at_port 4 3 port)
placing_are port = (is_4 port 3, tt)

pub removal_are : (port : ℕ) → AreFloorRows (removal port)
removal_are port = (is_4 port 5, (is_7 port 6, tt))

creation_are : (name : List ℕ) (f : Floor) → AreFloorRows (creation_of name f)
creation_are name f = either_way AreFloorRows (is_known name f.carriers) [] (firing 8 f.next_carrier 1 ∷ []) tt (is_8 f.next_carrier 1, tt)

unbinding_are : (number : ℕ) → AreFloorRows (unbinding number)
unbinding_are number = (is_6 number 2, (is_7 number 2, tt))

proceeding_are : (c : Option Carrier) → AreFloorRows (proceeding c)
proceeding_are None = tt
proceeding_are (Some c) =
    either_way AreFloorRows (is_id_waiting c.states.id) (firing 8 c.number 4 ∷ []) (firing 9 c.number 3 ∷ []) (is_8 c.number 4, tt) (is_9 c.number 3, tt)

cancelling_are : (c : Option Carrier) → AreFloorRows (cancelling c)
cancelling_are None = tt
cancelling_are (Some c) =
    either_way AreFloorRows (is_id_waiting c.states.id) (firing 8 c.number 5 ∷ []) (if is_map_waiting c.states.map then firing 9 c.number 4 ∷ [] else firing 10 c.number 4 ∷ [])
    (is_8 c.number 5, tt)
    (either_way AreFloorRows (is_map_waiting c.states.map) (firing 9 c.number 4 ∷ []) (firing 10 c.number 4 ∷ []) (is_9 c.number 4, tt) (is_10 c.number 4, tt))

pub word_are : (w : CarrierWord) (a : CarrierAction) (f : Floor) → AreFloorRows (word_rows w a f)
word_are word.Bind a f =
    both_are (creation_of a.id f) (at_port 6 1 a.port ++ at_port 7 1 a.port) (creation_are a.id f) (is_6 a.port 1, (is_7 a.port 1, tt))
word_are word.CancelBind a f = unbinding_are (port_number_of (carrier_named a.id f.carriers))
word_are word.Proceed a f = proceeding_are (carrier_named a.id f.carriers)
word_are word.Cancel a f = cancelling_are (carrier_named a.id f.carriers)
word_are word.Notify a f = creation_are a.id f
word_are word.CancelNotify a f = tt
word_are word.Unknown a f = tt

ports_are : (row : ℕ) (numbers : List ℕ) → AreFloorRows (at_ports 5 row numbers)
ports_are row [] = tt
ports_are row (n ∷ ns) = (is_5 n row, ports_are row ns)

action_are : (a : PortAction) (f : Floor) → AreFloorRows (port_rows a f)
action_are (ask.Reserve number) f = (is_6 number 1, tt)
action_are (ask.CancelReserve number) f = (is_6 number 2, tt)
action_are (ask.Access mode numbers) f = ports_are (mode_row mode) (or_all numbers f)
action_are ask.Unknown f = tt

pub carrier_are : (a : CarrierAction) (g : State) (code : Caack) → AreFloorRows (carrier_done g a code).rows
carrier_are a g code = either_way AreFloorRows (is_done_code code) (carrier_rows a g.floor.shop) [] (word_are a.word a g.floor.shop) tt

pub port_are : (a : PortAction) (g : State) (r : ShopReply) (code : Caack) → AreFloorRows (port_done g a r code).rows
port_are a g r code = either_way AreFloorRows (is_done_code code) (port_rows a g.floor.shop) [] (action_are a g.floor.shop) tt

-- ---- jobs

is_14 : (n row : ℕ) → IsFloorRow (firing 14 n row)
is_14 n row = record { not_1 = refl; not_2 = refl; not_3 = refl }

is_15 : (n row : ℕ) → IsFloorRow (firing 15 n row)
is_15 n row = record { not_1 = refl; not_2 = refl; not_3 = refl }

at_process_are : (row : ℕ) (o : Option ProcessJob) → AreFloorRows (at_process row o)
at_process_are row None = tt
at_process_are row (Some j) = (is_14 j.number row, tt)

at_control_are : (row : ℕ) (o : Option ControlJob) → AreFloorRows (at_control row o)
at_control_are row None = tt
at_control_are row (Some c) = (is_15 c.number row, tt)

pub command_are : (job : List ℕ) (word : JobWord) (w : Jobs) → AreFloorRows (command_rows job word w)
command_are job word w = at_process_are (row_of word) (process_named job w.process.kept)

word_rows_are : (job : List ℕ) (o : Option JobWord) (w : Jobs) → AreFloorRows (rows_of_command job o w)
word_rows_are job None w = tt
word_rows_are job (Some word) w = command_are job word w

cancel_are : (names : List (List ℕ)) (w : Jobs) → AreFloorRows (cancel_rows names w)
cancel_are [] w = tt
cancel_are (n ∷ names) w = both_are (at_process (row_of Cancel) (process_named n w.process.kept)) (cancel_rows names w) (at_process_are (row_of Cancel) (process_named n w.process.kept)) (cancel_are names w)

pub control_rows_are : (job : List ℕ) (a : Result CtlAct ℕ) (w : Jobs) → AreFloorRows (control_command_rows job a w)
control_rows_are job (Ok (Row row)) w = at_control_are row (control_named job w.control.jobs)
control_rows_are job (Ok Head) w = tt
control_rows_are job (Err code) w = tt

asked_are : (g : State) (r : ShopReply) (e : Option JobError) (w : Jobs) (rows : List Firing) → AreFloorRows rows → AreFloorRows (asked_of_jobs g r e w rows).rows
asked_are g r (Some e) w rows are = tt
asked_are g r None w rows are = are

pub shop_are : (m : Message) (g : State) → AreFloorRows (shop_done g m).rows
shop_are (S3F17 dataid action carrier number attributes) g = carrier_are (carrier_action action carrier number attributes) g (carrier_caack (carrier_action action carrier number attributes) g)
shop_are (S3F25 action number value) g = port_are (port_word action number) g (reply.S3F26 (caack_number (port_caack (port_word action number) g))) (port_caack (port_word action number) g)
shop_are (S3F27 mode numbers) g = port_are (ask.Access mode numbers) g (reply.S3F28 (caack_number (port_caack (ask.Access mode numbers) g))) (port_caack (ask.Access mode numbers) g)
shop_are (S14F9 object type attributes) g = asked_are g _ (request_error (is_local g.control) type (asked_control attributes) (jobs_of g)) _ (control_rows (jobs_of g)) (is_15 ((jobs_of g).control.given + 1) 1, tt)
shop_are (S16F5 dataid job command value) g = asked_are g _ (command_error (is_local g.control) job (command_named command) (jobs_of g)) _ (rows_of_command job (command_named command) (jobs_of g)) (word_rows_are job (command_named command) (jobs_of g))
shop_are (S16F11 dataid job material recipe start events) g = asked_are g _ (process_error (is_local g.control) (asked_process job material recipe.0 start) events (jobs_of g)) _ (process_rows (jobs_of g)) (is_14 ((jobs_of g).process.given + 1) 1, tt)
shop_are (S16F17 jobs) g = asked_are g _ (cancel_error (is_local g.control) jobs (jobs_of g)) _ (cancel_rows (cancelled jobs (jobs_of g)) (jobs_of g)) (cancel_are (cancelled jobs (jobs_of g)) (jobs_of g))
shop_are S16F19 g = tt
shop_are S16F21 g = tt
shop_are (S16F27 job command value) g = asked_are g _ (control_command_error (is_local g.control) job command (jobs_of g)) _ (control_command_rows job (command_answer job command (jobs_of g).control.jobs) (jobs_of g)) (control_rows_are job (command_answer job command (jobs_of g).control.jobs) (jobs_of g))

-- ---- modules

is_16 : (n row : ℕ) → IsFloorRow (firing 16 n row)
is_16 n row = record { not_1 = refl; not_2 = refl; not_3 = refl }

pub module_are : (row number : ℕ) → AreFloorRows (at_module row number)
module_are row number = (is_16 number row, tt)

is_13 : (n row : ℕ) → IsFloorRow (firing 13 n row)
is_13 n row = record { not_1 = refl; not_2 = refl; not_3 = refl }

at_processed_are : (row : ℕ) (o : Option ℕ) → AreFloorRows (at_processed row o)
at_processed_are row None = tt
at_processed_are row (Some n) = (is_13 n row, tt)

processed_are : (row : ℕ) (what : Task) (f : ToolFloor) → AreFloorRows (processed_rows row what f)
processed_are row (task.Pick sub from) f = tt
processed_are row (task.Place sub to) f = tt
processed_are row (task.Align sub) f = tt
processed_are row (task.Process sub recipe) f = at_processed_are row (number_named sub f.places)

at_done_are : (o : Option ℕ) (f : ToolFloor) → AreFloorRows (at_done o f)
at_done_are None f = tt
at_done_are (Some n) f =
    either_way AreFloorRows (goes_on (substrate_numbered n f.substrates) f) [] (firing 13 n (done_processing n f) ∷ []) tt (is_13 n (done_processing n f), tt)

done_processed_are : (what : Task) (f : ToolFloor) → AreFloorRows (done_processed what f)
done_processed_are (task.Pick sub from) f = tt
done_processed_are (task.Place sub to) f = tt
done_processed_are (task.Align sub) f = tt
done_processed_are (task.Process sub recipe) f = at_done_are (number_named sub f.places) f

done_at_are : (number : ℕ) (m : Option Module) (f : ToolFloor) → AreFloorRows (done_at number m f)
done_at_are number None f = tt
done_at_are number (Some Idle) f = tt
done_at_are number (Some (Busy command fetched)) f = (is_16 number (done_row command.task), done_processed_are command.task f)
done_at_are number (Some Down) f = tt

pub done_are : (number : ℕ) (f : ToolFloor) → AreFloorRows (done_rows number f)
done_are number f = done_at_are number (module_at number f.modules) f

closing_at_are : (row number : ℕ) (m : Option Module) (f : ToolFloor) → AreFloorRows (closing_at row number m f)
closing_at_are row number None f = module_are row number
closing_at_are row number (Some Idle) f = module_are row number
closing_at_are row number (Some (Busy command fetched)) f = (is_16 number row, processed_are 4 command.task f)
closing_at_are row number (Some Down) f = module_are row number

pub closing_are : (row number : ℕ) (f : ToolFloor) → AreFloorRows (closing_rows row number f)
closing_are row number f = closing_at_are row number (module_at number f.modules) f

lost_at_are : (o : Option ℕ) (f : ToolFloor) → AreFloorRows (lost_at o f)
lost_at_are None f = tt
lost_at_are (Some n) f = either_way AreFloorRows (can_be_lost (substrate_numbered n f.substrates) f) (firing 13 n 8 ∷ []) [] (is_13 n 8, tt) tt

pub lost_are : (sub : List ℕ) (f : ToolFloor) → AreFloorRows (lost_rows sub f)
lost_are sub f = lost_at_are (number_named sub f.places) f

-- ---- what a firing creates

-- a row of a created object is one of the floor
pub creation_is : (d : Firing) → is_creation d ≡ true → IsFloorRow d
creation_is d is = record { not_1 = creation_not 1 refl d is; not_2 = creation_not 2 refl d is; not_3 = creation_not 3 refl d is }

pub created_are : (g : State) (f : Firing) → AreCreations (creations g f)
created_are g f = subst AreCreations (sym (creations_as g f)) (of (f.row.table == 1) (f.row.table == 2) (f.row.table == 3)) where
  of : (first second third : Bool) → AreCreations (if first then [] else (if second then [] else (if third then [] else creation_rows f g.floor)))
  of true second third = tt
  of false true third = tt
  of false false true = tt
  of false false false = keeping.creations g.floor f

-- such a row creates no more
pub creates_no_more : (g : State) (d : Firing) → is_creation d ≡ true → creations g d ≡ []
creates_no_more g d is = creations_is g d (creation_is d is) ∙ creation_last g.floor d is

-- what holds of a state behind a firing holds behind what that creates
pub created_keeps : (P : State → Type 0) → ((g : State) (d : Firing) → is_creation d ≡ true → P g → P (fire g d)) → (ds : List Firing) → AreCreations ds → (g : State) → P g → P (fire_all ds g)
created_keeps P creates [] are g here = here
created_keeps P creates (d ∷ ds) are g here =
    created_keeps P creates ds are.1 (fire g d) (creates g d are.0 here)

pub advanced_keeps : (P : State → Type 0) → ((g : State) (d : Firing) → is_creation d ≡ true → P g → P (fire g d)) → (g : State) (f : Firing) → P (fire g f) → P (advanced g f)
advanced_keeps P creates g f here = created_keeps P creates (creations g f) (created_are g f) (fire g f) here

-- ---- what the floor leaves alone

-- a fact of states that no change of the floor touches, and no note of an event
pub record LeftAlone (P : State → Type 0) : Type 1 where
  pub floor : (g : State) (x : ToolFloor) → P g → P (record g { floor = x })
  pub noted : (g : State) (event : Option ℕ) (o : Occasion) (online : Bool) → P g → P (record g { line = line_behind event o online g })

pub alone_effect : (P : State → Type 0) → LeftAlone P → (g : State) (f : Firing) → IsFloorRow f → P g → P (takes_effect g f)
alone_effect P alone g f is here = subst P (sym (effect_is g f is)) (alone.floor g _ here)

pub alone_fire : (P : State → Type 0) → LeftAlone P → (g : State) (f : Firing) → IsFloorRow f → P g → P (fire g f)
alone_fire P alone g f is here =
    alone.noted (takes_effect g f) (ceid_of f.row.table f.row.row) (record { object = object_name g f; row = 100 * f.row.table + f.row.row }) (is_online g.control)
    (alone_effect P alone g f is here)
