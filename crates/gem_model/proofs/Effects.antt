-- What rows of tables 1 and 2 do, by the words of their lines, and which of them are ready.
use Rattle.std.proofs.Common.{◌≡◌, ℕ, Bool, true, false, not, ◌&&◌, if◌then◌else◌, [], ◌∷◌, map, Option, Some, None, option_map, refl, ◌∙◌, ap}
use Rattle.std.specs.Option.{option_or}
use Rattle.gem_tables.specs.Table.{Row, firing, first_itself}
use Rattle.gem_tables.specs.declared.firing.Firing.{Firing}
use Rattle.gem_states.specs.declared.communication.Comm.{Comm}
use Rattle.gem_states.specs.declared.communication.Comm.TheVariants.{Disabled, WaitDelay, WaitCra, Communicating}
use Rattle.gem_states.specs.declared.control.Control.{Control}
use Rattle.gem_states.specs.declared.control.Control.TheVariants.{EquipmentOffline, Attempt, HostOffline, Local, Remote}
use Rattle.gem_states.specs.Communication.{CommWant, CommEffect, communication_table, comm_number}
use Rattle.gem_states.specs.Communication as comm
use Rattle.gem_states.specs.Control.{ControlWant, ControlEffect, control_table, control_number}
use Rattle.gem_states.specs.Control as control
use Rattle.transactions.specs.declared.transaction.What.TheVariants as what
use Rattle.gem_tables.specs.Machine.{first_ready, least_in}
use Rattle.note_line.specs.Table3 as table3
use Rattle.floor_model.specs.Machines.{floor_machines}
use Rattle.gem_model.specs.State.{State, none_asked, can_ask, is_selected, around}
use Rattle.gem_model.specs.Sending.{asks, identity_text}
use Rattle.gem_model.proofs.OnFloor.{one_object, least_there}
use Rattle.gem_model.specs.Effects.{forgets, comm_does, comm_effect_of, control_does, control_effect_of}
use Rattle.gem_model.specs.Wants.{delay_is_over, is_attempt, comm_finds, control_finds}
use Rattle.gem_model.specs.Ready.{ready_line, ready_floor}
use Rattle.gem_model.specs.Machines.{least, control_machine, line_machine, on_floor}

-- what holds behind each effect of table 1 holds behind that of each of its rows
pub comm_effect_case : (P : State → Type 0) (row : Option (Row Comm CommWant CommEffect)) (g : State) → P g → P (none_asked g) → P (asks 1 13 what.Establish (identity_text g.config) g) → P (forgets what.Establish g) → P (comm_effect_of row g)
comm_effect_case P None g stays fails sends forgotten = stays
comm_effect_case P (Some r) g stays fails sends forgotten = of r.does where
  of : (e : CommEffect) → P (comm_does e g)
  of comm.no_more = stays
  of comm.fails_every_transaction = fails
  of comm.sends_s1f13 = sends
  of comm.forgets_s1f13 = forgotten

-- and the same of table 2
pub control_effect_case : (P : State → Type 0) (row : Option (Row Control ControlWant ControlEffect)) (g : State) → P g → P (asks 1 1 what.Attempt [] g) → P (forgets what.Attempt g) → P (control_effect_of row g)
control_effect_case P None g stays sends forgotten = stays
control_effect_case P (Some r) g stays sends forgotten = of r.does where
  sent : (can : Bool) → P (if can then asks 1 1 what.Attempt [] g else g)
  sent true = sends
  sent false = stays

  of : (e : ControlEffect) → P (control_does e g)
  of control.no_more = stays
  of control.sends_s1f1_where_it_can = sent (can_ask g)
  of control.forgets_s1f1 = forgotten

-- a row of table 1 that leaves the open transactions
abbrev pub spares_by : CommEffect → Bool
spares_by comm.fails_every_transaction = false
spares_by _ = true

abbrev pub spares : Option (Row Comm CommWant CommEffect) → Bool
spares None = true
spares (Some r) = spares_by r.does

-- what holds behind the others of its effects holds behind that of such a row
pub comm_effect_spared : (P : State → Type 0) (row : Option (Row Comm CommWant CommEffect)) (g : State) → spares row ≡ true → P g → P (asks 1 13 what.Establish (identity_text g.config) g) → P (forgets what.Establish g) → P (comm_effect_of row g)
comm_effect_spared P None g spared stays sends forgotten = stays
comm_effect_spared P (Some r) g spared stays sends forgotten = of r.does spared where
  of : (e : CommEffect) → spares_by e ≡ true → P (comm_does e g)
  of comm.no_more spared = stays
  of comm.fails_every_transaction spared = absurd (cc)
  of comm.sends_s1f13 spared = sends
  of comm.forgets_s1f13 spared = forgotten

-- ---- which are ready

-- row 3 of table 1, where the delay is over and the link is selected
abbrev pub asks_host : State → Option Firing
asks_host g = if delay_is_over g.moment g.comm && is_selected g then Some (firing 1 0 3) else None

-- row 2 of table 2, from ATTEMPT ON-LINE where the tool cannot ask
abbrev pub gives_up : State → Option Firing
gives_up g = if is_attempt g.control && not (can_ask g) then Some (firing 2 0 2) else None

where_ready : (table row : ℕ) (b : Bool) → option_map (firing table 0) (if b then Some row else None) ≡ (if b then Some (firing table 0 row) else None)
where_ready table row true = refl
where_ready table row false = refl

comm_ready : (at : ℕ) (c : Comm) (selected : Bool) (finds : CommWant → Bool) → finds comm.selected_and_delay_over ≡ (delay_is_over at c && selected) → option_map (firing 1 0) (first_itself comm_number finds (communication_table 0) c) ≡ (if delay_is_over at c && selected then Some (firing 1 0 3) else None)
comm_ready at (WaitDelay until) selected finds is = rw is (where_ready 1 3 (delay_is_over at (WaitDelay until) && selected))
comm_ready at Disabled selected finds is = refl
comm_ready at WaitCra selected finds is = refl
comm_ready at Communicating selected finds is = refl

control_ready : (k : Control) (can : Bool) (finds : ControlWant → Bool) → finds control.cannot_ask ≡ not can → option_map (firing 2 0) (first_itself control_number finds control_table k) ≡ (if is_attempt k && not can then Some (firing 2 0 2) else None)
control_ready Attempt can finds is = rw is (where_ready 2 2 (not can))
control_ready EquipmentOffline can finds is = refl
control_ready HostOffline can finds is = refl
control_ready Local can finds is = refl
control_ready Remote can finds is = refl

-- the least ready row, with those of tables 1 and 2 as tests
pub least_is : (g : State) → least g ≡ option_or (asks_host g) (option_or (gives_up g) (option_or (ready_line g) (ready_floor g)))
least_is g =
    ap (λ (x : Option Firing). option_or x (option_or (first_ready 2 (λ object. control_machine.ready object g) (0 ∷ [])) (option_or (first_ready 3 (λ object. line_machine.ready object g) (0 ∷ [])) (least_in (map on_floor floor_machines) g))))
    (one_object 1 (first_itself comm_number (comm_finds g) (communication_table 0) g.comm) ∙ comm_ready g.moment g.comm (is_selected g) (comm_finds g) refl)
    ∙ ap (λ (x : Option Firing). option_or (asks_host g) (option_or x (option_or (first_ready 3 (λ object. line_machine.ready object g) (0 ∷ [])) (least_in (map on_floor floor_machines) g))))
    (one_object 2 (first_itself control_number (control_finds g) control_table g.control) ∙ control_ready g.control (can_ask g) (control_finds g) refl)
    ∙ ap (λ (x : Option Firing). option_or (asks_host g) (option_or (gives_up g) (option_or x (least_in (map on_floor floor_machines) g))))
    (one_object 3 (table3.least (around g) g.line))
    ∙ ap (λ (x : Option Firing). option_or (asks_host g) (option_or (gives_up g) (option_or (ready_line g) x))) (least_there g floor_machines)
