-- What a message of the host does that is taken: its reply, what it writes, and its direct rows, all by the state before it (SEMI
-- E5, streams and functions; SEMI E87, S3F17, S3F25 and S3F27; this tool's profile, messages and direct rows). Each message is one
-- line of `gem_done` or `shop_done`.
use Rattle.std.specs.Prelude.{ℕ, Bool, nat_le, if◌then◌else◌, List, [], ◌∷◌, Option, Some, None, is_some, unwrap_or, map, filter}
use Rattle.civil_time.specs.Civil.{moment_in, time_digits}
use Rattle.gem_tables.specs.declared.firing.Firing.{Firing}
use Rattle.gem_states.specs.declared.control.Control.{Control}
use Rattle.gem_states.specs.declared.control.Control.TheVariants as control
use Rattle.gem_states.specs.declared.communication.CommTrigger.TheVariants as comm
use Rattle.gem_states.specs.declared.control.ControlTrigger.TheVariants as trigger
use Rattle.item_model.specs.Data.{Data}
use Rattle.message_model.specs.declared.gem_primary.GemMsg.{GemMsg}
use Rattle.message_model.specs.declared.gem_primary.GemMsg.TheVariants as msg
use Rattle.message_model.specs.declared.gem_reply.GemReply.{GemReply}
use Rattle.message_model.specs.declared.gem_reply.GemReply.TheVariants as reply
use Rattle.message_model.specs.declared.gem_reply.AlarmPart.{AlarmPart}
use Rattle.message_model.specs.declared.gem_reply.VariableName.{VariableName}
use Rattle.message_model.specs.GemReplies.{items}
use Rattle.message_model.specs.ShopPrimaries.{Message, S3F17, S3F25, S3F27, S14F9, S16F5, S16F11, S16F17, S16F19, S16F21, S16F27}
use Rattle.request_model.specs.Requests.{asked_process, asked_control, command_named as job_command_named, command_rows}
use Rattle.message_model.specs.declared.shop_reply.ShopReply.{ShopReply}
use Rattle.message_model.specs.declared.shop_reply.ShopReply.TheVariants as shop
use Rattle.data_variables.specs.declared.val.Val.{Val}
use Rattle.data_variables.specs.Setting.{eac, set_all_after}
use Rattle.data_variables.specs.Table.{constant_ids}
use Rattle.data_variables.specs.Bodies.{val_in, name_item}
use Rattle.gem_rows.specs.Variables.{vid_name}
use Rattle.event_reports.specs.Reports.{drack, lrack, erack, report_items, one_items, value_items, defined, linked, enabled}
use Rattle.event_reports.specs.declared.alarms.AlarmLine.{AlarmLine}
use Rattle.event_reports.specs.Alarms.{ackc5, is_alarm, is_set, alarms_enabled}
use Rattle.load_port.specs.declared.caack.Caack.{Caack}
use Rattle.load_port.specs.Caack.{caack_number, is_done_code}
use Rattle.load_port.specs.declared.action.PortAction.{PortAction}
use Rattle.load_port.specs.declared.action.PortAction.TheVariants as port
use Rattle.carrier.specs.declared.action.CarrierAction.{CarrierAction}
use Rattle.shop_floor.specs.Requests.{carrier_written, carrier_rows, port_rows}
use Rattle.floor_model.specs.Floor.{with_shop}
use Rattle.spool.specs.Spool.{rsda}
use Rattle.gem_model.specs.State.{State, clock_now}
use Rattle.gem_model.specs.Values.{no_firing, status_value, constant_value, value_of, svids}
use Rattle.gem_model.specs.Noting.{alcd, text_of_alarm, clears_alarm}
use Rattle.gem_model.specs.Remote.{Decision, refused, goes_local, clears, commands, decided, hcack_number}
use Rattle.gem_model.specs.Spooling.{rspack, refusals, spools, unload_rows}
use Rattle.gem_model.specs.Direct.{by_comm, by_control}
use Rattle.gem_model.specs.HostMessages.{HostMessage, Gem, Shop, GemTold, ShopTold, Done}
use Rattle.gem_model.specs.JobMessages.{process_done, control_done, command_done, cancel_done, control_command_done, list_done, space_done}
use Rattle.gem_model.specs.Shop.{carrier_action, port_word, carrier_caack, port_caack}

-- it is answered, and does nothing else
abbrev pub answers : GemReply → State → Done
answers r g = record { reply = GemTold r; after = g; rows = [] }

-- it is answered, and writes
abbrev pub writes : GemReply → State → Done
writes r after = record { reply = GemTold r; after = after; rows = [] }

-- it is answered, and its rows fire
abbrev pub fires_rows : GemReply → State → List Firing → Done
fires_rows r g rows = record { reply = GemTold r; after = g; rows = rows }

-- ---- codes and parts of replies

-- ONLACK: 0 in HOST OFF-LINE, 1 in EQUIPMENT OFF-LINE and ATTEMPT ON-LINE, 2 on-line (SEMI E5, S1F18; this tool's
-- profile, messages)
abbrev pub onlack : Control → ℕ
onlack control.HostOffline = 0
onlack control.EquipmentOffline = 1
onlack control.Attempt = 1
onlack control.Local = 2
onlack control.Remote = 2

-- TIACK: 0 where the text is a moment, else 1 (SEMI E5, S2F32; this tool's profile, messages)
abbrev pub tiack : List ℕ → ℕ
tiack text = if is_some (moment_in text) then 0 else 1

-- an empty list of ids means all
abbrev pub or_all : List ℕ → List ℕ → List ℕ
or_all all [] = all
or_all all (id ∷ ids) = id ∷ ids

-- the name of a status variable, empty for one that is unknown; units are not given (SEMI E5, S1F12)
abbrev pub status_name : State → ℕ → VariableName
status_name g vid = record { svid = vid; name = if is_some (status_value g vid) then unwrap_or (vid_name vid) [] else [] }

-- the constants that S2F15 sets, each with the value that its item says, where it says one of the constant's kind
abbrev pub settings_of : List (ℕ × Data) → List (ℕ × Option Val)
settings_of settings = map (λ s. (s.0, val_in s.0 s.1)) settings

-- ALED enables where its highest bit is set, and else disables (SEMI E5, S5F3)
abbrev pub is_enabling : ℕ → Bool
is_enabling aled = nat_le 128 aled

-- an alarm as S5F6 and S5F8 list it: an unknown one has an empty ALCD and an empty text (SEMI E5, S5F6)
abbrev pub alarm_part : State → ℕ → AlarmPart
alarm_part g alid =
    if is_alarm alid g.alarms then record { alcd = Some (alcd (is_set alid g.alarms)); alid = alid; text = text_of_alarm alid }
    else record { alcd = None; alid = alid; text = [] }

-- the alarms of the tool, and those of them that are enabled, rising
abbrev pub alids_of : State → List ℕ
alids_of g = map (λ (a : AlarmLine). a.alid) g.alarms

abbrev pub enabled_alids : State → List ℕ
enabled_alids g = map (λ (a : AlarmLine). a.alid) (filter (λ (a : AlarmLine). a.enabled) g.alarms)

-- the host's clock is set to this moment, where there is one
abbrev pub clock_set : Option ℕ → State → State
clock_set None g = g
clock_set (Some shown) g = record g { clock = record { shown = shown; at = g.moment } }

-- a remote command, as it was decided: GOLOCAL is the operator's `local`, but that the switch stays; CLEARALARM clears its
-- alarm; a command to a process job fires its row (SEMI E5, S2F42; this tool's profile, remote commands)
abbrev pub remote_done : State → Decision → Done
remote_done g (refused code faults) = answers (reply.S2F42 (hcack_number code) faults) g
remote_done g goes_local = fires_rows (reply.S2F42 0 []) g (by_control trigger.Local g)
remote_done g (clears alid) = writes (reply.S2F42 0 []) (clears_alarm alid g)
remote_done g (commands job word) = fires_rows (reply.S2F42 0 []) g (command_rows job word g.floor.jobs)

-- ---- streams 1, 2, 5 and 6

abbrev pub gem_done : State → GemMsg → Done
gem_done g msg.S1F1 = answers (reply.S1F2 g.config.mdln g.config.softrev) g
gem_done g (msg.S1F3 ids) = answers (reply.S1F4 (value_items (status_value g) (or_all (svids g) ids))) g
gem_done g (msg.S1F11 ids) = answers (reply.S1F12 (map (status_name g) (or_all (svids g) ids))) g
gem_done g msg.S1F13 = fires_rows (reply.S1F14 (record { mdln = g.config.mdln; softrev = g.config.softrev })) g (by_comm comm.HostS1F13)
gem_done g msg.S1F15 = fires_rows reply.S1F16 g (by_control trigger.HostS1F15 g)
gem_done g msg.S1F17 = fires_rows (reply.S1F18 (onlack g.control)) g (by_control trigger.HostS1F17 g)
gem_done g (msg.S2F13 ids) = answers (reply.S2F14 (value_items (constant_value g) (or_all constant_ids ids))) g
gem_done g (msg.S2F15 settings) = writes (reply.S2F16 (eac (settings_of settings))) (record g { constants = set_all_after (settings_of settings) g.constants })
gem_done g msg.S2F17 = answers (reply.S2F18 (time_digits (clock_now g))) g
gem_done g (msg.S2F29 ids) = answers (reply.S2F30 (items (map name_item (or_all constant_ids ids)))) g
gem_done g (msg.S2F31 text) = writes (reply.S2F32 (tiack text)) (clock_set (moment_in text) g)
gem_done g (msg.S2F33 id reports) = writes (reply.S2F34 (drack reports g.reports)) (record g { reports = defined reports g.reports })
gem_done g (msg.S2F35 id events) = writes (reply.S2F36 (lrack events g.reports)) (record g { reports = linked events g.reports })
gem_done g (msg.S2F37 on ceids) = writes (reply.S2F38 (erack ceids g.reports)) (record g { reports = enabled on ceids g.reports })
gem_done g (msg.S2F41 name parameters) = remote_done g (decided g name parameters)
gem_done g (msg.S2F43 entries) = writes (reply.S2F44 (rspack g entries) (refusals g entries)) (spools entries g)
gem_done g (msg.S5F3 aled alid) = writes (reply.S5F4 (ackc5 alid g.alarms)) (record g { alarms = alarms_enabled (is_enabling aled) alid g.alarms })
gem_done g (msg.S5F5 ids) = answers (reply.S5F6 (map (alarm_part g) (or_all (alids_of g) ids))) g
gem_done g msg.S5F7 = answers (reply.S5F8 (map (alarm_part g) (enabled_alids g))) g
gem_done g (msg.S6F15 ceid) = answers (reply.S6F16 ceid (report_items (value_of no_firing g) ceid g.reports)) g
gem_done g (msg.S6F19 rptid) = answers (reply.S6F20 (one_items (value_of no_firing g) rptid g.reports)) g
gem_done g (msg.S6F23 rsdc) = fires_rows (reply.S6F24 (rsda g.line.spool)) g (unload_rows rsdc)

-- ---- streams 3, 14 and 16

-- an action on a carrier, by its code: where it is done it writes, and fires its rows
abbrev pub carrier_done : State → CarrierAction → Caack → Done
carrier_done g a code =
    record {
      reply = ShopTold (shop.S3F18 (caack_number code));
      after = if is_done_code code then record g { floor = with_shop (carrier_written a g.floor.shop) g.floor } else g;
      rows = if is_done_code code then carrier_rows a g.floor.shop else [];
    }

-- an action on ports, by its code: where it is done it fires its rows
abbrev pub port_done : State → PortAction → ShopReply → Caack → Done
port_done g a r code = record { reply = ShopTold r; after = g; rows = if is_done_code code then port_rows a g.floor.shop else [] }

abbrev pub port_action_done : State → PortAction → (ℕ → ShopReply) → Done
port_action_done g a r = port_done g a (r (caack_number (port_caack a g))) (port_caack a g)

abbrev pub carrier_action_done : State → CarrierAction → Done
carrier_action_done g a = carrier_done g a (carrier_caack a g)

abbrev pub shop_done : State → Message → Done
shop_done g (S3F17 dataid action carrier number attributes) = carrier_action_done g (carrier_action action carrier number attributes)
shop_done g (S3F25 action number value) = port_action_done g (port_word action number) (λ code. shop.S3F26 code)
shop_done g (S3F27 mode numbers) = port_action_done g (port.Access mode numbers) (λ code. shop.S3F28 code)
shop_done g (S14F9 object type attributes) = control_done g type (asked_control attributes)
shop_done g (S16F5 dataid job command value) = command_done g job (job_command_named command)
shop_done g (S16F11 dataid job material recipe start events) = process_done g (asked_process job material recipe.0 start) events
shop_done g (S16F17 jobs) = cancel_done g jobs
shop_done g S16F19 = list_done g
shop_done g S16F21 = space_done g
shop_done g (S16F27 job command value) = control_command_done g job command

-- ---- all streams

abbrev pub done : State → HostMessage → Done
done g (Gem m) = gem_done g m
done g (Shop m) = shop_done g m
