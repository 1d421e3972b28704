-- What the host is told of variables and alarms is few.
use Rattle.std.proofs.Common.{◌≡◌, ℕ, suc, ◌≤◌, Bool, true, false, List, [], ◌∷◌, length, map, filter, Option, is_some, refl, ap, arith}
use Rattle.item_model.specs.Data.{Data}
use Rattle.event_reports.specs.Values.{AreSmallValues}
use Rattle.event_reports.specs.Reports.{value_items}
use Rattle.event_reports.specs.Limits.{most_alarms}
use Rattle.event_reports.specs.declared.alarms.AlarmLine.{AlarmLine}
use Rattle.event_reports.proofs.Small.{count_values, small_values_of}
use Rattle.data_variables.specs.Bodies.{name_item, items}
use Rattle.data_variables.specs.Table.{constant_ids}
use Rattle.data_variables.proofs.Sending.{names_bounded, names_counted}
use Rattle.message_model.specs.GemSendable.{AreFew}
use Rattle.gem_rows.specs.Variables.{status_vids}
use Rattle.gem_model.specs.State.{State}
use Rattle.gem_model.specs.Values.{status_value, svids, constant_value}
use Rattle.gem_model.specs.Messages.{or_all, status_name, alarm_part, alids_of, enabled_alids}
use Rattle.plant_values.specs.Named.{AreNamed}
use Rattle.host_messages.proofs.Few.{fewer, same_length}
use Rattle.plant_values.proofs.Small.{status_small, constants_small}

few_or_all : (all ids : List ℕ) → length all ≤ 1024 → length ids ≤ 1024 → length (or_all all ids) ≤ 1024
few_or_all all [] few_all few = few_all
few_or_all all (id ∷ ids) few_all few = few

few_values_of : (value : ℕ → Option Data) (ids : List ℕ) → AreSmallValues value → length ids ≤ 1024 → AreFew 1024 1 84 (value_items value ids)
few_values_of value ids small few = (let count = count_values value ids in omega arith, small_values_of value small ids)

few_svids : (g : State) → length (svids g) ≤ 1024
few_svids g = let less = fewer (λ (n : ℕ). is_some (status_value g n)) status_vids in omega (arith, less)

pub few_status : (g : State) (ids : List ℕ) → length g.alarms ≤ most_alarms → AreNamed g → length ids ≤ 1024 → AreFew 1024 1 84 (value_items (status_value g) (or_all (svids g) ids))
few_status g ids alarms named few = few_values_of (status_value g) (or_all (svids g) ids) (status_small g alarms named) (few_or_all (svids g) ids (few_svids g) few)

pub few_constants : (g : State) (ids : List ℕ) → length ids ≤ 1024 → AreFew 1024 1 84 (value_items (constant_value g) (or_all constant_ids ids))
few_constants g ids few = few_values_of (constant_value g) (or_all constant_ids ids) (constants_small g) (few_or_all constant_ids ids (omega arith) few)

pub few_names : (ids : List ℕ) → length ids ≤ 1024 → AreFew 1024 1 210 (items (map name_item (or_all constant_ids ids)))
few_names ids few =
    (let count = names_counted (or_all constant_ids ids) in let less = few_or_all constant_ids ids (omega arith) few in omega arith, names_bounded (or_all constant_ids ids))

pub few_status_names : (g : State) (ids : List ℕ) → length ids ≤ 1024 → length (map (status_name g) (or_all (svids g) ids)) ≤ 1024
few_status_names g ids few = let same = same_length (status_name g) (or_all (svids g) ids) in let less = few_or_all (svids g) ids (few_svids g) few in omega arith

pub few_alarm_parts : (g : State) (ids : List ℕ) → length g.alarms ≤ most_alarms → length ids ≤ 1024 → length (map (alarm_part g) (or_all (alids_of g) ids)) ≤ 1024
few_alarm_parts g ids alarms few =
    let same = same_length (alarm_part g) (or_all (alids_of g) ids) in
    let all = same_length (λ (a : AlarmLine). a.alid) g.alarms in
    let less = few_or_all (alids_of g) ids (omega arith) few in
    omega arith

pub few_enabled_parts : (g : State) → length g.alarms ≤ most_alarms → length (map (alarm_part g) (enabled_alids g)) ≤ 1024
few_enabled_parts g alarms =
    let same = same_length (alarm_part g) (enabled_alids g) in
    let ids = same_length (λ (a : AlarmLine). a.alid) (filter (λ (a : AlarmLine). a.enabled) g.alarms) in
    let less = fewer (λ (a : AlarmLine). a.enabled) g.alarms in
    omega arith
