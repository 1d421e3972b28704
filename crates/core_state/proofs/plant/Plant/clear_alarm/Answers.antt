use Rattle.std.proofs.Common.{◌≡◌, true, refl, sym, ◌∙◌}
use Rattle.event_reports.specs.Alarms.{is_set}
use Rattle.core_state.proofs.Telling.{cleared}
use Rattle.core_state.proofs.plant.Plant.clear_alarm.Goals as goal

pub returns-in_ok-tell_alarm : goal.returns-in_ok-tell_alarm
returns-in_ok-tell_alarm c =
    let is : is_set c.args.alid c.args.self.now.alarms ≡ true = rw (← c.self.view_is) (sym c.is_set.ensures ∙ c.if-is_set.true) in
    rw (← cleared c.args.alid c.args.self.now is, ← c.self.view_is, c.in_ok-tell_alarm.ensures, c.clear.ensures.after) refl
