use Rattle.std.proofs.Common.{◌≡◌, true, false, refl, sym, ◌∙◌}
use Rattle.event_reports.specs.Alarms.{is_alarm, is_set}
use Rattle.core_state.proofs.Telling.{made_set}
use Rattle.core_state.proofs.plant.Plant.set_alarm.Goals as goal

pub returns-in_ok-tell_alarm : goal.returns-in_ok-tell_alarm
returns-in_ok-tell_alarm c =
    let known : is_alarm c.args.alid c.args.self.now.alarms ≡ true = rw (← c.self.view_is) (sym c.is_known.ensures ∙ c.if-is_known.true) in
    let clear : is_set c.args.alid c.args.self.now.alarms ≡ false = rw (← c.self.view_is) (sym c.is_set.ensures ∙ c.if-not-is_set.true) in
    rw (← made_set c.args.alid c.args.self.now known clear, ← c.self.view_is, c.in_ok-tell_alarm.ensures, c.set.ensures.after) refl
