use Rattle.std.proofs.Common.{◌≡◌, ℕ, ◌∙◌, OnOk, if◌then◌else◌, Bool, true, false, refl, ap, subst}
use Rattle.gem_model.specs.State.{State}
use Rattle.gem_model.specs.Step.{can_come_up}
use Rattle.gem_model.specs.Noting.{clears_alarm}
use Rattle.gem_model.specs.Signals.{module_alarm}
use Rattle.core_shop.proofs.operate.come_up.Goals as goal

-- what may be done is done
allowed : (may : Bool) (behind here : State) → true ≡ may → behind ≡ (if may then behind else here)
allowed true behind here is = refl
allowed false behind here is = absurd (cc)

pub returns : goal.returns
returns c =
    let before = c.args.plant.now in
    let m = c.args.m.0 in
    let same = ap (λ (n : ℕ). clears_alarm n before) c.module_alarm.ensures ∙ allowed (can_come_up m before) (clears_alarm (module_alarm m) before) before c.if-not-can_come_up.ensures in
    subst (λ (g : State). OnOk c.clear_alarm.result (c.clear_alarm.new.self ≡ g)) same c.clear_alarm.ensures
