use Rattle.std.proofs.Common.{rules, ◌≡◌, sym, subst}
use Rattle.gem_ids.specs.Texts.{IsText}
use Rattle.civil_time.specs.Civil.{time_digits}
use Rattle.gem_model.specs.State.{clock_now}
use Rattle.plant_values.proofs.MomentTexts.{clock_text}
use Rattle.plant_values.proofs.seen.Seen.time_text.Goals as goal

pub returns-clause-text : goal.returns-clause-text
returns-clause-text c =
    let same : c.from_vec.result ≡ time_digits (clock_now c.args.self.now) = search rules in
    subst IsText (sym same) (clock_text c.args.self.now)
