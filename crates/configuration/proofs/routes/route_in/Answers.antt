use Rattle.std.proofs.Common.{Option, sym, ap, ◌∙◌, option_and_then}
use Rattle.toml.specs.Data.{Items}
use Rattle.configuration.specs.Values.{passing}
use Rattle.configuration.specs.Routes.{is_route, steps_in}
use Rattle.configuration.proofs.Steps.{too_many}
use Rattle.configuration.proofs.routes.route_in.Goals as goal

pub returns-then-values-gt-MOST_STEPS : goal.returns-then-values-gt-MOST_STEPS
returns-then-values-gt-MOST_STEPS c =
    sym (ap (λ (o : Option Items). option_and_then (passing is_route) (option_and_then (steps_in c.args.chambers) o)) (sym c.in_ok-values.ensures) ∙ too_many c.args.chambers c.in_ok-values.values.now c.if-values-gt-MOST_STEPS.true)
