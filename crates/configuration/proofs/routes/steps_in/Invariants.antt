use Rattle.std.proofs.Common.{◌≡◌, ◌++◌, length, drop, option_map}
use Rattle.toml.specs.View.{items_view}
use Rattle.configuration.specs.Routes.{steps_in}
use Rattle.configuration.proofs.routes.steps_in.Given as goal

abbrev pub invariant-loop-value : goal.invariant-loop-value
invariant-loop-value l = record {
  long : length l.found ≡ l.value-index;
  read : steps_in l.chambers (items_view l.values) ≡ option_map (λ steps. l.found ++ steps) (steps_in l.chambers (items_view (drop l.value-index l.values)));
}
