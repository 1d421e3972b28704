use Rattle.std.proofs.Common.{ap, ◌∙◌, is_some, bytes_eq}
use Rattle.job_requests.proofs.Scans.{found_any}
use Rattle.job_requests.proofs.process.is_recipe.Goals as goal

pub returns : goal.returns
returns c = c.is_some.ensures ∙ ap is_some c.recipe.ensures ∙ found_any (λ r. bytes_eq r.name c.args.name) c.args.process.now.recipes
