use Rattle.std.proofs.Common.{ℕ, List, ap, ◌∙◌}
use Rattle.process_job.specs.Jobs.{JobBook, recipe_named, job_numbered}
use Rattle.floor_model.specs.Jobs.{job_of}
use Rattle.floor_model.specs.Views.{route_of, recipe_of}
use Rattle.tool_floor.proofs.planning.route_for.Goals as goal

pub returns : goal.returns
returns c =
    let jobs = c.args.jobs.now in
    let job = c.numbered.ensures.value ∙ ap (λ (p : JobBook). job_numbered c.args.s.now.job p.kept) c.process-known.ensures.jobs in
    c.route_of.ensures
    ∙ ap route_of
    (c.recipe.ensures
    ∙ ap (λ (name : List ℕ). recipe_named name c.process-known.result.now.recipes) (c.recipe_of.ensures ∙ ap recipe_of job)
    ∙ ap (λ (p : JobBook). recipe_named (recipe_of (job_of c.args.s.now jobs)) p.recipes) c.process-known.ensures.jobs)
