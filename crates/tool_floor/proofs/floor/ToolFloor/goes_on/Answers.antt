use Rattle.std.proofs.Common.{◌≡◌, ◌+◌, nat_lt, false, length, Option, Some, refl, sym, ap, ◌∙◌}
use Rattle.floor_model.specs.declared.tracked.Substrate.{Substrate}
use Rattle.floor_model.specs.Floor.{ToolFloor, substrate_numbered}
use Rattle.floor_model.specs.Jobs.{job_of, is_job_so, is_aborting}
use Rattle.floor_model.specs.Views.{route_for, goes_on}
use Rattle.floor_model.proofs.Scans.{shown}
use Rattle.tool_floor.proofs.floor.ToolFloor.goes_on.Goals as goal

pub returns-then-not-is_of_aborting : goal.returns-then-not-is_of_aborting
returns-then-not-is_of_aborting c =
    let now : ToolFloor = c.args.self.now in
    let s : Substrate = c.in-Some.substrate.now in
    let found : substrate_numbered c.args.number now.substrates ≡ Some s =
    ap (λ (f : ToolFloor). substrate_numbered c.args.number f.substrates) (sym c.self.view_is) ∙ shown c.known.ensures c.in-Some.is in
    let going : is_job_so is_aborting (job_of s now.jobs) ≡ false = sym c.is_of_aborting.ensures ∙ c.if-not-is_of_aborting.true in
    let further : goes_on (Some s) now ≡ nat_lt (s.steps + 1) (length (route_for s now.jobs)) = rw going refl in
    c.has_further_step.ensures
    ∙ ap (λ (f : ToolFloor). nat_lt (s.steps + 1) (length (route_for s f.jobs))) c.self.view_is
    ∙ sym (ap (λ (o : Option Substrate). goes_on o now) found ∙ further)
