use Rattle.std.proofs.Common.{◌≡◌, ℕ, ◌<◌, Bool, true, false, IfSome, Option, sym, ◌∙◌, subst, refl}
use Rattle.std.specs.Bool.{then_some}
use Rattle.gem_model.proofs.Ends.{up-numbered}
use Rattle.tool_core.proofs.tool.CoreRecorder.session_up.Goals as goal

-- where a session is told, its number is from 1
numbered : (up : Bool) (n : ℕ) → (up ≡ true → 0 < n) → IfSome (then_some up n) (λ k. 0 < k)
numbered true n h = h refl
numbered false n h = tt

pub returns-clause-numbered : goal.returns-clause-numbered
returns-clause-numbered c =
    subst (λ (r : Option ℕ). IfSome r (λ k. 0 < k)) (sym c.then_some.ensures)
    (numbered c.self.inside.is_up c.self.inside.sessions
    (λ up. subst (λ n. 0 < n) (sym c.self.invariant.sessions_are) (up-numbered _ _ _ c.self.invariant.run (sym c.self.invariant.up_is ∙ up))))
