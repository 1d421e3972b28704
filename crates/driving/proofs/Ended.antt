-- The session that ended with an entry, as the core tells it behind the entry.
use Rattle.std.proofs.Common.{◌≡◌, ℕ, Bool, true, false, List, [], ◌∷◌, ◌++◌, Option, Some, None, IfSome, refl, sym, ◌∙◌, ap, option_map, option_and_then, if◌then◌else◌}
use Rattle.tool_events.specs.declared.config.Config.{Config}
use Rattle.tool_events.specs.declared.entry.Entry.{Entry}
use Rattle.tool_events.specs.declared.event.SessionEnd.{SessionEnd}
use Rattle.gem_model.specs.State.{opening, is_up}
use Rattle.gem_model.specs.Step.{Outcome}
use Rattle.gem_model.specs.Run.{Run, entry_step}
use Rattle.gem_model.specs.Sessions.{session_end}
use Rattle.gem_model.proofs.Ends.{session_end-now}
use Rattle.gem_model.proofs.Steps.{step_keeps}
use Rattle.history_parts.specs.CoreView.{CoreView}

-- one entry was added to the history
pub record Added (core core' : CoreView) (entry : Entry) (o : Outcome) : Type 0 where
  pub config : core'.config ≡ core.config
  pub ran : Run (opening core.config) core.history core.state
  pub here : entry_step core.state entry ≡ Some o
  pub history : core'.history ≡ core.history ++ entry ∷ []
  pub state : core'.state ≡ o.after

-- the session that ended, by the core after it
abbrev pub end_after : CoreView → Option ℕ → Option SessionEnd
end_after core before = option_and_then (λ k. option_map (λ cause. record { session = k; cause = cause }) (session_end (opening core.config) core.history k)) before

-- an end is put together again of its number and its cause
end_again : (k : ℕ) (ended : Option SessionEnd) → IfSome ended (λ (e : SessionEnd). e.session ≡ k) → option_map (λ cause. record { session = k; cause = cause }) (option_map (λ (e : SessionEnd). e.cause) ended) ≡ ended
end_again k None numbered = refl
end_again k (Some e) numbered = rw (sym numbered) refl

by_up : (core core' : CoreView) (entry : Entry) (o : Outcome) → Added core core' entry o → (up : Bool) → is_up core.state ≡ up → end_after core' (if up then Some core.state.link.session else None) ≡ o.ended
by_up core core' entry o added true up =
    ap (option_map (λ cause. record { session = core.state.link.session; cause = cause }))
    (ap (λ (c : Config). session_end (opening c) core'.history core.state.link.session) added.config ∙ ap (λ (h : List Entry). session_end (opening core.config) h core.state.link.session) added.history ∙ session_end-now core.config core.history core.state entry o added.ran added.here up)
    ∙ end_again core.state.link.session o.ended (step_keeps core.state entry.at.0 entry.event o added.here).numbered
by_up core core' entry o added false down =
    sym ((step_keeps core.state entry.at.0 entry.event o added.here).none down)

-- the session that was up before, and has an end behind the entry, is the one that ended with it
pub ended_is : (core core' : CoreView) (entry : Entry) (o : Outcome) → Added core core' entry o → (before : Option ℕ) → before ≡ (if is_up core.state then Some core.state.link.session else None) → (ended : Option SessionEnd) → ended ≡ end_after core' before → ended ≡ o.ended
ended_is core core' entry o added before was ended now =
    now ∙ ap (end_after core') was ∙ by_up core core' entry o added (is_up core.state) refl
