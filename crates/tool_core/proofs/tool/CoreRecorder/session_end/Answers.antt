use Rattle.std.proofs.Common.{suc, ◌-◌, ◌≡◌, List, sym, ap, ◌∙◌, arith, slice_get, option_map}
use Rattle.tool_events.specs.declared.event.SessionEnd.{SessionEnd}
use Rattle.gem_model.proofs.Ends.{session_end-at, session_end-none}
use Rattle.tool_core.proofs.tool.CoreRecorder.session_end.Goals as goal

pub returns-then-session-eq0 : goal.returns-then-session-eq0
returns-then-session-eq0 c =
    rw (c.if-session-eq0.true, ← c.self.view_is) (sym (session_end-none _ _ _ c.self.invariant.run))

pub returns : goal.returns
returns c =
    let next : c.args.session ≡ suc (c.args.session - 1) = omega (arith, c.if-session-eq0.false) in
    rw (← c.self.view_is)
    (c.cause_at.ensures
    ∙ ap (λ (es : List SessionEnd). option_map (λ (e : SessionEnd). e.cause) (slice_get es (c.args.session - 1))) (c.as_slice-ends.ensures.value ∙ c.self.invariant.ended)
    ∙ sym (session_end-at _ _ _ (c.args.session - 1) c.args.session c.self.invariant.run next))
