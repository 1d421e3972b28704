use Rattle.std.proofs.Common.{◌≡◌, ◌≤◌, ◌+◌, List, [], ◌∷◌, ◌++◌, true, Some, None, IfSome, length, if◌then◌else◌, refl, ap, subst, sym, ◌∙◌}
use Rattle.tool_events.specs.declared.config.Config.{Config}
use Rattle.tool_events.specs.declared.entry.Entry.{Entry}
use Rattle.tool_events.specs.Configs.{IsConfig}
use Rattle.gem_model.specs.State.{State, opening, is_up}
use Rattle.gem_model.specs.Step.{Outcome, step}
use Rattle.gem_model.specs.Run.{Run, entry_step}
use Rattle.gem_model.specs.Sizes.{counted}
use Rattle.gem_model.proofs.Runs.{Run-snoc}
use Rattle.history_laws.specs.Recorded.{Recorded}
use Rattle.history_parts.specs.Additions.{done_by, completed_by}
use Rattle.history_parts.specs.Totals.{totals_at}
use Rattle.history_parts.specs.CoreInside.{state_of}
use Rattle.history_parts.specs.CoreView.{CoreView}
use Rattle.history_parts.proofs.Summing.{totals-snoc}
use Rattle.history_parts.proofs.Replaying.{GoesOn, goes-snoc, state-snoc, taker_fits}
use Rattle.history_laws.proofs.Recording.{recorded-of}
use Rattle.tool_core.proofs.tool.Core.record.Goals as goal

pub returns-then-must_wait-clause-recorded : goal.returns-then-must_wait-clause-recorded
returns-then-must_wait-clause-recorded c = rw (← c.self.view_is) (recorded-of _ _ _ c.self.invariant.config c.self.invariant.run)

pub returns-in_err-make_space-clause-recorded : goal.returns-in_err-make_space-clause-recorded
returns-in_err-make_space-clause-recorded c = rw (c.in_err-make_space.ensures.entries) (recorded-of _ _ _ c.self.invariant.config c.self.invariant.run)

pub returns-in_default-clause-recorded : goal.returns-in_default-clause-recorded
returns-in_default-clause-recorded c = rw (c.in_ok-make_space.ensures.entries) (recorded-of _ _ _ c.self.invariant.config c.self.invariant.run)

-- all that is recorded holds of a history that goes on by one entry
recorded-next : (c : Config) (history : List Entry) (entry : Entry) (o : Outcome) → IsConfig c → Run (opening c) history (state_of c history) → entry_step (state_of c history) entry ≡ Some o → Recorded c (history ++ entry ∷ []) (state_of c (history ++ entry ∷ []))
recorded-next c history entry o bounds run here =
    recorded-of c (history ++ entry ∷ []) (state_of c (history ++ entry ∷ [])) bounds
    (subst (λ (h : State). Run (opening c) (history ++ entry ∷ []) h) (sym (state-snoc c history entry o run here)) (Run-snoc (opening c) history (state_of c history) entry o run here))

pub returns-clause-recorded : goal.returns-clause-recorded
returns-clause-recorded c =
    let k = c.self.inside in
    let i = c.self.invariant in
    let whole : k.is_whole ≡ true = ap (λ (v : CoreView). v.is_whole) c.self.view_is ∙ c.requires.whole in
    let there : c.deref_mut.result.now ≡ state_of k.config k.entries.items = c.deref_mut.ensures.value ∙ i.plant_is whole in
    let o : Outcome = record { answer = c.take_event.new.reaction.answer; ended = c.take_event.new.reaction.ended; after = c.take_event.new.plant } in
    let here : step (state_of k.config k.entries.items) c.args.at.0 c.args.event ≡ Some o = subst (λ (g : State). step g c.args.at.0 c.args.event ≡ Some o) there (c.in-Ok.ensures.steps) in
    let entry : Entry = record { seat = c.args.seat; at = c.args.at; event = c.args.event } in
    rw (c.push_reserved.ensures.items, c.in_ok-make_space.ensures.entries) (recorded-next k.config k.entries.items entry o i.config i.run here)

pub invariant_of-self-2 : goal.invariant_of-self-2
invariant_of-self-2 c =
    let k = c.self.inside in
    let i = c.self.invariant in
    let told = c.in-Ok.told in
    let reaction = c.take_event.new.reaction in
    let new = c.take_event.new.plant in
    let old : State = state_of k.config k.entries.items in
    let whole : k.is_whole ≡ true = ap (λ (v : CoreView). v.is_whole) c.self.view_is ∙ c.requires.whole in
    let there : c.deref_mut.result.now ≡ old = c.deref_mut.ensures.value ∙ i.plant_is whole in
    let o : Outcome = record { answer = reaction.answer; ended = reaction.ended; after = new } in
    let here : step old c.args.at.0 c.args.event ≡ Some o = subst (λ (g : State). step g c.args.at.0 c.args.event ≡ Some o) there (c.in-Ok.ensures.steps) in
    let before : GoesOn k.config k.entries.items k.ends.items k.written k.bytes = record { config = i.config; run = i.run; sessions = rw i.sessions_are at i.sessions; ended = i.ended; written = i.written; bytes_are = i.bytes_are; entries_fit = i.entries_fit; bytes_fit = i.bytes_fit } in
    let entry : Entry = record { seat = c.args.seat; at = c.args.at; event = c.args.event } in
    let after = state-snoc k.config k.entries.items entry o i.run here in
    let sessions = c.in-Ok.ensures.sessions in
    let up = c.in-Ok.ensures.up in
    let counts = subst (λ (g : State). told.totals ≡ totals_at new (k.totals.done + done_by g c.args.event) (k.totals.completed + counted (completed_by g c.args.at.0 c.args.event))) there c.in-Ok.ensures.totals in
    let totals = totals-snoc k.config k.entries.items old entry o k.totals (done_by old c.args.event) (counted (completed_by old c.args.at.0 c.args.event)) i.run here i.totals_are refl refl in
    let goes = goes-snoc k.config k.entries.items k.ends.items k.written c.add_taken.new.counts k.bytes entry o before (rw (← c.self.view_is) at c.requires.room) here (λ n count is. c.add_taken.ensures n count (c.in_ok-make_space.ensures.counts n ∙ is)) in
    rw (c.push_reserved.ensures.items, c.in_ok-make_space.ensures.entries, c.add_end.ensures, c.in_ok-make_space.ensures.ends, c.event_bytes.ensures.value, sessions, up) (record {
      config = goes.config;
      run = goes.run;
      plant_is = λ _. sym after;
      sessions_are = ap (λ (g : State). g.link.session) (sym after);
      up_is = ap is_up (sym after);
      sessions = rw after at goes.sessions;
      ended = goes.ended;
      written = goes.written;
      bytes_are = goes.bytes_are;
      totals_are = counts ∙ totals;
      entries_fit = goes.entries_fit;
      bytes_fit = goes.bytes_fit;
    })

pub returns-clause-step : goal.returns-clause-step
returns-clause-step c = λ yes.
    let k = c.self.inside in
    let i = c.self.invariant in
    let told = c.in-Ok.told in
    let reaction = c.take_event.new.reaction in
    let whole : k.is_whole ≡ true = ap (λ (v : CoreView). v.is_whole) c.self.view_is ∙ c.requires.whole in
    let there : c.deref_mut.result.now ≡ state_of k.config k.entries.items = c.deref_mut.ensures.value ∙ i.plant_is whole in
    let o : Outcome = record { answer = reaction.answer; ended = reaction.ended; after = c.take_event.new.plant } in
    let here : step (state_of k.config k.entries.items) c.args.at.0 c.args.event ≡ Some o = subst (λ (g : State). step g c.args.at.0 c.args.event ≡ Some o) there (c.in-Ok.ensures.steps) in
    let entry : Entry = record { seat = c.args.seat; at = c.args.at; event = c.args.event } in (
      o,
      subst (λ (g : State). step g c.args.at.0 c.args.event ≡ Some o) (ap (λ (v : CoreView). v.state) c.self.view_is) here,
      refl,
      rw (c.push_reserved.ensures.items, c.in_ok-make_space.ensures.entries) (state-snoc k.config k.entries.items entry o i.run here),
    )

pub add_taken-requires : goal.add_taken-requires
add_taken-requires c =
    let k = c.self.inside in
    let i = c.self.invariant in
    let told = c.in-Ok.told in
    let reaction = c.take_event.new.reaction in
    let old : State = state_of k.config k.entries.items in
    let n = length c.make_space.new.written in
    let whole : k.is_whole ≡ true = ap (λ (v : CoreView). v.is_whole) c.self.view_is ∙ c.requires.whole in
    let there : c.deref_mut.result.now ≡ old = c.deref_mut.ensures.value ∙ i.plant_is whole in
    let o : Outcome = record { answer = reaction.answer; ended = reaction.ended; after = c.take_event.new.plant } in
    let here : step old c.args.at.0 c.args.event ≡ Some o = subst (λ (g : State). step g c.args.at.0 c.args.event ≡ Some o) there (c.in-Ok.ensures.steps) in
    let room : IfSome (if is_up old then Some old.link.session else None) (λ k. k ≤ n) = rw (c.session_up-up.ensures.session, ← c.self.view_is) at c.in_ok-make_space.ensures.for_session in
    taker_fits k.config k.entries.items c.args.at.0 n c.args.event o i.run here room
