-- The history goes on.
use Rattle.std.proofs.Common.{◌≡◌, ℕ, ◌+◌, ◌<◌, ◌≤◌, Bool, false, if◌then◌else◌, Some, None, arith, length, length-append, List, [], ◌∷◌, ◌++◌, refl, ap, sym, ◌∙◌, subst}
use Rattle.std.specs.Prelude.{IfSome}
use Rattle.std.proofs.lemmas.List.Sums.{sum_by-append}
use Rattle.std.specs.Option.{option_to_list}
use Rattle.tool_events.specs.declared.config.Config.{Config}
use Rattle.tool_events.specs.declared.entry.Entry.{Entry}
use Rattle.tool_events.specs.declared.event.Event.{Event}
use Rattle.tool_events.specs.declared.event.Event.TheVariants.{Take}
use Rattle.tool_events.specs.declared.event.SessionEnd.{SessionEnd}
use Rattle.tool_events.specs.declared.answer.Answer.{Answer}
use Rattle.tool_events.specs.declared.answer.Answer.TheVariants as answer
use Rattle.tool_events.specs.Sizes.{event_bytes}
use Rattle.gem_model.specs.State.{State, opening, is_up}
use Rattle.gem_model.specs.Step.{Outcome, step}
use Rattle.gem_model.specs.Run.{Run, entry_step}
use Rattle.gem_model.specs.Sessions.{ended_in, ends_of, session_out, frame_taken}
use Rattle.tool_events.specs.Configs.{IsConfig}
use Rattle.gem_model.specs.Sizes.{bytes_of, counted, is_full}
use Rattle.gem_model.proofs.Runs.{Run-snoc, told-snoc, after_all-run}
use Rattle.gem_model.proofs.Steps.{step_keeps}
use Rattle.gem_model.proofs.Ends.{up-numbered}
use Rattle.gem_model.proofs.Out.{session_out-snoc, frame-up}
use Rattle.gem_model.proofs.Taking.{up_is}
use Rattle.history_parts.specs.Counts.{count_of, taker}
use Rattle.history_parts.specs.CoreInside.{state_of}

pub bytes_of-snoc : (history : List Entry) (entry : Entry) → bytes_of (history ++ entry ∷ []) ≡ bytes_of history + event_bytes entry.event
bytes_of-snoc history entry =
    let total = sum_by-append (λ (e : Entry). event_bytes e.event) history (entry ∷ []) in
    let one : bytes_of (entry ∷ []) ≡ event_bytes entry.event = omega arith in
    omega arith

-- what an entry takes adds to the count of what went out
written-snoc : (c : Config) (state : State) (history : List Entry) (entry : Entry) (o : Outcome) (session : ℕ) → Run (opening c) history state → entry_step state entry ≡ Some o → counted (length (session_out (opening c) history session) + length (frame_taken entry.event o.answer session)) ≡ counted (length (session_out (opening c) (history ++ entry ∷ []) session))
written-snoc c state history entry o session run here =
    ap counted (sym (ap length (session_out-snoc (opening c) history state entry o session run here)
    ∙ length-append (session_out (opening c) history session) (frame_taken entry.event o.answer session)))

-- What is kept beside a history, as it goes on by an entry.
pub record GoesOn (c : Config) (history : List Entry) (ends : List SessionEnd) (counts : List ℕ) (bytes : ℕ) : Type 0 where
  pub config : IsConfig c
  pub run : Run (opening c) history (state_of c history)
  pub sessions : (state_of c history).link.session ≤ length history
  pub ended : ends ≡ ends_of (opening c) history
  pub written : (session : ℕ) → count_of counts session ≡ counted (length (session_out (opening c) history session))
  pub bytes_are : bytes ≡ bytes_of history
  pub entries_fit : length history ≤ c.max_entries
  pub bytes_fit : bytes ≤ c.max_bytes

-- the state behind an entry more
pub state-snoc : (c : Config) (history : List Entry) (entry : Entry) (o : Outcome) → Run (opening c) history (state_of c history) → entry_step (state_of c history) entry ≡ Some o → state_of c (history ++ entry ∷ []) ≡ o.after
state-snoc c history entry o run here =
    after_all-run (opening c) (history ++ entry ∷ []) o.after (Run-snoc (opening c) history (state_of c history) entry o run here)

pub goes-snoc : (c : Config) (history : List Entry) (ends : List SessionEnd) (counts more : List ℕ) (bytes : ℕ) (entry : Entry) (o : Outcome) → GoesOn c history ends counts bytes → is_full c history entry.event ≡ false → entry_step (state_of c history) entry ≡ Some o → ((k n : ℕ) → count_of counts k ≡ counted n → count_of more k ≡ counted (n + length (frame_taken entry.event o.answer k))) → GoesOn c (history ++ entry ∷ []) (ends ++ option_to_list o.ended) more (bytes + event_bytes entry.event)
goes-snoc c history ends counts more bytes entry o goes room here adds =
    let before = goes.sessions in
    let rises = (step_keeps (state_of c history) entry.at.0 entry.event o here).session in
    let is = goes.bytes_are in
    let grown = bytes_of-snoc history entry in
    let after = state-snoc c history entry o goes.run here in
    let number = ap (λ (g : State). g.link.session) after in
    record {
      config = goes.config;
      run = subst (λ (h : State). Run (opening c) (history ++ entry ∷ []) h) (sym after) (Run-snoc (opening c) history (state_of c history) entry o goes.run here);
      sessions = omega (arith, length-append history (entry ∷ []));
      ended = ap (λ (es : List SessionEnd). es ++ option_to_list o.ended) goes.ended
          ∙ sym (told-snoc ended_in (opening c) history (state_of c history) entry o goes.run here);
      written = λ k. adds k _ (goes.written k) ∙ written-snoc c (state_of c history) history entry o k goes.run here;
      bytes_are = omega arith;
      entries_fit = grind (arith, room, length-append history (entry ∷ []));
      bytes_fit = grind (arith, room, is);
    }

-- the session whose writer takes a frame is the one that is up, for which there is room
taker_fits-frame : (c : Config) (history : List Entry) (at session n : ℕ) (o : Outcome) (a : Answer) → Run (opening c) history (state_of c history) → step (state_of c history) at (Take session) ≡ Some o → IfSome (if is_up (state_of c history) then Some (state_of c history).link.session else None) (λ k. k ≤ n) → o.answer ≡ a → IfSome (taker (Take session) a) (λ k. (0 < k) × (k ≤ n))
taker_fits-frame c history at session n o (answer.Frame frame) run here room is =
    let g : State = state_of c history in
    let up = up_is g session (frame-up g at session o frame here is) in
    let some = up-numbered c history g run up.0 in
    let fits : g.link.session ≤ n = subst (λ (b : Bool). IfSome (if b then Some g.link.session else None) (λ k. k ≤ n)) up.0 room in
    (rw up.1 at some, rw up.1 at fits)
taker_fits-frame c history at session n o _ run here room is = tt

pub taker_fits : (c : Config) (history : List Entry) (at n : ℕ) (event : Event) (o : Outcome) → Run (opening c) history (state_of c history) → step (state_of c history) at event ≡ Some o → IfSome (if is_up (state_of c history) then Some (state_of c history).link.session else None) (λ k. k ≤ n) → IfSome (taker event o.answer) (λ k. (0 < k) × (k ≤ n))
taker_fits c history at n (Take session) o run here room = taker_fits-frame c history at session n o o.answer run here room refl
taker_fits c history at n _ o run here room = tt
