-- What the engine does for `feed`: the lines of its answers are out.
use Rattle.std.proofs.Common.{◌≡◌, ◌⊎◌, ℕ, ◌<◌, inl, inr, List, [], ◌∷◌, ◌++◌, Option, Some, Result, Ok, Err, refl, sym, ◌∙◌, ap, subst, append_assoc, arith, length, length-append}
use Rattle.std.proofs.lemmas.List.{append-nil}
use Rattle.outside.specs.Told.{Written, WrittenFront}
use Rattle.outside.proofs.Writing.{Written-more, WrittenFront-all, WrittenFront-more, WrittenFront-wider}
use Rattle.tool_events.specs.declared.config.Config.{Config}
use Rattle.tool_events.specs.declared.entry.Entry.{Entry}
use Rattle.line_grammar.specs.Texts.{IsFront}
use Rattle.gem_model.specs.State.{State, opening}
use Rattle.gem_model.specs.Step.{Outcome}
use Rattle.gem_model.specs.Run.{Run}
use Rattle.gem_model.specs.Feed.{Given}
use Rattle.gem_model.specs.Printed.{printed, outcome_lines}
use Rattle.gem_model.proofs.Runs.{Run-snoc}
use Rattle.gem_model.proofs.Printing.{printed-snoc}
use Rattle.history_parts.specs.CoreView.{CoreView}
use Rattle.driving.specs.declared.handler.Stop.{Stop}
use Rattle.driving.specs.declared.handler.Stop.TheVariants as stop
use Rattle.driving.specs.declared.handler.Unhandled.{Unhandled}
use Rattle.driving.specs.declared.handler.Unhandled.TheVariants as unhandled
use Rattle.driving.specs.Driving.{Handed, HandedButLast, Drives}
use Rattle.driving.proofs.Fronts.{IsFront-append, IsFront-behind}
use Rattle.driving.proofs.Parts.{Handed-run}
use Rattle.line_feeding.specs.declared.halt.Halt.TheVariants as halt
use Rattle.line_feeding.specs.Going.{SinkView, Shows, Goes}
use Rattle.line_feeding.proofs.Going.{Failed-wider, stay_then}
use Rattle.feeding.specs.Printing.{prints, halted}

-- no write failed while the answers were printed
counts : {K : Type 0} (see : K → SinkView) (g : State) (entries : List Entry) (h : State) (out out' : K) → Handed (prints see) g entries h out out' → ((see out').faults ≡ (see out).faults) × ((see out').refusals ≡ (see out).refusals)
counts see g [] h out out' handed = (ap (λ k. (see k).faults) handed.1, ap (λ k. (see k).refusals) handed.1)
counts see g (entry ∷ entries) h out out' handed =
    stay_then (see out) (see handed.1) (see out') (handed.3.faults, handed.3.refusals) (counts see handed.0.after entries h handed.1 out' handed.4)

-- and their lines are out, behind those of the history before
lines : {K : Type 0} (see : K → SinkView) (start : Option (List ℕ)) (first : State) (history : List Entry) (g : State) (entries : List Entry) (h : State) (out out' : K) → Run first history g → Handed (prints see) g entries h out out' → Written start (see out).held (printed first history) → Written start (see out').held (printed first (history ++ entries))
lines see start first history g [] h out out' ran handed shows = rw (handed.1, append-nil history) shows
lines see start first history g (entry ∷ entries) h out out' ran handed shows =
    let o = handed.0 in
    let now : Written start (see handed.1).held (printed first (history ++ entry ∷ [])) =
    rw (printed-snoc first history g entry o ran handed.2) (Written-more start (see out).held (see handed.1).held (printed first history) (outcome_lines entry.event o) shows handed.3.written) in
    subst (λ (es : List Entry). Written start (see out').held (printed first es)) (append_assoc history (entry ∷ []) entries)
    (lines see start first (history ++ entry ∷ []) o.after entries h handed.1 out' (Run-snoc first history g entry o ran handed.2) handed.4 now)

-- behind what was held at the start, the lines of the whole history are out
all_out : {K : Type 0} (see : K → SinkView) (start : Option (List ℕ)) (core core' : CoreView) (added : List Entry) (out out' : K) → core'.config ≡ core.config → core'.history ≡ core.history ++ added → Run (opening core.config) core.history core.state → Handed (prints see) core.state added core'.state out out' → Shows start (see out) core → Shows start (see out') core'
all_out see start core core' added out out' config history ran handed shows =
    rw (config, history) (lines see start (opening core.config) core.history core.state added core'.state out out' ran handed shows)

-- the lines of all are those of the entries before the last, and its own
last_lines : {K : Type 0} (see : K → SinkView) (why : Unhandled) (core core' : CoreView) (added : List Entry) (out out' : K) → core'.config ≡ core.config → core'.history ≡ core.history ++ added → Run (opening core.config) core.history core.state → (h : HandedButLast (prints see) why core.state added core'.state out out') → printed (opening core'.config) core'.history ≡ printed (opening core.config) (core.history ++ h.before) ++ outcome_lines h.last.event h.outcome
last_lines see why core core' added out out' config history ran h =
    ap (λ (c : Config). printed (opening c) core'.history) config
    ∙ ap (printed (opening core.config)) (history ∙ ap (λ (es : List Entry). core.history ++ es) h.joined ∙ sym (append_assoc core.history h.before (h.last ∷ [])))
    ∙ printed-snoc (opening core.config) (core.history ++ h.before) h.state h.last h.outcome (Handed-run (prints see) (opening core.config) core.history core.state h.before h.state out h.between ran h.handed) h.here

before_out : {K : Type 0} (see : K → SinkView) (start : Option (List ℕ)) (why : Unhandled) (core core' : CoreView) (added : List Entry) (out out' : K) → Run (opening core.config) core.history core.state → Shows start (see out) core → (h : HandedButLast (prints see) why core.state added core'.state out out') → Written start (see h.between).held (printed (opening core.config) (core.history ++ h.before))
before_out see start why core core' added out out' ran shows h =
    lines see start (opening core.config) core.history core.state h.before h.state out h.between ran h.handed shows

-- What was added is longer than nothing.
longer : (core core' : CoreView) (added before : List Entry) (last : Entry) → core'.history ≡ core.history ++ added → added ≡ before ++ last ∷ [] → length core.history < length core'.history
longer core core' added before last history joined =
    omega (arith, ap length history, length-append core.history added, ap length joined, length-append before (last ∷ []))

front : (core core' : CoreView) (added : List Entry) (given : Given) → core'.history ≡ core.history ++ added → IsFront added given.entries → IsFront core'.history (core.history ++ given.entries)
front core core' added given history h = rw history (IsFront-behind core.history added given.entries h)

grows : (core core' : CoreView) (added : List Entry) → core'.history ≡ core.history ++ added → IsFront core.history core'.history
grows core core' added history = record { behind = added; joined = history }

-- From a core whose history led to its state: what the engine does with a printer is what a part of feed does.
pub Goes-driven : {K : Type 0} (see : K → SinkView) (core core' : CoreView) (out out' : K) (given : Given) (result : Result (Unit {0}) Stop) → Run (opening core.config) core.history core.state → Drives (prints see) core core' out out' given result → Goes core core' (see out) (see out') given (halted result)
Goes-driven see core core' out out' given (Ok done) ran h =
    let stay = counts see core.state h.added core'.state out out' h.handed in
    record {
      config = h.config;
      went = (h.history ∙ ap (λ (es : List Entry). core.history ++ es) h.went.0, h.went.1);
      grows = grows core core' h.added h.history;
      wrote = λ e. absurd (cc);
      shows = λ start shows. all_out see start core core' h.added out out' h.config h.history ran h.handed shows;
      cause = λ e. absurd (cc);
      unfailed = λ other. stay;
      faults_stay = omega (arith, stay.0);
      refusals_stay = omega (arith, stay.1);
    }
Goes-driven see core core' out out' given (Err stop.Full) ran h =
    let stay = counts see core.state h.added core'.state out out' h.handed in
    record {
      config = h.config;
      went = h.went;
      grows = grows core core' h.added h.history;
      wrote = λ e. absurd (cc);
      shows = λ start shows. all_out see start core core' h.added out out' h.config h.history ran h.handed shows;
      cause = λ e. absurd (cc);
      unfailed = λ other. stay;
      faults_stay = omega (arith, stay.0);
      refusals_stay = omega (arith, stay.1);
    }
Goes-driven see core core' out out' given (Err stop.NoMemory) ran h = no_memory h.handed
  where
    no_memory : Handed (prints see) core.state h.added core'.state out out' ⊎ HandedButLast (prints see) unhandled.NoMemory core.state h.added core'.state out out' → Goes core core' (see out) (see out') given (Err halt.NoMemory)
    no_memory (inl handed) =
        let stay = counts see core.state h.added core'.state out out' handed in
        record {
          config = h.config;
          went = front core core' h.added given h.history h.went;
          grows = grows core core' h.added h.history;
          wrote = λ e. absurd (cc);
          shows = λ start shows. WrittenFront-all start (see out').held (printed (opening core'.config) core'.history) (all_out see start core core' h.added out out' h.config h.history ran handed shows);
          cause = λ e. absurd (cc);
          unfailed = λ other. stay;
          faults_stay = omega (arith, stay.0);
          refusals_stay = omega (arith, stay.1);
        }
    no_memory (inr last) =
        let same : see out' ≡ see last.between = last.handled in
        let before = counts see core.state last.before last.state out last.between last.handed in
        let stay = stay_then (see out) (see last.between) (see out') before (ap (λ (o : SinkView). o.faults) same, ap (λ (o : SinkView). o.refusals) same) in
        record {
          config = h.config;
          went = front core core' h.added given h.history h.went;
          grows = grows core core' h.added h.history;
          wrote = λ e. absurd (cc);
          shows = λ start shows. rw (last_lines see unhandled.NoMemory core core' h.added out out' h.config h.history ran last, same)
              (WrittenFront-wider start (see last.between).held (printed (opening core.config) (core.history ++ last.before)) (outcome_lines last.last.event last.outcome)
              (WrittenFront-all start (see last.between).held (printed (opening core.config) (core.history ++ last.before)) (before_out see start unhandled.NoMemory core core' h.added out out' ran shows last)));
          cause = λ e. absurd (cc);
          unfailed = λ other. stay;
          faults_stay = omega (arith, stay.0);
          refusals_stay = omega (arith, stay.1);
        }
Goes-driven see core core' out out' given (Err stop.Refused) ran h =
    let last = h.handed in
    let before = counts see core.state last.before last.state out last.between last.handed in
    record {
      config = h.config;
      went = front core core' h.added given h.history h.went;
      grows = grows core core' h.added h.history;
      wrote = λ e. longer core core' h.added last.before last.last h.history last.joined;
      shows = λ start shows. rw (last_lines see unhandled.Refused core core' h.added out out' h.config h.history ran last)
          (WrittenFront-more start (see last.between).held (see out').held (printed (opening core.config) (core.history ++ last.before)) (outcome_lines last.last.event last.outcome)
          (before_out see start unhandled.Refused core core' h.added out out' ran shows last) last.handled.front);
      cause = λ e. Failed-wider (see out).faults (see last.between).faults (see out').faults (see out).refusals (see last.between).refusals (see out').refusals
          (omega (arith, before.0)) last.handled.faults_stay (omega (arith, before.1)) last.handled.refusals_stay last.handled.cause;
      unfailed = λ other. absurd (other refl);
      faults_stay = omega (arith, before.0, last.handled.faults_stay);
      refusals_stay = omega (arith, before.1, last.handled.refusals_stay);
    }
