-- Answers, and commands that are done, one after another.
use Rattle.std.proofs.Common.{◌≡◌, ℕ, zero, suc, List, [], ◌∷◌, ◌++◌, Option, Some, None, Result, Ok, Err, refl, sym, ◌∙◌, ap, subst}
use Rattle.std.proofs.lemmas.List.{append-nil}
use Rattle.tool_events.specs.declared.config.Config.{Config}
use Rattle.tool_events.specs.declared.event.Event.{Event}
use Rattle.tool_events.specs.declared.event.Event.TheVariants as event
use Rattle.tool_events.specs.declared.event.Signal.TheVariants as signal
use Rattle.sim_modules.specs.Drawing.{drawn}
use Rattle.history_parts.specs.CoreView.{CoreView}
use Rattle.batch_model.specs.declared.primary.Primary.{Primary}
use Rattle.batch_model.specs.declared.fetched.Fetched.{Fetched}
use Rattle.batch_model.specs.Host.{answer_to}
use Rattle.batch_model.specs.Modules.{chosen}
use Rattle.batch_model.specs.Batch.{Standing, Made, nothing_made, then_made, entered, all_entered, told, answered_oldest, answers_by, answers, busy, done_one, dones_by}
use Rattle.batching.specs.declared.batch.Stop.{Stop}
use Rattle.batching.specs.declared.batch.Stop.TheVariants as stop
use Rattle.batching.specs.Making.{BatchView, standing, Makes}
use Rattle.batching.proofs.Making.{Makes-nothing, Makes-unmade, Makes-then, Makes-stops}

-- ---- inputs

pub Makes-enter : (a b c : BatchView) (all : List Event) (e : Event) (es : List Event) (result : Result (Unit {0}) Stop) → all ≡ e ∷ es → Makes a.core b (entered e (standing a)) (Ok tt) → Makes b.core c (all_entered es (standing b)) result → Makes a.core c (all_entered all (standing a)) result
Makes-enter a b c all e es result is first rest =
    subst (λ (xs : List Event). Makes a.core c (all_entered xs (standing a)) result) (sym is)
    (Makes-then a.core b c (entered e (standing a)) (all_entered es) result first rest)

pub Makes-enter-stops : (a b : BatchView) (all : List Event) (e : Event) (es : List Event) (why : Stop) → all ≡ e ∷ es → Makes a.core b (entered e (standing a)) (Err why) → Makes a.core b (all_entered all (standing a)) (Err why)
Makes-enter-stops a b all e es why is first =
    subst (λ (xs : List Event). Makes a.core b (all_entered xs (standing a)) (Err why)) (sym is)
    (Makes-stops a.core b (entered e (standing a)) (all_entered es) why first)

pub Makes-enter-none : (a : BatchView) (all : List Event) → all ≡ [] → Makes a.core a (all_entered all (standing a)) (Ok tt)
Makes-enter-none a all none =
    subst (λ (xs : List Event). Makes a.core a (all_entered xs (standing a)) (Ok tt)) (sym none) (Makes-nothing a)

-- ---- answers

-- the oldest message is answered
abbrev answered : Config → Primary → List Primary → Standing → Made
answered c p ps s = entered (told (answer_to c.device p)) (record s { asked = ps })

answers-next : (c : Config) (s : Standing) (left next : ℕ) (p : Primary) (ps : List Primary) → left ≡ suc next → s.asked ≡ p ∷ ps → answers_by left c s ≡ then_made (answered c p ps s) (answers_by next c)
answers-next c s left next p ps left_is asked =
    ap (λ (n : ℕ). answers_by n c s) left_is ∙ ap (λ (qs : List Primary). answered_oldest c qs s (answers_by next c)) asked

pub Makes-answer : (config : Config) (a b c : BatchView) (left next : ℕ) (p : Primary) (ps : List Primary) (result : Result (Unit {0}) Stop) → left ≡ suc next → a.asked ≡ p ∷ ps → Makes a.core b (answered config p ps (standing a)) (Ok tt) → Makes b.core c (answers_by next config (standing b)) result → Makes a.core c (answers_by left config (standing a)) result
Makes-answer config a b c left next p ps result left_is asked first rest =
    subst (λ (made : Made). Makes a.core c made result) (sym (answers-next config (standing a) left next p ps left_is asked))
    (Makes-then a.core b c (answered config p ps (standing a)) (answers_by next config) result first rest)

pub Makes-answer-stops : (config : Config) (a b : BatchView) (left next : ℕ) (p : Primary) (ps : List Primary) (why : Stop) → left ≡ suc next → a.asked ≡ p ∷ ps → Makes a.core b (answered config p ps (standing a)) (Err why) → Makes a.core b (answers_by left config (standing a)) (Err why)
Makes-answer-stops config a b left next p ps why left_is asked first =
    subst (λ (made : Made). Makes a.core b made (Err why)) (sym (answers-next config (standing a) left next p ps left_is asked))
    (Makes-stops a.core b (answered config p ps (standing a)) (answers_by next config) why first)

answers-none : (c : Config) (s : Standing) (left : ℕ) → s.asked ≡ [] → answers_by left c s ≡ nothing_made s
answers-none c s zero none = refl
answers-none c s (suc left) none = ap (λ (qs : List Primary). answered_oldest c qs s (answers_by left c)) none

-- no message is left
pub Makes-answer-none : (config : Config) (a b : BatchView) (left : ℕ) → b.core ≡ a.core → b.drawn ≡ a.drawn → a.asked ≡ b.asked → a.asked ≡ [] → Makes a.core b (answers_by left config (standing a)) (Ok tt)
Makes-answer-none config a b left core drawn asked none =
    subst (λ (made : Made). Makes a.core b made (Ok tt)) (sym (answers-none config (standing a) left none)) (record {
      config = ap (λ (k : CoreView). k.config) core;
      on = (
        ap (λ (k : CoreView). k.history) core ∙ sym (append-nil a.core.history),
        ap (λ (k : CoreView). record { state = k.state; asked = b.asked; drawn_last = b.drawn }) core
            ∙ ap (λ (ps : List Primary). record { state = a.core.state; asked = ps; drawn_last = b.drawn }) (sym asked)
            ∙ ap (λ (n : ℕ). record { state = a.core.state; asked = a.asked; drawn_last = n }) drawn,
      );
    })

-- no more are answered
pub Makes-answer-end : (config : Config) (a : BatchView) (left : ℕ) → left ≡ 0 → Makes a.core a (answers_by left config (standing a)) (Ok tt)
Makes-answer-end config a left end =
    subst (λ (n : ℕ). Makes a.core a (answers_by n config (standing a)) (Ok tt)) (sym end) (Makes-nothing a)

-- ---- commands that are done

-- a module does its command
abbrev did : Fetched → Standing → Made
did m s = entered (event.Signal (signal.Done m.number m.command)) (record s { drawn_last = drawn s.drawn_last })

-- the next is done, and then more
abbrev next_done : Config → ℕ → Standing → Made
next_done c n t = done_one (drawn t.drawn_last) (chosen (drawn t.drawn_last) (busy t.state)) t (dones_by n c)

-- what was answered, and then what was done
answered_then : (config : Config) (a b c : BatchView) (left next : ℕ) (result : Result (Unit {0}) Stop) → left ≡ suc next → Makes a.core b (answers config (standing a)) (Ok tt) → Makes b.core c (next_done config next (standing b)) result → Makes a.core c (dones_by left config (standing a)) result
answered_then config a b c left next result left_is first second =
    subst (λ (n : ℕ). Makes a.core c (dones_by n config (standing a)) result) (sym left_is)
    (Makes-then a.core b c (answers config (standing a)) (next_done config next) result first second)

-- the one that was chosen
chosen_is : (config : Config) (b c : BatchView) (next : ℕ) (o : Option Fetched) (result : Result (Unit {0}) Stop) → o ≡ chosen (drawn b.drawn) (busy b.core.state) → Makes b.core c (done_one (drawn b.drawn) o (standing b) (dones_by next config)) result → Makes b.core c (next_done config next (standing b)) result
chosen_is config b c next o result is h =
    subst (λ (m : Option Fetched). Makes b.core c (done_one (drawn b.drawn) m (standing b) (dones_by next config)) result) is h

pub Makes-work : (config : Config) (a b d c : BatchView) (left next : ℕ) (m : Fetched) (result : Result (Unit {0}) Stop) → left ≡ suc next → Makes a.core b (answers config (standing a)) (Ok tt) → Some m ≡ chosen (drawn b.drawn) (busy b.core.state) → Makes b.core d (did m (standing b)) (Ok tt) → Makes d.core c (dones_by next config (standing d)) result → Makes a.core c (dones_by left config (standing a)) result
Makes-work config a b d c left next m result left_is first is second rest =
    answered_then config a b c left next result left_is first
    (chosen_is config b c next (Some m) result is (Makes-then b.core d c (did m (standing b)) (dones_by next config) result second rest))

pub Makes-work-stops : (config : Config) (a b d : BatchView) (left next : ℕ) (m : Fetched) (why : Stop) → left ≡ suc next → Makes a.core b (answers config (standing a)) (Ok tt) → Some m ≡ chosen (drawn b.drawn) (busy b.core.state) → Makes b.core d (did m (standing b)) (Err why) → Makes a.core d (dones_by left config (standing a)) (Err why)
Makes-work-stops config a b d left next m why left_is first is second =
    answered_then config a b d left next (Err why) left_is first
    (chosen_is config b d next (Some m) (Err why) is (Makes-stops b.core d (did m (standing b)) (dones_by next config) why second))

-- no module has a command
pub Makes-work-none : (config : Config) (a b : BatchView) (left next : ℕ) → left ≡ suc next → Makes a.core b (answers config (standing a)) (Ok tt) → None ≡ chosen (drawn b.drawn) (busy b.core.state) → Makes a.core b (dones_by left config (standing a)) (Ok tt)
Makes-work-none config a b left next left_is first is =
    answered_then config a b b left next (Ok tt) left_is first (chosen_is config b b next None (Ok tt) is (Makes-nothing b))

-- there is no memory to choose
pub Makes-work-memory : (config : Config) (a b : BatchView) (left next : ℕ) → left ≡ suc next → Makes a.core b (answers config (standing a)) (Ok tt) → Makes a.core b (dones_by left config (standing a)) (Err stop.NoMemory)
Makes-work-memory config a b left next left_is first =
    answered_then config a b b left next (Err stop.NoMemory) left_is first (Makes-unmade b.core b (next_done config next (standing b)) refl)

-- the answers stop
pub Makes-work-unanswered : (config : Config) (a b : BatchView) (left next : ℕ) (why : Stop) → left ≡ suc next → Makes a.core b (answers config (standing a)) (Err why) → Makes a.core b (dones_by left config (standing a)) (Err why)
Makes-work-unanswered config a b left next why left_is first =
    subst (λ (n : ℕ). Makes a.core b (dones_by n config (standing a)) (Err why)) (sym left_is)
    (Makes-stops a.core b (answers config (standing a)) (next_done config next) why first)

-- no more are done
pub Makes-work-end : (config : Config) (a : BatchView) (left : ℕ) → left ≡ 0 → Makes a.core a (dones_by left config (standing a)) (Ok tt)
Makes-work-end config a left end =
    subst (λ (n : ℕ). Makes a.core a (dones_by n config (standing a)) (Ok tt)) (sym end) (Makes-nothing a)
