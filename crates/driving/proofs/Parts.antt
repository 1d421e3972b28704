-- The parts of an input, joined.
use Rattle.std.proofs.Common.{◌≡◌, ◌⊎◌, inl, inr, ℕ, true, List, [], ◌∷◌, ◌++◌, Option, Some, Result, Ok, Err, refl, sym, ◌∙◌, ap, subst, append_assoc}
use Rattle.std.proofs.lemmas.List.{append-nil}
use Rattle.gem_ids.specs.declared.numbers.ModuleId.{ModuleId}
use Rattle.tool_events.specs.declared.answer.Answer.{Answer}
use Rattle.tool_events.specs.declared.event.SessionEnd.{SessionEnd}
use Rattle.tool_events.specs.declared.entry.Entry.{Entry}
use Rattle.tool_events.specs.declared.event.Event.TheVariants.{Take}
use Rattle.gem_model.specs.State.{State}
use Rattle.gem_model.specs.Step.{Outcome, after}
use Rattle.gem_model.specs.Run.{Run, entry_after}
use Rattle.gem_model.specs.Sizes.{is_full}
use Rattle.gem_model.specs.Printed.{fetches}
use Rattle.gem_model.specs.Feed.{Given, nothing, entered, taken_all, fetched_one, fetched_by, and_then}
use Rattle.gem_model.proofs.Runs.{Run-snoc, after-step}
use Rattle.gem_model.proofs.Taking.{TakesOne}
use Rattle.history_parts.specs.CoreView.{CoreView}
use Rattle.driving.specs.declared.handler.Stop.{Stop}
use Rattle.driving.specs.declared.handler.Stop.TheVariants as stop
use Rattle.driving.specs.declared.handler.Unhandled.{Unhandled}
use Rattle.driving.specs.declared.handler.Unhandled.TheVariants as unhandled
use Rattle.driving.specs.Handling.{Handling}
use Rattle.driving.specs.Limits.{IsFullAt}
use Rattle.driving.specs.Driving.{Handed, HandedButLast, HandedTo, WentTo, Drives}
use Rattle.driving.proofs.Fronts.{IsFront-append, IsFront-wider, IsFront-same, IsFront-behind}
use Rattle.driving.proofs.Ended.{Added}

-- ---- one entry

-- what was handled is what the step tells
pub handled_as : {O : Type 0} (handles : Handling O) (m m' : Option ModuleId) (a a' : Answer) (e e' : Option SessionEnd) (out out' : O) (result result' : Result (Unit {0}) Unhandled) → m ≡ m' → a ≡ a' → e ≡ e' → result ≡ result' → handles m a e out out' result → handles m' a' e' out out' result'
handled_as handles m m' a a' e e' out out' result result' fetches answers ends how h =
    subst (λ (n : Option ModuleId). handles n a' e' out out' result') fetches
    (subst (λ (b : Answer). handles m b e' out out' result') answers
    (subst (λ (f : Option SessionEnd). handles m a f out out' result') ends
    (subst (λ (r : Result (Unit {0}) Unhandled). handles m a e out out' r) how h)))

-- what one entry gives
abbrev pub one : CoreView → Entry → Given
one core entry = record { entries = entry ∷ []; state = entry_after core.state entry }

-- its answer was handed on
pub Drives-added : {O : Type 0} (handles : Handling O) (core core' : CoreView) (out out' : O) (entry : Entry) (o : Outcome) → Added core core' entry o → handles (fetches entry.event) o.answer o.ended out out' (Ok tt) → Drives handles core core' out out' (one core entry) (Ok tt)
Drives-added handles core core' out out' entry o added handled = record {
  config = added.config;
  added = entry ∷ [];
  history = added.history;
  went = (refl, added.state ∙ sym (after-step core.state entry.at.0 entry.event o added.here));
  handed = (o, out', added.here, handled, (added.state, refl));
}

-- it was not
not_handed : {O : Type 0} (handles : Handling O) (why : Unhandled) (core core' : CoreView) (out out' : O) (entry : Entry) (o : Outcome) → Added core core' entry o → handles (fetches entry.event) o.answer o.ended out out' (Err why) → HandedButLast handles why core.state (entry ∷ []) core'.state out out'
not_handed handles why core core' out out' entry o added handled = record {
  before = [];
  last = entry;
  joined = refl;
  state = core.state;
  between = out;
  handed = (refl, refl);
  outcome = o;
  here = added.here;
  handled = handled;
  after = added.state;
}

pub Drives-refused : {O : Type 0} (handles : Handling O) (core core' : CoreView) (out out' : O) (entry : Entry) (o : Outcome) → Added core core' entry o → handles (fetches entry.event) o.answer o.ended out out' (Err unhandled.Refused) → Drives handles core core' out out' (one core entry) (Err stop.Refused)
Drives-refused handles core core' out out' entry o added handled = record {
  config = added.config;
  added = entry ∷ [];
  history = added.history;
  went = IsFront-same (entry ∷ []) (entry ∷ []) refl;
  handed = not_handed handles unhandled.Refused core core' out out' entry o added handled;
}

pub Drives-unhandled : {O : Type 0} (handles : Handling O) (core core' : CoreView) (out out' : O) (entry : Entry) (o : Outcome) → Added core core' entry o → handles (fetches entry.event) o.answer o.ended out out' (Err unhandled.NoMemory) → Drives handles core core' out out' (one core entry) (Err stop.NoMemory)
Drives-unhandled handles core core' out out' entry o added handled = record {
  config = added.config;
  added = entry ∷ [];
  history = added.history;
  went = IsFront-same (entry ∷ []) (entry ∷ []) refl;
  handed = inr (not_handed handles unhandled.NoMemory core core' out out' entry o added handled);
}

-- nothing was added to the history
pub record Unmoved (core core' : CoreView) : Type 0 where
  pub config : core'.config ≡ core.config
  pub history : core'.history ≡ core.history
  pub state : core'.state ≡ core.state

-- want of memory before anything was done
pub Drives-unmoved : {O : Type 0} (handles : Handling O) (core core' : CoreView) (out : O) (given : Given) → Unmoved core core' → Drives handles core core' out out given (Err stop.NoMemory)
Drives-unmoved handles core core' out given same = record {
  config = same.config;
  added = [];
  history = same.history ∙ sym (append-nil core.history);
  went = IsFront-append [] given.entries;
  handed = inl (same.state, refl);
}

-- the next entry doesn't fit the limits
pub Drives-full : {O : Type 0} (handles : Handling O) (core core' : CoreView) (out : O) (given : Given) (entry : Entry) (behind : List Entry) → Unmoved core core' → given.entries ≡ entry ∷ behind → is_full core.config core.history entry.event ≡ true → Drives handles core core' out out given (Err stop.Full)
Drives-full handles core core' out given entry behind same is full = record {
  config = same.config;
  added = [];
  history = same.history ∙ sym (append-nil core.history);
  went = record { next = entry; behind = behind; joined = rw same.history (ap (λ (es : List Entry). core.history ++ es) is); full = rw same.history full };
  handed = (same.state, refl);
}

-- nothing is given
pub Drives-nothing : {O : Type 0} (handles : Handling O) (core : CoreView) (out : O) → Drives handles core core out out (nothing core.state) (Ok tt)
Drives-nothing handles core out = record {
  config = refl;
  added = [];
  history = sym (append-nil core.history);
  went = (refl, refl);
  handed = (refl, refl);
}

-- ---- one part after another

Handed-append : {O : Type 0} (handles : Handling O) (g : State) (entries more : List Entry) (h k : State) (o1 o2 o3 : O) → Handed handles g entries h o1 o2 → Handed handles h more k o2 o3 → Handed handles g (entries ++ more) k o1 o3
Handed-append handles g [] more h k o1 o2 o3 first second =
    subst (λ (s : State). Handed handles s more k o1 o3) first.0 (subst (λ o. Handed handles h more k o o3) first.1 second)
Handed-append handles g (entry ∷ entries) more h k o1 o2 o3 first second =
    (first.0, first.1, first.2, first.3, Handed-append handles first.0.after entries more h k first.1 o2 o3 first.4 second)

-- the history leads on to where its answers were handed on to
pub Handed-run : {O : Type 0} (handles : Handling O) (first : State) (history : List Entry) (g : State) (entries : List Entry) (h : State) (out out' : O) → Run first history g → Handed handles g entries h out out' → Run first (history ++ entries) h
Handed-run handles first history g [] h out out' ran handed = rw (append-nil history, handed.0) ran
Handed-run handles first history g (entry ∷ entries) h out out' ran handed =
    subst (λ (es : List Entry). Run first es h) (append_assoc history (entry ∷ []) entries)
    (Handed-run handles first (history ++ entry ∷ []) handed.0.after entries h handed.1 out' (Run-snoc first history g entry handed.0 ran handed.2) handed.4)

last_behind : {O : Type 0} (handles : Handling O) (why : Unhandled) (g : State) (entries more : List Entry) (h k : State) (o1 o2 o3 : O) → Handed handles g entries h o1 o2 → HandedButLast handles why h more k o2 o3 → HandedButLast handles why g (entries ++ more) k o1 o3
last_behind handles why g entries more h k o1 o2 o3 first second = record {
  before = entries ++ second.before;
  last = second.last;
  joined = ap (λ (es : List Entry). entries ++ es) second.joined ∙ sym (append_assoc entries second.before (second.last ∷ []));
  state = second.state;
  between = second.between;
  handed = Handed-append handles g entries second.before h second.state o1 o2 second.between first second.handed;
  outcome = second.outcome;
  here = second.here;
  handled = second.handled;
  after = second.after;
}

handed_then : {O : Type 0} (handles : Handling O) (g : State) (entries more : List Entry) (h k : State) (o1 o2 o3 : O) (result : Result (Unit {0}) Stop) → Handed handles g entries h o1 o2 → HandedTo handles h more k o2 o3 result → HandedTo handles g (entries ++ more) k o1 o3 result
handed_then handles g entries more h k o1 o2 o3 (Ok done) first second = Handed-append handles g entries more h k o1 o2 o3 first second
handed_then handles g entries more h k o1 o2 o3 (Err stop.Full) first second = Handed-append handles g entries more h k o1 o2 o3 first second
handed_then handles g entries more h k o1 o2 o3 (Err stop.NoMemory) first (inl second) = inl (Handed-append handles g entries more h k o1 o2 o3 first second)
handed_then handles g entries more h k o1 o2 o3 (Err stop.NoMemory) first (inr second) = inr (last_behind handles unhandled.NoMemory g entries more h k o1 o2 o3 first second)
handed_then handles g entries more h k o1 o2 o3 (Err stop.Refused) first second = last_behind handles unhandled.Refused g entries more h k o1 o2 o3 first second

-- the histories of two parts, joined
joined : (a b c first more : List Entry) → b ≡ a ++ first → c ≡ b ++ more → c ≡ a ++ (first ++ more)
joined a b c first more h i = i ∙ ap (λ (es : List Entry). es ++ more) h ∙ append_assoc a first more

went_then : (a b c : CoreView) (added : List Entry) (first more : Given) (result : Result (Unit {0}) Stop) → b.config ≡ a.config → b.history ≡ a.history ++ first.entries → WentTo b added c more result → WentTo a (first.entries ++ added) c (record more { entries = first.entries ++ more.entries }) result
went_then a b c added first more (Ok done) config history h = (ap (λ (es : List Entry). first.entries ++ es) h.0, h.1)
went_then a b c added first more (Err stop.Full) config history h = record {
  next = h.next;
  behind = h.behind;
  joined = sym (joined a.history b.history (b.history ++ more.entries) first.entries more.entries history refl) ∙ h.joined;
  full = rw (← config) h.full;
}
went_then a b c added first more (Err stop.NoMemory) config history h = IsFront-behind first.entries added more.entries h
went_then a b c added first more (Err stop.Refused) config history h = IsFront-behind first.entries added more.entries h

-- one part, and then another
pub Drives-then : {O : Type 0} (handles : Handling O) (a b c : CoreView) (o1 o2 o3 : O) (first : Given) (more : State → Given) (result : Result (Unit {0}) Stop) → Drives handles a b o1 o2 first (Ok tt) → Drives handles b c o2 o3 (more b.state) result → Drives handles a c o1 o3 (and_then first more) result
Drives-then handles a b c o1 o2 o3 first more result h i =
    let history : b.history ≡ a.history ++ first.entries = h.history ∙ ap (λ (es : List Entry). a.history ++ es) h.went.0 in
    let handed : Handed handles a.state first.entries b.state o1 o2 = subst (λ (es : List Entry). Handed handles a.state es b.state o1 o2) h.went.0 h.handed in
    let next : Drives handles b c o2 o3 (more first.state) result = subst (λ (g : State). Drives handles b c o2 o3 (more g) result) h.went.1 i in
    record {
      config = next.config ∙ h.config;
      added = first.entries ++ next.added;
      history = joined a.history b.history c.history first.entries next.added history next.history;
      went = went_then a b c next.added first (more first.state) result h.config history next.went;
      handed = handed_then handles a.state first.entries next.added b.state c.state o1 o2 o3 result handed next.handed;
    }

-- one part stops, and the other isn't begun
pub Drives-stops : {O : Type 0} (handles : Handling O) (a b : CoreView) (o1 o2 : O) (first : Given) (more : State → Given) (why : Stop) → Drives handles a b o1 o2 first (Err why) → Drives handles a b o1 o2 (and_then first more) (Err why)
Drives-stops handles a b o1 o2 first more stop.Full h =
    let rest : List Entry = (more first.state).entries in
    record {
      config = h.config;
      added = h.added;
      history = h.history;
      went = record {
        next = h.went.next;
        behind = h.went.behind ++ rest;
        joined = sym (append_assoc a.history first.entries rest) ∙ ap (λ (es : List Entry). es ++ rest) h.went.joined ∙ append_assoc b.history (h.went.next ∷ h.went.behind) rest;
        full = h.went.full;
      };
      handed = h.handed;
    }
Drives-stops handles a b o1 o2 first more stop.NoMemory h = record { config = h.config; added = h.added; history = h.history; went = IsFront-wider h.added first.entries (more first.state).entries h.went; handed = h.handed }
Drives-stops handles a b o1 o2 first more stop.Refused h = record { config = h.config; added = h.added; history = h.history; went = IsFront-wider h.added first.entries (more first.state).entries h.went; handed = h.handed }

-- ---- frames that wait

-- one is taken, and then the others
pub Drives-take : {O : Type 0} (handles : Handling O) (a b c : CoreView) (o1 o2 o3 : O) (session : ℕ) (result : Result (Unit {0}) Stop) → TakesOne a.state session → Drives handles a b o1 o2 (entered a.state 0 (Take session)) (Ok tt) → Drives handles b c o2 o3 (taken_all b.state) result → Drives handles a c o1 o3 (taken_all a.state) result
Drives-take handles a b c o1 o2 o3 session result takes first rest =
    rw takes.all (Drives-then handles a b c o1 o2 o3 (entered a.state 0 (Take session)) taken_all result first rest)

pub Drives-take-stops : {O : Type 0} (handles : Handling O) (a b : CoreView) (o1 o2 : O) (session : ℕ) (why : Stop) → TakesOne a.state session → Drives handles a b o1 o2 (entered a.state 0 (Take session)) (Err why) → Drives handles a b o1 o2 (taken_all a.state) (Err why)
Drives-take-stops handles a b o1 o2 session why takes first =
    rw takes.all (Drives-stops handles a b o1 o2 (entered a.state 0 (Take session)) taken_all why first)

pub Drives-take-none : {O : Type 0} (handles : Handling O) (a : CoreView) (out : O) → taken_all a.state ≡ nothing a.state → Drives handles a a out out (taken_all a.state) (Ok tt)
Drives-take-none handles a out none = rw none (Drives-nothing handles a out)

-- ---- modules that fetch

-- one fetches, and then the others
pub Drives-fetch : {O : Type 0} (handles : Handling O) (a b c : CoreView) (o1 o2 o3 : O) (numbers : List ℕ) (m : ℕ) (ms : List ℕ) (result : Result (Unit {0}) Stop) → numbers ≡ m ∷ ms → Drives handles a b o1 o2 (fetched_one m a.state) (Ok tt) → Drives handles b c o2 o3 (fetched_by ms b.state) result → Drives handles a c o1 o3 (fetched_by numbers a.state) result
Drives-fetch handles a b c o1 o2 o3 numbers m ms result is first rest =
    subst (λ (ns : List ℕ). Drives handles a c o1 o3 (fetched_by ns a.state) result) (sym is) (Drives-then handles a b c o1 o2 o3 (fetched_one m a.state) (fetched_by ms) result first rest)

pub Drives-fetch-stops : {O : Type 0} (handles : Handling O) (a b : CoreView) (o1 o2 : O) (numbers : List ℕ) (m : ℕ) (ms : List ℕ) (why : Stop) → numbers ≡ m ∷ ms → Drives handles a b o1 o2 (fetched_one m a.state) (Err why) → Drives handles a b o1 o2 (fetched_by numbers a.state) (Err why)
Drives-fetch-stops handles a b o1 o2 numbers m ms why is first =
    subst (λ (ns : List ℕ). Drives handles a b o1 o2 (fetched_by ns a.state) (Err why)) (sym is) (Drives-stops handles a b o1 o2 (fetched_one m a.state) (fetched_by ms) why first)

pub Drives-fetch-none : {O : Type 0} (handles : Handling O) (a : CoreView) (out : O) (numbers : List ℕ) → numbers ≡ [] → Drives handles a a out out (fetched_by numbers a.state) (Ok tt)
Drives-fetch-none handles a out numbers none =
    subst (λ (ns : List ℕ). Drives handles a a out out (fetched_by ns a.state) (Ok tt)) (sym none) (Drives-nothing handles a out)
