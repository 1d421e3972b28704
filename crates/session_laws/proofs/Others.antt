-- What the operator, the clock and the modules posted tells nothing of sessions.
use Rattle.std.proofs.Common.{◌≡◌, inl, inr, ℕ, ◌+◌, if◌then◌else◌, List, [], ◌∷◌, Option, Result, Ok, Err, sym, subst}
use Rattle.std.specs.List.{AllByRecursion}
use Rattle.gem_ids.specs.declared.moment.Moment.{Moment}
use Rattle.tool_events.specs.declared.entry.Post.{Post}
use Rattle.tool_events.specs.declared.event.Event.{Event}
use Rattle.tool_events.specs.declared.answer.Answer.{Answer}
use Rattle.tool_tasks.specs.declared.task.Command.{Command}
use Rattle.text_lines.specs.Lines.{lines_of, whole_lines}
use Rattle.line_grammar.specs.declared.line.Line.{Line}
use Rattle.line_grammar.specs.declared.line.Line.TheVariants as line
use Rattle.line_grammar.specs.Reading.{script_line_of}
use Rattle.line_grammar.specs.Texts.{IsFront, is_quit}
use Rattle.sim_modules.specs.Acting.{Acting, one_more}
use Rattle.gem_model.proofs.Tests.{either_way}
use Rattle.actors.specs.declared.end.ActorEnd.{ActorEnd}
use Rattle.actors.specs.declared.end.ActorEnd.TheVariants as end
use Rattle.actors.specs.Ends.{QuitPostedOr}
use Rattle.actors.specs.Reads.{ReaderCounts}
use Rattle.actors.specs.Scripts.{Script, ScriptStop, QuitAt, line_events, line_says, lines_say, script_of}
use Rattle.actors.specs.Operates.{SaidBy, ScriptOver, OperatorEnds, OperatorDid}
use Rattle.actors.specs.Times.{AreTicks, TimeDid}
use Rattle.actors.specs.Modules.{acted_posts, ModuleEnds, ModuleDid}
use Rattle.session_laws.proofs.Telling.{IsQuiet, AreOf, AreSilent, all_more, all_front, posted_of, quit_quiet, quiet_silent}

-- each event is quiet
abbrev AreQuiet : List Event → Type 0
AreQuiet events = AllByRecursion IsQuiet events

-- ---- the operator

line_quiet : (l : Line) → AreQuiet (line_events l)
line_quiet (line.Oper command) = (record { brings = tt; takes = tt; gives = tt }, tt)
line_quiet (line.Signal signal) = (record { brings = tt; takes = tt; gives = tt }, tt)
line_quiet (line.Watch port) = (record { brings = tt; takes = tt; gives = tt }, tt)
line_quiet _ = tt

says_quiet : (number : ℕ) (says : Result Line ℕ) (more : Script) → AreQuiet more.events → AreQuiet (line_says number says more).events
says_quiet number (Err place) more all = tt
says_quiet number (Ok says) more all =
    let last : Script = record { events = []; stop = QuitAt number } in
    all_more IsQuiet (line_events says) (if is_quit says then last else more).events (line_quiet says)
    (either_way (λ (s : Script). AreQuiet s.events) (is_quit says) last more tt all)

lines_quiet : (number : ℕ) (lines : List (List ℕ)) → AreQuiet (lines_say number lines).events
lines_quiet number [] = tt
lines_quiet number (text ∷ lines) = says_quiet number (script_line_of text) (lines_say (number + 1) lines) (lines_quiet (number + 1) lines)

-- all that a script says is quiet
said_quiet : (text : List ℕ) (said : List Event) (stop : ScriptStop) → script_of text ≡ record { events = said; stop = stop } → AreQuiet said
said_quiet text said stop is = subst (λ (s : Script). AreQuiet s.events) is (lines_quiet 1 (lines_of text))

front_quiet : (Over : Type 0) (text : List ℕ) (said : List Event) → SaidBy Over text said → AreQuiet said
front_quiet Over text said s =
    let front : IsFront said (script_of s.0).events = s.2 in
    all_front IsQuiet said front.behind (subst AreQuiet front.joined (lines_quiet 1 (lines_of s.0)))

quit_or_quiet : (fulls fulls' wants wants' : ℕ) (ps : List Post) → QuitPostedOr fulls fulls' wants wants' ps → AreOf IsQuiet ps
quit_or_quiet f f' w w' ps (inl posted) = quit_quiet ps posted
quit_or_quiet f f' w w' ps (inr none) = subst (AreOf IsQuiet) (sym none.0) tt

none_quiet : (ps : List Post) → ps ≡ [] → AreOf IsQuiet ps
none_quiet ps none = subst (AreOf IsQuiet) (sym none) tt

operator_quiet : (e : ActorEnd) (Over : Type 0) (text : List ℕ) (before after : ReaderCounts) (said : List Event) (lines behind : List Post)
    → OperatorEnds e Over text before after said lines behind → AreQuiet said × AreOf IsQuiet behind
operator_quiet end.Quit Over text before after said lines behind (inl h) = (said_quiet text said (QuitAt h.1) h.2, none_quiet behind h.0)
operator_quiet end.Quit Over text before after said lines behind (inr (inl h)) = (said_quiet text said _ h.1, quit_quiet behind h.0)
operator_quiet end.Quit Over text before after said lines behind (inr (inr h)) = (front_quiet Over text said h.2, none_quiet behind h.0)
operator_quiet end.ReadFault Over text before after said lines behind h =
    (said_quiet (whole_lines text) said _ h.0, quit_or_quiet before.fulls after.fulls before.wants after.wants behind h.2)
operator_quiet (end.Line number place) Over text before after said lines behind h =
    (said_quiet text said _ h.0, quit_or_quiet before.fulls after.fulls before.wants after.wants behind h.2)
operator_quiet end.Full Over text before after said lines behind (inl h) =
    (said_quiet (whole_lines text) said _ h.0, quit_or_quiet before.fulls after.fulls before.wants after.wants behind h.2)
operator_quiet end.Full Over text before after said lines behind (inr h) = (front_quiet Over text said h.1, none_quiet behind h.0)
operator_quiet end.NoMemory Over text before after said lines behind h =
    (front_quiet Over text said h.0, quit_or_quiet before.fulls after.fulls before.wants after.wants behind h.1)
operator_quiet end.Door Over text before after said lines behind h = absurd h

pub operator_silent : (left left' : Option (List ℕ)) (before after : ReaderCounts) (posts : List Post) (count : ℕ) (e : ActorEnd)
    → OperatorDid left left' before after [] posts count e → AreSilent posts
operator_silent left left' before after posts count e d =
    let quiet = operator_quiet e (ScriptOver left d.text before after) d.text before after d.said d.lines d.behind d.ends in
    quiet_silent posts
    (subst (AreOf IsQuiet) (sym d.grew) (all_more (λ (p : Post). IsQuiet p.event) d.lines d.behind (posted_of IsQuiet d.said d.lines d.are_lines quiet.0) quiet.1))

-- ---- the clock

ticks_quiet : (ps : List Post) → AreTicks ps → AreOf IsQuiet ps
ticks_quiet [] ticks = tt
ticks_quiet (p ∷ ps) ticks = (subst IsQuiet (sym ticks.0) (record { brings = tt; takes = tt; gives = tt }), ticks_quiet ps ticks.1)

pub clock_silent : (given given' : Option (List Moment)) (posts : List Post) (e : ActorEnd) → TimeDid given given' [] posts e → AreSilent posts
clock_silent given given' posts e d = quiet_silent posts (subst (AreOf IsQuiet) (sym d.grew) (ticks_quiet d.new d.ticks))

-- ---- modules

acted_quiet : (m : Acting) (done : List (Command × Answer)) → AreOf IsQuiet (acted_posts m done)
acted_quiet m [] = tt
acted_quiet m (x ∷ more) = (record { brings = tt; takes = tt; gives = tt }, (record { brings = tt; takes = tt; gives = tt }, acted_quiet (one_more m) more))

last_quiet : (m m' : Acting) (done : List (Command × Answer)) (last : List Post) (e : ActorEnd) → ModuleEnds m m' done last e → AreOf IsQuiet last
last_quiet m m' done last e (inl h) = none_quiet last h.0
last_quiet m m' done last e (inr (inl h)) = subst (AreOf IsQuiet) (sym h.0) (record { brings = tt; takes = tt; gives = tt }, tt)
last_quiet m m' done last e (inr (inr h)) = subst (AreOf IsQuiet) (sym h.1) (record { brings = tt; takes = tt; gives = tt }, tt)

pub module_silent : (m m' : Acting) (posts : List Post) (e : ActorEnd) → ModuleDid m m' [] posts e → AreSilent posts
module_silent m m' posts e d =
    quiet_silent posts
    (subst (AreOf IsQuiet) (sym d.grew) (all_more (λ (p : Post). IsQuiet p.event) (acted_posts m d.done) d.last (acted_quiet m d.done) (last_quiet m m' d.done d.last e d.ends)))
