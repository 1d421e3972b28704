-- How the operator posts the lines of a script, one by one (this tool's profile, scripts).
use Rattle.std.specs.Prelude.{◌≡◌, ◌⊎◌, ℕ, Bool, true, false, List, [], ◌∷◌, ◌++◌, Result, Ok, Err}
use Rattle.outside.specs.Counts.{Rose}
use Rattle.tool_events.specs.declared.entry.Post.{Post}
use Rattle.tool_events.specs.declared.event.Event.{Event}
use Rattle.tool_events.specs.declared.answer.Answer.{Answer}
use Rattle.tool_events.specs.declared.answer.Answer.TheVariants as answer
use Rattle.line_grammar.specs.declared.line.Line.{Line}
use Rattle.line_grammar.specs.Texts.{is_quit}
use Rattle.line_grammar.specs.Reading.{line_bytes}
use Rattle.actors.specs.Ends.{ArePosted, LastEnded, NoneEnded, NoneBehindEnded, QuitPosted, QuitPostedOr}
use Rattle.actors.specs.Reads.{ReaderCounts}
use Rattle.actors.specs.Scripts.{line_events}
use Rattle.source_lines.specs.Reads.{SourceTold}
use Rattle.actors.specs.declared.end.ActorEnd.{ActorEnd}
use Rattle.actors.specs.declared.end.ActorEnd.TheVariants as end
use Rattle.source_lines.specs.declared.no_line.NoLine.{NoLine}
use Rattle.source_lines.specs.declared.no_line.NoLine.TheVariants as no_line

-- what a desk tells: its posts, and how often one was answered Full and NoMemory
pub record DeskTold : Type 0 where
  pub posts : List Post
  pub fulls : ℕ
  pub wants : ℕ

-- what this desk tells
abbrev pub desk_told : {D : Type 0} → (D → List Post) → (D → ℕ) → (D → ℕ) → D → DeskTold
desk_told posts fulls wants desk = record { posts = posts desk; fulls = fulls desk; wants = wants desk }

-- the counts that a desk and a source tell
abbrev pub counts_of : DeskTold → SourceTold → ReaderCounts
counts_of desk source = record { fulls = desk.fulls; wants = desk.wants; faults = source.faults; ends = source.ends }

-- these posts are new, they are of these events, and none was refused
pub record Posted (events : List Event) (old new : DeskTold) : Type 0 where
  pub posts : List Post
  pub grew : new.posts ≡ old.posts ++ posts
  pub are : ArePosted events posts
  pub fulls : new.fulls ≡ old.fulls
  pub wants : new.wants ≡ old.wants

-- a post was refused, and not only for now: Full or NoMemory
abbrev pub Refused : ActorEnd → DeskTold → DeskTold → Type 0
Refused end.Full old new = (new.posts ≡ old.posts) × Rose old.fulls new.fulls
Refused end.NoMemory old new = (new.posts ≡ old.posts) × Rose old.wants new.wants
Refused _ old new = ⊥

-- what an answer makes of the actor: Ended ends it (this tool's profile, serving)
abbrev pub after_answer : Answer → Result (Unit {0}) ActorEnd
after_answer answer.Ended = Err end.Quit
after_answer _ = Ok tt

-- an event was posted until it was answered: Ended ends the actor
abbrev pub Posts : Event → DeskTold → DeskTold → Result (Unit {0}) ActorEnd → Type 0
Posts event old new (Ok done) = (p : Posted (event ∷ []) old new) × NoneEnded p.posts
Posts event old new (Err end.Quit) = (p : Posted (event ∷ []) old new) × LastEnded p.posts
Posts event old new (Err e) = Refused e old new

-- What a line says was posted, these events; where quits holds it is the line that ends the run, which ends the actor too.
abbrev pub PostsAll : List Event → Bool → DeskTold → DeskTold → Result (Unit {0}) ActorEnd → Type 0
PostsAll events quits old new (Ok done) = (p : Posted events old new) × NoneEnded p.posts × (quits ≡ false)
PostsAll events quits old new (Err end.Quit) =
    (p : Posted events old new) × NoneBehindEnded p.posts × ((quits ≡ true) ⊎ LastEnded p.posts)
PostsAll events quits old new (Err e) = Refused e old new

-- what this line says was posted
abbrev pub PostsLine : Line → DeskTold → DeskTold → Result (Unit {0}) ActorEnd → Type 0
PostsLine line old new result = PostsAll (line_events line) (is_quit line) old new result

-- the actor ends for a cause of its own: it posted the end of the run, unless that was refused
pub record GivesUp (old new : DeskTold) : Type 0 where
  pub behind : List Post
  pub grew : new.posts ≡ old.posts ++ behind
  pub posted : QuitPostedOr old.fulls new.fulls old.wants new.wants behind

-- What came of the line of this number, by how it is read.
abbrev pub TakesLine : Result Line ℕ → ℕ → DeskTold → DeskTold → Result (Unit {0}) ActorEnd → Type 0
TakesLine (Ok line) number old new result = PostsLine line old new result
TakesLine (Err place) number old new result = (result ≡ Err (end.Line number place)) × GivesUp old new

-- the end of the run was posted, or that was refused
abbrev pub Quits : DeskTold → DeskTold → ActorEnd → Type 0
Quits old new end.Quit = (behind : List Post) × (new.posts ≡ old.posts ++ behind) × QuitPosted behind
Quits old new e = Refused e old new

-- the script is over: behind its last line, if there is any, the end of the run is posted
abbrev pub TakesLast : Result Line ℕ → ℕ → DeskTold → DeskTold → ActorEnd → Type 0
TakesLast says number old new e =
    ((mid : DeskTold) × TakesLine says number old mid (Ok tt) × Quits mid new e) ⊎ TakesLine says number old new (Err e)

-- how the actor ends where no line is given any more; says is what came of the line of this number
abbrev pub EndsAt : NoLine → Result Line ℕ → ℕ → DeskTold → DeskTold → ActorEnd → Type 0
EndsAt no_line.End says number old new e = TakesLast says number old new e
EndsAt no_line.Fault says number old new e = (e ≡ end.ReadFault) × GivesUp old new
EndsAt no_line.Bound says number old new e = (e ≡ end.Full) × GivesUp old new
EndsAt no_line.Long says number old new e = (e ≡ end.Line number line_bytes) × GivesUp old new
EndsAt no_line.NoMemory says number old new e = (e ≡ end.NoMemory) × GivesUp old new
