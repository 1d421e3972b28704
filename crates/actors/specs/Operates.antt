-- What the operator did (this tool's profile, serving and scripts).
use Rattle.std.specs.Prelude.{◌≡◌, ◌⊎◌, ℕ, List, [], ◌++◌, length, Option}
use Rattle.outside.specs.Counts.{Rose}
use Rattle.outside.specs.Told.{Taken, Whole}
use Rattle.tool_events.specs.declared.entry.Post.{Post}
use Rattle.tool_events.specs.declared.event.Event.{Event}
use Rattle.text_lines.specs.Lines.{whole_lines}
use Rattle.line_grammar.specs.Texts.{IsFront, NumberEnded, EndedLines}
use Rattle.source_lines.specs.Limits.{source_bytes}
use Rattle.actors.specs.Ends.{ArePosted, LastEnded, NoneBehindEnded, QuitPosted, QuitPostedOr}
use Rattle.actors.specs.Reads.{ReaderCounts}
use Rattle.actors.specs.Scripts.{AllSaid, OutsideGrammar, QuitAt, script_of}
use Rattle.actors.specs.declared.end.ActorEnd.{ActorEnd}
use Rattle.actors.specs.declared.end.ActorEnd.TheVariants as end

-- so many bytes of a script are read at most (this tool's profile, limits)
abbrev pub script_bytes : ℕ
script_bytes = source_bytes

-- the script was read to its end: where it tells them, these bytes are all that it had left
abbrev pub ScriptOver : Option (List ℕ) → List ℕ → ReaderCounts → ReaderCounts → Type 0
ScriptOver left text before after = Whole left text × Rose before.ends after.ends

-- the events are a front of what lines say that have ended
abbrev pub SaidBy : Type 0 → List ℕ → List Event → Type 0
SaidBy Over text said = (taken : List ℕ) × EndedLines Over text taken × IsFront said (script_of taken).events

-- How it ended. Quit: behind the line that ends the run, which has ended; behind the whole script, at whose end it ends the run;
-- or behind an event that was answered Ended. Else it ends the run, unless a post was refused: where a read failed, behind all
-- whole lines; at a line outside the grammar, which has ended; where the script is too long, behind all whole lines; or for
-- want of memory.
abbrev pub OperatorEnds : ActorEnd → Type 0 → List ℕ → ReaderCounts → ReaderCounts → List Event → List Post → List Post → Type 0
OperatorEnds end.Quit Over text before after said lines behind =
    ((behind ≡ []) × (number : ℕ) × (script_of text ≡ record { events = said; stop = QuitAt number }) × NumberEnded Over text number)
    ⊎ (QuitPosted behind × (script_of text ≡ record { events = said; stop = AllSaid }) × Over)
    ⊎ ((behind ≡ []) × LastEnded lines × SaidBy Over text said)
OperatorEnds end.ReadFault Over text before after said lines behind =
    (script_of (whole_lines text) ≡ record { events = said; stop = AllSaid }) × Rose before.faults after.faults
    × QuitPostedOr before.fulls after.fulls before.wants after.wants behind
OperatorEnds (end.Line number place) Over text before after said lines behind =
    (script_of text ≡ record { events = said; stop = OutsideGrammar number place }) × NumberEnded Over text number
    × QuitPostedOr before.fulls after.fulls before.wants after.wants behind
OperatorEnds end.Full Over text before after said lines behind =
    ((script_of (whole_lines text) ≡ record { events = said; stop = AllSaid }) × (length text ≡ script_bytes)
    × QuitPostedOr before.fulls after.fulls before.wants after.wants behind)
    ⊎ ((behind ≡ []) × SaidBy Over text said × Rose before.fulls after.fulls)
OperatorEnds end.NoMemory Over text before after said lines behind =
    SaidBy Over text said × QuitPostedOr before.fulls after.fulls before.wants after.wants behind
OperatorEnds end.Door Over text before after said lines behind = ⊥

-- Its new posts are the events of the script that it read, in their order, and then, unless one of them ended the run, the end
-- of the run.
pub record OperatorDid (left left' : Option (List ℕ)) (before after : ReaderCounts) (posts posts' : List Post) (count : ℕ) (e : ActorEnd) : Type 0 where
  pub text : List ℕ
  pub read : Taken left left' text
  pub counted : count ≡ length text
  pub said : List Event
  pub lines : List Post
  pub behind : List Post
  pub grew : posts' ≡ posts ++ lines ++ behind
  pub are_lines : ArePosted said lines
  pub no_more : NoneBehindEnded (lines ++ behind)
  pub ends : OperatorEnds e (ScriptOver left text before after) text before after said lines behind
