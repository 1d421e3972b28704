-- The entries of a batch (this tool's profile, batch).
use Rattle.std.specs.Prelude.{ℕ, zero, suc, ◌+◌, if◌then◌else◌, List, [], ◌∷◌, ◌++◌, map, Option, Some, None, Result, Ok, Err}
use Rattle.std.specs.List.{flat_map}
use Rattle.std.specs.Option.{option_to_list}
use Rattle.hsms_frame.specs.Cut.{arrivals_of}
use Rattle.hsms_frame.specs.declared.frame.Frame.{Frame}
use Rattle.hsms_frame.specs.declared.frame.Arrival.TheVariants as arrival
use Rattle.line_grammar.specs.declared.line.Line.{Line}
use Rattle.line_grammar.specs.declared.line.Line.TheVariants as line
use Rattle.line_grammar.specs.Reading.{feed_line_of}
use Rattle.tool_events.specs.Sizes.{text_bytes}
use Rattle.tool_events.specs.declared.config.Config.{Config}
use Rattle.tool_events.specs.declared.entry.Entry.{Entry}
use Rattle.tool_events.specs.declared.event.Event.{Event}
use Rattle.tool_events.specs.declared.event.Event.TheVariants as event
use Rattle.tool_events.specs.declared.event.Signal.TheVariants as signal
use Rattle.sim_modules.specs.Drawing.{drawn}
use Rattle.sim_modules.specs.Lot.{lot_line}
use Rattle.gem_model.specs.State.{State, opening, is_up}
use Rattle.gem_model.specs.Step.{after}
use Rattle.gem_model.specs.Feed.{input}
use Rattle.batch_model.specs.declared.primary.Primary.{Primary}
use Rattle.batch_model.specs.Host.{select_request, enable_request, primary_in, answer_to}
use Rattle.batch_model.specs.declared.fetched.Fetched.{Fetched}
use Rattle.batch_model.specs.Modules.{fetched_from, chosen}

-- ---- where a batch stands

-- the state of the tool; its messages that were taken and are not answered yet, the oldest first; and the number that was drawn last,
-- which is the seed at first
pub record Standing : Type 0 where
  pub state : State
  pub asked : List Primary
  pub drawn_last : ℕ

-- the entries that a part of a batch makes, and where it stands behind them
pub record Made : Type 0 where
  pub entries : List Entry
  pub standing : Standing

-- none
abbrev pub nothing_made : Standing → Made
nothing_made s = record { entries = []; standing = s }

-- one part, and the next where the first leads
abbrev pub then_made : Made → (Standing → Made) → Made
then_made first more = record (more first.standing) { entries = first.entries ++ (more first.standing).entries }

-- ---- inputs

-- the frames that wait in the session that is up
abbrev pub frames_waiting : State → List (List ℕ)
frames_waiting g = if is_up g then g.waiting else []

-- the messages among frames that are answered, in their order
abbrev pub primaries_in : List (List ℕ) → List Primary
primaries_in frames = flat_map (λ frame. option_to_list (primary_in frame)) frames

-- An input: its entry; then all frames that wait are taken, and the modules fetch their commands. What is to be answered of the
-- frames goes behind the others.
abbrev pub entered : Event → Standing → Made
entered e s = record {
  entries = (input s.state 0 e).entries;
  standing = record s {
    state = (input s.state 0 e).state;
    asked = s.asked ++ primaries_in (frames_waiting (after s.state 0 e));
  };
}

-- inputs, one after another
abbrev pub all_entered : List Event → Standing → Made
all_entered [] s = nothing_made s
all_entered (e ∷ es) s = then_made (entered e s) (all_entered es)

-- a frame of the host, in the one session of a batch
abbrev pub told : Frame → Event
told f = event.Host 1 (arrival.Frame f)

-- ---- answers

-- no history takes so many answers (this tool's profile, limits)
abbrev pub most_answers : ℕ
most_answers = 4000001

-- the oldest of these messages, where there is one, is answered, and then more is done
abbrev pub answered_oldest : Config → List Primary → Standing → (Standing → Made) → Made
answered_oldest c [] s more = nothing_made s
answered_oldest c (p ∷ ps) s more = then_made (entered (told (answer_to c.device p)) (record s { asked = ps })) more

-- each message that was taken is answered, the oldest first, until none is left; so many at most
abbrev pub answers_by : ℕ → Config → Standing → Made
answers_by zero c s = nothing_made s
answers_by (suc n) c s = answered_oldest c s.asked s (answers_by n c)

abbrev pub answers : Config → Standing → Made
answers c s = answers_by most_answers c s

-- any other inputs come behind the answers
abbrev pub turn : Config → List Event → Standing → Made
turn c es s = then_made (answers c s) (all_entered es)

-- ---- modules

-- the modules that have an open command that was fetched
abbrev pub busy : State → List Fetched
busy g = fetched_from 1 g.floor.modules

-- this one, where there is one, is done, and then more is done; x was drawn for it
abbrev pub done_one : ℕ → Option Fetched → Standing → (Standing → Made) → Made
done_one x None s more = nothing_made s
done_one x (Some m) s more = then_made (entered (event.Signal (signal.Done m.number m.command)) (record s { drawn_last = x })) more

-- While a module has an open command that was fetched, a number is drawn, and the module that it chooses does its command; so many
-- times at most. What the tool asks is answered first.
abbrev pub dones_by : ℕ → Config → Standing → Made
dones_by zero c s = nothing_made s
dones_by (suc n) c s =
    then_made (answers c s) (λ t. done_one (drawn t.drawn_last) (chosen (drawn t.drawn_last) (busy t.state)) t (dones_by n c))

-- the most commands that are done for a carrier (this tool's profile, batch)
abbrev pub most_dones : ℕ
most_dones = 1000

-- ---- carriers

-- The inputs of a line of a carrier: a signal, or the frame of the host that its bytes are; the other lines are none of a carrier (this
-- tool's profile, batch).
abbrev pub inputs_of : Result Line ℕ → List Event
inputs_of (Ok (line.Signal s)) = event.Signal s ∷ []
inputs_of (Ok (line.Bytes bytes)) = map (event.Host 1) (arrivals_of text_bytes bytes)
inputs_of _ = []

-- the i-th line of the k-th carrier, both counted from 1
abbrev pub lot_turn : Config → ℕ → ℕ → Standing → Made
lot_turn c k i s = turn c (inputs_of (feed_line_of (lot_line c k i))) s

-- these lines of it, one after another
abbrev pub lot_turns : Config → ℕ → List ℕ → Standing → Made
lot_turns c k [] s = nothing_made s
lot_turns c k (i ∷ is) s = then_made (lot_turn c k i s) (lot_turns c k is)

-- a carrier: its first five lines, then its modules work, and then its sixth line
abbrev pub carrier_made : Config → ℕ → Standing → Made
carrier_made c k s =
    then_made (lot_turns c k (1 ∷ 2 ∷ 3 ∷ 4 ∷ 5 ∷ []) s) (λ t. then_made (dones_by most_dones c t) (lot_turn c k 6))

-- so many carriers, from the k-th on
abbrev pub carriers_made : ℕ → Config → ℕ → Standing → Made
carriers_made zero c k s = nothing_made s
carriers_made (suc n) c k s = then_made (carrier_made c k s) (carriers_made n c (k + 1))

-- ---- a batch

-- before the first input
abbrev pub first_standing : Config → ℕ → Standing
first_standing c seed = record { state = opening c; asked = []; drawn_last = seed }

-- a link comes up and is selected, and all events are enabled
abbrev pub begun : Config → Standing → Made
begun c s =
    then_made (turn c (event.LinkUp ∷ []) s) (λ t. then_made (turn c (told select_request ∷ []) t) (turn c (told (enable_request c.device) ∷ [])))

-- then the carriers come, and last what the tool asked is answered
abbrev pub batch_made : Config → ℕ → ℕ → Made
batch_made c seed carriers =
    then_made (begun c (first_standing c seed)) (λ s. then_made (carriers_made carriers c 1 s) (answers c))

-- the entries of a batch of this seed and of so many carriers, where no limit of the history stops it
abbrev pub batch_entries : Config → ℕ → ℕ → List Entry
batch_entries c seed carriers = (batch_made c seed carriers).entries
