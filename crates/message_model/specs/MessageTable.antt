-- A table of messages, and how a message is read by it (this tool's profile, messages). A crate of bodies gives its rows;
-- M is what its messages say.
use Rattle.std.specs.Prelude.{ℕ, ◌==◌, ◌&&◌, Bool, true, false, if◌then◌else◌, List, Option, Some, None, option_and_then, Result, Ok, Err}
use Rattle.std.specs.List.{find, list_any}
use Rattle.item_model.specs.Data.{Data}
use Rattle.message_model.specs.Bodies.{Form}
use Rattle.message_model.specs.declared.fault.BodyFault.{BodyFault}
use Rattle.message_model.specs.declared.fault.BodyFault.TheVariants as fault

-- what is printed of a body
pub data Body (M : Type 0) : Type 0 where
  -- ignored: any text, or none, is taken
  ignored : M → Body M
  -- one item of this form
  printed : Form M → Body M

-- a row of the table of messages: a stream, a function and its body
pub record MessageRow (M : Type 0) : Type 0 where
  pub stream : ℕ
  pub function : ℕ
  pub body : Body M

-- one row
abbrev pub row : {M : Type 0} → ℕ → ℕ → Body M → MessageRow M
row stream function body = record { stream = stream; function = function; body = body }

-- the row of this stream and function
abbrev pub row_of : {M : Type 0} → List (MessageRow M) → ℕ → ℕ → Option (MessageRow M)
row_of rows stream function = find (λ r. (r.stream == stream) && (r.function == function)) rows

-- a row has this stream
abbrev pub has_stream : {M : Type 0} → List (MessageRow M) → ℕ → Bool
has_stream rows stream = list_any (λ r. r.stream == stream) rows

-- the message that a text says, where it has this body
abbrev pub message_in : {M : Type 0} → Body M → Option Data → Option M
message_in (ignored m) item = Some m
message_in (printed form) item = option_and_then form item

-- a text that has not the body is illegal data
abbrev pub checked : {M : Type 0} → Option M → Result M BodyFault
checked (Some m) = Ok m
checked None = Err fault.IllegalData

-- what the row says; without one it is told whether another row has the stream
abbrev pub by_found : {M : Type 0} → Bool → Option (MessageRow M) → Option Data → Result M BodyFault
by_found known (Some r) item = checked (message_in r.body item)
by_found known None item = Err (if known then fault.UnknownFunction else fault.UnknownStream)

-- what a message is read as, by the rows of a table
abbrev pub by_row : {M : Type 0} → List (MessageRow M) → ℕ → ℕ → Option Data → Result M BodyFault
by_row rows stream function item = by_found (has_stream rows stream) (row_of rows stream function) item

-- the printed body is "ignored"
abbrev pub is_any : {M : Type 0} → Body M → Bool
is_any (ignored m) = true
is_any (printed form) = false

-- the row is there, and its body is "ignored"
abbrev pub takes_any : {M : Type 0} → Option (MessageRow M) → Bool
takes_any (Some r) = is_any r.body
takes_any None = false
