-- Which notes the host has spooled, S2F43, and how it asks for them, S6F23 (SEMI E5; SEMI E30, spooling; this tool's
-- profile, spool).
use Rattle.std.specs.Prelude.{ℕ, ◌%◌, ◌==◌, Bool, not, ◌&&◌, ◌||◌, if◌then◌else◌, List, [], ◌∷◌, filter, filter_map, Option, Some, None}
use Rattle.std.specs.List.{list_any}
use Rattle.gem_tables.specs.declared.firing.Firing.{Firing}
use Rattle.message_model.specs.declared.gem_primary.SpooledStream.{SpooledStream}
use Rattle.message_model.specs.declared.gem_reply.StreamRefusal.{StreamRefusal}
use Rattle.spool.specs.Spool.{is_inactive}
use Rattle.note_line.specs.declared.around.SpooledKinds.{SpooledKinds}
use Rattle.note_line.specs.Line.{with_kinds}
use Rattle.gem_model.specs.State.{State}
use Rattle.gem_model.specs.Fire.{of_line}

-- ---- the functions of a stream

-- a function that can be spooled: S5F1 and S6F11, by which the tool sends its notes (SEMI E5)
abbrev pub is_spoolable : ℕ → ℕ → Bool
is_spoolable stream function = ((stream == 5) && (function == 1)) || ((stream == 6) && (function == 11))

-- the functions of an entry that can't be
abbrev pub faulty_functions : SpooledStream → List ℕ
faulty_functions entry = filter (λ function. not (is_spoolable entry.stream function)) entry.functions

-- STRACK for the first function that can't be spooled: 4 where it is even, and else 3 (SEMI E5, S2F44)
abbrev pub function_strack : ℕ → ℕ
function_strack function = if function % 2 == 0 then 4 else 3

-- ---- the streams

-- an entry that is refused with this code, with these functions
abbrev pub refused : SpooledStream → ℕ → List ℕ → StreamRefusal
refused entry strack functions = record { stream = entry.stream; strack = strack; functions = functions }

-- an entry with functions that can't be spooled is refused, and all of them are listed
abbrev pub refusal_for : SpooledStream → List ℕ → Option StreamRefusal
refusal_for entry [] = None
refusal_for entry (function ∷ functions) = Some (refused entry (function_strack function) (function ∷ functions))

-- how an entry is refused, if it is: STRACK 1 for stream 1, which is never spooled, and 2 for another of which the tool
-- sends no note, both with no functions; else by its functions (SEMI E5, S2F44; this tool's profile, spool)
abbrev pub refusal : SpooledStream → Option StreamRefusal
refusal entry =
    if entry.stream == 1 then Some (refused entry 1 [])
    else (if not ((entry.stream == 5) || (entry.stream == 6)) then Some (refused entry 2 [])
    else refusal_for entry (faulty_functions entry))

-- ---- S2F43

-- the refusals of a message: none while the spool is ACTIVE, where the message is refused as a whole
abbrev pub refusals : State → List SpooledStream → List StreamRefusal
refusals g entries = if is_inactive g.line.spool.load then filter_map refusal entries else []

-- 0 where there is no refusal, and else 1
abbrev pub rspack_for : List StreamRefusal → ℕ
rspack_for [] = 0
rspack_for (one ∷ others) = 1

-- RSPACK: 1 where the spool is ACTIVE or an entry is refused, and else 0 (SEMI E5, S2F44; this tool's profile, spool)
abbrev pub rspack : State → List SpooledStream → ℕ
rspack g entries = if is_inactive g.line.spool.load then rspack_for (refusals g entries) else 1

-- the kinds of note of these streams; an entry without functions means the one function of its stream
abbrev pub kinds_of : List SpooledStream → SpooledKinds
kinds_of entries =
    record { events = list_any (λ (e : SpooledStream). e.stream == 6) entries; alarms = list_any (λ (e : SpooledStream). e.stream == 5) entries }

-- where it is not refused, the notes of these streams are spooled, and no others (SEMI E5, S2F43)
abbrev pub spools : List SpooledStream → State → State
spools entries g = if rspack g entries == 0 then record g { line = with_kinds (kinds_of entries) g.line } else g

-- ---- S6F23

-- the row of RSDC: 4, by which the notes are sent, where it is 0, and 5, by which they are dropped, where it is 1
abbrev pub unload_rows : ℕ → List Firing
unload_rows rsdc = of_line (if rsdc == 0 then 4 ∷ [] else 5 ∷ [])
