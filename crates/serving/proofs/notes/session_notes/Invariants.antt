use Rattle.std.proofs.Common.{◌≡◌, map, take}
use Rattle.serving.specs.Ending.{note_of}
use Rattle.serving.proofs.notes.session_notes.Given as goal

-- the sessions before this one have their notes
abbrev pub invariant-loop-session : goal.invariant-loop-session
invariant-loop-session g l = l.notes.items ≡ map (note_of (g.C.Recorder.view l.core).config (g.C.Recorder.view l.core).history) (take l.session-index l.sessions)
