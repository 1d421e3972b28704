-- How the reading of an input ended.
use Rattle.text_lines.specs.Lines.{whole_lines}
use Rattle.std.specs.Prelude.{◌≡◌, ℕ, List, length, Result, Ok, Err}
use Rattle.outside.specs.Counts.{Rose}
use Rattle.line_feeding.specs.declared.halt.Halt.{Halt}
use Rattle.line_feeding.specs.declared.halt.InputEnd.{InputEnd}
use Rattle.line_feeding.specs.declared.halt.InputEnd.TheVariants as input
use Rattle.feeding.specs.Views.{ReaderView}
use Rattle.line_feeding.specs.Fed.{SourceView, ReadToEnd}
use Rattle.line_feeding.specs.Limits.{input_bytes}
use Rattle.feeding.specs.Standing.{AllTaken, StopsAt}

-- What a text was that was read, by how its reading ended: all of it was taken; its whole lines were; or the reader
-- stopped in it.
abbrev pub InputEnds : InputEnd → List ℕ → ReaderView → SourceView → SourceView → Type 0
InputEnds input.Whole text reader source source' = AllTaken text reader × ReadToEnd source source'
InputEnds input.Fault text reader source source' = AllTaken (whole_lines text) reader × Rose source.faults source'.faults
InputEnds input.Bound text reader source source' = AllTaken (whole_lines text) reader × (length text ≡ input_bytes)
InputEnds (input.Halted why) text reader source source' = StopsAt (ReadToEnd source source') text reader why

-- how the lines ended, as a part of feed
abbrev pub as_result : InputEnd → Result (Unit {0}) Halt
as_result input.Whole = Ok tt
as_result input.Fault = Ok tt
as_result input.Bound = Ok tt
as_result (input.Halted why) = Err why
