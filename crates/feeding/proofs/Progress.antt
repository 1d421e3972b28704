-- How far the reading of an input has come.
use Rattle.std.proofs.Common.{◌≡◌, inr, ℕ, ◌+◌, ◌≤◌, List, [], ◌++◌, length, length-append, Ok, Err, refl, sym, ◌∙◌, subst, arith}
use Rattle.std.specs.Prelude.{⊤}
use Rattle.std.proofs.lemmas.List.{append-nil}
use Rattle.outside.specs.Counts.{Rose}
use Rattle.outside.specs.Told.{Taken, NothingLeft}
use Rattle.line_feeding.specs.declared.halt.Halt.{Halt}
use Rattle.line_feeding.specs.declared.halt.InputEnd.{InputEnd}
use Rattle.line_feeding.specs.declared.halt.InputEnd.TheVariants as input
use Rattle.feeding.specs.Views.{ReaderView}
use Rattle.line_feeding.specs.Going.{SinkView}
use Rattle.line_feeding.specs.Fed.{SourceView, ReadToEnd}
use Rattle.line_feeding.specs.Limits.{input_bytes}
use Rattle.feeding.specs.InputEnds.{InputEnds, as_result}
use Rattle.line_feeding.specs.Stopping.{GivenBy}
use Rattle.feeding.specs.Standing.{Stands, StopsAt, AllTaken, Prints, Takes, Finishes}
use Rattle.driving.proofs.Fronts.{IsFront-same}
use Rattle.outside.proofs.Writing.{Rose-wider}
use Rattle.line_feeding.proofs.Reading.{Taken-more, Taken-same, Whole-taken, whole_any}
use Rattle.feeding.proofs.Stopping.{StopsAt-known}
use Rattle.feeding.proofs.Standing.{Stands-whole, Stands-given, Prints-then}

-- this text was taken off the source, and the reader stands behind it
pub record Progress (reader reader' : ReaderView) (out out' : SinkView) (source source' : SourceView) (count : ℕ) : Type 0 where
  pub text : List ℕ
  pub size : length text ≡ count
  pub taken : Taken source.left source'.left text
  pub stands : Stands text reader'
  pub prints : Prints reader.feeder.core reader'.feeder.core out out' (Ok tt)
  pub number : reader'.number ≤ 1 + count
  pub faults : source'.faults ≡ source.faults
  pub ends : source.ends ≤ source'.ends

-- how it ended, with the text that was read
abbrev pub Ends : InputEnd → ℕ → ReaderView → ReaderView → SinkView → SinkView → SourceView → SourceView → Type 0
Ends end count reader reader' out out' source source' =
    ((text : List ℕ) × (length text ≡ count) × Taken source.left source'.left text × GivenBy (ReadToEnd source source') reader'.feeder.core.config text reader'.feeder.core.history × InputEnds end text reader' source source')
    × Prints reader.feeder.core reader'.feeder.core out out' (as_result end)

-- all lines of a text gave the history, of which no more follows
all_given : (Over : Type 0) (text : List ℕ) (reader : ReaderView) → AllTaken text reader → Over → GivenBy Over reader.feeder.core.config text reader.feeder.core.history
all_given Over text reader all over =
    (text, record { front = record { behind = []; joined = sym (append-nil text) }; ends = inr (inr (inr (refl, over))) }, rw all.told (IsFront-same _ _ refl))

-- whatever follows it, it stopped there
stopped_there : (Over : Type 0) (text : List ℕ) (reader : ReaderView) (why : Halt) → StopsAt ⊥ (text ++ []) reader why → StopsAt Over text reader why
stopped_there Over text reader why stops =
    StopsAt-known ⊥ Over (λ no. absurd no) text reader why (subst (λ (t : List ℕ). StopsAt ⊥ t reader why) (append-nil text) stops)

pub ends-fault : (reader reader' : ReaderView) (out out' : SinkView) (source now later : SourceView) (count : ℕ) → Progress reader reader' out out' source now count → later.left ≡ now.left → Rose now.faults later.faults → now.faults ≤ later.faults → Ends input.Fault count reader reader' out out' source later
ends-fault reader reader' out out' source now later count p same rose stays =
    ((p.text, p.size, Taken-same source.left now.left later.left p.text p.taken same, Stands-given (ReadToEnd source later) p.text reader' p.stands, (Stands-whole p.text reader' p.stands, Rose-wider source.faults now.faults later.faults later.faults (omega (arith, p.faults)) stays rose (omega arith))), p.prints)

pub ends-bound : (reader reader' : ReaderView) (out out' : SinkView) (source now : SourceView) (count : ℕ) → Progress reader reader' out out' source now count → count ≡ input_bytes → Ends input.Bound count reader reader' out out' source now
ends-bound reader reader' out out' source now count p bound = ((p.text, p.size, p.taken, Stands-given (ReadToEnd source now) p.text reader' p.stands, (Stands-whole p.text reader' p.stands, p.size ∙ bound)), p.prints)

end_taken : (source now later : SourceView) (text nothing : List ℕ) → nothing ≡ [] → Taken source.left now.left text → Taken now.left later.left nothing → Taken source.left later.left text
end_taken source now later text nothing none first second =
    subst (λ (t : List ℕ). Taken source.left later.left t) (append-nil text)
    (Taken-more source.left now.left later.left text [] first (subst (λ (t : List ℕ). Taken now.left later.left t) none second))

-- nothing was left behind the text, and the source told its end
over_there : (reader reader' : ReaderView) (out out' : SinkView) (source now later : SourceView) (count : ℕ) (nothing : List ℕ) (p : Progress reader reader' out out' source now count) → nothing ≡ [] → Taken now.left later.left nothing → NothingLeft now.left → Rose now.ends later.ends → now.ends ≤ later.ends → ReadToEnd source later
over_there reader reader' out out' source now later count nothing p none taken left rose stays = (
  Rose-wider source.ends now.ends later.ends later.ends p.ends stays rose (omega arith),
  λ other also. whole_any source.left later.left p.text other (end_taken source now later p.text nothing none p.taken taken) (Whole-taken source.left now.left p.text p.taken left) also,
)

pub ends-whole : (reader reader' last : ReaderView) (out out' out'' : SinkView) (source now later : SourceView) (count : ℕ) (nothing : List ℕ) → Progress reader reader' out out' source now count → nothing ≡ [] → Taken now.left later.left nothing → NothingLeft now.left → Rose now.ends later.ends → now.ends ≤ later.ends → ((text : List ℕ) → Stands text reader' → Finishes text reader' last out' out'' (Ok tt)) → Ends input.Whole count reader last out out'' source later
ends-whole reader reader' last out out' out'' source now later count nothing p none taken left rose stays finishes =
    let f = finishes p.text p.stands in
    let over = over_there reader reader' out out' source now later count nothing p none taken left rose stays in (
      (p.text, p.size, end_taken source now later p.text nothing none p.taken taken, all_given (ReadToEnd source later) p.text last f.ends over, (f.ends, over)),
      Prints-then reader.feeder.core reader'.feeder.core last.feeder.core out out' out'' (Ok tt) p.prints f.prints,
    )

pub ends-last : (reader reader' last : ReaderView) (out out' out'' : SinkView) (source now later : SourceView) (count : ℕ) (nothing : List ℕ) (why : Halt) → Progress reader reader' out out' source now count → nothing ≡ [] → Taken now.left later.left nothing → NothingLeft now.left → Rose now.ends later.ends → now.ends ≤ later.ends → ((text : List ℕ) → Stands text reader' → Finishes text reader' last out' out'' (Err why)) → Ends (input.Halted why) count reader last out out'' source later
ends-last reader reader' last out out' out'' source now later count nothing why p none taken left rose stays finishes =
    let f = finishes p.text p.stands in
    let over = over_there reader reader' out out' source now later count nothing p none taken left rose stays in
    let stops = StopsAt-known ⊤ (ReadToEnd source later) (λ _. over) p.text last why f.ends in (
      (p.text, p.size, end_taken source now later p.text nothing none p.taken taken, stops.given, stops),
      Prints-then reader.feeder.core reader'.feeder.core last.feeder.core out out' out'' (Err why) p.prints f.prints,
    )

pub ends-halted : (reader reader' last : ReaderView) (out out' out'' : SinkView) (source now later : SourceView) (count more : ℕ) (piece : List ℕ) (why : Halt) → Progress reader reader' out out' source now count → Taken now.left later.left piece → length piece ≡ more → ((text : List ℕ) → Stands text reader' → Takes text piece reader' last out' out'' (Err why)) → Ends (input.Halted why) (count + more) reader last out out'' source later
ends-halted reader reader' last out out' out'' source now later count more piece why p taken size takes =
    let t = takes p.text p.stands in
    let stops = stopped_there (ReadToEnd source later) (p.text ++ piece) last why (t.stands []) in (
      (
        p.text ++ piece,
        omega (arith, length-append p.text piece, p.size, size),
        Taken-more source.left now.left later.left p.text piece p.taken taken,
        stops.given,
        stops,
      ),
      Prints-then reader.feeder.core reader'.feeder.core last.feeder.core out out' out'' (Err why) p.prints t.prints,
    )

pub Progress-more : (reader reader' last : ReaderView) (out out' out'' : SinkView) (source now later : SourceView) (count more : ℕ) (piece : List ℕ) → Progress reader reader' out out' source now count → Taken now.left later.left piece → length piece ≡ more → later.faults ≡ now.faults → now.ends ≤ later.ends → last.number ≤ reader'.number + length piece → ((text : List ℕ) → Stands text reader' → Takes text piece reader' last out' out'' (Ok tt)) → Progress reader last out out'' source later (count + more)
Progress-more reader reader' last out out' out'' source now later count more piece p taken size faults ends number takes =
    let t = takes p.text p.stands in
    record {
      text = p.text ++ piece;
      size = omega (arith, length-append p.text piece, p.size, size);
      taken = Taken-more source.left now.left later.left p.text piece p.taken taken;
      stands = t.stands;
      prints = Prints-then reader.feeder.core reader'.feeder.core last.feeder.core out out' out'' (Ok tt) p.prints t.prints;
      number = omega (arith, p.number, number, size);
      faults = faults ∙ p.faults;
      ends = omega (arith, p.ends, ends);
    }
