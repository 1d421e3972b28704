use Rattle.std.proofs.Common.{◌≡◌, List, ℕ, [], ◌∷◌, ◌++◌, Ok, refl, sym, ap}
use Rattle.line_feeding.specs.Going.{seen}
use Rattle.feeding.specs.Views.{ReaderView, reader_seen}
use Rattle.feeding.specs.Standing.{Takes}
use Rattle.feeding.proofs.Standing.{Stands-push, Stands-line, Stands-line-stopped, Prints-line, Prints-stays, Takes-then}
use Rattle.feeding.proofs.reader.Reader.take_whole.Goals as goal

pub returns-in-Err-clause-takes : goal.returns-in-Err-clause-takes
returns-in-Err-clause-takes g c = λ text stands.
    let line = c.args.line.now in
    let old = reader_seen g.C.Recorder.view c.args.self.now in
    let mid : ReaderView = record { feeder = old.feeder; line = line; number = old.number } in
    let out = seen g.K.Sink.held g.K.Sink.faults g.K.Sink.refusals c.args.out.now in
    let pushed = Stands-push text line old mid c.requires.line stands (ap (λ (xs : List ℕ). xs ++ line) (sym c.requires.none)) refl refl in
    let front : Takes text line old mid out out (Ok tt) = record { stands = pushed; prints = Prints-stays _ _ _ (λ e. cc) } in
    let treats = c.in-Err.ensures.takes pushed.reading pushed.is in
    Takes-then text line (10 ∷ []) _ _ _ _ _ _ _ front (record {
      stands = λ more. Stands-line-stopped (text ++ line) more mid (reader_seen g.C.Recorder.view (record c.args.self.now { feeder = c.take_line.new.self })) _ _ c.in-Err.halt pushed treats refl;
      prints = Prints-line pushed.reading _ _ _ _ _ _ treats;
    })

pub returns-clause-takes : goal.returns-clause-takes
returns-clause-takes g c = λ text stands.
    let line = c.args.line.now in
    let old = reader_seen g.C.Recorder.view c.args.self.now in
    let mid : ReaderView = record { feeder = old.feeder; line = line; number = old.number } in
    let out = seen g.K.Sink.held g.K.Sink.faults g.K.Sink.refusals c.args.out.now in
    let pushed = Stands-push text line old mid c.requires.line stands (ap (λ (xs : List ℕ). xs ++ line) (sym c.requires.none)) refl refl in
    let front : Takes text line old mid out out (Ok tt) = record { stands = pushed; prints = Prints-stays _ _ _ (λ e. cc) } in
    let treats = c.in-Ok.ensures.takes pushed.reading pushed.is in
    Takes-then text line (10 ∷ []) _ _ _ _ _ _ _ front (record {
      stands = Stands-line (text ++ line) mid _ _ _ pushed treats c.requires.none refl;
      prints = Prints-line pushed.reading _ _ _ _ _ _ treats;
    })
