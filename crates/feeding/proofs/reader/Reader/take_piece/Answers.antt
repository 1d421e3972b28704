use Rattle.std.proofs.Common.{ℕ, ◌+◌, ◌≡◌, List, [], ◌∷◌, ◌++◌, length, length-append, append_assoc, arith, refl, sym, ◌∙◌, ap, subst, Err}
use Rattle.line_feeding.specs.Going.{seen}
use Rattle.feeding.specs.Views.{reader_seen}
use Rattle.feeding.specs.Standing.{Takes}
use Rattle.feeding.proofs.Standing.{Prints-stays, Takes-nothing, Takes-then, Takes-stopped}
use Rattle.feeding.proofs.reader.Reader.take_piece.Goals as goal

pub loop-line-init : goal.loop-line-init
loop-line-init g c = record { whole = c.requires.whole; number = omega arith; taken = ([], refl, λ text stands. Takes-nothing text (reader_seen g.C.Recorder.view c.args.self.now) _ stands) }

pub returns-in-Err-clause-takes : goal.returns-in-Err-clause-takes
returns-in-Err-clause-takes g c = λ text stands.
    let see = seen g.K.Sink.held g.K.Sink.faults g.K.Sink.refusals in
    let (front, is, taken) = c.loop-line.invariant.taken in
    let left : List ℕ = c.loop-line.left.now in
    let line : List ℕ = c.in-Some.line.now ++ 10 ∷ [] in
    let rest : List ℕ = c.in-Some.behind.now in
    let cut : left ≡ line ++ rest = c.in-Some.ensures.split ∙ sym (append_assoc c.in-Some.line.now (10 ∷ []) rest) in
    let before = taken text stands in
    let both = Takes-then text front line _ _ _ _ _ _ _ before (c.in-Err.ensures.takes (text ++ front) before.stands) in
    subst (λ (bytes : List ℕ). Takes text bytes (reader_seen g.C.Recorder.view c.args.self.now) (reader_seen g.C.Recorder.view c.take_rest.new.self) (see c.args.out.now) (see c.take_rest.new.out) (Err c.in-Err.halt))
    (sym (is ∙ ap (λ (bytes : List ℕ). front ++ bytes) cut ∙ sym (append_assoc front line rest)))
    (Takes-stopped text (front ++ line) rest _ _ _ _ c.in-Err.halt both)

pub loop-line-preserved : goal.loop-line-preserved
loop-line-preserved g c =
    let (front, is, taken) = c.loop-line.invariant.taken in
    let left : List ℕ = c.loop-line.left.now in
    let line : List ℕ = c.in-Some.line.now ++ 10 ∷ [] in
    let rest : List ℕ = c.in-Some.behind.now in
    let cut : left ≡ line ++ rest = c.in-Some.ensures.split ∙ sym (append_assoc c.in-Some.line.now (10 ∷ []) rest) in
    record {
      whole = c.in-Ok.ensures.whole;
      number = omega (arith, c.loop-line.invariant.number, c.in-Ok.ensures.number, ap length cut, length-append line rest, length-append c.in-Some.line.now (10 ∷ []));
      taken = (
        front ++ line,
        is ∙ ap (λ (bytes : List ℕ). front ++ bytes) cut ∙ sym (append_assoc front line rest),
        λ text stands.
            let before = taken text stands in
            Takes-then text front line _ _ _ _ _ _ _ before (c.in-Ok.ensures.takes (text ++ front) before.stands),
      );
    }

pub returns-clause-takes : goal.returns-clause-takes
returns-clause-takes g c = λ text stands.
    let see = seen g.K.Sink.held g.K.Sink.faults g.K.Sink.refusals in
    let (front, is, taken) = c.loop-line.invariant.taken in
    let left : List ℕ = c.loop-line.left.now in
    let before = taken text stands in
    let last : Takes (text ++ front) left (reader_seen g.C.Recorder.view c.loop-line.self) (reader_seen g.C.Recorder.view c.push_part.new.self) (see c.loop-line.out) (see c.loop-line.out) c.push_part.result = record {
      stands = c.push_part.ensures.stands (text ++ front) before.stands;
      prints = rw c.push_part.ensures.core_stays (Prints-stays _ _ _ c.push_part.ensures.fault);
    } in
    subst (λ (bytes : List ℕ). Takes text bytes (reader_seen g.C.Recorder.view c.args.self.now) (reader_seen g.C.Recorder.view c.push_part.new.self) (see c.args.out.now) (see c.loop-line.out) c.push_part.result)
    (sym is) (Takes-then text front left _ _ _ _ _ _ c.push_part.result before last)
