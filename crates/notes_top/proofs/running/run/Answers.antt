use Rattle.std.proofs.Common.{◌≡◌, [], ◌∷◌, length, length-append, refl, sym, ◌∙◌, ap, subst, arith}
use Rattle.source_lines.specs.Reads.{LinesRead, source_told}
use Rattle.notes_top.specs.declared.kept.Kept.{Kept}
use Rattle.notes_top.proofs.Going.{Going-smaller}
use Rattle.notes_top.proofs.Runs.{Stand, Stand-open, Stand-line, Ran-line, Ran-end}
use Rattle.notes_top.proofs.running.run.Goals as goal

pub loop-why-init : goal.loop-why-init
loop-why-init g c =
    let told = source_told g.S.Source.left g.S.Source.faults g.S.Source.ends in
    let held = g.K.Sink.held c.args.out.now in
    let start : LinesRead = record { line = []; kept = []; count = 0 } in
    let is : c.args.lines.now ≡ start = c.requires.lines in
    record {
      stands = λ first same.
          subst (λ (l : LinesRead). Stand g.D.Disk.tells g.D.Disk.reads g.D.Disk.leaves g.D.Disk.faults first (told c.args.input.now) (told c.args.input.now) l 1 c.args.kept held held) (sym is)
          (subst (λ (k : Kept g.row.D.Denot). Stand g.D.Disk.tells g.D.Disk.reads g.D.Disk.leaves g.D.Disk.faults first (told c.args.input.now) (told c.args.input.now) start 1 k held held) (sym same)
          (Stand-open g.D.Disk.tells g.D.Disk.reads g.D.Disk.leaves g.D.Disk.faults first (told c.args.input.now) held));
      numbered = omega (arith, ap (λ (l : LinesRead). length l.kept) is);
      within = omega (arith, ap (λ (l : LinesRead). l.count) is);
      reads = refl;
      faults = refl;
      refusals = refl;
    }

pub returns-in-Err-clause-ran : goal.returns-in-Err-clause-ran
returns-in-Err-clause-ran g c = λ first same.
    let told = source_told g.S.Source.left g.S.Source.faults g.S.Source.ends in
    let s = c.loop-why.invariant.stands first same in
    Ran-end g.D.Disk.tells g.D.Disk.reads g.D.Disk.leaves g.D.Disk.faults c.in-Err.why first (told c.args.input.now) (told c.loop-why.input) (told c.next_line.new.source)
    c.loop-why.lines c.next_line.new.self c.loop-why.number c.loop-why.kept c.end.result.0 (g.K.Sink.held c.args.out.now) (g.K.Sink.held c.loop-why.out) (g.K.Sink.held c.end.new.out) c.end.result.1 s c.in-Err.ensures
    (c.end.ensures.ends first s.stage s.at)

pub returns-in-Err-taken-clause-ran : goal.returns-in-Err-taken-clause-ran
returns-in-Err-taken-clause-ran g c = λ first same.
    let told = source_told g.S.Source.left g.S.Source.faults g.S.Source.ends in
    let s = c.loop-why.invariant.stands first same in
    rw c.cause_of.ensures (Ran-line g.D.Disk.tells g.D.Disk.reads g.D.Disk.leaves g.D.Disk.faults first (told c.args.input.now) (told c.loop-why.input) (told c.next_line.new.source)
    c.loop-why.lines c.next_line.new.self c.loop-why.number c.loop-why.kept c.take_line-next.result.0 (g.K.Sink.held c.args.out.now) (g.K.Sink.held c.loop-why.out) (g.K.Sink.held c.take_line-next.new.out) c.in-Err-taken.stop s c.in-Ok.ensures
    (rw (c.line.ensures, c.in-Err-taken.is) at c.take_line-next.ensures.takes first s.stage s.at))

pub loop-why-preserved : goal.loop-why-preserved
loop-why-preserved g c =
    let told = source_told g.S.Source.left g.S.Source.faults g.S.Source.ends in
    let next = c.in-Ok.ensures in
    record {
      stands = λ first same.
          let s = c.loop-why.invariant.stands first same in
          Stand-line g.D.Disk.tells g.D.Disk.reads g.D.Disk.leaves g.D.Disk.faults first (told c.args.input.now) (told c.loop-why.input) (told c.next_line.new.source)
          c.loop-why.lines c.next_line.new.self c.loop-why.number c.loop-why.kept c.take_line-next.result.0 (g.K.Sink.held c.args.out.now) (g.K.Sink.held c.loop-why.out) (g.K.Sink.held c.take_line-next.new.out) s next
          (rw (c.line.ensures, c.in-Ok-taken.is) at c.take_line-next.ensures.takes first s.stage s.at);
      numbered = omega (arith, ap length next.gives.0, length-append c.loop-why.lines.kept next.more, length-append c.next_line.new.self.line (10 ∷ c.next_line.new.self.kept), next.count, c.loop-why.invariant.numbered);
      within = next.within;
      reads = next.unfailed (λ e. cc e) ∙ c.loop-why.invariant.reads;
      faults = (c.take_line-next.ensures.unfailed (λ e. cc)).0 ∙ c.loop-why.invariant.faults;
      refusals = (c.take_line-next.ensures.unfailed (λ e. cc)).1 ∙ c.loop-why.invariant.refusals;
    }

pub loop-why-smaller : goal.loop-why-smaller
loop-why-smaller g c =
    let told = source_told g.S.Source.left g.S.Source.faults g.S.Source.ends in
    Going-smaller (told c.loop-why.input) (told c.next_line.new.source) c.loop-why.lines c.next_line.new.self c.in-Ok.ensures
