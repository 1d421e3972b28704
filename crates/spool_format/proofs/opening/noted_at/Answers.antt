use Rattle.std.proofs.Common.{true, ◌≡◌, ◌+◌, ◌∷◌, [], ◌++◌, ℕ, List, refl, sym, ⊎_elim, ◌∙◌, ap, subst, arith}
use Rattle.std.proofs.lemmas.Result.{err_from_is_err_and}
use Rattle.outside.specs.Counts.{Rose}
use Rattle.outside.specs.Disk.{HasAt}
use Rattle.spool_format.specs.declared.change.Change.{Change}
use Rattle.spool_format.specs.Format.{CanStand, flag, note_head}
use Rattle.spool_format.specs.Items.{StandsBehind, change_size}
use Rattle.spool_format.specs.Unread.{NoNote, NoneBehind}
use Rattle.spool_format.proofs.Fields.{noted_there}
use Rattle.spool_format.proofs.Given.{told_weaker, rose_earlier}
use Rattle.spool_format.proofs.Pieces.{joined}
use Rattle.spool_format.proofs.Refusing.{ends_overwrite, wrong_overwrite}
use Rattle.spool_format.proofs.Spelled.{noted_fits, noted_change_size}
use Rattle.spool_format.proofs.opening.noted_at.Goals as goal

pub returns-in_err-overwrite-clause-fault : goal.returns-in_err-overwrite-clause-fault
returns-in_err-overwrite-clause-fault g c =
    let p = err_from_is_err_and c.from_residual.result c.from_residual.ensures.1 in
    let R = g.D.Disk.reads c.args.disk.now in
    let told = told_weaker _ (Rose (g.D.Disk.faults c.args.disk.now) (g.D.Disk.faults c.flag_at.new.disk)) _ (λ place. g.D.Disk.tells c.args.disk.now ≡ true → NoneBehind (g.D.Disk.reads c.args.disk.now) c.args.at c.args.operation c.args.stop place)
    (λ rose. rose)
    (λ place ends t gate opened front. ⊎_elim
    (λ missing. ends_overwrite R c.args.at c.args.stop gate opened c.args.operation c.requires.operation front place c.requires.before missing)
    (λ other. wrong_overwrite R c.args.at c.args.stop gate opened c.args.operation c.requires.operation front place other)
    (ends t))
    c.in_err-overwrite.field-0.0 c.in_err-overwrite.ensures.fault in
    rw (p.1, p.2) told

pub returns-in_err-note-clause-fault : goal.returns-in_err-note-clause-fault
returns-in_err-note-clause-fault g c =
    let p = err_from_is_err_and c.from_residual-in_err-note.result c.from_residual-in_err-note.ensures.1 in
    let R = g.D.Disk.reads c.args.disk.now in
    let told = told_weaker _ (Rose (g.D.Disk.faults c.args.disk.now) (g.D.Disk.faults c.note_at.new.disk)) _ (λ place. g.D.Disk.tells c.args.disk.now ≡ true → NoneBehind (g.D.Disk.reads c.args.disk.now) c.args.at c.args.operation c.args.stop place)
    (rose_earlier (g.D.Disk.faults c.args.disk.now) (g.D.Disk.faults c.flag_at.new.disk) _ c.flag_at.ensures.faults_stay)
    (λ place none t gate opened front.
    let t1 = c.flag_at.ensures.tells ∙ t in
    let s1 = (c.flag_at.ensures.quiet t).same in
    let three = joined R c.args.at (c.args.at + 2) (gate ∷ c.args.operation ∷ []) (flag c.in_ok-overwrite.overwrite ∷ []) refl front (c.in_ok-overwrite.ensures.flag t) in
    subst (λ (b : List ℕ). NoNote b (c.args.at + 3) c.args.stop place) s1 (none t1) c.args.at gate c.args.operation c.in_ok-overwrite.overwrite refl opened c.requires.operation three)
    c.in_err-note.field-0.0 c.in_err-note.ensures.fault in
    rw (p.1, p.2) told

pub returns-clause-there : goal.returns-clause-there
returns-clause-there g c t =
    let R = g.D.Disk.reads c.args.disk.now in
    let t1 = c.flag_at.ensures.tells ∙ t in
    let s1 = (c.flag_at.ensures.quiet t).same in
    let note = c.in_ok-note.note in
    let rest = subst (λ (r : List ℕ). HasAt r (c.args.at + 3) (note_head note ++ note.text)) s1 (c.in_ok-note.ensures.note t1) in
    subst (λ (change : Change). StandsBehind R c.args.at c.args.operation change) (sym c.noted.ensures)
    (λ gate front. noted_there R c.args.at gate c.args.operation c.in_ok-overwrite.overwrite note c.requires.operation front (c.in_ok-overwrite.ensures.flag t) rest)

pub returns-clause-fits : goal.returns-clause-fits
returns-clause-fits g c = subst CanStand (sym c.noted.ensures) (noted_fits c.args.operation c.in_ok-overwrite.overwrite c.in_ok-note.note c.requires.operation c.in_ok-note.ensures.fits)

pub returns-clause-before : goal.returns-clause-before
returns-clause-before g c = omega (arith, c.in_ok-note.ensures.before, ap change_size c.noted.ensures, noted_change_size c.args.operation c.in_ok-overwrite.overwrite c.in_ok-note.note c.requires.operation)
