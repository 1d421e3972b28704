use Rattle.std.proofs.Common.{◌++◌, arith}
use Rattle.gem_ids.specs.Texts.{IsText}
use Rattle.gem_rows.specs.Lines.{digits}
use Rattle.gem_rows.proofs.Printable.{text_with_number}
use Rattle.gem_rows.proofs.names.numbered.Goals as goal

pub returns : goal.returns
returns c =
    let text : IsText (c.args.before.now ++ digits c.args.number ++ c.args.behind.now) = text_with_number c.args.before.now c.args.behind.now c.args.number c.requires.most c.requires.fits_before c.requires.fits_behind c.requires.before c.requires.behind in
    grind (arith, text)
