use Rattle.std.proofs.Common.{rules}
use Rattle.std.proofs.lemmas.List.Edits.{map_over_more}
use Rattle.records.proofs.book.change_all.Goals as goal

pub loop-one-preserved : goal.loop-one-preserved
loop-one-preserved g c = search (rules, map_over_more (g.C.Change.does c.args.change.now))
