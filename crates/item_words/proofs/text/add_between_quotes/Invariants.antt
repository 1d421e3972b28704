use Rattle.std.proofs.Common.{◌≡◌, ◌++◌, take, flat_map, codes}
use Rattle.item_words.specs.Words.{quoted}
use Rattle.item_words.proofs.text.add_between_quotes.Given as goal

abbrev pub invariant-loop-character : goal.invariant-loop-character
invariant-loop-character l = l.out.items ≡ l.fn.out.items ++ (codes " \"" ++ flat_map quoted (take l.character-index l.text))
