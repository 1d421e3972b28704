use Rattle.std.proofs.Common.{◌≡◌, true, take}
use Rattle.std.specs.List.{list_all}
use Rattle.item_words.specs.Words.{prints}
use Rattle.item_words.proofs.text.all_print.Given as goal

abbrev pub invariant-loop-character : goal.invariant-loop-character
invariant-loop-character l = list_all prints (take l.character-index l.text) ≡ true
