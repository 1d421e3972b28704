use Rattle.std.proofs.Common.{◌≡◌, false, take}
use Rattle.std.specs.List.{list_any}
use Rattle.item_words.specs.Words.{is_mark}
use Rattle.item_words.proofs.text.has_mark.Given as goal

abbrev pub invariant-loop-character : goal.invariant-loop-character
invariant-loop-character l = list_any is_mark (take l.character-index l.text) ≡ false
