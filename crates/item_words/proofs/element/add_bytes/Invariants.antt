use Rattle.std.proofs.Common.{◌≡◌, ◌++◌, take, flat_map}
use Rattle.item_words.specs.Words.{byte_word}
use Rattle.item_words.proofs.element.add_bytes.Given as goal

-- the mark and the bytes that were gone over
abbrev pub invariant-loop-byte : goal.invariant-loop-byte
invariant-loop-byte l = l.out.items ≡ l.fn.out.items ++ (l.fn.mark ++ flat_map byte_word (take l.byte-index l.bytes))
