use Rattle.std.proofs.Common.{◌≡◌}
use Rattle.picture_svg.proofs.picture.Picture.put_words.Given as goal

abbrev pub invariant-loop-byte : goal.invariant-loop-byte
invariant-loop-byte l = l.self ≡ l.fn.self
