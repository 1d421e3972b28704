use Rattle.std.proofs.Common.{◌≡◌, ◌++◌, ◌∷◌, replicate}
use Rattle.item_words.proofs.layout.add_new_line.Given as goal

-- the line feed and the blanks so far
abbrev pub invariant-loop-blank : goal.invariant-loop-blank
invariant-loop-blank l = l.out.items ≡ l.fn.out.items ++ (10 ∷ replicate l._blank 32)
