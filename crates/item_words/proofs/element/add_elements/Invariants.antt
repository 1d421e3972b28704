use Rattle.std.proofs.Common.{◌≡◌, ◌++◌, take, flat_map}
use Rattle.item_words.proofs.element.add_elements.Given as goal

-- the name and the elements that were gone over
abbrev pub invariant-loop-element : goal.invariant-loop-element
invariant-loop-element g l = l.out.items ≡ l.fn.out.items ++ (l.fn.kind ++ flat_map g.T.Element.word (take l.element-index l.elements))
