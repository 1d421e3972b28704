use Rattle.std.proofs.Common.{◌≡◌, ◌*◌, ◌++◌, length, take, flat_map}
use Rattle.item_model.specs.Format.{code}
use Rattle.item_model.specs.Plain.{plain_head}
use Rattle.secs_items.proofs.writing.write_elements.Given as goal

-- the header and the elements that were gone over
abbrev pub invariant-loop-element : goal.invariant-loop-element
invariant-loop-element g l =
    l.out.items ≡ l.fn.out.items ++ (plain_head (code l.fn.format) (g.T.Element.WIDTH * length l.elements) ++ flat_map g.T.Element.spelled (take l.element-index l.elements))
