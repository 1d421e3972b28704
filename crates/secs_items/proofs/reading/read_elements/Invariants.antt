use Rattle.std.proofs.Common.{◌≡◌, ◌++◌, ◌-◌, ◌*◌, ◌≤◌, length}
use Rattle.item_model.specs.Reading.{elements_at}
use Rattle.secs_items.proofs.reading.read_elements.Given as goal

-- the elements that were read and those that are to come are the elements of the bytes
abbrev pub invariant-loop : goal.invariant-loop
invariant-loop g l =
    (g.T.Element.WIDTH * (l.count - l.counter) ≤ length l.rest)
    × (l.elements.items ++ elements_at g.T.Element.read_from g.T.Element.WIDTH (l.count - l.counter) l.rest
    ≡ elements_at g.T.Element.read_from g.T.Element.WIDTH l.count l.fn.bytes)
