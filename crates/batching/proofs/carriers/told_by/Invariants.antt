use Rattle.std.proofs.Common.{◌≡◌, ◌++◌, map}
use Rattle.std.specs.Vec.Iter.{into_iter_items}
use Rattle.hsms_frame.specs.Cut.{arrivals_of}
use Rattle.tool_events.specs.Sizes.{text_bytes}
use Rattle.tool_events.specs.declared.event.Event.TheVariants as event
use Rattle.batching.proofs.carriers.told_by.Given as goal

-- the events so far, with those of the frames that are left, are all
abbrev pub invariant-loop-arrival : goal.invariant-loop-arrival
invariant-loop-arrival l =
    l.events.items ++ map (event.Host 1) (into_iter_items l.arrival-iterator) ≡ map (event.Host 1) (arrivals_of text_bytes l.bytes)
