use Rattle.std.proofs.Common.{◌≡◌, [], map, arith}
use Rattle.std.proofs.lemmas.List.{nil_from_length}
use Rattle.std.specs.Vec.Iter.{into_iter_items}
use Rattle.hsms_frame.specs.Cut.{arrivals_of}
use Rattle.tool_events.specs.Sizes.{text_bytes}
use Rattle.tool_events.specs.declared.event.Event.TheVariants as event
use Rattle.batching.proofs.Carrying.{told-next, told-all}
use Rattle.batching.proofs.carriers.told_by.Goals as goal

pub loop-arrival-preserved : goal.loop-arrival-preserved
loop-arrival-preserved c =
    told-next (event.Host 1) (map (event.Host 1) (arrivals_of text_bytes c.args.bytes.now)) c.loop-arrival.events.items _ (into_iter_items c.loop-arrival.arrival-iterator) c.in-Some.arrival (into_iter_items c.next.new.self)
    c.in-Some.ensures.steps.0 c.loop-arrival.invariant c.in_ok-push.ensures.items

pub returns : goal.returns
returns c =
    let none : into_iter_items c.loop-arrival.arrival-iterator ≡ [] = nil_from_length _ (omega (arith, c.loop-arrival.arrival-iterator.rest.ok.0, c.in-None.ensures.steps.0)) in
    told-all (event.Host 1) (map (event.Host 1) (arrivals_of text_bytes c.args.bytes.now)) c.loop-arrival.events.items (into_iter_items c.loop-arrival.arrival-iterator) none c.loop-arrival.invariant
