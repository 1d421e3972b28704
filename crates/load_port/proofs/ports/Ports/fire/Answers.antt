use Rattle.std.proofs.Common.{length, slice_set, slice_index_or, List, Option, Some, ◌∙◌, sym, ap}
use Rattle.std.specs.List.{refill}
use Rattle.load_port.specs.declared.port.Port.{Port}
use Rattle.load_port.specs.declared.record.PortRecord.{PortRecord}
use Rattle.load_port.specs.Ports.{fires_row, starts_row}
use Rattle.load_port.proofs.Places.{numbered_there, changed_there, change_missing}
use Rattle.load_port.proofs.ports.Ports.fire.Goals as goal

pub returns-in-None-clause-after : goal.returns-in-None-clause-after
returns-in-None-clause-after c = sym (change_missing _ c.args.number c.args.self.now (c.place_of.ensures.missing c.in-None.is))

pub returns-in-Some-clause-fires : goal.returns-in-Some-clause-fires
returns-in-Some-clause-fires c =
    let there = numbered_there c.args.self.now c.args.number c.in-Some.place c.index-deref_mut-place.result c.in-Some.ensures.within c.in-Some.ensures.counted in
    c.fire.ensures.fires
    ∙ ap (λ (ps : List Port). starts_row c.args.table c.args.row (Some (slice_index_or ps c.in-Some.place c.index-deref_mut-place.result))) (c.deref_mut.ensures.value ∙ c.self.view_is)
    ∙ ap (λ (o : Option Port). starts_row c.args.table c.args.row o) (sym there)

pub returns-in-Some-clause-after : goal.returns-in-Some-clause-after
returns-in-Some-clause-after c =
    ap (λ (s : PortRecord). refill (length c.self.inside.ports.items) c.self.inside.ports.items (slice_set c.deref_mut.result.now c.in-Some.place (record (slice_index_or c.deref_mut.result.now c.in-Some.place c.index-deref_mut-place.result) { states = s }))) c.fire.ensures.after
    ∙ changed_there c.self.inside.ports.items c.deref_mut.result.now c.args.self.now c.args.number c.in-Some.place c.index-deref_mut-place.result (fires_row c.args.table c.args.row)
    c.deref_mut.ensures.value c.self.view_is c.in-Some.ensures.within c.in-Some.ensures.counted
