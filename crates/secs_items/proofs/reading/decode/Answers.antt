use Rattle.item_model.specs.View.{view}
use Rattle.secs_items.proofs.Decoding.{bytes_below, spelled_front, sendable_front, only_ok, no_fault, only_err, fault_first, first_err}
use Rattle.secs_items.proofs.reading.decode.Goals as goal

pub returns-in-Ok-clause-found : goal.returns-in-Ok-clause-found
returns-in-Ok-clause-found c =
    spelled_front c.args.bytes.now c.in-Ok.rest.now (view c.in-Ok.item) (bytes_below c.args.bytes.now c.type_inv.bytes) c.in-Ok.ensures.exact

pub returns-in-Ok-clause-only : goal.returns-in-Ok-clause-only
returns-in-Ok-clause-only c d n within spells = only_ok c.args.bytes.now c.in-Ok.rest.now (view c.in-Ok.item) d n c.in-Ok.ensures.exact within spells

pub returns-in-Ok-clause-first : goal.returns-in-Ok-clause-first
returns-in-Ok-clause-first c e first =
    absurd (no_fault c.args.bytes.now c.in-Ok.rest.now (view c.in-Ok.item) e (bytes_below c.args.bytes.now c.type_inv.bytes) c.in-Ok.ensures.exact first)

pub returns-in-Ok-clause-sendable : goal.returns-in-Ok-clause-sendable
returns-in-Ok-clause-sendable c =
    sendable_front c.args.bytes.now c.in-Ok.rest.now (view c.in-Ok.item) (bytes_below c.args.bytes.now c.type_inv.bytes) c.in-Ok.ensures.exact

pub returns-in-Err-clause-only : goal.returns-in-Err-clause-only
returns-in-Err-clause-only c d n within spells = only_err c.args.bytes.now c.in-Err.fault d n c.in-Err.ensures.exact spells

pub returns-in-Err-clause-fault : goal.returns-in-Err-clause-fault
returns-in-Err-clause-fault c other =
    fault_first c.args.bytes.now c.in-Err.fault (bytes_below c.args.bytes.now c.type_inv.bytes) c.in-Err.ensures.exact other

pub returns-in-Err-clause-first : goal.returns-in-Err-clause-first
returns-in-Err-clause-first c e first =
    first_err c.args.bytes.now c.in-Err.fault e (bytes_below c.args.bytes.now c.type_inv.bytes) c.in-Err.ensures.exact first
