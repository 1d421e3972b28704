-- Bounds of the items of replies.
use Rattle.std.proofs.Common.{◌^◌, ℕ, arith}
use Rattle.item_model.specs.Data.{DataList, list}
use Rattle.item_model.specs.Weight.{IsBounded}
use Rattle.item_model.proofs.Weights.{bounded-list, bounded-more}
use Rattle.message_model.specs.GemReplies.{event}
use Rattle.message_model.specs.GemSendable.{AreFew}

-- values
pub values_bounded : (ds : DataList) → AreFew 1024 1 84 ds → IsBounded 5 (2 ^ 31) (list ds)
values_bounded ds few = bounded-more 2 86020 5 (2 ^ 31) (list ds) (omega arith) (omega arith) (bounded-list 1 84 1024 ds (omega arith) few.0 few.1)

-- constants
pub constants_bounded : (ds : DataList) → AreFew 1024 1 210 ds → IsBounded 5 (2 ^ 31) (list ds)
constants_bounded ds few = bounded-more 2 215044 5 (2 ^ 31) (list ds) (omega arith) (omega arith) (bounded-list 1 210 1024 ds (omega arith) few.0 few.1)

-- an event and its reports
pub event_bounded : (note ceid : ℕ) (ds : DataList) → AreFew 16 3 5392 ds → IsBounded 5 (2 ^ 31) (event note ceid ds)
event_bounded note ceid ds few =
    let reports = bounded-list 3 5392 16 ds (omega arith) few.0 few.1 in
    record {
      depth = omega (arith, reports.depth);
      size = omega (arith, reports.size);
      bodies = (omega arith, (omega arith, (omega arith, (reports.bodies, tt))));
    }
