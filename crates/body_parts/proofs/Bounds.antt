-- Bounds of the items of replies.
use Rattle.std.proofs.Common.{◌≤◌, ◌^◌, length, arith}
use Rattle.item_model.specs.Data.{Data}
use Rattle.item_model.specs.Plain.{plain}
use Rattle.item_model.specs.Weight.{IsBounded}
use Rattle.item_model.proofs.Weights.{plain-weight}

-- an item within the bounds of a frame is short
pub short_text : (d : Data) → IsBounded 5 (2 ^ 31) d → length (plain d) ≤ 2 ^ 31
short_text d is = omega (arith, plain-weight d, is.size)
