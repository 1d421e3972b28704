-- A text that is ignored makes no difference.
use Rattle.std.proofs.Common.{◌≡◌, ℕ, Bool, true, Option, Some, None, refl}
use Rattle.item_model.specs.Data.{Data}
use Rattle.message_model.specs.MessageTable.{Body, ignored, printed, MessageRow, row_of, has_stream, message_in, checked, by_found, is_any, takes_any}
use Rattle.message_model.specs.GemPrimaries.{primaries, ignores, reading}

same_message : {M : Type 0} (body : Body M) (a b : Option Data) → is_any body ≡ true → checked (message_in body a) ≡ checked (message_in body b)
same_message (ignored m) a b any = refl
same_message (printed form) a b any = absurd (cc)

same_found : {M : Type 0} (known : Bool) (found : Option (MessageRow M)) (a b : Option Data) → takes_any found ≡ true → by_found known found a ≡ by_found known found b
same_found known None a b any = absurd (cc)
same_found known (Some r) a b any = same_message r.body a b any

pub same_reading : (stream function : ℕ) (a b : Option Data) → ignores stream function ≡ true → reading stream function a ≡ reading stream function b
same_reading stream function a b any = same_found (has_stream primaries stream) (row_of primaries stream function) a b any
