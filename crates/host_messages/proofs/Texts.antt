-- A text that is short spells its item.
use Rattle.std.proofs.Common.{◌≡◌, ◌≤◌, ◌^◌, ℕ, List, length, Option, Some, None, Result, Ok, Err, option_map, IfOk, IfSome, sym}
use Rattle.item_model.specs.One.{one_item}
use Rattle.item_model.specs.Spelling.{AreBelow}
use Rattle.item_model.specs.View.{view}
use Rattle.item_model.specs.declared.item.Item.{Item}
use Rattle.secs_items.proofs.OneItem.{one_spelled}
use Rattle.message_model.specs.Few.{HasShortText}

short_found : (found : Option Item) (text : List ℕ) → AreBelow 256 text → length text ≤ 2 ^ 29 → option_map view found ≡ one_item text → IfSome found (λ i. HasShortText (view i))
short_found None text below short is = tt
short_found (Some i) text below short is = (text, one_spelled text (view i) below (sym is), short)

pub short_read : {E : Type 0} (r : Result (Option Item) E) (text : List ℕ) → AreBelow 256 text → length text ≤ 2 ^ 29 → IfOk r (λ found. option_map view found ≡ one_item text) → IfOk r (λ found. IfSome found (λ i. HasShortText (view i)))
short_read (Ok found) text below short is = short_found found text below short is
short_read (Err e) text below short is = tt
