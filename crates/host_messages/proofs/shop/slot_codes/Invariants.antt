use Rattle.std.proofs.Common.{◌≡◌, ◌++◌, drop, length, option_map}
use Rattle.item_model.specs.View.{items_of}
use Rattle.message_model.specs.Bodies.{all_of}
use Rattle.gem_model.specs.Shop.{slot_code}
use Rattle.host_messages.proofs.shop.slot_codes.Given as goal

-- the codes that were read stand before those of the slots that are left
abbrev pub invariant-loop-slot : goal.invariant-loop-slot
invariant-loop-slot l = record {
  read : all_of slot_code (items_of l.initial.slots) ≡ option_map (λ rest. l.codes.items ++ rest) (all_of slot_code (items_of (drop l.slot-index l.initial.slots)));
  count : length l.codes.items ≡ l.slot-index;
}
