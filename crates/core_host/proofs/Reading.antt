-- The item that a message is read from, and what becomes of one that is read.
use Rattle.std.proofs.Common.{◌≡◌, ◌<◌, ◌==◌, ℕ, true, arith, Option, Some, None, Result, Ok, Err, option_copied, IfSome, Bor, refl, sym, subst}
use Rattle.std.proofs.lemmas.Bool.{and_parts, eqb-true}
use Rattle.hsms_frame.specs.declared.frame.Header.{Header}
use Rattle.item_model.specs.Data.{Data}
use Rattle.item_model.specs.View.{view}
use Rattle.item_model.specs.declared.item.Item.{Item}
use Rattle.message_model.specs.Few.{HasShortText}
use Rattle.message_model.specs.declared.fault.BodyFault.{BodyFault}
use Rattle.message_model.specs.declared.fault.BodyFault.TheVariants as fault
use Rattle.message_model.specs.declared.gem_primary.GemMsg.{GemMsg}
use Rattle.message_model.specs.declared.gem_primary.GemMsg.TheVariants as msg
use Rattle.gem_model.specs.HostMessages.{Gem}
use Rattle.gem_model.specs.State.{State}
use Rattle.gem_model.specs.Verdict.{Taken, told_by, read_as, read_message, is_message, stream_of, function_of}
use Rattle.gem_model.specs.Act.{data_act}

-- the item that is borrowed
pub short_borrowed : (borrowed : Option (Bor Item)) (item : Option Item) → option_copied borrowed ≡ item → IfSome item (λ i. HasShortText (view i)) → IfSome borrowed (λ i. HasShortText (view i.now))
short_borrowed None item is short = tt
short_borrowed (Some i) item is short = subst (λ (o : Option Item). IfSome o (λ i. HasShortText (view i))) (sym is) short

told_same : (h : Header) (one other : Option Data) (f : BodyFault) (g : State) → data_act h one (told_by f) g ≡ data_act h other (told_by f) g
told_same h one other fault.UnknownStream g = refl
told_same h one other fault.UnknownFunction g = refl
told_same h one other fault.IllegalData g = refl
told_same h one other fault.NoMemory g = refl

-- what a message does that is read is the same whatever its item
pub read_same : (h : Header) (one other : Option Data) (read : Result GemMsg BodyFault) (g : State) → data_act h one (read_as read) g ≡ data_act h other (read_as read) g
read_same h one other (Ok m) g = refl
read_same h one other (Err f) g = told_same h one other f g

-- ---- S1F1

by_numbers : (stream function : ℕ) (item : Option Data) → stream ≡ 1 → function ≡ 1 → read_message stream function item ≡ Taken (Gem msg.S1F1)
by_numbers stream function item first second =
    subst (λ s. read_message s function item ≡ Taken (Gem msg.S1F1)) (sym first) (subst (λ f. read_message 1 f item ≡ Taken (Gem msg.S1F1)) (sym second) refl)

-- it is taken, whatever its text
pub identity_asked : (h : Header) (item : Option Data) → is_message 1 1 h ≡ true → read_message (stream_of h) (function_of h) item ≡ Taken (Gem msg.S1F1)
identity_asked h item is =
    let parts = and_parts (stream_of h == 1) (function_of h == 1) is in
    by_numbers (stream_of h) (function_of h) item (eqb-true (stream_of h) 1 parts.0) (eqb-true (function_of h) 1 parts.1)

-- and has a function behind it
pub identity_next : (h : Header) → is_message 1 1 h ≡ true → function_of h < 255
identity_next h is =
    subst (λ f. f < 255) (sym (eqb-true (function_of h) 1 (and_parts (stream_of h == 1) (function_of h == 1) is).1)) (omega arith)
