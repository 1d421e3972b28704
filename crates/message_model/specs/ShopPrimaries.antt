-- The bodies of the host's primaries of streams 3, 14 and 16 (after SEMI E87, E40 and E94; this tool's profile, messages).
use Rattle.std.specs.Prelude.{ℕ, Bool, List, [], ◌∷◌, Option, Result}
use Rattle.item_model.specs.Data.{Data}
use Rattle.item_model.specs.View.{view}
use Rattle.message_model.specs.Bodies.{any, byte, each, fixed, flag, id, l2, l3, l5, named_value, of, small_id, text}
use Rattle.message_model.specs.MessageTable.{MessageRow, row, ignored, printed, by_row, has_stream}
use Rattle.message_model.specs.declared.fault.BodyFault.{BodyFault}
use Rattle.message_model.specs.ShopParts.{any_list, carrier_slots, l4, l7, recipe_part}
use Rattle.message_model.specs.declared.material.CarrierSlots.{CarrierSlots}
use Rattle.message_model.specs.declared.material.RecipePart.{RecipePart}
use Rattle.message_model.specs.declared.shop_primary.ShopMsg.{ShopMsg}
use Rattle.message_model.specs.declared.shop_primary.ShopMsg.TheVariants as msg

-- what a message says: the parts of its body in the printed order
pub data Message : Type 0 where
  S3F17 : ℕ → List ℕ → List ℕ → ℕ → List (List ℕ × Data) → Message
  S3F25 : List ℕ → ℕ → Data → Message
  S3F27 : ℕ → List ℕ → Message
  S14F9 : List ℕ → List ℕ → List (List ℕ × Data) → Message
  S16F5 : ℕ → List ℕ → List ℕ → Data → Message
  S16F11 : ℕ → List ℕ → List CarrierSlots → List ℕ × Data → Bool → Data → Message
  S16F17 : List (List ℕ) → Message
  S16F19 : Message
  S16F21 : Message
  S16F27 : List ℕ → ℕ → Data → Message

-- what the part of a recipe says: its name, and what its variables say
abbrev pub recipe_said : RecipePart → List ℕ × Data
recipe_said part = (part.recipe, view part.variables)

-- what a message that was read says: of a part of any kind what its item says
abbrev pub said : ShopMsg → Message
said (msg.S3F17 dataid action carrier port attributes) = S3F17 dataid action carrier port attributes
said (msg.S3F25 action port value) = S3F25 action port (view value)
said (msg.S3F27 mode ports) = S3F27 mode ports
said (msg.S14F9 object kind attributes) = S14F9 object kind attributes
said (msg.S16F5 dataid job command value) = S16F5 dataid job command (view value)
said (msg.S16F11 dataid job material recipe start events) = S16F11 dataid job material (recipe_said recipe) start (view events)
said (msg.S16F17 jobs) = S16F17 jobs
said msg.S16F19 = S16F19
said msg.S16F21 = S16F21
said (msg.S16F27 job command value) = S16F27 job command (view value)

-- an S16F11 of its seven parts, of which the format of the material is fixed: B 0D, carriers
abbrev pub job_creation : ℕ → List ℕ → ℕ → List CarrierSlots → List ℕ × Data → Bool → Data → Message
job_creation dataid job format material recipe start events = S16F11 dataid job material recipe start events

-- the host's messages (after SEMI E87, stream 3, E94, stream 14, and E40 and E94, stream 16; this tool's profile, messages)
abbrev pub primaries : List (MessageRow Message)
primaries =
    row 3 17 (printed (l5 S3F17 id text text small_id (each named_value))) ∷
    (row 3 25 (printed (l3 S3F25 text small_id any)) ∷
    (row 3 27 (printed (l2 S3F27 small_id (each small_id))) ∷
    (row 14 9 (printed (l3 S14F9 text text (each named_value))) ∷
    (row 16 5 (printed (l4 S16F5 id text text any)) ∷
    (row 16 11 (printed (l7 job_creation id text (fixed 13 byte) (each carrier_slots) recipe_part flag any_list)) ∷
    (row 16 17 (printed (of S16F17 (each text))) ∷
    (row 16 19 (ignored S16F19) ∷
    (row 16 21 (ignored S16F21) ∷
    (row 16 27 (printed (l3 S16F27 text small_id any)) ∷ [])))))))))

-- what a message of the host is read as; its item is None where its text is not one item, or there is none
abbrev pub reading : ℕ → ℕ → Option Data → Result Message BodyFault
reading = by_row primaries

-- a row has the stream, so that its messages are read here
abbrev pub is_shop_stream : ℕ → Bool
is_shop_stream = has_stream primaries
