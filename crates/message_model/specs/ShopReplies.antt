-- The bodies of the tool's replies of streams 3, 14 and 16, as they are printed (after SEMI E87, E40 and E94; this tool's
-- profile, messages).
use Rattle.std.specs.Prelude.{ℕ, Bool, List, [], ◌∷◌}
use Rattle.item_model.specs.Data.{Data, boolean, u2}
use Rattle.message_model.specs.Printed.{A, L, U1, each}
use Rattle.message_model.specs.declared.shop_reply.ErrorPart.{ErrorPart}
use Rattle.message_model.specs.declared.shop_reply.JobAcknowledge.{JobAcknowledge}
use Rattle.message_model.specs.declared.shop_reply.JobState.{JobState}
use Rattle.message_model.specs.declared.shop_reply.ObjectAcknowledge.{ObjectAcknowledge}
use Rattle.message_model.specs.declared.shop_reply.ShopReply.{ShopReply}
use Rattle.message_model.specs.declared.shop_reply.ShopReply.TheVariants as reply

-- BOOL of one element
abbrev pub BOOL : Bool → Data
BOOL truth = boolean (truth ∷ [])

-- U2 of one element
abbrev pub U2 : ℕ → Data
U2 n = u2 (n ∷ [])

-- what a carrier action or a port action is answered: L[U1 CAACK, L[]]
abbrev pub action_acknowledge : ℕ → Data
action_acknowledge caack = L (U1 caack ∷ (L [] ∷ []))

-- why something is refused: L[U1 code, A text]
abbrev pub error_part : ErrorPart → Data
error_part e = L (U1 e.code ∷ (A e.text ∷ []))

-- whether a command or a creation is taken, and why not: L[BOOL ok, L[error*]]
abbrev pub acknowledge : Bool → List ErrorPart → Data
acknowledge ok errors = L (BOOL ok ∷ (each error_part errors ∷ []))

-- the same of one value
abbrev pub job_acknowledge : JobAcknowledge → Data
job_acknowledge told = acknowledge told.ok told.errors

-- what an object's creation is answered: L[U1 OBJACK, L[error*]]
abbrev pub object_acknowledge : ObjectAcknowledge → Data
object_acknowledge told = L (U1 told.objack ∷ (each error_part told.errors ∷ []))

-- a process job and the number of its state: L[A job, U1 state]
abbrev pub job_state : JobState → Data
job_state j = L (A j.job ∷ (U1 j.state ∷ []))

-- the body of each reply (after SEMI E87, stream 3, E94, stream 14, and E40 and E94, stream 16; this tool's profile, messages)
abbrev pub shop_reply_body : ShopReply → Data
shop_reply_body (reply.S3F18 caack) = action_acknowledge caack
shop_reply_body (reply.S3F26 caack) = action_acknowledge caack
shop_reply_body (reply.S3F28 caack) = action_acknowledge caack
shop_reply_body (reply.S14F10 id told) = L (A id ∷ (L [] ∷ (object_acknowledge told ∷ [])))
shop_reply_body (reply.S16F6 job told) = L (A job ∷ (job_acknowledge told ∷ []))
shop_reply_body (reply.S16F12 job told) = L (A job ∷ (job_acknowledge told ∷ []))
shop_reply_body (reply.S16F18 jobs told) = L (each A jobs ∷ (job_acknowledge told ∷ []))
shop_reply_body (reply.S16F20 jobs) = each job_state jobs
shop_reply_body (reply.S16F22 space) = U2 space
shop_reply_body (reply.S16F28 ok errors) = acknowledge ok errors
