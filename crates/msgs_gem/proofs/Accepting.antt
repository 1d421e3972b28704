-- Which lists are the text of an S1F14 that accepts.
use Rattle.std.proofs.Common.{◌≡◌, ◌<◌, ◌≤◌, ◌==◌, ℕ, suc, false, List, [], ◌∷◌, length, slice_index_or, Option, Some, None, is_some, arith, refl, sym, ◌∙◌, ap}
use Rattle.std.proofs.lemmas.Bool.Decides.{nat_tests}
use Rattle.item_model.specs.Data.{list}
use Rattle.item_model.specs.Plain.{count_of}
use Rattle.item_model.specs.declared.item.Item.{Item}
use Rattle.item_model.specs.View.{view, items_of}
use Rattle.message_model.specs.Acknowledge.{accepting}
use Rattle.message_model.specs.Bodies.{◌>>=◌, byte, fixed}

kept : {A : Type 0} (o : Option A) → is_some (o >>= λ x. Some x) ≡ is_some o
kept None = refl
kept (Some x) = refl

-- two items accept where the first is 0
pub accepts_two : (xs : List Item) (x : Item) → 2 ≤ length xs → length xs < 3 → x ≡ slice_index_or xs 0 x →
    is_some (accepting (list (items_of xs))) ≡ is_some (fixed 0 byte (view x))
accepts_two [] x low high at = absurd (omega arith)
accepts_two (a ∷ []) x low high at = absurd (omega arith)
accepts_two (a ∷ b ∷ []) x low high at = kept (fixed 0 byte (view a)) ∙ ap (λ (y : Item). is_some (fixed 0 byte (view y))) (sym at)
accepts_two (a ∷ b ∷ c ∷ xs) x low high at = absurd (omega arith)

-- fewer items do not accept
pub accepts_fewer : (xs : List Item) → length xs < 2 → is_some (accepting (list (items_of xs))) ≡ false
accepts_fewer [] few = refl
accepts_fewer (a ∷ []) few = refl
accepts_fewer (a ∷ b ∷ xs) few = absurd (omega arith)

more-than-two : (n : ℕ) → (suc (suc (suc n)) == 2) ≡ false
more-than-two n = grind (arith, nat_tests)

-- and neither do more
pub accepts_more : (xs : List Item) → 3 ≤ length xs → is_some (accepting (list (items_of xs))) ≡ false
accepts_more [] more = absurd (omega arith)
accepts_more (a ∷ []) more = absurd (omega arith)
accepts_more (a ∷ b ∷ []) more = absurd (omega arith)
accepts_more (a ∷ b ∷ c ∷ xs) more = rw (more-than-two (count_of (items_of xs))) refl
