-- Items that name process jobs.
use Rattle.std.proofs.Common.{◌≡◌, ℕ, List, [], ◌∷◌, length, get_or, Option, Some, None, option_and_then, nat_eq, refl, sym, ap, ◌∙◌, arith}
use Rattle.std.proofs.lemmas.Bool.Decides.{nat_tests}
use Rattle.item_model.specs.Data.{list}
use Rattle.item_model.specs.View.{view, items_of}
use Rattle.item_model.specs.declared.item.Item.{Item}
use Rattle.message_model.specs.Bodies.{text}
use Rattle.body_parts.proofs.Parts.{count-unmet}
use Rattle.request_model.specs.Attributes.{job_with_more}
use Rattle.request_model.specs.Requests.{is_empty_list}

-- a list without items
pub empty_is : (xs : List Item) → nat_eq (length xs) 0 ≡ is_empty_list (list (items_of xs))
empty_is [] = refl
empty_is (x ∷ xs) = grind (arith, nat_tests)

-- a list of three items
pub more_met : (xs : List Item) (x : Item) → length xs ≡ 3 → x ≡ get_or xs 0 x → job_with_more (list (items_of xs)) ≡ text (view x)
more_met [] x l e = absurd (omega arith)
more_met (a ∷ []) x l e = absurd (omega arith)
more_met (a ∷ b ∷ []) x l e = absurd (omega arith)
more_met (a ∷ b ∷ c ∷ []) x l e = by_text (text (view a)) ∙ ap (λ (i : Item). text (view i)) (sym e) where
  by_text : (o : Option (List ℕ)) → option_and_then (λ job. Some job) o ≡ o
  by_text None = refl
  by_text (Some job) = refl
more_met (a ∷ b ∷ c ∷ d ∷ xs) x l e = absurd (omega arith)

-- a list of more or fewer
pub more_unmet : (xs : List Item) → (length xs ≡ 3 → ⊥) → job_with_more (list (items_of xs)) ≡ None
more_unmet xs l = rw (count-unmet 3 xs l) refl
