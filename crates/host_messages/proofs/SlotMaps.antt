-- The codes of slots, one after another.
use Rattle.std.proofs.Common.{◌≡◌, ℕ, suc, ◌+◌, ◌==◌, ◌<◌, ◌≤◌, nat_le, arith, List, [], ◌∷◌, ◌++◌, length, drop, get_or, Option, Some, None, option_map, option_and_then, refl, sym, ◌∙◌, ap, add-one, drop-cons, append_assoc}
use Rattle.std.proofs.lemmas.List.{drop_all, append-nil}
use Rattle.std.proofs.lemmas.Bool.Decides.{nat_tests}
use Rattle.item_model.specs.Data.{Data}
use Rattle.item_model.specs.declared.item.Item.{Item}
use Rattle.item_model.specs.View.{view, items_of}
use Rattle.item_model.specs.Ids.{id_of}
use Rattle.item_model.specs.Plain.{count_of}
use Rattle.message_model.specs.Bodies.{all_of, meeting}
use Rattle.body_parts.proofs.Parts.{count-met, count-unmet}
use Rattle.gem_model.specs.Shop.{slot_code}

-- ---- one slot

code_within : (code : ℕ) → code ≤ 5 → option_and_then (meeting (λ n. nat_le n 5)) (meeting (λ n. nat_le n 255) code) ≡ Some code
code_within code few = grind (arith, nat_tests, few)

code_over : (code : ℕ) → (code ≤ 5 → ⊥) → option_and_then (meeting (λ n. nat_le n 5)) (meeting (λ n. nat_le n 255) code) ≡ None
code_over code many = grind (arith, nat_tests, many)

-- an id of at most 5 is the code of a slot
pub is_code : (d : Data) (code : ℕ) → id_of d ≡ Some code → code ≤ 5 → slot_code d ≡ Some code
is_code d code is few = ap (λ (o : Option ℕ). option_and_then (meeting (λ n. nat_le n 5)) (option_and_then (meeting (λ n. nat_le n 255)) o)) is ∙ code_within code few

-- and no greater one is
pub no_code : (d : Data) (code : ℕ) → id_of d ≡ Some code → (code ≤ 5 → ⊥) → slot_code d ≡ None
no_code d code is many = ap (λ (o : Option ℕ). option_and_then (meeting (λ n. nat_le n 5)) (option_and_then (meeting (λ n. nat_le n 255)) o)) is ∙ code_over code many

-- ---- a map

pub map_met : (slots : List Item) → length slots ≡ 25 → option_and_then (all_of slot_code) (meeting (λ ds. count_of ds == 25) (items_of slots)) ≡ all_of slot_code (items_of slots)
map_met slots is = ap (option_and_then (all_of slot_code)) (count-met 25 slots is)

pub map_unmet : (slots : List Item) → (length slots ≡ 25 → ⊥) → option_and_then (all_of slot_code) (meeting (λ ds. count_of ds == 25) (items_of slots)) ≡ None
map_unmet slots is = ap (option_and_then (all_of slot_code)) (count-unmet 25 slots is)

-- ---- one slot behind another

-- what the slots from a place on give, behind these codes
abbrev pub Behind : List ℕ → List Item → ℕ → Option (List ℕ)
Behind codes slots i = option_map (λ rest. codes ++ rest) (all_of slot_code (items_of (drop i slots)))

-- those of the first of some slots, and of the others
first_code : (codes : List ℕ) (code : ℕ) (rest : Option (List ℕ)) → option_map (λ (r : List ℕ). codes ++ r) (option_map (λ xs. code ∷ xs) rest) ≡ option_map (λ (r : List ℕ). (codes ++ code ∷ []) ++ r) rest
first_code codes code None = refl
first_code codes code (Some rest) = ap Some (sym (append_assoc codes (code ∷ []) rest))

-- the slot at a place has this code
pub code_more : (codes : List ℕ) (slots : List Item) (i : ℕ) (x : Item) (code : ℕ) (all : Option (List ℕ)) → i < length slots → slot_code (view (get_or slots i x)) ≡ Some code → all ≡ Behind codes slots i → all ≡ Behind (codes ++ code ∷ []) slots (i + 1)
code_more codes slots i x code all within is before =
    before
    ∙ ap (λ (ss : List Item). option_map (λ (rest : List ℕ). codes ++ rest) (all_of slot_code (items_of ss))) (drop-cons slots i x within)
    ∙ ap (λ (o : Option ℕ). option_map (λ (rest : List ℕ). codes ++ rest) (option_and_then (λ c. option_map (λ xs. c ∷ xs) (all_of slot_code (items_of (drop (suc i) slots)))) o)) is
    ∙ first_code codes code (all_of slot_code (items_of (drop (suc i) slots)))
    ∙ rw add-one refl

-- the slot at a place has none
pub code_none : (codes : List ℕ) (slots : List Item) (i : ℕ) (x : Item) (all : Option (List ℕ)) → i < length slots → slot_code (view (get_or slots i x)) ≡ None → all ≡ Behind codes slots i → all ≡ None
code_none codes slots i x all within is before =
    before
    ∙ ap (λ (ss : List Item). option_map (λ (rest : List ℕ). codes ++ rest) (all_of slot_code (items_of ss))) (drop-cons slots i x within)
    ∙ ap (λ (o : Option ℕ). option_map (λ (rest : List ℕ). codes ++ rest) (option_and_then (λ c. option_map (λ xs. c ∷ xs) (all_of slot_code (items_of (drop (suc i) slots)))) o)) is

-- all slots were read
pub codes_all : (codes : List ℕ) (slots : List Item) (i : ℕ) (all : Option (List ℕ)) → length slots ≤ i → all ≡ Behind codes slots i → all ≡ Some codes
codes_all codes slots i all over before =
    before
    ∙ ap (λ (ss : List Item). option_map (λ (rest : List ℕ). codes ++ rest) (all_of slot_code (items_of ss))) (drop_all i slots over)
    ∙ ap Some (append-nil codes)
