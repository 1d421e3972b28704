-- The test that tells a text.
use Rattle.std.proofs.Common.{◌≡◌, ℕ, Bool, true, false, ◌&&◌, nat_le, ◌≤◌, List, length, Some, None, Decides, refl, rules, tests, if◌then◌else◌}
use Rattle.std.specs.List.{list_all}
use Rattle.std.proofs.lemmas.Bool.Decides.{Decides-by_and, Decides-and}
use Rattle.gem_ids.specs.Texts.{IsText, IsPrintable}
use Rattle.message_model.specs.Bodies.{is_text, meeting}

printable : (b : ℕ) → Decides (nat_le 32 b && nat_le b 126) (IsPrintable b)
printable b = search (rules, tests)

short : (n : ℕ) → Decides (nat_le n 80) (n ≤ 80)
short n = search (rules, tests)

decides : (bs : List ℕ) → Decides (is_text bs) (IsText bs)
decides bs =
    Decides-and (nat_le (length bs) 80) _ (short (length bs)) (Decides-by_and (λ b. nat_le 32 b && nat_le b 126) IsPrintable (list_all (λ b. nat_le 32 b && nat_le b 126)) printable refl (λ _ _. refl) bs)

met : (b : Bool) (P : Type 0) (bs : List ℕ) → Decides b P → P → (if b then Some bs else None) ≡ Some bs
met b P bs h p = rw (h.1 p)

unmet : (b : Bool) (P : Type 0) (bs : List ℕ) → Decides b P → (P → ⊥) → (if b then Some bs else None) ≡ None
unmet true P bs h refuse = absurd (refuse (h.0 refl))
unmet false P bs h refuse = refl

-- a text meets the test
pub text-met : (bs : List ℕ) → IsText bs → meeting is_text bs ≡ Some bs
text-met bs h = met (is_text bs) (IsText bs) bs (decides bs) h

-- and other bytes do not
pub text-unmet : (bs : List ℕ) → (IsText bs → ⊥) → meeting is_text bs ≡ None
text-unmet bs h = unmet (is_text bs) (IsText bs) bs (decides bs) h
