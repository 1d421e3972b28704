-- The carrier of a name, of carriers whose names are apart.
use Rattle.std.proofs.Common.{◌≡◌, ℕ, suc, Bool, true, false, not, ◌&&◌, ◌||◌, cond, List, [], ◌∷◌, length, Option, Some, None, refl, sym, ap, ◌∙◌, subst}
use Rattle.std.specs.List.{list_any}
use Rattle.std.proofs.lemmas.Bool.{and_parts, or_parts, not-true}
use Rattle.carrier.specs.declared.carrier.Carrier.{Carrier}
use Rattle.carrier.specs.Carriers.{has_name, is_known, carrier_named, without, are_named_apart}
use Rattle.shop_floor.proofs.Apart.{named_so}

-- a test of the carrier of a name, where there is one
abbrev holds : (Carrier → Bool) → Option Carrier → Bool
holds test None = false
holds test (Some c) = test c

-- none of an unknown name passes
any_unknown : (test : Carrier → Bool) (name : List ℕ) (cs : List Carrier) → is_known name cs ≡ false → list_any (λ c. has_name name c && test c) cs ≡ false
any_unknown test name [] e = refl
any_unknown test name (c ∷ cs) e =
    let parts = or_parts (has_name name c) (is_known name cs) e in
    rw (parts.0, any_unknown test name cs parts.1) refl

or_false : (b : Bool) → (b || false) ≡ b
or_false true = refl
or_false false = refl

-- no other carrier has the name of the first
others_unknown : (name : List ℕ) (c : Carrier) (cs : List Carrier) → are_named_apart (c ∷ cs) ≡ true → has_name name c ≡ true → is_known name cs ≡ false
others_unknown name c cs apart t =
    subst (λ (n : List ℕ). is_known n cs ≡ false) (named_so name c t) (not-true _ (and_parts (not (is_known c.name cs)) (are_named_apart cs) apart).0)

-- that one passes which has the name
any_named : (test : Carrier → Bool) (name : List ℕ) (cs : List Carrier) → are_named_apart cs ≡ true → list_any (λ c. has_name name c && test c) cs ≡ holds test (carrier_named name cs)
any_named test name [] apart = refl
any_named test name (c ∷ cs) apart = of (has_name name c) refl (any_named test name cs (and_parts (not (is_known c.name cs)) (are_named_apart cs) apart).1) where
  of : (b : Bool) → has_name name c ≡ b → list_any (λ d. has_name name d && test d) cs ≡ holds test (carrier_named name cs) → ((b && test c) || list_any (λ d. has_name name d && test d) cs) ≡ holds test (cond b (Some c) (carrier_named name cs))
  of true t later = rw (any_unknown test name cs (others_unknown name c cs apart t)) (or_false (test c))
  of false t later = later

pub named_test : (test : Carrier → Bool) (name : List ℕ) (cs : List Carrier) (found : Option Carrier) (c : Carrier) → found ≡ carrier_named name cs → found ≡ Some c → are_named_apart cs ≡ true → list_any (λ d. has_name name d && test d) cs ≡ test c
named_test test name cs found c e is apart = any_named test name cs apart ∙ ap (holds test) (sym e ∙ is)

pub unnamed_test : (test : Carrier → Bool) (name : List ℕ) (cs : List Carrier) (found : Option Carrier) → found ≡ carrier_named name cs → found ≡ None → are_named_apart cs ≡ true → list_any (λ d. has_name name d && test d) cs ≡ false
unnamed_test test name cs found e is apart = any_named test name cs apart ∙ ap (holds test) (sym e ∙ is)

-- ---- one is forgotten

-- a name that isn't known is no carrier's
pub without_unknown : (name : List ℕ) (cs : List Carrier) → is_known name cs ≡ false → without name cs ≡ cs
without_unknown name [] e = refl
without_unknown name (c ∷ cs) e =
    let parts = or_parts (has_name name c) (is_known name cs) e in
    rw parts.0 (ap (λ ds. c ∷ ds) (without_unknown name cs parts.1))

-- one fewer
pub length_without : (name : List ℕ) (cs : List Carrier) → are_named_apart cs ≡ true → is_known name cs ≡ true → suc (length (without name cs)) ≡ length cs
length_without name [] apart e = absurd (cc)
length_without name (c ∷ cs) apart e = of (has_name name c) refl e (length_without name cs (and_parts (not (is_known c.name cs)) (are_named_apart cs) apart).1) where
  of : (b : Bool) → has_name name c ≡ b → (b || is_known name cs) ≡ true → (is_known name cs ≡ true → suc (length (without name cs)) ≡ length cs) → suc (length (cond (not b) (c ∷ without name cs) (without name cs))) ≡ suc (length cs)
  of true t known later = ap (λ ds. suc (length ds)) (without_unknown name cs (others_unknown name c cs apart t))
  of false t known later = ap suc (later known)
