-- What is read, one piece after another.
use Rattle.std.proofs.Common.{◌≡◌, ℕ, List, [], ◌++◌, Option, Some, None, refl, sym, ◌∙◌, ap, append_assoc, length, length-append, arith}
use Rattle.std.proofs.lemmas.List.{append-nil, nil_from_length}
use Rattle.outside.specs.Told.{Taken, NothingLeft, Whole}

pub Taken-nothing : (left : Option (List ℕ)) → Taken left left []
Taken-nothing None = tt
Taken-nothing (Some bytes) = (bytes, refl, refl)

pub Taken-more : (a b c : Option (List ℕ)) (xs ys : List ℕ) → Taken a b xs → Taken b c ys → Taken a c (xs ++ ys)
Taken-more None b c xs ys first second = tt
Taken-more (Some old) None c xs ys first second = absurd (cc (first.2))
Taken-more (Some old) (Some mid) c xs ys first second =
    let rest : mid ≡ first.0 = cc (first.2) in
    (second.0, first.1 ∙ ap (λ (bs : List ℕ). xs ++ bs) (sym rest ∙ second.1) ∙ sym (append_assoc xs ys second.0), second.2)

pub Taken-same : (a b c : Option (List ℕ)) (xs : List ℕ) → Taken a b xs → c ≡ b → Taken a c xs
Taken-same None b c xs first same = tt
Taken-same (Some old) b c xs first same = (first.0, first.1, same ∙ first.2)

-- nothing is left behind what was taken
pub Whole-taken : (a b : Option (List ℕ)) (xs : List ℕ) → Taken a b xs → NothingLeft b → Whole a xs
Whole-taken None b xs first none = tt
Whole-taken (Some old) None xs first none = absurd (cc (first.2))
Whole-taken (Some old) (Some mid) xs first none =
    let rest : mid ≡ first.0 = cc (first.2) in
    first.1 ∙ ap (λ (bs : List ℕ). xs ++ bs) (sym rest ∙ none) ∙ append-nil xs

rest_none : (text rest : List ℕ) → text ≡ text ++ rest → rest ≡ []
rest_none text rest h = nil_from_length rest (omega (arith, ap length h, length-append text rest))

-- what was taken is all that was left
pub whole_any : (left left' : Option (List ℕ)) (text other : List ℕ) → Taken left left' text → Whole left text → Taken left left' other → Whole left other
whole_any None left' text other first whole second = tt
whole_any (Some bytes) left' text other first whole second =
    let none : first.0 ≡ [] = rest_none text first.0 (sym whole ∙ first.1) in
    let same : first.0 ≡ second.0 = cc (first.2, second.2) in
    second.1 ∙ ap (λ (rest : List ℕ). other ++ rest) (sym same ∙ none) ∙ append-nil other
