-- Fronts of a history.
use Rattle.std.proofs.Common.{◌≡◌, ◌≤◌, List, [], ◌++◌, refl, sym, ◌∙◌, ap, append_assoc, arith, length, length-append}
use Rattle.std.proofs.lemmas.List.{append-nil}
use Rattle.line_grammar.specs.Texts.{IsFront}

pub IsFront-append : {A : Type 0} → (front more : List A) → IsFront front (front ++ more)
IsFront-append front more = record { behind = more; joined = refl }

pub IsFront-wider : {A : Type 0} → (front xs ys : List A) → IsFront front xs → IsFront front (xs ++ ys)
IsFront-wider front xs ys h = record { behind = h.behind ++ ys; joined = ap (λ zs. zs ++ ys) h.joined ∙ append_assoc front h.behind ys }

pub IsFront-same : {A : Type 0} → (xs ys : List A) → ys ≡ xs → IsFront xs ys
IsFront-same xs ys same = record { behind = []; joined = same ∙ sym (append-nil xs) }

pub IsFront-then : {A : Type 0} → (xs ys zs : List A) → IsFront xs ys → IsFront ys zs → IsFront xs zs
IsFront-then xs ys zs h i = record { behind = h.behind ++ i.behind; joined = i.joined ∙ ap (λ es. es ++ i.behind) h.joined ∙ append_assoc xs h.behind i.behind }

pub IsFront-length : {A : Type 0} → (xs ys : List A) → IsFront xs ys → length xs ≤ length ys
IsFront-length xs ys h = omega (arith, ap length h.joined, length-append xs h.behind)

-- behind the same list a front stays one
pub IsFront-behind : {A : Type 0} → (before xs ys : List A) → IsFront xs ys → IsFront (before ++ xs) (before ++ ys)
IsFront-behind before xs ys h = record { behind = h.behind; joined = ap (λ zs. before ++ zs) h.joined ∙ sym (append_assoc before xs h.behind) }
