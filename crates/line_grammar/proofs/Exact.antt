-- What an exact reading is, and how such readings are joined.
use Rattle.std.proofs.Common.{◌≡◌, ℕ, ◌+◌, ◌≤◌, ◌⊎◌, List, ◌++◌, length, take, drop, refl, sym, ◌∙◌, ap, subst, inl, inr, Result, Ok, Err, add_assoc, append_assoc, length-append, arith}
use Rattle.std.proofs.lemmas.List.{take-append-drop, take-take}
use Rattle.std.proofs.Math.Seq.{take-append-add}
use Rattle.std.proofs.Math.Nat.{max-eq_left, max-eq_right}
use Rattle.std.proofs.lemmas.Bool.{cases_lt}
use Rattle.line_grammar.specs.Grammar.{CanGoOn, LeavesAt}
use Rattle.line_grammar.specs.Reading.{either_of}

-- a reading is exact: a value is said by the text, and a place is where the text leaves
abbrev pub Exact : {V : Type 0} → (List ℕ → V → Type 0) → ℕ → List ℕ → Result V ℕ → Type 0
Exact L base text (Ok v) = L text v
Exact L base text (Err e) = (p : ℕ) × (e ≡ base + p) × LeavesAt L text p

-- what begins something begins it earlier too
pub earlier : {V : Type 0} (L : List ℕ → V → Type 0) (text : List ℕ) (m n : ℕ) → n ≤ m → CanGoOn L (take m text) → CanGoOn L (take n text)
earlier L text m n le (more, v, says) =
    let rest : List ℕ = drop n (take m text) in
    let same : take n text ++ (rest ++ more) ≡ take m text ++ more =
    ap (λ (t : List ℕ). t ++ (rest ++ more)) (sym (take-take n m text le)) ∙ (sym (append_assoc (take n (take m text)) rest more) ∙ ap (λ (t : List ℕ). t ++ more) (take-append-drop n (take m text))) in
    (rest ++ more, v, subst (λ (t : List ℕ). L t v) (sym same) says)

further : (front back more : List ℕ) (p : ℕ) → take (length front + p + 1) (front ++ back) ++ more ≡ front ++ (take (p + 1) back ++ more)
further front back more p = rw (add_assoc (length front) p 1, take-append-add front back (p + 1), append_assoc) refl

-- behind a front that each line has, a text leaves where what is behind it leaves
pub behind_leaves : {U V : Type 0} (L : List ℕ → V → Type 0) (M : List ℕ → U → Type 0) (front back : List ℕ) (p : ℕ) →
    ((t : List ℕ) (u : U) → M t u → (v : V) × L (front ++ t) v) → ((t : List ℕ) (v : V) → L (front ++ t) v → (u : U) × M t u) →
    LeavesAt M back p → LeavesAt L (front ++ back) (length front + p)
behind_leaves L M front back p to from leaves = record {
  within = omega (arith, length-append front back, leaves.within);
  begins =
      let (v, says) = to _ _ leaves.begins.2 in
      (leaves.begins.0, v, rw (take-append-add front back p, append_assoc) says);
  ends = λ low go.
      let (u, says) = from (take (p + 1) back ++ go.0) go.1 (subst (λ (t : List ℕ). L t go.1) (further front back go.0 p) go.2) in
      leaves.ends (omega (arith, length-append front back)) (go.0, u, says);
  outside = λ v says. let (u, inner) = from back v says in leaves.outside u inner;
}

pub behind : {V : Type 0} (L M : List ℕ → V → Type 0) (front : List ℕ) (base next : ℕ) (back : List ℕ) (r : Result V ℕ) → next ≡ base + length front →
    ((t : List ℕ) (v : V) → M t v → L (front ++ t) v) → ((t : List ℕ) (v : V) → L (front ++ t) v → M t v) →
    Exact M next back r → Exact L base (front ++ back) r
behind L M front base next back (Ok v) at to from exact = to back v exact
behind L M front base next back (Err e) at to from (p, is, leaves) =
    (length front + p, omega arith, behind_leaves L M front back p (λ t u says. (u, to t u says)) (λ t v says. (v, from t v says)) leaves)

-- one line or the other leaves at the farther place
farther : {V : Type 0} (L M : List ℕ → V → Type 0) (text : List ℕ) (p q : ℕ) → LeavesAt L text p → LeavesAt M text q → p ≤ q →
    LeavesAt (λ (t : List ℕ) (v : V). L t v ⊎ M t v) text q
farther L M text p q one other le = record {
  within = other.within;
  begins = (other.begins.0, other.begins.1, inr other.begins.2);
  ends = λ low go. elim go.2 [ inl says ↦ one.ends (omega arith) (earlier L text (q + 1) (p + 1) (omega arith) (go.0, go.1, says)) | inr says ↦ other.ends low (go.0, go.1, says) ];
  outside = λ v says. elim says [ inl s ↦ one.outside v s | inr s ↦ other.outside v s ];
}

swapped : {V : Type 0} (L M : List ℕ → V → Type 0) (text : List ℕ) (p : ℕ) → LeavesAt (λ (t : List ℕ) (v : V). M t v ⊎ L t v) text p →
    LeavesAt (λ (t : List ℕ) (v : V). L t v ⊎ M t v) text p
swapped L M text p leaves = record {
  within = leaves.within;
  begins = (leaves.begins.0, leaves.begins.1, elim leaves.begins.2 [ inl s ↦ inr s | inr s ↦ inl s ]);
  ends = λ low go. leaves.ends low (go.0, go.1, elim go.2 [ inl s ↦ inr s | inr s ↦ inl s ]);
  outside = λ v says. leaves.outside v (elim says [ inl s ↦ inr s | inr s ↦ inl s ]);
}

pub either_exact : {V : Type 0} (L M : List ℕ → V → Type 0) (base : ℕ) (text : List ℕ) (r s : Result V ℕ) → Exact L base text r → Exact M base text s →
    Exact (λ (t : List ℕ) (v : V). L t v ⊎ M t v) base text (either_of r s)
either_exact L M base text (Ok v) s one other = inl one
either_exact L M base text (Err d) (Ok v) one other = inr other
either_exact L M base text (Err d) (Err e) (p, at, one) (q, there, other) =
    elim (cases_lt p q) [
      | inl le ↦ (q, (let low : d ≤ e = omega arith in rw (max-eq_right low) there), farther L M text p q one other (omega arith))
      | inr le ↦ (p, (let low : e ≤ d = omega arith in rw (max-eq_left low) at), swapped L M text p (farther M L text q p other one le))
    ]
