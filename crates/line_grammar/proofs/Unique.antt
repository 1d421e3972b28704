-- A grammar whose lines begin apart relates a text to one value.
use Rattle.std.proofs.Common.{◌≡◌, ℕ, ◌==◌, ◌⊎◌, Bool, true, false, if◌then◌else◌, List, [], ◌∷◌, ◌++◌, refl, sym, ◌∙◌, ap, subst, inl, inr}
use Rattle.std.proofs.lemmas.List.{append_cancel_left}
use Rattle.std.proofs.lemmas.Bool.{eq-eqb}
use Rattle.std.specs.List.{list_all}
use Rattle.line_grammar.specs.Words.{Value, IsWord}
use Rattle.line_grammar.specs.Grammar.{literal, word, Grammar, gives, anything, last, part, either, Says}
use Rattle.line_grammar.proofs.Spaces.{same_split}
use Rattle.line_grammar.proofs.WordsExact.{both, no_space, word_same}

-- what a line begins with, and whether it is all of the line
abbrev pub Head : Type 0
Head = List ℕ × Bool

-- nothing more comes
abbrev pub ended : {V : Type 0} → Grammar V → Bool
ended (gives v) = true
ended (anything v) = false
ended (last w f) = false
ended (part p k) = false
ended (either a b) = false

abbrev pub heads : {V : Type 0} → Grammar V → List Head
heads (gives v) = ([], true) ∷ []
heads (anything v) = ([], false) ∷ []
heads (last w f) = ([], false) ∷ []
heads (part (literal t) k) = (t, ended (k tt)) ∷ []
heads (part (word w) k) = ([], false) ∷ []
heads (either a b) = heads a ++ heads b

-- the lines differ where both have a byte, or where one has ended
abbrev pub differ : List ℕ → Bool → List ℕ → Bool → Bool
differ [] c [] d = false
differ [] c (y ∷ ys) d = c
differ (x ∷ xs) c [] d = d
differ (x ∷ xs) c (y ∷ ys) d = if x == y then differ xs c ys d else true

abbrev pub apart : List Head → List Head → Bool
apart hs ks = list_all (λ h. list_all (λ k. differ h.0 h.1 k.0 k.1) ks) hs

-- lines that are told apart by their beginnings
abbrev pub Clear : {V : Type 0} → Grammar V → Type 0
Clear (gives v) = Unit {0}
Clear (anything v) = Unit {0}
Clear (last w f) = Unit {0}
Clear (part (literal t) k) = Clear (k tt)
Clear (part (word w) k) = (v : Value w) → Clear (k v)
Clear (either a b) = (apart (heads a) (heads b) ≡ true) × Clear a × Clear b

abbrev pub Starts : Head → List ℕ → Type 0
Starts h text = (back : List ℕ) × (text ≡ h.0 ++ back) × (h.1 ≡ true → back ≡ [])

abbrev pub Begins : List Head → List ℕ → Type 0
Begins [] text = ⊥
Begins (h ∷ hs) text = Starts h text ⊎ Begins hs text

begins_left : (hs ks : List Head) (text : List ℕ) → Begins hs text → Begins (hs ++ ks) text
begins_left [] ks text b = absurd b
begins_left (h ∷ hs) ks text (inl here) = inl here
begins_left (h ∷ hs) ks text (inr more) = inr (begins_left hs ks text more)

begins_right : (hs ks : List Head) (text : List ℕ) → Begins ks text → Begins (hs ++ ks) text
begins_right [] ks text b = b
begins_right (h ∷ hs) ks text b = inr (begins_right hs ks text b)

ended_empty : {V : Type 0} (g : Grammar V) (text : List ℕ) (x : V) → Says g text x → ended g ≡ true → text ≡ []
ended_empty (gives v) text x says is = says.0
ended_empty (anything v) text x says is = cc
ended_empty (last w f) text x says is = cc
ended_empty (part p k) text x says is = cc
ended_empty (either a b) text x says is = cc

headed : {V : Type 0} (g : Grammar V) (text : List ℕ) (x : V) → Says g text x → Begins (heads g) text
headed (gives v) text x says = inl (text, refl, (λ all. says.0))
headed (anything v) text x says = inl (text, refl, (λ all. cc))
headed (last w f) text x says = inl (text, refl, (λ all. cc))
headed (part (literal t) k) text x (back, same, says) = inl (back, same, ended_empty (k tt) back x says)
headed (part (word w) k) text x says = inl (text, refl, (λ all. cc))
headed (either a b) text x (inl says) = begins_left (heads a) (heads b) text (headed a text x says)
headed (either a b) text x (inr says) = begins_right (heads a) (heads b) text (headed b text x says)

clash : (h k a b : List ℕ) (c d : Bool) → differ h c k d ≡ true → h ++ a ≡ k ++ b → (c ≡ true → a ≡ []) → (d ≡ true → b ≡ []) → ⊥
clash [] [] a b c d apart same one other = cc
clash [] (y ∷ ys) a b c d apart same one other = let e : a ≡ [] = one apart in cc
clash (x ∷ xs) [] a b c d apart same one other = let e : b ≡ [] = other apart in cc
clash (x ∷ xs) (y ∷ ys) a b c d apart same one other =
    let heads_same : x ≡ y = cc in
    let tails : xs ++ a ≡ ys ++ b = cc in
    clash xs ys a b c d (rw (eq-eqb x y heads_same) at apart) tails one other

clash_one : (h : Head) (ks : List Head) (text : List ℕ) → list_all (λ k. differ h.0 h.1 k.0 k.1) ks ≡ true → Starts h text → Begins ks text → ⊥
clash_one h [] text apart one b = b
clash_one h (k ∷ ks) text apart (a, same, all) (inl (b, so, also)) =
    clash h.0 k.0 a b h.1 k.1 (both (differ h.0 h.1 k.0 k.1) _ apart).0 (sym same ∙ so) all also
clash_one h (k ∷ ks) text apart one (inr more) = clash_one h ks text (both (differ h.0 h.1 k.0 k.1) _ apart).1 one more

clash_all : (hs ks : List Head) (text : List ℕ) → apart hs ks ≡ true → Begins hs text → Begins ks text → ⊥
clash_all [] ks text clear b c = b
clash_all (h ∷ hs) ks text clear (inl one) c = clash_one h ks text (both (list_all (λ k. differ h.0 h.1 k.0 k.1) ks) _ clear).0 one c
clash_all (h ∷ hs) ks text clear (inr more) c = clash_all hs ks text (both (list_all (λ k. differ h.0 h.1 k.0 k.1) ks) _ clear).1 more c

pub unique : {V : Type 0} (g : Grammar V) → Clear g → (text : List ℕ) (x y : V) → Says g text x → Says g text y → x ≡ y
unique (gives v) clear text x y one other = one.1 ∙ sym other.1
unique (anything v) clear text x y one other = one ∙ sym other
unique (last w f) clear text x y (u, is, same) (v, also, so) = same ∙ (ap f (word_same w text u v is also) ∙ sym so)
unique (part (literal t) k) clear text x y (a, same, one) (b, so, other) =
    let backs : a ≡ b = append_cancel_left t a b (sym same ∙ so) in
    unique (k tt) clear b x y (subst (λ (l : List ℕ). Says (k tt) l x) backs one) other
unique (part (word w) k) clear text x y (u, f, a, same, is, one) (v, g, b, so, also, other) =
    let (fronts, backs) = same_split f g a b (no_space w f u is) (no_space w g v also) (sym same ∙ so) in
    let values : u ≡ v = word_same w g u v (subst (λ (l : List ℕ). IsWord w l u) fronts is) also in
    unique (k v) (clear v) b x y (subst (λ (l : List ℕ). Says (k v) l x) backs (subst (λ (z : Value w). Says (k z) a x) values one)) other
unique (either a b) clear text x y (inl one) (inl other) = unique a clear.1 text x y one other
unique (either a b) clear text x y (inl one) (inr other) = absurd (clash_all (heads a) (heads b) text clear.0 (headed a text x one) (headed b text y other))
unique (either a b) clear text x y (inr one) (inl other) = absurd (clash_all (heads a) (heads b) text clear.0 (headed a text y other) (headed b text x one))
unique (either a b) clear text x y (inr one) (inr other) = unique b clear.2 text x y one other
