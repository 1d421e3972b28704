-- What reading by a grammar gives is what its line says, or where the text leaves the grammar.
use Rattle.std.proofs.Common.{◌≡◌, ℕ, ◌+◌, ◌-◌, ◌<◌, List, [], ◌∷◌, ◌++◌, length, take, refl, sym, ◌∙◌, ap, subst, inl, inr, Result, Ok, Err, append-nil, append_assoc, length-append, arith}
use Rattle.std.proofs.lemmas.List.{take-append-le}
use Rattle.std.proofs.lemmas.Bool.{ne_eqb, eq-eqb, cases_eq, cases_lt}
use Rattle.std.proofs.Math.Seq.{take-append-add, take-length}
use Rattle.line_grammar.specs.Words.{Word, Value, IsWord}
use Rattle.line_grammar.specs.Grammar.{literal, word, Grammar, gives, anything, mapped, last, part, either, Says, LeavesAt}
use Rattle.line_grammar.specs.Reading.{read, either_of, end_at, literal_at, before_space, from_space, word_at, ◌>>=◌}
use Rattle.line_grammar.proofs.Spaces.{NoSpace, Tail, no_take, under, same_split, no_split, split_of, cut}
use Rattle.line_grammar.proofs.Exact.{Exact, behind, either_exact}
use Rattle.line_grammar.proofs.WordsExact.{word_lives, word_exact, no_space, word_same}

-- each grammar has a line
pub lives : {V : Type 0} (g : Grammar V) → (text : List ℕ) × (v : V) × Says g text v
lives (gives v) = ([], v, (refl, refl))
lives (anything v) = ([], v, refl)
lives (last w f) = let (text, v, is) = word_lives w in (text, f v, (v, is, refl))
lives (part (literal t) k) = let (text, v, says) = lives (k tt) in (t ++ text, v, (text, refl, says))
lives (part (word w) k) =
    let (front, x, is) = word_lives w in
    let (back, v, says) = lives (k x) in
    (front ++ 32 ∷ back, v, (x, front, back, refl, is, says))
lives (either a b) = let (text, v, says) = lives a in (text, v, inl says)

-- ---- literals

literal_exact : {V : Type 0} (k : Unit {0} → Grammar V) →
    ((base total : ℕ) (text : List ℕ) → base + length text ≡ total → Exact (Says (k tt)) base text (read (k tt) total text)) →
    (t : List ℕ) (base total : ℕ) (text : List ℕ) → base + length text ≡ total →
    Exact (Says (part (literal t) k)) base text (literal_at t total text >>= λ rest. read (k tt) total rest)
unfolding literal_at
literal_exact k more [] base total text same =
    behind (Says (part (literal []) k)) (Says (k tt)) [] base base text _ (omega arith)
    (λ t v says. (t, refl, says)) (λ t v says. subst (λ (u : List ℕ). Says (k tt) u v) (sym says.1) says.2) (more base total text same)
literal_exact k more (b ∷ bs) base total [] same = (
  0,
  omega arith,
  record {
    within = omega arith;
    begins = lives (part (literal (b ∷ bs)) k);
    ends = λ low go. absurd (omega arith);
    outside = λ v says. let e : [] ≡ b ∷ (bs ++ says.0) = says.1 in cc;
  },
)
literal_exact k more (b ∷ bs) base total (c ∷ cs) same =
    elim (cases_eq c b) [
      | inl is ↦ rw (eq-eqb c b is) (
          behind (Says (part (literal (b ∷ bs)) k)) (Says (part (literal bs) k)) (c ∷ []) base (base + 1) cs _ (omega arith)
          (λ t v says. (says.0, (let e : t ≡ bs ++ says.0 = says.1 in let f : c ∷ t ≡ b ∷ (bs ++ says.0) = cc in f), says.2))
          (λ t v says. (says.0, (let e : c ∷ t ≡ b ∷ (bs ++ says.0) = says.1 in let f : t ≡ bs ++ says.0 = cc in f), says.2))
          (literal_exact k more bs (base + 1) total cs (omega arith)))
      | inr not ↦ rw (ne_eqb c b not) (
        0,
        omega arith,
        record {
          within = omega arith;
          begins = lives (part (literal (b ∷ bs)) k);
          ends = λ low go. let e : c ∷ go.0 ≡ b ∷ (bs ++ go.2.0) = go.2.1 in not (cc);
          outside = λ v says. let e : c ∷ cs ≡ b ∷ (bs ++ says.0) = says.1 in not (cc);
        },
      )
    ]

-- ---- a word and a space

no_word : {V : Type 0} (w : Word) (k : Value w → Grammar V) (front tail : List ℕ) (p : ℕ) → NoSpace front → Tail tail →
    LeavesAt (IsWord w) front p → LeavesAt (Says (part (word w) k)) (front ++ tail) p
no_word w k front tail p bare ends leaves = record {
  within = omega (arith, length-append front tail, leaves.within);
  begins =
      let (more, v, is) = leaves.begins in
      let (back, x, says) = lives (k v) in
      (more ++ 32 ∷ back, x, (v, take p front ++ more, back, rw (take-append-le p front tail leaves.within) (sym (append_assoc (take p front) more (32 ∷ back))), is, says));
  ends = λ low go.
      let (more, x, (v, f, b, same, is, says)) = go in
      elim (cases_lt p (length front)) [
        | inl inside ↦
            let at : take (p + 1) front ++ more ≡ f ++ 32 ∷ b = rw (take-append-le (p + 1) front tail (omega arith)) at same in
            let (rest, goes) = under (take (p + 1) front) more f b (no_take (p + 1) front bare) at in
            leaves.ends inside (rest, v, subst (λ (t : List ℕ). IsWord w t v) goes is)
        | inr past ↦
            let here : p ≡ length front = omega (arith, leaves.within) in
            let at : front ++ (take 1 tail ++ more) ≡ f ++ 32 ∷ b =
            sym (ap (λ (n : ℕ). take (n + 1) (front ++ tail) ++ more) here ∙ (ap (λ (t : List ℕ). t ++ more) (take-append-add front tail 1) ∙ append_assoc front (take 1 tail) more)) ∙ same in
            let same_front = split_of front (take 1 tail ++ more) f b bare (no_space w f v is) (still front tail more ends (omega (arith, length-append front tail))) at in
            leaves.outside v (subst (λ (t : List ℕ). IsWord w t v) same_front is)
      ];
  outside = λ x (v, f, b, same, is, says).
      leaves.outside v (subst (λ (t : List ℕ). IsWord w t v) (split_of front tail f b bare (no_space w f v is) ends same) is);
}
  where
    still : (front tail more : List ℕ) → Tail tail → 0 < length tail → Tail (take 1 tail ++ more)
    still front tail more (inl none) low = absurd (omega (arith, ap length none))
    still front tail more (inr (back, some)) low = inr (more, rw some refl)

alone : {V : Type 0} (w : Word) (k : Value w → Grammar V) (front : List ℕ) (v : Value w) → NoSpace front → IsWord w front v →
    LeavesAt (Says (part (word w) k)) front (length front)
alone w k front v bare is = record {
  within = omega arith;
  begins = let (back, x, says) = lives (k v) in rw (take-length front) (32 ∷ back, x, (v, front, back, refl, is, says));
  ends = λ low go. absurd (omega arith);
  outside = λ x says. no_split front says.1 says.2 bare says.3;
}

here : {V : Type 0} (w : Word) (k : Value w → Grammar V) (front : List ℕ) (v : Value w) → NoSpace front → IsWord w front v →
    (f b t : List ℕ) (x : V) (u : Value w) → (front ++ 32 ∷ []) ++ t ≡ f ++ 32 ∷ b → IsWord w f u → Says (k u) b x → Says (k v) t x
here w k front v bare is f b t x u split other says =
    let (fronts, backs) = same_split front f t b bare (no_space w f u other) (sym (append_assoc front (32 ∷ []) t) ∙ split) in
    let same : u ≡ v = word_same w f u v other (subst (λ (l : List ℕ). IsWord w l v) fronts is) in
    subst (λ (l : List ℕ). Says (k v) l x) (sym backs) (subst (λ (y : Value w). Says (k y) b x) same says)

word_then : {V : Type 0} (w : Word) (k : Value w → Grammar V) →
    ((v : Value w) (base total : ℕ) (text : List ℕ) → base + length text ≡ total → Exact (Says (k v)) base text (read (k v) total text)) →
    (base total : ℕ) (front tail : List ℕ) → NoSpace front → Tail tail → base + length (front ++ tail) ≡ total →
    (r : Result (Value w) ℕ) → Exact (IsWord w) base front r →
    Exact (Says (part (word w) k)) base (front ++ tail) (r >>= λ v. literal_at (32 ∷ []) total tail >>= λ rest. read (k v) total rest)
unfolding literal_at
word_then w k more base total front tail bare ends same (Err e) (p, is, leaves) = (p, is, no_word w k front tail p bare ends leaves)
word_then w k more base total front tail bare (inl none) same (Ok v) is =
    let at : total ≡ base + length front = omega (arith, length-append front tail, ap length none) in
    rw (none, append-nil front) (length front, at, alone w k front v bare is)
word_then w k more base total front tail bare (inr (back, some)) same (Ok v) is =
    let at : base + length front + 1 + length back ≡ total = omega (arith, length-append front tail, ap length some) in
    let L = Says (part (word w) k) in
    rw some (subst (λ (t : List ℕ). Exact L base t (read (k v) total back)) (append_assoc front (32 ∷ []) back)
    (behind L (Says (k v)) (front ++ 32 ∷ []) base (base + length front + 1) back _ (omega (arith, length-append front (32 ∷ [])))
    (λ t x says. (v, front, t, append_assoc front (32 ∷ []) t, is, says))
    (λ t x (u, f, b, split, other, says). here w k front v bare is f b t x u split other says)
    (more v (base + length front + 1) total back at)))

-- ---- the theorem

-- what is read is what the line says, and a place is where the text leaves the grammar
pub exact : {V : Type 0} (g : Grammar V) (base total : ℕ) (text : List ℕ) → base + length text ≡ total → Exact (Says g) base text (read g total text)
unfolding end_at
exact (gives v) base total [] same = (refl, refl)
exact (gives v) base total (b ∷ bs) same = (
  0,
  omega arith,
  record {
    within = omega arith;
    begins = ([], v, (refl, refl));
    ends = λ low go. let e : b ∷ go.0 ≡ [] = go.2.0 in cc;
    outside = λ x says. let e : b ∷ bs ≡ [] = says.0 in cc;
  },
)
exact (anything v) base total text same = refl
exact (last w f) base total text same = last_exact w f base text _ (word_exact w base total text same)
  where
    last_exact : {V : Type 0} (w : Word) (f : Value w → V) (base : ℕ) (text : List ℕ) (r : Result (Value w) ℕ) → Exact (IsWord w) base text r →
        Exact (Says (last w f)) base text (r >>= λ v. Ok (f v))
    last_exact w f base text (Ok v) is = (v, is, refl)
    last_exact w f base text (Err e) (p, is, leaves) = (
      p,
      is,
      record {
        within = leaves.within;
        begins = (leaves.begins.0, f leaves.begins.1, (leaves.begins.1, leaves.begins.2, refl));
        ends = λ low go. leaves.ends low (go.0, go.2.0, go.2.1);
        outside = λ v says. leaves.outside says.0 says.1;
      },
    )
exact (part (literal t) k) base total text same = literal_exact k (λ base total text same. exact (k tt) base total text same) t base total text same
exact (part (word w) k) base total text same =
    let c = cut text in
    let front : List ℕ = before_space text in
    let tail : List ℕ = from_space text in
    let at : base + length (front ++ tail) ≡ total = omega (arith, ap length c.whole) in
    let read_word = word_exact w base (total - length tail) front (omega (arith, length-append front tail)) in
    subst (λ (t : List ℕ). Exact (Says (part (word w) k)) base t (read (part (word w) k) total text)) (sym c.whole)
    (word_then w k (λ v base total text same. exact (k v) base total text same) base total front tail c.bare c.ends at _ read_word)
exact (either a b) base total text same = either_exact (Says a) (Says b) base text _ _ (exact a base total text same) (exact b base total text same)

mapped_bind : {A U V : Type 0} (r : Result A ℕ) (n : A → Result V ℕ) (m : A → Result U ℕ) (f : U → V) → ((x : A) → n x ≡ (m x >>= λ u. Ok (f u))) →
    (r >>= n) ≡ ((r >>= m) >>= λ u. Ok (f u))
mapped_bind (Ok x) n m f each = each x
mapped_bind (Err e) n m f each = refl

mapped_either : {U V : Type 0} (f : U → V) (a b : Result U ℕ) → either_of (a >>= λ u. Ok (f u)) (b >>= λ u. Ok (f u)) ≡ (either_of a b >>= λ u. Ok (f u))
mapped_either f (Ok x) b = refl
mapped_either f (Err p) (Ok y) = refl
mapped_either f (Err p) (Err q) = refl

-- the same lines are read with other values
pub read_mapped : {U V : Type 0} (f : U → V) (g : Grammar U) (total : ℕ) (text : List ℕ) → read (mapped f g) total text ≡ (read g total text >>= λ v. Ok (f v))
read_mapped f (gives v) total text = mapped_bind (end_at total text) _ _ f (λ x. refl)
read_mapped f (anything v) total text = refl
read_mapped f (last w g) total text = mapped_bind (word_at w total text) _ _ f (λ x. refl)
read_mapped f (part (literal t) k) total text = mapped_bind (literal_at t total text) _ _ f (λ rest. read_mapped f (k tt) total rest)
read_mapped f (part (word w) k) total text =
    mapped_bind (word_at w (total - length (from_space text)) (before_space text)) _ _ f (λ v. mapped_bind (literal_at (32 ∷ []) total (from_space text)) _ _ f (λ rest. read_mapped f (k v) total rest))
read_mapped f (either a b) total text =
    rw (read_mapped f a total text, read_mapped f b total text) (mapped_either f (read a total text) (read b total text))
