-- The steps at what a seat has, as the functions state it.
use Rattle.std.proofs.Common.{◌≡◌, ◌≢◌, ℕ, ◌+◌, ◌%◌, ◌^◌, ◌<◌, List, [], ◌∷◌, ◌++◌, length, sym, refl, ap, ◌∙◌, subst, arith, inl, inr, ◌⊎◌, length-append, Option, Some}
use mathlib.Core.List.{IsPrefix}
use Rattle.atomic_table.specs.Table.{Me, Allows, rest}
use Rattle.tool_lock.specs.declared.rule.Claim.{Claim}
use Rattle.tool_lock.specs.declared.rule.View.{View}
use Rattle.tool_lock.specs.declared.rule.Stage.TheVariants.{Idle, Waits, Serves}
use Rattle.tool_lock.specs.Turned.{own, claim, view, Turned, keeps_history, number_of, front_of, mine_of, drew, looked, counted, left, Starts}
use Rattle.tool_lock.specs.Calls.{Rests, RestsAs, IsWaiting, HasTurn, IsServed, IsOwn, IsNext, HasPut, Appends, Gives, TookTurn}
use Rattle.tool_lock.specs.Runs.{Run}
use denote.Ref.{MutBor}
use denote.Param.Members.{Once}
use Rattle.tool_lock.proofs.Keeps.{draws, looks, leaves, counts, own_mine}

module _ {S E G : Type 0} (keep : G → S → List E → Type 0) (num : E → ℕ) (n : ℕ) where
  abbrev M : Type 0
  M = Me S (View E G)

  pub may_draw : (k id : ℕ) (m : M) → Rests m → Allows (Turned keep num n) k id m 0 (λ x. (x + 1) % 2 ^ 64) (drew m)
  may_draw k id m rests = subst (λ (z : M). Allows (Turned keep num n) k id z 0 (λ x. (x + 1) % 2 ^ 64) (drew z)) (sym rests.1) (draws keep num n k id rests.0 [])

  pub drawn : (m m' : M) (r : ℕ) → Rests m → drew m r m' → IsWaiting m r m'
  drawn m m' r rests d = (d.0, d.1, d.2 ∙ ap (λ (z : M). (view m.0.claims (Waits d.0), z.1)) rests.1)

  -- a seat that waits, by parts
  waiting : (m m' : M) (r : ℕ) (rests : Rests m) (w : IsWaiting m r m') → m' ≡ (view (rests.0 ∷ []) (Waits w.0), [])
  waiting m m' r rests w = w.2 ∙ ap (λ (z : M). (view z.0.claims (Waits w.0), [])) rests.1

  pub may_look : (k id r : ℕ) (m m' : M) → Rests m → IsWaiting m r m' → Allows (Turned keep num n) k id m' 1 (λ x. x) (looked keep num m')
  may_look k id r m m' rests w = subst (λ (z : M). Allows (Turned keep num n) k id z 1 (λ x. x) (looked keep num z)) (sym (waiting m m' r rests w)) (looks keep num n k id w.0 rests.0)

  pub enters : (m m' m'' : M) (r : ℕ) → Rests m → IsWaiting m r m' → looked keep num m' r m'' → HasTurn keep num m m''
  enters m m' m'' r rests w told =
      let e = waiting m m' r rests w in
      let h = (subst (λ (z : M). looked keep num z r m'') e told).0 (sym w.1) in
      let back : Rests m = rests in
      subst (λ (z : M). HasTurn keep num z m'') (sym rests.1) (h.0, h.1, h.2, w.0, h.3, h.4, h.5, h.6, h.7)

  pub waits_on : (m m' m'' : M) (k r : ℕ) → Rests m → IsWaiting m k m' → looked keep num m' r m'' → r ≢ k → IsWaiting m k m''
  waits_on m m' m'' k r rests w told ne =
      let e = waiting m m' k rests w in
      let h = (subst (λ (z : M). looked keep num z r m'') e told).1 (λ same. ne (same ∙ w.1)) in
      (w.0, w.1, h ∙ ap (λ (z : M). (view z.0.claims (Waits w.0), [])) (sym rests.1))

  pub may_leave : (k id t : ℕ) (c : Claim E G) (y : S) (m : M) → m ≡ (view (c ∷ []) (Serves t), (0, y) ∷ []) → keep c.start y c.front → Allows (Turned keep num n) k id m 1 (λ x. (x + 1) % 2 ^ 64) (left m)
  may_leave k id t c y m is kept = subst (λ (z : M). Allows (Turned keep num n) k id z 1 (λ x. (x + 1) % 2 ^ 64) (left z)) (sym is) (leaves keep num n k id t c y kept)

  pub may_count : (k id t : ℕ) (c : Claim E G) (y : S) (e : E) (m : M) → m ≡ (view (c ∷ []) (Serves t), (0, y) ∷ []) → keep c.start y (c.front ++ e ∷ []) → num e ≡ c.number → length c.front + 1 < 2 ^ 64
      → Allows (Turned keep num n) k id m 2 (λ x. (x + 1) % 2 ^ 64) (counted keep num m)
  may_count k id t c y e m is kept own short = subst (λ (z : M). Allows (Turned keep num n) k id z 2 (λ x. (x + 1) % 2 ^ 64) (counted keep num z)) (sym is) (counts keep num n k id t c y e kept own short)

  pub swapped : (m m' : M) (x : S) (s : IsServed m) → m' ≡ (m.0, (0, x) ∷ rest m.1) → m' ≡ (view (s.0 ∷ []) (Serves s.1), (0, x) ∷ [])
  swapped m m' x s e = e ∙ ap (λ (z : M). (z.0, (0, x) ∷ rest z.1)) s.3

module _ {V E G : Type 0} (history : V → List E) (num : E → ℕ) (opening : V → G) where
  pub unchanged : (cs : List (Claim E G)) (x : V) → IsNext history num cs x → length (history x) ≡ length (front_of cs) → history x ≡ front_of cs
  unchanged cs x (inl e) len = e
  unchanged cs x (inr h) len = let l = length-append (front_of cs) (h.0 ∷ []) in let k : length (history x) ≡ length (front_of cs ++ h.0 ∷ []) = ap length h.2 in absurd (omega arith)

  pub changed : (cs : List (Claim E G)) (x : V) → IsNext history num cs x → length (history x) ≢ length (front_of cs) → (e : E) × (num e ≡ number_of cs) × (history x ≡ front_of cs ++ e ∷ [])
  changed cs x (inl e) ne = absurd (ne (ap length e))
  changed cs x (inr h) ne = h

  abbrev N : Type 0
  N = Me (Option V) (View E G)

  started : (m : N) (x : V) (s : IsServed m) → Starts m.0.claims (opening x) → s.0.start ≡ opening x
  started m x s o = (subst (λ (z : N). Starts z.0.claims (opening x)) s.3 o).0

  -- the value goes back as it was
  pub leaves_same : (n k id : ℕ) (m m' : N) (x : V) (s : IsServed m) → m' ≡ (m.0, (0, Some x) ∷ rest m.1) → history x ≡ front_of m.0.claims → Starts m.0.claims (opening x) → Allows (Turned (keeps_history history opening) num n) k id m' 1 (λ x. (x + 1) % 2 ^ 64) (left m')
  leaves_same n k id m m' x s e is o = may_leave (keeps_history history opening) num n k id s.1 s.0 (Some x) m' (swapped (keeps_history history opening) num n m m' (Some x) s e) (x, refl, is ∙ ap (λ (z : N). front_of z.0.claims) s.3, sym (started m x s o))

  pub rests_after : (r : ℕ) (m m' m'' : N) (y : Option V) (s : IsServed m) → m' ≡ (m.0, (0, y) ∷ rest m.1) → left m' r m'' → m'' ≡ (view (s.0 ∷ []) Idle, [])
  rests_after r m m' m'' y s e l = l ∙ ap (λ (z : N). (view z.0.claims Idle, [])) (swapped (keeps_history history opening) num 0 m m' y s e)

  pub put_same : (m m'' : N) (x : V) (s : IsServed m) → m'' ≡ (view (s.0 ∷ []) Idle, []) → IsOwn num m.0.claims → history x ≡ front_of m.0.claims → HasPut history num m.0.claims x m''.0.claims
  put_same m m'' x s e own is =
      let same : m''.0.claims ≡ m.0.claims = ap (λ (z : N). z.0.claims) e ∙ sym (ap (λ (z : N). z.0.claims) s.3) in
      subst (HasPut history num m.0.claims x) (sym same) (refl, sym is, own, inl (is, refl))

  -- an entry is counted
  pub counts_more : (n k id : ℕ) (m m' : N) (x : V) (s : IsServed m) → Starts m.0.claims (opening x) → m' ≡ (m.0, (0, Some x) ∷ rest m.1) → length (history x) < 2 ^ 64 → ((e : E) × (num e ≡ number_of m.0.claims) × (history x ≡ front_of m.0.claims ++ e ∷ []))
      → Allows (Turned (keeps_history history opening) num n) k id m' 2 (λ x. (x + 1) % 2 ^ 64) (counted (keeps_history history opening) num m')
  counts_more n k id m m' x s o e short (entry, is, more) =
      let front : front_of m.0.claims ≡ s.0.front = ap (λ (z : N). front_of z.0.claims) s.3 in
      let more' : history x ≡ s.0.front ++ entry ∷ [] = more ∙ ap (λ l. l ++ entry ∷ []) front in
      let long : length (history x) ≡ length s.0.front + 1 = ap length more' ∙ length-append s.0.front (entry ∷ []) in
      may_count (keeps_history history opening) num n k id s.1 s.0 (Some x) entry m' (swapped (keeps_history history opening) num n m m' (Some x) s e) (x, refl, more', sym (started m x s o)) (is ∙ ap (λ (z : N). number_of z.0.claims) s.3) (omega arith)

  -- the entry that was counted is the one that the value has
  abbrev After : N → V → N → Type 0
  After m x m' = (e : E) × (num e ≡ number_of m.0.claims) × (history x ≡ front_of m.0.claims ++ e ∷ []) × (o : G) × Starts m.0.claims o × (opening x ≡ o) × ((t : ℕ) × (m' ≡ (view (claim (number_of m.0.claims) o (front_of m.0.claims ++ e ∷ []) (mine_of m.0.claims ++ e ∷ []) ∷ []) (Serves t), (0, Some x) ∷ [])))

  some_same : (x y : V) → Some x ≡ Some y → x ≡ y
  some_same x y e = cc e

  pub counted_so : (r : ℕ) (m m' m'' : N) (x : V) (s : IsServed m) → m' ≡ (m.0, (0, Some x) ∷ rest m.1) → counted (keeps_history history opening) num m' r m'' → After m x m''
  counted_so r m m' m'' x s e told =
      let is : m' ≡ (m.0, (0, Some x) ∷ []) = e ∙ ap (λ (z : N). (m.0, (0, Some x) ∷ rest z.1)) s.3 in
      let t = subst (λ (z : N). counted (keeps_history history opening) num z r m'') is told in
      let has = t.4 (Some x) [] refl in
      let h : history x ≡ front_of m.0.claims ++ t.0 ∷ [] = ap history (some_same x has.0 has.1) ∙ has.2 in
      let q : opening x ≡ t.1 = ap opening (some_same x has.0 has.1) ∙ has.3 in
      let st : m.0.stage ≡ Serves s.1 = ap (λ (z : N). z.0.stage) s.3 in
      (t.0, t.3, h, t.1, t.2, q, (s.1, t.5 ∙ ap (λ st. (view (claim (number_of m.0.claims) t.1 (front_of m.0.claims ++ t.0 ∷ []) (mine_of m.0.claims ++ t.0 ∷ []) ∷ []) st, (0, Some x) ∷ [])) st))

  pub leaves_more : (n k id : ℕ) (m m' : N) (x : V) → After m x m' → Allows (Turned (keeps_history history opening) num n) k id m' 1 (λ x. (x + 1) % 2 ^ 64) (left m')
  leaves_more n k id m m' x (e, is, more, o, from, q, (t, at)) = may_leave (keeps_history history opening) num n k id t _ (Some x) m' at (x, refl, more, q)

  pub put_more : (r : ℕ) (m m' m'' : N) (x : V) → After m x m' → IsOwn num m.0.claims → left m' r m'' → Rests m'' × HasPut history num m.0.claims x m''.0.claims × Starts m''.0.claims (opening x)
  put_more r m m' m'' x (e, is, more, o, from, q, (t, at)) owns l =
      let c : Claim E G = claim (number_of m.0.claims) o (front_of m.0.claims ++ e ∷ []) (mine_of m.0.claims ++ e ∷ []) in
      let end : m'' ≡ (view (c ∷ []) Idle, []) = l ∙ ap (λ (z : N). (view z.0.claims Idle, [])) at in
      let owned = own_mine (keeps_history history opening) num 0 (number_of m.0.claims) (front_of m.0.claims) e is ∙ ap (λ l. l ++ e ∷ []) owns in
      ((c, end), subst (HasPut history num m.0.claims x) (sym (ap (λ (z : N). z.0.claims) end)) (refl, sym more, owned, inr (e, is, more, refl)), subst (λ (l : List (Claim E G)). Starts l (opening x)) (sym (ap (λ (z : N). z.0.claims) end)) (sym q, tt))

  -- what the value in the slot is to the claims, once the seat has the turn
  pub record Lent (m m' : N) (x : V) : Type 0 where
    pub begins : IsPrefix (front_of m.0.claims) (history x)
    pub front : front_of m'.0.claims ≡ history x
    pub number : number_of m'.0.claims ≡ number_of m.0.claims
    pub mine : mine_of m'.0.claims ≡ mine_of m.0.claims
    pub owns : IsOwn num m'.0.claims
    pub starts : Starts m.0.claims (opening x) × Starts m'.0.claims (opening x)

  pub lent : (m m1 m2 : N) (r : Option V) (x : V) (a : Option V) → HasTurn (keeps_history history opening) num m m1 → m1.1 ≡ (0, r) ∷ rest m1.1 → r ≡ Some x → m2 ≡ (m1.0, (0, a) ∷ rest m1.1) → Lent m m2 x
  lent m m1 m2 r x a (o, log, y, t, from, pre, owns, (v, is, has, opened), at) slot some e =
      let y_is : y ≡ r = ap (λ (l : List (ℕ × Option V)). seat_value y l) (sym (ap (λ (z : N). z.1) at) ∙ slot) in
      let same : v ≡ x = some_same v x (sym is ∙ (y_is ∙ some)) in
      let has' : history x ≡ log = ap history (sym same) ∙ has in
      let here : opening x ≡ o = ap opening (sym same) ∙ opened in
      let cs : m2.0.claims ≡ claim (number_of m.0.claims) o log (mine_of m.0.claims) ∷ [] = ap (λ (z : N). z.0.claims) e ∙ ap (λ (z : N). z.0.claims) at in record {
        begins = subst (IsPrefix (front_of m.0.claims)) (sym has') pre;
        front = ap (λ (l : List (Claim E G)). front_of l) cs ∙ sym has';
        number = ap (λ (l : List (Claim E G)). number_of l) cs;
        mine = ap (λ (l : List (Claim E G)). mine_of l) cs;
        owns = subst (IsOwn num) (sym cs) owns;
        starts = (subst (Starts m.0.claims) (sym here) from, subst (λ (l : List (Claim E G)). Starts l (opening x)) (sym cs) (sym here, tt));
      }
    where
      seat_value : Option V → List (ℕ × Option V) → Option V
      seat_value d [] = d
      seat_value d (z ∷ zs) = z.1

  pub next_of : (m m' : N) (x x' : V) (k : ℕ) → Lent m m' x → number_of m.0.claims ≡ k → Appends history num opening k x x' → IsNext history num m'.0.claims x'
  next_of m m' x x' k l n (inl e) = inl (e ∙ sym l.front)
  next_of m m' x x' k l n (inr h) = inr (h.0, h.1 ∙ (sym n ∙ sym l.number), h.2 ∙ ap (λ z. z ++ h.0 ∷ []) (sym l.front))

  pub took : {F R : Type 0} (g : Once F (MutBor V × (ℕ × Unit {0})) (R × (MutBor V × Unit {0}))) (f : F) (k : ℕ) (o : G) (m m' m'' : N) (x x' : V) (r : R) → Lent m m' x → number_of m.0.claims ≡ k → Gives g f k x r x' → HasPut history num m'.0.claims x' m''.0.claims → opening x ≡ o → opening x' ≡ opening x
      → TookTurn history num opening g f k o (front_of m.0.claims) (mine_of m.0.claims) r (front_of m''.0.claims) (mine_of m''.0.claims)
  took g f k o m m' m'' x x' r l n gave put from same = (x, x', l.begins, gave, put.1, grew put.3, from, same ∙ from)
    where
      grew : ((history x' ≡ front_of m'.0.claims) × (mine_of m''.0.claims ≡ mine_of m'.0.claims)) ⊎ ((e : E) × (num e ≡ number_of m'.0.claims) × (history x' ≡ front_of m'.0.claims ++ e ∷ []) × (mine_of m''.0.claims ≡ mine_of m'.0.claims ++ e ∷ []))
          → ((history x' ≡ history x) × (mine_of m''.0.claims ≡ mine_of m.0.claims)) ⊎ ((e : E) × (num e ≡ k) × (history x' ≡ history x ++ e ∷ []) × (mine_of m''.0.claims ≡ mine_of m.0.claims ++ e ∷ []))
      grew (inl h) = inl (h.0 ∙ l.front, h.1 ∙ l.mine)
      grew (inr h) = inr (h.0, h.1 ∙ (l.number ∙ n), h.2 ∙ ap (λ z. z ++ h.0 ∷ []) l.front, h.3 ∙ ap (λ z. z ++ h.0 ∷ []) l.mine)

  only : (l : List (Claim E G)) → length l ≡ 1 → (c : Claim E G) × (l ≡ c ∷ [])
  only [] e = absurd (omega arith)
  only (c ∷ []) e = (c, refl)
  only (c ∷ d ∷ l) e = absurd (omega arith)

  pub rests_as : (k : ℕ) (m : N) → RestsAs k m → Rests m
  rests_as k m r = let c = only m.0.claims r.0 in (c.0, λ i. (view (c.1 i) (r.1 i), r.2 i))

  pub rests_again : (k : ℕ) (m : N) → Rests m → number_of m.0.claims ≡ k → RestsAs k m
  rests_again k m (c, e) is = (ap (λ (z : N). length z.0.claims) e, ap (λ (z : N). z.0.stage) e, ap (λ (z : N). z.1) e, is)

  pub swapped_turn : (m m1 m2 : N) (a : Option V) (h : HasTurn (keeps_history history opening) num m m1) → m2 ≡ (m1.0, (0, a) ∷ rest m1.1) → m2 ≡ (view (claim (number_of m.0.claims) h.0 h.1 (mine_of m.0.claims) ∷ []) (Serves h.3), (0, a) ∷ [])
  swapped_turn m m1 m2 a h e = e ∙ ap (λ (z : N). (z.0, (0, a) ∷ rest z.1)) h.8

  pub one_start : (l : List (Claim E G)) (a b : G) → length l ≡ 1 → Starts l a → Starts l b → a ≡ b
  one_start [] a b e p q = absurd (omega arith)
  one_start (c ∷ l) a b e p q = sym p.0 ∙ q.0

pub run_of : {V E G : Type 0} (history : V → List E) (opening : V → G) (follows : G → E → G → Type 0) → ((v : V) → (g : G) × Run follows (opening v) (history v) g) → (x : V) (o : G) (front : List E) → front ≡ history x → opening x ≡ o → (g : G) × Run follows o front g
run_of {E = E} {G = G} history opening follows law x o front e from = let r = law x in (r.0, subst (λ (z : G × List E). Run follows z.0 z.1 r.0) (λ i. (from i, sym e i)) r.1)
