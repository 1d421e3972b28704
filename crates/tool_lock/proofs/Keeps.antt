-- Each step keeps the rule.
use Rattle.std.proofs.Common.{◌≡◌, ◌≢◌, ℕ, zero, suc, ◌+◌, ◌%◌, ◌^◌, ◌<◌, ◌≤◌, ◌⊎◌, true, false, true≢false, inl, inr, List, [], ◌∷◌, ◌++◌, length, get_or, set, cond, eqb, eq-eqb, ne_eqb, sym, refl, ap, ◌∙◌, subst, ⊎_elim, arith, append-nil, append_assoc, length-append, mod-eq_of_lt}
use Rattle.std.proofs.Math.Nat.{mod-add-mod}
use Rattle.std.proofs.lemmas.List.Elements.{filter-append}
use mathlib.Core.Logic.{dite}
use mathlib.Core.Option.{Option, none, some, some-injective, some-ne-none}
use mathlib.Core.List.{IsPrefix}
use native.Mathlib.Decide.{ℕ_discrete}
use lib.ListN.{get_elem?}
use Rattle.atomic_table.specs.Table.{State, keeps, takes, gives, Allows, Splits, Joins, Final, Seen, opening}
use Rattle.atomic_table.proofs.Lists.{at_set, set_else, at_snoc, at_longer, one_turn}
use Rattle.tool_lock.specs.declared.rule.Claim.{Claim}
use Rattle.tool_lock.specs.declared.rule.View.{View}
use Rattle.tool_lock.specs.declared.rule.Stage.{Stage}
use Rattle.tool_lock.specs.declared.rule.Stage.TheVariants.{Idle, Waits, Serves}
use Rattle.tool_lock.specs.Turned.{total, own, hit, out, serves, claim, view, busy, parts, times, claims_from, first_view, Claimed, Stands, Fits, Lies, AtHome, Turned, front_of, drew, looked, counted, left}
use Rattle.tool_lock.proofs.Totals.{total_set, total_one, total_two, total_append, total_below}

module _ {S E G : Type 0} (keep : G → S → List E → Type 0) (num : E → ℕ) (n : ℕ) where
  abbrev St : Type 0
  St = State S (View E G)

  abbrev Rule : St → Type 0
  Rule = Turned keep num n

  abbrev All : (ℕ → View E G → Type 0) → List (View E G) → Type 0
  All F views = (j : ℕ) (v : View E G) → get_elem? views j ≡ some v → F j v

  all_set : (F : ℕ → View E G → Type 0) (views : List (View E G)) (id : ℕ) (w : View E G) → F id w → ((j : ℕ) (u : View E G) → j ≢ id → get_elem? views j ≡ some u → F j u) → All F (set views id w)
  all_set F views id w mine others j u e = ⊎_elim (λ (x : (j ≡ id) × (w ≡ u)). subst (λ (y : ℕ × View E G). F y.0 y.1) (λ i. (sym x.0 i, x.1 i)) mine)
      (λ (x : (j ≢ id) × (get_elem? views j ≡ some u)). others j u x.0 x.1) (at_set views id j w u e)

  -- a step of the seat id, by parts
  moved : (s : St) (r : Rule s) (id : ℕ) (v w : View E G) → get_elem? s.views id ≡ some v → (words : List ℕ) (homes : List (Option S)) (log : List E) (next served : ℕ) (seat : ℕ → ℕ)
      → words ≡ next % 2 ^ 64 ∷ (served % 2 ^ 64 ∷ (length log ∷ [])) → next + r.served + busy v ≡ r.next + served + busy w → parts w ≡ parts v → ((k : ℕ) → times k w ≡ times k v) → ((k : ℕ) → n ≤ k → own num k log ≡ [])
      → Fits num r.start log next served seat id w → ((j : ℕ) (u : View E G) → j ≢ id → get_elem? s.views j ≡ some u → Fits num r.start log next served seat j u) → AtHome (keep r.start) log (set s.views id w) homes
      → Rule record { words = words; homes = homes; views = set s.views id w }
  moved s r id v w at words homes log next served seat shows count same_parts same_times strange mine others home = record {
    start = r.start;
    log = log;
    next = next;
    served = served;
    seat = seat;
    words = shows;
    few = r.few;
    tickets = (let t = total_set busy s.views id v w at in let q = r.tickets in omega arith);
    passes = (let t = total_set parts s.views id v w at in let q = r.passes in omega arith);
    once = λ k. (let t = total_set (times k) s.views id v w at in let q = r.once k in let z = same_times k in omega arith);
    beyond = λ k le. (let t = total_set (times k) s.views id v w at in let q = r.beyond k le in let z = same_times k in omega arith);
    strangers = strange;
    fits = all_set (Fits num r.start log next served seat) s.views id w mine others;
    home = home;
  }

  same_words : (ws : List ℕ) (a b c : ℕ) → ws ≡ a ∷ (b ∷ (c ∷ [])) → set ws 1 (get_or ws 1 0) ≡ a ∷ (b ∷ (c ∷ []))
  same_words ws a b c e = ap (λ (l : List ℕ). set l 1 (get_or l 1 0)) e

  -- where the seat that steps serves neither before nor after, the value lies as before
  lies_still : (o : G) (log : List E) (views : List (View E G)) (id : ℕ) (v w : View E G) → get_elem? views id ≡ some v → serves v.stage ≡ false → serves w.stage ≡ false → (h : Option S) → Lies (keep o) log views h → Lies (keep o) log (set views id w) h
  lies_still o log views id v w at idle idle' none (j, u, there, served) = (j, u, set_else views id j w (λ e. true≢false (sym served ∙ (ap (λ (x : View E G). serves x.stage) (some-injective u v (sym there ∙ (ap (get_elem? views) e ∙ at))) ∙ idle))) ∙ there, served)
  lies_still o log views id v w at idle idle' (some y) (kept, none_serves) = (kept, all_set (λ j u. serves u.stage ≡ false) views id w idle' (λ j u other e. none_serves j u e))

  home_still : (o : G) (log : List E) (views : List (View E G)) (homes : List (Option S)) (id : ℕ) (v w : View E G) → get_elem? views id ≡ some v → serves v.stage ≡ false → serves w.stage ≡ false → AtHome (keep o) log views homes → AtHome (keep o) log (set views id w) homes
  home_still o log views homes id v w at a b h = (h.0, h.1, lies_still o log views id v w at a b h.0 h.2)

  abbrev give : (ℕ → ℕ) → ℕ → ℕ → ℕ → ℕ
  give seat t id x = cond (eqb x t) id (seat x)

  give_here : (seat : ℕ → ℕ) (t id : ℕ) → give seat t id t ≡ id
  give_here seat t id = ap (λ b. cond b id (seat t)) (eq-eqb t t refl)

  give_else : (seat : ℕ → ℕ) (t id x : ℕ) → x ≢ t → give seat t id x ≡ seat x
  give_else seat t id x ne = ap (λ b. cond b id (seat x)) (ne_eqb x t ne)

  -- a stage that stands goes on standing where a further ticket is given
  stands_after_draw : (log : List E) (next served : ℕ) (seat : ℕ → ℕ) (id j : ℕ) (cs : List (Claim E G)) (st : Stage) → Stands log next served seat j cs st → Stands log (next + 1) served (give seat next id) j cs st
  stands_after_draw log next served seat id j cs Idle h = tt
  stands_after_draw log next served seat id j cs (Waits t) h = let a = h.0 in let b = h.1 in (a, omega arith, give_else seat next id t (λ e. omega arith) ∙ h.2, h.3)
  stands_after_draw log next served seat id j cs (Serves t) h = let a = h.0 in let b = h.1 in (a, omega arith, give_else seat next id t (λ e. omega arith) ∙ h.2, h.3)

  pub draws : (k id : ℕ) (c : Claim E G) (l : List (ℕ × S)) → Allows Rule k id (view (c ∷ []) Idle, l) 0 (λ x. (x + 1) % 2 ^ 64) (drew (view (c ∷ []) Idle, l))
  draws k id c l s r wide at below =
      let w : View E G = view (c ∷ []) (Waits r.next) in
      let q = r.tickets in
      let ws : set s.words 0 ((get_or s.words 0 0 + 1) % 2 ^ 64) ≡ (r.next + 1) % 2 ^ 64 ∷ (r.served % 2 ^ 64 ∷ (length r.log ∷ [])) =
      ap (λ (z : List ℕ). set z 0 ((get_or z 0 0 + 1) % 2 ^ 64)) r.words ∙ ap (λ (z : ℕ). z ∷ (r.served % 2 ^ 64 ∷ (length r.log ∷ []))) (mod-add-mod r.next (2 ^ 64) 1) in
      let found : r.next % 2 ^ 64 ≡ get_or s.words 0 0 = sym (ap (λ (z : List ℕ). get_or z 0 0) r.words) in (
        w,
        keeps,
        tt,
        moved s r id (view (c ∷ []) Idle) w at _ _ r.log (r.next + 1) r.served (give r.seat r.next id) ws (omega arith) refl (λ k. refl) r.strangers
            ((r.fits id (view (c ∷ []) Idle) at).0, (omega arith, omega arith, give_here r.seat r.next id, (c, refl)))
            (λ j u other e. ((r.fits j u e).0, stands_after_draw r.log r.next r.served r.seat id j u.claims u.stage (r.fits j u e).1))
            (home_still r.start r.log s.views s.homes id (view (c ∷ []) Idle) w at refl refl r.home),
        (r.next, found, refl),
      )

  one_claim : (o : G) (log : List E) (c : Claim E G) (i : ℕ) (d : Claim E G) → Claimed num o log c → get_elem? (c ∷ []) i ≡ some d → Claimed num o log d
  one_claim o log c zero d ok e = subst (Claimed num o log) (some-injective c d e) ok
  one_claim o log c (suc i) d ok e = absurd (some-ne-none d (sym e))

  get_set : (l : List (View E G)) (i : ℕ) (v w : View E G) → get_elem? l i ≡ some v → get_elem? (set l i w) i ≡ some w
  get_set [] i v w e = absurd (some-ne-none v (sym e))
  get_set (x ∷ xs) zero v w e = refl
  get_set (x ∷ xs) (suc i) v w e = get_set xs i v w e

  -- the only seat that serves
  one_serves : (s : St) (r : Rule s) (i j : ℕ) (v u : View E G) (a b : ℕ) → get_elem? s.views i ≡ some v → v.stage ≡ Serves a → get_elem? s.views j ≡ some u → u.stage ≡ Serves b → i ≡ j
  one_serves s r i j v u a b at is at' is' =
      let h = subst (Stands r.log r.next r.served r.seat i v.claims) is (r.fits i v at).1 in
      let h' = subst (Stands r.log r.next r.served r.seat j u.claims) is' (r.fits j u at').1 in
      sym h.2 ∙ (ap r.seat (h.0 ∙ sym h'.0) ∙ h'.2)

  serving : (st : Stage) → serves st ≡ true → (t : ℕ) × (st ≡ Serves t)
  serving Idle e = absurd (true≢false (sym e))
  serving (Waits t) e = absurd (true≢false (sym e))
  serving (Serves t) e = (t, refl)

  busy_below : (s : St) (r : Rule s) → total busy s.views ≤ n
  busy_below s r = let le = total_below busy parts s.views (λ j v e. each j v.claims v.stage (r.fits j v e).1) in let p = r.passes in omega arith
    where
      each : (j : ℕ) (cs : List (Claim E G)) (st : Stage) → Stands r.log r.next r.served r.seat j cs st → out st ≤ length cs
      each j cs Idle h = omega arith
      each j cs (Waits t) h = let l : length cs ≡ 1 = ap length h.3.1 in omega arith
      each j cs (Serves t) h = let l : length cs ≡ 1 = ap length h.3.1 in omega arith

  -- the ticket of a seat that waits is the one that is served, so the value is at home
  at_turn : (s : St) (r : Rule s) (id t : ℕ) (c : Claim E G) → get_elem? s.views id ≡ some (view (c ∷ []) (Waits t)) → t ≡ r.served → (h : Option S) → Lies (keep r.start) r.log s.views h → (y : S) × (h ≡ some y) × keep r.start y r.log × All (λ j v. serves v.stage ≡ false) s.views
  at_turn s r id t c at mine none (j, u, there, served) =
      let v : View E G = view (c ∷ []) (Waits t) in
      let is = serving u.stage served in
      let h = subst (Stands r.log r.next r.served r.seat j u.claims) is.1 (r.fits j u there).1 in
      let k = (r.fits id v at).1 in
      let same : j ≡ id = sym h.2 ∙ (ap r.seat (h.0 ∙ sym mine) ∙ k.2) in
      let e : u ≡ v = some-injective u v (sym there ∙ (ap (get_elem? s.views) same ∙ at)) in
      absurd (true≢false (sym served ∙ ap (λ (x : View E G). serves x.stage) e))
  at_turn s r id t c at mine (some y) (kept, none_serves) = (y, refl, kept, none_serves)

  prefix_self : (l : List E) → IsPrefix l l
  prefix_self l = ([], append-nil l)

  pub looks : (k id t : ℕ) (c : Claim E G) → Allows Rule k id (view (c ∷ []) (Waits t), []) 1 (λ x. x) (looked keep num (view (c ∷ []) (Waits t), []))
  looks k id t c s r wide at below =
      let v : View E G = view (c ∷ []) (Waits t) in
      let f = r.fits id v at in
      let found : get_or s.words 1 0 ≡ r.served % 2 ^ 64 = ap (λ (z : List ℕ). get_or z 1 0) r.words in
      let stays : set s.words 1 (get_or s.words 1 0) ≡ r.next % 2 ^ 64 ∷ (r.served % 2 ^ 64 ∷ (length r.log ∷ [])) = same_words s.words _ _ _ r.words in
      dite (ℕ_discrete (r.served % 2 ^ 64) (t % 2 ^ 64))
      (λ hit.
      let q = r.tickets in
      let b = busy_below s r in
      let few = r.few in
      let lo = f.1.0 in
      let hi = f.1.1 in
      let mine : t ≡ r.served = sym (one_turn r.served t (2 ^ 64) lo (omega arith) hit) in
      let home = at_turn s r id t c at mine r.home.0 r.home.2 in
      let y : S = home.0 in
      let homes : s.homes ≡ some y ∷ [] = r.home.1 ∙ ap (λ (z : Option S). z ∷ []) home.1 in
      let d : Claim E G = claim c.number r.start r.log c.mine in
      let w : View E G = view (d ∷ []) (Serves t) in
      let owned = (f.0 0 c refl).1 in (
        w,
        takes 0 y,
        ap (λ (z : List (Option S)). get_elem? z 0) homes,
        moved s r id v w at _ _ r.log r.next r.served r.seat stays (omega arith) refl (λ k. refl) r.strangers
            ((λ i x e. one_claim r.start r.log d i x (prefix_self r.log, owned, refl) e), (mine, omega arith, f.1.2, (d, refl, refl)))
            (λ j u other e. r.fits j u e)
            (none, ap (λ (z : List (Option S)). set z 0 none) homes, (id, w, get_set s.views id v w at, refl)),
        ((λ _. (r.start, r.log, y, ((f.0 0 c refl).2, tt), (f.0 0 c refl).0, owned, home.2, refl)), λ no_hit. absurd (no_hit (found ∙ hit))),
      ))
      (λ miss. (
        v,
        keeps,
        tt,
        moved s r id v v at _ _ r.log r.next r.served r.seat stays (omega arith) refl (λ k. refl) r.strangers f (λ j u other e. r.fits j u e) (home_still r.start r.log s.views s.homes id v v at refl refl r.home),
        ((λ hit. absurd (miss (sym found ∙ hit))), λ _. refl),
      ))

  -- where the seat id serves and its ticket is done, what the others do stands
  stands_after_leave : (log : List E) (next served : ℕ) (seat : ℕ → ℕ) (id j : ℕ) (cs : List (Claim E G)) (st : Stage) → seat served ≡ id → j ≢ id → Stands log next served seat j cs st → Stands log next (served + 1) seat j cs st
  stands_after_leave log next served seat id j cs Idle mine other h = tt
  stands_after_leave log next served seat id j cs (Waits t) mine other h =
      let lo = h.0 in
      let ne : t ≢ served = λ e. other (sym h.2 ∙ (ap seat e ∙ mine)) in (omega arith, h.1, h.2, h.3)
  stands_after_leave log next served seat id j cs (Serves t) mine other h = absurd (other (sym h.2 ∙ (ap seat h.0 ∙ mine)))

  idle_after_leave : (log : List E) (next served : ℕ) (seat : ℕ → ℕ) (id j : ℕ) (cs : List (Claim E G)) (st : Stage) → seat served ≡ id → j ≢ id → Stands log next served seat j cs st → serves st ≡ false
  idle_after_leave log next served seat id j cs Idle mine other h = refl
  idle_after_leave log next served seat id j cs (Waits t) mine other h = refl
  idle_after_leave log next served seat id j cs (Serves t) mine other h = absurd (other (sym h.2 ∙ (ap seat h.0 ∙ mine)))

  pub leaves : (k id t : ℕ) (c : Claim E G) (y : S) → keep c.start y c.front → Allows Rule k id (view (c ∷ []) (Serves t), (0, y) ∷ []) 1 (λ x. (x + 1) % 2 ^ 64) (left (view (c ∷ []) (Serves t), (0, y) ∷ []))
  leaves k id t c y kept s r wide at below =
      let v : View E G = view (c ∷ []) (Serves t) in
      let w : View E G = view (c ∷ []) Idle in
      let f = r.fits id v at in
      let lt = f.1.1 in
      let mine : r.seat r.served ≡ id = ap r.seat (sym f.1.0) ∙ f.1.2 in
      let front : c.front ≡ r.log = ap (λ (l : List (Claim E G)). front_of l) f.1.3.1 ∙ f.1.3.2 in
      let ws : set s.words 1 ((get_or s.words 1 0 + 1) % 2 ^ 64) ≡ r.next % 2 ^ 64 ∷ ((r.served + 1) % 2 ^ 64 ∷ (length r.log ∷ [])) =
      ap (λ (z : List ℕ). set z 1 ((get_or z 1 0 + 1) % 2 ^ 64)) r.words ∙ ap (λ (z : ℕ). r.next % 2 ^ 64 ∷ (z ∷ (length r.log ∷ []))) (mod-add-mod r.served (2 ^ 64) 1) in (
        w,
        gives,
        tt,
        moved s r id v w at _ _ r.log r.next (r.served + 1) r.seat ws (omega arith) refl (λ k. refl) r.strangers (f.0, tt)
            (λ j u other e. ((r.fits j u e).0, stands_after_leave r.log r.next r.served r.seat id j u.claims u.stage mine other (r.fits j u e).1)) (
              some y,
              ap (λ (z : List (Option S)). set z 0 (some y)) r.home.1,
              (subst (λ (z : G × List E). keep z.0 y z.1) (λ i. ((f.0 0 c refl).2 i, front i)) kept, all_set (λ j u. serves u.stage ≡ false) s.views id w refl (λ j u other e. idle_after_leave r.log r.next r.served r.seat id j u.claims u.stage mine other (r.fits j u e).1)),
            ),
        refl,
      )

  -- the value is out while a seat serves
  out_while : (s : St) (r : Rule s) (id t : ℕ) (cs : List (Claim E G)) → get_elem? s.views id ≡ some (view cs (Serves t)) → (h : Option S) → Lies (keep r.start) r.log s.views h → h ≡ none
  out_while s r id t cs at none l = refl
  out_while s r id t cs at (some y) l = absurd (true≢false (l.1 id (view cs (Serves t)) at))

  stands_after_note : (log log' : List E) (next served : ℕ) (seat : ℕ → ℕ) (id j : ℕ) (cs : List (Claim E G)) (st : Stage) → seat served ≡ id → j ≢ id → Stands log next served seat j cs st → Stands log' next served seat j cs st
  stands_after_note log log' next served seat id j cs Idle mine other h = tt
  stands_after_note log log' next served seat id j cs (Waits t) mine other h = h
  stands_after_note log log' next served seat id j cs (Serves t) mine other h = absurd (other (sym h.2 ∙ (ap seat h.0 ∙ mine)))

  pub own_mine : (k : ℕ) (log : List E) (e : E) → num e ≡ k → own num k (log ++ e ∷ []) ≡ own num k log ++ e ∷ []
  own_mine k log e is = filter-append (λ x. eqb (num x) k) log (e ∷ []) ∙ ap (λ b. own num k log ++ cond b (e ∷ []) []) (eq-eqb (num e) k is)

  own_other : (k : ℕ) (log : List E) (e : E) → num e ≢ k → own num k (log ++ e ∷ []) ≡ own num k log
  own_other k log e ne = filter-append (λ x. eqb (num x) k) log (e ∷ []) ∙ (ap (λ b. own num k log ++ cond b (e ∷ []) []) (ne_eqb (num e) k ne) ∙ append-nil (own num k log))

  -- a claim of another seat has another number
  other_number : (s : St) (r : Rule s) (id j i : ℕ) (c d : Claim E G) (v u : View E G) → j ≢ id → get_elem? s.views id ≡ some v → v.claims ≡ c ∷ [] → get_elem? s.views j ≡ some u → get_elem? u.claims i ≡ some d → c.number ≢ d.number
  other_number s r id j i c d v u other at one at' there same =
      let here : times d.number v ≡ 1 = ap (λ (l : List (Claim E G)). total (λ (x : Claim E G). hit (eqb x.number d.number)) l) one ∙ (ap (λ b. hit b + 0) (eq-eqb c.number d.number same)) in
      let one_there : hit (eqb d.number d.number) ≤ times d.number u = total_one (λ (x : Claim E G). hit (eqb x.number d.number)) u.claims i d there in
      let is_one : hit (eqb d.number d.number) ≡ 1 = ap hit (eq-eqb d.number d.number refl) in
      let both = total_two (times d.number) s.views j id u v other at' at in
      let once = r.once d.number in absurd (omega arith)

  claimed_longer : (o : G) (log : List E) (e : E) (d : Claim E G) → num e ≢ d.number → Claimed num o log d → Claimed num o (log ++ e ∷ []) d
  claimed_longer o log e d ne ok = ((ok.0.0 ++ e ∷ [], sym (append_assoc d.front ok.0.0 (e ∷ [])) ∙ ap (λ l. l ++ e ∷ []) ok.0.1), own_other d.number log e ne ∙ ok.1, ok.2)

  abbrev held : S → List (ℕ × S) → S
  held d [] = d
  held d (x ∷ xs) = x.1

  -- no claim has a number that was not given
  no_claim : (s : St) (r : Rule s) (id k : ℕ) (c : Claim E G) (st : Stage) → get_elem? s.views id ≡ some (view (c ∷ []) st) → c.number ≡ k → n ≤ k → ⊥
  no_claim s r id k c st at is le =
      let here : times k (view (c ∷ []) st) ≡ 1 = ap (λ b. hit b + 0) (eq-eqb c.number k is) in
      let one = total_one (times k) s.views id (view (c ∷ []) st) at in
      let none = r.beyond k le in absurd (omega arith)

  pub counts : (k id t : ℕ) (c : Claim E G) (y : S) (e : E) → keep c.start y (c.front ++ e ∷ []) → num e ≡ c.number → length c.front + 1 < 2 ^ 64
      → Allows Rule k id (view (c ∷ []) (Serves t), (0, y) ∷ []) 2 (λ x. (x + 1) % 2 ^ 64) (counted keep num (view (c ∷ []) (Serves t), (0, y) ∷ []))
  counts k id t c y e kept is short s r wide at below =
      let v : View E G = view (c ∷ []) (Serves t) in
      let f = r.fits id v at in
      let lt = f.1.1 in
      let mine : r.seat r.served ≡ id = ap r.seat (sym f.1.0) ∙ f.1.2 in
      let front : c.front ≡ r.log = ap (λ (l : List (Claim E G)). front_of l) f.1.3.1 ∙ f.1.3.2 in
      let log : List E = c.front ++ e ∷ [] in
      let d : Claim E G = claim c.number c.start log (c.mine ++ e ∷ []) in
      let w : View E G = view (d ∷ []) (Serves t) in
      let grown : log ≡ r.log ++ e ∷ [] = ap (λ l. l ++ e ∷ []) front in
      let len : length log ≡ length c.front + 1 = length-append c.front (e ∷ []) in
      let len' : length r.log ≡ length c.front = ap length (sym front) in
      let count : (length r.log + 1) % 2 ^ 64 ≡ length log = mod-eq_of_lt (let few : length r.log + 1 < 2 ^ 64 = omega arith in few) ∙ omega arith in
      let ws : set s.words 2 ((get_or s.words 2 0 + 1) % 2 ^ 64) ≡ r.next % 2 ^ 64 ∷ (r.served % 2 ^ 64 ∷ (length log ∷ [])) =
      ap (λ (z : List ℕ). set z 2 ((get_or z 2 0 + 1) % 2 ^ 64)) r.words ∙ ap (λ (z : ℕ). r.next % 2 ^ 64 ∷ (r.served % 2 ^ 64 ∷ (z ∷ []))) count in
      let owned : own num c.number log ≡ c.mine ++ e ∷ [] = own_mine c.number c.front e is ∙ ap (λ l. l ++ e ∷ []) (ap (own num c.number) front ∙ (f.0 0 c refl).1) in
      let strange : (k : ℕ) → n ≤ k → own num k log ≡ [] = λ j le. subst (λ (l : List E). own num j l ≡ []) (sym grown) (own_other j r.log e (λ same. no_claim s r id j c (Serves t) at (sym is ∙ same) le) ∙ r.strangers j le) in
      let gone = out_while s r id t (c ∷ []) at r.home.0 r.home.2 in (
        w,
        keeps,
        tt,
        moved s r id v w at _ _ log r.next r.served r.seat ws (omega arith) refl (λ k. refl) strange
            ((λ i x there. one_claim r.start log d i x (prefix_self log, owned, (f.0 0 c refl).2) there), (f.1.0, lt, f.1.2, (d, refl, refl)))
            (λ j u other there. (
              (λ i x inside. subst (λ (l : List E). Claimed num r.start l x) (sym grown)
                  (claimed_longer r.start r.log e x (λ same. other_number s r id j i c x v u other at refl there inside (sym is ∙ same)) ((r.fits j u there).0 i x inside))),
              stands_after_note r.log log r.next r.served r.seat id j u.claims u.stage mine other (r.fits j u there).1,
            ))
            (none, r.home.1 ∙ ap (λ (z : Option S). z ∷ []) gone, (id, w, get_set s.views id v w at, refl)),
        (e, c.start, (refl, tt), is, (λ y' l same. subst (λ z. keep c.start z log) (ap (held y) same) kept), refl),
      )

  pub splits : (id : ℕ) (c : Claim E G) (cs : List (Claim E G)) → Splits Rule id (view (c ∷ cs) Idle) (view cs Idle) (view (c ∷ []) Idle)
  splits id c cs s r at =
      let v : View E G = view (c ∷ cs) Idle in
      let l : View E G = view cs Idle in
      let w : View E G = view (c ∷ []) Idle in
      let f = r.fits id v at in
      let vs : List (View E G) = set s.views id l in
      let F : ℕ → View E G → Type 0 = Fits num r.start r.log r.next r.served r.seat in
      let here : All F vs = all_set F s.views id l ((λ i d e. f.0 (suc i) d e), tt) (λ j u other e. r.fits j u e) in
      let home = home_still r.start r.log s.views s.homes id v l at refl refl r.home in record {
        start = r.start;
        log = r.log;
        next = r.next;
        served = r.served;
        seat = r.seat;
        words = r.words;
        few = r.few;
        tickets = (let t = total_set busy s.views id v l at in let a = total_append busy vs (w ∷ []) in let q = r.tickets in omega arith);
        passes = (let t = total_set parts s.views id v l at in let a = total_append parts vs (w ∷ []) in let q = r.passes in omega arith);
        once = λ k. (let t = total_set (times k) s.views id v l at in let a = total_append (times k) vs (w ∷ []) in let q = r.once k in omega arith);
        beyond = λ k le. (let t = total_set (times k) s.views id v l at in let a = total_append (times k) vs (w ∷ []) in let q = r.beyond k le in omega arith);
        strangers = r.strangers;
        fits = all_snoc F vs w here (λ j. ((λ i d e. one_claim r.start r.log c i d (f.0 0 c refl) e), tt));
        home = (home.0, home.1, lies_snoc r.start r.log vs w home.0 home.2 refl);
      }
    where
      all_snoc : (F : ℕ → View E G → Type 0) (views : List (View E G)) (w : View E G) → All F views → ((j : ℕ) → F j w) → All F (views ++ w ∷ [])
      all_snoc F views w old new j u e = ⊎_elim (λ x. old j u x) (λ (is : w ≡ u). subst (F j) is (new j)) (at_snoc views w u j e)

      lies_snoc : (o : G) (log : List E) (views : List (View E G)) (w : View E G) → (h : Option S) → Lies (keep o) log views h → serves w.stage ≡ false → Lies (keep o) log (views ++ w ∷ []) h
      lies_snoc o log views w none (j, u, there, served) idle = (j, u, at_longer views (w ∷ []) j u there, served)
      lies_snoc o log views w (some y) (kept, nobody) idle = (kept, λ j u e. ⊎_elim (λ x. nobody j u x) (λ (is : w ≡ u). subst (λ (x : View E G). serves x.stage ≡ false) is idle) (at_snoc views w u j e))

  at_append : (l m : List (Claim E G)) (i : ℕ) (x : Claim E G) → get_elem? (l ++ m) i ≡ some x → (get_elem? l i ≡ some x) ⊎ ((k : ℕ) × (get_elem? m k ≡ some x))
  at_append [] m i x e = inr (i, e)
  at_append (y ∷ l) m zero x e = inl e
  at_append (y ∷ l) m (suc i) x e = at_append l m i x e

  pub joins : (id other : ℕ) (cs ds : List (Claim E G)) → Joins Rule id (view cs Idle) other (view ds Idle) (view (cs ++ ds) Idle) (view [] Idle)
  joins id other cs ds s r at apart there =
      let v : View E G = view cs Idle in
      let w : View E G = view ds Idle in
      let b : View E G = view (cs ++ ds) Idle in
      let z : View E G = view [] Idle in
      let vs : List (View E G) = set s.views id b in
      let was : get_elem? s.views other ≡ some w = sym (set_else s.views id other b apart) ∙ there in
      let F : ℕ → View E G → Type 0 = Fits num r.start r.log r.next r.served r.seat in
      let f = r.fits id v at in
      let h = r.fits other w was in
      let here : All F vs = all_set F s.views id b ((λ i d e. ⊎_elim (λ x. f.0 i d x) (λ x. h.0 x.0 d x.1) (at_append cs ds i d e)), tt) (λ j u other e. r.fits j u e) in
      let home = home_still r.start r.log vs s.homes other w z there refl refl (home_still r.start r.log s.views s.homes id v b at refl refl r.home) in record {
        start = r.start;
        log = r.log;
        next = r.next;
        served = r.served;
        seat = r.seat;
        words = r.words;
        few = r.few;
        tickets = (let t = total_set busy s.views id v b at in let a = total_set busy vs other w z there in let q = r.tickets in omega arith);
        passes = (let t = total_set parts s.views id v b at in let a = total_set parts vs other w z there in let q = r.passes in omega (arith, length-append cs ds));
        once = λ k. (let t = total_set (times k) s.views id v b at in let a = total_set (times k) vs other w z there in let q = r.once k in
            let p = total_append (λ (c : Claim E G). hit (eqb c.number k)) cs ds in omega arith);
        beyond = λ k le. (let t = total_set (times k) s.views id v b at in let a = total_set (times k) vs other w z there in let q = r.beyond k le in
            let p = total_append (λ (c : Claim E G). hit (eqb c.number k)) cs ds in omega arith);
        strangers = r.strangers;
        fits = all_set F vs other z ((λ i d e. absurd (some-ne-none d (sym e))), tt) (λ j u other e. here j u e);
        home = home;
      }

  claims_all : (o : G) (F : Claim E G → Type 0) (k m : ℕ) → ((i : ℕ) → F (claim i o [] [])) → (i : ℕ) (c : Claim E G) → get_elem? (claims_from o k m) i ≡ some c → F c
  claims_all o F k zero new i c e = absurd (some-ne-none c (sym e))
  claims_all o F k (suc m) new zero c e = subst F (some-injective (claim k o [] []) c e) (new k)
  claims_all o F k (suc m) new (suc i) c e = claims_all o F (suc k) m new i c e

  claims_length : (o : G) (k m : ℕ) → length (claims_from {E = E} o k m) ≡ m
  claims_length o k zero = refl
  claims_length o k (suc m) = ap suc (claims_length o (suc k) m)

  claims_none : (o : G) (k m x : ℕ) → x < k → times {E = E} x (view (claims_from o k m) Idle) ≡ 0
  claims_none o k zero x lt = refl
  claims_none o k (suc m) x lt = let h = claims_none o (suc k) m x (omega arith) in let z : hit (eqb k x) ≡ 0 = ap hit (ne_eqb k x (λ e. omega arith)) in omega arith

  claims_once : (o : G) (k m x : ℕ) → times {E = E} x (view (claims_from o k m) Idle) ≤ 1
  claims_once o k zero x = omega arith
  claims_once o k (suc m) x = dite (ℕ_discrete k x)
      (λ e. let h = claims_none o (suc k) m x (omega arith) in let z : hit (eqb k x) ≡ 1 = ap hit (eq-eqb k x e) in omega arith)
      (λ ne. let h = claims_once o (suc k) m x in let z : hit (eqb k x) ≡ 0 = ap hit (ne_eqb k x ne) in omega arith)

  claims_beyond : (o : G) (k m x : ℕ) → k + m ≤ x → times {E = E} x (view (claims_from o k m) Idle) ≡ 0
  claims_beyond o k zero x le = refl
  claims_beyond o k (suc m) x le = let h = claims_beyond o (suc k) m x (omega arith) in let z : hit (eqb k x) ≡ 0 = ap hit (ne_eqb k x (λ e. omega arith)) in omega arith

  alone : (F : ℕ → View E G → Type 0) (v : View E G) → F 0 v → All F (v ∷ [])
  alone F v f zero u e = subst (F 0) (some-injective v u e) f
  alone F v f (suc j) u e = absurd (some-ne-none u (sym e))

  pub begins : (o : G) (x : S) → keep o x [] → n < 2 ^ 64 → Rule (opening (0 ∷ (0 ∷ (0 ∷ []))) (x ∷ []) (first_view o n))
  begins o x kept few = record {
    start = o;
    log = [];
    next = 0;
    served = 0;
    seat = λ t. 0;
    words = refl;
    few = few;
    tickets = refl;
    passes = (let h = claims_length o 0 n in omega arith);
    once = λ k. (let h = claims_once o 0 n k in omega arith);
    beyond = λ k le. (let h = claims_beyond o 0 n k (omega arith) in omega arith);
    strangers = λ k le. refl;
    fits = alone (Fits num o [] 0 0 (λ t. 0)) (first_view o n) (claims_all o (Claimed num o []) 0 n (λ i. (([], refl), refl, refl)), tt);
    home = (some x, refl, (kept, alone (λ j v. serves v.stage ≡ false) (first_view o n) refl));
  }

  -- where one seat has every claim, the value is at home
  whole : (s : St) (r : Rule s) (id : ℕ) (cs : List (Claim E G)) → get_elem? s.views id ≡ some (view cs Idle) → length cs ≡ n → (h : Option S) → Lies (keep r.start) r.log s.views h → (y : S) × (h ≡ some y) × keep r.start y r.log
  whole s r id cs at all (some y) l = (y, refl, l.0)
  whole s r id cs at all none (j, u, there, served) = dite (ℕ_discrete id j)
      (λ e. absurd (true≢false (sym served ∙ ap (λ (x : View E G). serves x.stage) (some-injective u (view cs Idle) (sym there ∙ (ap (get_elem? s.views) (sym e) ∙ at))))))
      (λ ne. let two = total_two parts s.views id j (view cs Idle) u ne at there in
      let is = serving u.stage served in
      let h = subst (Stands r.log r.next r.served r.seat j u.claims) is.1 (r.fits j u there).1 in
      let one : length u.claims ≡ 1 = ap length h.3.1 in
      let p = r.passes in absurd (omega arith))

  pub ends : (id : ℕ) (cs : List (Claim E G)) (ws : List ℕ) (xs : List S) → Final (Seen Rule id (view cs Idle)) ws xs → length cs ≡ n
      → (y : S) × (o : G) × (log : List E) × (get_elem? xs 0 ≡ some y) × keep o y log × ((i : ℕ) (c : Claim E G) → get_elem? cs i ≡ some c → Claimed num o log c) × ((k : ℕ) → n ≤ k → own num k log ≡ [])
  ends id cs ws xs (s, seen, words, long, values) all =
      let r = seen.0 in
      let home = whole s r id cs seen.1 all r.home.0 r.home.2 in
      (home.0, r.start, r.log, values 0 home.0 (ap (λ (z : List (Option S)). get_elem? z 0) (r.home.1 ∙ ap (λ (z : Option S). z ∷ []) home.1)), home.2, (r.fits id (view cs Idle) seen.1).0, r.strangers)
