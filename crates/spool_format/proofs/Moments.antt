-- How a run of disk calls goes on.
use Rattle.std.proofs.Common.{◌≡◌, refl, ◌∙◌, inl, inr, ⊎_elim, ℕ, ◌+◌, ◌≤◌, List, arith}
use Rattle.outside.specs.Disk.{Elapses, Follows, Torn, TornSince, Each}
use Rattle.spool_format.proofs.Pieces.{torn_none, torn_twice, torn_wider, follows_twice}
use Rattle.spool_format.specs.Runs.{LeavesOnly, WritesOnly, Quiet}

module _ {D : Type 0} (moment : D → ℕ) (left_since : D → ℕ → List ℕ → Type 0) where
  -- before the first call
  pub started : (old : D) (P : List ℕ → Type 0) → ((c : List ℕ) → left_since old (moment old) c → P c) → LeavesOnly moment left_since old old P
  started old P here = record { later = omega arith; each = here; before = λ t c le left. inl left }

  -- one call more, after which a crash leaves what has P
  pub goes_on : (old mid new : D) (P leaves : List ℕ → Type 0) → LeavesOnly moment left_since old mid P → Elapses (moment mid) (moment new) (left_since mid) (left_since new) leaves
      → ((c : List ℕ) → leaves c → P c) → LeavesOnly moment left_since old new P
  goes_on old mid new P leaves so_far time here = record {
    later = omega (arith, so_far.later, time.later);
    each = λ c left. ⊎_elim (so_far.each c) (here c) (time.nothing_else (moment old) c so_far.later left);
    before = λ t c le left. ⊎_elim (so_far.before t c le) (λ now. inr (here c now)) (time.nothing_else t c (omega (arith, le, so_far.later)) left);
  }

  -- two runs, one behind the other
  pub then : (old mid new : D) (P Q : List ℕ → Type 0) → LeavesOnly moment left_since old mid P → LeavesOnly moment left_since mid new Q → ((c : List ℕ) → Q c → P c)
      → LeavesOnly moment left_since old new P
  then old mid new P Q first second here = record {
    later = omega (arith, first.later, second.later);
    each = λ c left. ⊎_elim (first.each c) (here c) (second.before (moment old) c first.later left);
    before = λ t c le left. ⊎_elim (first.before t c le) (λ q. inr (here c q)) (second.before t c (omega (arith, le, first.later)) left);
  }

  pub weaker : (old new : D) (P Q : List ℕ → Type 0) → LeavesOnly moment left_since old new P → ((c : List ℕ) → P c → Q c) → LeavesOnly moment left_since old new Q
  weaker old new P Q run f = record {
    later = run.later;
    each = λ c left. f c (run.each c left);
    before = λ t c le left. ⊎_elim (λ was. inl was) (λ p. inr (f c p)) (run.before t c le left);
  }

-- writes in pieces
module _ {D : Type 0} (leaves : D → List ℕ → Type 0) (moment : D → ℕ) (left_since : D → ℕ → List ℕ → Type 0) (at n : ℕ) where
  -- nothing yet
  pub writes_none : (old : D) → ((c : List ℕ) → left_since old (moment old) c → leaves old c) → WritesOnly leaves moment left_since at n old old
  writes_none old only_now = record {
    follows = λ c now. (c, now, torn_none at n c);
    any_moment = started moment left_since old (TornSince at n (leaves old)) (λ c left. (c, only_now c left, torn_none at n c));
  }

  -- one write more
  pub writes_more : (old mid new : D) (at' n' : ℕ) → at ≤ at' → at' + n' ≤ at + n → WritesOnly leaves moment left_since at n old mid → Follows (Torn at' n') (leaves mid) (leaves new)
      → Elapses (moment mid) (moment new) (left_since mid) (left_since new) (leaves new) → WritesOnly leaves moment left_since at n old new
  writes_more old mid new at' n' from to so_far step time =
      let follows = follows_twice at n (leaves old) (leaves mid) (leaves new) at' n' from to so_far.follows step in
      record { follows = follows; any_moment = goes_on moment left_since old mid new (TornSince at n (leaves old)) (leaves new) so_far.any_moment time follows }

  -- a run of writes more
  pub writes_then : (old mid new : D) (at' n' : ℕ) → at ≤ at' → at' + n' ≤ at + n → WritesOnly leaves moment left_since at n old mid → WritesOnly leaves moment left_since at' n' mid new
      → WritesOnly leaves moment left_since at n old new
  writes_then old mid new at' n' from to first second = record {
    follows = follows_twice at n (leaves old) (leaves mid) (leaves new) at' n' from to first.follows second.follows;
    any_moment = then moment left_since old mid new (TornSince at n (leaves old)) (TornSince at' n' (leaves mid)) first.any_moment second.any_moment
        (λ c torn.
        let early = first.follows torn.0 torn.1 in
        (early.0, early.1, torn_twice at n early.0 torn.0 c early.2 (torn_wider at n at' n' torn.0 c from to torn.2)));
  }

-- calls that write nothing
module _ {D : Type 0} (reads : D → List ℕ) (leaves : D → List ℕ → Type 0) (moment : D → ℕ) (left_since : D → ℕ → List ℕ → Type 0) where
  pub quiet_none : (old : D) → ((c : List ℕ) → left_since old (moment old) c → leaves old c) → Quiet reads leaves moment left_since old old
  quiet_none old only_now = record { same = refl; follows = λ c now. now; any_moment = started moment left_since old (leaves old) only_now }

  pub quiet_call : (old new : D) → ((c : List ℕ) → left_since old (moment old) c → leaves old c) → reads new ≡ reads old → Each (leaves new) (leaves old)
      → Elapses (moment old) (moment new) (left_since old) (left_since new) (leaves new) → Quiet reads leaves moment left_since old new
  quiet_call old new only_now same follows time = record {
    same = same;
    follows = follows;
    any_moment = goes_on moment left_since old old new (leaves old) (leaves new) (started moment left_since old (leaves old) only_now) time follows;
  }

  pub quiet_then : (old mid new : D) → Quiet reads leaves moment left_since old mid → Quiet reads leaves moment left_since mid new → Quiet reads leaves moment left_since old new
  quiet_then old mid new first second = record {
    same = second.same ∙ first.same;
    follows = λ c now. first.follows c (second.follows c now);
    any_moment = then moment left_since old mid new (leaves old) (leaves mid) first.any_moment second.any_moment first.follows;
  }
