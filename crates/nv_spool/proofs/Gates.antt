-- What a crash leaves in each of the two steps of an append.
use Rattle.std.proofs.Common.{◌≡◌, inl, inr, ℕ, ◌+◌, ◌<◌, ◌≤◌, List, [], ◌∷◌, ◌++◌, length, get_or, refl, sym, ◌∙◌, ap, subst, arith, length-append, append_assoc}
use Rattle.std.proofs.lemmas.Bool.{cases_lt}
use Rattle.std.proofs.lemmas.Bool.Decides.{nat_tests}
use Rattle.nv_spool.specs.Writing.{WithOrWithout}
use Rattle.outside.specs.Disk.{HasAt, Torn, WrittenAt, Follows, Only, Each}
use Rattle.spool_format.proofs.Pieces.{stays, joined, left_part, one_byte}
use Rattle.spool_format.proofs.Spelled.{spelled-push}
use Rattle.spool_format.specs.Format.{Sizes, Record, Shows, body, half_start, head_bytes, spelled}
use Rattle.spool_format.specs.declared.change.Change.{Change}

half_behind_head : (s : Sizes) (selector : ℕ) → 13 ≤ half_start s selector
half_behind_head s selector = grind (arith, nat_tests)

module _ (s : Sizes) (selector : ℕ) (rs : List Record) (change : Change) (gate : ℕ) (place : gate ≡ half_start s selector + length (spelled rs)) where
  -- the first write leaves the records and their closed gate, however it ends
  pub behind_torn : (n : ℕ) (old new : List ℕ) → Torn (gate + 1) n old new → Shows s selector rs old → Shows s selector rs new
  behind_torn n old new torn shows =
      let front = half_behind_head s selector in
      let size : length (spelled rs ++ 0 ∷ []) ≡ length (spelled rs) + 1 = length-append (spelled rs) (0 ∷ []) in
      record {
        head = stays (gate + 1) n old new 0 (head_bytes s selector) torn shows.head (inl (omega arith));
        text = stays (gate + 1) n old new (half_start s selector) (spelled rs ++ 0 ∷ []) torn shows.text (inl (omega arith));
        within = shows.within;
      }

  -- the record stands whole behind its gate
  pub record Staged (bytes : List ℕ) : Type 0 where
    pub shows : Shows s selector rs bytes
    pub behind : HasAt bytes (gate + 1) (body change ++ 0 ∷ [])

  with_gate : (room : length (spelled rs) + 1 + length (body change) < s.half) (new : List ℕ) (open_gate : ℕ) → HasAt new 0 (head_bytes s selector) → HasAt new (half_start s selector) (spelled rs) → HasAt new gate (open_gate ∷ [])
      → HasAt new (gate + 1) (body change ++ 0 ∷ []) → Shows s selector (rs ++ (open_gate, change) ∷ []) new
  with_gate room new open_gate head before at_gate behind =
      let all = joined new (half_start s selector) gate (spelled rs) ((open_gate ∷ body change) ++ 0 ∷ []) place before (joined new gate (gate + 1) (open_gate ∷ []) (body change ++ 0 ∷ []) refl at_gate behind) in
      let is : spelled rs ++ ((open_gate ∷ body change) ++ 0 ∷ []) ≡ spelled (rs ++ (open_gate, change) ∷ []) ++ 0 ∷ [] =
      sym (append_assoc (spelled rs) (open_gate ∷ body change) (0 ∷ [])) ∙ ap (λ (l : List ℕ). l ++ 0 ∷ []) (sym (spelled-push rs (open_gate, change))) in
      record {
        head = head;
        text = subst (HasAt new (half_start s selector)) is all;
        within = omega (arith, room, ap length (spelled-push rs (open_gate, change)), length-append (spelled rs) (open_gate ∷ body change));
      }

  module _ (room : length (spelled rs) + 1 + length (body change) < s.half) where
    -- the second leaves them with the record or without
    pub gate_torn : (old new : List ℕ) → Torn gate 1 old new → Staged old → WithOrWithout s selector rs change new
    gate_torn old new torn staged =
        let front = half_behind_head s selector in
        let size : length (spelled rs ++ 0 ∷ []) ≡ length (spelled rs) + 1 = length-append (spelled rs) (0 ∷ []) in
        let head = stays gate 1 old new 0 (head_bytes s selector) torn staged.shows.head (inl (omega arith)) in
        let before = stays gate 1 old new (half_start s selector) (spelled rs) torn (left_part old (half_start s selector) (spelled rs) (0 ∷ []) staged.shows.text) (inl (omega arith)) in
        let behind = stays gate 1 old new (gate + 1) (body change ++ 0 ∷ []) torn staged.behind (inr (omega arith)) in
        let at_gate = one_byte new gate (omega (arith, torn.no_shorter, staged.shows.text.within (length (spelled rs)) (omega arith))) in
        elim (cases_lt 0 (get_or new gate 0)) [
          | inl opened ↦ inr (get_or new gate 0, opened, with_gate room new (get_or new gate 0) head before at_gate behind)
          | inr shut ↦
              let closed : get_or new gate 0 ≡ 0 = omega arith in
              inl (record { head = head; text = joined new (half_start s selector) gate (spelled rs) (0 ∷ []) place before (subst (λ (b : ℕ). HasAt new gate (b ∷ [])) closed at_gate); within = staged.shows.within })
        ]

    pub gate_written : (old new : List ℕ) → WrittenAt gate (1 ∷ []) old new → Staged old → Shows s selector (rs ++ (1, change) ∷ []) new
    gate_written old new written staged =
        let front = half_behind_head s selector in
        let size : length (spelled rs ++ 0 ∷ []) ≡ length (spelled rs) + 1 = length-append (spelled rs) (0 ∷ []) in
        with_gate room new 1
        (stays gate 1 old new 0 (head_bytes s selector) written.torn staged.shows.head (inl (omega arith)))
        (stays gate 1 old new (half_start s selector) (spelled rs) written.torn (left_part old (half_start s selector) (spelled rs) (0 ∷ []) staged.shows.text) (inl (omega arith)))
        written.there
        (stays gate 1 old new (gate + 1) (body change ++ 0 ∷ []) written.torn staged.behind (inr (omega arith)))

    -- the same of all images
    pub after_gate : (old new : List ℕ → Type 0) → Each old Staged → Follows (Torn gate 1) old new → Each new (WithOrWithout s selector rs change)
    after_gate old new each follows c left = let from = follows c left in gate_torn from.0 c from.2 (each from.0 from.1)

  pub after_behind : (n : ℕ) (old new : List ℕ → Type 0) → Each old (Shows s selector rs) → Follows (Torn (gate + 1) n) old new → Each new (Shows s selector rs)
  after_behind n old new each follows c left = let from = follows c left in behind_torn n from.0 c from.2 (each from.0 from.1)

  pub after_sync : (read synced : List ℕ) (text : List ℕ) (leaves : List ℕ → Type 0) → text ≡ body change ++ 0 ∷ [] → WrittenAt (gate + 1) text read synced → Shows s selector rs read → Only synced leaves → Each leaves Staged
  after_sync read synced text leaves is written shows only c left =
      let staged : Staged synced = record {
        shows = behind_torn (length text) read synced written.torn shows;
        behind = subst (HasAt synced (gate + 1)) is written.there;
      } in
      subst Staged (sym (only c left)) staged
