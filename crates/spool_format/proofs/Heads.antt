-- No head stands where a field of it is missing or wrong.
use Rattle.std.proofs.Common.{◌≡◌, ◌⊎◌, inl, inr, ⊎_elim, ℕ, ◌+◌, ◌*◌, ◌<◌, ◌≤◌, ◌^◌, List, [], ◌∷◌, ◌++◌, take, refl, subst, arith}
use Rattle.std.specs.Int.{w32, w64, to_be_bytes}
use Rattle.outside.specs.Disk.{HasAt}
use Rattle.spool_format.specs.Format.{Sizes, IsSize, head_bytes}
use Rattle.spool_format.specs.Unread.{EndsAt, IsHead, NoHead, AtSelector, AtCapacity, AtHalf}
use Rattle.spool_format.proofs.Fields.{same_piece, number_32, number_64}
use Rattle.spool_format.proofs.Pieces.{joined, left_part, right_part, no_bytes}

-- sizes of that capacity, with the least half
abbrev least : ℕ → Sizes
least capacity = record { capacity = capacity; half = (capacity + 1) * 87020 + 1 }

least_size : (capacity : ℕ) → 1 ≤ capacity → capacity ≤ 65536 → IsSize (least capacity)
least_size capacity some few = record { some_room = some; limit = few; enough = omega arith; most = omega arith }

is_head : (s : Sizes) (selector : ℕ) → IsSize s → IsHead (head_bytes s selector)
is_head s selector size = (s, selector, size, refl)

module _ (bytes : List ℕ) where
  pub ends_selector : (place : ℕ) → EndsAt bytes 13 0 1 place → NoHead bytes place
  ends_selector place ends = inl (record {
    text = head_bytes (least 1) 0;
    form = is_head (least 1) 0 (least_size 1 (omega arith) (omega arith));
    field = AtSelector;
    fits = omega arith;
    there = no_bytes bytes 0;
    before = omega arith;
    ends = ends;
  })

  module _ (selector : ℕ) (selected : HasAt bytes 0 (selector ∷ [])) where
    pub ends_capacity : (place : ℕ) → EndsAt bytes 13 1 4 place → NoHead bytes place
    ends_capacity place ends = inl (record {
      text = head_bytes (least 1) selector;
      form = is_head (least 1) selector (least_size 1 (omega arith) (omega arith));
      field = AtCapacity;
      fits = omega arith;
      there = selected;
      before = omega arith;
      ends = ends;
    })

    module _ (capacity : ℕ) (small : capacity < 2 ^ 32) (sized : HasAt bytes 1 (to_be_bytes w32 capacity)) where
      -- a head with this capacity
      capacity_is : (s : Sizes) (other : ℕ) → IsSize s → HasAt bytes 0 (other ∷ to_be_bytes w32 s.capacity) → capacity ≡ s.capacity
      capacity_is s other size has =
          number_32 capacity s.capacity small (omega (arith, size.limit))
          (same_piece bytes 1 (to_be_bytes w32 capacity) (to_be_bytes w32 s.capacity) refl sized (right_part bytes 0 1 (other ∷ []) (to_be_bytes w32 s.capacity) refl has))

      pub wrong_capacity : (capacity < 1) ⊎ (65536 < capacity) → NoHead bytes 1
      wrong_capacity wrong = inr (record {
        text = head_bytes (least 1) selector;
        form = is_head (least 1) selector (least_size 1 (omega arith) (omega arith));
        field = AtCapacity;
        may = tt;
        there = selected;
        place_is = refl;
        before = omega arith;
        whole = omega (arith, sized.within 3 (omega arith));
        none = λ text form has.
            let same = capacity_is form.0 form.1 form.2 (subst (λ (l : List ℕ). HasAt bytes 0 (take 5 l)) form.3 has) in
            ⊎_elim (λ few. absurd (omega (arith, few, same, form.2.some_room))) (λ many. absurd (omega (arith, many, same, form.2.limit))) wrong;
      })

      module _ (some : 1 ≤ capacity) (few : capacity ≤ 65536) where
        to_half : HasAt bytes 0 ((selector ∷ []) ++ to_be_bytes w32 capacity)
        to_half = joined bytes 0 1 (selector ∷ []) (to_be_bytes w32 capacity) refl selected sized

        pub ends_half : (place : ℕ) → EndsAt bytes 13 5 8 place → NoHead bytes place
        ends_half place ends = inl (record {
          text = head_bytes (least capacity) selector;
          form = is_head (least capacity) selector (least_size capacity some few);
          field = AtHalf;
          fits = omega arith;
          there = to_half;
          before = omega arith;
          ends = ends;
        })

        pub wrong_half : (half : ℕ) → half < 2 ^ 64 → HasAt bytes 5 (to_be_bytes w64 half) → (half < (capacity + 1) * 87020 + 1) ⊎ (2 ^ 40 ≤ half) → NoHead bytes 5
        wrong_half half low halved wrong = inr (record {
          text = head_bytes (least capacity) selector;
          form = is_head (least capacity) selector (least_size capacity some few);
          field = AtHalf;
          may = tt;
          there = to_half;
          place_is = refl;
          before = omega arith;
          whole = omega (arith, halved.within 7 (omega arith));
          none = λ text form has.
              let there = subst (λ (l : List ℕ). HasAt bytes 0 (take 13 l)) form.3 has in
              let same = capacity_is form.0 form.1 form.2 (left_part bytes 0 (form.1 ∷ to_be_bytes w32 form.0.capacity) (to_be_bytes w64 form.0.half) there) in
              let as_long =
              number_64 half form.0.half low (omega (arith, form.2.most))
              (same_piece bytes 5 (to_be_bytes w64 half) (to_be_bytes w64 form.0.half) refl halved (right_part bytes 0 5 (form.1 ∷ to_be_bytes w32 form.0.capacity) (to_be_bytes w64 form.0.half) refl there)) in
              ⊎_elim (λ short. absurd (omega (arith, short, same, as_long, form.2.enough))) (λ long. absurd (omega (arith, long, as_long, form.2.most))) wrong;
        })
