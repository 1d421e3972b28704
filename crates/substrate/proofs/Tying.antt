-- The board shows who is where, whatever happens.
use Rattle.std.proofs.Common.{◌≡◌, ℕ, zero, suc, ◌+◌, ◌<◌, ◌≤◌, Bool, true, false, true≢false, not, List, [], ◌∷◌, ◌++◌, length, replicate, Option, Some, None, slice_get, refl, sym, ap, ◌∙◌, subst, arith}
use Rattle.gem_ids.specs.declared.numbers.LocId.{LocId}
use Rattle.substrate.specs.Locations.{is_same, is_location}
use Rattle.substrate.specs.Places.{name_of, has_name, substrate_named, is_known, is_taken, substrate_at, moved, without, most_substrates}
use Rattle.substrate.specs.Board.{Spots, spot_of, spot_count, name_at, with_name}
use Rattle.substrate.specs.Tied.{AreTied}
use Rattle.substrate.specs.declared.registered.Registered.{Registered}
use Rattle.records.proofs.Apart.{apart_fewer, apart_more, length_more, length_fewer}
use Rattle.substrate.proofs.Sites.{same_is, own_place, same_spot, spot_within}
use Rattle.substrate.proofs.Written.{written_here, written_there}
use Rattle.substrate.proofs.Standing.{more_here, more_there, placed_more, all_more, numbered_more, apart_moved, length_moved, numbered_moved, within_moved, placed_moved, moved_here, moved_from, moved_there, placed_fewer, all_fewer, numbered_fewer, without_from, without_there, found_all, found_taken}

-- ---- the board

-- a name is written where it belongs
put_here : (loc : LocId) (x y : Option (List ℕ)) (b : Spots) → name_at loc b ≡ Some y → name_at loc (with_name loc x b) ≡ Some x
put_here loc x y b h = written_here b.names (spot_of b.ports loc) x y h

put_there : (loc other : LocId) (x : Option (List ℕ)) (b : Spots) → is_location b.ports b.chambers loc ≡ true → is_location b.ports b.chambers other ≡ true → is_same loc other ≡ false → name_at other (with_name loc x b) ≡ name_at other b
put_there loc other x b hl ho e =
    written_there b.names (spot_of b.ports loc) (spot_of b.ports other) x
    (λ s. true≢false (sym (same_spot b.ports b.chambers loc other hl ho s) ∙ e))

-- who is shown after a change at one place
shown_after : (loc : LocId) (x : Option (List ℕ)) (b : Spots) (rs ss : List Registered) → is_location b.ports b.chambers loc ≡ true → ((l : LocId) → is_location b.ports b.chambers l ≡ true → name_at l b ≡ Some (substrate_at l rs)) → substrate_at loc ss ≡ x → ((l : LocId) → is_same loc l ≡ false → substrate_at l ss ≡ substrate_at l rs) → (l : LocId) → is_location b.ports b.chambers l ≡ true → name_at l (with_name loc x b) ≡ Some (substrate_at l ss)
shown_after loc x b rs ss hl h here there l ho = by_test (is_same loc l) refl where
  by_test : (t : Bool) → is_same loc l ≡ t → name_at l (with_name loc x b) ≡ Some (substrate_at l ss)
  by_test true q =
      subst (λ (k : LocId). name_at k (with_name loc x b) ≡ Some (substrate_at k ss)) (same_is loc l q)
      (put_here loc x (substrate_at loc rs) b (h loc hl) ∙ ap (λ (o : Option (List ℕ)). Some o) (sym here))
  by_test false q = put_there loc l x b hl ho q ∙ h l ho ∙ ap (λ (o : Option (List ℕ)). Some o) (sym (there l q))

-- ---- a registration

module _ (held : List Registered) (b : Spots) (given : ℕ) (h : AreTied held b given) where
  pub tied_more : (s : Registered) → is_location b.ports b.chambers s.at ≡ true → is_taken s.at held ≡ false → is_known s.sub held ≡ false → length held < most_substrates → s.number ≡ given + 1 → AreTied (held ++ s ∷ []) (with_name s.at (Some s.sub) b) (given + 1)
  tied_more s inside free new few number =
      let longer = length_more s held in
      record {
        places = record {
          named_apart = apart_more name_of s held h.places.named_apart new;
          placed_apart = placed_more s held h.places.placed_apart free;
          within = all_more (λ r. is_location b.ports b.chambers r.at) s held h.places.within inside;
          numbered = numbered_more 0 given s held h.places.numbered number;
          few = omega (arith, longer, few);
        };
        shown = shown_after s.at (Some s.sub) b held (held ++ s ∷ []) inside h.shown (more_here s held free) (λ l e. more_there s l held e);
      }

  -- ---- a removal

  pub tied_fewer : (sub : List ℕ) (found : Registered) → substrate_named sub held ≡ Some found → AreTied (without sub held) (with_name found.at None b) given
  tied_fewer sub found s =
      let inside : is_location b.ports b.chambers found.at ≡ true = found_all (λ r. is_location b.ports b.chambers r.at) sub held found h.places.within s in
      let shorter = length_fewer (λ (r : Registered). not (has_name sub r)) held in
      let few = h.places.few in
      record {
        places = record {
          named_apart = apart_fewer name_of (λ r. not (has_name sub r)) held h.places.named_apart;
          placed_apart = placed_fewer sub held h.places.placed_apart;
          within = all_fewer sub (λ r. is_location b.ports b.chambers r.at) held h.places.within;
          numbered = numbered_fewer sub 0 given held h.places.numbered;
          few = omega (arith, shorter, few);
        };
        shown = shown_after found.at None b held (without sub held) inside h.shown (without_from sub held found h.places.named_apart h.places.placed_apart s) (λ l e. without_there sub l held found h.places.named_apart s e);
      }

  -- ---- a move

  pub tied_moved : (sub : List ℕ) (from to : LocId) (found : Registered) → substrate_named sub held ≡ Some found → found.at ≡ from → is_location b.ports b.chambers from ≡ true → is_location b.ports b.chambers to ≡ true → is_taken to held ≡ false → AreTied (moved sub to held) (with_name to (Some sub) (with_name from None b)) given
  tied_moved sub from to found s at start end free = record {
    places = record {
      named_apart = apart_moved sub to held h.places.named_apart;
      placed_apart = placed_moved sub to held h.places.named_apart h.places.placed_apart free;
      within = within_moved sub to b.ports b.chambers held h.places.within end;
      numbered = numbered_moved sub to 0 given held h.places.numbered;
      few = subst (λ n. n ≤ most_substrates) (sym (length_moved sub to held)) h.places.few;
    };
    shown = λ l ho. by_end l ho (is_same to l) refl;
  } where
    -- the two places differ, since one is taken
    apart : is_same to found.at ≡ false
    apart = by_test (is_same to found.at) refl where
      by_test : (t : Bool) → is_same to found.at ≡ t → is_same to found.at ≡ false
      by_test true q = absurd (true≢false (sym (found_taken sub held found s) ∙ subst (λ (k : LocId). is_taken k held ≡ false) (same_is to found.at q) free))
      by_test false q = q

    start_shown : (l : LocId) → is_location b.ports b.chambers l ≡ true → is_same to l ≡ false → (t : Bool) → is_same from l ≡ t → name_at l (with_name from None b) ≡ Some (substrate_at l (moved sub to held))
    start_shown l ho e true q =
        subst (λ (k : LocId). name_at k (with_name from None b) ≡ Some (substrate_at k (moved sub to held))) (same_is from l q)
        (put_here from None (substrate_at from held) b (h.shown from start) ∙ ap (λ (o : Option (List ℕ)). Some o) (sym (subst (λ (k : LocId). substrate_at k (moved sub to held) ≡ None) at (moved_from sub to held found h.places.named_apart h.places.placed_apart s apart))))
    start_shown l ho e false q =
        put_there from l None b start ho q ∙ h.shown l ho
        ∙ ap (λ (o : Option (List ℕ)). Some o) (sym (moved_there sub to l held found h.places.named_apart s (subst (λ (k : LocId). is_same k l ≡ false) (sym at) q) e))

    end_held : name_at to (with_name from None b) ≡ Some (substrate_at to held)
    end_held =
        put_there from to None b start end (by_sides (is_same from to) refl) ∙ h.shown to end
      where
        by_sides : (t : Bool) → is_same from to ≡ t → is_same from to ≡ false
        by_sides true q = absurd (true≢false (sym (subst (λ (k : LocId). is_same to k ≡ true) (sym (same_is from to q) ∙ refl) (own_place to)) ∙ subst (λ (k : LocId). is_same to k ≡ false) at apart))
        by_sides false q = q

    by_end : (l : LocId) → is_location b.ports b.chambers l ≡ true → (t : Bool) → is_same to l ≡ t → name_at l (with_name to (Some sub) (with_name from None b)) ≡ Some (substrate_at l (moved sub to held))
    by_end l ho true q =
        subst (λ (k : LocId). name_at k (with_name to (Some sub) (with_name from None b)) ≡ Some (substrate_at k (moved sub to held))) (same_is to l q)
        (put_here to (Some sub) (substrate_at to held) (with_name from None b) end_held ∙ ap (λ (o : Option (List ℕ)). Some o) (sym (moved_here sub to held found s free)))
    by_end l ho false q = put_there to l (Some sub) (with_name from None b) end ho q ∙ start_shown l ho q (is_same from l) refl

-- ---- as they begin

-- no name at all
abbrev no_name : Option (List ℕ)
no_name = None

nobody_yet : (n i : ℕ) → i < n → slice_get (replicate n no_name) i ≡ Some no_name
nobody_yet zero i l = absurd (omega arith)
nobody_yet (suc n) zero l = refl
nobody_yet (suc n) (suc i) l = nobody_yet n i (omega arith)

pub tied_none : (b : Spots) → b.names ≡ replicate (spot_count b.ports b.chambers) no_name → AreTied [] b 0
tied_none b e = record {
  places = record { named_apart = refl; placed_apart = refl; within = refl; numbered = omega arith; few = omega arith };
  shown = λ l h. subst (λ (ns : List (Option (List ℕ))). slice_get ns (spot_of b.ports l) ≡ Some no_name) (sym e) (nobody_yet _ _ (spot_within b.ports b.chambers l h));
}
