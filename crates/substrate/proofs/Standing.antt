-- Who is at a place, where substrates come, go and move.
use Rattle.std.proofs.Common.{◌≡◌, ℕ, ◌+◌, ◌<◌, ◌≤◌, Bool, true, false, true≢false, cond, not, ◌&&◌, ◌||◌, List, [], ◌∷◌, ◌++◌, length, find, Some, None, is_some, option_map, bytes_eq, refl, sym, ap, ◌∙◌, subst, arith}
use Rattle.std.specs.List.{list_all}
use Rattle.gem_ids.specs.declared.numbers.LocId.{LocId}
use Rattle.substrate.specs.Locations.{is_same, is_location}
use Rattle.substrate.specs.Places.{name_of, number_of, has_name, substrate_named, is_known, stands_at, is_taken, substrate_at, is_there, has_place, moves_to, moved, without, are_named_apart, are_placed_apart, AreNumbered}
use Rattle.substrate.specs.declared.registered.Registered.{Registered}
use Rattle.records.proofs.Truth.{or_false, and_true, not_true}
use Rattle.records.proofs.Texts.{own_name}
use Rattle.records.proofs.Apart.{has_it, first_apart, rest_apart, tail_stays, without_none, apart_changed, length_mapped}
use Rattle.records.proofs.Rising.{rising_more, rising_filter, rising_mapped, number_found}
use Rattle.substrate.proofs.Sites.{same_is, own_place, turned_place}

-- ---- who is there

-- someone is at a place exactly where it is taken
pub at_taken : (loc : LocId) (rs : List Registered) → is_some (substrate_at loc rs) ≡ is_taken loc rs
at_taken loc [] = refl
at_taken loc (r ∷ rs) = by_test (stands_at loc r) (at_taken loc rs) where
  by_test : (b : Bool) → is_some (substrate_at loc rs) ≡ is_taken loc rs → is_some (option_map (λ (s : Registered). s.sub) (cond b (Some r) (find (stands_at loc) rs))) ≡ (b || is_taken loc rs)
  by_test true later = refl
  by_test false later = later

-- nobody is where it isn't
pub at_none : (loc : LocId) (rs : List Registered) → is_taken loc rs ≡ false → substrate_at loc rs ≡ None
at_none loc [] h = refl
at_none loc (r ∷ rs) h =
    let parts = or_false (stands_at loc r) (is_taken loc rs) h in
    rw parts.0 (at_none loc rs parts.1)

-- the place of the first of these is not taken by the others
first_placed : (r : Registered) (rs : List Registered) → are_placed_apart (r ∷ rs) ≡ true → is_taken r.at rs ≡ false
first_placed r rs h = not_true _ (and_true _ _ h).0

rest_placed : (r : Registered) (rs : List Registered) → are_placed_apart (r ∷ rs) ≡ true → are_placed_apart rs ≡ true
rest_placed r rs h = (and_true (not (is_taken r.at rs)) _ h).1

-- where one is found, its place is taken
pub found_taken : (sub : List ℕ) (rs : List Registered) (found : Registered) → substrate_named sub rs ≡ Some found → is_taken found.at rs ≡ true
found_taken sub [] found s = absurd (cc)
found_taken sub (r ∷ rs) found s = by_test (has_name sub r) s (found_taken sub rs found) where
  either : (a b : Bool) → b ≡ true → (a || b) ≡ true
  either true b h = refl
  either false b h = h

  by_test : (b : Bool) → cond b (Some r) (substrate_named sub rs) ≡ Some found → (substrate_named sub rs ≡ Some found → is_taken found.at rs ≡ true) → (stands_at found.at r || is_taken found.at rs) ≡ true
  by_test true f later =
      let same : r ≡ found = cc in
      rw (subst (λ (d : Registered). is_same d.at found.at ≡ true) (sym same) (own_place found.at)) refl
  by_test false f later = either (stands_at found.at r) (is_taken found.at rs) (later f)

-- and it is not that of one in front of it
found_apart : (sub : List ℕ) (r : Registered) (rs : List Registered) (found : Registered) → are_placed_apart (r ∷ rs) ≡ true → substrate_named sub rs ≡ Some found → stands_at found.at r ≡ false
found_apart sub r rs found h s = by_test (stands_at found.at r) refl where
  by_test : (b : Bool) → stands_at found.at r ≡ b → stands_at found.at r ≡ false
  by_test true q =
      let taken : is_taken r.at rs ≡ true = subst (λ (l : LocId). is_taken l rs ≡ true) (sym (same_is r.at found.at q)) (found_taken sub rs found s) in
      absurd (true≢false (sym taken ∙ first_placed r rs h))
  by_test false q = q

-- it passes what all pass
pub found_all : (test : Registered → Bool) (sub : List ℕ) (rs : List Registered) (found : Registered) → list_all test rs ≡ true → substrate_named sub rs ≡ Some found → test found ≡ true
found_all test sub [] found h s = absurd (cc)
found_all test sub (r ∷ rs) found h s =
    let parts = and_true (test r) (list_all test rs) h in
    by_test (has_name sub r) s parts.0 (found_all test sub rs found parts.1)
  where
    by_test : (b : Bool) → cond b (Some r) (substrate_named sub rs) ≡ Some found → test r ≡ true → (substrate_named sub rs ≡ Some found → test found ≡ true) → test found ≡ true
    by_test true f here later =
        let same : r ≡ found = cc in
        subst (λ (d : Registered). test d ≡ true) same here
    by_test false f here later = later f

-- nobody is at a place that isn't one of the tool
pub nobody : (ports chambers : ℕ) (loc : LocId) (rs : List Registered) → list_all (λ r. is_location ports chambers r.at) rs ≡ true → is_location ports chambers loc ≡ false → substrate_at loc rs ≡ None
nobody ports chambers loc [] h e = refl
nobody ports chambers loc (r ∷ rs) h e =
    let parts = and_true (is_location ports chambers r.at) (list_all (λ (s : Registered). is_location ports chambers s.at) rs) h in
    by_test (stands_at loc r) refl parts.0 (nobody ports chambers loc rs parts.1 e)
  where
    by_test : (b : Bool) → stands_at loc r ≡ b → is_location ports chambers r.at ≡ true → substrate_at loc rs ≡ None → option_map (λ (t : Registered). t.sub) (cond b (Some r) (find (stands_at loc) rs)) ≡ None
    by_test true q here later =
        absurd (true≢false (sym here ∙ subst (λ (l : LocId). is_location ports chambers l ≡ false) (sym (same_is r.at loc q)) e))
    by_test false q here later = later

-- ---- one more, behind the others

pub more_here : (s : Registered) (rs : List Registered) → is_taken s.at rs ≡ false → substrate_at s.at (rs ++ s ∷ []) ≡ Some s.sub
more_here s [] h = rw (own_place s.at) refl
more_here s (r ∷ rs) h =
    let parts = or_false (stands_at s.at r) (is_taken s.at rs) h in
    rw parts.0 (more_here s rs parts.1)

pub more_there : (s : Registered) (loc : LocId) (rs : List Registered) → is_same s.at loc ≡ false → substrate_at loc (rs ++ s ∷ []) ≡ substrate_at loc rs
more_there s loc [] h = rw h refl
more_there s loc (r ∷ rs) h = by_test (stands_at loc r) (more_there s loc rs h) where
  by_test : (b : Bool) → substrate_at loc (rs ++ s ∷ []) ≡ substrate_at loc rs → option_map (λ (t : Registered). t.sub) (cond b (Some r) (find (stands_at loc) (rs ++ s ∷ []))) ≡ option_map (λ (t : Registered). t.sub) (cond b (Some r) (find (stands_at loc) rs))
  by_test true later = refl
  by_test false later = later

taken_more : (s : Registered) (loc : LocId) (rs : List Registered) → is_taken loc rs ≡ false → is_same s.at loc ≡ false → is_taken loc (rs ++ s ∷ []) ≡ false
taken_more s loc [] h e = rw e refl
taken_more s loc (r ∷ rs) h e =
    let parts = or_false (stands_at loc r) (is_taken loc rs) h in
    rw (parts.0, taken_more s loc rs parts.1 e) refl

pub placed_more : (s : Registered) (rs : List Registered) → are_placed_apart rs ≡ true → is_taken s.at rs ≡ false → are_placed_apart (rs ++ s ∷ []) ≡ true
placed_more s [] h e = refl
placed_more s (r ∷ rs) h e =
    let parts = or_false (stands_at s.at r) (is_taken s.at rs) e in
    let other : is_same s.at r.at ≡ false = turned_place s.at r.at ∙ parts.0 in
    rw (taken_more s r.at rs (first_placed r rs h) other, placed_more s rs (rest_placed r rs h) parts.1) refl

pub all_more : (test : Registered → Bool) (s : Registered) (rs : List Registered) → list_all test rs ≡ true → test s ≡ true → list_all test (rs ++ s ∷ []) ≡ true
all_more test s [] h e = rw e refl
all_more test s (r ∷ rs) h e =
    let parts = and_true (test r) (list_all test rs) h in
    rw (parts.0, all_more test s rs parts.1 e) refl

pub numbered_more : (last given : ℕ) (s : Registered) (rs : List Registered) → AreNumbered last given rs → s.number ≡ given + 1 → AreNumbered last (given + 1) (rs ++ s ∷ [])
numbered_more last given s rs h e = rising_more number_of last given (given + 1) s rs h e (omega arith)

-- ---- one goes to another place

module _ (sub : List ℕ) (to : LocId) where
  -- names and numbers stay
  stays : (b : Bool) (r : Registered) → (name_of (cond b (moves_to to r) r) ≡ name_of r) × (number_of (cond b (moves_to to r) r) ≡ number_of r)
  stays true r = (refl, refl)
  stays false r = (refl, refl)

  pub apart_moved : (rs : List Registered) → are_named_apart rs ≡ true → are_named_apart (moved sub to rs) ≡ true
  apart_moved rs h = apart_changed name_of sub (moves_to to) (λ r. refl) rs h

  pub length_moved : (rs : List Registered) → length (moved sub to rs) ≡ length rs
  length_moved rs = length_mapped (λ r. cond (has_name sub r) (moves_to to r) r) rs

  pub numbered_moved : (last given : ℕ) (rs : List Registered) → AreNumbered last given rs → AreNumbered last given (moved sub to rs)
  numbered_moved last given rs h = rising_mapped number_of (λ r. cond (has_name sub r) (moves_to to r) r) (λ r. (stays (has_name sub r) r).1) last given rs h

  pub within_moved : (ports chambers : ℕ) (rs : List Registered) → list_all (λ r. is_location ports chambers r.at) rs ≡ true → is_location ports chambers to ≡ true → list_all (λ r. is_location ports chambers r.at) (moved sub to rs) ≡ true
  within_moved ports chambers [] h e = refl
  within_moved ports chambers (r ∷ rs) h e =
      let parts = and_true (is_location ports chambers r.at) (list_all (λ (s : Registered). is_location ports chambers s.at) rs) h in
      by_test (has_name sub r) parts.0 (within_moved ports chambers rs parts.1 e)
    where
      by_test : (b : Bool) → is_location ports chambers r.at ≡ true → list_all (λ (s : Registered). is_location ports chambers s.at) (moved sub to rs) ≡ true → (is_location ports chambers (cond b (moves_to to r) r).at && list_all (λ (s : Registered). is_location ports chambers s.at) (moved sub to rs)) ≡ true
      by_test true here later = rw (e, later) refl
      by_test false here later = rw (here, later) refl

  -- a place that is neither taken nor gone to isn't taken then
  taken_moved : (loc : LocId) (rs : List Registered) → is_taken loc rs ≡ false → is_same to loc ≡ false → is_taken loc (moved sub to rs) ≡ false
  taken_moved loc [] h e = refl
  taken_moved loc (r ∷ rs) h e =
      let parts = or_false (stands_at loc r) (is_taken loc rs) h in
      by_test (has_name sub r) parts.0 (taken_moved loc rs parts.1 e)
    where
      by_test : (b : Bool) → stands_at loc r ≡ false → is_taken loc (moved sub to rs) ≡ false → (is_same (cond b (moves_to to r) r).at loc || is_taken loc (moved sub to rs)) ≡ false
      by_test true here later = rw (e, later) refl
      by_test false here later = rw (here, later) refl

  pub placed_moved : (rs : List Registered) → are_named_apart rs ≡ true → are_placed_apart rs ≡ true → is_taken to rs ≡ false → are_placed_apart (moved sub to rs) ≡ true
  placed_moved [] a h e = refl
  placed_moved (r ∷ rs) a h e =
      let parts = or_false (stands_at to r) (is_taken to rs) e in
      by_test (has_name sub r) refl parts (placed_moved rs (rest_apart name_of r rs a) (rest_placed r rs h) parts.1)
    where
      by_test : (b : Bool) → has_name sub r ≡ b → (stands_at to r ≡ false) × (is_taken to rs ≡ false) → are_placed_apart (moved sub to rs) ≡ true → (not (is_taken (cond b (moves_to to r) r).at (moved sub to rs)) && are_placed_apart (moved sub to rs)) ≡ true
      by_test true q parts later = rw (tail_stays name_of sub (moves_to to) r rs a q, parts.1, rest_placed r rs h) refl
      by_test false q parts later =
          let other : is_same to r.at ≡ false = turned_place to r.at ∙ parts.0 in
          rw (taken_moved r.at rs (first_placed r rs h) other, later) refl

  -- where it is found, it was there before, it is at its new place then, and at all others is who was there
  pub moved_here : (rs : List Registered) (found : Registered) → substrate_named sub rs ≡ Some found → is_taken to rs ≡ false → substrate_at to (moved sub to rs) ≡ Some sub
  moved_here [] found s e = absurd (cc)
  moved_here (r ∷ rs) found s e =
      let parts = or_false (stands_at to r) (is_taken to rs) e in
      by_test (has_name sub r) refl s parts.0 (λ f. moved_here rs found f parts.1)
    where
      by_test : (b : Bool) → has_name sub r ≡ b → cond b (Some r) (substrate_named sub rs) ≡ Some found → stands_at to r ≡ false → (substrate_named sub rs ≡ Some found → substrate_at to (moved sub to rs) ≡ Some sub) → substrate_at to (cond b (moves_to to r) r ∷ moved sub to rs) ≡ Some sub
      by_test true q f here later = rw (own_place to) (ap (λ (n : List ℕ). Some n) (has_it name_of sub r q))
      by_test false q f here later = rw here (later f)

  pub moved_from : (rs : List Registered) (found : Registered) → are_named_apart rs ≡ true → are_placed_apart rs ≡ true → substrate_named sub rs ≡ Some found → is_same to found.at ≡ false → substrate_at found.at (moved sub to rs) ≡ None
  moved_from [] found a h s e = absurd (cc)
  moved_from (r ∷ rs) found a h s e = by_test (has_name sub r) refl s (moved_from rs found (rest_apart name_of r rs a) (rest_placed r rs h)) where
    by_test : (b : Bool) → has_name sub r ≡ b → cond b (Some r) (substrate_named sub rs) ≡ Some found → (substrate_named sub rs ≡ Some found → is_same to found.at ≡ false → substrate_at found.at (moved sub to rs) ≡ None) → substrate_at found.at (cond b (moves_to to r) r ∷ moved sub to rs) ≡ None
    by_test true q f later =
        let same : r ≡ found = cc in
        rw (e, tail_stays name_of sub (moves_to to) r rs a q) (at_none found.at rs (subst (λ (d : Registered). is_taken d.at rs ≡ false) same (first_placed r rs h)))
    by_test false q f later = rw (found_apart sub r rs found h f) (later f e)

  pub moved_there : (loc : LocId) (rs : List Registered) (found : Registered) → are_named_apart rs ≡ true → substrate_named sub rs ≡ Some found → is_same found.at loc ≡ false → is_same to loc ≡ false → substrate_at loc (moved sub to rs) ≡ substrate_at loc rs
  moved_there loc [] found a s e1 e2 = refl
  moved_there loc (r ∷ rs) found a s e1 e2 = by_test (has_name sub r) refl s (moved_there loc rs found (rest_apart name_of r rs a)) where
    further : (b : Bool) → substrate_at loc (moved sub to rs) ≡ substrate_at loc rs → option_map (λ (t : Registered). t.sub) (cond b (Some r) (find (stands_at loc) (moved sub to rs))) ≡ option_map (λ (t : Registered). t.sub) (cond b (Some r) (find (stands_at loc) rs))
    further true later = refl
    further false later = later

    by_test : (b : Bool) → has_name sub r ≡ b → cond b (Some r) (substrate_named sub rs) ≡ Some found → (substrate_named sub rs ≡ Some found → is_same found.at loc ≡ false → is_same to loc ≡ false → substrate_at loc (moved sub to rs) ≡ substrate_at loc rs) → substrate_at loc (cond b (moves_to to r) r ∷ moved sub to rs) ≡ substrate_at loc (r ∷ rs)
    by_test true q f later =
        let same : r ≡ found = cc in
        let here : stands_at loc r ≡ false = subst (λ (d : Registered). is_same d.at loc ≡ false) (sym same) e1 in
        rw (e2, here, tail_stays name_of sub (moves_to to) r rs a q) refl
    by_test false q f later = further (stands_at loc r) (later f e1 e2)

-- ---- one is taken away

module _ (sub : List ℕ) where
  taken_fewer : (loc : LocId) (rs : List Registered) → is_taken loc rs ≡ false → is_taken loc (without sub rs) ≡ false
  taken_fewer loc [] h = refl
  taken_fewer loc (r ∷ rs) h =
      let parts = or_false (stands_at loc r) (is_taken loc rs) h in
      by_test (has_name sub r) parts.0 (taken_fewer loc rs parts.1)
    where
      by_test : (b : Bool) → stands_at loc r ≡ false → is_taken loc (without sub rs) ≡ false → is_taken loc (cond (not b) (r ∷ without sub rs) (without sub rs)) ≡ false
      by_test true here later = later
      by_test false here later = rw (here, later) refl

  pub placed_fewer : (rs : List Registered) → are_placed_apart rs ≡ true → are_placed_apart (without sub rs) ≡ true
  placed_fewer [] h = refl
  placed_fewer (r ∷ rs) h = by_test (has_name sub r) (placed_fewer rs (rest_placed r rs h)) where
    by_test : (b : Bool) → are_placed_apart (without sub rs) ≡ true → are_placed_apart (cond (not b) (r ∷ without sub rs) (without sub rs)) ≡ true
    by_test true later = later
    by_test false later = rw (taken_fewer r.at rs (first_placed r rs h), later) refl

  pub all_fewer : (test : Registered → Bool) (rs : List Registered) → list_all test rs ≡ true → list_all test (without sub rs) ≡ true
  all_fewer test [] h = refl
  all_fewer test (r ∷ rs) h =
      let parts = and_true (test r) (list_all test rs) h in
      by_test (has_name sub r) parts.0 (all_fewer test rs parts.1)
    where
      by_test : (b : Bool) → test r ≡ true → list_all test (without sub rs) ≡ true → list_all test (cond (not b) (r ∷ without sub rs) (without sub rs)) ≡ true
      by_test true here later = later
      by_test false here later = rw (here, later) refl

  pub numbered_fewer : (last given : ℕ) (rs : List Registered) → AreNumbered last given rs → AreNumbered last given (without sub rs)
  numbered_fewer last given rs h = rising_filter number_of (λ r. not (has_name sub r)) last given rs h

  -- where it was is nobody then, and at all other places is who was there
  pub without_from : (rs : List Registered) (found : Registered) → are_named_apart rs ≡ true → are_placed_apart rs ≡ true → substrate_named sub rs ≡ Some found → substrate_at found.at (without sub rs) ≡ None
  without_from [] found a h s = absurd (cc)
  without_from (r ∷ rs) found a h s = by_test (has_name sub r) refl s (without_from rs found (rest_apart name_of r rs a) (rest_placed r rs h)) where
    by_test : (b : Bool) → has_name sub r ≡ b → cond b (Some r) (substrate_named sub rs) ≡ Some found → (substrate_named sub rs ≡ Some found → substrate_at found.at (without sub rs) ≡ None) → substrate_at found.at (cond (not b) (r ∷ without sub rs) (without sub rs)) ≡ None
    by_test true q f later =
        let same : r ≡ found = cc in
        at_none found.at (without sub rs) (taken_fewer found.at rs (subst (λ (d : Registered). is_taken d.at rs ≡ false) same (first_placed r rs h)))
    by_test false q f later = rw (found_apart sub r rs found h f) (later f)

  pub without_there : (loc : LocId) (rs : List Registered) (found : Registered) → are_named_apart rs ≡ true → substrate_named sub rs ≡ Some found → is_same found.at loc ≡ false → substrate_at loc (without sub rs) ≡ substrate_at loc rs
  without_there loc [] found a s e = refl
  without_there loc (r ∷ rs) found a s e = by_test (has_name sub r) refl s (without_there loc rs found (rest_apart name_of r rs a)) where
    further : (b : Bool) → substrate_at loc (without sub rs) ≡ substrate_at loc rs → option_map (λ (t : Registered). t.sub) (cond b (Some r) (find (stands_at loc) (without sub rs))) ≡ option_map (λ (t : Registered). t.sub) (cond b (Some r) (find (stands_at loc) rs))
    further true later = refl
    further false later = later

    by_test : (b : Bool) → has_name sub r ≡ b → cond b (Some r) (substrate_named sub rs) ≡ Some found → (substrate_named sub rs ≡ Some found → is_same found.at loc ≡ false → substrate_at loc (without sub rs) ≡ substrate_at loc rs) → substrate_at loc (cond (not b) (r ∷ without sub rs) (without sub rs)) ≡ substrate_at loc (r ∷ rs)
    by_test true q f later =
        let same : r ≡ found = cc in
        let here : stands_at loc r ≡ false = subst (λ (d : Registered). is_same d.at loc ≡ false) (sym same) e in
        let gone : is_known sub rs ≡ false = subst (λ (n : List ℕ). is_known n rs ≡ false) (has_it name_of sub r q) (first_apart name_of r rs a) in
        rw (here, without_none name_of sub rs gone) refl
    by_test false q f later = further (stands_at loc r) (later f e)

-- ---- one place each

-- who is found by name is found at its place
pub found_there : (sub : List ℕ) (rs : List Registered) (found : Registered) → are_placed_apart rs ≡ true → substrate_named sub rs ≡ Some found → substrate_at found.at rs ≡ Some sub
found_there sub [] found h s = absurd (cc)
found_there sub (r ∷ rs) found h s = by_test (has_name sub r) refl s (found_there sub rs found (rest_placed r rs h)) where
  by_test : (b : Bool) → has_name sub r ≡ b → cond b (Some r) (substrate_named sub rs) ≡ Some found → (substrate_named sub rs ≡ Some found → substrate_at found.at rs ≡ Some sub) → substrate_at found.at (r ∷ rs) ≡ Some sub
  by_test true q f later =
      let same : r ≡ found = cc in
      let here : stands_at found.at r ≡ true = subst (λ (d : Registered). is_same d.at found.at ≡ true) (sym same) (own_place found.at) in
      rw here (ap (λ (n : List ℕ). Some n) (has_it name_of sub r q))
  by_test false q f later = rw (found_apart sub r rs found h f) (later f)

-- who is found at a place is known
at_known : (sub : List ℕ) (loc : LocId) (rs : List Registered) → substrate_at loc rs ≡ Some sub → is_known sub rs ≡ true
at_known sub loc [] e = absurd (cc)
at_known sub loc (r ∷ rs) e = by_test (stands_at loc r) e (at_known sub loc rs) where
  either : (a b : Bool) → b ≡ true → (a || b) ≡ true
  either true b h = refl
  either false b h = h

  by_test : (b : Bool) → option_map (λ (t : Registered). t.sub) (cond b (Some r) (find (stands_at loc) rs)) ≡ Some sub → (substrate_at loc rs ≡ Some sub → is_known sub rs ≡ true) → (has_name sub r || is_known sub rs) ≡ true
  by_test true f later =
      let same : r.sub ≡ sub = cc in
      rw (subst (λ (n : List ℕ). bytes_eq r.sub n ≡ true) same (own_name r.sub)) refl
  by_test false f later = either (has_name sub r) (is_known sub rs) (later f)

-- and is found there by name
pub found_by_name : (sub : List ℕ) (loc : LocId) (rs : List Registered) → are_named_apart rs ≡ true → substrate_at loc rs ≡ Some sub → has_place sub loc rs ≡ true
found_by_name sub loc [] a e = absurd (cc)
found_by_name sub loc (r ∷ rs) a e = by_place (stands_at loc r) refl e (found_by_name sub loc rs (rest_apart name_of r rs a)) where
  by_name : stands_at loc r ≡ false → substrate_at loc rs ≡ Some sub → has_place sub loc rs ≡ true → (b : Bool) → has_name sub r ≡ b → is_there loc (cond b (Some r) (substrate_named sub rs)) ≡ true
  by_name other e later true q =
      let gone : is_known sub rs ≡ false = subst (λ (n : List ℕ). is_known n rs ≡ false) (has_it name_of sub r q) (first_apart name_of r rs a) in
      absurd (true≢false (sym (at_known sub loc rs e) ∙ gone))
  by_name other e later false q = later

  by_place : (b : Bool) → stands_at loc r ≡ b → option_map (λ (t : Registered). t.sub) (cond b (Some r) (find (stands_at loc) rs)) ≡ Some sub → (substrate_at loc rs ≡ Some sub → has_place sub loc rs ≡ true) → has_place sub loc (r ∷ rs) ≡ true
  by_place true q f later =
      let same : r.sub ≡ sub = cc in
      rw (subst (λ (n : List ℕ). bytes_eq r.sub n ≡ true) same (own_name r.sub)) q
  by_place false q f later = by_name q f (later f) (has_name sub r) refl

-- the number of who is found was given
pub found_number : (sub : List ℕ) (last given : ℕ) (rs : List Registered) (found : Registered) → AreNumbered last given rs → substrate_named sub rs ≡ Some found → (last < found.number) × (found.number ≤ given)
found_number sub last given rs found h s = number_found number_of (has_name sub) last given rs found h s
