-- What is known of the list of what the planner is told, by the places and the substrates that it is told of.
use Rattle.std.proofs.Common.{◌≡◌, ℕ, zero, suc, Bool, true, false, true≢false, cond, not, ◌||◌, List, [], ◌∷◌, ◌++◌, find, Option, Some, None, is_some, option_map, slice_get, refl, sym, ap, subst, ◌∙◌, arith}
use Rattle.std.specs.List.{list_all}
use Rattle.gem_ids.specs.declared.numbers.LocId.{LocId}
use Rattle.substrate.specs.Locations.{is_same, is_location}
use Rattle.substrate.specs.Places.{ArePlaces, AreNumbered, stands_at, is_taken, are_placed_apart}
use Rattle.substrate.specs.declared.registered.Registered.{Registered}
use Rattle.substrate.proofs.Sites.{same_is, own_place}
use Rattle.records.proofs.Truth.{or_false, and_true, not_true}
use Rattle.robot_moves.specs.Moves.{holder, is_empty}
use Rattle.robot_moves.specs.declared.view.PlaceView.{PlaceView}
use Rattle.robot_moves.proofs.Least.{RisesFrom, rises_earlier, SitApart, holder_none, empty_holder, taken_holder}
use Rattle.tool_jobs.specs.Jobs.{Jobs}
use Rattle.floor_model.specs.declared.tracked.Substrate.{Substrate}
use Rattle.floor_model.specs.Floor.{ToolFloor, substrate_numbered}
use Rattle.floor_model.specs.Views.{view_in, views_of, views}
use Rattle.floor_model.specs.Picks.{told, kept_as, told_of}

module _ (w : Jobs) (ss : List Substrate) where
  -- ---- their numbers rise

  rise : (last given : ℕ) (rs : List Registered) → AreNumbered last given rs → RisesFrom last (views_of w ss rs)
  rise last given [] h = tt
  rise last given (r ∷ rs) h = of (substrate_numbered r.number ss) (rise r.number given rs h.1) where
    of : (o : Option Substrate) → RisesFrom r.number (views_of w ss rs) → RisesFrom last (view_in r o w ++ views_of w ss rs)
    of None later = rises_earlier last r.number (views_of w ss rs) (let here = h.0 in omega (arith, here)) later
    of (Some s) later = (h.0, later)

  -- ---- no two are at one place

  empty : (loc : LocId) (rs : List Registered) → is_taken loc rs ≡ false → is_empty loc (views_of w ss rs) ≡ true
  empty loc [] h = refl
  empty loc (r ∷ rs) h =
      let parts = or_false (stands_at loc r) (is_taken loc rs) h in
      of (substrate_numbered r.number ss) parts.0 (empty loc rs parts.1)
    where
      of : (o : Option Substrate) → stands_at loc r ≡ false → is_empty loc (views_of w ss rs) ≡ true → is_empty loc (view_in r o w ++ views_of w ss rs) ≡ true
      of None other later = later
      of (Some s) other later = rw other later

  -- the place of the first is not that of another
  first_place : (r : Registered) (rs : List Registered) → are_placed_apart (r ∷ rs) ≡ true → is_taken r.at rs ≡ false
  first_place r rs h = not_true _ (and_true _ _ h).0

  rest_places : (r : Registered) (rs : List Registered) → are_placed_apart (r ∷ rs) ≡ true → are_placed_apart rs ≡ true
  rest_places r rs h = (and_true (not (is_taken r.at rs)) _ h).1

  apart : (rs : List Registered) → are_placed_apart rs ≡ true → SitApart (views_of w ss rs)
  apart [] h = tt
  apart (r ∷ rs) h = of (substrate_numbered r.number ss) (apart rs (rest_places r rs h)) where
    of : (o : Option Substrate) → SitApart (views_of w ss rs) → SitApart (view_in r o w ++ views_of w ss rs)
    of None later = later
    of (Some s) later = (empty r.at rs (first_place r rs h), later)

  -- ---- who is at a place

  -- what is told of the one that was found there
  abbrev told_at : Option Registered → Option PlaceView
  told_at None = None
  told_at (Some r) = option_map (told w r) (substrate_numbered r.number ss)

  at_place : (loc : LocId) (rs : List Registered) → are_placed_apart rs ≡ true → holder loc (views_of w ss rs) ≡ told_at (find (stands_at loc) rs)
  at_place loc [] h = refl
  at_place loc (r ∷ rs) h = of (stands_at loc r) refl (substrate_numbered r.number ss) refl (at_place loc rs (rest_places r rs h)) where
    of : (b : Bool) → stands_at loc r ≡ b → (o : Option Substrate) → substrate_numbered r.number ss ≡ o → holder loc (views_of w ss rs) ≡ told_at (find (stands_at loc) rs)
        → holder loc (view_in r o w ++ views_of w ss rs) ≡ told_at (cond b (Some r) (find (stands_at loc) rs))
    of true q None e later =
        let free : is_taken loc rs ≡ false = subst (λ (l : LocId). is_taken l rs ≡ false) (same_is r.at loc q) (first_place r rs h) in
        holder_none loc (views_of w ss rs) (empty loc rs free) ∙ sym (ap (option_map (told w r)) e)
    of true q (Some s) e later = rw q (sym (ap (option_map (told w r)) e))
    of false q None e later = later
    of false q (Some s) e later = rw q later

  -- ---- of whom is told

  -- what is known of what is told: of which substrate it is, with its place
  pub record IsTold (rs : List Registered) (v : PlaceView) : Type 0 where
    pub r : Registered
    pub s : Substrate
    pub place : ℕ
    pub held : slice_get rs place ≡ Some r
    pub kept : substrate_numbered r.number ss ≡ Some s
    pub is : told w r s ≡ v

  is_told : (rs : List Registered) (i : ℕ) (v : PlaceView) → slice_get (views_of w ss rs) i ≡ Some v → IsTold rs v
  is_told [] i v e = absurd (cc)
  is_told (r ∷ rs) i v e = of (substrate_numbered r.number ss) refl i e (λ j f. is_told rs j v f) where
    behind : IsTold rs v → IsTold (r ∷ rs) v
    behind t = record { r = t.r; s = t.s; place = suc t.place; held = t.held; kept = t.kept; is = t.is }

    of : (o : Option Substrate) → substrate_numbered r.number ss ≡ o → (j : ℕ) → slice_get (view_in r o w ++ views_of w ss rs) j ≡ Some v → ((k : ℕ) → slice_get (views_of w ss rs) k ≡ Some v → IsTold rs v) → IsTold (r ∷ rs) v
    of None k j f later = behind (later j f)
    of (Some s) k zero f later = record { r = r; s = s; place = 0; held = refl; kept = k; is = (let same : told w r s ≡ v = cc in same) }
    of (Some s) k (suc j) f later = behind (later j f)

-- ---- of the floor

module _ (f : ToolFloor) (places : ArePlaces f.places) where
  pub views_rise : RisesFrom 0 (views f)
  views_rise = rise f.jobs f.substrates 0 f.places.given f.places.held places.numbered

  pub views_apart : SitApart (views f)
  views_apart = apart f.jobs f.substrates f.places.held places.placed_apart

  pub holder_is : (loc : LocId) → holder loc (views f) ≡ told_of (find (stands_at loc) f.places.held) f
  holder_is loc = at_place f.jobs f.substrates loc f.places.held places.placed_apart ∙ of (find (stands_at loc) f.places.held) where
    of : (o : Option Registered) → told_at f.jobs f.substrates o ≡ told_of o f
    of None = refl
    of (Some r) = refl

  pub view_is : (i : ℕ) (v : PlaceView) → slice_get (views f) i ≡ Some v → IsTold f.jobs f.substrates f.places.held v
  view_is i v e = is_told f.jobs f.substrates f.places.held i v e

  -- each is at a place of the tool
  list_at : (test : Registered → Bool) (rs : List Registered) (i : ℕ) (r : Registered) → list_all test rs ≡ true → slice_get rs i ≡ Some r → test r ≡ true
  list_at test [] i r h e = absurd (cc)
  list_at test (x ∷ xs) zero r h e =
      let same : x ≡ r = cc in
      subst (λ (y : Registered). test y ≡ true) same (and_true (test x) (list_all test xs) h).0
  list_at test (x ∷ xs) (suc i) r h e = list_at test xs i r (and_true (test x) (list_all test xs) h).1 e

  pub view_within : (i : ℕ) (v : PlaceView) → slice_get (views f) i ≡ Some v → is_location f.places.ports f.places.chambers v.at ≡ true
  view_within i v e =
      let t = view_is i v e in
      subst (λ (u : PlaceView). is_location f.places.ports f.places.chambers u.at ≡ true) t.is
      (list_at (λ r. is_location f.places.ports f.places.chambers r.at) f.places.held t.place t.r places.within t.held)

  -- each that has a place is the one that is found there
  found_there : (rs : List Registered) (i : ℕ) (r : Registered) → are_placed_apart rs ≡ true → slice_get rs i ≡ Some r → find (stands_at r.at) rs ≡ Some r
  found_there [] i r h e = absurd (cc)
  found_there (x ∷ xs) zero r h e =
      let same : x ≡ r = cc in
      subst (λ (y : Registered). find (stands_at y.at) (x ∷ xs) ≡ Some y) same (rw (own_place x.at) refl)
  found_there (x ∷ xs) (suc i) r h e = of (stands_at r.at x) refl (found_there xs i r (and_true (not (is_taken x.at xs)) _ h).1 e) where
    either : (a b : Bool) → b ≡ true → (a || b) ≡ true
    either true b g = refl
    either false b g = g

    taken : (ys : List Registered) (j : ℕ) → slice_get ys j ≡ Some r → is_taken r.at ys ≡ true
    taken [] j g = absurd (cc)
    taken (y ∷ ys) zero g =
        let same : y ≡ r = cc in
        let own : stands_at r.at y ≡ true = subst (λ (l : LocId). is_same y.at l ≡ true) (ap (λ (z : Registered). z.at) same) (own_place y.at) in
        rw own refl
    taken (y ∷ ys) (suc j) g = either (stands_at r.at y) (is_taken r.at ys) (taken ys j g)

    of : (b : Bool) → stands_at r.at x ≡ b → find (stands_at r.at) xs ≡ Some r → cond b (Some x) (find (stands_at r.at) xs) ≡ Some r
    of true q later =
        let free : is_taken r.at xs ≡ false = subst (λ (l : LocId). is_taken l xs ≡ false) (same_is x.at r.at q) (not_true _ (and_true _ _ h).0) in
        absurd (true≢false (sym (taken xs i e) ∙ free))
    of false q later = later

  pub place_found : (i : ℕ) (r : Registered) → slice_get f.places.held i ≡ Some r → find (stands_at r.at) f.places.held ≡ Some r
  place_found i r e = found_there f.places.held i r places.placed_apart e

  -- a place is empty where no substrate of a carrier that is here was found there
  pub empty_where : (loc : LocId) (found : Option Substrate) (none : Bool) → found ≡ kept_as (find (stands_at loc) f.places.held) f → is_some found ≡ not none → none ≡ is_empty loc (views f)
  empty_where loc found none kept is = of (find (stands_at loc) f.places.held) refl found kept is where
    turned : (b c : Bool) → b ≡ not c → c ≡ not b
    turned true true e = absurd (true≢false e)
    turned true false e = refl
    turned false true e = refl
    turned false false e = absurd (true≢false (sym e))

    of : (o : Option Registered) → find (stands_at loc) f.places.held ≡ o → (s : Option Substrate) → s ≡ kept_as o f → is_some s ≡ not none → none ≡ is_empty loc (views f)
    of o e None k g = turned false none g ∙ sym (empty_holder loc (views f) (holder_is loc ∙ ap (λ (x : Option Registered). told_of x f) e ∙ not_told o (sym k))) where
      not_told : (x : Option Registered) → kept_as x f ≡ None → told_of x f ≡ None
      not_told None q = refl
      not_told (Some r) q = ap (option_map (told f.jobs r)) q
    of None e (Some s) k g = absurd (cc)
    of (Some r) e (Some s) k g =
        turned true none g
        ∙ sym (taken_holder loc (views f) (told f.jobs r s) (holder_is loc ∙ ap (λ (x : Option Registered). told_of x f) e ∙ ap (option_map (told f.jobs r)) (sym k)))
