-- `lost` keeps what holds: the substrate has no place any more, and no open command named it.
use Rattle.std.proofs.Common.{◌≡◌, ℕ, Bool, true, false, not, if◌then◌else◌, cond, List, [], ◌∷◌, Option, Some, None, option_map, refl, sym, ◌∙◌, ap, subst}
use Rattle.std.specs.List.{list_any}
use Rattle.std.specs.Str.{bytes_eq}
use Rattle.std.proofs.lemmas.Bool.{and_parts, not-true}
use Rattle.gem_tables.specs.Table.{firing}
use Rattle.gem_tables.specs.declared.firing.Firing.{Firing}
use Rattle.gem_ids.specs.declared.numbers.LocId.{LocId}
use Rattle.gem_ids.specs.declared.numbers.LocId.TheVariants.{Slot, Aligner, Arm, Chamber}
use Rattle.tool_tasks.specs.declared.task.Task.{Task as ToolTask}
use Rattle.tool_tasks.specs.declared.task.Task.TheVariants as task
use Rattle.robot_moves.specs.declared.module.Module.{Module as ToolModule}
use Rattle.robot_moves.specs.declared.module.Module.TheVariants.{Idle, Busy, Down}
use Rattle.robot_moves.specs.Modules.{module_at}
use Rattle.shop_floor.proofs.Apart.{all_filtered}
use Rattle.substrate.specs.Locations.{is_same}
use Rattle.substrate.specs.Places.{PlaceMap, has_name, substrate_named, is_there, without, removed}
use Rattle.substrate.specs.declared.registered.Registered.{Registered}
use Rattle.substrate.proofs.Sites.{own_place as same_place}
use Rattle.records.proofs.Texts.{same_name, turned}
use Rattle.floor_model.specs.declared.tracked.Substrate.{Substrate}
use Rattle.floor_model.specs.Floor.{ToolFloor, substrate_numbered, number_of}
use Rattle.floor_model.specs.Machines.{substrate_moves, with_moved, floor_fired}
use Rattle.floor_model.specs.Naming.{named_by, module_names}
use Rattle.floor_model.specs.Signals.{can_be_lost, lost_at, lost_rows}
use Rattle.floor_model.specs.Substrates.{is_in_slot, removed_where}
use Rattle.floor_moves.specs.Floor.{Task, pick, place, align, process, busy, own, is_outside}
use Rattle.floor_moves.proofs.Agreeing.{agree-keeps}
use Rattle.floor_moves.proofs.Done.{lost-keeps}
use Rattle.place_laws.specs.Picture.{picture, loc_of, place_in, numbered, number_or_none, task_of, module_of}
use Rattle.place_laws.specs.Sound.{IsOfKept, Base, Sound}
use Rattle.place_laws.proofs.Holding.{found_among, kept_there, own_place}
use Rattle.picture_laws.proofs.Lost.{losing_agrees}
use Rattle.floor_laws.proofs.EndBase.{changed_base}
use Rattle.floor_laws.proofs.EndNames.{name_is, place_is}
use Rattle.floor_laws.proofs.EndOpen.{unnamed}
use Rattle.floor_laws.proofs.EndRows.{moves_leaves}
use Rattle.place_laws.proofs.Names.{loc_one}
use Rattle.floor_laws.proofs.RemPlaces.{removed_places}
use Rattle.floor_laws.proofs.JobSight.{any_at}
use Rattle.floor_moves.specs.Agree.{Agree}
use Rattle.floor_moves.specs.Effects.{lost}
use Rattle.floor_moves.proofs.Maps.{set_here, set_else}
use Rattle.floor_model.specs.Modules.{number_named}

-- ---- one has no place any more

module _ (sub : List ℕ) where
  -- another name is that of whom it was
  other_stays : (name : List ℕ) (rs : List Registered) → bytes_eq name sub ≡ false → substrate_named name (without sub rs) ≡ substrate_named name rs
  other_stays name [] other = refl
  other_stays name (r ∷ rs) other = of (has_name sub r) refl (other_stays name rs other) where
    gone : (b : Bool) → has_name sub r ≡ b → without sub (r ∷ rs) ≡ cond (not b) (r ∷ without sub rs) (without sub rs)
    gone b is = ap (λ (c : Bool). cond (not c) (r ∷ without sub rs) (without sub rs)) is

    missed : has_name sub r ≡ true → has_name name r ≡ false
    missed is = ap (λ (t : List ℕ). bytes_eq t name) (same_name r.sub sub is) ∙ turned sub name ∙ other

    of : (b : Bool) → has_name sub r ≡ b → substrate_named name (without sub rs) ≡ substrate_named name rs → substrate_named name (without sub (r ∷ rs)) ≡ substrate_named name (r ∷ rs)
    of true is rest = ap (substrate_named name) (gone true is) ∙ rest ∙ sym (ap (λ (b : Bool). if b then Some r else substrate_named name rs) (missed is))
    of false is rest = ap (substrate_named name) (gone false is) ∙ ap (λ (o : Option Registered). if has_name name r then Some r else o) rest

  module _ (p : PlaceMap) where
    -- its number is the same
    other_number : (name : List ℕ) → bytes_eq name sub ≡ false → numbered name (removed sub p) ≡ numbered name p
    other_number name other = ap (λ (o : Option Registered). number_or_none (option_map (λ (r : Registered). r.number) o)) (other_stays name p.held other)

    -- a task of another substrate is the same
    same_task : (t : ToolTask) → bytes_eq (named_by t) sub ≡ false → task_of t (removed sub p) ≡ task_of t p
    same_task (task.Pick name from) other = ap (λ (n : ℕ). pick n (loc_of from)) (other_number name other)
    same_task (task.Place name end) other = ap (λ (n : ℕ). place n (loc_of end)) (other_number name other)
    same_task (task.Align name) other = ap align (other_number name other)
    same_task (task.Process name recipe) other = ap process (other_number name other)

    -- where no open command names it, each module is as it was
    pub modules_same : (ms : List ToolModule) → list_any (module_names sub) ms ≡ false → (m : ℕ) → module_of (module_at m ms) (removed sub p) ≡ module_of (module_at m ms) p
    modules_same ms none m = of (module_at m ms) refl where
      by : (o : ToolModule) → module_at m ms ≡ Some o → (b : Bool) → module_names sub o ≡ b → b ≡ false
      by o at true q = let t = any_at (module_names sub) ms m o at q in cc
      by o at false q = refl

      of : (o : Option ToolModule) → module_at m ms ≡ o → module_of o (removed sub p) ≡ module_of o p
      of None at = refl
      of (Some Idle) at = refl
      of (Some (Busy c fetched)) at = ap (λ (t : Task). busy (record { number = c.number.0; task = t })) (same_task c.task (by (Busy c fetched) at (bytes_eq (named_by c.task) sub) refl))
      of (Some Down) at = refl

  -- what holds besides numbers is kept
  pub removed_base : (f : ToolFloor) → Base f → Base (record f { places = removed sub f.places })
  removed_base f b = record {
    shop = b.shop;
    carried = b.carried;
    registered = b.registered;
    apart = b.apart;
    rising = b.rising;
    same_ports = b.same_ports;
    modules = b.modules;
    places = removed_places sub f.places b.places;
    held = all_filtered (IsOfKept f.substrates) (IsOfKept f.substrates) (λ r. not (has_name sub r)) f.places.held (λ r other is. is) b.held;
    jobs = record { numbered = b.jobs.numbered; given = b.jobs.given; members = b.jobs.members };
  }

-- ---- row 8 of table 13

-- the substrate of the word, where its row fires
record IsLost (f : ToolFloor) (n : ℕ) (sub : List ℕ) : Type 0 where
  one : Substrate
  known : substrate_numbered n f.substrates ≡ Some one
  at : Registered
  there : substrate_named sub f.places.held ≡ Some at
  number : at.number ≡ n
  away : is_in_slot one f.places ≡ false
  free : list_any (module_names one.sub) f.modules ≡ false

-- the word has the row only of such a substrate
lost_tells : (f : ToolFloor) (n : ℕ) (sub : List ℕ) → lost_rows sub f ≡ firing 13 n 8 ∷ [] → IsLost f n sub
lost_tells f n sub e = of (substrate_named sub f.places.held) refl e where
  object_same : (k : ℕ) → firing 13 k 8 ∷ [] ≡ firing 13 n 8 ∷ [] → k ≡ n
  object_same k e = let same : firing 13 k 8 ≡ firing 13 n 8 = cc in ap (λ (x : Firing). x.object) same

  found : (r : Registered) → substrate_named sub f.places.held ≡ Some r → r.number ≡ n → (o : Option Substrate) → substrate_numbered n f.substrates ≡ o → can_be_lost o f ≡ true → IsLost f n sub
  found r q same None known can = absurd (cc)
  found r q same (Some s) known can =
      let w = and_parts (not (is_in_slot s f.places)) (not (list_any (module_names s.sub) f.modules)) can in
      record { one = s; known = known; at = r; there = q; number = same; away = not-true _ w.0; free = not-true _ w.1 }

  by : (r : Registered) → substrate_named sub f.places.held ≡ Some r → (b : Bool) → can_be_lost (substrate_numbered r.number f.substrates) f ≡ b → (if b then firing 13 r.number 8 ∷ [] else []) ≡ firing 13 n 8 ∷ [] → IsLost f n sub
  by r q true can e =
      let same = object_same r.number e in
      found r q same (substrate_numbered n f.substrates) refl (sym (ap (λ (k : ℕ). can_be_lost (substrate_numbered k f.substrates) f) same) ∙ can)
  by r q false can e = absurd (cc)

  of : (o : Option Registered) → substrate_named sub f.places.held ≡ o → lost_at (option_map (λ (r : Registered). r.number) o) f ≡ firing 13 n 8 ∷ [] → IsLost f n sub
  of None q e = absurd (cc)
  of (Some r) q e = by r q (can_be_lost (substrate_numbered r.number f.substrates) f) refl e

module _ (f : ToolFloor) (n : ℕ) (sub : List ℕ) (sound : Sound f) (is : IsLost f n sub) where
  -- the place is under the name of the substrate
  its_place : substrate_named is.one.sub f.places.held ≡ Some is.at
  its_place = ap (λ (t : List ℕ). substrate_named t f.places.held) (name_is f sound.base n is.one sub is.at is.known is.there is.number) ∙ is.there

  -- the place by number
  at_number : (picture f).place_of n ≡ Some (loc_of is.at.at)
  at_number = sym (ap (place_in f.places) is.number) ∙ place_is f sound.base sub is.at is.there

  -- it is outside its slot
  outside : is_outside ((picture f).place_of n) ≡ true
  outside = by is.at.at refl where
    in_its_slot : (l : LocId) → is.at.at ≡ l → loc_of l ≡ own n (picture f) → is_in_slot is.one f.places ≡ true
    in_its_slot l q e =
        let h = kept_there f sound.base.carried n (found_among number_of n f.substrates is.one is.known) in
        let both : Some h.one ≡ Some is.one = sym h.found ∙ is.known in
        let one : h.one ≡ is.one = cc in
        let place : l ≡ is.one.slot = loc_one l is.one.slot (e ∙ own_place f n h ∙ ap (λ (s : Substrate). loc_of s.slot) one) in
        ap (λ (o : Option Registered). is_there is.one.slot o) its_place ∙ ap (λ (x : LocId). is_same x is.one.slot) (q ∙ place) ∙ same_place is.one.slot

    by : (l : LocId) → is.at.at ≡ l → is_outside ((picture f).place_of n) ≡ true
    by (Slot p k) q =
        let here = at_number ∙ ap (λ (l : LocId). Some (loc_of l)) q in
        let t = in_its_slot (Slot p k) q (sound.valid.places.home n p.0 k.0 here) in
        let u = is.away in
        absurd (cc)
    by Aligner q = ap is_outside (at_number ∙ ap (λ (l : LocId). Some (loc_of l)) q)
    by Arm q = ap is_outside (at_number ∙ ap (λ (l : LocId). Some (loc_of l)) q)
    by (Chamber c) q = ap is_outside (at_number ∙ ap (λ (l : LocId). Some (loc_of l)) q)

  -- it is one write: by numbers the substrate is LOST, and has no place
  loses : Agree (lost n (picture f)) (picture (floor_fired (firing 13 n 8) f))
  loses = losing_agrees n is.one is.at f sound.base.places is.known its_place is.number (modules_same is.one.sub f.places f.modules is.free)

  -- all that holds is kept
  goes_away : Sound (floor_fired (firing 13 n 8) f)
  goes_away = record {
    base = subst (λ (o : Option Substrate). Base (with_moved 13 8 n (record f { places = removed_where o f.places }))) (sym is.known)
        (changed_base n (substrate_moves 13 8) (moves_leaves 13 8) (record f { places = removed is.one.sub f.places }) (removed_base is.one.sub f sound.base));
    ports = sound.ports;
    unloading = sound.unloading;
    valid = agree-keeps _ _ loses (lost-keeps (picture f) n outside (unnamed f sound.base sound.valid.commands n is.one is.known is.free) sound.valid);
  }

-- by the word
pub lost_sound : (f : ToolFloor) (n : ℕ) (sub : List ℕ) → lost_rows sub f ≡ firing 13 n 8 ∷ [] → Sound f → Sound (floor_fired (firing 13 n 8) f)
lost_sound f n sub e sound = goes_away f n sub sound (lost_tells f n sub e)

-- and what becomes of the places
pub lost_places : (f : ToolFloor) (n : ℕ) (sub : List ℕ) → lost_rows sub f ≡ firing 13 n 8 ∷ [] → Sound f
    → (number_named sub f.places ≡ Some n) × (place_in (floor_fired (firing 13 n 8) f).places n ≡ None) × ((k : ℕ) → (k ≡ n → ⊥) → place_in (floor_fired (firing 13 n 8) f).places k ≡ place_in f.places k)
lost_places f n sub e sound =
    let is = lost_tells f n sub e in
    let a = loses f n sub sound is in (
      ap (option_map (λ (r : Registered). r.number)) is.there ∙ ap (λ (k : ℕ). Some k) is.number,
      a.place_of n ∙ set_here n None (picture f).place_of,
      λ k other. a.place_of k ∙ set_else n k None (picture f).place_of other,
    )
