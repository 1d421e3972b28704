-- What is done by a Pick, a Place or an Align keeps what holds.
use Rattle.std.proofs.Common.{◌≡◌, ℕ, Bool, ◌&&◌, true, false, List, Option, Some, option_map, refl, sym, ◌∙◌, ap, subst}
use Rattle.gem_tables.specs.Table.{firing}
use Rattle.gem_ids.specs.declared.numbers.LocId.{LocId}
use Rattle.gem_ids.specs.declared.numbers.LocId.TheVariants.{Slot, Aligner, Arm, Chamber}
use Rattle.tool_tasks.specs.declared.task.Command.{Command as ToolCommand}
use Rattle.tool_tasks.specs.declared.task.Task.{Task as ToolTask}
use Rattle.tool_tasks.specs.declared.task.Task.TheVariants as task
use Rattle.robot_moves.specs.declared.module.Module.{Module as ToolModule}
use Rattle.robot_moves.specs.declared.module.Module.TheVariants.{Busy}
use Rattle.robot_moves.specs.Modules.{module_at}
use Rattle.substrate.specs.Locations.{is_location}
use Rattle.substrate.specs.Places.{PlaceMap, is_taken, can_shift, moved as moved_to}
use Rattle.substrate.specs.declared.registered.Registered.{Registered}
use Rattle.floor_model.specs.Floor.{ToolFloor, with_module, change_numbered}
use Rattle.floor_model.specs.Machines.{floor_fired}
use Rattle.floor_model.specs.Modules.{number_named, goes, module_behind, open_task, transferred, aligned, aligned_numbered, aligned_by}
use Rattle.floor_moves.specs.Floor.{aligner, arm, pick, place, align, busy, idle}
use Rattle.floor_moves.specs.Effects.{moved, aligned as aligned_by_numbers}
use Rattle.floor_moves.specs.Agree.{Agree}
use Rattle.floor_moves.specs.Valid.{Empty, PlaceStands, Valid}
use Rattle.floor_moves.proofs.Agreeing.{agree-keeps}
use Rattle.floor_moves.proofs.Done.{done_pick-keeps, done_place-keeps, done_align-keeps}
use Rattle.place_laws.specs.Picture.{picture, loc_of, numbered, task_of}
use Rattle.place_laws.specs.Sound.{Sound}
use Rattle.picture_laws.proofs.Carried.{moving_agrees}
use Rattle.picture_laws.proofs.Closing.{aligning_agrees}
use Rattle.floor_laws.proofs.EndBase.{Leaves, changed_base}
use Rattle.floor_laws.proofs.EndNames.{named_place, number_there, named_kept}
use Rattle.floor_laws.proofs.EndOpen.{command_of, busy_at}
use Rattle.floor_laws.proofs.EndPlaces.{module_base, moved_base, can_go, goes_there, not_taken, chamber_inside, own_inside}
use Rattle.place_laws.proofs.Names.{loc_one}

module _ (f : ToolFloor) (sound : Sound f) (m : ℕ) (c : ToolCommand) (fetched : Bool) (here : module_at m f.modules ≡ Some (Busy c fetched)) where
  -- the command by numbers
  is_busy : (picture f).equipment m ≡ busy (command_of c f.places)
  is_busy = busy_at f m c fetched here

  -- ---- row 5

  -- the floor behind it, with these places
  abbrev pub behind : PlaceMap → ToolFloor
  behind p = with_module m (module_behind 5) (record f { places = p })

  -- It is one write: the substrate of a name goes from a place to another, which is empty and one of the tool, and the module is Idle; by
  -- numbers it does what the laws of the moves have.
  pub record Written (sub : List ℕ) (from to : LocId) : Type 0 where
    pub fires : floor_fired (firing 16 m 5) f ≡ behind (record f.places { held = moved_to sub to f.places.held })
    pub named : number_named sub f.places ≡ Some (numbered sub f.places)
    pub before : (picture f).place_of (numbered sub f.places) ≡ Some (loc_of from)
    pub can : ((is_location f.places.ports f.places.chambers from && is_location f.places.ports f.places.chambers to) ≡ true) × (can_shift sub from to f.places.held ≡ true)
    pub inside : is_location f.places.ports f.places.chambers to ≡ true
    pub free : is_taken to f.places.held ≡ false
    pub agrees : Agree (moved (numbered sub f.places) (loc_of to) m (picture f)) (picture (behind (record f.places { held = moved_to sub to f.places.held })))
    pub valid : Valid (moved (numbered sub f.places) (loc_of to) m (picture f))

  written : (t : ToolTask) (sub : List ℕ) (from to : LocId) → c.task ≡ t → transferred (Some t) f.places ≡ goes sub from to f.places
      → (picture f).place_of (numbered sub f.places) ≡ Some (loc_of from) → Empty (loc_of to) (picture f) → is_location f.places.ports f.places.chambers to ≡ true
      → Valid (moved (numbered sub f.places) (loc_of to) m (picture f)) → Written sub from to
  written t sub from to q does stands empty inside valid =
      let at = named_place f.places sound.base.places sub (loc_of from) stands in
      let its = number_there f.places sub at.0 at.1 in
      let free = not_taken f sound.base to empty in
      let can = can_go sub to from f.places at.0 sound.base.places at.1 (loc_one at.0.at from at.2) inside free in
      record {
        fires = ap (λ (o : Option ToolModule). behind (transferred (open_task o) f.places)) here
            ∙ ap (λ (u : ToolTask). behind (transferred (Some u) f.places)) q
            ∙ ap behind (does ∙ goes_there sub to from f.places can);
        named = ap (option_map (λ (r : Registered). r.number)) at.1 ∙ ap (λ (n : ℕ). Some n) (sym its);
        before = stands;
        can = can;
        inside = inside;
        free = free;
        agrees = subst (λ (n : ℕ). Agree (moved n (loc_of to) m (picture f)) (picture (behind (record f.places { held = moved_to sub to f.places.held })))) (sym its)
            (moving_agrees m (module_behind 5) (Busy c fetched) sub to at.0 f sound.base.places at.1 here refl);
        valid = valid;
      }

  -- Done of Pick
  pub pick_written : (sub : List ℕ) (from : LocId) → c.task ≡ task.Pick sub from → Written sub from Arm
  pick_written sub from q =
      let t : task_of c.task f.places ≡ pick (numbered sub f.places) (loc_of from) = ap (λ (u : ToolTask). task_of u f.places) q in
      let s = sound.valid.commands.picks m (numbered sub f.places) (loc_of from) (command_of c f.places) is_busy t in
      written (task.Pick sub from) sub from Arm q refl s.stands s.free refl (done_pick-keeps (picture f) m (numbered sub f.places) (loc_of from) (command_of c f.places) is_busy t sound.valid)

  -- the end of a Place is one of the tool's places
  end_inside : (n : ℕ) (to : LocId) → PlaceStands m n (loc_of to) (picture f) → is_location f.places.ports f.places.chambers to ≡ true
  end_inside n (Slot p k) s = own_inside f sound.base n (sound.valid.places.kept n arm s.stands) p k (s.to_slot p.0 k.0 refl).0
  end_inside n Aligner s = refl
  end_inside n Arm s = refl
  end_inside n (Chamber d) s = chamber_inside f.places.ports f.places.chambers d (s.to_chamber d refl).0

  -- Done of Place
  pub place_written : (sub : List ℕ) (to : LocId) → c.task ≡ task.Place sub to → Written sub Arm to
  place_written sub to q =
      let t : task_of c.task f.places ≡ place (numbered sub f.places) (loc_of to) = ap (λ (u : ToolTask). task_of u f.places) q in
      let s = sound.valid.commands.places m (numbered sub f.places) (loc_of to) (command_of c f.places) is_busy t in
      written (task.Place sub to) sub Arm to q refl s.stands s.free (end_inside (numbered sub f.places) to s) (done_place-keeps (picture f) m (numbered sub f.places) (loc_of to) (command_of c f.places) is_busy t sound.valid)

  -- what holds is kept by such a write
  written_sound : (sub : List ℕ) (from to : LocId) → Written sub from to → Sound (floor_fired (firing 16 m 5) f)
  written_sound sub from to w = subst Sound (sym w.fires) (record {
    base = module_base m (module_behind 5) (record f { places = record f.places { held = moved_to sub to f.places.held } }) (moved_base sub to f w.inside w.free sound.base);
    ports = sound.ports;
    unloading = sound.unloading;
    valid = agree-keeps _ _ w.agrees w.valid;
  })

  pub pick_sound : (sub : List ℕ) (from : LocId) → c.task ≡ task.Pick sub from → Sound (floor_fired (firing 16 m 5) f)
  pick_sound sub from q = written_sound sub from Arm (pick_written sub from q)

  pub place_sound : (sub : List ℕ) (to : LocId) → c.task ≡ task.Place sub to → Sound (floor_fired (firing 16 m 5) f)
  place_sound sub to q = written_sound sub Arm to (place_written sub to q)

  -- ---- row 6

  -- a substrate that is aligned is of what it was of
  aligned_leaves : Leaves aligned
  aligned_leaves = record { number = λ s. refl; sub = λ s. refl; carrier = λ s. refl; slot = λ s. refl; job = λ s. refl }

  -- Done of Align
  pub align_sound : (sub : List ℕ) → c.task ≡ task.Align sub → Sound (floor_fired (firing 16 m 6) f)
  align_sound sub q =
      let t : task_of c.task f.places ≡ align (numbered sub f.places) = ap (λ (u : ToolTask). task_of u f.places) q in
      let s = sound.valid.commands.aligns m (numbered sub f.places) (command_of c f.places) is_busy t in
      let at = named_place f.places sound.base.places sub aligner s.stands in
      let kept = named_kept f sound.base sub at.0 at.1 in
      let valid : Valid (aligned_by_numbers at.0.number m (picture f)) = subst (λ (n : ℕ). Valid (aligned_by_numbers n m (picture f))) (number_there f.places sub at.0 at.1) (done_align-keeps (picture f) m (numbered sub f.places) (command_of c f.places) is_busy t sound.valid) in
      subst (λ (o : Option ToolModule). Sound (with_module m (module_behind 6) (aligned_by (open_task o) f))) (sym here)
      (subst (λ (u : ToolTask). Sound (with_module m (module_behind 6) (aligned_by (Some u) f))) (sym q)
      (subst (λ (o : Option Registered). Sound (with_module m (module_behind 6) (record f { substrates = aligned_numbered (option_map (λ (r : Registered). r.number) o) f.substrates }))) (sym at.1) (record {
        base = module_base m (module_behind 6) (record f { substrates = change_numbered at.0.number aligned f.substrates }) (changed_base at.0.number aligned aligned_leaves f sound.base);
        ports = sound.ports;
        unloading = sound.unloading;
        valid = agree-keeps _ _ (aligning_agrees m (module_behind 6) (Busy c fetched) idle f at.0.number kept.0 kept.1 here refl) valid;
      })))
