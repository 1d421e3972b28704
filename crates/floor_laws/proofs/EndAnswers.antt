-- The rows of table 16 by which commands end, but for Done of a Process, and those by which modules go down and come up keep what holds;
-- behind a Process that ended no open command names its substrate.
use Rattle.std.proofs.Common.{◌≡◌, ℕ, Bool, true, List, [], ◌∷◌, Option, Some, None, option_map, refl, sym, ◌∙◌, ap}
use Rattle.gem_tables.specs.Table.{firing, is_one_of}
use Rattle.gem_tables.proofs.Rows.{one_of_cases}
use Rattle.tool_tasks.specs.declared.task.Command.{Command as ToolCommand}
use Rattle.tool_tasks.specs.declared.task.Task.{Task as ToolTask}
use Rattle.tool_tasks.specs.declared.task.Task.TheVariants as task
use Rattle.robot_moves.specs.declared.module.Module.{Module as ToolModule}
use Rattle.robot_moves.specs.declared.module.Module.TheVariants.{Idle, Busy, Down}
use Rattle.robot_moves.specs.declared.view.Move.{Move}
use Rattle.robot_moves.specs.Modules.{module_at}
use Rattle.substrate.specs.Places.{substrate_named}
use Rattle.substrate.specs.declared.registered.Registered.{Registered}
use Rattle.floor_model.specs.Floor.{ToolFloor, with_module}
use Rattle.floor_model.specs.Machines.{floor_starts, floor_fired}
use Rattle.floor_model.specs.Modules.{is_transfer, is_align, module_behind, move_starts, number_named}
use Rattle.floor_model.specs.Naming.{named_by}
use Rattle.floor_model.specs.Views.{planned}
use Rattle.floor_moves.specs.Floor.{process, Command, Module, busy, down}
use Rattle.floor_moves.specs.Valid.{IsUnnamed}
use Rattle.floor_moves.proofs.Agreeing.{agree-keeps, busy_back}
use Rattle.floor_moves.proofs.Issuing.{turned-keeps}
use Rattle.floor_moves.proofs.Done.{closed-unnamed}
use Rattle.place_laws.specs.Picture.{picture, numbered, task_of, module_of}
use Rattle.place_laws.specs.Sound.{Sound}
use Rattle.picture_laws.proofs.Closing.{closing_agrees}
use Rattle.floor_laws.proofs.EndNames.{number_there}
use Rattle.floor_laws.proofs.EndOpen.{command_of, busy_at, command_placed}
use Rattle.floor_laws.proofs.EndPlaces.{module_base}
use Rattle.floor_laws.proofs.EndMoves.{pick_sound, place_sound, align_sound}
use Rattle.floor_moves.proofs.Moving.{idle_not_busy}

-- ---- what a module had open is closed

pub down_not : (c : Command) → down ≡ busy c → ⊥
down_not c e = cc

-- behind a row that closes it all holds
pub turned_sound : (f : ToolFloor) → Sound f → (m row : ℕ) (x : ToolModule) → module_at m f.modules ≡ Some x → (state : Module) → ((c : Command) → state ≡ busy c → ⊥) → module_of (Some (module_behind row x)) f.places ≡ state → Sound (with_module m (module_behind row) f)
turned_sound f sound m row x here state not_busy is = record {
  base = module_base m (module_behind row) f sound.base;
  ports = sound.ports;
  unloading = sound.unloading;
  valid = agree-keeps _ _ (closing_agrees m (module_behind row) x state f here is) (turned-keeps (picture f) m state not_busy sound.valid);
}

-- and where it was a Process, no open command names its substrate
pub process_unnamed : (f : ToolFloor) → Sound f → (m row : ℕ) (c : ToolCommand) (fetched : Bool) → module_at m f.modules ≡ Some (Busy c fetched) → (state : Module) → ((d : Command) → state ≡ busy d → ⊥)
    → module_of (Some (module_behind row (Busy c fetched))) f.places ≡ state → (sub recipe : List ℕ) → c.task ≡ task.Process sub recipe → (n : ℕ) × (number_named sub f.places ≡ Some n) × IsUnnamed n (picture (with_module m (module_behind row) f))
process_unnamed f sound m row c fetched here state not_busy is sub recipe q =
    let w = command_placed f sound.base sound.valid.commands m c fetched here in
    let named : substrate_named sub f.places.held ≡ Some w.0 = sym (ap (λ (t : ToolTask). substrate_named (named_by t) f.places.held) q) ∙ w.1 in
    let t : task_of c.task f.places ≡ process (numbered sub f.places) = ap (λ (u : ToolTask). task_of u f.places) q in
    let unnamed = closed-unnamed (picture f) m w.0.number (command_of c f.places) state not_busy (busy_at f m c fetched here) (t ∙ ap process (number_there f.places sub w.0 named)) sound.valid in
    let agrees = closing_agrees m (module_behind row) (Busy c fetched) state f here is in
    (w.0.number, ap (λ (o : Option Registered). option_map (λ (r : Registered). r.number) o) named, λ k d e. unnamed k d (busy_back _ _ agrees k (busy d) e))

-- ---- each row that an input fires

-- rows 5, 6 and 8 to 10, where they start
pub module_row_sound : (f : ToolFloor) (m row : ℕ) → floor_starts (firing 16 m row) f ≡ true → is_one_of (5 ∷ 6 ∷ 8 ∷ 9 ∷ 10 ∷ []) row ≡ true → Sound f → Sound (floor_fired (firing 16 m row) f)
module_row_sound f m row starts one sound =
    one_of_cases (λ (r : ℕ). floor_starts (firing 16 m r) f ≡ true → Sound (floor_fired (firing 16 m r) f)) (5 ∷ 6 ∷ 8 ∷ 9 ∷ 10 ∷ []) row (
      (λ s. row_5 (planned m f) (module_at m f.modules) refl s),
      (
        (λ s. row_6 (planned m f) (module_at m f.modules) refl s),
        ((λ s. closes 8 down_8 (module_at m f.modules) refl s), ((λ s. closes 9 down_9 (module_at m f.modules) refl s), ((λ s. closes 10 idle_10 (module_at m f.modules) refl s), tt))),
      ),
    )
    one starts
  where
    -- Done of Pick or Place
    row_5 : (plan : Option Move) (o : Option ToolModule) → module_at m f.modules ≡ o → move_starts 5 plan o ≡ true → Sound (floor_fired (firing 16 m 5) f)
    row_5 plan None at e = absurd (cc)
    row_5 plan (Some Idle) at e = absurd (cc)
    row_5 plan (Some Down) at e = absurd (cc)
    row_5 plan (Some (Busy c fetched)) at e = of c.task refl e where
      of : (t : ToolTask) → c.task ≡ t → is_transfer t ≡ true → Sound (floor_fired (firing 16 m 5) f)
      of (task.Pick sub from) q w = pick_sound f sound m c fetched at sub from q
      of (task.Place sub to) q w = place_sound f sound m c fetched at sub to q
      of (task.Align sub) q w = absurd (cc)
      of (task.Process sub recipe) q w = absurd (cc)

    -- Done of Align
    row_6 : (plan : Option Move) (o : Option ToolModule) → module_at m f.modules ≡ o → move_starts 6 plan o ≡ true → Sound (floor_fired (firing 16 m 6) f)
    row_6 plan None at e = absurd (cc)
    row_6 plan (Some Idle) at e = absurd (cc)
    row_6 plan (Some Down) at e = absurd (cc)
    row_6 plan (Some (Busy c fetched)) at e = aligns c.task refl e where
      aligns : (t : ToolTask) → c.task ≡ t → is_align t ≡ true → Sound (floor_fired (firing 16 m 6) f)
      aligns (task.Pick sub from) q w = absurd (cc)
      aligns (task.Place sub to) q w = absurd (cc)
      aligns (task.Align sub) q w = align_sound f sound m c fetched at sub q
      aligns (task.Process sub recipe) q w = absurd (cc)

    -- rows 8 to 10: what the module had open is closed, and it isn't Busy then
    closes : (row : ℕ) → ((x : ToolModule) → move_starts row (planned m f) (Some x) ≡ true → (d : Command) → module_of (Some (module_behind row x)) f.places ≡ busy d → ⊥) → (o : Option ToolModule) → module_at m f.modules ≡ o → move_starts row (planned m f) o ≡ true
        → Sound (with_module m (module_behind row) f)
    closes row other None at e = absurd (cc)
    closes row other (Some x) at e = turned_sound f sound m row x at (module_of (Some (module_behind row x)) f.places) (other x e) refl

    -- Failed
    down_8 : (x : ToolModule) → move_starts 8 (planned m f) (Some x) ≡ true → (d : Command) → module_of (Some (module_behind 8 x)) f.places ≡ busy d → ⊥
    down_8 (Busy c fetched) e d = down_not d
    down_8 _ e d = absurd (cc)

    -- Down
    down_9 : (x : ToolModule) → move_starts 9 (planned m f) (Some x) ≡ true → (d : Command) → module_of (Some (module_behind 9 x)) f.places ≡ busy d → ⊥
    down_9 Down e d = absurd (cc)
    down_9 _ e d = down_not d

    -- `up`
    idle_10 : (x : ToolModule) → move_starts 10 (planned m f) (Some x) ≡ true → (d : Command) → module_of (Some (module_behind 10 x)) f.places ≡ busy d → ⊥
    idle_10 Down e d = idle_not_busy d
    idle_10 _ e d = absurd (cc)
