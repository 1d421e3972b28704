-- Behind a row that closes the command of a module none of its number is open.
use Rattle.std.proofs.Common.{◌≡◌, ℕ, ◌==◌, Bool, true, false, List, [], ◌∷◌, Option, Some, None, option_map, refl, sym, ◌∙◌, ap, subst}
use Rattle.std.proofs.lemmas.Bool.Decides.{Decides-eqb}
use Rattle.gem_tables.specs.Table.{firing, is_one_of}
use Rattle.gem_tables.proofs.Rows.{one_of_cases}
use Rattle.tool_tasks.specs.declared.task.Command.{Command}
use Rattle.tool_tasks.specs.declared.task.Task.{Task}
use Rattle.tool_tasks.specs.declared.task.Task.TheVariants as task
use Rattle.robot_moves.specs.declared.module.Module.{Module}
use Rattle.robot_moves.specs.declared.module.Module.TheVariants.{Idle, Busy, Down}
use Rattle.robot_moves.specs.Modules.{module_at, change_module}
use Rattle.floor_model.specs.Floor.{ToolFloor}
use Rattle.floor_model.specs.Machines.{floor_fired}
use Rattle.floor_model.specs.Modules.{module_behind, open_task, aligned_by, stepped_by}
use Rattle.floor_moves.specs.Floor.{Command as ByNumber, busy}
use Rattle.place_laws.specs.Picture.{task_of, module_of, picture}
use Rattle.place_laws.specs.Sound.{Sound}
use Rattle.picture_laws.proofs.Issuing.{changed_there, changed_else}
use Rattle.floor_laws.proofs.OpenCommands.{IsShut}

-- the rows that close a command: Done, Failed and Down
abbrev pub closing : List ℕ
closing = 5 ∷ 6 ∷ 7 ∷ 8 ∷ 9 ∷ []

-- a module has no command
abbrev pub HasNone : Module → Type 0
HasNone x = (c : Command) (b : Bool) → x ≡ Busy c b → ⊥

idle_has_none : HasNone Idle
idle_has_none c b e = cc

down_has_none : HasNone Down
down_has_none c b e = cc

aligned_modules : (t : Option Task) (f : ToolFloor) → (aligned_by t f).modules ≡ f.modules
aligned_modules None f = refl
aligned_modules (Some (task.Pick sub from)) f = refl
aligned_modules (Some (task.Place sub to)) f = refl
aligned_modules (Some (task.Align sub)) f = refl
aligned_modules (Some (task.Process sub recipe)) f = refl

stepped_modules : (t : Option Task) (f : ToolFloor) → (stepped_by t f).modules ≡ f.modules
stepped_modules None f = refl
stepped_modules (Some (task.Pick sub from)) f = refl
stepped_modules (Some (task.Place sub to)) f = refl
stepped_modules (Some (task.Align sub)) f = refl
stepped_modules (Some (task.Process sub recipe)) f = refl

-- the modules behind such a row: that of the row has no command, where it had one, and each other is as before
record Closes (m row : ℕ) (f : ToolFloor) : Type 0 where
  modules : (floor_fired (firing 16 m row) f).modules ≡ change_module m (module_behind row) f.modules
  none : (c : Command) (b : Bool) → HasNone (module_behind row (Busy c b))

closes : (m row : ℕ) (f : ToolFloor) → is_one_of closing row ≡ true → Closes m row f
closes m row f is =
    one_of_cases (λ (r : ℕ). Closes m r f) closing row (
      record { modules = refl; none = λ c b. idle_has_none },
      (
        record { modules = ap (change_module m (module_behind 6)) (aligned_modules (open_task (module_at m f.modules)) f); none = λ c b. idle_has_none },
        (
          record { modules = ap (change_module m (module_behind 7)) (stepped_modules (open_task (module_at m f.modules)) f); none = λ c b. idle_has_none },
          (record { modules = refl; none = λ c b. down_has_none }, (record { modules = refl; none = λ c b. down_has_none }, tt)),
        ),
      ),
    ) is

module _ (m row : ℕ) (c : Command) (b : Bool) (f : ToolFloor) (is : is_one_of closing row ≡ true) (here : module_at m f.modules ≡ Some (Busy c b)) where
  -- its module has no command
  pub closed_none : (d : Command) (t : Bool) → module_at m (floor_fired (firing 16 m row) f).modules ≡ Some (Busy d t) → ⊥
  closed_none d t open_there =
      let w = closes m row f is in
      let behind : Some (module_behind row (Busy c b)) ≡ Some (Busy d t) = sym (ap (module_at m) w.modules ∙ changed_there m (module_behind row) f.modules ∙ ap (option_map (module_behind row)) here) ∙ open_there in
      w.none c b d t (let same : module_behind row (Busy c b) ≡ Busy d t = cc in same)

  -- each other module is as before
  pub closed_else : (k : ℕ) → (k ≡ m → ⊥) → module_at k (floor_fired (firing 16 m row) f).modules ≡ module_at k f.modules
  closed_else k other = ap (module_at k) (closes m row f is).modules ∙ changed_else m k other (module_behind row) f.modules

  -- so none of the number of the command is open
  pub closed_gone : Sound f → IsShut c.number.0 (floor_fired (firing 16 m row) f)
  closed_gone sound k d t open_there same = of (k == m) refl where
    by_numbers : Command → ByNumber
    by_numbers x = record { number = x.number.0; task = task_of x.task f.places }

    of : (u : Bool) → (k == m) ≡ u → ⊥
    of true e = closed_none d t (subst (λ (i : ℕ). module_at i (floor_fired (firing 16 m row) f).modules ≡ Some (Busy d t)) ((Decides-eqb k m).0 e) open_there)
    of false e =
        let other : k ≡ m → ⊥ = λ (i : k ≡ m). (let hit = (Decides-eqb k m).1 i in cc) in
        let there : module_at k f.modules ≡ Some (Busy d t) = sym (closed_else k other) ∙ open_there in
        let first : (picture f).equipment k ≡ busy (by_numbers d) = ap (λ (o : Option Module). module_of o f.places) there in
        let second : (picture f).equipment m ≡ busy (by_numbers c) = ap (λ (o : Option Module). module_of o f.places) here in
        other (sound.valid.commands.numbers k m (by_numbers d) (by_numbers c) first second same)
