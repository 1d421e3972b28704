-- The rows that one input fires together, one behind the other, keep what holds: those of Done, of Failed and of Down at a module, and those
-- of `lost`.
use Rattle.std.proofs.Common.{◌≡◌, ℕ, Bool, true, false, ◌++◌, if◌then◌else◌, List, [], ◌∷◌, Option, Some, None, refl, sym, ◌∙◌, ap, subst}
use Rattle.gem_tables.specs.Table.{firing, is_one_of}
use Rattle.gem_tables.specs.declared.firing.Firing.{Firing}
use Rattle.tool_tasks.specs.declared.task.Command.{Command}
use Rattle.tool_tasks.specs.declared.task.Task.{Task}
use Rattle.tool_tasks.specs.declared.task.Task.TheVariants as task
use Rattle.robot_moves.specs.declared.module.Module.{Module}
use Rattle.robot_moves.specs.declared.module.Module.TheVariants.{Idle, Busy, Down}
use Rattle.robot_moves.specs.Modules.{module_at, is_up, is_open}
use Rattle.floor_model.specs.Floor.{ToolFloor, substrate_numbered}
use Rattle.floor_model.specs.Machines.{floor_starts, floor_fired, floor_least}
use Rattle.floor_model.specs.Modules.{is_transfer, is_align, is_process, move_starts, number_named}
use Rattle.floor_model.specs.Signals.{at_module, done_row, at_processed, processed_rows, is_of_aborting, done_processing, at_done, done_processed, done_at, done_rows, closing_at, closing_rows, can_be_lost, lost_at, lost_rows}
use Rattle.floor_model.specs.Views.{planned, goes_on}
use Rattle.floor_moves.specs.Valid.{IsUnnamed}
use Rattle.place_laws.specs.Picture.{picture}
use Rattle.place_laws.specs.Sound.{Sound}
use Rattle.floor_laws.specs.Rows.{one_listed, listed}
use Rattle.floor_laws.proofs.EndAnswers.{down_not, process_unnamed, module_row_sound}
use Rattle.floor_laws.proofs.EndProcess.{done_unnamed, process_sound, finish_sound}
use Rattle.floor_laws.proofs.EndRunning.{running_there}
use Rattle.floor_laws.proofs.EndLost.{lost_sound}

-- ---- rows one behind the other

-- what is so behind the row where it starts, and of the floor where it doesn't, is so behind it
pub listed_either : (P : ToolFloor → Type 0) (x : Firing) (f : ToolFloor) → (floor_starts x f ≡ true → P (floor_fired x f)) → (floor_starts x f ≡ false → P f) → P (one_listed x f)
listed_either P x f on off = of (floor_starts x f) refl where
  of : (b : Bool) → floor_starts x f ≡ b → P (if b then floor_fired x f else f)
  of true e = on e
  of false e = off e

-- a row that starts fires
pub listed_starts : (x : Firing) (f : ToolFloor) → floor_starts x f ≡ true → one_listed x f ≡ floor_fired x f
listed_starts x f starts = ap (λ (b : Bool). if b then floor_fired x f else f) starts

-- ---- the row of the module starts

module _ (m : ℕ) (f : ToolFloor) (c : Command) (fetched : Bool) (here : module_at m f.modules ≡ Some (Busy c fetched)) where
  -- a row starts where it starts at what the module has open
  there : (row : ℕ) → move_starts row (planned m f) (Some (Busy c fetched)) ≡ true → floor_starts (firing 16 m row) f ≡ true
  there row starts = ap (λ (o : Option Module). move_starts row (planned m f) o) here ∙ starts

  -- that of its task does
  pub done_starts : (t : Task) → c.task ≡ t → floor_starts (firing 16 m (done_row t)) f ≡ true
  done_starts (task.Pick sub from) q = there 5 (ap is_transfer q)
  done_starts (task.Place sub to) q = there 5 (ap is_transfer q)
  done_starts (task.Align sub) q = there 6 (ap is_align q)
  done_starts (task.Process sub recipe) q = there 7 (ap is_process q)

  -- so do those of Failed and of Down
  pub failed_starts : floor_starts (firing 16 m 8) f ≡ true
  failed_starts = there 8 refl

  pub down_starts : floor_starts (firing 16 m 9) f ≡ true
  down_starts = there 9 refl

-- the row of a substrate behind a Process that ended
finish_listed : (n row : ℕ) (g : ToolFloor) → is_one_of (3 ∷ 4 ∷ []) row ≡ true → IsUnnamed n (picture g) → Sound g → Sound (one_listed (firing 13 n row) g)
finish_listed n row g one unnamed sound = listed_either Sound (firing 13 n row) g (λ starts. finish_sound g n row one starts unnamed sound) (λ left. sound)

-- it is 3 or 4
pub done_one : (n : ℕ) (f : ToolFloor) → is_one_of (3 ∷ 4 ∷ []) (done_processing n f) ≡ true
done_one n f = of (is_of_aborting (substrate_numbered n f.substrates) f) where
  of : (b : Bool) → is_one_of (3 ∷ 4 ∷ []) (if b then 4 else 3) ≡ true
  of true = refl
  of false = refl

-- ---- Done

module _ (m : ℕ) (f : ToolFloor) (sound : Sound f) (c : Command) (fetched : Bool) (here : module_at m f.modules ≡ Some (Busy c fetched)) where
  -- the row of a task that is none of a Process
  alone : (row : ℕ) → floor_starts (firing 16 m row) f ≡ true → is_one_of (5 ∷ 6 ∷ 8 ∷ 9 ∷ 10 ∷ []) row ≡ true → Sound (listed (firing 16 m row ∷ []) f)
  alone row starts one = subst Sound (sym (listed_starts (firing 16 m row) f starts)) (module_row_sound f m row starts one sound)

  -- a Process ended by one of rows 7 to 9, and the row of its substrate follows
  followed : (row n next : ℕ) → floor_starts (firing 16 m row) f ≡ true → Sound (floor_fired (firing 16 m row) f) → is_one_of (3 ∷ 4 ∷ []) next ≡ true → IsUnnamed n (picture (floor_fired (firing 16 m row) f))
      → Sound (listed (firing 16 m row ∷ firing 13 n next ∷ []) f)
  followed row n next starts kept ends unnamed =
      subst (λ (g : ToolFloor). Sound (one_listed (firing 13 n next) g)) (sym (listed_starts (firing 16 m row) f starts))
      (finish_listed n next (floor_fired (firing 16 m row) f) ends unnamed kept)

  -- behind Done of a Process the row of its substrate follows, where that doesn't go on
  step_done : (n : ℕ) → floor_starts (firing 16 m 7) f ≡ true → Sound (floor_fired (firing 16 m 7) f) → IsUnnamed n (picture (floor_fired (firing 16 m 7) f))
      → (b : Bool) → Sound (listed (firing 16 m 7 ∷ (if b then [] else firing 13 n (done_processing n f) ∷ [])) f)
  step_done n starts kept unnamed true = subst Sound (sym (listed_starts (firing 16 m 7) f starts)) kept
  step_done n starts kept unnamed false = followed 7 n (done_processing n f) starts kept (done_one n f) unnamed

  -- the rows of Done, by the task, where no row is ready before it
  of_task : floor_least f ≡ None → (t : Task) → c.task ≡ t → Sound (listed (at_module (done_row t) m ++ done_processed t f) f)
  of_task rest (task.Pick sub from) q = alone 5 (done_starts m f c fetched here (task.Pick sub from) q) refl
  of_task rest (task.Place sub to) q = alone 5 (done_starts m f c fetched here (task.Place sub to) q) refl
  of_task rest (task.Align sub) q = alone 6 (done_starts m f c fetched here (task.Align sub) q) refl
  of_task rest (task.Process sub recipe) q =
      let w = done_unnamed f m c fetched here sound sub recipe q in
      let runs = running_there f sound rest m c fetched here sub recipe q w.0 w.1 in
      subst (λ (o : Option ℕ). Sound (listed (firing 16 m 7 ∷ at_done o f) f)) (sym w.1)
      (step_done w.0 (done_starts m f c fetched here (task.Process sub recipe) q) (process_sound f m c fetched here sub recipe q w.0 w.1 sound runs) w.2 (goes_on (substrate_numbered w.0 f.substrates) f))

  -- ---- Failed and Down

  -- the rows of a module that goes down, by the task that it had open
  closed_task : (row : ℕ) → floor_starts (firing 16 m row) f ≡ true → is_one_of (5 ∷ 6 ∷ 8 ∷ 9 ∷ 10 ∷ []) row ≡ true
      → ((sub recipe : List ℕ) → c.task ≡ task.Process sub recipe → (n : ℕ) × (number_named sub f.places ≡ Some n) × IsUnnamed n (picture (floor_fired (firing 16 m row) f)))
      → (t : Task) → c.task ≡ t → Sound (listed (at_module row m ++ processed_rows 4 t f) f)
  closed_task row starts one unnamed (task.Pick sub from) q = alone row starts one
  closed_task row starts one unnamed (task.Place sub to) q = alone row starts one
  closed_task row starts one unnamed (task.Align sub) q = alone row starts one
  closed_task row starts one unnamed (task.Process sub recipe) q =
      let w = unnamed sub recipe q in
      subst (λ (o : Option ℕ). Sound (listed (firing 16 m row ∷ at_processed 4 o) f)) (sym w.1) (followed row w.0 4 starts (module_row_sound f m row starts one sound) refl w.2)

  -- those of Failed
  failed_task : Sound (listed (at_module 8 m ++ processed_rows 4 c.task f) f)
  failed_task = closed_task 8 (failed_starts m f c fetched here) refl (process_unnamed f sound m 8 c fetched here _ down_not refl) c.task refl

  -- those of Down
  down_task : Sound (listed (at_module 9 m ++ processed_rows 4 c.task f) f)
  down_task = closed_task 9 (down_starts m f c fetched here) refl (process_unnamed f sound m 9 c fetched here _ down_not refl) c.task refl

-- ---- by what the module is

-- its open command is done
pub done_sound : (number command : ℕ) (f : ToolFloor) → is_open command (module_at number f.modules) ≡ true → floor_least f ≡ None → Sound f → Sound (listed (done_rows number f) f)
done_sound number command f open_there rest sound = of (module_at number f.modules) refl open_there where
  of : (o : Option Module) → module_at number f.modules ≡ o → is_open command o ≡ true → Sound (listed (done_at number o f) f)
  of None here e = absurd (cc)
  of (Some Idle) here e = absurd (cc)
  of (Some Down) here e = absurd (cc)
  of (Some (Busy c fetched)) here e = of_task number f sound c fetched here rest c.task refl

-- its open command failed
pub failed_sound : (number command : ℕ) (f : ToolFloor) → is_open command (module_at number f.modules) ≡ true → Sound f → Sound (listed (closing_rows 8 number f) f)
failed_sound number command f open_there sound = of (module_at number f.modules) refl open_there where
  of : (o : Option Module) → module_at number f.modules ≡ o → is_open command o ≡ true → Sound (listed (closing_at 8 number o f) f)
  of None here e = absurd (cc)
  of (Some Idle) here e = absurd (cc)
  of (Some Down) here e = absurd (cc)
  of (Some (Busy c fetched)) here e = failed_task number f sound c fetched here

-- a module that wasn't Down goes down
pub down_sound : (number : ℕ) (f : ToolFloor) → is_up (module_at number f.modules) ≡ true → Sound f → Sound (listed (closing_rows 9 number f) f)
down_sound number f up sound = of (module_at number f.modules) refl up where
  -- it had nothing open
  idle : module_at number f.modules ≡ Some Idle → Sound (listed (firing 16 number 9 ∷ []) f)
  idle here =
      listed_either Sound (firing 16 number 9) f (λ starts. module_row_sound f number 9 starts refl sound) (λ left. sound)

  of : (o : Option Module) → module_at number f.modules ≡ o → is_up o ≡ true → Sound (listed (closing_at 9 number o f) f)
  of None here e = absurd (cc)
  of (Some Idle) here e = idle here
  of (Some Down) here e = absurd (cc)
  of (Some (Busy c fetched)) here e = down_task number f sound c fetched here

-- ---- `lost`

-- a substrate is lost
pub lost_rows_sound : (sub : List ℕ) (f : ToolFloor) → Sound f → Sound (listed (lost_rows sub f) f)
lost_rows_sound sub f sound = of (number_named sub f.places) refl where
  of : (o : Option ℕ) → lost_rows sub f ≡ lost_at o f → Sound (listed (lost_at o f) f)
  of None e = sound
  of (Some n) e = by (can_be_lost (substrate_numbered n f.substrates) f) e where
    by : (b : Bool) → lost_rows sub f ≡ (if b then firing 13 n 8 ∷ [] else []) → Sound (listed (if b then firing 13 n 8 ∷ [] else []) f)
    by true is = listed_either Sound (firing 13 n 8) f (λ starts. lost_sound f n sub is sound) (λ left. sound)
    by false is = sound
