-- What an open command names has a place under its name, and is in a job.
use Rattle.std.proofs.Common.{◌≡◌, ℕ, Bool, true, false, List, map, Option, Some, None, option_map, refl, sym, ◌∙◌, ap, subst, arith}
use Rattle.gem_tables.specs.Table.{is_one_of}
use Rattle.tool_tasks.specs.declared.task.Task.{Task as ToolTask}
use Rattle.tool_tasks.specs.declared.task.Task.TheVariants as task
use Rattle.tool_tasks.specs.declared.task.Command.{Command as ToolCommand}
use Rattle.robot_moves.specs.declared.module.Module.{Module as ToolModule}
use Rattle.robot_moves.specs.declared.module.Module.TheVariants.{Idle, Busy, Down}
use Rattle.robot_moves.specs.Modules.{module_at}
use Rattle.substrate.specs.Places.{PlaceMap, substrate_named}
use Rattle.substrate.specs.declared.registered.Registered.{Registered}
use Rattle.floor_model.specs.Floor.{ToolFloor, number_of}
use Rattle.floor_model.specs.Floor.{RiseTo}
use Rattle.floor_moves.specs.Floor.{Task, pick, place, align, process, named, busy}
use Rattle.floor_moves.specs.Valid.{Members}
use Rattle.place_laws.specs.Picture.{picture, loc_of, numbered, number_or_none, task_of, module_of}
use Rattle.place_laws.proofs.Holding.{none_before}
use Rattle.floor_model.specs.Naming.{named_by}

-- its number is what the task names by numbers
pub task_names : (t : ToolTask) (p : PlaceMap) → named (task_of t p) ≡ numbered (named_by t) p
task_names (task.Pick sub from) p = refl
task_names (task.Place sub to) p = refl
task_names (task.Align sub) p = refl
task_names (task.Process sub recipe) p = refl

-- where the name has the same number, the task is the same
pub task_same : (t : ToolTask) (p q : PlaceMap) → numbered (named_by t) q ≡ numbered (named_by t) p → task_of t q ≡ task_of t p
task_same (task.Pick sub from) p q same = ap (λ (n : ℕ). pick n (loc_of from)) same
task_same (task.Place sub to) p q same = ap (λ (n : ℕ). place n (loc_of to)) same
task_same (task.Align sub) p q same = ap align same
task_same (task.Process sub recipe) p q same = ap process same

-- a name has a place, under the number of a substrate in a job
pub record IsNamed (f : ToolFloor) (sub : List ℕ) : Type 0 where
  pub found : Registered
  pub there : substrate_named sub f.places.held ≡ Some found
  pub member : (picture f).jobs.is_member found.number ≡ true

module _ (f : ToolFloor) (rising : RiseTo 0 f.places.given f.substrates) (members : Members (picture f)) where
  -- none in a job has the number 0
  not_none : (n : ℕ) → (picture f).jobs.is_member n ≡ true → n ≡ 0 → ⊥
  not_none n is zero_is =
      let kept : is_one_of (map number_of f.substrates) n ≡ true = members.kept n is in
      let none = none_before 0 f.places.given f.substrates n rising (omega (arith, zero_is)) in
      absurd (let clash : true ≡ false = sym kept ∙ none in cc)

  -- what the open command of a module names has its place
  pub open_named : (m : ℕ) (command : ToolCommand) (fetched : Bool) → module_at m f.modules ≡ Some (Busy command fetched) → IsNamed f (named_by command.task)
  open_named m command fetched here = of (substrate_named (named_by command.task) f.places.held) refl where
    member : (picture f).jobs.is_member (numbered (named_by command.task) f.places) ≡ true
    member = subst (λ (n : ℕ). (picture f).jobs.is_member n ≡ true) (task_names command.task f.places) (members.named m (record { number = command.number.0; task = task_of command.task f.places }) (ap (λ (o : Option ToolModule). module_of o f.places) here))

    of : (o : Option Registered) → substrate_named (named_by command.task) f.places.held ≡ o → IsNamed f (named_by command.task)
    of None e = absurd (not_none (numbered (named_by command.task) f.places) member (ap (λ (o : Option Registered). number_or_none (option_map (λ (r : Registered). r.number) o)) e))
    of (Some r) e = record {
      found = r;
      there = e;
      member = subst (λ (n : ℕ). (picture f).jobs.is_member n ≡ true) (ap (λ (o : Option Registered). number_or_none (option_map (λ (x : Registered). x.number) o)) e) member;
    }

  -- open commands name the same by numbers, where each name of a substrate in a job keeps its number
  pub modules_same : (q : PlaceMap) → ((sub : List ℕ) (r : Registered) → substrate_named sub f.places.held ≡ Some r → (picture f).jobs.is_member r.number ≡ true → substrate_named sub q.held ≡ Some r) → (m : ℕ) → module_of (module_at m f.modules) q ≡ module_of (module_at m f.modules) f.places
  modules_same q keeps m = of (module_at m f.modules) refl where
    of : (o : Option ToolModule) → module_at m f.modules ≡ o → module_of o q ≡ module_of o f.places
    of None here = refl
    of (Some Idle) here = refl
    of (Some Down) here = refl
    of (Some (Busy command fetched)) here =
        let w = open_named m command fetched here in
        let same : substrate_named (named_by command.task) q.held ≡ substrate_named (named_by command.task) f.places.held = keeps (named_by command.task) w.found w.there w.member ∙ sym w.there in
        ap (λ (t : Task). busy (record { number = command.number.0; task = t })) (task_same command.task f.places q (ap (λ (o : Option Registered). number_or_none (option_map (λ (r : Registered). r.number) o)) same))
