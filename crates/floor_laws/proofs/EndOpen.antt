-- Open commands by the names of substrates and by their numbers.
use Rattle.std.proofs.Common.{◌≡◌, ℕ, Bool, true, false, List, Option, Some, None, refl, sym, ◌∙◌, ap}
use Rattle.std.specs.List.{list_any}
use Rattle.std.specs.Str.{bytes_eq}
use Rattle.tool_tasks.specs.declared.task.Command.{Command as ToolCommand}
use Rattle.tool_tasks.specs.declared.task.Task.{Task as ToolTask}
use Rattle.tool_tasks.specs.declared.task.Task.TheVariants as task
use Rattle.robot_moves.specs.declared.module.Module.{Module as ToolModule}
use Rattle.robot_moves.specs.declared.module.Module.TheVariants.{Idle, Busy, Down}
use Rattle.robot_moves.specs.Modules.{module_at}
use Rattle.substrate.specs.Places.{PlaceMap, substrate_named}
use Rattle.substrate.specs.declared.registered.Registered.{Registered}
use Rattle.records.proofs.Texts.{same_name, own_name}
use Rattle.floor_model.specs.declared.tracked.Substrate.{Substrate}
use Rattle.floor_model.specs.Floor.{ToolFloor, substrate_numbered}
use Rattle.floor_model.specs.Naming.{named_by, module_names, processes}
use Rattle.floor_moves.specs.Floor.{Loc, aligner, arm, chamber, Task, pick, place, align, process, named, Command, busy}
use Rattle.floor_moves.specs.Valid.{Commands, IsProcessed, IsUnnamed}
use Rattle.place_laws.specs.Picture.{picture, loc_of, place_in, numbered, task_of, module_of}
use Rattle.place_laws.specs.Sound.{Base}
use Rattle.floor_laws.proofs.EndNames.{named_place, number_there, name_is, number_is}
use Rattle.floor_laws.proofs.JobSight.{any_at, any_there}

-- ---- one command

-- a command by numbers
abbrev pub command_of : ToolCommand → PlaceMap → Command
command_of c p = record { number = c.number.0; task = task_of c.task p }

-- what a task names
pub named_of : (t : ToolTask) (p : PlaceMap) → named (task_of t p) ≡ numbered (named_by t) p
named_of (task.Pick sub from) p = refl
named_of (task.Place sub to) p = refl
named_of (task.Align sub) p = refl
named_of (task.Process sub recipe) p = refl

-- a module with an open command is Busy by numbers
pub busy_at : (f : ToolFloor) (m : ℕ) (c : ToolCommand) (fetched : Bool) → module_at m f.modules ≡ Some (Busy c fetched) → (picture f).equipment m ≡ busy (command_of c f.places)
busy_at f m c fetched e = ap (λ (o : Option ToolModule). module_of o f.places) e

-- a module that is Busy by numbers, and what it has open
pub record IsOpen (f : ToolFloor) (m : ℕ) (d : Command) : Type 0 where
  pub its : ToolCommand
  pub fetched : Bool
  pub at : module_at m f.modules ≡ Some (Busy its fetched)
  pub is : command_of its f.places ≡ d

-- it has a command open
pub busy_tells : (f : ToolFloor) (m : ℕ) (d : Command) → (picture f).equipment m ≡ busy d → IsOpen f m d
busy_tells f m d e = of (module_at m f.modules) refl e where
  of : (o : Option ToolModule) → module_at m f.modules ≡ o → module_of o f.places ≡ busy d → IsOpen f m d
  of None q g = absurd (cc)
  of (Some Idle) q g = absurd (cc)
  of (Some (Busy c fetched)) q g = record { its = c; fetched = fetched; at = q; is = (let same : command_of c f.places ≡ d = cc in same) }
  of (Some Down) q g = absurd (cc)

-- ---- whom open commands name

module _ (f : ToolFloor) (b : Base f) (v : Commands (picture f)) where
  -- the substrate that an open command names has a place
  stands : (m : ℕ) (d : Command) → (picture f).equipment m ≡ busy d → (t : Task) → d.task ≡ t → (l : Loc) × (place_in f.places (named t) ≡ Some l)
  stands m d e (pick n l) is = (l, (v.picks m n l d e is).stands)
  stands m d e (place n l) is = (arm, (v.places m n l d e is).stands)
  stands m d e (align n) is = (aligner, (v.aligns m n d e is).stands)
  stands m d e (process n) is = let w = v.processes m n d e is in (chamber w.0, w.2)

  -- its place by name and by number
  pub command_placed : (m : ℕ) (c : ToolCommand) (fetched : Bool) → module_at m f.modules ≡ Some (Busy c fetched) → (r : Registered) × (substrate_named (named_by c.task) f.places.held ≡ Some r) × (place_in f.places r.number ≡ Some (loc_of r.at))
  command_placed m c fetched e =
      let w = stands m (command_of c f.places) (busy_at f m c fetched e) (task_of c.task f.places) refl in
      let at = sym (ap (place_in f.places) (named_of c.task f.places)) ∙ w.1 in
      let r = named_place f.places b.places (named_by c.task) w.0 at in
      (r.0, r.1, sym (ap (place_in f.places) (number_there f.places (named_by c.task) r.0 r.1)) ∙ at ∙ ap (λ (l : Loc). Some l) (sym r.2))

  module _ (n : ℕ) (s : Substrate) (known : substrate_numbered n f.substrates ≡ Some s) where
    -- who is named by number is named by name
    name_told : (m : ℕ) (c : ToolCommand) (fetched : Bool) → module_at m f.modules ≡ Some (Busy c fetched) → numbered (named_by c.task) f.places ≡ n → s.sub ≡ named_by c.task
    name_told m c fetched e same =
        let w = command_placed m c fetched e in
        name_is f b n s (named_by c.task) w.0 known w.1 (sym (number_there f.places (named_by c.task) w.0 w.1) ∙ same)

    -- and the other way
    pub number_told : (m : ℕ) (c : ToolCommand) (fetched : Bool) → module_at m f.modules ≡ Some (Busy c fetched) → named_by c.task ≡ s.sub → numbered (named_by c.task) f.places ≡ n
    number_told m c fetched e same =
        let w = command_placed m c fetched e in
        number_there f.places (named_by c.task) w.0 w.1 ∙ number_is f b n s w.0 known (sym (ap (λ (t : List ℕ). substrate_named t f.places.held) same) ∙ w.1)

    -- an open command by number names it
    pub busy_names : (m : ℕ) (d : Command) → (picture f).equipment m ≡ busy d → named d.task ≡ n → list_any (module_names s.sub) f.modules ≡ true
    busy_names m d e is =
        let o = busy_tells f m d e in
        let number : numbered (named_by o.its.task) f.places ≡ n = sym (named_of o.its.task f.places) ∙ ap (λ (x : Command). named x.task) o.is ∙ is in
        let name = name_told m o.its o.fetched o.at number in
        any_at (module_names s.sub) f.modules m (Busy o.its o.fetched) o.at (ap (λ (t : List ℕ). bytes_eq t s.sub) (sym name) ∙ own_name s.sub)

    -- where none names it by name, none does by number
    pub unnamed : list_any (module_names s.sub) f.modules ≡ false → IsUnnamed n (picture f)
    unnamed none m d e is = let t = busy_names m d e is in cc

    -- an open Process by number processes it
    pub busy_processes : (m : ℕ) (d : Command) → (picture f).equipment m ≡ busy d → d.task ≡ process n → list_any (processes s.sub) f.modules ≡ true
    busy_processes m d e is = of (busy_tells f m d e) where
      process_one : (k : ℕ) → process k ≡ process n → k ≡ n
      process_one k e = cc

      by : (o : ToolCommand) (fetched : Bool) → module_at m f.modules ≡ Some (Busy o fetched) → (t : ToolTask) → o.task ≡ t → task_of t f.places ≡ process n → list_any (processes s.sub) f.modules ≡ true
      by o fetched at (task.Pick sub from) q g = absurd (cc)
      by o fetched at (task.Place sub to) q g = absurd (cc)
      by o fetched at (task.Align sub) q g = absurd (cc)
      by o fetched at (task.Process sub recipe) q g =
          let name : s.sub ≡ sub = name_told m o fetched at (ap (λ (t : ToolTask). numbered (named_by t) f.places) q ∙ process_one (numbered sub f.places) g) ∙ ap named_by q in
          any_at (processes s.sub) f.modules m (Busy o fetched) at (processes_is o fetched sub recipe q (sym name)) where
            processes_is : (c : ToolCommand) (x : Bool) (sub recipe : List ℕ) → c.task ≡ task.Process sub recipe → sub ≡ s.sub → processes s.sub (Busy c x) ≡ true
            processes_is c x sub recipe q same = rw q (ap (λ (t : List ℕ). bytes_eq t s.sub) same ∙ own_name s.sub)

      of : IsOpen f m d → list_any (processes s.sub) f.modules ≡ true
      of o = by o.its o.fetched o.at o.its.task refl (ap (λ (x : Command). x.task) o.is ∙ is)

    -- and the other way
    pub processes_busy : list_any (processes s.sub) f.modules ≡ true → IsProcessed n (picture f)
    processes_busy e = let w = any_there (processes s.sub) f.modules e in of w.0 w.1 w.2 w.3 where
      by : (m : ℕ) (c : ToolCommand) (fetched : Bool) → module_at m f.modules ≡ Some (Busy c fetched) → (t : ToolTask) → c.task ≡ t → processes s.sub (Busy (record c { task = t }) fetched) ≡ true → IsProcessed n (picture f)
      by m c fetched at (task.Pick sub from) q g = absurd (cc)
      by m c fetched at (task.Place sub to) q g = absurd (cc)
      by m c fetched at (task.Align sub) q g = absurd (cc)
      by m c fetched at (task.Process sub recipe) q g =
          let name : named_by c.task ≡ s.sub = ap named_by q ∙ same_name sub s.sub g in
          let number = sym (ap (λ (t : ToolTask). numbered (named_by t) f.places) q) ∙ number_told m c fetched at name in
          (m, command_of c f.places, busy_at f m c fetched at, ap (λ (t : ToolTask). task_of t f.places) q ∙ ap process number)

      of : (m : ℕ) (x : ToolModule) → module_at m f.modules ≡ Some x → processes s.sub x ≡ true → IsProcessed n (picture f)
      of m (Busy c fetched) at g = by m c fetched at c.task refl g
      of m _ at g = absurd (cc)
