-- The substrates that open commands name, by their names and by their numbers.
use Rattle.std.proofs.Common.{◌≡◌, ℕ, ◌==◌, true, List, Option, Some, None, option_map, refl, sym, ◌∙◌, ap, arith}
use Rattle.std.specs.List.{list_any}
use Rattle.std.proofs.lemmas.Bool.{true≢false}
use Rattle.std.proofs.lemmas.Bool.Decides.{Decides-eqb}
use Rattle.std.proofs.lemmas.Slice.Eq.{bytes_eq-Decides}
use Rattle.tool_tasks.specs.declared.task.Task.TheVariants as task
use Rattle.robot_moves.specs.declared.module.Module.{Module as ToolModule}
use Rattle.robot_moves.specs.declared.module.Module.TheVariants.{Idle, Busy, Down}
use Rattle.robot_moves.specs.Modules.{module_at}
use Rattle.shop_floor.proofs.Apart.{found_passes}
use Rattle.substrate.specs.Places.{substrate_named}
use Rattle.substrate.specs.declared.registered.Registered.{Registered}
use Rattle.floor_model.specs.declared.tracked.Substrate.{Substrate}
use Rattle.floor_model.specs.Floor.{ToolFloor, substrate_numbered}
use Rattle.floor_model.specs.Naming.{named_by, module_names}
use Rattle.floor_moves.specs.Floor.{Command, busy, named}
use Rattle.floor_moves.specs.Valid.{Members}
use Rattle.place_laws.specs.Picture.{picture, numbered, number_or_none, task_of, module_of}
use Rattle.place_laws.specs.Sound.{Base}
use Rattle.place_laws.proofs.Holding.{none_before}
use Rattle.floor_laws.proofs.JobSight.{any_there, found_alike}
use Rattle.floor_laws.proofs.RegNames.{task_names}

module _ (f : ToolFloor) (b : Base f) (n : ℕ) (s : Substrate) (found : substrate_numbered n f.substrates ≡ Some s) where
  -- its name has its number, where it has a place
  number_of_name : (r : Registered) → substrate_named s.sub f.places.held ≡ Some r → numbered s.sub f.places ≡ n
  number_of_name r e =
      ap (λ (o : Option Registered). number_or_none (option_map (λ (r : Registered). r.number) o)) e
      ∙ (Decides-eqb r.number n).0 (found_passes (λ (r : Registered). r.number == n) f.places.held r (found_alike f b n s found ∙ e))

  -- the number of its name is its number where an open command has it
  number_of_command : Members (picture f) → (m : ℕ) (c : Command) → (picture f).equipment m ≡ busy c → named c.task ≡ numbered s.sub f.places → numbered s.sub f.places ≡ n
  number_of_command v m c is its = of (substrate_named s.sub f.places.held) refl where
    of : (o : Option Registered) → substrate_named s.sub f.places.held ≡ o → numbered s.sub f.places ≡ n
    of None q =
        let zero_is : named c.task ≡ 0 = its ∙ ap (λ (o : Option Registered). number_or_none (option_map (λ (r : Registered). r.number) o)) q in
        let known = v.kept (named c.task) (v.named m c is) in
        let none = none_before 0 f.places.given f.substrates (named c.task) b.rising (omega (arith, zero_is)) in
        absurd (true≢false (sym known ∙ none))
    of (Some r) q = number_of_name r q

  -- one that a module names by its name has a place, so an open command names it
  pub named_from : Members (picture f) → list_any (module_names s.sub) f.modules ≡ true → (m : ℕ) × (c : Command) × ((picture f).equipment m ≡ busy c) × (named c.task ≡ n)
  named_from v e = let w = any_there (module_names s.sub) f.modules e in of w.0 w.1 w.2 w.3 where
    of : (m : ℕ) (x : ToolModule) → module_at m f.modules ≡ Some x → module_names s.sub x ≡ true → (m : ℕ) × (c : Command) × ((picture f).equipment m ≡ busy c) × (named c.task ≡ n)
    of m Idle q t = absurd (true≢false (sym t))
    of m (Busy command fetched) q t =
        let c : Command = record { number = command.number.0; task = task_of command.task f.places } in
        let is : (picture f).equipment m ≡ busy c = ap (λ (o : Option ToolModule). module_of o f.places) q in
        let its : named c.task ≡ numbered s.sub f.places = task_names command.task f.places ∙ ap (λ (sub : List ℕ). numbered sub f.places) ((bytes_eq-Decides (named_by command.task) s.sub).0 t) in
        (m, c, is, its ∙ number_of_command v m c is its)
    of m Down q t = absurd (true≢false (sym t))
