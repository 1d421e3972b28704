-- A command that is closed, and a module that goes down or comes up, does to the floor by numbers what the laws have.
use Rattle.std.proofs.Common.{◌≡◌, ℕ, ◌+◌, ◌==◌, nat_lt, Bool, true, false, if◌then◌else◌, Option, Some, option_map, refl, sym, ◌∙◌, ap, subst}
use Rattle.std.proofs.lemmas.Bool.Decides.{Decides-eqb}
use Rattle.tool_tasks.specs.Routes.{most_steps}
use Rattle.robot_moves.specs.declared.module.Module.{Module}
use Rattle.robot_moves.specs.Modules.{module_at, change_module}
use Rattle.floor_model.specs.declared.tracked.Substrate.{Substrate}
use Rattle.floor_model.specs.Floor.{ToolFloor, with_module, substrate_numbered, change_numbered}
use Rattle.floor_model.specs.Modules.{aligned, one_more, stepped}
use Rattle.floor_moves.specs.Floor.{Module as ByNumber, set}
use Rattle.floor_moves.specs.Effects.{turned}
use Rattle.floor_moves.specs.Agree.{Agree}
use Rattle.place_laws.specs.Picture.{picture, module_of, of_one}
use Rattle.place_laws.proofs.Routes.{steps_is}
use Rattle.floor_moves.proofs.Agreeing.{alike_same}
use Rattle.picture_laws.proofs.JobViews.{substrates_alike}
use Rattle.picture_laws.proofs.Columns.{numbers_same, says_same, says_new}
use Rattle.picture_laws.proofs.Issuing.{changed_there, changed_else}

module _ (m : ℕ) (change : Module → Module) (x : Module) (state : ByNumber) (f : ToolFloor) where
  -- the modules by their numbers behind the change
  pub modules_behind : module_at m f.modules ≡ Some x → module_of (Some (change x)) f.places ≡ state → (k : ℕ) → module_of (module_at k (change_module m change f.modules)) f.places ≡ (if k == m then state else module_of (module_at k f.modules) f.places)
  modules_behind here is k = by (k == m) refl where
    by : (b : Bool) → (k == m) ≡ b → module_of (module_at k (change_module m change f.modules)) f.places ≡ (if b then state else module_of (module_at k f.modules) f.places)
    by true e =
        let same : m ≡ k = sym ((Decides-eqb k m).0 e) in
        subst (λ (i : ℕ). module_of (module_at i (change_module m change f.modules)) f.places ≡ state) same
        (ap (λ (o : Option Module). module_of o f.places) (changed_there m change f.modules ∙ ap (option_map change) here) ∙ is)
    by false e = ap (λ (o : Option Module). module_of o f.places) (changed_else m k (λ is. let t = (Decides-eqb k m).1 is in cc) change f.modules)

  pub closing_agrees : module_at m f.modules ≡ Some x → module_of (Some (change x)) f.places ≡ state → Agree (turned m state (picture f)) (picture (with_module m change f))
  closing_agrees here is = record {
    substrates = refl;
    next_substrate = refl;
    carrier_of = λ k _. refl;
    port_of = λ k _. refl;
    slot_of = λ k _. refl;
    place_of = λ k. refl;
    processing = λ k _. refl;
    is_aligned = λ k _. refl;
    steps_of = λ k _ _. refl;
    carriers = refl;
    present_at = λ c. refl;
    is_verified = λ c _. refl;
    access = λ c _. refl;
    jobs = alike_same _ _;
    chambers = refl;
    equipment = modules_behind here is;
    next_command = refl;
  }

  -- what is done by an Align is aligned, and its module changes
  pub aligning_agrees : (n : ℕ) (s : Substrate) → substrate_numbered n f.substrates ≡ Some s → module_at m f.modules ≡ Some x → module_of (Some (change x)) f.places ≡ state
      → Agree (record (picture f) { is_aligned = set n true (picture f).is_aligned; equipment = set m state (picture f).equipment })
      (picture (with_module m change (record f { substrates = change_numbered n aligned f.substrates })))
  aligning_agrees n s found here is = record {
    substrates = numbers_same n aligned (λ s. refl) f.substrates;
    next_substrate = refl;
    carrier_of = λ k _. says_same n aligned (λ s. refl) 0 _ (λ s. refl) k f.substrates;
    port_of = λ k _. says_same n aligned (λ s. refl) 0 _ (λ s. refl) k f.substrates;
    slot_of = λ k _. says_same n aligned (λ s. refl) 0 _ (λ s. refl) k f.substrates;
    place_of = λ k. refl;
    processing = λ k _. says_same n aligned (λ s. refl) 0 _ (λ s. refl) k f.substrates;
    is_aligned = λ k _. says_new n aligned (λ s. refl) false _ s k f.substrates found;
    steps_of = λ k _ _. says_same n aligned (λ s. refl) 0 _ (λ s. refl) k f.substrates;
    carriers = refl;
    present_at = λ c. refl;
    is_verified = λ c _. refl;
    access = λ c _. refl;
    jobs = substrates_alike _ f.jobs f.shop.carriers f.substrates _ (λ B else_ says k. says_same n aligned (λ s. refl) else_ (λ s. says s.job) (λ s. refl) k f.substrates);
    chambers = refl;
    equipment = modules_behind here is;
    next_command = refl;
  }

  -- what is done by a Process and goes on has the step done, and its module changes
  pub stepping_agrees : (n : ℕ) (s : Substrate) → substrate_numbered n f.substrates ≡ Some s → nat_lt s.steps most_steps ≡ true → module_at m f.modules ≡ Some x → module_of (Some (change x)) f.places ≡ state
      → Agree (record (picture f) { steps_of = set n ((picture f).steps_of n + 1) (picture f).steps_of; equipment = set m state (picture f).equipment })
      (picture (with_module m change (record f { substrates = change_numbered n stepped f.substrates })))
  stepping_agrees n s found few here is = record {
    substrates = numbers_same n stepped (λ s. refl) f.substrates;
    next_substrate = refl;
    carrier_of = λ k _. says_same n stepped (λ s. refl) 0 _ (λ s. refl) k f.substrates;
    port_of = λ k _. says_same n stepped (λ s. refl) 0 _ (λ s. refl) k f.substrates;
    slot_of = λ k _. says_same n stepped (λ s. refl) 0 _ (λ s. refl) k f.substrates;
    place_of = λ k. refl;
    processing = λ k _. says_same n stepped (λ s. refl) 0 _ (λ s. refl) k f.substrates;
    is_aligned = λ k _. says_same n stepped (λ s. refl) false _ (λ s. refl) k f.substrates;
    steps_of = λ k _ _. says_new n stepped (λ s. refl) 0 _ s k f.substrates found ∙ ap (λ (i : ℕ). if k == n then i else of_one 0 (λ (t : Substrate). t.steps) (substrate_numbered k f.substrates)) one_more_done;
    carriers = refl;
    present_at = λ c. refl;
    is_verified = λ c _. refl;
    access = λ c _. refl;
    jobs = substrates_alike _ f.jobs f.shop.carriers f.substrates _ (λ B else_ says k. says_same n stepped (λ s. refl) else_ (λ s. says s.job) (λ s. refl) k f.substrates);
    chambers = refl;
    equipment = modules_behind here is;
    next_command = refl;
  } where
    one_more_done : one_more s.steps ≡ (picture f).steps_of n + 1
    one_more_done = ap (λ (b : Bool). if b then s.steps + 1 else s.steps) few ∙ ap (λ (i : ℕ). i + 1) (sym (steps_is f n s found))
