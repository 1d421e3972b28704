-- A command that is issued does to the floor by numbers what the laws have.
use Rattle.std.proofs.Common.{◌≡◌, ℕ, zero, suc, ◌+◌, ◌==◌, Bool, true, false, if◌then◌else◌, List, [], ◌∷◌, Option, Some, option_map, slice_get, refl, sym, ◌∙◌, ap, subst}
use Rattle.std.proofs.lemmas.Bool.Decides.{Decides-eqb}
use Rattle.gem_tables.specs.Table.{update_at}
use Rattle.robot_moves.specs.declared.module.Module.{Module}
use Rattle.robot_moves.specs.declared.module.Module.TheVariants.{Idle}
use Rattle.robot_moves.specs.declared.view.Move.{Move}
use Rattle.robot_moves.specs.Modules.{module_at, change_module, given}
use Rattle.floor_model.specs.Floor.{ToolFloor}
use Rattle.floor_model.specs.Modules.{command, issued as given_to}
use Rattle.floor_moves.specs.Floor.{busy}
use Rattle.floor_moves.specs.Effects.{issued}
use Rattle.floor_moves.specs.Agree.{Agree}
use Rattle.place_laws.specs.Picture.{picture, module_of, task_of}
use Rattle.floor_moves.proofs.Agreeing.{alike_same}

module _ {A : Type 0} (change : A → A) where
  updated_there : (n : ℕ) (xs : List A) → slice_get (update_at n change xs) n ≡ option_map change (slice_get xs n)
  updated_there n [] = refl
  updated_there zero (x ∷ xs) = refl
  updated_there (suc n) (x ∷ xs) = updated_there n xs

  updated_else : (n k : ℕ) → (k ≡ n → ⊥) → (xs : List A) → slice_get (update_at n change xs) k ≡ slice_get xs k
  updated_else n k other [] = refl
  updated_else zero zero other (x ∷ xs) = absurd (other refl)
  updated_else zero (suc k) other (x ∷ xs) = refl
  updated_else (suc n) zero other (x ∷ xs) = refl
  updated_else (suc n) (suc k) other (x ∷ xs) = updated_else n k (λ e. other (ap suc e)) xs

-- the module of a number behind a change of that of another or of its own
pub changed_there : (m : ℕ) (change : Module → Module) (modules : List Module) → module_at m (change_module m change modules) ≡ option_map change (module_at m modules)
changed_there zero change modules = refl
changed_there (suc n) change modules = updated_there change n modules

pub changed_else : (m k : ℕ) → (k ≡ m → ⊥) → (change : Module → Module) (modules : List Module) → module_at k (change_module m change modules) ≡ module_at k modules
changed_else m zero other change modules = refl
changed_else zero (suc k) other change modules = refl
changed_else (suc m) (suc k) other change modules = updated_else change m k (λ e. other (ap suc e)) modules

module _ (m : ℕ) (move : Move) (f : ToolFloor) where
  pub issuing_agrees : module_at m f.modules ≡ Some Idle → Agree (issued m (task_of move.task f.places) (picture f)) (picture (given_to m (Some move) f))
  issuing_agrees idle = record {
    substrates = refl;
    next_substrate = refl;
    carrier_of = λ k _. refl;
    port_of = λ k _. refl;
    slot_of = λ k _. refl;
    place_of = λ k. refl;
    processing = λ k _. refl;
    is_aligned = λ k _. refl;
    steps_of = λ k _ _. refl;
    carriers = refl;
    present_at = λ c. refl;
    is_verified = λ c _. refl;
    access = λ c _. refl;
    jobs = alike_same _ _;
    chambers = refl;
    equipment = λ k. by k (k == m) refl;
    next_command = refl;
  } where
    by : (k : ℕ) (b : Bool) → (k == m) ≡ b → module_of (module_at k (change_module m (given (command (f.commands + 1) move.task)) f.modules)) f.places ≡ (if b then busy (record { number = f.commands + 1; task = task_of move.task f.places }) else module_of (module_at k f.modules) f.places)
    by k true e =
        let same : m ≡ k = sym ((Decides-eqb k m).0 e) in
        subst (λ (i : ℕ). module_of (module_at i (change_module m (given (command (f.commands + 1) move.task)) f.modules)) f.places ≡ busy (record { number = f.commands + 1; task = task_of move.task f.places })) same
        (ap (λ (o : Option Module). module_of o f.places) (changed_there m (given (command (f.commands + 1) move.task)) f.modules ∙ ap (option_map (given (command (f.commands + 1) move.task))) idle))
    by k false e =
        ap (λ (o : Option Module). module_of o f.places)
        (changed_else m k (λ is. let t = (Decides-eqb k m).1 is in cc) (given (command (f.commands + 1) move.task)) f.modules)
