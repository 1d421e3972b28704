-- Which commands are open: each is open before or is new; and which changes open none.
use Rattle.std.proofs.Common.{◌≡◌, ◌⊎◌, ◌≤◌, ◌<◌, ℕ, ◌==◌, Bool, true, false, Option, Some, None, option_map, inl, inr, refl, sym, ◌∙◌, ap, subst, arith}
use Rattle.std.proofs.lemmas.Bool.Decides.{Decides-eqb}
use Rattle.tool_tasks.specs.declared.task.Command.{Command}
use Rattle.robot_moves.specs.declared.module.Module.{Module}
use Rattle.robot_moves.specs.declared.module.Module.TheVariants.{Idle, Busy, Down}
use Rattle.robot_moves.specs.Modules.{module_at, change_module, taken}
use Rattle.floor_model.specs.Floor.{ToolFloor, fetched}
use Rattle.place_laws.specs.Picture.{module_of}
use Rattle.place_laws.specs.Sound.{Sound}
use Rattle.picture_laws.proofs.Issuing.{changed_there, changed_else}

-- what is open behind was open before, or has a new number
pub record Opens (f g : ToolFloor) : Type 0 where
  pub given : f.commands ≤ g.commands
  pub opened : (m : ℕ) (c : Command) (b : Bool) → module_at m g.modules ≡ Some (Busy c b) → ((b' : Bool) × (module_at m f.modules ≡ Some (Busy c b'))) ⊎ (f.commands < c.number.0)

-- no module has a command of this number open
abbrev pub IsShut : ℕ → ToolFloor → Type 0
IsShut number f = (m : ℕ) (c : Command) (b : Bool) → module_at m f.modules ≡ Some (Busy c b) → c.number.0 ≡ number → ⊥

pub opens_same : (f g : ToolFloor) → g.modules ≡ f.modules → g.commands ≡ f.commands → Opens f g
opens_same f g same number = record {
  given = omega (arith, number);
  opened = λ m c b is. inl (b, sym (ap (module_at m) same) ∙ is);
}

pub opens_then : (f g h : ToolFloor) → Opens f g → Opens g h → Opens f h
opens_then f g h first next = record {
  given = let a = first.given in let b = next.given in omega (arith, a, b);
  opened = λ m c b is. of m c (next.opened m c b is);
} where
  of : (m : ℕ) (c : Command) → ((b' : Bool) × (module_at m g.modules ≡ Some (Busy c b'))) ⊎ (g.commands < c.number.0) → ((b' : Bool) × (module_at m f.modules ≡ Some (Busy c b'))) ⊎ (f.commands < c.number.0)
  of m c (inl before) = first.opened m c before.0 before.1
  of m c (inr new) = inr (let a = first.given in omega (arith, a, new))

-- a number that was given and is open at no module stays so
pub shut_stays : (f g : ToolFloor) (number : ℕ) → Opens f g → number ≤ f.commands → IsShut number f → IsShut number g
shut_stays f g number opens within shut m c b is same = of (opens.opened m c b is) where
  of : ((b' : Bool) × (module_at m f.modules ≡ Some (Busy c b'))) ⊎ (f.commands < c.number.0) → ⊥
  of (inl before) = shut m c before.0 before.1 same
  of (inr new) = omega (arith, new, same, within)

-- ---- a module changes

module _ (f g : ToolFloor) (number : ℕ) (change : Module → Module) (given : f.commands ≤ g.commands) (behind : g.modules ≡ change_module number change f.modules)
    (opens : (x : Module) (c : Command) (b : Bool) → change x ≡ Busy c b → ((b' : Bool) × (x ≡ Busy c b')) ⊎ (f.commands < c.number.0)) where
  -- a change of a module that opens only what is new
  pub change_opens : Opens f g
  change_opens = record { given = given; opened = λ m c b is. by m c b is (m == number) refl } where
    of : (c : Command) (b : Bool) (o : Option Module) → option_map change o ≡ Some (Busy c b) → ((b' : Bool) × (o ≡ Some (Busy c b'))) ⊎ (f.commands < c.number.0)
    of c b None e = absurd (cc)
    of c b (Some x) e = one (opens x c b (let same : change x ≡ Busy c b = cc in same)) where
      one : ((b' : Bool) × (x ≡ Busy c b')) ⊎ (f.commands < c.number.0) → ((b' : Bool) × (Some x ≡ Some (Busy c b'))) ⊎ (f.commands < c.number.0)
      one (inl before) = inl (before.0, ap (λ (y : Module). Some y) before.1)
      one (inr new) = inr new

    by : (m : ℕ) (c : Command) (b : Bool) → module_at m g.modules ≡ Some (Busy c b) → (t : Bool) → (m == number) ≡ t → ((b' : Bool) × (module_at m f.modules ≡ Some (Busy c b'))) ⊎ (f.commands < c.number.0)
    by m c b is true e =
        let same : number ≡ m = sym ((Decides-eqb m number).0 e) in
        of c b (module_at m f.modules)
        (sym (subst (λ (k : ℕ). module_at k (change_module number change f.modules) ≡ option_map change (module_at k f.modules)) same (changed_there number change f.modules)) ∙ sym (ap (module_at m) behind) ∙ is)
    by m c b is false e =
        inl (b, sym (changed_else number m (λ same. let t = (Decides-eqb m number).1 same in cc) change f.modules) ∙ sym (ap (module_at m) behind) ∙ is)

-- an open command is fetched
pub fetched_opens : (number : ℕ) (f : ToolFloor) → Opens f (fetched number f)
fetched_opens number f = change_opens f (fetched number f) number taken (omega arith) refl one where
  one : (x : Module) (c : Command) (b : Bool) → taken x ≡ Busy c b → ((b' : Bool) × (x ≡ Busy c b')) ⊎ (f.commands < c.number.0)
  one Idle c b e = absurd (cc)
  one (Busy d was) c b e = inl (was, ap (λ (k : Command). Busy k was) (let same : d ≡ c = cc in same))
  one Down c b e = absurd (cc)

-- ---- what is open has a number that was given

pub open_given : (m : ℕ) (c : Command) (b : Bool) (f : ToolFloor) → module_at m f.modules ≡ Some (Busy c b) → Sound f → c.number.0 ≤ f.commands
open_given m c b f here sound =
    let less = sound.valid.commands.below m (record { number = c.number.0; task = _ }) (ap (λ (o : Option Module). module_of o f.places) here) in
    omega (arith, less)
