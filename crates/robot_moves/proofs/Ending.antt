-- A module by its table, and commands that end.
use Rattle.std.proofs.Common.{◌≡◌, ℕ, zero, suc, ◌==◌, Bool, true, false, true≢false, cond, List, [], ◌∷◌, Some, refl, sym}
use Rattle.gem_tables.specs.Table.{starts, after}
use Rattle.tool_tasks.specs.declared.task.Command.{Command}
use Rattle.robot_moves.specs.Tables.{move_table, state_number}
use Rattle.robot_moves.specs.Modules.{state_of, given, closed, goes_down, comes_up, module_at, change_module, is_idle, is_down, is_up, is_open}
use Rattle.robot_moves.specs.declared.module.Module.{Module}
use Rattle.robot_moves.specs.declared.module.Module.TheVariants.{Idle, Busy, Down}

pub idle_starts : (m : Module) → is_idle (Some m) ≡ starts state_number move_table 1 (state_of m)
idle_starts Idle = refl
idle_starts (Busy command fetched) = refl
idle_starts Down = refl

pub given_after : (c : Command) (m : Module) → state_of (given c m) ≡ after state_number move_table 1 (state_of m)
given_after c Idle = refl
given_after c (Busy command fetched) = refl
given_after c Down = refl

pub done_after : (number : ℕ) (m : Module) → is_open number (Some m) ≡ true → state_of (closed number Idle m) ≡ after state_number move_table 5 (state_of m)
done_after number Idle h = absurd (true≢false (sym h))
done_after number (Busy command fetched) h = rw h refl
done_after number Down h = absurd (true≢false (sym h))

pub failed_after : (number : ℕ) (m : Module) → is_open number (Some m) ≡ true → state_of (closed number Down m) ≡ after state_number move_table 8 (state_of m)
failed_after number Idle h = absurd (true≢false (sym h))
failed_after number (Busy command fetched) h = rw h refl
failed_after number Down h = absurd (true≢false (sym h))

pub up_starts : (m : Module) → is_up (Some m) ≡ starts state_number move_table 9 (state_of m)
up_starts Idle = refl
up_starts (Busy command fetched) = refl
up_starts Down = refl

pub down_after : (m : Module) → state_of (goes_down m) ≡ after state_number move_table 9 (state_of m)
down_after Idle = refl
down_after (Busy command fetched) = refl
down_after Down = refl

pub down_starts : (m : Module) → is_down (Some m) ≡ starts state_number move_table 10 (state_of m)
down_starts Idle = refl
down_starts (Busy command fetched) = refl
down_starts Down = refl

pub up_after : (m : Module) → state_of (comes_up m) ≡ after state_number move_table 10 (state_of m)
up_after Idle = refl
up_after (Busy command fetched) = refl
up_after Down = refl

-- a command isn't open in a module that it is closed in, where the module has no command then
module _ (next : Module) (no_command : (number : ℕ) → is_open number (Some next) ≡ false) where
  closed_there : (number : ℕ) (m : Module) → is_open number (Some (closed number next m)) ≡ false
  closed_there number Idle = refl
  closed_there number Down = refl
  closed_there number (Busy command fetched) = by_test (command.number.0 == number) refl where
    by_test : (b : Bool) → (command.number.0 == number) ≡ b → is_open number (Some (cond b next (Busy command fetched))) ≡ false
    by_test true q = no_command number
    by_test false q = q

  closed_at : (number place : ℕ) (modules : List Module) → is_open number (module_at (suc place) (change_module (suc place) (closed number next) modules)) ≡ false
  closed_at number place [] = refl
  closed_at number zero (m ∷ ms) = closed_there number m
  closed_at number (suc place) (m ∷ ms) = closed_at number place ms

  pub ends_once : (number m : ℕ) (modules : List Module) → is_open number (module_at m (change_module m (closed number next) modules)) ≡ false
  ends_once number zero modules = refl
  ends_once number (suc place) modules = closed_at number place modules
