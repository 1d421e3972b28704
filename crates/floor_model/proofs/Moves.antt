-- What rows of the table of moves do, and which are ready.
use Rattle.std.proofs.Common.{◌≡◌, ℕ, zero, suc, ◌+◌, ◌==◌, ◌<◌, ◌≤◌, Bool, true, false, ◌&&◌, ◌||◌, if◌then◌else◌, List, [], ◌∷◌, length, Option, Some, None, option_map, is_some, slice_get, refl, sym, ap, subst, ◌∙◌, arith}
use Rattle.std.specs.Option.{option_or}
use Rattle.std.specs.List.{AllByRecursion}
use Rattle.std.proofs.lemmas.Bool.{true≢false, and_parts}
use Rattle.std.proofs.lemmas.Bool.Decides.{nat_tests}
use Rattle.gem_tables.specs.Machine.{first_ready}
use Rattle.gem_tables.specs.Table.{firing, is_one_of, is_among, row_of, update_at}
use Rattle.gem_tables.specs.declared.firing.Firing.{Firing}
use Rattle.gem_tables.proofs.Rows.{one_of_cases, ready_row, ready_may_fire, looked_for}
use Rattle.tool_tasks.specs.declared.task.Command.{Command}
use Rattle.robot_moves.specs.Tables.{MoveRow, move_table, state_number}
use Rattle.robot_moves.specs.Tables as want
use Rattle.robot_moves.specs.Modules.{module_at, change_module, is_idle, given, state_of}
use Rattle.robot_moves.specs.Moves.{first_of, module_move, next_move}
use Rattle.robot_moves.specs.declared.module.Module.{Module}
use Rattle.robot_moves.specs.declared.module.Module.TheVariants.{Idle, Busy, Down}
use Rattle.robot_moves.specs.declared.module.ModuleState.TheVariants as state
use Rattle.robot_moves.specs.declared.view.PlaceView.{PlaceView}
use Rattle.robot_moves.specs.declared.view.Move.{Move}
use Rattle.robot_moves.proofs.Giving.{IsOf, move_is}
use Rattle.shop_floor.specs.Left.{weighs}
use Rattle.floor_model.specs.Floor.{ToolFloor, with_module, module_numbers}
use Rattle.floor_model.specs.Views.{views, planned}
use Rattle.floor_model.specs.Modules.{is_by, move_wants, move_starts, move_ready, module_behind, command, issued, move_does, found_move}
use Rattle.floor_model.specs.Machines.{moved_by}
use Rattle.floor_model.specs.Left.{modules_left}
use Rattle.floor_model.proofs.Behind.{none_past}

abbrev pub by_itself_rows : List ℕ
by_itself_rows = 1 ∷ 2 ∷ 3 ∷ 4 ∷ []

-- ---- a change that changes nothing

update_same : (n : ℕ) (c : Module → Module) → ((m : Module) → c m ≡ m) → (ms : List Module) → update_at n c ms ≡ ms
update_same n c same [] = refl
update_same zero c same (m ∷ ms) = ap (λ (x : Module). x ∷ ms) (same m)
update_same (suc n) c same (m ∷ ms) = ap (λ (xs : List Module). m ∷ xs) (update_same n c same ms)

pub change_same : (n : ℕ) (c : Module → Module) → ((m : Module) → c m ≡ m) → (ms : List Module) → change_module n c ms ≡ ms
change_same zero c same ms = refl
change_same (suc n) c same ms = update_same n c same ms

-- rows 1 to 4 leave the state of a module that is Busy, and any other
behind_one : (row : ℕ) → is_one_of by_itself_rows row ≡ true → (m : Module) → module_behind row m ≡ m
behind_one row is m = one_of_cases (λ (r : ℕ). module_behind r m ≡ m) by_itself_rows row (first m, (second m, (third m, (fourth m, tt)))) is where
  first : (x : Module) → module_behind 1 x ≡ x
  first Idle = refl
  first (Busy c f) = refl
  first Down = refl

  second : (x : Module) → module_behind 2 x ≡ x
  second Idle = refl
  second (Busy c f) = refl
  second Down = refl

  third : (x : Module) → module_behind 3 x ≡ x
  third Idle = refl
  third (Busy c f) = refl
  third Down = refl

  fourth : (x : Module) → module_behind 4 x ≡ x
  fourth Idle = refl
  fourth (Busy c f) = refl
  fourth Down = refl

-- rows 1 to 4 give what is to be done
pub gives : (row number : ℕ) (f : ToolFloor) → is_one_of by_itself_rows row ≡ true → moved_by row number f ≡ issued number (planned number f) f
gives row number f is =
    one_of_cases (λ (r : ℕ). is_one_of by_itself_rows r ≡ true → moved_by r number f ≡ issued number (planned number f) f) by_itself_rows row
    ((λ one. same 1 one), ((λ one. same 2 one), ((λ one. same 3 one), ((λ one. same 4 one), tt)))) is is
  where
    same : (r : ℕ) → is_one_of by_itself_rows r ≡ true → with_module number (module_behind r) (issued number (planned number f) f) ≡ issued number (planned number f) f
    same r one = ap (λ (ms : List Module). record (issued number (planned number f) f) { modules = ms }) (change_same number (module_behind r) (behind_one r one) (issued number (planned number f) f).modules)

-- ---- which is ready

-- the row of what an Idle module is to do is ready there
idle_ready : (m : Move) → is_one_of by_itself_rows m.row ≡ true → move_ready (Some m) (Some Idle) ≡ Some m.row
idle_ready m is =
    one_of_cases (λ (r : ℕ). m.row ≡ r → move_ready (Some m) (Some Idle) ≡ Some m.row) by_itself_rows m.row
    ((λ e. rw e refl), ((λ e. rw e refl), ((λ e. rw e refl), ((λ e. rw e refl), tt)))) is refl

pub none_ready_there : (o : Option Module) → move_ready None o ≡ None
none_ready_there None = refl
none_ready_there (Some Idle) = refl
none_ready_there (Some (Busy c f)) = refl
none_ready_there (Some Down) = refl

pub is_idle_module : (o : Option Module) → is_idle o ≡ true → o ≡ Some Idle
is_idle_module None e = absurd (true≢false (sym e))
is_idle_module (Some Idle) e = refl
is_idle_module (Some (Busy c f)) e = absurd (true≢false (sym e))
is_idle_module (Some Down) e = absurd (true≢false (sym e))

module _ (vs : List PlaceView) (ms : List Module) where
  pub ready_there : (number : ℕ) (o : Option Move) → module_move number vs ms ≡ o → move_ready o (module_at number ms) ≡ option_map (λ m. m.row) o
  ready_there number None e = none_ready_there (module_at number ms)
  ready_there number (Some m) e =
      let is = move_is number vs ms m e in
      ap (move_ready (Some m)) (is_idle_module (module_at number ms) is.idle) ∙ idle_ready m is.one

  abbrev pub firing_of : Move → Firing
  firing_of m = firing 16 m.«module».0 m.row

  -- of the modules from one on
  first_from : (number : ℕ) (rest : List Module) → first_ready 16 (λ n. move_ready (module_move n vs ms) (module_at n ms)) (module_numbers number rest) ≡ option_map firing_of (first_of (λ n. module_move n vs ms) number (length rest))
  first_from number [] = refl
  first_from number (x ∷ xs) = of (module_move number vs ms) refl (first_from (number + 1) xs) where
    of : (o : Option Move) → module_move number vs ms ≡ o → first_ready 16 (λ n. move_ready (module_move n vs ms) (module_at n ms)) (module_numbers (number + 1) xs) ≡ option_map firing_of (first_of (λ n. module_move n vs ms) (number + 1) (length xs))
        → option_or (option_map (firing 16 number) (move_ready (module_move number vs ms) (module_at number ms))) (first_ready 16 (λ n. move_ready (module_move n vs ms) (module_at n ms)) (module_numbers (number + 1) xs)) ≡ option_map firing_of (option_or (module_move number vs ms) (first_of (λ n. module_move n vs ms) (number + 1) (length xs)))
    of None e later = rw (e, none_ready_there (module_at number ms)) later
    of (Some m) e later =
        let is = move_is number vs ms m e in
        let own : firing 16 number m.row ≡ firing 16 m.«module».0 m.row = ap (λ (n : ℕ). firing 16 n m.row) (sym is.own) in
        rw (e, ready_there number (Some m) e) (ap (λ (x : Firing). Some x) own)

pub first_move_is : (f : ToolFloor) → first_ready 16 (λ number. move_ready (planned number f) (module_at number f.modules)) (module_numbers 1 f.modules) ≡ option_map (firing_of (views f) f.modules) (next_move (views f) f.modules)
first_move_is f = first_from (views f) f.modules 1 f.modules

-- none where nothing is to be done
pub none_to_move : (f : ToolFloor) → ((number : ℕ) → planned number f ≡ None) → first_ready 16 (λ number. move_ready (planned number f) (module_at number f.modules)) (module_numbers 1 f.modules) ≡ None
none_to_move f none = all_none (module_numbers 1 f.modules) where
  all_none : (numbers : List ℕ) → first_ready 16 (λ number. move_ready (planned number f) (module_at number f.modules)) numbers ≡ None
  all_none [] = refl
  all_none (n ∷ ns) = rw (none n, none_ready_there (module_at n f.modules)) (all_none ns)

-- ---- the measure

module_falls : (change : Module → Module) (place : ℕ) (ms : List Module) → slice_get ms place ≡ Some Idle → weighs 1 (is_idle (Some (change Idle))) ≡ 0 → modules_left (update_at place change ms) + 1 ≤ modules_left ms
module_falls change place [] e busy = absurd (cc)
module_falls change zero (m ∷ ms) e busy =
    let same : m ≡ Idle = cc in
    let here : weighs 1 (is_idle (Some (change m))) ≡ 0 = rw same busy in
    let before : weighs 1 (is_idle (Some m)) ≡ 1 = rw same refl in
    omega (arith, here, before)
module_falls change (suc place) (m ∷ ms) e busy = let later = module_falls change place ms e busy in omega (arith, later)

pub modules_fall : (number : ℕ) (c : Command) (ms : List Module) → module_at number ms ≡ Some Idle → modules_left (change_module number (given c) ms) + 1 ≤ modules_left ms
modules_fall zero c ms e = absurd (cc)
modules_fall (suc place) c ms e = module_falls (given c) place ms e refl

-- ---- numbers of rows

pub few_row : (row : ℕ) → 1 ≤ row → row ≤ 4 → is_one_of by_itself_rows row ≡ true
few_row zero least most = absurd (omega (arith, least))
few_row (suc zero) least most = refl
few_row (suc (suc zero)) least most = refl
few_row (suc (suc (suc zero))) least most = refl
few_row (suc (suc (suc (suc zero)))) least most = refl
few_row (suc (suc (suc (suc (suc row))))) least most = absurd (omega (arith, most))
