-- What a scan of the modules for a due command finds.
use Rattle.std.proofs.Common.{◌≡◌, ℕ, ◌+◌, true, false, List, drop, Option, Some, None, slice_get, refl, sym}
use Rattle.std.specs.List.{list_any}
use Rattle.std.proofs.lemmas.Bool.{true≢false}
use Rattle.records.proofs.Scans.{any_here, any_next, any_past}
use Rattle.robot_moves.specs.Modules.{is_idle}
use Rattle.robot_moves.specs.declared.module.Module.{Module}
use Rattle.robot_moves.specs.declared.module.Module.TheVariants.{Idle, Busy, Down}
use Rattle.floor_model.specs.declared.tracked.Substrate.{Substrate}
use Rattle.floor_model.proofs.Resting.{is_due, no_module_due}
use Rattle.tool_floor.specs.Due.{is_due_at}

-- an Idle module has no open command
pub idle_none : (o : Option Module) (ss : List Substrate) → is_idle o ≡ true → is_due_at o ss ≡ false
idle_none None ss e = absurd (true≢false (sym e))
idle_none (Some Idle) ss e = no_module_due ss Idle (λ c f other. absurd (cc))
idle_none (Some (Busy c f)) ss e = absurd (true≢false (sym e))
idle_none (Some Down) ss e = absurd (true≢false (sym e))

module _ (ms : List Module) (ss : List Substrate) (place : ℕ) where
  pub due_here : is_due_at (slice_get ms place) ss ≡ true → list_any (λ m. list_any (is_due m) ss) (drop place ms) ≡ true
  due_here e = of (slice_get ms place) refl e where
    of : (o : Option Module) → slice_get ms place ≡ o → is_due_at o ss ≡ true → list_any (λ m. list_any (is_due m) ss) (drop place ms) ≡ true
    of None at due = absurd (true≢false (sym due))
    of (Some m) at due = any_here (λ x. list_any (is_due x) ss) ms place m at due

  pub due_next : is_due_at (slice_get ms place) ss ≡ false → list_any (λ m. list_any (is_due m) ss) (drop place ms) ≡ list_any (λ m. list_any (is_due m) ss) (drop (place + 1) ms)
  due_next e = of (slice_get ms place) refl e where
    of : (o : Option Module) → slice_get ms place ≡ o → is_due_at o ss ≡ false → list_any (λ m. list_any (is_due m) ss) (drop place ms) ≡ list_any (λ m. list_any (is_due m) ss) (drop (place + 1) ms)
    of None at due = any_past (λ x. list_any (is_due x) ss) ms place at
    of (Some m) at due = any_next (λ x. list_any (is_due x) ss) ms place m at due
