-- Done of a command disturbs no control job, unless it ends a Process of a substrate whose process job is ABORTING.
use Rattle.std.proofs.Common.{◌≡◌, ℕ, Bool, true, false, not, ◌||◌, if◌then◌else◌, List, [], ◌∷◌, ◌++◌, Option, Some, None, refl, sym, ◌∙◌, ap, subst}
use Rattle.std.specs.List.{list_any}
use Rattle.std.proofs.lemmas.Bool.{true≢false}
use Rattle.gem_ids.specs.declared.numbers.CmdNo.{CmdNo}
use Rattle.gem_ids.specs.declared.numbers.ModuleId.{ModuleId}
use Rattle.gem_tables.specs.Table.{firing}
use Rattle.gem_tables.specs.declared.firing.Firing.{Firing}
use Rattle.tool_tasks.specs.declared.task.Task.{Task}
use Rattle.tool_tasks.specs.declared.task.Task.TheVariants as task
use Rattle.tool_events.specs.declared.entry.Entry.{Entry}
use Rattle.tool_events.specs.declared.event.Event.{Event}
use Rattle.tool_events.specs.declared.event.Event.TheVariants as event
use Rattle.tool_events.specs.declared.event.Signal.TheVariants as signal
use Rattle.robot_moves.specs.declared.module.Module.{Module}
use Rattle.robot_moves.specs.declared.module.Module.TheVariants.{Idle, Busy, Down}
use Rattle.robot_moves.specs.Modules.{module_at, is_open}
use Rattle.floor_model.specs.Floor.{ToolFloor, substrate_numbered}
use Rattle.floor_model.specs.Modules.{number_named}
use Rattle.floor_model.specs.Views.{goes_on}
use Rattle.floor_model.specs.Signals.{is_of_aborting, done_processing, done_row, at_module, at_done, done_processed, done_at, done_rows}
use Rattle.gem_model.specs.State.{State, raised}
use Rattle.gem_model.specs.Machines.{row_starts}
use Rattle.gem_model.specs.Fire.{advanced}
use Rattle.gem_model.specs.Direct.{Are}
use Rattle.gem_model.specs.Signals.{lacks_module, module_of, answer_alarm}
use Rattle.gem_model.specs.Occurrences.{RowFires, rows_among, on_listed, on_setting, occurrences}
use Rattle.gem_model.proofs.Occurring.{set_written}
use Rattle.gem_model.proofs.Tests.{either_way}
use Rattle.history_laws.specs.Calm.{disturbs, is_calm}

module _ (number : ℕ) (counted : ℕ → Bool) (f : ToolFloor) where
  -- a row doesn't disturb it
  abbrev Spares : Firing → Type 0
  Spares x = disturbs number counted f x ≡ false

  -- one of these rows does
  abbrev any_disturbs : List Firing → Bool
  any_disturbs xs = list_any (disturbs number counted f) xs

  fired_spares : (xs : List Firing) → Are Spares xs → (g : State) → any_disturbs (rows_among (on_listed xs g)) ≡ false
  fired_spares [] are g = refl
  fired_spares (x ∷ xs) are g = of (row_starts g x) (λ h. fired_spares xs are.1 h) where
    of : (b : Bool) → ((h : State) → any_disturbs (rows_among (on_listed xs h)) ≡ false) → any_disturbs (rows_among (if b then RowFires g x ∷ on_listed xs (advanced g x) else on_listed xs g)) ≡ false
    of true later = ap (λ (b : Bool). b || any_disturbs (rows_among (on_listed xs (advanced g x)))) are.0 ∙ later (advanced g x)
    of false later = later g

  module _ (none : (n : ℕ) → counted n ≡ true → is_of_aborting (substrate_numbered n f.substrates) f ≡ false) where
    processed_spares : (n : ℕ) → Spares (firing 13 n (done_processing n f))
    processed_spares n = of (counted n) refl (is_of_aborting (substrate_numbered n f.substrates) f) refl where
      of : (b : Bool) → counted n ≡ b → (a : Bool) → is_of_aborting (substrate_numbered n f.substrates) f ≡ a → Spares (firing 13 n (if a then 4 else 3))
      of b is false at = refl
      of false is true at = is
      of true is true at = absurd (true≢false (sym at ∙ none n is))

    next_spares : (o : Option ℕ) → Are Spares (at_done o f)
    next_spares None = tt
    next_spares (Some n) =
        either_way (Are Spares) (goes_on (substrate_numbered n f.substrates) f) [] (firing 13 n (done_processing n f) ∷ []) tt (processed_spares n, tt)

    task_spares : (m : ℕ) (t : Task) → Are Spares (at_module (done_row t) m ++ done_processed t f)
    task_spares m (task.Pick sub from) = (refl, tt)
    task_spares m (task.Place sub to) = (refl, tt)
    task_spares m (task.Align sub) = (refl, tt)
    task_spares m (task.Process sub recipe) = (refl, next_spares (number_named sub f.places))

    module_spares : (m : ℕ) (o : Option Module) → Are Spares (done_at m o f)
    module_spares m None = tt
    module_spares m (Some Idle) = tt
    module_spares m (Some Down) = tt
    module_spares m (Some (Busy c fetched)) = task_spares m c.task

    -- the rows of Done, where the module has the command open
    done_spares : (lacks opened : Bool) (m : ℕ) (g : State) → any_disturbs (rows_among (if lacks then [] else (if opened then on_listed (done_rows m f) g else on_setting answer_alarm g))) ≡ false
    done_spares true opened m g = refl
    done_spares false true m g = fired_spares (done_rows m f) (module_spares m (module_at m f.modules)) g
    done_spares false false m g = ap (λ (fs : List Firing). any_disturbs fs) (set_written g answer_alarm).rowless

pub done_calm : (number : ℕ) (counted : ℕ → Bool) (g : State) (entry : Entry) (m : ModuleId) (command : CmdNo) → entry.event ≡ event.Signal (signal.Done m command)
    → ((n : ℕ) → counted n ≡ true → is_of_aborting (substrate_numbered n g.floor.substrates) g.floor ≡ false) → is_calm number counted g entry ≡ true
done_calm number counted g entry m command is none = ap not (of g.quitting) where
  h : State
  h = raised g entry.at.0

  acted : any_disturbs number counted g.floor (rows_among (occurrences g.moment h entry.event)) ≡ false
  acted =
      subst (λ (e : Event). any_disturbs number counted g.floor (rows_among (occurrences g.moment h e)) ≡ false) (sym is)
      (done_spares number counted g.floor none (lacks_module m.0 h) (is_open command.0 (module_of m.0 h)) m.0 h)

  of : (b : Bool) → any_disturbs number counted g.floor (if b then [] else rows_among (occurrences g.moment h entry.event)) ≡ false
  of true = refl
  of false = acted
