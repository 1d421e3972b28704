-- Changes of the floor that leave the jobs as they are: a control job that is at work is so behind them, and one that executes does.
use Rattle.std.proofs.Common.{◌≡◌, ℕ, Bool, true, List, refl, sym, subst, ◌⊎◌, inl, inr}
use Rattle.robot_moves.specs.declared.module.Module.{Module as ToolModule}
use Rattle.robot_moves.specs.Modules.{module_at}
use Rattle.tool_jobs.specs.Jobs.{Jobs}
use Rattle.floor_model.specs.declared.tracked.Substrate.{Substrate}
use Rattle.floor_model.specs.Floor.{ToolFloor}
use Rattle.floor_moves.specs.Floor.{Command, busy, is_done}
use Rattle.place_laws.specs.Picture.{picture, module_of}
use Rattle.owed_laws.specs.Owed.{owed_to}
use Rattle.queue_laws.specs.Steers.{Steers}
use Rattle.lot_laws.specs.Lot.{IsInJob, Waits, Executes, AtWork}
use Rattle.lot_laws.proofs.AtWork.{executes_by}

-- it is at work behind the change, the jobs are the same, and as much is owed
abbrev pub WorksOn : ℕ → (ℕ → List (List ℕ)) → (ℕ → Bool) → Jobs → ToolFloor → ToolFloor → Type 0
WorksOn number planned counted before f g = AtWork number planned counted before g × (g.jobs ≡ f.jobs) × (owed_to planned counted (picture g) ≡ owed_to planned counted (picture f))

-- so it executes on
pub works_execute : (number : ℕ) (planned : ℕ → List (List ℕ)) (counted : ℕ → Bool) (f g : ToolFloor) → Executes number planned counted f → WorksOn number planned counted f.jobs f g → Executes number planned counted g × (owed_to planned counted (picture g) ≡ owed_to planned counted (picture f))
works_execute number planned counted f g e on = (executes_by number planned counted g on.0 (subst (λ (w : Jobs). Steers number w) (sym on.1) e.steers), on.2)

-- where only modules change, and what is open was open before
pub modules-work : (number : ℕ) (planned : ℕ → List (List ℕ)) (counted : ℕ → Bool) {before : Jobs} (f : ToolFloor) → AtWork number planned counted before f → (ms : List ToolModule)
    → ((m : ℕ) (c : Command) → module_of (module_at m ms) f.places ≡ busy c → (picture f).equipment m ≡ busy c) → WorksOn number planned counted before f (record f { modules = ms })
modules-work number planned counted f e ms back = (
  record {
    steers = e.steers;
    here = e.here;
    members = e.members;
    stands = λ n x found is. by n x (e.stands n x found is);
    all = e.all;
    substrates = record {
      here = e.substrates.here;
      finished = e.substrates.finished;
      in_slot = e.substrates.in_slot;
      to_chamber = λ m n c d g t. e.substrates.to_chamber m n c d (back m d g) t;
      not_given = e.substrates.not_given;
    };
  },
  refl,
  refl,
) where
  by : (n : ℕ) (x : Substrate) → (is_done n (picture f) ≡ true) ⊎ (IsInJob number (planned n) x f ⊎ Waits number (planned n) x f) → (is_done n (picture f) ≡ true) ⊎ (IsInJob number (planned n) x (record f { modules = ms }) ⊎ Waits number (planned n) x (record f { modules = ms }))
  by n x (inl done) = inl done
  by n x (inr (inl its)) = inr (inl its)
  by n x (inr (inr w)) = inr (inr (record { at = w.at; job = w.job; kept = w.kept; left = w.left; first = w.first; goes_by = w.goes_by; queued = w.queued; joins = w.joins }))
