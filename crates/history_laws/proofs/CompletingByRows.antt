-- A run that no row disturbs, from where a control job starts, is calm; so it completes exactly at its last Done.
use Rattle.std.proofs.Common.{◌≡◌, ◌⊎◌, ◌≤◌, ℕ, ◌+◌, Bool, true, if◌then◌else◌, List, [], ◌∷◌, Some, inl, inr}
use Rattle.load_port.specs.Ports.{most_ports}
use Rattle.tool_events.specs.Configs.{are_usable}
use Rattle.tool_events.specs.declared.config.Config.{Config}
use Rattle.work_laws.specs.Equipped.{most_chambers}
use Rattle.tool_events.specs.declared.entry.Entry.{Entry}
use Rattle.lot_laws.specs.Lot.{counted_of, planned_of, total, IsCalmBetween}
use Rattle.gem_model.specs.State.{State, opening}
use Rattle.gem_model.specs.Step.{Outcome}
use Rattle.gem_model.specs.Run.{Run, input_of, entry_after}
use Rattle.gem_model.proofs.Resting.{AtRest, opening-rests}
use Rattle.history_laws.specs.Completes.{IsCalmRun, done_of, EachCompletes}
use Rattle.history_laws.proofs.Past.{IsPast}
use Rattle.history_laws.proofs.Completing.{Prepared, prepared_entry, prepared_first, Owes, Stands, stands_entry, past_completed, started_stands, rest_entry, run-completes}
use Rattle.history_laws.specs.Calm.{IsCalmByRows, EachCompletesByRows}
use Rattle.history_laws.proofs.CalmInputs.{entry_calm}

module _ (number : ℕ) (planned : ℕ → List (List ℕ)) (counted : ℕ → Bool) where
  -- where no row disturbs it, entries are calm
  calm_run : (all d : ℕ) (g : State) (entries : List Entry) → Stands number planned counted all d g → IsCalmByRows number counted g entries → IsCalmRun number counted g entries
  calm_run all d g [] at calm = tt
  calm_run all d g (entry ∷ entries) at (inl completed) = inl completed
  calm_run all d g (entry ∷ entries) at (inr calm) = of at.stands (λ s. calm_run all (d + came) (entry_after g entry) entries s calm.1) where
    came : ℕ
    came = if g.quitting then 0 else done_of g entry.event

    of : ((k : ℕ) × Owes number planned counted k g.floor × (k + d ≡ all)) ⊎ ((all ≤ d) × IsPast number g.floor.jobs.control)
        → (Stands number planned counted all (d + came) (entry_after g entry) → IsCalmRun number counted (entry_after g entry) entries) → IsCalmRun number counted g (entry ∷ entries)
    of (inr past) later = inl (past_completed number planned counted g past.1)
    of (inl owes) later =
        let here : (o : Outcome) → input_of g entry ≡ Some o → IsCalmBetween number counted g.floor o.after.floor = (λ o acted. entry_calm number planned counted g entry o at.prepared.0 owes.1.0 acted calm.0) in
        inr (here, later (stands_entry number planned counted all d owes.0 g entry at.prepared at.rest owes.1 owes.2 here))

completes_each : (g : State) (entries : List Entry) → Prepared g.floor → AtRest g → EachCompletes g entries → EachCompletesByRows g entries
completes_each g [] p rest each = tt
completes_each g (entry ∷ entries) p rest each = (
  λ number f some rest_of starts auto here parts calm.
      each.0 number f some rest_of starts auto here parts
      (calm_run number (planned_of number f.floor) (counted_of number f.floor) (total number f.floor) 0 (entry_after g entry) some (started_stands number g entry f p rest starts auto here) calm),
  completes_each (entry_after g entry) entries (prepared_entry g entry p rest) (rest_entry g entry rest) each.1,
)

pub run-completes_by_rows : (c : Config) (entries : List Entry) (h : State) → c.ports ≤ most_ports → c.chambers ≤ most_chambers → are_usable c.chambers c.recipes ≡ true → Run (opening c) entries h → EachCompletesByRows (opening c) entries
run-completes_by_rows c entries h few chambers usable run = completes_each (opening c) entries (prepared_first c few chambers usable) (opening-rests c) (run-completes c entries h few chambers usable run)
