-- The counts of a history that goes on.
use Rattle.std.proofs.Common.{◌≡◌, ℕ, ◌+◌, List, [], ◌∷◌, ◌++◌, Some, sym, ◌∙◌, ap, subst, arith}
use Rattle.tool_events.specs.declared.entry.Entry.{Entry}
use Rattle.tool_events.specs.declared.config.Config.{Config}
use Rattle.gem_model.specs.State.{State, opening}
use Rattle.gem_model.specs.Step.{Outcome}
use Rattle.gem_model.specs.Sizes.{counted}
use Rattle.gem_model.specs.Run.{Run, entry_step, entry_after, after_all}
use Rattle.gem_model.proofs.Runs.{after-step, Run-snoc, after_all-run}
use Rattle.history_parts.specs.declared.totals.Totals.{Totals}
use Rattle.history_parts.specs.Totals.{told_at, totals_at, totals_of}
use Rattle.history_parts.specs.Additions.{done_by, done_in, completed_by, completed_in, summed}

-- an entry more adds what it does in the state before it
pub summed-snoc : (count : State → Entry → ℕ) (g : State) (entries : List Entry) (h : State) (entry : Entry) → Run g entries h → summed count g (entries ++ entry ∷ []) ≡ summed count g entries + count h entry
summed-snoc count g [] h entry run = ap (λ (k : State). count k entry + 0) (sym run) ∙ (omega arith)
summed-snoc count g (e ∷ entries) h entry run =
    let there = after-step g e.at.0 e.event run.0 run.1 in
    let rest : summed count (entry_after g e) (entries ++ entry ∷ []) ≡ summed count (entry_after g e) entries + count h entry =
    subst (λ (k : State). summed count k (entries ++ entry ∷ []) ≡ summed count k entries + count h entry) (sym there) (summed-snoc count run.0.after entries h entry run.2) in
    omega (arith, rest)

-- counts that stand still at the same number are told alike
told_same : (g h : State) (d e x y : ℕ) → g ≡ h → counted d ≡ counted e → counted x ≡ counted y → totals_at g d x ≡ totals_at h e y
told_same g h d e x y same dones completions =
    ap (λ (k : State). told_at k (counted d) (counted x)) same ∙ ap (λ n. told_at h n (counted x)) dones ∙ ap (told_at h (counted e)) completions

more_counted : (total before all more : ℕ) → before ≡ counted total → all ≡ total + more → counted (before + more) ≡ counted all
more_counted total before all more is behind = omega (arith, is, behind)

both_counted : (total before all more counts : ℕ) → before ≡ counted total → more ≡ counted counts → all ≡ total + counts → counted (before + more) ≡ counted all
both_counted total before all more counts is adds behind = omega (arith, is, adds, behind)

-- the counts behind an entry are those before it with what its step adds
pub totals-snoc : (c : Config) (history : List Entry) (g : State) (entry : Entry) (o : Outcome) (before : Totals) (done completed : ℕ) → Run (opening c) history g → entry_step g entry ≡ Some o → before ≡ totals_of c history → done ≡ done_by g entry.event → completed ≡ counted (completed_by g entry.at.0 entry.event) → totals_at o.after (before.done + done) (before.completed + completed) ≡ totals_of c (history ++ entry ∷ [])
totals-snoc c history g entry o before done completed run here is adds_done adds_completed =
    let behind = after_all-run (opening c) (history ++ entry ∷ []) o.after (Run-snoc (opening c) history g entry o run here) in
    let dones = summed-snoc (λ (h : State) (e : Entry). done_by h e.event) (opening c) history g entry run in
    let completions = summed-snoc (λ (h : State) (e : Entry). completed_by h e.at.0 e.event) (opening c) history g entry run in
    told_same o.after (after_all (opening c) (history ++ entry ∷ [])) (before.done + done) (done_in (opening c) (history ++ entry ∷ []))
    (before.completed + completed) (completed_in (opening c) (history ++ entry ∷ [])) (sym behind)
    (more_counted (done_in (opening c) history) before.done (done_in (opening c) (history ++ entry ∷ [])) done (ap (λ (t : Totals). t.done) is) (dones ∙ ap (λ n. done_in (opening c) history + n) (sym adds_done)))
    (both_counted (completed_in (opening c) history) before.completed (completed_in (opening c) (history ++ entry ∷ [])) completed (completed_by g entry.at.0 entry.event) (ap (λ (t : Totals). t.completed) is) adds_completed completions)
