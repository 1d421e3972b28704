-- A control job executes on behind the rows of tables 12 and 13 that fire by themselves.
use Rattle.std.proofs.Common.{◌≡◌, ℕ, ◌==◌, Bool, true, false, not, ◌&&◌, List, map, Option, Some, None, option_map, refl, sym, ◌∙◌, ap, subst, ◌⊎◌, inl, inr}
use Rattle.std.proofs.lemmas.Bool.{true≢false}
use Rattle.std.proofs.lemmas.Bool.Decides.{Decides-eqb}
use Rattle.gem_tables.specs.Table.{is_one_of, after}
use Rattle.gem_tables.proofs.Rows.{both}
use Rattle.substrate.specs.Tables.{transport_number, transport_table}
use Rattle.substrate.specs.Record.{is_at_source, is_needing}
use Rattle.substrate.specs.declared.record.Transport.{Transport}
use Rattle.substrate.specs.declared.record.Transport.TheVariants as transport
use Rattle.process_job.specs.Jobs.{job_numbered}
use Rattle.process_job.specs.declared.job.ProcessJob.{ProcessJob}
use Rattle.tool_jobs.proofs.Rows.{after_meets}
use Rattle.floor_model.specs.declared.tracked.Substrate.{Substrate}
use Rattle.floor_model.specs.Floor.{ToolFloor, substrate_numbered, number_of, change_numbered}
use Rattle.floor_model.specs.Jobs.{can_join}
use Rattle.floor_model.specs.Substrates.{is_outside}
use Rattle.floor_model.specs.Machines.{substrate_moves, with_moved}
use Rattle.floor_moves.specs.Floor as law
use Rattle.floor_moves.specs.Floor.{is_done}
use Rattle.floor_moves.specs.Agree.{Agree}
use Rattle.place_laws.specs.Picture.{picture}
use Rattle.place_laws.specs.Sound.{Sound}
use Rattle.picture_laws.proofs.Columns.{found_there, found_else}
use Rattle.picture_laws.proofs.Rows.{transport_agrees}
use Rattle.floor_laws.proofs.JobSight.{none_some, some_same, outside_same}
use Rattle.floor_laws.proofs.JobSays.{member_tells}
use Rattle.floor_laws.proofs.JobLists.{none_first}
use Rattle.owed_laws.specs.Owed.{owed_to}
use Rattle.lot_laws.specs.Lot.{is_in_named_slot, first_naming, IsInJob, Waits, Executes}
use Rattle.owed_laws.proofs.Agreeing.{agree-undisturbed, agree-owed}
use Rattle.lot_laws.proofs.Standing.{on_base, joins_tell, undisturbed}
use Rattle.lot_laws.proofs.First.{first_alone}
use Rattle.place_laws.proofs.Holding.{found_among}
use Rattle.robot_moves.specs.declared.module.Module.{Module as ToolModule}
use Rattle.owed_laws.specs.Undisturbed.{SubstratesStand}

-- ---- one that is found behind a change of the substrate of a number

pub found_back : (n : ℕ) (change : Substrate → Substrate) → ((s : Substrate) → (change s).number ≡ s.number) → (k : ℕ) (ss : List Substrate) (y : Substrate) → substrate_numbered k (change_numbered n change ss) ≡ Some y
    → (x : Substrate) × (substrate_numbered k ss ≡ Some x) × (((k ≡ n) × (y ≡ change x)) ⊎ (((k == n) ≡ false) × (y ≡ x)))
found_back n change keeps k ss y e = of (k == n) refl where
  of : (b : Bool) → (k == n) ≡ b → (x : Substrate) × (substrate_numbered k ss ≡ Some x) × (((k ≡ n) × (y ≡ change x)) ⊎ (((k == n) ≡ false) × (y ≡ x)))
  of false q = (y, sym (found_else n change keeps k (λ same. true≢false (sym ((Decides-eqb k n).1 same) ∙ q)) ss) ∙ e, inr (q, refl))
  of true q = at (substrate_numbered k ss) refl where
    same : k ≡ n
    same = (Decides-eqb k n).0 q

    there : substrate_numbered n (change_numbered n change ss) ≡ Some y
    there = subst (λ (i : ℕ). substrate_numbered i (change_numbered n change ss) ≡ Some y) same e

    at : (o : Option Substrate) → substrate_numbered k ss ≡ o → (x : Substrate) × (substrate_numbered k ss ≡ Some x) × (((k ≡ n) × (y ≡ change x)) ⊎ (((k == n) ≡ false) × (y ≡ x)))
    at None g = none_some y (sym (ap (option_map change) (sym (ap (λ (i : ℕ). substrate_numbered i ss) same) ∙ g)) ∙ sym (found_there n change keeps ss) ∙ there)
    at (Some x) g = (x, g, inl (same, sym (some_same (change x) y (sym (ap (option_map change) (sym (ap (λ (i : ℕ). substrate_numbered i ss) same) ∙ g)) ∙ sym (found_there n change keeps ss) ∙ there))))

-- one substrate changes, and maybe the modules
module _ (number : ℕ) (planned : ℕ → List (List ℕ)) (counted : ℕ → Bool) (f : ToolFloor) (e : Executes number planned counted f) (n : ℕ) (change : Substrate → Substrate) (keeps : (s : Substrate) → (change s).number ≡ s.number) (jobs : (s : Substrate) → (change s).job ≡ s.job) (slots : (s : Substrate) → ((change s).carrier ≡ s.carrier) × ((change s).slot ≡ s.slot)) (ms : List ToolModule) where
  abbrev changed : ToolFloor
  changed = record f { substrates = change_numbered n change f.substrates; modules = ms }

  -- it executes on, where who is done stays so, who waits waits on, and what can be taken could be
  pub change-executes : ((k : ℕ) → (picture changed).jobs.is_member k ≡ (picture f).jobs.is_member k)
      → ((k : ℕ) → is_one_of (map number_of f.substrates) k ≡ true → is_done k (picture f) ≡ true → is_done k (picture changed) ≡ true)
      → ((x : Substrate) → substrate_numbered n f.substrates ≡ Some x → (route : List (List ℕ)) (w : Waits number route x f) → can_join w.job f.shop (change x) ≡ true)
      → ((j : ProcessJob) (x : Substrate) → can_join j f.shop (change x) ≡ true → can_join j f.shop x ≡ true)
      → SubstratesStand counted (picture changed) → Executes number planned counted changed
  change-executes members done waits takes stand = record {
    steers = e.steers;
    here = e.here;
    members = λ k is. e.members k (sym (members k) ∙ is);
    stands = λ k y found is. let x = found_back n change keeps k f.substrates y found in by k y x.0 x.1 x.2 (e.stands k x.0 x.1 is);
    all = λ k i y j found q left can. let x = found_back n change keeps k f.substrates y found in e.all k i x.0 j x.1 q left (was k j y x.0 x.2 can);
    substrates = stand;
  } where
    Case : ℕ → Substrate → Substrate → Type 0
    Case k y x = ((k ≡ n) × (y ≡ change x)) ⊎ (((k == n) ≡ false) × (y ≡ x))

    -- the first is as it was
    first : (k : ℕ) (y x : Substrate) → Case k y x → first_naming number f y ≡ first_naming number f x
    first k y x (inl c) = ap (first_naming number f) c.1 ∙ first_alone number f x (change x) (slots x).0 (slots x).1
    first k y x (inr c) = ap (first_naming number f) c.1

    on : (k : ℕ) (y x : Substrate) → Case k y x → (w : Waits number (planned k) x f) → can_join w.job f.shop y ≡ true → Waits number (planned k) y changed
    on k y x c w can = record { at = w.at; job = w.job; kept = w.kept; left = w.left; first = first k y x c ∙ w.first; goes_by = w.goes_by; queued = w.queued; joins = can }

    by : (k : ℕ) (y x : Substrate) → substrate_numbered k f.substrates ≡ Some x → Case k y x → (is_done k (picture f) ≡ true) ⊎ (IsInJob number (planned k) x f ⊎ Waits number (planned k) x f) → (is_done k (picture changed) ≡ true) ⊎ (IsInJob number (planned k) y changed ⊎ Waits number (planned k) y changed)
    by k y x found c (inl is) = inl (done k (found_among number_of k f.substrates x found) is)
    by k y x found (inl c) (inr (inl its)) = inr (inl (its.0, ap (λ (i : ℕ). job_numbered i f.jobs.process.kept) (ap (λ (z : Substrate). z.job) c.1 ∙ jobs x) ∙ its.1, first k y x (inl c) ∙ its.2, its.3))
    by k y x found (inr c) (inr (inl its)) = inr (inl (its.0, ap (λ (z : Substrate). job_numbered z.job f.jobs.process.kept) c.1 ∙ its.1, first k y x (inr c) ∙ its.2, its.3))
    by k y x found (inl c) (inr (inr w)) = inr (inr (on k y x (inl c) w (ap (can_join w.job f.shop) c.1 ∙ waits x (ap (λ (i : ℕ). substrate_numbered i f.substrates) (sym c.0) ∙ found) (planned k) w)))
    by k y x found (inr c) (inr (inr w)) = inr (inr (on k y x (inr c) w (ap (can_join w.job f.shop) c.1 ∙ w.joins)))

    was : (k : ℕ) (j : ProcessJob) (y x : Substrate) → Case k y x → can_join j f.shop y ≡ true → can_join j f.shop x ≡ true
    was k j y x (inl c) can = takes j x (sym (ap (can_join j f.shop) c.1) ∙ can)
    was k j y x (inr c) can = sym (ap (can_join j f.shop) c.1) ∙ can

-- ---- states

-- what isn't AT SOURCE isn't behind a row
source_before : (row : ℕ) (t : Transport) → is_at_source (after transport_number transport_table row t) ≡ true → is_at_source t ≡ true
source_before row transport.AtSource e = refl
source_before row transport.AtWork e = absurd (true≢false (sym (true_not (is_at_source (after transport_number transport_table row transport.AtWork)) (after_meets transport_number (λ (x : Transport). not (is_at_source x)) (λ n. false) row transport.AtWork transport_table refl refl refl) e))) where
  true_not : (b : Bool) → not b ≡ true → b ≡ true → false ≡ true
  true_not true p q = p
  true_not false p q = q
source_before row transport.AtDestination e = absurd (true≢false (sym (true_not (is_at_source (after transport_number transport_table row transport.AtDestination)) (after_meets transport_number (λ (x : Transport). not (is_at_source x)) (λ n. false) row transport.AtDestination transport_table refl refl refl) e))) where
  true_not : (b : Bool) → not b ≡ true → b ≡ true → false ≡ true
  true_not true p q = p
  true_not false p q = q

-- AT SOURCE stays so behind another row than 2
source_stays : (row : ℕ) (t : Transport) → (row == 2) ≡ false → is_at_source t ≡ true → is_at_source (after transport_number transport_table row t) ≡ true
source_stays row transport.AtSource two e = after_meets transport_number is_at_source (λ n. n == 2) row transport.AtSource transport_table two refl refl
source_stays row _ two e = absurd (true≢false (sym e))

module _ (number : ℕ) (planned : ℕ → List (List ℕ)) (counted : ℕ → Bool) (f : ToolFloor) (h : Sound f) (e : Executes number planned counted f) (n row : ℕ) where
  -- what the table of transport changes isn't looked at by numbers
  moved_agrees : Agree (picture f) (picture (with_moved 12 row n f))
  moved_agrees = transport_agrees f n row

  -- the row of the number starts: 2 where the substrate is outside
  module _ (starts : (x : Substrate) → substrate_numbered n f.substrates ≡ Some x → (row == 2) ≡ true → is_outside x f.places ≡ true) where
    -- one that waits isn't outside
    not_outside : (k : ℕ) (x : Substrate) → substrate_numbered k f.substrates ≡ Some x → (route : List (List ℕ)) (w : Waits number route x f) → is_outside x f.places ≡ true → ⊥
    not_outside k x found route w out =
        let is = h.valid.members.outside k (sym (outside_same f h.base k x found) ∙ out) in
        let m = member_tells f.substrates f.jobs k (λ j. true) is in
        let one : x ≡ m.one = some_same x m.one (sym found ∙ m.found) in
        let zero : m.one.job ≡ 0 = (Decides-eqb m.one.job 0).0 (subst (λ (y : Substrate). (y.job == 0) ≡ true) one (joins_tell w.job f x w.joins).free) in
        in_none m.job (subst (λ (i : ℕ). job_numbered i f.jobs.process.kept ≡ Some m.job) zero m.its)
      where
        in_none : (j : ProcessJob) → job_numbered 0 f.jobs.process.kept ≡ Some j → ⊥
        in_none j g = none_some j (sym (none_first f.jobs.process.given f.jobs.process.kept h.base.jobs.numbered) ∙ g)

    waits_on : (x : Substrate) → substrate_numbered n f.substrates ≡ Some x → (route : List (List ℕ)) (w : Waits number route x f) → can_join w.job f.shop (substrate_moves 12 row x) ≡ true
    waits_on x found route w =
        let tells = joins_tell w.job f x w.joins in
        both (is_at_source (after transport_number transport_table row x.states.transport) && is_needing x.states.processing) ((x.job == 0) && is_in_named_slot w.job f.shop x)
        (both (is_at_source (after transport_number transport_table row x.states.transport)) (is_needing x.states.processing) (source_stays row x.states.transport (other (row == 2) refl) tells.source) tells.needs)
        (both (x.job == 0) (is_in_named_slot w.job f.shop x) tells.free tells.named)
      where
        other : (b : Bool) → (row == 2) ≡ b → b ≡ false
        other false q = refl
        other true q = absurd (not_outside n x found route w (starts x found q))

    -- table 12
    pub transport-executes : Executes number planned counted (with_moved 12 row n f) × (owed_to planned counted (picture (with_moved 12 row n f)) ≡ owed_to planned counted (picture f))
    transport-executes = (
      change-executes number planned counted f e n (substrate_moves 12 row) (λ x. refl) (λ x. refl) (λ x. (refl, refl)) f.modules moved_agrees.jobs.is_member
          (λ k kept done. ap (λ (p : ℕ). law.is_finished p && not (law.is_outside ((picture f).place_of k))) (moved_agrees.processing k kept) ∙ done) waits_on takes
          (agree-undisturbed (picture f) (picture (with_moved 12 row n f)) moved_agrees counted h.valid (undisturbed number planned counted f (on_base f h.base) e)).substrates,
      agree-owed (picture f) (picture (with_moved 12 row n f)) moved_agrees planned counted,
    ) where
      takes : (j : ProcessJob) (x : Substrate) → can_join j f.shop (substrate_moves 12 row x) ≡ true → can_join j f.shop x ≡ true
      takes j x can =
          let tells = joins_tell j f (substrate_moves 12 row x) can in
          both (is_at_source x.states.transport && is_needing x.states.processing) ((x.job == 0) && is_in_named_slot j f.shop x)
          (both (is_at_source x.states.transport) (is_needing x.states.processing) (source_before row x.states.transport tells.source) tells.needs)
          (both (x.job == 0) (is_in_named_slot j f.shop x) tells.free tells.named)
