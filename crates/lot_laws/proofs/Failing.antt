-- Where a command fails, a module goes down, or the operator says that a substrate is lost, the control job executes on and as much is
-- owed, or a substrate of its that is counted has ended otherwise.
use Rattle.std.proofs.Common.{◌≡◌, ℕ, ◌==◌, Bool, true, false, if◌then◌else◌, not, ◌++◌, List, [], ◌∷◌, Option, Some, None, option_map, refl, sym, ◌∙◌, ap, subst, ◌⊎◌, inl, inr}
use Rattle.std.specs.List.{list_any}
use Rattle.std.proofs.lemmas.Bool.{true≢false, and_parts, not-true}
use Rattle.std.proofs.lemmas.Bool.Decides.{Decides-eqb}
use Rattle.gem_tables.specs.Table.{firing, is_one_of, is_among, after, row_of}
use Rattle.gem_tables.proofs.Rows.{found_row}
use Rattle.tool_tasks.specs.declared.task.Command.{Command as ToolCommand}
use Rattle.tool_tasks.specs.declared.task.Task.{Task as ToolTask}
use Rattle.tool_tasks.specs.declared.task.Task.TheVariants as task
use Rattle.robot_moves.specs.declared.module.Module.{Module as ToolModule}
use Rattle.robot_moves.specs.declared.module.Module.TheVariants.{Idle, Busy, Down}
use Rattle.robot_moves.specs.declared.module.ModuleState.{ModuleState}
use Rattle.robot_moves.specs.declared.module.ModuleState.TheVariants as state
use Rattle.robot_moves.specs.Tables.{MoveRow, move_table, state_number}
use Rattle.robot_moves.specs.Modules.{module_at, change_module, taken, state_of}
use Rattle.substrate.specs.Tables.{processing_number, processing_table, not_lost}
use Rattle.substrate.specs.Places.{substrate_named, PlaceMap}
use Rattle.substrate.specs.declared.record.Processing.{Processing}
use Rattle.substrate.specs.declared.record.Processing.TheVariants as processing
use Rattle.substrate.specs.declared.registered.Registered.{Registered}
use Rattle.tool_jobs.specs.Jobs.{Jobs}
use Rattle.floor_model.specs.declared.tracked.Substrate.{Substrate}
use Rattle.floor_model.specs.Floor.{ToolFloor, with_module, fetched, substrate_numbered}
use Rattle.floor_model.specs.Modules.{module_behind, in_state, found_move, move_does, number_named}
use Rattle.floor_model.specs.Naming.{module_names}
use Rattle.floor_model.specs.Signals.{at_module, at_processed, processed_rows, closing_at, closing_rows, can_be_lost, lost_at, lost_rows}
use Rattle.floor_model.specs.Substrates.{is_in_slot}
use Rattle.floor_model.specs.Views.{planned as plan_of}
use Rattle.floor_model.specs.Machines.{substrate_starts, substrate_moves, floor_starts, floor_fired, floor_least}
use Rattle.floor_moves.specs.Floor as law
use Rattle.floor_moves.specs.Floor.{Loc, Command, busy, is_outside}
use Rattle.place_laws.specs.Picture.{picture, loc_of, module_of, of_one}
use Rattle.place_laws.specs.Sound.{Sound}
use Rattle.picture_laws.proofs.Columns.{found_there}
use Rattle.picture_laws.proofs.Issuing.{changed_there, changed_else}
use Rattle.floor_laws.specs.Rows.{one_listed, listed}
use Rattle.floor_laws.proofs.EndNames.{place_is, named_kept}
use Rattle.floor_laws.proofs.FloorInputs.{listed_either, listed_starts, failed_starts, down_starts}
use Rattle.floor_laws.proofs.JobSight.{in_slot_from}
use Rattle.lot_laws.specs.Lot.{Executes, AtWork, Disturbed, spoils, WorksOrIsDisturbed}
use Rattle.lot_laws.proofs.AtWork.{at_work_of}
use Rattle.lot_laws.proofs.Works.{WorksOn, modules-work}
use Rattle.floor_laws.proofs.EndRunning.{IsRunning, running_there}
use Rattle.lot_laws.proofs.Equipment.{running_starts}

-- ---- a module turns

-- a module that is Busy behind a row of table 16 was so
turned_back : (row : ℕ) (x : Option ToolModule) (f : ToolFloor) (c : Command) → module_of (option_map (module_behind row) x) f.places ≡ busy c → module_of x f.places ≡ busy c
turned_back row None f c e = e
turned_back row (Some x) f c e = of (after state_number move_table row (state_of x)) e where
  of : (s : ModuleState) → module_of (Some (in_state s x)) f.places ≡ busy c → module_of (Some x) f.places ≡ busy c
  of state.Idle g = absurd (cc)
  of state.Busy g = g
  of state.Down g = absurd (cc)

module _ (m row : ℕ) (f : ToolFloor) where
  -- by numbers
  pub busy_back : (k : ℕ) (c : Command) → module_of (module_at k (change_module m (module_behind row) f.modules)) f.places ≡ busy c → module_of (module_at k f.modules) f.places ≡ busy c
  busy_back k c e = of (k == m) refl where
    of : (b : Bool) → (k == m) ≡ b → module_of (module_at k f.modules) f.places ≡ busy c
    of true q =
        let same : m ≡ k = sym ((Decides-eqb k m).0 q) in
        subst (λ (i : ℕ). module_of (module_at i f.modules) f.places ≡ busy c) same
        (turned_back row (module_at m f.modules) f c
        (sym (ap (λ (o : Option ToolModule). module_of o f.places) (changed_there m (module_behind row) f.modules))
        ∙ subst (λ (i : ℕ). module_of (module_at i (change_module m (module_behind row) f.modules)) f.places ≡ busy c) (sym same) e))
    of false q = sym (ap (λ (o : Option ToolModule). module_of o f.places) (changed_else m k (λ same. true≢false (sym ((Decides-eqb k m).1 same) ∙ q)) (module_behind row) f.modules)) ∙ e

  -- rows 8 to 10 do no more
  pub turns : is_one_of (8 ∷ 9 ∷ 10 ∷ []) row ≡ true → floor_fired (firing 16 m row) f ≡ with_module m (module_behind row) f
  turns one = ap (λ (g : ToolFloor). with_module m (module_behind row) g) (of (row_of move_table row) refl) where
    of : (r : Option MoveRow) → row_of move_table row ≡ r → found_move r m (plan_of m f) f ≡ f
    of None is = refl
    of (Some r) is =
        let here = found_row (λ (x : MoveRow). is_one_of (8 ∷ 9 ∷ 10 ∷ []) x.number ≡ true → move_does x.does m (plan_of m f) f ≡ f) move_table row r
        ((λ k. absurd (true≢false (sym k))), ((λ k. absurd (true≢false (sym k))), ((λ k. absurd (true≢false (sym k))), ((λ k. absurd (true≢false (sym k))), ((λ k. absurd (true≢false (sym k))), ((λ k. absurd (true≢false (sym k))), ((λ k. absurd (true≢false (sym k))), ((λ k. refl), ((λ k. refl), ((λ k. refl), tt)))))))))) is in
        here.0 (ap (is_one_of (8 ∷ 9 ∷ 10 ∷ [])) here.1 ∙ one)

-- behind rows 8 to 10 of table 16, and where a command is fetched, its substrates stand as they do
pub turned-works : (number : ℕ) (planned : ℕ → List (List ℕ)) (counted : ℕ → Bool) {before : Jobs} (f : ToolFloor) → AtWork number planned counted before f → (m row : ℕ) → is_one_of (8 ∷ 9 ∷ 10 ∷ []) row ≡ true → WorksOn number planned counted before f (floor_fired (firing 16 m row) f)
turned-works number planned counted {before = before} f e m row one =
    subst (λ (g : ToolFloor). WorksOn number planned counted before f g) (sym (turns m row f one)) (modules-work number planned counted f e (change_module m (module_behind row) f.modules) (λ k c is. busy_back m row f k c is))

-- a command that is fetched is the same by numbers
taken_same : (o : Option ToolModule) (p : PlaceMap) → module_of (option_map taken o) p ≡ module_of o p
taken_same None p = refl
taken_same (Some Idle) p = refl
taken_same (Some (Busy c b)) p = refl
taken_same (Some Down) p = refl

pub fetched_same : (f : ToolFloor) (m k : ℕ) → module_of (module_at k (change_module m taken f.modules)) f.places ≡ module_of (module_at k f.modules) f.places
fetched_same f m k = of (k == m) refl where
  of : (b : Bool) → (k == m) ≡ b → module_of (module_at k (change_module m taken f.modules)) f.places ≡ module_of (module_at k f.modules) f.places
  of true q =
      subst (λ (i : ℕ). module_of (module_at i (change_module m taken f.modules)) f.places ≡ module_of (module_at i f.modules) f.places) (sym ((Decides-eqb k m).0 q))
      (ap (λ (o : Option ToolModule). module_of o f.places) (changed_there m taken f.modules) ∙ taken_same (module_at m f.modules) f.places)
  of false q = ap (λ (o : Option ToolModule). module_of o f.places) (changed_else m k (λ is. true≢false (sym ((Decides-eqb k m).1 is) ∙ q)) taken f.modules)

pub fetched-works : (number : ℕ) (planned : ℕ → List (List ℕ)) (counted : ℕ → Bool) {before : Jobs} (f : ToolFloor) → AtWork number planned counted before f → (m : ℕ) → WorksOn number planned counted before f (fetched m f)
fetched-works number planned counted f e m = modules-work number planned counted f e (change_module m taken f.modules) (λ k c is. sym (fetched_same f m k) ∙ is)

-- ---- its substrates stand as they do, or one has ended

-- they stand so still, or a counted substrate is ABORTED, STOPPED, LOST or SKIPPED that wasn't so
abbrev pub WorksOnOrEnds : ℕ → (ℕ → List (List ℕ)) → (ℕ → Bool) → Jobs → ToolFloor → ToolFloor → Type 0
WorksOnOrEnds number planned counted before f g = WorksOn number planned counted before f g ⊎ Disturbed number counted f g

module _ (number : ℕ) (planned : ℕ → List (List ℕ)) (counted : ℕ → Bool) (f : ToolFloor) (sound : Sound f) {before : Jobs} (e : AtWork number planned counted before f) where
  -- a row of a module that fires alone
  turned_listed : (m row : ℕ) → is_one_of (8 ∷ 9 ∷ 10 ∷ []) row ≡ true → WorksOnOrEnds number planned counted before f (listed (firing 16 m row ∷ []) f)
  turned_listed m row one = listed_either (λ (g : ToolFloor). WorksOnOrEnds number planned counted before f g) (firing 16 m row) f (λ starts. inl (turned-works number planned counted f e m row one)) (λ left. inl (e, refl, refl))

  -- ---- Failed and Down

  module _ (rest : floor_least f ≡ None) (m row : ℕ) (one : is_one_of (8 ∷ 9 ∷ 10 ∷ []) row ≡ true) where
    substrates_same : (floor_fired (firing 16 m row) f).substrates ≡ f.substrates
    substrates_same = ap (λ (g : ToolFloor). g.substrates) (turns m row f one)

    -- what a Process that was open names is ABORTED
    aborted : (n : ℕ) → IsRunning f n → Disturbed number counted f (floor_fired (firing 13 n 4) (floor_fired (firing 16 m row) f))
    aborted n p =
        spoils n (e.members n p.member) (ap (is_one_of (3 ∷ 4 ∷ 6 ∷ 7 ∷ [])) then_is)
        (ap (λ (k : ℕ). k == (picture f).processing n) then_is ∙ ap (λ (k : ℕ). 3 == k) was)
      where
        was : (picture f).processing n ≡ 1
        was = ap (of_one 0 (λ (s : Substrate). processing_number s.states.processing)) p.known ∙ ap processing_number p.running

        then_is : (picture (floor_fired (firing 13 n 4) (floor_fired (firing 16 m row) f))).processing n ≡ 3
        then_is =
            ap (of_one 0 (λ (s : Substrate). processing_number s.states.processing)) (found_there n (substrate_moves 13 4) (λ s. refl) (floor_fired (firing 16 m row) f).substrates)
            ∙ ap (λ (o : Option Substrate). of_one 0 (λ (s : Substrate). processing_number s.states.processing) (option_map (substrate_moves 13 4) o)) (ap (substrate_numbered n) substrates_same ∙ p.known)
            ∙ ap (λ (x : Processing). processing_number (after processing_number processing_table 4 x)) p.running

    module _ (c : ToolCommand) (fetched : Bool) (here : module_at m f.modules ≡ Some (Busy c fetched)) (starts : floor_starts (firing 16 m row) f ≡ true) where
      processed : (sub recipe : List ℕ) → c.task ≡ task.Process sub recipe → (o : Option ℕ) → number_named sub f.places ≡ o → WorksOnOrEnds number planned counted before f (listed (firing 16 m row ∷ at_processed 4 o) f)
      processed sub recipe q None names = turned_listed m row one
      processed sub recipe q (Some n) names =
          let p = running_there f sound rest m c fetched here sub recipe q n names in
          let then_starts = running_starts (floor_fired (firing 16 m row) f) n 4 p.one (ap (substrate_numbered n) substrates_same ∙ p.known) p.running refl in
          subst (λ (g : ToolFloor). WorksOnOrEnds number planned counted before f (one_listed (firing 13 n 4) g)) (sym (listed_starts (firing 16 m row) f starts))
          (subst (λ (g : ToolFloor). WorksOnOrEnds number planned counted before f g) (sym (listed_starts (firing 13 n 4) (floor_fired (firing 16 m row) f) then_starts)) (inr (aborted n p)))

      by_task : (t : ToolTask) → c.task ≡ t → WorksOnOrEnds number planned counted before f (listed (at_module row m ++ processed_rows 4 t f) f)
      by_task (task.Pick sub from) q = turned_listed m row one
      by_task (task.Place sub to) q = turned_listed m row one
      by_task (task.Align sub) q = turned_listed m row one
      by_task (task.Process sub recipe) q = processed sub recipe q (number_named sub f.places) refl

    -- by what the module is
    closing-work : ((c : ToolCommand) (fetched : Bool) → module_at m f.modules ≡ Some (Busy c fetched) → floor_starts (firing 16 m row) f ≡ true) → WorksOnOrEnds number planned counted before f (listed (closing_rows row m f) f)
    closing-work starts = of (module_at m f.modules) refl where
      of : (o : Option ToolModule) → module_at m f.modules ≡ o → WorksOnOrEnds number planned counted before f (listed (closing_at row m o f) f)
      of None here = turned_listed m row one
      of (Some Idle) here = turned_listed m row one
      of (Some Down) here = turned_listed m row one
      of (Some (Busy c fetched)) here = by_task c fetched here (starts c fetched here) c.task refl

  -- a command fails
  pub failed-works : floor_least f ≡ None → (m : ℕ) → WorksOnOrEnds number planned counted before f (listed (closing_rows 8 m f) f)
  failed-works rest m = closing-work rest m 8 refl (λ c fetched here. failed_starts m f c fetched here)

  -- a module goes down
  pub down-works : floor_least f ≡ None → (m : ℕ) → WorksOnOrEnds number planned counted before f (listed (closing_rows 9 m f) f)
  down-works rest m = closing-work rest m 9 refl (λ c fetched here. down_starts m f c fetched here)

  -- ---- `lost`

  module _ (n : ℕ) (s : Substrate) (known : substrate_numbered n f.substrates ≡ Some s) where
    -- one that has a place, and isn't in its slot, is outside
    outside : (l : Loc) → (picture f).place_of n ≡ Some l → is_in_slot s f.places ≡ false → is_outside ((picture f).place_of n) ≡ true
    outside (law.slot p k) at away = absurd (true≢false (sym (in_slot_from f sound.base n s known (at ∙ ap (λ (l : Loc). Some l) (sound.valid.places.home n p k at))) ∙ away))
    outside law.aligner at away = ap is_outside at
    outside law.arm at away = ap is_outside at
    outside (law.chamber c) at away = ap is_outside at

    lost-ends : floor_starts (firing 13 n 8) f ≡ true → (picture f).jobs.is_member n ≡ true → Disturbed number counted f (floor_fired (firing 13 n 8) f)
    lost-ends starts member =
        spoils n (e.members n member) (ap (is_one_of (3 ∷ 4 ∷ 6 ∷ 7 ∷ [])) then_is)
        (ap (λ (k : ℕ). k == (picture f).processing n) then_is ∙ ap (λ (k : ℕ). 6 == k) was ∙ other s.states.processing among)
      where
        among : is_among processing_number not_lost s.states.processing ≡ true
        among = (and_parts (is_among processing_number not_lost s.states.processing) true (sym (ap (λ (o : Option Substrate). substrate_starts processing_number processing_table (λ x. x.processing) 8 o f) known) ∙ starts)).0

        was : (picture f).processing n ≡ processing_number s.states.processing
        was = ap (of_one 0 (λ (x : Substrate). processing_number x.states.processing)) known

        lost_then : (p : Processing) → is_among processing_number not_lost p ≡ true → processing_number (after processing_number processing_table 8 p) ≡ 6
        lost_then processing.NeedsProcessing a = refl
        lost_then processing.InProcess a = refl
        lost_then processing.Processed a = refl
        lost_then processing.Aborted a = refl
        lost_then processing.Stopped a = refl
        lost_then processing.Rejected a = refl
        lost_then processing.Lost a = refl
        lost_then processing.Skipped a = refl

        other : (p : Processing) → is_among processing_number not_lost p ≡ true → (6 == processing_number p) ≡ false
        other processing.NeedsProcessing a = refl
        other processing.InProcess a = refl
        other processing.Processed a = refl
        other processing.Aborted a = refl
        other processing.Stopped a = refl
        other processing.Rejected a = refl
        other processing.Skipped a = refl
        other processing.Lost a = absurd (true≢false (sym a))

        then_is : (picture (floor_fired (firing 13 n 8) f)).processing n ≡ 6
        then_is =
            ap (of_one 0 (λ (x : Substrate). processing_number x.states.processing)) (found_there n (substrate_moves 13 8) (λ x. refl) f.substrates)
            ∙ ap (λ (o : Option Substrate). of_one 0 (λ (x : Substrate). processing_number x.states.processing) (option_map (substrate_moves 13 8) o)) known
            ∙ lost_then s.states.processing among

  pub lost-works : (sub : List ℕ) → WorksOnOrEnds number planned counted before f (listed (lost_rows sub f) f)
  lost-works sub = of (substrate_named sub f.places.held) refl where
    on : WorksOnOrEnds number planned counted before f f
    on = inl (e, refl, refl)

    member : (r : Registered) → substrate_named sub f.places.held ≡ Some r → (s : Substrate) → substrate_numbered r.number f.substrates ≡ Some s → can_be_lost (Some s) f ≡ true → (picture f).jobs.is_member r.number ≡ true
    member r q s known can =
        sound.valid.members.outside r.number
        (outside r.number s known (loc_of r.at) (place_is f sound.base sub r q) (not-true (is_in_slot s f.places) (and_parts (not (is_in_slot s f.places)) (not (list_any (module_names s.sub) f.modules)) can).0))

    by : (r : Registered) → substrate_named sub f.places.held ≡ Some r → (b : Bool) → can_be_lost (substrate_numbered r.number f.substrates) f ≡ b → WorksOnOrEnds number planned counted before f (listed (if b then firing 13 r.number 8 ∷ [] else []) f)
    by r q false can = on
    by r q true can =
        let kept = named_kept f sound.base sub r q in
        let is_member = member r q kept.0 kept.1 (sym (ap (λ (o : Option Substrate). can_be_lost o f) kept.1) ∙ can) in
        listed_either (λ (g : ToolFloor). WorksOnOrEnds number planned counted before f g) (firing 13 r.number 8) f (λ starts. inr (lost-ends r.number kept.0 kept.1 starts is_member)) (λ left. on)

    of : (o : Option Registered) → substrate_named sub f.places.held ≡ o → WorksOnOrEnds number planned counted before f (listed (lost_at (option_map (λ (r : Registered). r.number) o) f) f)
    of None q = on
    of (Some r) q = by r q (can_be_lost (substrate_numbered r.number f.substrates) f) refl

-- ---- from where it executes

module _ (number : ℕ) (planned : ℕ → List (List ℕ)) (counted : ℕ → Bool) (f : ToolFloor) (sound : Sound f) (e : Executes number planned counted f) where
  -- it is at work still, or is disturbed
  works_or : (g : ToolFloor) → WorksOnOrEnds number planned counted f.jobs f g → WorksOrIsDisturbed number planned counted f g
  works_or g (inl on) = inl (on.0, on.2)
  works_or g (inr is) = inr is

  -- a command fails
  pub failed-either : floor_least f ≡ None → (m : ℕ) → WorksOrIsDisturbed number planned counted f (listed (closing_rows 8 m f) f)
  failed-either rest m = works_or (listed (closing_rows 8 m f) f) (failed-works number planned counted f sound (at_work_of number planned counted f e) rest m)

  -- a module goes down
  pub down-either : floor_least f ≡ None → (m : ℕ) → WorksOrIsDisturbed number planned counted f (listed (closing_rows 9 m f) f)
  down-either rest m = works_or (listed (closing_rows 9 m f) f) (down-works number planned counted f sound (at_work_of number planned counted f e) rest m)

  -- a substrate is lost
  pub lost-either : (sub : List ℕ) → WorksOrIsDisturbed number planned counted f (listed (lost_rows sub f) f)
  lost-either sub = works_or (listed (lost_rows sub f) f) (lost-works number planned counted f sound (at_work_of number planned counted f e) sub)
