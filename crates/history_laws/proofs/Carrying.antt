-- What is carried over an input from the floor on which a control job executes: it is at work and as much is owed, or it is disturbed for
-- good.
use Rattle.std.proofs.Common.{◌≡◌, ℕ, Bool, true, false, ◌||◌, if◌then◌else◌, List, [], ◌∷◌, None, refl, sym, ◌∙◌, ap, subst, arith}
use Rattle.std.proofs.lemmas.Bool.{true≢false}
use Rattle.gem_tables.specs.Table.{firing, is_one_of}
use Rattle.gem_tables.specs.declared.firing.Firing.{Firing}
use Rattle.gem_tables.proofs.Rows.{one_of_cases}
use Rattle.control_job.specs.Jobs.{JobStore}
use Rattle.tool_events.specs.declared.event.Event.{Event}
use Rattle.floor_model.specs.Floor.{ToolFloor, with_jobs}
use Rattle.floor_model.specs.Signals.{closing_rows, lost_rows}
use Rattle.floor_model.specs.Machines.{floor_starts, floor_fired, floor_least}
use Rattle.floor_laws.specs.Rows.{listed}
use Rattle.floor_laws.proofs.FloorPlaces.{shop_rests}
use Rattle.lot_laws.specs.Lot.{is_word, Executes, WorksOrIsDisturbed, InOrder}
use Rattle.lot_laws.proofs.Words.{word-goes, created-goes, added-goes, headed-goes}
use Rattle.lot_laws.proofs.Disturbs.{leaves_jobs}
use Rattle.lot_laws.proofs.Changes.{row-goes, fetched-goes, written-goes, cancelled-goes, unbinding-goes, placing-goes, removal_left-goes, removal-goes}
use Rattle.lot_laws.proofs.Failing.{failed-either, down-either, lost-either}
use Rattle.gem_model.specs.State.{State}
use Rattle.history_laws.specs.Completes.{done_of}
use Rattle.history_laws.proofs.CommonRows.{input_common}
use Rattle.gem_model.proofs.Creating.{BecomesControl, one_added, one_headed}
use Rattle.gem_model.proofs.FloorRows.{IsOfInput, input_line, input_transfer, input_access, input_reservation, input_binding, input_name, input_map, input_process, input_control, input_module}
use Rattle.history_laws.proofs.FloorFacts.{FloorChanges}
use Rattle.history_laws.proofs.Ordering.{order_changes}

-- the event is no Done of an open command, and begins on this floor
pub record Undone (f : ToolFloor) (e : Event) (g : State) : Type 0 where
  pub same : g.floor ≡ f
  pub none : done_of g e ≡ 0

-- a row of tables 1 to 3 starts nowhere on the floor
never_starts : (x : Firing) (f : ToolFloor) → is_one_of (1 ∷ 2 ∷ 3 ∷ []) x.row.table ≡ true → floor_starts x f ≡ false
never_starts x f is = one_of_cases (λ (t : ℕ). floor_starts (firing t x.object x.row.row) f ≡ false) (1 ∷ 2 ∷ 3 ∷ []) x.row.table (refl, (refl, (refl, tt))) is

module _ (number : ℕ) (planned : ℕ → List (List ℕ)) (counted : ℕ → Bool) (f : ToolFloor) where
  abbrev pub Works : ToolFloor → Type 0
  Works h = WorksOrIsDisturbed number planned counted f h

  -- it is in order, and so it is
  abbrev pub Carried : ToolFloor → Type 0
  Carried h = InOrder h × Works h

  -- ---- a row

  leaving : (x y : Firing) (h : ToolFloor) → InOrder h → floor_starts x h ≡ true → IsOfInput x → leaves_jobs number counted f y ≡ true → x ≡ y → Works h → Works (floor_fired x h)
  leaving x y h o starts input leaves same w =
      row-goes number planned counted f h o.sound x starts (input_common x input) (subst (λ (z : Firing). leaves_jobs number counted f z ≡ true) (sym same) leaves) w

  worded : (x y : Firing) (h : ToolFloor) → InOrder h → floor_starts x h ≡ true → is_word y ≡ true → x ≡ y → Works h → Works (floor_fired x h)
  worded x y h o starts word same w = word-goes number planned counted f h o x (subst (λ (z : Firing). is_word z ≡ true) (sym same) word) starts w

  works_row : (x : Firing) (h : ToolFloor) → InOrder h → floor_starts x h ≡ true → IsOfInput x → Works h → Works (floor_fired x h)
  works_row x h o starts (input_line is) w = absurd (true≢false (sym starts ∙ never_starts x h is))
  works_row x h o starts (input_transfer n row is same) w = leaving x (firing 4 n row) h o starts (input_transfer n row is same) refl same w
  works_row x h o starts (input_access n row same) w = leaving x (firing 5 n row) h o starts (input_access n row same) refl same w
  works_row x h o starts (input_reservation n row same) w = leaving x (firing 6 n row) h o starts (input_reservation n row same) refl same w
  works_row x h o starts (input_binding n same) w = leaving x (firing 7 n 1) h o starts (input_binding n same) refl same w
  works_row x h o starts (input_name n row is same) w = leaving x (firing 8 n row) h o starts (input_name n row is same) refl same w
  works_row x h o starts (input_map n row is same) w = leaving x (firing 9 n row) h o starts (input_map n row is same) refl same w
  works_row x h o starts (input_process n row is same) w = worded x (firing 14 n row) h o starts (ap (λ (b : Bool). b || false) is) same w
  works_row x h o starts (input_control n row is same) w = worded x (firing 15 n row) h o starts is same w
  works_row x h o starts (input_module n same) w = leaving x (firing 16 n 10) h o starts (input_module n same) refl same w

  works_control : (s : JobStore) (h : ToolFloor) → InOrder h → BecomesControl h.jobs s → Works h → Works (with_jobs (record h.jobs { control = s }) h)
  works_control _ h o (one_added name named auto none) w = added-goes number planned counted f h o name named auto none w
  works_control _ h o (one_headed name) w = headed-goes number planned counted f h o name w

  -- no row is ready by itself
  abbrev Rests : ToolFloor → Type 0
  Rests h = floor_least h ≡ None

  -- so it is behind rows 5 of table 4 and 6 of table 7, where they start
  abbrev Removal : ℕ → ToolFloor → Type 0
  Removal port h =
      floor_starts (firing 4 port 5) h ≡ true → floor_starts (firing 7 port 6) (floor_fired (firing 4 port 5) h) ≡ true → Works (floor_fired (firing 7 port 6) (floor_fired (firing 4 port 5) h))

  -- ---- an input

  module _ (order : InOrder f) (rest : floor_least f ≡ None) (e : Executes number planned counted f) where
    -- what is so behind a first change is so of one that begins on this floor
    from_here : (P : ToolFloor → Type 0) (g : State) → g.floor ≡ f → P f → P g.floor
    from_here P g same at = subst P (sym same) at

    pub carried_changes : FloorChanges (Undone f) Carried
    carried_changes = record {
      sound = λ h c. c.0.sound;
      row = λ x h starts input c. (order_changes.row x h starts input c.0, works_row x h c.0 starts input c.1);
      process = λ spec h faultless c. (order_changes.process spec h faultless c.0, created-goes number planned counted f h c.0 spec faultless c.1);
      control = λ s h becomes c. (order_changes.control s h becomes c.0, works_control s h c.0 becomes c.1);
      cancelled = λ n d h here starts unnamed c. (order_changes.cancelled n d h here starts unnamed c.0, cancelled-goes number planned counted f h c.0.sound n d here unnamed c.1);
      written = λ a h code c. (order_changes.written a h code c.0, written-goes number planned counted f h c.0.sound a code c.1);
      unbinding = λ port h starts away c. (order_changes.unbinding port h starts away c.0, unbinding-goes number planned counted f h c.0.sound port starts away c.1);
      placing = λ g port name slots acts starts c.
          (order_changes.placing g port name slots (from_here Rests g acts.same rest) starts c.0, placing-goes number planned counted f g.floor c.0.sound port.0 name slots starts c.1);
      removal = λ g port acts starts next c. (
        order_changes.removal g port (from_here Rests g acts.same rest) starts next c.0,
        from_here (Removal port.0) g acts.same (λ one two. removal-goes number planned counted f order.sound e port.0 one two (shop_rests f rest)) starts next,
      );
      removal_left = λ g port starts left c. (order_changes.removal_left g port starts left c.0, removal_left-goes number planned counted f g.floor c.0.sound port.0 starts c.1);
      fetched = λ m h c. (order_changes.fetched m h c.0, fetched-goes number planned counted f h c.0.sound m c.1);
      did = λ g m command acts is c. absurd (let none : 1 ≡ 0 = sym (ap (λ (b : Bool). if b then 1 else 0) is) ∙ acts.none in omega (arith, none));
      failed_at = λ g m command acts is c. (
        order_changes.failed_at g m command (from_here Rests g acts.same rest) is c.0,
        from_here (λ (h : ToolFloor). Works (listed (closing_rows 8 m.0 h) h)) g acts.same (failed-either number planned counted f order.sound e rest m.0),
      );
      went_down = λ g m acts up c. (
        order_changes.went_down g m (from_here Rests g acts.same rest) up c.0,
        from_here (λ (h : ToolFloor). Works (listed (closing_rows 9 m.0 h) h)) g acts.same (down-either number planned counted f order.sound e rest m.0),
      );
      lost = λ g sub acts c. (
        order_changes.lost g sub (from_here Rests g acts.same rest) c.0,
        from_here (λ (h : ToolFloor). Works (listed (lost_rows sub h) h)) g acts.same (lost-either number planned counted f order.sound e sub),
      );
    }
