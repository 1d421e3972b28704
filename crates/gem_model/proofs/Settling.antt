-- Settling ends, in one way.
use Rattle.std.proofs.Common.{◌≡◌, ℕ, zero, suc, ◌<◌, ◌≤◌, ◌+◌, ◌*◌, ◌==◌, Bool, true, false, if◌then◌else◌, List, [], ◌∷◌, ◌++◌, length, length-append, Option, Some, None, refl, sym, ◌∙◌, ap, subst, arith}
use Rattle.gem_states.specs.declared.communication.Comm.{Comm}
use Rattle.gem_states.specs.declared.communication.Comm.TheVariants.{Disabled, WaitDelay, WaitCra, Communicating}
use Rattle.gem_states.specs.declared.control.Control.{Control}
use Rattle.gem_states.specs.declared.control.Control.TheVariants as control
use Rattle.gem_states.specs.Communication.{comm_fired}
use Rattle.gem_states.specs.Control.{control_fired}
use Rattle.gem_tables.specs.Table.{firing}
use Rattle.gem_tables.specs.declared.firing.Firing.{Firing}
use Rattle.std.specs.Option.{option_or}
use Rattle.gem_rows.specs.Events.{ceid_of}
use Rattle.event_reports.specs.Reports.{report_items}
use Rattle.spool.specs.declared.note.Kind.TheVariants.{Event}
use Rattle.spool.specs.declared.note.Note.{Note}
use Rattle.note_line.specs.Line.{Line}
use Rattle.note_line.specs.Line as notes
use Rattle.note_line.specs.Left.{left as left_line}
use Rattle.note_line.specs.Table3 as table
use Rattle.note_line.proofs.Falls.{least-falls, noted-left}
use Rattle.gem_model.specs.State.{State, is_online, around}
use Rattle.gem_model.specs.Values.{Occasion, value_of}
use Rattle.gem_model.specs.Machines.{object_name, fire_floor, takes_effect, creations, least}
use Rattle.gem_model.specs.Noting.{line_with_event, line_behind, is_event_reported, event_text}
use Rattle.floor_model.specs.Machines.{floor_least, floor_fired, creation_rows, is_creation}
use Rattle.floor_model.specs.Left.{floor_left}
use Rattle.floor_model.proofs.Falls.{least_falls as floor_falls}
use Rattle.floor_model.proofs.Keeping.{AreCreations, creation_same}
use Rattle.gem_model.specs.Fire.{fire, fire_all, advanced}
use Rattle.gem_model.specs.Effects.{asks_first, line_effect}
use Rattle.gem_model.specs.Ready.{ready_line, ready_floor}
use Rattle.gem_model.specs.Wants.{delay_is_over, is_attempt}
use Rattle.gem_model.proofs.Effects.{asks_host, gives_up, least_is}
use Rattle.gem_model.specs.Measure.{left, is_wait_delay, one_if}
use Rattle.gem_model.specs.Settle.{Path, Settles, settling, settling_by, settled, Along}
use Rattle.gem_model.proofs.LineRows.{line_went, event_weight, told_enough}
use Rattle.gem_model.proofs.FloorRows.{creation_is, effect_is, creations_is, ready_is, created_are, creates_no_more, advanced_keeps}
use Rattle.gem_model.proofs.Tests.{went, either_way, or_went, and_parts_of, none_some}

-- ---- the measure falls

asks_comm : (b : Bool) (g h : State) → g.comm ≡ h.comm → (if b then g else h).comm ≡ g.comm
asks_comm true g h same = refl
asks_comm false g h same = sym same

asks_control : (b : Bool) (g h : State) → g.control ≡ h.control → (if b then g else h).control ≡ g.control
asks_control true g h same = refl
asks_control false g h same = sym same

pub waits : (at : ℕ) (c : Comm) → delay_is_over at c ≡ true → is_wait_delay c ≡ true
waits at (WaitDelay until) over = refl
waits at Disabled over = absurd (cc)
waits at WaitCra over = absurd (cc)
waits at Communicating over = absurd (cc)

pub fired_3 : (until : ℕ) (c : Comm) → is_wait_delay c ≡ true → comm_fired 3 until c ≡ WaitCra
fired_3 until (WaitDelay since) waits = refl
fired_3 until Disabled waits = absurd (cc)
fired_3 until WaitCra waits = absurd (cc)
fired_3 until Communicating waits = absurd (cc)

pub fired_2 : (c : Control) → is_attempt c ≡ true → control_fired 2 c ≡ control.EquipmentOffline
fired_2 control.Attempt is = refl
fired_2 control.EquipmentOffline is = absurd (cc)
fired_2 control.HostOffline is = absurd (cc)
fired_2 control.Local is = absurd (cc)
fired_2 control.Remote is = absurd (cc)

asks_line : (b : Bool) (g h : State) → g.line ≡ h.line → (if b then g else h).line ≡ g.line
asks_line true g h same = refl
asks_line false g h same = sym same

asks_floor : (b : Bool) (g h : State) → g.floor ≡ h.floor → (if b then g else h).floor ≡ g.floor
asks_floor true g h same = refl
asks_floor false g h same = sym same

falls_comm : (g : State) → is_wait_delay g.comm ≡ true → left (fire g (firing 1 0 3)) < left g
falls_comm g here =
    let comm : (fire g (firing 1 0 3)).comm ≡ WaitCra = asks_comm _ _ _ refl ∙ fired_3 0 g.comm here in
    let control : (fire g (firing 1 0 3)).control ≡ g.control = asks_control _ _ _ refl in
    let line : (fire g (firing 1 0 3)).line ≡ g.line = asks_line _ _ _ refl in
    let none : one_if (is_wait_delay (fire g (firing 1 0 3)).comm) ≡ 0 = ap (λ c. one_if (is_wait_delay c)) comm in
    let same : one_if (is_attempt (fire g (firing 1 0 3)).control) ≡ one_if (is_attempt g.control) = ap (λ c. one_if (is_attempt c)) control in
    let before : one_if (is_wait_delay g.comm) ≡ 1 = ap one_if here in
    let notes : left_line (fire g (firing 1 0 3)).line ≡ left_line g.line = ap left_line line in
    let floor : floor_left (fire g (firing 1 0 3)).floor ≡ floor_left g.floor = ap floor_left (asks_floor _ _ _ refl) in
    omega arith

-- an event adds what its note weighs to what is left
event_left : (event : Option ℕ) (o : Occasion) (online : Bool) (g : State) → left_line (line_behind event o online g) ≤ left_line g.line + event_weight event
event_left None o online g = omega arith
event_left (Some ceid) o online g =
    either_way (λ (l : Line). left_line l ≤ left_line g.line + 6) (is_event_reported ceid online g) (line_with_event ceid o g) g.line
    (let more = noted-left Event ceid (event_text (notes.next g.line) ceid (report_items (value_of o g) ceid g.reports)) g.line in omega (arith, more))
    (omega arith)

falls_control : (g : State) → is_attempt g.control ≡ true → left (fire g (firing 2 0 2)) < left g
falls_control g is =
    let after : is_attempt (control_fired 2 g.control) ≡ false = ap is_attempt (fired_2 g.control is) in
    let count : one_if (is_attempt (control_fired 2 g.control)) ≡ 0 = ap one_if after in
    let before : one_if (is_attempt g.control) ≡ 1 = ap one_if is in
    let told = event_left (ceid_of 2 2) (record { object = []; row = 202 }) (is_online g.control) (takes_effect g (firing 2 0 2)) in
    omega arith

-- a row of table 3 leaves communication and control as they are
sent_comm : (waiting : List Note) (g : State) → (asks_first waiting g).comm ≡ g.comm
sent_comm [] g = refl
sent_comm (note ∷ waiting) g = asks_comm _ _ _ refl

sent_control : (waiting : List Note) (g : State) → (asks_first waiting g).control ≡ g.control
sent_control [] g = refl
sent_control (note ∷ waiting) g = asks_control _ _ _ refl

line_comm : (row : ℕ) (g : State) → (line_effect row g).comm ≡ g.comm
line_comm row g =
    either_way (λ (h : State). h.comm ≡ g.comm) (row == 12) (asks_first g.line.spool.notes g) (if row == 13 then asks_first g.line.waiting g else g)
    (sent_comm g.line.spool.notes g)
    (either_way (λ (h : State). h.comm ≡ g.comm) (row == 13) (asks_first g.line.waiting g) g (sent_comm g.line.waiting g) refl)

line_control : (row : ℕ) (g : State) → (line_effect row g).control ≡ g.control
line_control row g =
    either_way (λ (h : State). h.control ≡ g.control) (row == 12) (asks_first g.line.spool.notes g) (if row == 13 then asks_first g.line.waiting g else g)
    (sent_control g.line.spool.notes g)
    (either_way (λ (h : State). h.control ≡ g.control) (row == 13) (asks_first g.line.waiting g) g (sent_control g.line.waiting g) refl)

sent_floor : (waiting : List Note) (g : State) → (asks_first waiting g).floor ≡ g.floor
sent_floor [] g = refl
sent_floor (note ∷ waiting) g = asks_floor _ _ _ refl

line_floor : (row : ℕ) (g : State) → (line_effect row g).floor ≡ g.floor
line_floor row g =
    either_way (λ (h : State). h.floor ≡ g.floor) (row == 12) (asks_first g.line.spool.notes g) (if row == 13 then asks_first g.line.waiting g else g)
    (sent_floor g.line.spool.notes g)
    (either_way (λ (h : State). h.floor ≡ g.floor) (row == 13) (asks_first g.line.waiting g) g (sent_floor g.line.waiting g) refl)

falls_line : (g : State) (row : ℕ) → table.least (around g) g.line ≡ Some row → left (fire g (firing 3 0 row)) < left g
falls_line g row ready =
    let comm = ap (λ c. one_if (is_wait_delay c)) (line_comm row g) in
    let control = ap (λ c. one_if (is_attempt c)) (line_control row g) in
    let floor = ap floor_left (line_floor row g) in
    let told = event_left (ceid_of 3 row) (record { object = []; row = 100 * 3 + row }) (is_online g.control) (takes_effect g (firing 3 0 row)) in
    let enough = told_enough (around g) g.line row ready in
    let falls = least-falls (around g) g.line row ready in
    omega arith

the_firing : (g : State) (f one : Firing) → left (advanced g one) < left g → Some one ≡ Some f → left (advanced g f) < left g
the_firing g f one falls is = let same : one ≡ f = cc in subst (λ (x : Firing). left (advanced g x) < left g) same falls

this_firing : (g : State) (f one : Firing) → left (advanced g one) < left g → one ≡ f → left (advanced g f) < left g
this_firing g f one falls same = subst (λ (x : Firing). left (advanced g x) < left g) same falls

-- a row of the floor leaves communication and control as they are, and makes one note at most
record Moved (g h : State) : Type 0 where
  pub comm : h.comm ≡ g.comm
  pub control : h.control ≡ g.control
  pub line : left_line h.line ≤ left_line g.line + 6

moved_fire : (g : State) (f : Firing) → takes_effect g f ≡ fire_floor f g → Moved g (fire g f)
moved_fire g f is =
    let h : State = takes_effect g f in
    let told = event_left (ceid_of f.row.table f.row.row) (record { object = object_name g f; row = 100 * f.row.table + f.row.row }) (is_online g.control) h in
    let most = event_most (ceid_of f.row.table f.row.row) in
    let same : left_line h.line ≡ left_line g.line = ap (λ (k : State). left_line k.line) is in
    record { comm = ap (λ (k : State). k.comm) is; control = ap (λ (k : State). k.control) is; line = omega (arith, told, most, same) }
  where
    event_most : (event : Option ℕ) → event_weight event ≤ 6
    event_most None = omega arith
    event_most (Some ceid) = omega arith

-- so many rows of created objects leave the floor as it is, and make a note each at most
record MovedBy (g h : State) (n : ℕ) : Type 0 where
  pub comm : h.comm ≡ g.comm
  pub control : h.control ≡ g.control
  pub floor : h.floor ≡ g.floor
  pub line : left_line h.line ≤ left_line g.line + 6 * n

moved_all : (ds : List Firing) → AreCreations ds → (g : State) → MovedBy g (fire_all ds g) (length ds)
moved_all [] are g = record { comm = refl; control = refl; floor = refl; line = omega arith }
moved_all (d ∷ ds) are g =
    let is = effect_is g d (creation_is d are.0) in
    let one : Moved g (fire g d) = moved_fire g d is in
    let floor : (fire g d).floor ≡ g.floor = ap (λ (k : State). k.floor) is ∙ creation_same g.floor d are.0 in
    let rest = moved_all ds are.1 (fire g d) in
    record {
      comm = rest.comm ∙ one.comm;
      control = rest.control ∙ one.control;
      floor = rest.floor ∙ floor;
      line = omega (arith, rest.line, one.line);
    }

falls_moved : (g h k : State) (n : ℕ) → Moved g h → MovedBy h k n → floor_left h.floor + n < floor_left g.floor → left k < left g
falls_moved g h k n first next falls =
    let comm = ap (λ (c : Comm). one_if (is_wait_delay c)) (next.comm ∙ first.comm) in
    let control = ap (λ (c : Control). one_if (is_attempt c)) (next.control ∙ first.control) in
    let floor = ap floor_left next.floor in
    omega (arith, first.line, next.line, falls, comm, control, floor)

falls_floor : (g : State) (f : Firing) → floor_least g.floor ≡ Some f → left (advanced g f) < left g
falls_floor g f ready =
    let high = ready_is g f ready in
    let is = effect_is g f high in
    let floor : floor_left (fire g f).floor ≡ floor_left (floor_fired f g.floor) = ap (λ (k : State). floor_left k.floor) is in
    let count : length (creations g f) ≡ length (creation_rows f g.floor) = ap length (creations_is g f high) in
    let falls = floor_falls g.floor f ready in
    falls_moved g (fire g f) (advanced g f) (length (creations g f)) (moved_fire g f is) (moved_all (creations g f) (created_are g f) (fire g f))
    (omega (arith, falls, count, floor))

-- an automatic firing, with what it creates, leaves less to fire
pub left_falls : (g : State) (f : Firing) → least g ≡ Some f → left (advanced g f) < left g
left_falls g f ready =
    or_went (asks_host g) (option_or (gives_up g) (option_or (ready_line g) (ready_floor g))) f
    (λ at. went _ _ _ _ (λ over e. the_firing g f (firing 1 0 3) (falls_comm g (waits g.moment g.comm (and_parts_of _ _ over).0)) e) (λ _ e. none_some f e) at)
    (λ _ behind. or_went (gives_up g) (option_or (ready_line g) (ready_floor g)) f
    (λ at. went _ _ _ _ (λ can e. the_firing g f (firing 2 0 2) (falls_control g (and_parts_of _ _ can).0) e) (λ _ e. none_some f e) at)
    (λ _ last. or_went (ready_line g) (ready_floor g) f
    (λ at. line_went g f (λ row is e. this_firing g f (firing 3 0 row) (falls_line g row is) e) at)
    (λ _ at. falls_floor g f at) last) behind)
    (sym (least_is g) ∙ ready)

-- ---- the settled state

-- the state after firings and then others
fire_both : (fs gs : List Firing) (g : State) → fire_all (fs ++ gs) g ≡ fire_all gs (fire_all fs g)
fire_both [] gs g = refl
fire_both (f ∷ fs) gs g = fire_both fs gs (fire g f)

-- more firings than there are to fire are no more
settling_more : (n m : ℕ) (g : State) (f : Option Firing) → least g ≡ f → left g ≤ n → n ≤ m → settling_by m g f ≡ settling_by n g f
settling_more n m g None is fits less = refl
settling_more zero m g (Some f) is fits less = absurd (omega (arith, left_falls g f is))
settling_more (suc n) zero g (Some f) is fits less = absurd (omega arith)
settling_more (suc n) (suc m) g (Some f) is fits less =
    ap (λ fs. f ∷ (creations g f ++ fs)) (settling_more n m (advanced g f) (least (advanced g f)) refl (omega (arith, left_falls g f is)) (omega arith))

settling_is : (g : State) (f : Firing) → least g ≡ Some f → settling g ≡ f ∷ (creations g f ++ settling (advanced g f))
settling_is g f ready = by_left (left g) refl
  where
    by_left : (n : ℕ) → left g ≡ n → settling g ≡ f ∷ (creations g f ++ settling (advanced g f))
    by_left zero is = absurd (omega (arith, left_falls g f ready))
    by_left (suc n) is =
        ap (λ (k : ℕ). settling_by k g (least g)) is
        ∙ ap (settling_by (suc n) g) ready
        ∙ ap (λ fs. f ∷ (creations g f ++ fs)) (settling_more (left (advanced g f)) n (advanced g f) (least (advanced g f)) refl (omega arith) (omega (arith, left_falls g f ready)))

-- where no row is ready the state is settled
pub settled_none : (g : State) → least g ≡ None → settled g ≡ g
settled_none g none = ap (λ fs. fire_all fs g) (ap (settling_by (left g) g) none)

-- where one is ready, it settles as behind its firing and what that creates
pub settled_some : (g : State) (f : Firing) → least g ≡ Some f → settled g ≡ settled (advanced g f)
settled_some g f ready = ap (λ fs. fire_all fs g) (settling_is g f ready) ∙ fire_both (creations g f) (settling (advanced g f)) (fire g f)

settled_within : (P : State → Type 0) → ((g : State) (f : Firing) → least g ≡ Some f → P g → P (advanced g f)) → (n : ℕ) (g : State) (f : Option Firing) → least g ≡ f → left g ≤ n → P g → P (settled g)
settled_within P keeps n g None is fits here = subst P (sym (settled_none g is)) here
settled_within P keeps zero g (Some f) is fits here = absurd (omega (arith, left_falls g f is))
settled_within P keeps (suc n) g (Some f) is fits here =
    subst P (sym (settled_some g f is))
    (settled_within P keeps n (advanced g f) (least (advanced g f)) refl (omega (arith, left_falls g f is)) (keeps g f is here))

-- what holds of a state, of each that an automatic firing leads to, and behind each creation, holds of the settled one
pub settled_keeps : (P : State → Type 0) → ((g : State) (f : Firing) → least g ≡ Some f → P g → P (fire g f)) → ((g : State) (d : Firing) → is_creation d ≡ true → P g → P (fire g d)) → (g : State) → P g → P (settled g)
settled_keeps P keeps creates g here =
    settled_within P (λ h f ready at. advanced_keeps P creates h f (keeps h f ready at)) (left g) g (least g) refl (omega arith) here

along_made : (P Q : State → Type 0) → ((h : State) → P h → Q h) → ((g : State) (d : Firing) → is_creation d ≡ true → P g → P (fire g d)) → (ds : List Firing) → AreCreations ds → (g : State) (fs : List Firing) → P g → Along Q (fire_all ds g) fs → Along Q g (ds ++ fs)
along_made P Q says creates [] are g fs here rest = rest
along_made P Q says creates (d ∷ ds) are g fs here rest =
    (says g here, along_made P Q says creates ds are.1 (fire g d) fs (creates g d are.0 here) rest)

along_within : (P Q : State → Type 0) → ((h : State) → P h → Q h) → ((g : State) (f : Firing) → least g ≡ Some f → P g → P (fire g f)) → ((g : State) (d : Firing) → is_creation d ≡ true → P g → P (fire g d)) → (n : ℕ) (g : State) (f : Option Firing) → least g ≡ f → P g → Along Q g (settling_by n g f)
along_within P Q says keeps creates n g None is here = says g here
along_within P Q says keeps creates zero g (Some f) is here = says g here
along_within P Q says keeps creates (suc n) g (Some f) is here =
    let next = keeps g f is here in
    (says g here, along_made P Q says creates (creations g f) (created_are g f) (fire g f) (settling_by n (advanced g f) (least (advanced g f))) next (along_within P Q says keeps creates n (advanced g f) (least (advanced g f)) refl (advanced_keeps P creates g f next)))

-- what each firing keeps holds on the way to the settled state
pub settled_along : (P Q : State → Type 0) → ((h : State) → P h → Q h) → ((g : State) (f : Firing) → least g ≡ Some f → P g → P (fire g f)) → ((g : State) (d : Firing) → is_creation d ≡ true → P g → P (fire g d)) → (g : State) → P g → Along Q g (settling g)
settled_along P Q says keeps creates g here = along_within P Q says keeps creates (left g) g (least g) refl here

-- the rows that are due behind such a row are those that were due behind it
due_behind : (g : State) (d : Firing) (ds : List Firing) → is_creation d ≡ true → creations g d ++ ds ≡ ds
due_behind g d ds is = ap (λ (cs : List Firing). cs ++ ds) (creates_no_more g d is)

-- a path goes on behind what a firing creates
path_created : (ds : List Firing) → AreCreations ds → (g : State) (fs : List Firing) (h : State) → Path (fire_all ds g) [] fs h → Path g ds (ds ++ fs) h
path_created [] are g fs h path = path
path_created (d ∷ ds) are g fs h path =
    (refl, subst (λ (due : List Firing). Path (fire g d) due (ds ++ fs) h) (sym (due_behind g d ds are.0)) (path_created ds are.1 (fire g d) fs h path))

settles_within : (n : ℕ) (g : State) (f : Option Firing) → least g ≡ f → left g ≤ n → Settles g (settling g) (settled g)
settles_within n g None is fits =
    let none : settling g ≡ [] = ap (settling_by (left g) g) is in
    subst (λ fs. Path g [] fs (fire_all fs g)) (sym none) (is, refl)
settles_within zero g (Some f) is fits = absurd (omega (arith, left_falls g f is))
settles_within (suc n) g (Some f) is fits =
    let next : State = advanced g f in
    let rest : Path next [] (settling next) (settled next) = settles_within n next (least next) refl (omega (arith, left_falls g f is)) in
    rw (settling_is g f is)
    (is, subst (Path (fire g f) (creations g f) (creations g f ++ settling next)) (sym (fire_both (creations g f) (settling next) (fire g f))) (path_created (creations g f) (created_are g f) (fire g f) (settling next) (settled next) rest))

-- it settles so
pub settles_so : (g : State) → Settles g (settling g) (settled g)
settles_so g = settles_within (left g) g (least g) refl (omega arith)

-- what a path does behind what a firing creates
record Behind (k : State) (cs fs : List Firing) (h : State) : Type 0 where
  pub rest : List Firing
  pub is : fs ≡ cs ++ rest
  pub path : Path (fire_all cs k) [] rest h

path_behind : (ds : List Firing) → AreCreations ds → (g : State) (fs : List Firing) (h : State) → Path g ds fs h → Behind g ds fs h
path_behind [] are g fs h path = record { rest = fs; is = refl; path = path }
path_behind (d ∷ ds) are g [] h path = absurd path
path_behind (d ∷ ds) are g (x ∷ fs) h path =
    let b = path_behind ds are.1 (fire g d) fs h (subst (λ (due : List Firing). Path (fire g d) due fs h) (due_behind g d ds are.0) path.1) in
    record { rest = b.rest; is = ap (λ (y : Firing). y ∷ fs) path.0 ∙ ap (λ (ys : List Firing). d ∷ ys) b.is; path = b.path }

-- and in no other way
settles_by : (n : ℕ) (g : State) (fs : List Firing) (h : State) → length fs ≤ n → Settles g fs h → (fs ≡ settling g) × (h ≡ settled g)
settles_by n g [] h fits path =
    (sym (ap (settling_by (left g) g) path.0), path.1 ∙ sym (settled_none g path.0))
settles_by zero g (f ∷ fs) h fits path = absurd (omega arith)
settles_by (suc n) g (f ∷ fs) h fits path =
    let b = path_behind (creations g f) (created_are g f) (fire g f) fs h path.1 in
    let count = ap length b.is in
    let both = length-append (creations g f) b.rest in
    let rest = settles_by n (advanced g f) b.rest h (omega (arith, fits, count, both)) b.path in
    (ap (λ xs. f ∷ xs) (b.is ∙ ap (λ xs. creations g f ++ xs) rest.0) ∙ sym (settling_is g f path.0), rest.1 ∙ sym (settled_some g f path.0))

pub settles_only : (g : State) (fs : List Firing) (h : State) → Settles g fs h → (fs ≡ settling g) × (h ≡ settled g)
settles_only g fs h path = settles_by (length fs) g fs h (omega arith) path
