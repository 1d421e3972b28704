-- Every state that a history leads to is valid.
use Rattle.std.proofs.Common.{◌≡◌, ◌==◌, ℕ, Bool, true, false, ◌&&◌, if◌then◌else◌, List, [], ◌∷◌, ◌++◌, ◌≤◌, length, arith, Option, Some, None, option_map, refl, sym, ◌∙◌, ap, subst}
use Rattle.std.specs.List.{AllByRecursion}
use Rattle.std.specs.Option.{option_or, option_to_list}
use Rattle.hsms_link.specs.declared.state.Phase.{Phase}
use Rattle.hsms_link.specs.declared.state.Phase.TheVariants.{Down, NotSelected, Selected}
use Rattle.hsms_link.specs.Links as links
use Rattle.gem_tables.specs.Table.{firing}
use Rattle.gem_tables.specs.declared.firing.Firing.{Firing}
use Rattle.gem_states.specs.declared.communication.Comm.{Comm}
use Rattle.gem_states.specs.declared.communication.Comm.TheVariants as comm
use Rattle.transactions.specs.Table.{is_full}
use Rattle.tool_events.specs.declared.config.Config.{Config}
use Rattle.tool_events.specs.declared.config.ControlStart.{ControlStart}
use Rattle.tool_events.specs.declared.config.ControlStart.TheVariants as begin
use Rattle.tool_events.specs.declared.entry.Entry.{Entry}
use Rattle.tool_events.specs.declared.event.Event.{Event}
use Rattle.std.proofs.lemmas.Bool.Decides.{nat_tests}
use Rattle.note_line.specs.declared.fate.Fate.{Fate}
use Rattle.note_line.specs.declared.fate.Fate.TheVariants.{Open}
use Rattle.note_line.specs.Fates.{LineValid, KeepsFates, is_ended}
use Rattle.spool.specs.declared.note.Note.{Note}
use Rattle.spool.specs.Spool.{is_inactive, has_note}
use Rattle.note_line.specs.Table3 as table
use Rattle.note_line.specs.Line.{Line, fate_of}
use Rattle.note_line.specs.Order.{Pairwise}
use Rattle.note_line.proofs.Keeps.{Keeps, fates-same, fates-trans, opening-valid, quiet_first, open_is_open}
use Rattle.note_line.proofs.Sendings.{never-back}
use Rattle.gem_model.specs.State.{State, opening, around, is_up, is_selected, raised, first_control, first_kinds}
use Rattle.gem_model.specs.Fire.{fire}
use Rattle.gem_model.specs.Machines.{creations, least}
use Rattle.gem_model.specs.Wants.{delay_is_over, is_attempt}
use Rattle.gem_model.specs.Ready.{ready_line, ready_floor}
use Rattle.gem_model.proofs.Effects.{asks_host, gives_up, least_is}
use Rattle.gem_model.specs.Settle.{Path, settled, settling, Along}
use Rattle.gem_model.specs.Step.{Outcome, step, step_from, acts, settles}
use Rattle.gem_model.specs.OpenNotes.{NotBelow, NeverBack, IsOther, open_behind}
use Rattle.gem_model.specs.Run.{Run}
use Rattle.gem_model.specs.Valid.{Valid}
use Rattle.floor_model.proofs.Keeping.{opening_quiet}
use Rattle.gem_model.proofs.Tests.{went, none_some}
use Rattle.gem_model.proofs.Settling.{settles_so}
use Rattle.gem_model.proofs.Runs.{after-step}
use Rattle.gem_model.proofs.Steps.{step_keeps-from}
use Rattle.gem_model.proofs.Lined.{keeps-same, lined-step, lined-step-at}
use Rattle.gem_model.proofs.Room.{Few, few-step, few-open, few-room, few-acts, few-along}

-- at the end of a path no row is ready
path_end : (g : State) (due fs : List Firing) (h : State) → Path g due fs h → least h ≡ None
path_end g [] [] h path = ap least path.1 ∙ path.0
path_end g [] (f ∷ fs) h path = path_end (fire g f) (creations g f) fs h path.1
path_end g (d ∷ due) [] h path = absurd path
path_end g (d ∷ due) (f ∷ fs) h path = path_end (fire g d) (creations g d ++ due) fs h path.1

pub settled_least : (g : State) → least (settled g) ≡ None
settled_least g = path_end g [] (settling g) (settled g) (settles_so g)

-- ---- without a session a rise of the moment makes no row ready

down_selected : (phase : Phase) → links.is_up phase ≡ false → links.is_selected phase ≡ false
down_selected Down down = refl
down_selected (NotSelected since) down = refl
down_selected Selected down = absurd (cc)

never : (a b : Bool) (f : Firing) → b ≡ false → (if a && b then Some f else None) ≡ None
never true true f h = absurd (cc)
never true false f h = refl
never false b f h = refl

behind_none : (x y : Option Firing) → option_or x y ≡ None → y ≡ None
behind_none None y h = h
behind_none (Some f) y h = absurd (cc)

raised_quiet : (g : State) (at : ℕ) → is_up g ≡ false → least g ≡ None → least (raised g at) ≡ None
raised_quiet g at down quiet =
    least_is (raised g at)
    ∙ ap (λ (x : Option Firing). option_or x (option_or (gives_up g) (option_or (ready_line g) (ready_floor g)))) (never _ (is_selected g) _ (down_selected g.link.phase down))
    ∙ behind_none (asks_host g) (option_or (gives_up g) (option_or (ready_line g) (ready_floor g))) (sym (least_is g) ∙ quiet)

-- ---- an earlier moment makes no row ready

earlier_over : (early late : ℕ) (c : Comm) → early ≤ late → delay_is_over late c ≡ false → delay_is_over early c ≡ false
earlier_over early late (comm.WaitDelay until) less over = grind (arith, less, over)
earlier_over early late comm.Disabled less over = refl
earlier_over early late comm.WaitCra less over = refl
earlier_over early late comm.Communicating less over = refl

test_of : (b : Bool) (f : Firing) → (if b then Some f else None) ≡ None → b ≡ false
test_of true f h = absurd (cc)
test_of false f h = refl

not_both : (early late selected : Bool) → (late ≡ false → early ≡ false) → (late && selected) ≡ false → (early && selected) ≡ false
not_both early true true h both = absurd (cc)
not_both true late false h both = refl
not_both false late selected h both = refl
not_both early false true h both = ap (λ b. b && true) (h refl)

first_none : (x y : Option Firing) → option_or x y ≡ None → x ≡ None
first_none None y h = refl
first_none (Some f) y h = absurd (cc)

-- what differs by an earlier moment and by the frames that wait has no row that is ready either
pub earlier_quiet : (g : State) (moment : ℕ) (waiting : List (List ℕ)) → moment ≤ g.moment → least g ≡ None → least (record g { moment = moment; waiting = waiting }) ≡ None
earlier_quiet g moment waiting less quiet =
    let late = test_of _ _ (first_none (asks_host g) (option_or (gives_up g) (option_or (ready_line g) (ready_floor g))) (sym (least_is g) ∙ quiet)) in
    let early : (delay_is_over moment g.comm && is_selected g) ≡ false = not_both _ (delay_is_over g.moment g.comm) (is_selected g) (earlier_over moment g.moment g.comm less) late in
    least_is (record g { moment = moment; waiting = waiting })
    ∙ ap (λ (b : Bool). option_or (if b then Some (firing 1 0 3) else None) (option_or (gives_up g) (option_or (ready_line g) (ready_floor g)))) early
    ∙ behind_none (asks_host g) (option_or (gives_up g) (option_or (ready_line g) (ready_floor g))) (sym (least_is g) ∙ quiet)

-- ---- a step

-- few transactions are open in a valid state
pub valid-few : (g : State) → Valid g → Few g
valid-few g valid = record { establish = valid.establish; attempt = valid.attempt; note = valid.note }

valid_mapped : (before : ℕ) (g : State) (e : Event) (x : Option Outcome) (o : Outcome) → Few g → LineValid g.line → g.quitting ≡ false → step_from before g e ≡ Some o → option_map settles x ≡ Some o → Valid o.after
valid_mapped before g e None o few line goes here is = none_some o is
valid_mapped before g e (Some p) o few line goes here is =
    let same : settles p ≡ o = cc in
    let after : Few o.after = few-step before g e o few here in
    record {
      settled = subst (λ (q : Outcome). least q.after ≡ None) same (settled_least p.after);
      quit = (step_keeps-from before g e o here).quit goes;
      establish = after.establish;
      attempt = after.attempt;
      note = after.note;
      line = (lined-step before g e o here line).valid;
    }

pub step_valid : (g : State) (at : ℕ) (e : Event) (o : Outcome) → Valid g → step g at e ≡ Some o → Valid o.after
step_valid g at e o valid here =
    went g.quitting _ _ _
    (λ quitting is.
    let same : raised g at ≡ o.after = cc in
    subst Valid same (record { settled = raised_quiet g at (valid.quit quitting) valid.settled; quit = λ _. valid.quit quitting; establish = valid.establish; attempt = valid.attempt; note = valid.note; line = valid.line }))
    (λ goes is. valid_mapped g.moment (raised g at) e (acts g.moment (raised g at) e) o (valid-few g valid) valid.line goes here is)
    here

no_attempt : (c : ControlStart) → is_attempt (first_control c) ≡ false
no_attempt begin.EquipmentOffline = refl
no_attempt begin.HostOffline = refl
no_attempt begin.OnlineLocal = refl
no_attempt begin.OnlineRemote = refl

never_first : (a b : Bool) (f : Firing) → a ≡ false → (if a && b then Some f else None) ≡ None
never_first true b f h = absurd (cc)
never_first false b f h = refl

pub opening_valid : (c : Config) → Valid (opening c)
opening_valid c = record {
  settled = least_is (opening c)
      ∙ ap (λ (x : Option Firing). option_or x (option_or (gives_up (opening c)) (ready_floor (opening c)))) (never _ false _ refl)
      ∙ ap (λ (x : Option Firing). option_or x (ready_floor (opening c))) (never_first (is_attempt (first_control c.control)) _ _ (no_attempt c.control))
      ∙ opening_quiet c.ports c.chambers c.recipes;
  quit = λ _. refl;
  establish = omega arith;
  attempt = omega arith;
  note = omega arith;
  line = opening-valid c.spool_capacity (first_kinds c.spool_streams);
}

pub run_valid : (g : State) (entries : List Entry) (h : State) → Valid g → Run g entries h → Valid h
run_valid g [] h valid run = subst Valid (sym run) valid
run_valid g (e ∷ entries) h valid run = run_valid run.0.after entries h (step_valid g e.at.0 e.event run.0 valid run.1) run.2

-- few transactions are open in a state that a history leads to, and so a start finds room
run-few : (c : Config) (entries : List Entry) (h : State) → Run (opening c) entries h → Few h
run-few c entries h run = valid-few h (run_valid (opening c) entries h (opening_valid c) run)

pub run-open : (c : Config) (entries : List Entry) (h : State) → Run (opening c) entries h → length h.transactions.opened ≤ 2
run-open c entries h run = few-open h (run-few c entries h run)

-- the line of notes goes on over a run: what became of a note stays, and so does what it told of
pub run-fates : (g : State) (entries : List Entry) (h : State) → LineValid g.line → Run g entries h → Keeps g.line h.line
run-fates g [] h line run = subst (λ (k : State). Keeps g.line k.line) (sym run) (keeps-same g.line line)
run-fates g (e ∷ entries) h line run =
    let one = lined-step-at g e.at.0 e.event run.0 run.1 line in
    let rest = run-fates run.0.after entries h one.valid run.2 in
    record { valid = rest.valid; fates = fates-trans g.line run.0.after.line h.line one.fates rest.fates }

pub run-room : (c : Config) (entries : List Entry) (h : State) → Run (opening c) entries h → is_full h.transactions ≡ false
run-room c entries h run = few-room h (run-few c entries h run)

-- and so it does while the tool settles behind an event
pub run-along : (c : Config) (entries : List Entry) (h : State) (at : ℕ) (e : Event) (o : Outcome) → Run (opening c) entries h → acts h.moment (raised h at) e ≡ Some o → Along (λ (g : State). is_full g.transactions ≡ false) o.after (settling o.after)
run-along c entries h at e o run here = few-along o.after (few-acts h.moment (raised h at) e o (run-few c entries h run) here)

-- where a history leads, the line of notes is valid
pub run-line : (c : Config) (entries : List Entry) (h : State) → Run (opening c) entries h → LineValid h.line
run-line c entries h run = (run_valid (opening c) entries h (opening_valid c) run).line

-- and from then on what became of a note stays
pub run-stays : (c : Config) (front behind : List Entry) (g h : State) → Run (opening c) front g → Run g behind h → KeepsFates g.line h.line
run-stays c front behind g h before after = (run-fates g behind h (run-line c front g before) after).fates

-- where no row is ready, none of the line is
none_ready : (first second third last : Option Firing) → option_or first (option_or second (option_or third last)) ≡ None → third ≡ None
none_ready None None third last e = first_none third last e
none_ready None (Some f) third last e = absurd (cc)
none_ready (Some f) second third last e = absurd (cc)

no_row : (row : Option ℕ) → option_map (firing 3 0) row ≡ None → row ≡ None
no_row None e = refl
no_row (Some row) e = absurd (cc)

inactive_empty : (inactive some : Bool) → (inactive && some) ≡ false → inactive ≡ true → some ≡ false
inactive_empty true some e is = e
inactive_empty false some e is = absurd (cc)

-- where a history leads, an INACTIVE spool is empty
pub run-empty : (c : Config) (entries : List Entry) (h : State) → Run (opening c) entries h → is_inactive h.line.spool.load ≡ true → has_note h.line.spool ≡ false
run-empty c entries h run inactive =
    let valid = run_valid (opening c) entries h (opening_valid c) run in
    let quiet = no_row (table.least (around h) h.line) (none_ready (asks_host h) (gives_up h) (ready_line h) (ready_floor h) (sym (least_is h) ∙ valid.settled)) in
    inactive_empty _ _ (quiet_first (around h) h.line quiet) inactive

-- ---- sendings of one kind never go back

-- with the note that is open behind an entry, where one is
all_with : (earlier : Note) (opened : Option Note) (notes : List Note) → ((later : Note) → opened ≡ Some later → NotBelow earlier later) → AllByRecursion (NotBelow earlier) notes → AllByRecursion (NotBelow earlier) (option_to_list opened ++ notes)
all_with earlier None notes is rest = rest
all_with earlier (Some later) notes is rest = (is later refl, rest)

pairs_with : (opened : Option Note) (notes : List Note) → ((earlier : Note) → opened ≡ Some earlier → AllByRecursion (NotBelow earlier) notes) → Pairwise NotBelow notes → Pairwise NotBelow (option_to_list opened ++ notes)
pairs_with None notes is rest = rest
pairs_with (Some earlier) notes is rest = (is earlier refl, rest)

-- a note that was open is not above those of its kind that are open behind later entries
never_above : (l : Line) (earlier : Note) → LineValid l → l.opened ≡ Some earlier → (g : State) (entries : List Entry) (h : State) → LineValid g.line → KeepsFates l g.line → Run g entries h → AllByRecursion (NotBelow earlier) (open_behind g entries)
never_above l earlier valid was g [] h line keeps run = tt
never_above l earlier valid was g (e ∷ entries) h line keeps run =
    let one = lined-step-at g e.at.0 e.event run.0 run.1 line in
    let all = fates-trans l g.line run.0.after.line keeps one.fates in
    subst (λ (k : State). AllByRecursion (NotBelow earlier) (option_to_list k.line.opened ++ open_behind k entries)) (sym (after-step g e.at.0 e.event run.0 run.1))
    (all_with earlier run.0.after.line.opened (open_behind run.0.after entries)
    (λ later is. never-back l run.0.after.line earlier later valid one.valid all was is)
    (never_above l earlier valid was run.0.after entries h one.valid all run.2))

never_back : (g : State) (entries : List Entry) (h : State) → LineValid g.line → Run g entries h → NeverBack g entries
never_back g [] h line run = tt
never_back g (e ∷ entries) h line run =
    let one = lined-step-at g e.at.0 e.event run.0 run.1 line in
    subst (λ (k : State). Pairwise NotBelow (option_to_list k.line.opened ++ open_behind k entries)) (sym (after-step g e.at.0 e.event run.0 run.1))
    (pairs_with run.0.after.line.opened (open_behind run.0.after entries)
    (λ earlier is. never_above run.0.after.line earlier one.valid is run.0.after entries h one.valid (fates-same run.0.after.line) run.2)
    (never_back run.0.after entries h one.valid run.2))

pub run-sendings : (c : Config) (entries : List Entry) (h : State) → Run (opening c) entries h → NeverBack (opening c) entries
run-sendings c entries h run = never_back (opening c) entries h (opening_valid c).line run

-- ---- a note that ended is not sent again

-- the open note is another one than a note that has ended
other_open : (l : Line) (number : ℕ) (fate : Fate) → LineValid l → fate_of number l.told ≡ Some fate → is_ended fate ≡ true → (later : Note) → l.opened ≡ Some later → IsOther number later
other_open l number fate valid was ended later is = by_test (later.number == number) refl where
  by_test : (b : Bool) → (later.number == number) ≡ b → IsOther number later
  by_test false q = q
  by_test true q =
      let same : later.number ≡ number = grind (arith, nat_tests) in
      let opened : fate_of number l.told ≡ Some Open = subst (λ (n : ℕ). fate_of n l.told ≡ Some Open) same (open_is_open l later is valid) in
      let both : Some fate ≡ Some Open = sym was ∙ opened in
      let open_is : fate ≡ Open = cc in
      absurd (let no : is_ended Open ≡ true = subst (λ (f : Fate). is_ended f ≡ true) open_is ended in cc)

others_with : (number : ℕ) (opened : Option Note) (notes : List Note) → ((later : Note) → opened ≡ Some later → IsOther number later) → AllByRecursion (IsOther number) notes → AllByRecursion (IsOther number) (option_to_list opened ++ notes)
others_with number None notes is rest = rest
others_with number (Some later) notes is rest = (is later refl, rest)

never_again : (l : Line) (number : ℕ) (fate : Fate) → fate_of number l.told ≡ Some fate → is_ended fate ≡ true → (g : State) (entries : List Entry) (h : State) → LineValid g.line → KeepsFates l g.line → Run g entries h → AllByRecursion (IsOther number) (open_behind g entries)
never_again l number fate was ended g [] h line keeps run = tt
never_again l number fate was ended g (e ∷ entries) h line keeps run =
    let one = lined-step-at g e.at.0 e.event run.0 run.1 line in
    let all = fates-trans l g.line run.0.after.line keeps one.fates in
    subst (λ (k : State). AllByRecursion (IsOther number) (option_to_list k.line.opened ++ open_behind k entries)) (sym (after-step g e.at.0 e.event run.0 run.1))
    (others_with number run.0.after.line.opened (open_behind run.0.after entries)
    (λ later is. other_open run.0.after.line number fate one.valid (all.ended number fate was ended) ended later is)
    (never_again l number fate was ended run.0.after entries h one.valid all run.2))

pub run-ended : (c : Config) (front behind : List Entry) (g h : State) (number : ℕ) (fate : Fate) → Run (opening c) front g → Run g behind h → fate_of number g.line.told ≡ Some fate → is_ended fate ≡ true → AllByRecursion (IsOther number) (open_behind g behind)
run-ended c front behind g h number fate before run was ended =
    never_again g.line number fate was ended g behind h (run-line c front g before) (fates-same g.line) run
