-- A note is sent as it opens, with its text.
use Rattle.std.proofs.Common.{◌≡◌, ◌∙◌, ℕ, ◌+◌, ◌*◌, ◌==◌, Bool, true, false, if◌then◌else◌, List, [], ◌∷◌, ◌++◌, slice_get, Some, None, refl, sym, ap, subst}
use Rattle.gem_tables.specs.Table.{firing}
use Rattle.gem_tables.specs.declared.firing.Firing.{Firing}
use Rattle.gem_rows.specs.Events.{ceid_of}
use Rattle.spool.specs.declared.note.Note.{Note}
use Rattle.transactions.specs.Table.{is_full}
use Rattle.note_line.specs.Line.{Line}
use Rattle.note_line.proofs.Opens.{Sends, sends_oldest, sends_head, none_opened, row-sends}
use Rattle.gem_model.specs.State.{State, is_online, around}
use Rattle.gem_model.specs.Fire.{fire}
use Rattle.gem_model.specs.Machines.{object_name, takes_effect, fire_floor}
use Rattle.gem_model.specs.Effects.{fire_comm, fire_control, fire_line, asks_first}
use Rattle.gem_model.proofs.OnFloor.{effect_as}
use Rattle.gem_model.specs.OpenNotes.{note_frame, IsSent}
use Rattle.gem_model.proofs.Lined.{line_comm, line_control}
use Rattle.gem_model.proofs.Room.{same_open}

-- the first of some notes is sent
asks_frame : (g : State) (note : Note) (notes : List Note) → is_full g.transactions ≡ false → slice_get notes 0 ≡ Some note → (asks_first notes g).waiting ≡ g.waiting ++ note_frame note g ∷ []
asks_frame g note [] room first = absurd (cc)
asks_frame g note (one ∷ notes) room first = let same : one ≡ note = cc in rw (room, same) refl

-- by the row that opens it
row_frame : (g : State) (row : ℕ) (note : Note) → is_full g.transactions ≡ false → Sends g.line note row → (fire_line row g).waiting ≡ g.waiting ++ note_frame note g ∷ []
row_frame g row note room (sends_oldest is first) = rw is (asks_frame g note g.line.spool.notes room first)
row_frame g row note room (sends_head is first) = rw is (asks_frame g note g.line.waiting room first)

-- of a table that leaves the line alone
not_here : {P : Type 0} (g h : State) (note : Note) → h.line ≡ g.line → g.line.opened ≡ None → h.line.opened ≡ Some note → P
not_here g h note same none is = none_opened h.line.opened note (ap (λ (l : Line). l.opened) same ∙ none) is

effect_frame : (g : State) (f : Firing) (note : Note) → is_full g.transactions ≡ false → g.line.opened ≡ None → (takes_effect g f).line.opened ≡ Some note → (takes_effect g f).waiting ≡ g.waiting ++ note_frame note g ∷ []
effect_frame g f note room none = subst (λ (k : State). k.line.opened ≡ Some note → k.waiting ≡ g.waiting ++ note_frame note g ∷ []) (sym (effect_as g f)) (of (f.row.table == 1) (f.row.table == 2) (f.row.table == 3)) where
  row : ℕ
  row = f.row.row

  of : (first second third : Bool) → (if first then fire_comm row g else (if second then fire_control row g else (if third then fire_line row g else fire_floor f g))).line.opened ≡ Some note → (if first then fire_comm row g else (if second then fire_control row g else (if third then fire_line row g else fire_floor f g))).waiting ≡ g.waiting ++ note_frame note g ∷ []
  of true second third is = not_here g (fire_comm row g) note (line_comm g row) none is
  of false true third is = not_here g (fire_control row g) note (line_control g row) none is
  of false false true is = row_frame g row note room (row-sends (around g) row g.line note none is)
  of false false false is = none_opened g.line.opened note none is

-- whichever row opens a note, sends it
pub opens-sends : (g : State) (f : Firing) (note : Note) → is_full g.transactions ≡ false → g.line.opened ≡ None → (fire g f).line.opened ≡ Some note → IsSent note g (fire g f)
opens-sends g f note room none is =
    let same = same_open (ceid_of f.row.table f.row.row) (record { object = object_name g f; row = 100 * f.row.table + f.row.row }) (is_online g.control) (takes_effect g f) in
    record { opened = is; frame = effect_frame g f note room none (sym same ∙ is) }

-- row 12, and row 13
pub oldest-sent : (g : State) (note : Note) (notes : List Note) → is_full g.transactions ≡ false → g.line.spool.notes ≡ note ∷ notes → IsSent note g (fire g (firing 3 0 12))
oldest-sent g note notes room first = record {
  opened = rw first refl;
  frame = asks_frame g note g.line.spool.notes room (ap (λ (xs : List Note). slice_get xs 0) first);
}

pub head-sent : (g : State) (note : Note) (notes : List Note) → is_full g.transactions ≡ false → g.line.waiting ≡ note ∷ notes → IsSent note g (fire g (firing 3 0 13))
head-sent g note notes room first = record {
  opened = rw first refl;
  frame = asks_frame g note g.line.waiting room (ap (λ (xs : List Note). slice_get xs 0) first);
}
