-- Which rows open a note: 12 the oldest spooled one, and 13 the head, each where the tool communicates and none is open.
use Rattle.std.proofs.Common.{◌≡◌, ℕ, ◌==◌, Bool, true, false, List, [], ◌∷◌, Option, Some, None, slice_get, refl, sym, subst, arith, ◌∙◌, if◌then◌else◌}
use Rattle.std.specs.List.{AllByRecursion}
use Rattle.std.proofs.lemmas.Bool.{true≢false}
use Rattle.std.proofs.lemmas.Bool.Decides.{nat_tests}
use Rattle.spool.specs.declared.note.Note.{Note}
use Rattle.spool.specs.Spool as spool
use Rattle.note_line.specs.declared.around.Around.{Around}
use Rattle.note_line.specs.declared.fate.DropCause.TheVariants.{NoSpool}
use Rattle.note_line.specs.declared.fate.Fate.TheVariants.{Dropped, Spooled}
use Rattle.note_line.specs.Line.{Line, in_kind, fated, with_head, with_open, lost_is_dropped, spooled, returned, failed, fail_open, sent, open_oldest_of, purge_oldest_of}
use Rattle.note_line.specs.Table3.{Row, line_table, row_of, least, effect_of, row_effect}
use Rattle.note_line.proofs.Rows.{and_first, and_second, find_gives}
use Rattle.note_line.proofs.Keeps.{least_is, is_none}

-- what a row that fires by itself does to the open note
pub data Opens (a : Around) (l h : Line) (number : ℕ) : Type 0 where
  opens_none : h.opened ≡ l.opened → (number == 12) ≡ false → (number == 13) ≡ false → Opens a l h number
  opens_oldest : number ≡ 12 → a.communicates ≡ true → l.opened ≡ None → Opens a l h number
  opens_head : number ≡ 13 → a.communicates ≡ true → l.opened ≡ None → Opens a l h number

abbrev RowOpens : Around → Line → Row → Type 0
RowOpens a l r = r.is_automatic ≡ true → r.when a l ≡ true → Opens a l (r.effect a l) r.number

lost_same : (o : Option Note) (l : Line) → (lost_is_dropped o l).opened ≡ l.opened
lost_same None l = refl
lost_same (Some note) l = refl

purged_same : (notes : List Note) (l : Line) → (purge_oldest_of notes l).opened ≡ l.opened
purged_same [] l = refl
purged_same (note ∷ notes) l = refl

dropped_same : (notes : List Note) (l : Line) → (with_head (fated (Dropped NoSpool)) notes l).opened ≡ l.opened
dropped_same [] l = refl
dropped_same (note ∷ notes) l = refl

spooled_same : (overwrite : Bool) (notes : List Note) (l : Line) → (with_head (spooled overwrite) notes l).opened ≡ l.opened
spooled_same overwrite [] l = refl
spooled_same overwrite (note ∷ notes) l = lost_same (spool.push_loses overwrite note l.spool) (fated Spooled note (record l { waiting = notes; spool = spool.pushed overwrite note l.spool }))

rows_open : (a : Around) (l : Line) → AllByRecursion (RowOpens a l) line_table
rows_open a l = (
  (λ auto w. opens_none refl refl refl),
  (
    (λ auto w. opens_none refl refl refl),
    (
      (λ auto w. opens_none refl refl refl),
      (
        (λ auto w. absurd (true≢false (sym auto))),
        (
          (λ auto w. absurd (true≢false (sym auto))),
          (
            (λ auto w. opens_none (purged_same l.spool.notes l) refl refl),
            (
              (λ auto w. opens_none refl refl refl),
              (
                (λ auto w. opens_none refl refl refl),
                (
                  (λ auto w. opens_none refl refl refl),
                  (
                    (λ auto w. opens_none (spooled_same a.overwrites l.waiting l) refl refl),
                    (
                      (λ auto w. opens_none (dropped_same l.waiting l) refl refl),
                      (
                        (λ auto w. opens_oldest refl (and_second _ _ (and_first _ _ w)) (is_none l.opened (and_second _ _ w))),
                        (
                          (λ auto w. opens_head refl (and_second _ _ (and_first _ _ w)) (is_none l.opened (and_second _ _ w))),
                          (
                            (λ auto w. absurd (true≢false (sym auto))),
                            tt,
                          ),
                        ),
                      ),
                    ),
                  ),
                ),
              ),
            ),
          ),
        ),
      ),
    ),
  ),
)

pub least-opens : (a : Around) (l : Line) (number : ℕ) → least a l ≡ Some number → Opens a l (row_effect a number l) number
least-opens a l number e =
    let least = least_is (RowOpens a l) a l number (rows_open a l) e in
    let opens : Opens a l (least.row.effect a l) number = subst (Opens a l (least.row.effect a l)) least.its_number (least.gives least.is_automatic least.when) in
    subst (λ one. Opens a l (effect_of one a l) number) (sym least.is) opens

-- row 14 leaves none open
returned_none : (overwrite : Bool) (note : Note) (l : Line) → l.opened ≡ None → (returned overwrite note l).opened ≡ None
returned_none overwrite note l none = lost_same (spool.put_back_loses overwrite note l.spool) (fated Spooled note (record l { spool = spool.put_back overwrite note l.spool })) ∙ none

pub fail_none : (a : Around) (l : Line) → (fail_open a l).opened ≡ None
fail_none a l = of l.opened refl where
  failed_none : (note : Note) (h : Line) → h.opened ≡ None → (b : Bool) → (if b then returned a.overwrites note h else fated (Dropped NoSpool) note h).opened ≡ None
  failed_none note h none true = returned_none a.overwrites note h none
  failed_none note h none false = none

  of : (one : Option Note) → l.opened ≡ one → (with_open (failed a) one l).opened ≡ None
  of None is = is
  of (Some note) is = failed_none note (record l { opened = None }) refl (in_kind l.kinds note)

-- ---- which note a row opens, where none is open

-- row 12 the oldest of the spool, and row 13 the head
pub data Sends (l : Line) (note : Note) (number : ℕ) : Type 0 where
  sends_oldest : number ≡ 12 → slice_get l.spool.notes 0 ≡ Some note → Sends l note number
  sends_head : number ≡ 13 → slice_get l.waiting 0 ≡ Some note → Sends l note number

abbrev RowSends : Around → Line → Row → Type 0
RowSends a l r = (note : Note) → (r.effect a l).opened ≡ Some note → Sends l note r.number

pub none_opened : {P : Type 0} (one : Option Note) (note : Note) → one ≡ None → one ≡ Some note → P
none_opened one note none e = absurd (cc)

oldest_opened : (l : Line) (note : Note) → l.opened ≡ None → (notes : List Note) → (open_oldest_of notes l).opened ≡ Some note → slice_get notes 0 ≡ Some note
oldest_opened l note none [] e = none_opened l.opened note none e
oldest_opened l note none (first ∷ notes) e = e

head_opened : (l : Line) (note : Note) → l.opened ≡ None → (notes : List Note) → (with_head sent notes l).opened ≡ Some note → slice_get notes 0 ≡ Some note
head_opened l note none [] e = none_opened l.opened note none e
head_opened l note none (first ∷ notes) e = e

rows_send : (a : Around) (l : Line) → l.opened ≡ None → AllByRecursion (RowSends a l) line_table
rows_send a l none = (
  (λ note e. none_opened l.opened note none e),
  (
    (λ note e. none_opened l.opened note none e),
    (
      (λ note e. none_opened l.opened note none e),
      (
        (λ note e. none_opened l.opened note none e),
        (
          (λ note e. none_opened l.opened note none e),
          (
            (λ note e. none_opened _ note (purged_same l.spool.notes l ∙ none) e),
            (
              (λ note e. none_opened l.opened note none e),
              (
                (λ note e. none_opened l.opened note none e),
                (
                  (λ note e. none_opened l.opened note none e),
                  (
                    (λ note e. none_opened _ note (spooled_same a.overwrites l.waiting l ∙ none) e),
                    (
                      (λ note e. none_opened _ note (dropped_same l.waiting l ∙ none) e),
                      (
                        (λ note e. sends_oldest refl (oldest_opened l note none l.spool.notes e)),
                        (
                          (λ note e. sends_head refl (head_opened l note none l.waiting e)),
                          (
                            (λ note e. none_opened _ note (fail_none a l) e),
                            tt,
                          ),
                        ),
                      ),
                    ),
                  ),
                ),
              ),
            ),
          ),
        ),
      ),
    ),
  ),
)

pub row-sends : (a : Around) (number : ℕ) (l : Line) (note : Note) → l.opened ≡ None → (row_effect a number l).opened ≡ Some note → Sends l note number
row-sends a number l note none = of (row_of number) refl where
  of : (one : Option Row) → row_of number ≡ one → (effect_of one a l).opened ≡ Some note → Sends l note number
  of None q e = none_opened l.opened note none e
  of (Some r) q e =
      let found = find_gives (RowSends a l) (λ r. r.number == number) line_table r (rows_send a l none) q in
      let same : r.number ≡ number = let is = found.1 in grind (arith, nat_tests) in
      subst (Sends l note) same (found.0 note e)
