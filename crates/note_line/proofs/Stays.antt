-- A line that is kept stays so.
use Rattle.std.proofs.Common.{◌≡◌, ◌≤◌, true, false, List, [], ◌∷◌, ◌++◌, length, Option, Some, None, IfSome, is_some, Bor, slice_get, slice_index_or, nat_lt, refl, subst}
use Rattle.std.proofs.lemmas.Bool.{true≢false}
use Rattle.std.specs.List.{AllByRecursion}
use Rattle.std.specs.Option.{option_to_list}
use Rattle.spool.specs.declared.note.Note.{Note}
use Rattle.spool.specs.Spool as spool
use Rattle.note_line.specs.declared.around.Around.{Around}
use Rattle.note_line.specs.Line.{Line, in_kind, with_fate, failed, with_head, with_open, told_lost, lost_is_dropped, sent, open_oldest, open_oldest_of, fated, purge_oldest, purge_oldest_of}
use Rattle.note_line.specs.declared.fate.Fate.TheVariants.{Spooled, Dropped}
use Rattle.note_line.specs.declared.fate.DropCause.TheVariants.{NoSpool, Purged}
use Rattle.note_line.specs.Kept.{KeptLine}
use Rattle.note_line.specs.Limits.{most_text, IsShort, AreShort}
use Rattle.note_line.proofs.Lists.{all_second}
use Rattle.note_line.proofs.Rows.{Goes}

pub stays : (g h : Line) → Goes g h → KeptLine g → KeptLine h
stays g h goes k = record { valid = goes.valid; short = goes.short k.short }

-- ---- what an effect is where there is a note for it

-- the first of those that wait
pub of_head : (act : Note → Line → Line) (l : Line) (note : Note) (rest : List Note) → l.waiting ≡ note ∷ rest → KeptLine (with_head act l.waiting l) → KeptLine (act note (record l { waiting = rest }))
of_head act l note rest e = subst (λ notes. KeptLine (with_head act notes l)) e

-- the open one
pub of_open : (act : Note → Line → Line) (l : Line) (note : Note) → l.opened ≡ Some note → KeptLine (with_open act l.opened l) → KeptLine (act note (record l { opened = None }))
of_open act l note e = subst (λ one. KeptLine (with_open act one l)) e

-- the oldest spooled one
pub of_oldest : (l : Line) (note : Note) → Some note ≡ slice_get l.spool.notes 0 → open_oldest l ≡ sent note (record l { spool = spool.sent l.spool })
of_oldest l note = of l.spool.notes where
  of : (notes : List Note) → Some note ≡ slice_get notes 0 → open_oldest_of notes l ≡ sent note (record l { spool = spool.sent l.spool })
  of [] e = absurd (cc)
  of (first ∷ notes) e = let same : first ≡ note = cc in rw same refl

pub of_purged : (l : Line) (note : Note) → Some note ≡ slice_get l.spool.notes 0 → purge_oldest l ≡ fated (Dropped Purged) note (record l { spool = spool.purged l.spool })
of_purged l note = of l.spool.notes where
  of : (notes : List Note) → Some note ≡ slice_get notes 0 → purge_oldest_of notes l ≡ fated (Dropped Purged) note (record l { spool = spool.purged l.spool })
  of [] e = absurd (cc)
  of (first ∷ notes) e = let same : first ≡ note = cc in rw same refl

-- a note that the spool lost changes what became of it alone
pub lost-told : (o : Option Note) (l : Line) → lost_is_dropped o l ≡ record l { told = told_lost o l.told }
lost-told None l = refl
lost-told (Some note) l = refl

-- the open note fails: it goes back to the spool, or is dropped
pub fails_to_spool : (a : Around) (l : Line) (note : Note) → l.opened ≡ Some note → in_kind l.kinds note ≡ true → with_open (failed a) l.opened l ≡ record l { opened = None; spool = spool.put_back a.overwrites note l.spool; told = told_lost (spool.put_back_loses a.overwrites note l.spool) (with_fate note.number Spooled l.told) }
fails_to_spool a l note o k = rw (o, k) (lost-told (spool.put_back_loses a.overwrites note l.spool) _)

pub fails_dropped : (a : Around) (l : Line) (note : Note) → l.opened ≡ Some note → in_kind l.kinds note ≡ false → with_open (failed a) l.opened l ≡ record l { opened = None; told = with_fate note.number (Dropped NoSpool) l.told }
fails_dropped a l note o k = rw (o, k) refl

pub fails_none : (a : Around) (l : Line) → l.opened ≡ None → with_open (failed a) l.opened l ≡ record l { opened = None }
fails_none a l o = rw o refl

-- ---- the text of the first that waits

pub head-short : (l : Line) (one : Option (Bor Note)) → AreShort l → is_some one ≡ nat_lt 0 (length l.waiting) → IfSome one (λ note. note.now ≡ slice_index_or l.waiting 0 note.now) → IfSome one (λ note. length note.now.text ≤ most_text)
head-short l None short some e = tt
head-short l (Some note) short some e = of l.waiting (all_second IsShort l.spool.notes l.waiting (all_second IsShort (option_to_list l.opened) (l.spool.notes ++ l.waiting) short)) some e where
  of : (notes : List Note) → AllByRecursion IsShort notes → true ≡ nat_lt 0 (length notes) → note.now ≡ slice_index_or notes 0 note.now → length note.now.text ≤ most_text
  of [] are some f = absurd (true≢false some)
  of (first ∷ notes) are some f = rw f are.0
