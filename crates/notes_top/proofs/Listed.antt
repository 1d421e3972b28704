-- Notes that are printed, one after another.
use Rattle.std.proofs.Common.{◌≡◌, ℕ, List, [], ◌∷◌, ◌++◌, take, drop, Option, Some, Result, Ok, Err, slice_get, refl, sym, ◌∙◌, ap, subst, append_assoc, take-append-drop}
use Rattle.std.specs.Prelude.{zero, suc, OnErr}
use Rattle.std.proofs.lemmas.List.{append-nil}
use Rattle.outside.specs.Told.{Written, WrittenFront}
use Rattle.outside.proofs.Writing.{WrittenFront-more, WrittenFront-wider}
use Rattle.spool.specs.declared.note.Note.{Note}
use Rattle.notes_lines.specs.Printed.{note_line, listed}

-- one note more
pub listed-next : (notes : List Note) (index : ℕ) (note : Note) → slice_get notes index ≡ Some note → listed (take (suc index) notes) ≡ listed (take index notes) ++ note_line note
listed-next [] index note is = absurd cc
listed-next (n ∷ notes) zero note is = let same : n ≡ note = cc in ap (λ (m : Note). note_line m ++ []) same ∙ append-nil (note_line note)
listed-next (n ∷ notes) (suc index) note is =
    ap (λ (t : List ℕ). note_line n ++ t) (listed-next notes index note is) ∙ sym (append_assoc (note_line n) (listed (take index notes)) (note_line note))

listed-both : (front back : List Note) → listed (front ++ back) ≡ listed front ++ listed back
listed-both [] back = refl
listed-both (n ∷ front) back = ap (λ (t : List ℕ). note_line n ++ t) (listed-both front back) ∙ sym (append_assoc (note_line n) (listed front) (listed back))

-- the first notes are a front of all
pub listed-front : (a b : Option (List ℕ)) (notes : List Note) (index : ℕ) → WrittenFront a b (listed (take index notes)) → WrittenFront a b (listed notes)
listed-front a b notes index front =
    subst (WrittenFront a b) (sym (listed-both (take index notes) (drop index notes)) ∙ ap listed (take-append-drop index notes)) (WrittenFront-wider a b (listed (take index notes)) (listed (drop index notes)) front)

-- a front of the next line too
pub listed-front-next : (a b c : Option (List ℕ)) (notes : List Note) (index : ℕ) (note : Note) → slice_get notes index ≡ Some note → Written a b (listed (take index notes)) → WrittenFront b c (note_line note)
    → WrittenFront a c (listed notes)
listed-front-next a b c notes index note is written front =
    listed-front a c notes (suc index) (subst (WrittenFront a c) (sym (listed-next notes index note is)) (WrittenFront-more a b c (listed (take index notes)) (note_line note) written front))

-- what holds whatever the error is
pub on_err : {A E : Type 0} {P : Type 0} (r : Result A E) → P → OnErr r P
on_err (Ok x) p = tt
on_err (Err e) p = p
