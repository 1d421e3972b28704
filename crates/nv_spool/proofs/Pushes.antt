-- A half as a compaction writes it: one push per note.
use Rattle.std.proofs.Common.{◌≡◌, ℕ, ◌+◌, ◌*◌, ◌≤◌, List, [], ◌∷◌, ◌++◌, length, take, drop, refl, sym, ◌∙◌, ap, subst, arith, length-append}
use Rattle.std.specs.Prelude.{slice_get, Some}
use Rattle.std.specs.List.{All}
use Rattle.std.proofs.lemmas.List.{map-append, take_more, take-append-drop}
use Rattle.std.proofs.lemmas.Option.{slice_get_within, get_or_from_slice_get}
use Rattle.std.proofs.lemmas.List.Elements.{All-head, All-tail, All-get_or}
use Rattle.spool.specs.declared.note.Note.{Note}
use Rattle.nv_spool.specs.Writing.{push_of, pushes}
use Rattle.spool_format.proofs.Spelled.{spelled-append, spelled-push}
use Rattle.spool_format.specs.Format.{Fits, body, note_head, record_bytes, spelled}

pub push_split : (note : Note) → (1 ∷ 1 ∷ 0 ∷ note_head note) ++ note.text ≡ record_bytes (push_of note)
unfolding body
push_split note = refl

pub push_size : (note : Note) → length (record_bytes (push_of note)) ≡ 20 + length note.text
push_size note = ap length (sym (push_split note)) ∙ length-append (1 ∷ 1 ∷ 0 ∷ note_head note) note.text

-- how long a half of pushes is
pub pushes_size : (notes : List Note) → All Fits notes → length (spelled (pushes notes)) ≤ 87020 * length notes
pushes_size [] fits = omega arith
pushes_size (note ∷ notes) fits =
    let here : Fits note = All-head Fits note notes fits in
    let rest = pushes_size notes (All-tail Fits note notes fits) in
    omega (arith, length-append (record_bytes (push_of note)) (spelled (pushes notes)), push_size note, here.text)

pub pushes-push : (notes : List Note) (note : Note) → spelled (pushes (notes ++ note ∷ [])) ≡ spelled (pushes notes) ++ record_bytes (push_of note)
pushes-push notes note = ap spelled (map-append push_of notes (note ∷ [])) ∙ spelled-push (pushes notes) (push_of note)

module _ (notes : List Note) (i : ℕ) (note : Note) (here : slice_get notes i ≡ Some note) where
  taken_more : take (i + 1) notes ≡ take i notes ++ note ∷ []
  taken_more = take_more notes i note (slice_get_within notes i note here) ∙ ap (λ (x : Note). take i notes ++ x ∷ []) (get_or_from_slice_get notes i note note here)

  -- the pushes of one note more
  pub pushes_more : spelled (pushes (take (i + 1) notes)) ≡ spelled (pushes (take i notes)) ++ record_bytes (push_of note)
  pushes_more = ap (λ (ns : List Note). spelled (pushes ns)) taken_more ∙ pushes-push (take i notes) note

  pub pushes_room : length (spelled (pushes (take i notes))) + length (record_bytes (push_of note)) ≤ length (spelled (pushes notes))
  pushes_room =
      let whole : spelled (pushes (take (i + 1) notes)) ++ spelled (pushes (drop (i + 1) notes)) ≡ spelled (pushes notes) =
      sym (spelled-append (pushes (take (i + 1) notes)) (pushes (drop (i + 1) notes))) ∙ ap spelled (sym (map-append push_of (take (i + 1) notes) (drop (i + 1) notes)))
      ∙ ap (λ (ns : List Note). spelled (pushes ns)) (take-append-drop (i + 1) notes) in
      omega (arith, ap length whole, ap length pushes_more, length-append (spelled (pushes (take (i + 1) notes))) (spelled (pushes (drop (i + 1) notes))), length-append (spelled (pushes (take i notes))) (record_bytes (push_of note)))

  pub fits_there : All Fits notes → Fits note
  fits_there fits = subst Fits (get_or_from_slice_get notes i note note here) (All-get_or Fits notes i note (slice_get_within notes i note here) fits)
