-- What stands at a place of a disk's bytes is one thing.
use Rattle.std.proofs.Common.{◌≡◌, inl, inr, ℕ, ◌+◌, ◌-◌, ◌<◌, ◌≤◌, ◌^◌, Bool, List, [], ◌∷◌, ◌++◌, length, get_or, refl, sym, ◌∙◌, ap, subst, arith}
use Rattle.std.specs.Int.{w32, w64, to_be_bytes, from_be_bytes}
use Rattle.std.proofs.lemmas.Nat.{from_be_bytes-to_be_bytes_4, from_be_bytes-to_be_bytes_8}
use Rattle.std.proofs.lemmas.List.{ext_get_or, get_or_past}
use Rattle.std.proofs.lemmas.Bool.{cases_lt}
use Rattle.spool.specs.declared.note.Note.{Note}
use Rattle.outside.specs.Disk.{HasAt}
use Rattle.spool_format.proofs.Pieces.{joined}
use Rattle.spool_format.specs.Format.{body, flag, record_bytes, note_head}
use Rattle.spool_format.specs.Runs.{IsMissing}
use Rattle.spool_format.specs.declared.change.Change.TheVariants.{Take}
use Rattle.spool_format.specs.Items.{noted}
use Rattle.spool_format.specs.Unread.{HasNote}
use Rattle.spool_format.proofs.Spelled.{noted_is}

pub same_piece : (bytes : List ℕ) (at : ℕ) (xs ys : List ℕ) → length xs ≡ length ys → HasAt bytes at xs → HasAt bytes at ys → xs ≡ ys
same_piece bytes at xs ys size this that = ext_get_or 0 xs ys size (λ i lt. sym (this.same i lt) ∙ that.same i (omega arith))

pub bytes_fit : (bytes : List ℕ) (i : ℕ) → ((k : ℕ) → k < length bytes → get_or bytes k 0 < 256) → get_or bytes i 0 < 256
bytes_fit bytes i fit = elim (cases_lt i (length bytes)) [ inl lt ↦ fit i lt | inr le ↦ omega (arith, get_or_past bytes i 0 le) ]

pub number_32 : (m n : ℕ) → m < 2 ^ 32 → n < 2 ^ 32 → to_be_bytes w32 m ≡ to_be_bytes w32 n → m ≡ n
number_32 m n small small' same = sym (from_be_bytes-to_be_bytes_4 m small) ∙ ap (from_be_bytes w32) same ∙ from_be_bytes-to_be_bytes_4 n small'

pub number_64 : (m n : ℕ) → m < 2 ^ 64 → n < 2 ^ 64 → to_be_bytes w64 m ≡ to_be_bytes w64 n → m ≡ n
number_64 m n small small' same = sym (from_be_bytes-to_be_bytes_8 m small) ∙ ap (from_be_bytes w64) same ∙ from_be_bytes-to_be_bytes_8 n small'

-- no piece reaches over a missing byte
pub not_missing : (bytes : List ℕ) (at stop place : ℕ) (piece : List ℕ) → HasAt bytes at piece → at + length piece ≤ stop → at ≤ place → place < at + length piece → IsMissing bytes stop place → ⊥
not_missing bytes at stop place piece has fits low high (inl past) = absurd (omega arith)
not_missing bytes at stop place piece has fits low high (inr past) = absurd (omega (arith, has.within (place - at) (omega arith)))

-- ---- records

module _ (bytes : List ℕ) (at gate : ℕ) where
  pub noted_there : (operation : ℕ) (overwrite : Bool) (note : Note) → HasNote operation → HasAt bytes at (gate ∷ operation ∷ []) → HasAt bytes (at + 2) (flag overwrite ∷ []) → HasAt bytes (at + 3) (note_head note ++ note.text) → HasAt bytes at (record_bytes (gate, noted operation overwrite note))
  noted_there operation overwrite note has front ow rest =
      subst (HasAt bytes at) (noted_is gate operation overwrite note has)
      (joined bytes at (at + 2) (gate ∷ operation ∷ []) (flag overwrite ∷ note_head note ++ note.text) refl front
      (joined bytes (at + 2) (at + 3) (flag overwrite ∷ []) (note_head note ++ note.text) (omega arith) ow rest))

  pub take_there : HasAt bytes at (gate ∷ []) → HasAt bytes (at + 1) (3 ∷ []) → HasAt bytes at (record_bytes (gate, Take))
  unfolding body
  take_there opened op = joined bytes at (at + 1) (gate ∷ []) (3 ∷ []) refl opened op
