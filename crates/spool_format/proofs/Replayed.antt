-- One record more, and what all of them give.
use Rattle.std.proofs.Common.{true, ◌≡◌, ℕ, ◌+◌, ◌<◌, List, [], ◌∷◌, ◌++◌, length, refl, sym, subst, arith}
use Rattle.spool.specs.declared.note.Note.{Note}
use Rattle.outside.specs.Disk.{HasAt, Only}
use Rattle.spool_format.proofs.Pieces.{joined}
use Rattle.spool_format.specs.Format.{Sizes, Record, CanStand, may_follow, Stand, replayed, changed, spelled, Shows, Settled, half_start, head_bytes}
use Rattle.spool_format.specs.Items.{IsReadTo}

pub replayed-push : (capacity : ℕ) (notes : List Note) (rs : List Record) (r : Record) → replayed capacity notes (rs ++ r ∷ []) ≡ changed capacity r.1 (replayed capacity notes rs)
replayed-push capacity notes [] r = refl
replayed-push capacity notes (q ∷ rs) r = replayed-push capacity (changed capacity q.1 notes) rs r

pub stand-push : (capacity : ℕ) (notes : List Note) (rs : List Record) (r : Record) → Stand capacity notes rs → 0 < r.0 → CanStand r.1 → may_follow r.1 (replayed capacity notes rs) ≡ true → Stand capacity notes (rs ++ r ∷ [])
stand-push capacity notes [] r stand opened can may = (opened, can, may, tt)
stand-push capacity notes (q ∷ rs) r stand opened can may = (stand.0, stand.1, stand.2, stand-push capacity (changed capacity q.1 notes) rs r stand.3 opened can may)

-- what was read is what each image has
pub settled_read : (s : Sizes) (selector end : ℕ) (notes : List Note) (R : List ℕ) (images : List ℕ → Type 0) (told : Type 0) → told → HasAt R 0 (head_bytes s selector)
    → IsReadTo told R (half_start s selector) s.capacity notes (half_start s selector + end) → HasAt R (half_start s selector + end) (0 ∷ []) → end < s.half → Only R images → Settled s selector end notes images
settled_read s selector end notes R images told t head rd closed within only =
    let start = half_start s selector in
    let is_end : end ≡ length (spelled rd.records) = omega (arith, rd.at_is) in
    let shows : Shows s selector rd.records R = record {
      head = head;
      text = joined R start (start + end) (spelled rd.records) (0 ∷ []) rd.at_is (rd.there t) closed;
      within = omega (arith, is_end, within);
    } in
    record {
      records = rd.records;
      stand = rd.stand;
      notes_are = rd.notes_are;
      end_is = is_end;
      shows = λ c left. subst (Shows s selector rd.records) (sym (only c left)) shows;
    }
