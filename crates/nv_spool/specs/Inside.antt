-- How a durable spool is kept.
use Rattle.std.specs.Prelude.{◌≡◌, ◌<◌, ℕ, Bool, true, false, List}
use Rattle.std.specs.List.{All}
use Rattle.nv_spool.specs.declared.nv_spool.NvSpool.TheInside.{Inside}
use Rattle.spool_format.specs.Format.{Fits, IsSize}
use Rattle.spool_format.specs.Place.{sizes, IsAt}
use Rattle.nv_spool.specs.Nv.{Nv}

-- what callers see
abbrev pub nv_of : {D : Type 0} → Inside D → Nv D
nv_of kept = record {
  disk = kept.disk;
  notes = kept.queue.notes;
  sizes = sizes kept.queue.capacity kept.place;
  is_closed = kept.is_closed;
}

-- what is always true of the fields; of a disk that tells and didn't fail: each image that a crash may leave shows the notes
pub record IsKept {D : Type 0} (tells : D → Bool) (leaves : D → List ℕ → Type 0) (kept : Inside D) : Type 0 where
  pub size : IsSize (sizes kept.queue.capacity kept.place)
  pub end : kept.place.end < kept.place.half
  pub fits : All Fits kept.queue.notes
  pub settled : kept.is_closed ≡ false → tells kept.disk ≡ true → IsAt kept.queue.capacity kept.place kept.queue.notes (leaves kept.disk)
