-- What holds of a disk, and of a spool over it, where lines stand.
use Rattle.std.specs.Prelude.{◌≡◌, ◌⊎◌, ℕ, ◌≤◌, ⊤, Bool, true, false, List, Option, Result, Ok, Err}
use Rattle.outside.specs.Counts.{Rose}
use Rattle.outside.specs.Told.{Written, WrittenFront}
use Rattle.outside.specs.Disk.{Each}
use Rattle.spool.specs.declared.note.Note.{Note}
use Rattle.spool_format.specs.Format.{Sizes}
use Rattle.spool_format.specs.Unread.{IsUnread}
use Rattle.nv_spool.specs.Nv.{Nv}
use Rattle.nv_spool.specs.Writing.{BeforeOrAfter}
use Rattle.notes_lines.specs.declared.line.SpoolLine.{SpoolLine}
use Rattle.notes_lines.specs.declared.line.SpoolLine.TheVariants as line
use Rattle.notes_top.specs.Stages.{Stage, Open, is_open, Opens, behind, Does, Holds}
use Rattle.notes_top.specs.declared.kept.Kept.{Kept}
use Rattle.notes_top.specs.declared.kept.Kept.TheVariants as kept
use Rattle.notes_top.specs.declared.stop.Stop.{Stop}
use Rattle.notes_top.specs.declared.stop.Stop.TheVariants as stop

-- the disk, by itself or under a spool
abbrev pub disk_of : {D : Type 0} → Kept D → D
disk_of (kept.Disk disk) = disk
disk_of (kept.Spool nv) = nv.disk

module _ {D : Type 0} (tells : D → Bool) (reads : D → List ℕ) (leaves : D → List ℕ → Type 0) (faults : D → ℕ) where
  -- the disk that was found is now at this stage
  pub record DiskAt (first : D) (stage : Stage) (now : D) : Type 0 where
    pub tells_same : tells now ≡ tells first
    pub faults_stay : faults first ≤ faults now
    pub holds : tells first ≡ true → Holds (reads first) (leaves first) stage (reads now) (leaves now)

  -- the spool is open exactly where the stage says so, and has the notes of that
  abbrev pub KeptAt : D → Stage → Kept D → Type 0
  KeptAt first stage (kept.Disk disk) = (is_open stage ≡ false) × DiskAt first stage disk
  KeptAt first stage (kept.Spool nv) = (stage ≡ Open nv.sizes nv.notes) × (nv.is_closed ≡ false) × DiskAt first stage nv.disk

  -- A spool over the disk of this stage is open: it has the notes that a line finds there. The disk is as it was.
  pub record OpenedAt (first : D) (stage : Stage) (nv : Nv D) : Type 0 where
    pub opens : Opens (tells first ≡ true) (reads first) stage nv.sizes nv.notes
    pub opened : nv.is_closed ≡ false
    pub as_before : DiskAt first stage nv.disk
    pub now : DiskAt first (Open nv.sizes nv.notes) nv.disk

  -- what the disk failed in: its format promises nothing then; else it is as it was, or each image has the notes from before the line or
  -- those behind it
  abbrev pub Broken : D → Stage → SpoolLine → D → Type 0
  Broken first stage (line.Format capacity half) now = ⊤
  Broken first stage says now =
      DiskAt first stage now
      ⊎ ((s : Sizes) × (notes : List Note) × Opens (tells first ≡ true) (reads first) stage s notes
      × (tells first ≡ true → Each (leaves now) (BeforeOrAfter s notes (behind s.capacity says notes))))

  -- why no line is done that says so, and what stands then: nothing of it is written, and the disk is as it was, unless it failed
  abbrev pub Refuses : D → Stage → Result SpoolLine ℕ → D → Stop → Type 0
  Refuses first stage says now (stop.Line place) = (says ≡ Err place) × DiskAt first stage now
  Refuses first stage says now stop.NoMemory = DiskAt first stage now
  Refuses first stage says now stop.Disk = (line : SpoolLine) × (says ≡ Ok line) × Rose (faults first) (faults now) × Broken first stage line now
  Refuses first stage says now (stop.Unread place) =
      (line : SpoolLine) × (says ≡ Ok line) × (is_open stage ≡ false) × DiskAt first stage now × (tells first ≡ true → IsUnread (reads first) place)
  Refuses first stage says now stop.Write = ⊥

  -- A line was done, and what it prints is written; or it was not, and nothing is; or it prints bytes of which a front is written: then the line
  -- was done, or for want of memory it was not.
  abbrev pub TakesLine : D → Stage → Result SpoolLine ℕ → Kept D → Result (Unit {0}) Stop → Option (List ℕ) → Option (List ℕ) → Type 0
  TakesLine first stage says now (Ok done) held held' =
      (line : SpoolLine) × (printed : List ℕ) × (next : Stage) × (says ≡ Ok line) × Does (tells first ≡ true) (reads first) stage line printed next
      × KeptAt first next now × Written held held' printed
  TakesLine first stage says now (Err stop.Write) held held' =
      (line : SpoolLine) × (printed : List ℕ) × (next : Stage) × (says ≡ Ok line) × Does (tells first ≡ true) (reads first) stage line printed next
      × DiskAt first next (disk_of now) × WrittenFront held held' printed
  TakesLine first stage says now (Err stop.NoMemory) held held' =
      DiskAt first stage (disk_of now)
      × ((held' ≡ held)
      ⊎ ((line : SpoolLine) × (printed : List ℕ) × (next : Stage) × (says ≡ Ok line) × Does (tells first ≡ true) (reads first) stage line printed next
      × WrittenFront held held' printed))
  TakesLine first stage says now (Err why) held held' = Refuses first stage says (disk_of now) why × (held' ≡ held)
