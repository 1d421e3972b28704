-- What each answer other than Ok says.
use Rattle.std.specs.Prelude.{ℕ}
use Rattle.spool_format.specs.declared.fault.NvFault.{NvFault}
use Rattle.spool_format.specs.declared.fault.NvFault.TheVariants.{Disk, Closed, Unread, NoMemory}

-- what is so at each fault of a call that reads: of the disk, of the bytes at a place, of memory
abbrev pub Told : Type 0 → (ℕ → Type 0) → NvFault → Type 0
Told disk unread Disk = disk
Told disk unread Closed = ⊥
Told disk unread (Unread place) = unread place
Told disk unread NoMemory = Unit {0}
