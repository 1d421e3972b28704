-- How much of a source is read (this tool's profile, limits).
use Rattle.std.specs.Prelude.{ℕ}

-- so many bytes are read of a source of lines at most
abbrev pub source_bytes : ℕ
source_bytes = 4294967296
