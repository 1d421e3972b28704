-- Moments, in hundredths of a second since 2000.
use Rattle.std.specs.Prelude.{ℕ}

-- the last hundredth of the year 9999, past which no moment goes (this tool's profile, time)
abbrev pub last_moment : ℕ
last_moment = 25245561599999
