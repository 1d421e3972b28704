-- The numbers by which a batch draws which module is next (this tool's profile, batch).
use Rattle.std.specs.Prelude.{ℕ, ◌+◌, ◌*◌, ◌^◌, ◌%◌}

-- the number that is drawn behind x: what 64 bits keep of x times a factor, and a step (this tool's profile, batch)
abbrev pub drawn : ℕ → ℕ
drawn x = (x * 6364136223846793005 + 1442695040888963407) % 2 ^ 64
