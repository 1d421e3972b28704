-- The alarms of the tool (SEMI E5, ALID and ALTX; this tool's profile, alarms).
use Rattle.std.specs.Prelude.{ℕ, ◌+◌, List, [], ◌∷◌, Option, codes}
use Rattle.gem_rows.specs.Lines.{Line, one, each, name_in, numbers_in}

-- the alarms of so many modules and ports, as printed
abbrev pub alarm_lines : ℕ → ℕ → List Line
alarm_lines modules ports =
    each 10 modules (codes "module ") (codes " down")
    ∷ each 30 ports (codes "port ") (codes " unexpected carrier signal")
    ∷ one 50 (codes "unexpected command answer")
    ∷ []

-- the text of an ALID, in the largest plant that there can be: 10 modules and 4 ports
abbrev pub alarm_text : ℕ → Option (List ℕ)
alarm_text alid = name_in (alarm_lines 10 4) alid

-- the alarms of a plant of so many ports and chambers, rising; robot and aligner are modules too
abbrev pub alids : ℕ → ℕ → List ℕ
alids ports chambers = numbers_in (alarm_lines (2 + chambers) ports)
