-- New values for the equipment constants (SEMI E5, S2F15 and EAC; this tool's profile, equipment constants).
use Rattle.std.specs.Prelude.{ℕ, ◌==◌, not, if◌then◌else◌, List, [], ◌∷◌, Option, Some, None, unwrap_or, find, map}
use Rattle.std.specs.Option.{option_or}
use Rattle.data_variables.specs.declared.constant.Constant.{Constant}
use Rattle.data_variables.specs.declared.val.Val.{Val}
use Rattle.data_variables.specs.Table.{constant_of, takes}

-- the code of a value that is said for a constant, none where it is of another kind: 0 where the constant takes the
-- value, 1 where there is no such constant, 3 where the value is of another kind or out of range
abbrev pub said_code : Option Constant → Option Val → ℕ
said_code None said = 1
said_code (Some c) None = 3
said_code (Some c) (Some value) = if takes c value then 0 else 3

-- the code of a pair: an ECID, and the value that is said for it
abbrev pub pair_code : ℕ × Option Val → ℕ
pair_code set = said_code (constant_of set.0) set.1

-- EAC: the code of the first pair that has another than 0, and 0 where all are good
abbrev pub eac : List (ℕ × Option Val) → ℕ
eac sets = unwrap_or (find (λ code. not (code == 0)) (map pair_code sets)) 0

-- the value that the last pair of an ECID says
abbrev pub last_said : ℕ → List (ℕ × Option Val) → Option Val
last_said ecid [] = None
last_said ecid (set ∷ sets) = option_or (last_said ecid sets) (if set.0 == ecid then set.1 else None)

-- the constants, each with the last value that is said for it, else with the one that it had
abbrev pub with_said : List (ℕ × Option Val) → List (ℕ × Val) → List (ℕ × Val)
with_said sets values = map (λ p. (p.0, unwrap_or (last_said p.0 sets) p.1)) values

-- the constants, one of them with a new value
abbrev pub with_value : ℕ → Val → List (ℕ × Val) → List (ℕ × Val)
with_value ecid value values = map (λ p. (p.0, if ecid == p.0 then value else p.1)) values

-- the constants behind the pairs: all of these count, or none
abbrev pub set_all_after : List (ℕ × Option Val) → List (ℕ × Val) → List (ℕ × Val)
set_all_after sets values = if eac sets == 0 then with_said sets values else values
