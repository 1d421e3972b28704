-- The table of the equipment constants (SEMI E5, ECID, ECNAME, ECMIN, ECMAX, ECDEF and UNITS; this tool's profile,
-- equipment constants).
use Rattle.std.specs.Prelude.{ℕ, ◌==◌, Bool, true, false, nat_le, ◌&&◌, List, [], ◌∷◌, Option, option_map, unwrap_or, find, map, codes}
use Rattle.data_variables.specs.declared.constant.Constant.{Constant}
use Rattle.data_variables.specs.declared.val.Val.{Val}
use Rattle.data_variables.specs.declared.val.Val.TheVariants.{Number, Truth}

-- a line of the table: ECID, name, the least value and the most, the default, and the units
abbrev pub constant : ℕ → List ℕ → Val → Val → Val → List ℕ → Constant
constant ecid name least most default units = record { ecid = ecid; name = name; least = least; most = most; default = default; units = units }

-- the constants as printed; cs are hundredths of a second
abbrev pub constant_lines : List Constant
constant_lines =
    constant 201 (codes "EstablishTimeout") (Number 1) (Number 60000) (Number 1000) (codes "cs")
    ∷ constant 202 (codes "MaxSpoolTransmit") (Number 0) (Number 65536) (Number 0) []
    ∷ constant 203 (codes "OverWriteSpool") (Truth false) (Truth true) (Truth false) []
    ∷ constant 204 (codes "T3") (Number 100) (Number 12000) (Number 4500) (codes "cs")
    ∷ constant 205 (codes "T7") (Number 100) (Number 12000) (Number 1000) (codes "cs")
    ∷ constant 206 (codes "T6") (Number 100) (Number 12000) (Number 500) (codes "cs")
    ∷ constant 207 (codes "LinktestPeriod") (Number 0) (Number 60000) (Number 0) (codes "cs")
    ∷ []

-- the ECIDs, as printed
abbrev pub constant_ids : List ℕ
constant_ids = map (λ c. c.ecid) constant_lines

-- the constants with their defaults, as printed
abbrev pub defaults : List (ℕ × Val)
defaults = map (λ c. (c.ecid, c.default)) constant_lines

-- the line of an ECID
abbrev pub constant_of : ℕ → Option Constant
constant_of ecid = find (λ c. c.ecid == ecid) constant_lines

-- a value is of the kind of the least and the most, and between them
abbrev pub is_between : Val → Val → Val → Bool
is_between (Number least) (Number most) (Number n) = nat_le least n && nat_le n most
is_between (Truth least) (Truth most) (Truth t) = true
is_between least most value = false

-- a constant can have a value: it is of the constant's kind and in its range
abbrev pub takes : Constant → Val → Bool
takes c value = is_between c.least c.most value

-- there is a constant of this ECID, and it can have the value
abbrev pub is_allowed : ℕ → Val → Bool
is_allowed ecid value = unwrap_or (option_map (λ c. takes c value) (constant_of ecid)) false
