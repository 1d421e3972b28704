-- The variables of the tool: status variables, data variables of events, and equipment constants (SEMI E5, VID; this
-- tool's profile, variables).
use Rattle.std.specs.Prelude.{ℕ, ◌-◌, ◌==◌, Bool, if◌then◌else◌, List, [], ◌∷◌, ◌++◌, map, Option, Some, None, is_some, codes}
use Rattle.std.specs.Option.{option_or}
use Rattle.gem_rows.specs.Lines.{Line, one, each, is_behind, name_in, numbers_in}
use Rattle.gem_rows.specs.declared.variables.StatusVariable.{StatusVariable}
use Rattle.gem_rows.specs.declared.variables.StatusVariable.TheVariants as status

-- a row of the list of status variables: one number with its name and the variable that it is; or the numbers behind a base,
-- one for each of so many things, with the name that stands before the thing's number, and the variable of each thing
pub data StatusRow : Type 0 where
  of_tool : ℕ → List ℕ → StatusVariable → StatusRow
  of_each : ℕ → ℕ → List ℕ → (ℕ → StatusVariable) → StatusRow

-- the status variables of a plant of so many ports and chambers, as printed
abbrev pub status_rows : ℕ → ℕ → List StatusRow
status_rows ports chambers =
    of_tool 1 (codes "Clock") status.Clock
    ∷ of_tool 2 (codes "CommState") status.CommState
    ∷ of_tool 3 (codes "ControlState") status.ControlState
    ∷ of_tool 4 (codes "SpoolCountActual") status.SpoolCountActual
    ∷ of_tool 5 (codes "SpoolCountTotal") status.SpoolCountTotal
    ∷ of_tool 6 (codes "SpoolLoad") status.SpoolLoad
    ∷ of_tool 7 (codes "SpoolUnload") status.SpoolUnload
    ∷ of_tool 8 (codes "AlarmsSet") status.AlarmsSet
    ∷ of_tool 9 (codes "ProcessJobCount") status.ProcessJobCount
    ∷ of_tool 10 (codes "ControlJobCount") status.ControlJobCount
    ∷ of_tool 12 (codes "ArmSubstrate") status.ArmSubstrate
    ∷ of_tool 13 (codes "AlignerSubstrate") status.AlignerSubstrate
    ∷ of_each 20 chambers (codes "ChamberSubstrate") status.ChamberSubstrate
    ∷ of_each 30 ports (codes "PortTransfer") status.PortTransfer
    ∷ of_each 40 ports (codes "PortAccess") status.PortAccess
    ∷ of_each 50 ports (codes "PortCarrier") status.PortCarrier
    ∷ []

-- the variables that are no status variables, as printed
abbrev pub other_lines : List Line
other_lines =
    -- data variables of the event at hand
    one 100 (codes "EventObject")
    ∷ one 101 (codes "EventRow")
    -- equipment constants
    ∷ one 201 (codes "EstablishTimeout")
    ∷ one 202 (codes "MaxSpoolTransmit")
    ∷ one 203 (codes "OverWriteSpool")
    ∷ one 204 (codes "T3")
    ∷ one 205 (codes "T7")
    ∷ one 206 (codes "T6")
    ∷ one 207 (codes "LinktestPeriod")
    ∷ []

-- the numbers of a row with their names
abbrev pub row_line : StatusRow → Line
row_line (of_tool vid name variable) = one vid name
row_line (of_each base count name variable) = each base count name []

-- all variables of such a plant, with their names
abbrev pub variable_lines : ℕ → ℕ → List Line
variable_lines ports chambers = map row_line (status_rows ports chambers) ++ other_lines

-- the name of a VID, in the largest plant that there can be: 4 ports and 8 chambers
abbrev pub vid_name : ℕ → Option (List ℕ)
vid_name vid = name_in (variable_lines 4 8) vid

-- a plant of so many ports and chambers knows a VID
abbrev pub is_vid : ℕ → ℕ → ℕ → Bool
is_vid ports chambers vid = is_some (name_in (variable_lines ports chambers) vid)

-- the variable that a row gives a number
abbrev pub row_variable : ℕ → StatusRow → Option StatusVariable
row_variable vid (of_tool n name variable) = if vid == n then Some variable else None
row_variable vid (of_each base count name variable) = if is_behind base count vid then Some (variable (vid - base)) else None

-- the variable that the rows give a number, where one of them has it
abbrev pub variable_in : List StatusRow → ℕ → Option StatusVariable
variable_in [] vid = None
variable_in (r ∷ rows) vid = option_or (row_variable vid r) (variable_in rows vid)

-- the status variable of a VID, in the largest plant
abbrev pub status_variable : ℕ → Option StatusVariable
status_variable vid = variable_in (status_rows 4 8) vid

-- the numbers of the status variables of the largest plant, as printed
abbrev pub status_vids : List ℕ
status_vids = numbers_in (map row_line (status_rows 4 8))
