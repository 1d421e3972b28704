-- What the states of a load port are in its tables, and what a row does to them (after SEMI E87; this tool's profile).
use Rattle.std.specs.Prelude.{ℕ, ◌==◌, Bool, true, false, if◌then◌else◌}
use Rattle.gem_tables.specs.Table.{starts, after}
use Rattle.load_port.specs.Tables.{transfer_table, transfer_number, access_table, access_number, reservation_table, reservation_number, association_table, association_number}
use Rattle.load_port.specs.declared.record.Transfer.{Transfer}
use Rattle.load_port.specs.declared.record.Transfer.TheVariants.{OutOfService, TransferBlocked, ReadyToLoad, ReadyToUnload}
use Rattle.load_port.specs.declared.record.Access.TheVariants.{Manual}
use Rattle.load_port.specs.declared.record.Reservation.{Reservation}
use Rattle.load_port.specs.declared.record.Reservation.TheVariants.{NotReserved, Reserved}
use Rattle.load_port.specs.declared.record.Association.{Association}
use Rattle.load_port.specs.declared.record.Association.TheVariants.{NotAssociated, Associated}
use Rattle.load_port.specs.declared.record.PortRecord.{PortRecord}

-- ---- the rows

-- a port as it begins: READY TO LOAD, MANUAL, NOT RESERVED, NOT ASSOCIATED (this tool's profile, tables 4 to 7)
abbrev pub first_record : PortRecord
first_record = record { transfer = ReadyToLoad; access = Manual; reservation = NotReserved; association = NotAssociated }

-- a row of one of the four tables starts at these states
abbrev pub port_starts : ℕ → ℕ → PortRecord → Bool
port_starts table row p =
    if table == 4 then starts transfer_number transfer_table row p.transfer
    else (if table == 5 then starts access_number access_table row p.access
    else (if table == 6 then starts reservation_number reservation_table row p.reservation
    else (if table == 7 then starts association_number association_table row p.association else false)))

-- the states behind a row: its end, in its own table; a row that doesn't start leaves them
abbrev pub port_fired : ℕ → ℕ → PortRecord → PortRecord
port_fired table row p =
    if table == 4 then record p { transfer = after transfer_number transfer_table row p.transfer }
    else (if table == 5 then record p { access = after access_number access_table row p.access }
    else (if table == 6 then record p { reservation = after reservation_number reservation_table row p.reservation }
    else (if table == 7 then record p { association = after association_number association_table row p.association } else p)))

-- ---- what the states say

-- a carrier is present at the port (after SEMI E87, load port transfer states)
abbrev pub is_occupied : Transfer → Bool
is_occupied TransferBlocked = true
is_occupied ReadyToUnload = true
is_occupied _ = false

-- the port is in service (after SEMI E87, load port transfer states)
abbrev pub is_in_service : Transfer → Bool
is_in_service OutOfService = false
is_in_service _ = true

-- TRANSFER BLOCKED
abbrev pub is_blocked : Transfer → Bool
is_blocked TransferBlocked = true
is_blocked _ = false

-- READY TO UNLOAD
abbrev pub is_unloadable : Transfer → Bool
is_unloadable ReadyToUnload = true
is_unloadable _ = false

-- RESERVED
abbrev pub is_reserved : Reservation → Bool
is_reserved Reserved = true
is_reserved NotReserved = false

-- ASSOCIATED
abbrev pub is_associated : Association → Bool
is_associated Associated = true
is_associated NotAssociated = false
