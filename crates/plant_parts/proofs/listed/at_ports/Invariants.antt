use Rattle.std.proofs.Common.{◌≡◌, ◌++◌, drop}
use Rattle.gem_tables.specs.Names.{table_number}
use Rattle.shop_floor.specs.Requests.{at_ports}
use Rattle.plant_parts.proofs.listed.at_ports.Given as goal

-- the rows that are listed, and those of the ports that are left, are those of all
abbrev pub invariant-loop-port : goal.invariant-loop-port
invariant-loop-port l = l.rows.items ++ at_ports (table_number l.table) l.row (drop l.port-index l.ports) ≡ at_ports (table_number l.table) l.row l.ports
