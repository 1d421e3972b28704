-- What the host and the equipment do to ports and carriers before rows fire by themselves: what is written, and which rows
-- fire directly (SEMI E87, S3F17, S3F25 and S3F27; this tool's profile, direct rows).
use Rattle.std.specs.Prelude.{ℕ, ◌+◌, ◌==◌, false, if◌then◌else◌, List, [], ◌∷◌, ◌++◌, map, Option, Some, None}
use Rattle.gem_tables.specs.Table.{firing}
use Rattle.gem_tables.specs.declared.firing.Firing.{Firing}
use Rattle.gem_ids.specs.declared.numbers.PortNo.{PortNo}
use Rattle.load_port.specs.declared.caack.Caack.{Caack}
use Rattle.load_port.specs.declared.port.Arrival.{Arrival}
use Rattle.load_port.specs.declared.action.PortAction.{PortAction}
use Rattle.load_port.specs.declared.action.PortAction.TheVariants as action
use Rattle.load_port.specs.Ports.{view_of, port_caack}
use Rattle.carrier.specs.declared.carrier.Carrier.{Carrier}
use Rattle.carrier.specs.declared.action.CarrierAction.{CarrierAction}
use Rattle.carrier.specs.declared.action.CarrierWord.{CarrierWord}
use Rattle.carrier.specs.declared.action.CarrierWord.TheVariants as word
use Rattle.carrier.specs.Record.{is_id_waiting, is_map_waiting}
use Rattle.carrier.specs.Carriers.{is_known, carrier_named, change_named, found_or_created, with_created, next_number, without, directed_to, told_map}
use Rattle.carrier.specs.Verdict.{carrier_caack}
use Rattle.shop_floor.specs.Floor.{Floor, with_port, numbers_from}

-- a row of a table at the port of a number; where there is none it doesn't start, and is left out when it is to fire
abbrev pub at_port : ℕ → ℕ → ℕ → List Firing
at_port table row port = firing table port row ∷ []

-- ---- S3F17

-- what is answered of an action on a carrier that no process job names; floor_model has it of any (this tool's profile, S3F17)
abbrev pub carrier_code : Floor → CarrierAction → Caack
carrier_code f a = carrier_caack f.carriers (map view_of f.ports) a false

-- the map that is given is the host's
abbrev pub maps_told : Option (List ℕ) → List ℕ → List Carrier → List Carrier
maps_told None name carriers = carriers
maps_told (Some slots) name carriers = change_named name (told_map slots) carriers

-- a carrier becomes known, behind the others
abbrev pub created : List ℕ → Floor → Floor
created name f = record f { carriers = with_created f.next_carrier name f.carriers; next_carrier = f.next_carrier + 1 }

-- the carrier of a name, made where it isn't known, is directed to a port
abbrev pub directed : List ℕ → ℕ → Floor → Floor
directed name port f =
    record f {
      carriers = change_named name (directed_to port) (found_or_created f.next_carrier name f.carriers);
      next_carrier = next_number f.next_carrier name f.carriers;
    }

-- what an action writes: Bind and CarrierNotification make a carrier known, and Bind directs it to its port; ProceedWithCarrier
-- tells the map; CancelCarrierNotification forgets the carrier
abbrev pub word_written : CarrierWord → CarrierAction → Floor → Floor
word_written word.Bind a f = directed a.id a.port f
word_written word.CancelBind a f = f
word_written word.Proceed a f = record f { carriers = maps_told a.map a.id f.carriers }
word_written word.Cancel a f = f
word_written word.Notify a f = created a.id f
word_written word.CancelNotify a f = record f { carriers = without a.id f.carriers }
word_written word.Unknown a f = f

abbrev pub carrier_written : CarrierAction → Floor → Floor
carrier_written a f = word_written a.word a f

-- the creation row of a carrier that isn't known yet, which gets the next number
abbrev pub creation_of : List ℕ → Floor → List Firing
creation_of name f = if is_known name f.carriers then [] else firing 8 f.next_carrier 1 ∷ []

-- the number of a port, 0 for none
abbrev pub port_or_none : Option PortNo → ℕ
port_or_none None = 0
port_or_none (Some p) = p.0

abbrev pub port_number_of : Option Carrier → ℕ
port_number_of None = 0
port_number_of (Some c) = port_or_none c.port

-- rows 6.2 and 7.2 at a port
abbrev pub unbinding : ℕ → List Firing
unbinding port = at_port 6 2 port ++ at_port 7 2 port

-- the row of a carrier that proceeds: of its id where that waits for the host, and else of its map
abbrev pub proceeding : Option Carrier → List Firing
proceeding None = []
proceeding (Some c) = if is_id_waiting c.states.id then firing 8 c.number 4 ∷ [] else firing 9 c.number 3 ∷ []

-- the row of a carrier that is cancelled: of its id or of its map where that waits for the host, and else of its accessing
abbrev pub cancelling : Option Carrier → List Firing
cancelling None = []
cancelling (Some c) =
    if is_id_waiting c.states.id then firing 8 c.number 5 ∷ []
    else (if is_map_waiting c.states.map then firing 9 c.number 4 ∷ [] else firing 10 c.number 4 ∷ [])

-- the direct rows of an action that is done, by what was before it
abbrev pub word_rows : CarrierWord → CarrierAction → Floor → List Firing
word_rows word.Bind a f = creation_of a.id f ++ (at_port 6 1 a.port ++ at_port 7 1 a.port)
word_rows word.CancelBind a f = unbinding (port_number_of (carrier_named a.id f.carriers))
word_rows word.Proceed a f = proceeding (carrier_named a.id f.carriers)
word_rows word.Cancel a f = cancelling (carrier_named a.id f.carriers)
word_rows word.Notify a f = creation_of a.id f
word_rows word.CancelNotify a f = []
word_rows word.Unknown a f = []

abbrev pub carrier_rows : CarrierAction → Floor → List Firing
carrier_rows a f = word_rows a.word a f

-- ---- S3F25 and S3F27

abbrev pub port_code : Floor → PortAction → Caack
port_code f a = port_caack f.ports a

-- no port at all is all
abbrev pub or_all : List ℕ → Floor → List ℕ
or_all [] f = numbers_from 1 f.ports
or_all (n ∷ ns) f = n ∷ ns

-- the row of an access mode: 1 to AUTO, and 2 to MANUAL
abbrev pub mode_row : ℕ → ℕ
mode_row mode = if mode == 1 then 1 else 2

-- a row at each of these ports, in their order
abbrev pub at_ports : ℕ → ℕ → List ℕ → List Firing
at_ports table row ports = map (λ port. firing table port row) ports

-- the direct rows of an action that is done
abbrev pub port_rows : PortAction → Floor → List Firing
port_rows (action.Reserve port) f = at_port 6 1 port
port_rows (action.CancelReserve port) f = at_port 6 2 port
port_rows (action.Access mode numbers) f = at_ports 5 (mode_row mode) (or_all numbers f)
port_rows action.Unknown f = []

-- ---- the equipment

-- what came to a port is written there
abbrev pub came : ℕ → Arrival → Floor → Floor
came port a f = with_port port (λ p. record p { arrival = Some a }) f

-- a carrier is removed: rows 4.5 and 7.6
abbrev pub removal : ℕ → List Firing
removal port = at_port 4 5 port ++ at_port 7 6 port
