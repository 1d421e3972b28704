-- The six lines of a carrier in a batch (this tool's profile, batch).
use Rattle.std.specs.Prelude.{ℕ, ◌+◌, ◌-◌, ◌*◌, ◌%◌, ◌==◌, true, if◌then◌else◌, List, [], ◌∷◌, ◌++◌, codes, replicate}
use Rattle.std.specs.Fmt.{decimal}
use Rattle.hex.specs.Hex.{encode_upper}
use Rattle.gem_ids.specs.Names.{two_digits}
use Rattle.item_model.specs.Data.{Data, boolean}
use Rattle.item_model.specs.Plain.{plain}
use Rattle.hsms_frame.specs.Spelling.{message_bytes}
use Rattle.hsms_frame.specs.declared.frame.Header.{Header}
use Rattle.message_model.specs.Printed.{A, B, L, U1, U4}
use Rattle.tool_events.specs.declared.config.Config.{Config}
use Rattle.tool_tasks.specs.declared.recipes.Recipe.{Recipe}

-- ---- carriers are counted from 1

-- the number in the names of a carrier and its jobs, 1 to 16: the names come again behind sixteen carriers (this tool's profile, batch)
abbrev pub lot_number : ℕ → ℕ
lot_number k = 1 + (k - 1) % 16

-- the port of a carrier: the ports take turns, from the first (this tool's profile, batch)
abbrev pub lot_port : ℕ → ℕ → ℕ
lot_port ports k = 1 + (k - 1) % ports

-- the name of a carrier, LOT01 to LOT16 (this tool's profile, batch)
abbrev pub carrier_name : ℕ → List ℕ
carrier_name k = codes "LOT" ++ two_digits (lot_number k)

-- the name of its process job, PJ01 to PJ16 (this tool's profile, batch)
abbrev pub process_job_name : ℕ → List ℕ
process_job_name k = codes "PJ" ++ two_digits (lot_number k)

-- the name of its control job, CJ01 to CJ16 (this tool's profile, batch)
abbrev pub control_job_name : ℕ → List ℕ
control_job_name k = codes "CJ" ++ two_digits (lot_number k)

-- the name of the first recipe (this tool's profile, batch); a configuration has one
abbrev pub first_recipe : List Recipe → List ℕ
first_recipe [] = []
first_recipe (r ∷ rs) = r.name

-- ---- what the host asks

-- the carrier may be worked on: L[U4 0, A ProceedWithCarrier, A carrier, U1 port, L[]] (SEMI E87, carrier action request)
abbrev pub proceed_asked : List ℕ → ℕ → Data
proceed_asked carrier port = L (U4 0 ∷ (A (codes "ProceedWithCarrier") ∷ (A carrier ∷ (U1 port ∷ (L [] ∷ [])))))

-- a process job over all of the carrier, by a recipe, which starts by itself:
-- L[U4 0, A job, B 0D, L[L[A carrier, L[]]], L[U1 1, A recipe, L[]], BOOL true, L[]] (SEMI E40, process job creation)
abbrev pub process_job_asked : List ℕ → List ℕ → List ℕ → Data
process_job_asked job carrier recipe =
    L (U4 0 ∷ (A job ∷ (B (13 ∷ []) ∷ (L (L (A carrier ∷ (L [] ∷ [])) ∷ []) ∷ (L (U1 1 ∷ (A recipe ∷ (L [] ∷ []))) ∷ (boolean (true ∷ []) ∷ (L [] ∷ [])))))))

-- a control job of one process job, which starts by itself:
-- L[A "", A ControlJob, L[L[A ObjID, A control], L[A ProcessingCtrlSpec, L[A job]], L[A StartMethod, BOOL true]]] (SEMI E94, control job creation)
abbrev pub control_job_asked : List ℕ → List ℕ → Data
control_job_asked control job =
    L (A [] ∷ (A (codes "ControlJob") ∷ (L (
    L (A (codes "ObjID") ∷ (A control ∷ [])) ∷
    (L (A (codes "ProcessingCtrlSpec") ∷ (L (A job ∷ []) ∷ [])) ∷
    (L (A (codes "StartMethod") ∷ (boolean (true ∷ []) ∷ [])) ∷ []))) ∷ [])))

-- the header of a data message of the host that wants a reply (SEMI E37, message header)
abbrev pub asked_header : ℕ → ℕ → ℕ → ℕ → Header
asked_header device stream function system =
    record { session = device; byte2 = 128 + stream; byte3 = function; ptype = 0; stype = 0; system = system }

-- `H hex`: one whole frame, in upper case (this tool's profile, input lines and batch)
abbrev pub host_line : Header → Data → List ℕ
host_line header asked = codes "H " ++ encode_upper (message_bytes header (plain asked))

-- ---- the lines, without their line ends

-- the carrier is placed at its port, and each of its slots has a substrate (this tool's profile, batch)
abbrev pub placed_line : ℕ → ℕ → List ℕ
placed_line ports k = codes "S placed " ++ decimal (lot_port ports k) ++ codes " " ++ carrier_name k ++ codes " " ++ replicate 25 51

-- the carrier is taken away (this tool's profile, batch)
abbrev pub removed_line : ℕ → ℕ → List ℕ
removed_line ports k = codes "S removed " ++ decimal (lot_port ports k)

-- the host says that the carrier may be worked on, by a message of these system bytes (this tool's profile, batch)
abbrev pub proceed_line : Config → ℕ → ℕ → List ℕ
proceed_line config k system = host_line (asked_header config.device 3 17 system) (proceed_asked (carrier_name k) (lot_port config.ports k))

-- the host asks for the carrier's process job (this tool's profile, batch)
abbrev pub process_job_line : Config → ℕ → ℕ → List ℕ
process_job_line config k system =
    host_line (asked_header config.device 16 11 system) (process_job_asked (process_job_name k) (carrier_name k) (first_recipe config.recipes))

-- the host asks for its control job (this tool's profile, batch)
abbrev pub control_job_line : Config → ℕ → ℕ → List ℕ
control_job_line config k system =
    host_line (asked_header config.device 14 9 system) (control_job_asked (control_job_name k) (process_job_name k))

-- The i-th line of the k-th carrier, both counted from 1. The first two messages of the host are the same but for their system
-- bytes, which are 4 * k - 1 to 4 * k + 2 in order. Behind the sixth line there is none (this tool's profile, batch).
abbrev pub lot_line : Config → ℕ → ℕ → List ℕ
lot_line config k i =
    if i == 1 then placed_line config.ports k
    else if i == 2 then proceed_line config k (4 * k - 1)
    else if i == 3 then proceed_line config k (4 * k)
    else if i == 4 then process_job_line config k (4 * k + 1)
    else if i == 5 then control_job_line config k (4 * k + 2)
    else if i == 6 then removed_line config.ports k
    else []
