-- Whether a carrier can be created (this tool's profile, limits).
use Rattle.std.specs.Prelude.{ℕ, nat_lt, if◌then◌else◌, List, length, Option, Some, None}
use Rattle.carrier.specs.Carriers.{is_known, most_carriers}
use Rattle.carrier.specs.declared.carrier.Carrier.{Carrier}
use Rattle.carrier.specs.declared.fault.CarrierFault.{CarrierFault}
use Rattle.carrier.specs.declared.fault.CarrierFault.TheVariants.{NameTaken, NoSpace}

-- why one of this name can't be, whatever memory there is: a known carrier has the name, or sixteen are known
abbrev pub create_fault : List ℕ → List Carrier → Option CarrierFault
create_fault name carriers =
    if is_known name carriers then Some NameTaken
    else (if nat_lt (length carriers) most_carriers then None else Some (NoSpace most_carriers))
