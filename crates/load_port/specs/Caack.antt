-- What the host is answered of actions on ports and carriers, CAACK (SEMI E87, S3F18, S3F26 and S3F28; this tool's profile).
use Rattle.std.specs.Prelude.{ℕ, Bool, true, false}
use Rattle.load_port.specs.declared.caack.Caack.{Caack}
use Rattle.load_port.specs.declared.caack.Caack.TheVariants as caack

-- the code of the message
abbrev pub caack_number : Caack → ℕ
caack_number caack.Done = 0
caack_number caack.Unknown = 1
caack_number caack.NotNow = 2
caack_number caack.Faulty = 3
caack_number caack.Impossible = 5

-- the action is done
abbrev pub is_done_code : Caack → Bool
is_done_code caack.Done = true
is_done_code _ = false
