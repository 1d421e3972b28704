use Rattle.owed_laws.proofs.Agreeing.{agree-owed, agree-commands, agree-unaligned, agree-undisturbed}
use Rattle.owed_laws.proofs.laws.what_is_owed_is_said_of_what_is_kept.Goals as goal

pub returns-clause-owed : goal.returns-clause-owed
returns-clause-owed c = λ planned counted g h a. agree-owed g h a planned counted

pub returns-clause-commands : goal.returns-clause-commands
returns-clause-commands c = λ steps counted g h a. agree-commands g h a steps counted

pub returns-clause-undisturbed : goal.returns-clause-undisturbed
returns-clause-undisturbed c = λ counted g h a v u. agree-undisturbed g h a counted v u

pub returns-clause-unaligned : goal.returns-clause-unaligned
returns-clause-unaligned c = agree-unaligned
