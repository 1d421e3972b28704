-- Which transaction is looked for.
use Rattle.std.specs.Prelude.{◌==◌, Bool}
use Rattle.transactions.specs.declared.transaction.Open.{Open}
use Rattle.transactions.specs.declared.sought.Sought.{Sought}
use Rattle.transactions.specs.declared.sought.Sought.TheVariants.{System, AnsweredBy, Kind}
use Rattle.transactions.specs.Endings.{answers, same_kind}

-- a transaction is the one that is looked for
abbrev pub fits : Sought → Open → Bool
fits (System system) one = one.system == system
fits (AnsweredBy system stream function) one = answers system stream function one
fits (Kind what) one = same_kind one.what what
