use Rattle.std.proofs.Common.{ℕ, List, [], sym, ap}
use Rattle.floor_moves.specs.Floor.{is_finished}
use Rattle.floor_moves.proofs.Facts.{is_number}
use Rattle.owed_laws.proofs.Columns.{transported-stays, worked-stays, created-stays, arrived-stays, verified-stays}
use Rattle.owed_laws.proofs.Carrying.{registered-stays, forgotten-stays}
use Rattle.owed_laws.proofs.laws.nothing_is_disturbed_as_carriers_come_and_go.Goals as goal

-- what stands undisturbed does so whatever is planned
abbrev still : ℕ → List (List ℕ)
still n = []

pub returns-clause-created : goal.returns-clause-created
returns-clause-created c = λ counted g x u. (created-stays still counted g u x).0

pub returns-clause-arrived : goal.returns-clause-arrived
returns-clause-arrived c = λ counted g x p u. (arrived-stays still counted g u x p).0

pub returns-clause-verified : goal.returns-clause-verified
returns-clause-verified c = λ counted g x u. (verified-stays still counted g u x).0

pub returns-clause-registered : goal.returns-clause-registered
returns-clause-registered c = λ counted g x p k v u. (registered-stays still counted g v u x p k).0

pub returns-clause-at_source : goal.returns-clause-at_source
returns-clause-at_source c = λ counted g n u. (transported-stays still counted g u n 0).0

pub returns-clause-needing : goal.returns-clause-needing
returns-clause-needing c = λ counted g n u e. (worked-stays still counted g u n 0 (sym (ap is_finished (is_number (g.processing n) 0 e)))).0

pub returns-clause-forgotten : goal.returns-clause-forgotten
returns-clause-forgotten c = λ counted g x v u ends. (forgotten-stays still counted g v u x ends).0
