use Rattle.std.proofs.Common.{refl, sym, ap}
use Rattle.floor_moves.specs.Floor.{is_finished}
use Rattle.floor_moves.proofs.Facts.{is_number}
use Rattle.owed_laws.proofs.Columns.{worked-stays}
use Rattle.owed_laws.proofs.Carrying.{registered-stays, forgotten-stays}
use Rattle.owed_laws.proofs.laws.as_much_is_owed_as_carriers_come_and_go.Goals as goal

pub returns-clause-created : goal.returns-clause-created
returns-clause-created c = λ planned counted g x. refl

pub returns-clause-arrived : goal.returns-clause-arrived
returns-clause-arrived c = λ planned counted g x p. refl

pub returns-clause-verified : goal.returns-clause-verified
returns-clause-verified c = λ planned counted g x. refl

pub returns-clause-registered : goal.returns-clause-registered
returns-clause-registered c = λ planned counted g x p k v u. (registered-stays planned counted g v u x p k).1

pub returns-clause-at_source : goal.returns-clause-at_source
returns-clause-at_source c = λ planned counted g n. refl

pub returns-clause-needing : goal.returns-clause-needing
returns-clause-needing c = λ planned counted g n u e. (worked-stays planned counted g u n 0 (sym (ap is_finished (is_number (g.processing n) 0 e)))).1

pub returns-clause-forgotten : goal.returns-clause-forgotten
returns-clause-forgotten c = λ planned counted g x v u ends. (forgotten-stays planned counted g v u x ends).1
