use Rattle.std.proofs.Common.{sym, ◌∙◌}
use Rattle.std.proofs.lemmas.Bool.{true≢false}
use Rattle.picture_laws.proofs.Rows.{transport-keeps, processing_agrees, last_agrees}
use Rattle.picture_laws.proofs.laws.rows_of_one_substrate_do_what_the_laws_have.Goals as goal

pub returns-clause-location : goal.returns-clause-location
returns-clause-location c = λ f locations v. v

pub returns-clause-transport : goal.returns-clause-transport
returns-clause-transport c = transport-keeps

pub returns-clause-processing : goal.returns-clause-processing
returns-clause-processing c = λ f n row s found other. processing_agrees f n row s found (λ e. absurd (true≢false (sym e ∙ other)))

pub returns-clause-last : goal.returns-clause-last
returns-clause-last c = last_agrees
