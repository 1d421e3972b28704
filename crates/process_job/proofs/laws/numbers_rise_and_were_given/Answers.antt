use Rattle.records.proofs.Rising.{number_at, numbers_rise}
use Rattle.process_job.specs.Jobs.{number_of}
use Rattle.process_job.proofs.laws.numbers_rise_and_were_given.Goals as goal

pub returns-clause-rise : goal.returns-clause-rise
returns-clause-rise c = λ b m n j k h l e f. numbers_rise number_of 0 b.given b.kept m n j k h.numbered l e f

pub returns-clause-given : goal.returns-clause-given
returns-clause-given c = λ b place j h e. number_at number_of 0 b.given b.kept place j h.numbered e
