use Rattle.records.proofs.Apart.{named_at}
use Rattle.records.proofs.Rising.{numbered_at}
use Rattle.process_job.specs.Jobs.{name_of, number_of}
use Rattle.process_job.proofs.laws.each_job_has_its_name_and_number.Goals as goal

pub returns-clause-name : goal.returns-clause-name
returns-clause-name c = λ b place j h e. named_at name_of b.kept place j h.apart e

pub returns-clause-number : goal.returns-clause-number
returns-clause-number c = λ b place j h e. numbered_at number_of 0 b.given b.kept place j h.numbered e
