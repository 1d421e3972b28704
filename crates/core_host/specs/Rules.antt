-- What the code's rules that come before a message is read stand for.
use Rattle.gem_model.specs.Verdict.{Verdict, Discarded, Stream9, Aborted, Answers}
use Rattle.core_host.specs.declared.verdict.Rule.{Rule}
use Rattle.core_host.specs.declared.verdict.Rule.TheVariants as code

-- the verdict of the tables that a rule of the code stands for
abbrev pub rule_view : Rule → Verdict
rule_view code.Discarded = Discarded
rule_view (code.Stream9 function) = Stream9 function
rule_view code.Aborted = Aborted
rule_view code.Answers = Answers
