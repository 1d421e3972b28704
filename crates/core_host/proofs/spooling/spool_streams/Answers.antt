use Rattle.std.proofs.Common.{List, map, sym, subst}
use Rattle.message_model.specs.Functions.{AreFewFunctions}
use Rattle.message_model.specs.declared.gem_reply.StreamRefusal.{StreamRefusal}
use Rattle.msgs_gem.proofs.Spooling.{few_refused}
use Rattle.gem_model.specs.Spooling.{refusal}
use Rattle.host_messages.proofs.Refused.{refuses_fewer}
use Rattle.core_host.proofs.spooling.spool_streams.Goals as goal

pub returns-then-not-is_empty-clause-sendable : goal.returns-then-not-is_empty-clause-sendable
returns-then-not-is_empty-clause-sendable c =
    subst (λ (rs : List StreamRefusal). AreFewFunctions (map (λ r. r.functions) rs)) (sym c.in_ok-refusals.ensures) (few_refused refusal c.args.entries.now refuses_fewer c.requires)
