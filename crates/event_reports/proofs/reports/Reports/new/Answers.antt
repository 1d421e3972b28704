use Rattle.std.proofs.Common.{arith}
use Rattle.gem_rows.specs.Events.{ceids}
use Rattle.event_reports.proofs.Within.{silent-within}
use Rattle.event_reports.proofs.SamePlant.{silent-ceids}
use Rattle.event_reports.proofs.Silent.{silent-none}
use Rattle.event_reports.proofs.reports.Reports.new.Goals as goal

pub invariant_of-result : goal.invariant_of-result
invariant_of-result c = record {
  within = record {
    count = rw c.new.ensures.items (omega arith);
    vids = rw c.new.ensures.items tt;
    links = rw c.in_ok-silent_events.ensures (silent-within ceids);
    events = rw c.in_ok-silent_events.ensures (silent-ceids ceids);
  };
  silent = λ _. rw c.in_ok-silent_events.ensures (silent-none ceids);
}
