use Rattle.std.proofs.Common.{◌≡◌}
use Rattle.actors.proofs.Ticking.{Ticks}
use Rattle.actors.proofs.clock.keep_time.Given as goal

-- the clock was looked at so far, and no post was refused
abbrev pub invariant-loop : goal.invariant-loop
invariant-loop g l =
    let D = g.D.Desk in
    let T = g.T.Clock in
    record {
      can_next : (goal.iterator-loop g).can_next l.iterator';
      is_finite : (goal.iterator-loop g).is_finite l.iterator';
      ticks : Ticks (T.given l.fn.clock) (T.given l.clock) (D.posts l.fn.desk) (D.posts l.desk);
      fulls : D.fulls l.desk ≡ D.fulls l.fn.desk;
      wants : D.wants l.desk ≡ D.wants l.fn.desk;
    }
