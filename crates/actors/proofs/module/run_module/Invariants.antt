use Rattle.std.proofs.Common.{◌≡◌}
use Rattle.actors.proofs.Acting.{Acts}
use Rattle.actors.proofs.module.run_module.Given as goal

-- the commands so far were acted on, and no post was refused
abbrev pub invariant-loop : goal.invariant-loop
invariant-loop g l =
    let D = g.D.Desk in
    record {
      can_next : (goal.iterator-loop g).can_next l.iterator';
      is_finite : (goal.iterator-loop g).is_finite l.iterator';
      acts : Acts l.fn.«module» l.«module» (D.posts l.fn.desk) (D.posts l.desk);
      fulls : D.fulls l.desk ≡ D.fulls l.fn.desk;
      wants : D.wants l.desk ≡ D.wants l.fn.desk;
    }
