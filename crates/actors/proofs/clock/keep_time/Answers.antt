use Rattle.std.proofs.Common.{rules, ◌≡◌, ◌∙◌, refl}
use Rattle.actors.proofs.Ticking.{ticks-begin, ticks-waited, ticks-look, look-ends}
use Rattle.actors.proofs.clock.keep_time.Goals as goal

pub loop-init : goal.loop-init
loop-init g c = record { can_next = tt; is_finite = tt; ticks = ticks-begin _ _; fulls = refl; wants = refl }

pub returns-in-Some-look-clause-did : goal.returns-in-Some-look-clause-did
returns-in-Some-look-clause-did g c =
    look-ends _ _ _ _ _ _ _ (ticks-waited _ _ _ _ _ c.loop.invariant.ticks c.wait.ensures.given) c.in-Some-look.ensures.did

pub loop-preserved : goal.loop-preserved
loop-preserved g c = record {
  can_next = tt;
  is_finite = tt;
  ticks = ticks-look _ _ _ _ _ _ (ticks-waited _ _ _ _ _ c.loop.invariant.ticks c.wait.ensures.given) c.in_default.ensures.did;
  fulls = c.in_default.ensures.not_full (λ is. cc) ∙ c.loop.invariant.fulls;
  wants = c.in_default.ensures.no_want (λ is. cc) ∙ c.loop.invariant.wants;
}
