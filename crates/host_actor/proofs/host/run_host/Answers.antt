use Rattle.host_actor.proofs.Going.{went-none, went-more, host-ended}
use Rattle.host_actor.proofs.host.run_host.Goals as goal

pub loop-init : goal.loop-init
loop-init g c = record { can_next = tt; is_finite = tt; went = went-none _ _ _ _ _ }

pub loop-preserved : goal.loop-preserved
loop-preserved g c = record {
  can_next = tt;
  is_finite = tt;
  went = went-more _ _ _ _ _ _ _ _ _ _ _ _ _ _ _ c.loop.invariant.went c.in-Ok.ensures.did;
}

pub returns-in-Err-clause-did : goal.returns-in-Err-clause-did
returns-in-Err-clause-did g c = host-ended _ _ _ _ _ _ _ _ _ _ _ _ _ _ _ _ c.loop.invariant.went c.in-Err.ensures.did
