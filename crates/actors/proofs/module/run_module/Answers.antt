use Rattle.std.proofs.Common.{rules, arith, ◌≡◌, inl, inr, refl, ap, ◌∙◌}
use Rattle.std.proofs.lemmas.Grind.{common_steps}
use Rattle.actors.proofs.Acting.{acts-go, acts-stay, module-quits, fetch-refused, signal-refused}
use Rattle.actors.proofs.module.run_module.Goals as goal
use Rattle.actors.proofs.module.run_module.Goals.{in-Ok-Command+in-Ok-Done+in-Ok-this-6+in-Frame-1, in-Ok-Command+in-Ok-Done+in-Ok-this-6+in-Done-1, in-Ok-Command+in-Ok-Done+in-Err-1, in-Err-Again}

pub returns-in-Ok-Ended-post-clause-did : goal.returns-in-Ok-Ended-post-clause-did
returns-in-Ok-Ended-post-clause-did g c =
    module-quits _ c.loop.module _ c.number-number.result c.in-Ok-Command.command _ _ (g.D.Desk.posts c.loop.desk) (g.D.Desk.posts c.post.new.self) _ c.loop.invariant.acts c.number-number.ensures c.act-signal.ensures.answer c.act-signal.ensures.after
    (first_of (search rules, grind (arith, common_steps)))
    (rw c.in-Ok-Ended-post.field-0-is at c.in-Ok-Ended-post.ensures.recorded)

pub returns-in-Err-Full-post-clause-did : goal.returns-in-Err-Full-post-clause-did
returns-in-Err-Full-post-clause-did g c =
    signal-refused _ c.loop.module _ c.number-number.result c.in-Ok-Command.command _ (g.D.Desk.posts c.loop.desk) (g.D.Desk.posts c.post.new.self) _ _ c.loop.invariant.acts c.number-number.ensures c.act-signal.ensures.after
    (first_of (search rules, grind (arith, common_steps)))
    c.in-Err-Full-post.ensures.unrecorded (inl refl)

pub returns-in-Err-NoMemory-post-clause-did : goal.returns-in-Err-NoMemory-post-clause-did
returns-in-Err-NoMemory-post-clause-did g c =
    signal-refused _ c.loop.module _ c.number-number.result c.in-Ok-Command.command _ (g.D.Desk.posts c.loop.desk) (g.D.Desk.posts c.post.new.self) _ _ c.loop.invariant.acts c.number-number.ensures c.act-signal.ensures.after
    (first_of (search rules, grind (arith, common_steps)))
    c.in-Err-NoMemory-post.ensures.unrecorded (inr refl)

pub returns-in-Err-Full-clause-did : goal.returns-in-Err-Full-clause-did
returns-in-Err-Full-clause-did g c = fetch-refused _ _ _ _ _ _ c.loop.invariant.acts (rw c.in-Err-Full.is at c.post.ensures.unrecorded) (inl refl)

pub returns-in-Err-NoMemory-clause-did : goal.returns-in-Err-NoMemory-clause-did
returns-in-Err-NoMemory-clause-did g c = fetch-refused _ _ _ _ _ _ c.loop.invariant.acts (rw c.in-Err-NoMemory.is at c.post.ensures.unrecorded) (inr refl)

pub loop-preserved-after-post-2 : goal.loop-preserved-after-post-2
loop-preserved-after-post-2 g c = elim c.match-post.branch [
  | in-Ok-Command+in-Ok-Done+in-Ok-this-6+in-Frame-1 w ↦ record {
    can_next = tt;
    is_finite = tt;
    acts = acts-go _ c.loop.module _ c.number-number.result w.in-Ok-Command.command _ _ (g.D.Desk.posts c.loop.desk) (g.D.Desk.posts c.post.new.self) _ c.loop.invariant.acts c.number-number.ensures w.act-signal.ensures.answer (w.module-is ∙ w.act-signal.ensures.after)
        (first_of (search rules, grind (arith, common_steps)))
        (ap g.D.Desk.posts w.desk-is ∙ (rw w.in-Ok-Done.field-0-is at w.in-Ok-Done.ensures.recorded));
    fulls = ap g.D.Desk.fulls w.desk-is ∙ (w.in-Ok-Done.ensures.fulls ∙ ((rw w.in-Ok-Command.is at c.post.ensures.fulls) ∙ c.loop.invariant.fulls));
    wants = ap g.D.Desk.wants w.desk-is ∙ (w.in-Ok-Done.ensures.wants ∙ ((rw w.in-Ok-Command.is at c.post.ensures.wants) ∙ c.loop.invariant.wants));
  }
  | in-Ok-Command+in-Ok-Done+in-Ok-this-6+in-Done-1 w ↦ record {
    can_next = tt;
    is_finite = tt;
    acts = acts-go _ c.loop.module _ c.number-number.result w.in-Ok-Command.command _ _ (g.D.Desk.posts c.loop.desk) (g.D.Desk.posts c.post.new.self) _ c.loop.invariant.acts c.number-number.ensures w.act-signal.ensures.answer (w.module-is ∙ w.act-signal.ensures.after)
        (first_of (search rules, grind (arith, common_steps)))
        (ap g.D.Desk.posts w.desk-is ∙ (rw w.in-Ok-Done.field-0-is at w.in-Ok-Done.ensures.recorded));
    fulls = ap g.D.Desk.fulls w.desk-is ∙ (w.in-Ok-Done.ensures.fulls ∙ ((rw w.in-Ok-Command.is at c.post.ensures.fulls) ∙ c.loop.invariant.fulls));
    wants = ap g.D.Desk.wants w.desk-is ∙ (w.in-Ok-Done.ensures.wants ∙ ((rw w.in-Ok-Command.is at c.post.ensures.wants) ∙ c.loop.invariant.wants));
  }
  | in-Ok-Command+in-Ok-Done+in-Err-1 w ↦ record {
    can_next = tt;
    is_finite = tt;
    acts = acts-go _ c.loop.module _ c.number-number.result w.in-Ok-Command.command _ _ (g.D.Desk.posts c.loop.desk) (g.D.Desk.posts c.post.new.self) _ c.loop.invariant.acts c.number-number.ensures w.act-signal.ensures.answer (w.module-is ∙ w.act-signal.ensures.after)
        (first_of (search rules, grind (arith, common_steps)))
        (ap g.D.Desk.posts w.desk-is ∙ (rw w.in-Ok-Done.field-0-is at w.in-Ok-Done.ensures.recorded));
    fulls = ap g.D.Desk.fulls w.desk-is ∙ (w.in-Ok-Done.ensures.fulls ∙ ((rw w.in-Ok-Command.is at c.post.ensures.fulls) ∙ c.loop.invariant.fulls));
    wants = ap g.D.Desk.wants w.desk-is ∙ (w.in-Ok-Done.ensures.wants ∙ ((rw w.in-Ok-Command.is at c.post.ensures.wants) ∙ c.loop.invariant.wants));
  }
  | in-Err-Again w ↦ record {
    can_next = tt;
    is_finite = tt;
    acts = acts-stay _ _ _ _ _ _ c.loop.invariant.acts w.module-is (ap g.D.Desk.posts w.desk-is ∙ (rw w.in-Err-Again.is at c.post.ensures.unrecorded));
    fulls = ap g.D.Desk.fulls w.desk-is ∙ ((let stay : g.D.Desk.fulls c.post.new.self ≡ g.D.Desk.fulls c.loop.desk = first_of (search rules, grind (arith, common_steps)) in stay) ∙ c.loop.invariant.fulls);
    wants = ap g.D.Desk.wants w.desk-is ∙ ((let stay : g.D.Desk.wants c.post.new.self ≡ g.D.Desk.wants c.loop.desk = first_of (search rules, grind (arith, common_steps)) in stay) ∙ c.loop.invariant.wants);
  }
]
