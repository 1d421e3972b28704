use Rattle.std.proofs.Common.{rules, ◌≡◌, false, List}
use Rattle.tool_events.specs.declared.answer.Answer.{Answer}
use Rattle.tool_lock.specs.Passes.{pass_number, front}
use Rattle.gem_model.specs.State.{opening}
use Rattle.gem_model.specs.Sizes.{is_full}
use Rattle.shared_tool.specs.declared.posted.Posted.{Posted}
use Rattle.shared_tool.specs.Posts.{entries_of}
use Rattle.shared_tool.specs.Chairs.{config_of}
use Rattle.shared_tool.proofs.Answering.{answered_in, step_waits}
use Rattle.shared_tool.proofs.Filling.{may_be_on}
use Rattle.shared_tool.proofs.sitting.SittingHeldDesk.post.Goals as goal

pub invariant_of-self-in-Ok-2 : goal.invariant_of-self-in-Ok-2
invariant_of-self-in-Ok-2 g c =
    let full = may_be_on g.J.Place.config c.self.inside.fulls c.self.inside.full_bytes (front c.self.inside.chair) (front c.post-answer.new.chair) c.post-answer.ensures.later c.self.invariant.4 in
    (search rules, search rules, search rules, search rules, full)

pub invariant_of-self-in-NoMemory-1 : goal.invariant_of-self-in-NoMemory-1
invariant_of-self-in-NoMemory-1 g c =
    let full = may_be_on g.J.Place.config c.self.inside.fulls c.self.inside.full_bytes (front c.self.inside.chair) (front c.post-answer.new.chair) c.post-answer.ensures.later c.self.invariant.4 in
    (search rules, search rules, search rules, search rules, full)

pub returns-clause-answer : goal.returns-clause-answer
returns-clause-answer g c =
    let config = config_of c.self.inside.shared.now in
    let after = front c.post-answer.new.chair in
    let known = c.post-answer.ensures.recorded in
    answered_in (opening config) (entries_of after) known.0 after c.post-answer.result (pass_number c.self.inside.chair) c.args.at.0 c.args.event
    (λ (a : Answer) (before : List Posted). is_full config (entries_of before) c.args.event ≡ false) known.1.run known.2 c.post-answer.ensures.last

pub returns-clause-waits : goal.returns-clause-waits
returns-clause-waits g c again =
    let known = c.post-answer.ensures.again again in
    step_waits known.0 c.args.at.0 c.args.event known.2
