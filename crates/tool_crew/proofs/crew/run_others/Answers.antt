use Rattle.std.proofs.Common.{rules, ◌≡◌, sym}
use Rattle.tool_crew.proofs.crew.run_others.Goals as goal

pub returns-clause-worked : goal.returns-clause-worked
returns-clause-worked g c =
    let h = c.join_mut-count.new.g in
    let m : h.6.now ≡ c.modules-1.given.0 = search rules in
    rw (sym m) c.join_mut-count.ensures.1.met.1.1.1.1
