use Rattle.std.proofs.Common.{rules, ◌≡◌, sym}
use Rattle.tool_crew.proofs.crew.run_at_once.Goals as goal

pub returns-clause-hosted : goal.returns-clause-hosted
returns-clause-hosted g c =
    let f = c.join_mut-count.new.f in
    let d : f.3.now ≡ c.door-1.given.0 = search rules in
    let b : f.4.now ≡ c.bytes-1.given.0 = search rules in
    let r : f.6.now ≡ c.reader-1.given.0 = search rules in
    let w : f.7.now ≡ c.writer-1.given.0 = search rules in
    rw (sym d, sym b, sym r, sym w) c.join_mut-count.ensures.0.met.1

pub returns-clause-worked : goal.returns-clause-worked
returns-clause-worked g c =
    let h = c.join_mut-count.new.g in
    let m : h.9.now ≡ c.modules-1.given.0 = search rules in
    let others = c.join_mut-count.ensures.1.met.1 in
    rw (sym m) others.1.1.1.1.1
