use Rattle.std.proofs.Common.{rules, ◌≡◌, Some}
use Rattle.tool_crew.proofs.seated.host_in.Goals as goal

pub returns : goal.returns
returns g c =
    let a : c.args.reader.now.chair ≡ Some c.in-Some.first = search rules in
    let b : c.args.writer.now.chair ≡ Some c.in-Some-take.second = search rules in
    let e = c.host_seated-first.ensures in
    record {
      reader = rw (a) e.first;
      writer = rw (b) e.second;
      did = rw (a, b) e.did;
      unfailed = e.unfailed;
    }
