use Rattle.std.proofs.Common.{◌≡◌, ◌+◌, ◌∙◌, sym, ap, length, arith}
use Rattle.history_parts.specs.CoreView.{CoreView}
use Rattle.tool_crew.specs.Ran.{modules_of}
use Rattle.tool_crew.proofs.Closing.{seats_new, all_of_new, crew_all, are_of, all_known, same_length, run_left}
use Rattle.tool_crew.proofs.run.run_tool.Goals as goal

pub run_seats-seats-requires-clause-all : goal.run_seats-seats-requires-clause-all
run_seats-seats-requires-clause-all g c κs within = all_of_new c.in_ok-shared.shared 0 _ (seats_new c.in_ok-shared.shared _ _ c.in_ok-shared.ensures.chairs c.in_ok-seats.ensures)

pub run_seats-seats-requires-clause-few : goal.run_seats-seats-requires-clause-few
run_seats-seats-requires-clause-few g c κs within =
    let len : length c.in_ok-seats.seats.items ≡ length c.in_ok-shared.chairs.items = sym (same_length _ _ (sym c.in_ok-seats.ensures)) in
    let n = c.in_ok-shared.ensures.seats.1 in
    let few = c.module_count-count.ensures.few in omega arith

pub unseat_all-chairs-requires-clause-room : goal.unseat_all-chairs-requires-clause-room
unseat_all-chairs-requires-clause-room g c =
    let crew = crew_all _ _ _ _ _ _ _ _ _ c.run_seats-seats.ensures.did in
    let here : length c.run_seats-seats.result.0.items ≡ length c.in_ok-seats.seats.items = crew.1 in
    let there : length c.in_ok-shared.chairs.items ≡ length c.in_ok-seats.seats.items = same_length _ _ (sym c.in_ok-seats.ensures) in
    let ok = c.run_seats-seats.result.0.ok in
    let ok' = c.in_ok-shared.chairs.ok in
    let room = c.in_ok-room.ensures.capacity in
    let len = c.len.ensures in omega arith

pub unseat_all-chairs-requires-clause-all : goal.unseat_all-chairs-requires-clause-all
unseat_all-chairs-requires-clause-all g c = (crew_all _ _ _ _ _ _ _ _ _ c.run_seats-seats.ensures.did).0

pub close-core-requires-clause-all : goal.close-core-requires-clause-all
close-core-requires-clause-all g c =
    let crew = crew_all _ _ _ _ _ _ _ _ _ c.run_seats-seats.ensures.did in
    same_length _ _ c.unseat_all-chairs.ensures ∙ (crew.1 ∙ (sym (same_length _ _ (sym c.in_ok-seats.ensures)) ∙ (c.in_ok-shared.ensures.seats.1 ∙ sym c.in_ok-shared.ensures.seats.0)))

pub close-core-requires-clause-own : goal.close-core-requires-clause-own
close-core-requires-clause-own g c = are_of c.in_ok-shared.shared _ _ (crew_all _ _ _ _ _ _ _ _ _ c.run_seats-seats.ensures.did).0 c.unseat_all-chairs.ensures

pub returns-clause-did : goal.returns-clause-did
returns-clause-did g c =
    let len : length c.in_ok-seats.seats.items ≡ length c.in_ok-shared.chairs.items = sym (same_length _ _ (sym c.in_ok-seats.ensures)) in
    let n = c.in_ok-shared.ensures.seats.1 in
    let seats = c.in_ok-shared.ensures.seats.0 in
    let count = c.module_count-count.ensures.count in
    let few = c.module_count-count.ensures.few in
    let opened = ap (λ (x : CoreView). length x.state.floor.modules) c.in_ok-core.ensures in
    let all : length c.in_ok-seats.seats.items ≡ 4 + modules_of c.args.config.now = omega arith in
    let same = c.close-core.ensures.config ∙ (c.in_ok-shared.ensures.config ∙ ap (λ (x : CoreView). x.config) c.in_ok-core.ensures) in
    run_left _ c.in_ok-shared.shared _ _ _ _ _ c.args.config.now _ _ _ _ _ _ same all c.new-sessions.ensures.items
    (seats_new c.in_ok-shared.shared _ _ c.in_ok-shared.ensures.chairs c.in_ok-seats.ensures) c.run_seats-seats.ensures.did
    (all_known _ _ _ c.close-core.ensures.known c.unseat_all-chairs.ensures) c.run_seats-seats.ensures.ends
    c.close-core.ensures.recorded c.history.ensures.entries_fit c.history.ensures.bytes_fit
    (λ seat above. c.close-core.ensures.others seat (omega arith))
