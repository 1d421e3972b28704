use Rattle.std.proofs.Common.{ℕ, ◌+◌, ◌<◌, List, drop, length, arith}
use Rattle.floor_model.specs.Floor.{module_numbers}
use Rattle.driving.proofs.Fetching.{numbers_next, numbers_end}
use Rattle.driving.proofs.Parts.{Drives-fetch, Drives-fetch-stops, Drives-fetch-none}
use Rattle.driving.proofs.engine.fetch_each.Goals as goal

pub loop-index-preserved : goal.loop-index-preserved
loop-index-preserved g c =
    let numbers : List ℕ = module_numbers 1 (g.C.Recorder.view c.args.core.now).state.floor.modules in
    let within : c.loop-index.index < length (g.C.Recorder.view c.args.core.now).state.floor.modules = omega (arith, c.loop-index-test.true, c.module_count-count.ensures.count) in
    let next = numbers_next 1 (g.C.Recorder.view c.args.core.now).state.floor.modules c.loop-index.index within in
    record {
      whole = c.in-Ok.ensures.whole;
      joined = λ core out result rest. c.loop-index.invariant.joined core out result
          (Drives-fetch g.H.AnswerHandler.handles _ _ _ _ _ _ (drop c.loop-index.index numbers) (c.loop-index.index + 1) (drop (c.loop-index.index + 1) numbers) result next c.in-Ok.ensures.drives rest);
    }

pub returns-in-Err-clause-drives : goal.returns-in-Err-clause-drives
returns-in-Err-clause-drives g c =
    let numbers : List ℕ = module_numbers 1 (g.C.Recorder.view c.args.core.now).state.floor.modules in
    let within : c.loop-index.index < length (g.C.Recorder.view c.args.core.now).state.floor.modules = omega (arith, c.loop-index-test.true, c.module_count-count.ensures.count) in
    let next = numbers_next 1 (g.C.Recorder.view c.args.core.now).state.floor.modules c.loop-index.index within in
    c.loop-index.invariant.joined _ _ _
    (Drives-fetch-stops g.H.AnswerHandler.handles _ _ _ _ (drop c.loop-index.index numbers) (c.loop-index.index + 1) (drop (c.loop-index.index + 1) numbers) c.in-Err.stop next c.in-Err.ensures.drives)

pub returns-clause-drives : goal.returns-clause-drives
returns-clause-drives g c =
    let numbers : List ℕ = module_numbers 1 (g.C.Recorder.view c.args.core.now).state.floor.modules in
    let over = numbers_end 1 (g.C.Recorder.view c.args.core.now).state.floor.modules c.loop-index.index (omega (arith, c.loop-index-test.false, c.module_count-count.ensures.count)) in
    c.loop-index.invariant.joined _ _ _ (Drives-fetch-none g.H.AnswerHandler.handles _ _ (drop c.loop-index.index numbers) over)
