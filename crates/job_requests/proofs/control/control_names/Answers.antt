use Rattle.std.proofs.Common.{◌≡◌, ℕ, List, [], ◌∷◌, ◌++◌, take, true, true≢false, option_map, sym, ap, ◌∙◌}
use Rattle.process_job.specs.Jobs.{JobBook, job_named, is_known}
use Rattle.job_requests.proofs.Named.{process_same, none_known}
use Rattle.job_requests.proofs.Lists.{take_more, passes}
use Rattle.job_requests.proofs.control.control_names.Goals.{in-Some+in_ok-push, in_default}
use Rattle.job_requests.proofs.control.control_names.Goals as goal

pub loop-name-preserved : goal.loop-name-preserved
loop-name-preserved c =
    let kept = c.args.jobs.now.process.kept in
    let here = ap (λ (b : JobBook). option_map (λ j. j.id) (job_named c.name-item.result b.kept)) c.process.ensures.jobs in
    let more = take_more c.args.names.now c.loop-name.name-index c.name-item.result c.loop-name-test.true c.name-item.is in
    let known : is_known c.name-item.result kept ≡ true =
    ap (λ (n : List ℕ). is_known n kept) c.name-item.is ∙ passes (λ n. is_known n kept) c.args.names.now c.loop-name.name-index c.name-item.result c.loop-name-test.true c.requires in
    elim c.match-process_id.branch [
      | in-Some+in_ok-push w ↦
          w.ids-is
          ∙ w.in_ok-push.ensures.ok
          ∙ ap (λ (ns : List (List ℕ)). ns ++ w.in-Some.id ∷ []) c.loop-name.invariant
          ∙ ap (λ (n : List ℕ). take c.loop-name.name-index c.args.names.now ++ n ∷ []) (process_same c.name-item.result w.in-Some.id kept (sym w.in-Some.is ∙ c.process_id.ensures ∙ here))
          ∙ sym more
      | in_default w ↦ absurd (true≢false (sym known ∙ none_known c.name-item.result kept (sym w.in_default.is ∙ c.process_id.ensures ∙ here)))
    ]
