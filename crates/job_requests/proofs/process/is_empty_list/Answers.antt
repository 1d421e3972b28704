use Rattle.std.proofs.Common.{ap, ◌∙◌}
use Rattle.item_model.specs.Data.{DataList, list}
use Rattle.request_model.specs.Requests.{is_empty_list}
use Rattle.job_requests.proofs.Parts.{empty_is}
use Rattle.job_requests.proofs.process.is_empty_list.Goals as goal

pub returns-in-List : goal.returns-in-List
returns-in-List c =
    rw c.in-List.is (c.is_empty.ensures
    ∙ empty_is c.as_slice.result.now
    ∙ ap (λ (ds : DataList). is_empty_list (list ds)) c.as_slice.ensures)
