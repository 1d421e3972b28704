-- The items of process jobs, one behind another.
use Rattle.std.proofs.Common.{◌≡◌, ℕ, ◌+◌, List, [], ◌∷◌, ◌++◌, take, Some, slice_get, refl, sym, ap, ◌∙◌}
use Rattle.item_model.specs.Data.{Data, DataList, no_items, item, added, first_items}
use Rattle.item_model.specs.Plain.{count_of}
use Rattle.process_job.specs.Listing.{job_item, job_items, joined}
use Rattle.process_job.specs.declared.job.ProcessJob.{ProcessJob}
use Rattle.records.proofs.Scans.{take_here}

-- nothing stands behind
pub joined_none : (ds : DataList) → joined ds no_items ≡ ds
joined_none no_items = refl
joined_none (item d ds) = ap (item d) (joined_none ds)

-- the first of them are what stood there before
pub first_joined : (ds more : DataList) → first_items (count_of ds) (joined ds more) ≡ ds
first_joined no_items more = refl
first_joined (item d ds) more = ap (item d) (first_joined ds more)

-- one more stands at the end
added_behind : (ds es : DataList) (d : Data) → added (joined ds es) d ≡ joined ds (added es d)
added_behind no_items es d = refl
added_behind (item e ds) es d = ap (item e) (added_behind ds es d)

items_more : (js : List ProcessJob) (j : ProcessJob) → added (job_items js) (job_item j) ≡ job_items (js ++ j ∷ [])
items_more [] j = refl
items_more (k ∷ js) j = ap (item (job_item k)) (items_more js j)

-- so the next of the jobs
pub next_item : (js : List ProcessJob) (place : ℕ) (j : ProcessJob) (first out after : DataList) → slice_get js place ≡ Some j → out ≡ joined first (job_items (take place js)) → after ≡ added out (job_item j) → after ≡ joined first (job_items (take (place + 1) js))
next_item js place j first out after e is more =
    more
    ∙ ap (λ (ds : DataList). added ds (job_item j)) is
    ∙ added_behind first (job_items (take place js)) (job_item j)
    ∙ ap (joined first) (items_more (take place js) j ∙ ap (λ (ks : List ProcessJob). job_items ks) (sym (take_here js place j e)))
