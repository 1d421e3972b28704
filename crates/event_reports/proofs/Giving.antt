-- Items that are added one by one.
use Rattle.std.proofs.Common.{◌≡◌, ◌<◌, ◌≤◌, ◌+◌, ◌++◌, ℕ, List, [], ◌∷◌, length, take, get_or, Option, Result, Ok, Err, OnErr, refl, sym, ◌∙◌, ap}
use Rattle.std.proofs.lemmas.List.{take_all, take_more}
use Rattle.std.specs.Option.{unwrap_or}
use Rattle.item_model.specs.Data.{Data, DataList, list, no_items, item, added, first_items}
use Rattle.item_model.specs.Plain.{count_of}
use Rattle.event_reports.specs.Values.{joined}
use Rattle.event_reports.specs.Reports.{Reports, value_items, report_item, items_of_reports}

-- nothing is added at the end
pub joined-none : (ds : DataList) → joined ds no_items ≡ ds
joined-none no_items = refl
joined-none (item d ds) = ap (item d) (joined-none ds)

-- the first of them are what stood there before
first_joined : (ds more : DataList) → first_items (count_of ds) (joined ds more) ≡ ds
first_joined no_items more = refl
first_joined (item d ds) more = ap (item d) (first_joined ds more)

-- so are they where something was added before memory ran out
pub again : {T E : Type 0} (r : Result T E) (added_of : ℕ → DataList) (old out new : DataList) (count : ℕ) → count ≡ count_of old →
    OnErr r ((n : ℕ) × (out ≡ joined old (added_of n))) → OnErr r (new ≡ first_items count out) → OnErr r (new ≡ old)
again (Ok x) added_of old out new count e some first = tt
again (Err x) added_of old out new count e (n, some) first = first ∙ rw (e, some) (first_joined old (added_of n))

-- one is added behind what was added
added-joined : (ds more : DataList) (d : Data) → added (joined ds more) d ≡ joined ds (added more d)
added-joined no_items more d = refl
added-joined (item e ds) more d = ap (item e) (added-joined ds more d)

-- ---- values

values-added : (value : ℕ → Option Data) (vids : List ℕ) (vid : ℕ) → value_items value (vids ++ vid ∷ []) ≡ added (value_items value vids) (unwrap_or (value vid) (list no_items))
values-added value [] vid = refl
values-added value (v ∷ vids) vid = ap (item (unwrap_or (value v) (list no_items))) (values-added value vids vid)

-- the value of one variable more
pub values_more : (value : ℕ → Option Data) (vids : List ℕ) (i : ℕ) (start out pushed : DataList) →
    i < length vids → out ≡ joined start (value_items value (take i vids)) → pushed ≡ added out (unwrap_or (value (get_or vids i 0)) (list no_items)) →
    pushed ≡ joined start (value_items value (take (i + 1) vids))
values_more value vids i start out pushed less so_far more =
    let d = unwrap_or (value (get_or vids i 0)) (list no_items) in
    more
    ∙ ap (λ ds. added ds d) so_far
    ∙ added-joined start (value_items value (take i vids)) d
    ∙ sym (ap (joined start) (ap (value_items value) (take_more vids i 0 less) ∙ values-added value (take i vids) (get_or vids i 0)))

-- the values of all variables
pub values_all : (value : ℕ → Option Data) (vids : List ℕ) (i : ℕ) (start out : DataList) →
    length vids ≤ i → out ≡ joined start (value_items value (take i vids)) → out ≡ joined start (value_items value vids)
values_all value vids i start out all so_far = so_far ∙ ap (λ vs. joined start (value_items value vs)) (take_all i vids all)

-- ---- reports

reports-added : (value : ℕ → Option Data) (r : Reports) (rptids : List ℕ) (rptid : ℕ) → items_of_reports value (rptids ++ rptid ∷ []) r ≡ added (items_of_reports value rptids r) (report_item value rptid r)
reports-added value r [] rptid = refl
reports-added value r (p ∷ rptids) rptid = ap (item (report_item value p r)) (reports-added value r rptids rptid)

-- one report more
pub reports_more : (value : ℕ → Option Data) (r : Reports) (rptids : List ℕ) (i : ℕ) (start out pushed : DataList) →
    i < length rptids → out ≡ joined start (items_of_reports value (take i rptids) r) → pushed ≡ added out (report_item value (get_or rptids i 0) r) →
    pushed ≡ joined start (items_of_reports value (take (i + 1) rptids) r)
reports_more value r rptids i start out pushed less so_far more =
    let d = report_item value (get_or rptids i 0) r in
    more
    ∙ ap (λ ds. added ds d) so_far
    ∙ added-joined start (items_of_reports value (take i rptids) r) d
    ∙ sym (ap (joined start) (ap (λ ps. items_of_reports value ps r) (take_more rptids i 0 less) ∙ reports-added value r (take i rptids) (get_or rptids i 0)))

-- all reports
pub reports_all : (value : ℕ → Option Data) (r : Reports) (rptids : List ℕ) (i : ℕ) (start out : DataList) →
    length rptids ≤ i → out ≡ joined start (items_of_reports value (take i rptids) r) → out ≡ joined start (items_of_reports value rptids r)
reports_all value r rptids i start out all so_far = so_far ∙ ap (λ ps. joined start (items_of_reports value ps r)) (take_all i rptids all)
