-- Elements read one after another.
use Rattle.std.proofs.Common.{◌≡◌, ◌*◌, ◌≤◌, Ok, Err, refl, ap, ℕ, suc, List, [], ◌∷◌, ◌++◌, length, drop, arith, length-drop, append_assoc, sym, ◌∙◌}
use Rattle.std.proofs.Math.Nat.{mul-suc}
use Rattle.item_model.specs.Data.{Data, DataList, no_items, item, added}
use Rattle.secs_items.specs.Given.{Fails}
use Rattle.item_model.specs.Reading.{Read, ◌>>=◌, elements_at, items_at}
use Rattle.item_model.specs.declared.fault.ItemFault.{ItemFault}
use Rattle.secs_items.proofs.Stepping.{fails_bind}

-- one more element is read
pub elements_step : {X : Type 0} (value : List ℕ → X) (w n m : ℕ) (done all : List X) (rest : List ℕ) → n ≡ suc m → w * n ≤ length rest →
    done ++ elements_at value w n rest ≡ all →
    (w * m ≤ length (drop w rest)) × ((done ++ value rest ∷ []) ++ elements_at value w m (drop w rest) ≡ all)
elements_step value w n m done all rest next room before =
    let room' : w * suc m ≤ length rest = rw next at room in
    let whole : done ++ elements_at value w (suc m) rest ≡ all = rw next at before in
    (omega (arith, mul-suc w m, length-drop w rest), append_assoc done (value rest ∷ []) (elements_at value w m (drop w rest)) ∙ whole)

-- the items of one list, and then those of another
abbrev pub joined : DataList → DataList → DataList
joined no_items ds = ds
joined (item d ds) es = item d (joined ds es)

-- what was read, and what is read behind it
abbrev pub behind_items : DataList → Read DataList → Read DataList
behind_items ds read = read >>= λ r. Ok (joined ds r.0, r.1)

joined-added : (ds es : DataList) (d : Data) → joined ds (item d es) ≡ joined (added ds d) es
joined-added no_items es d = refl
joined-added (item c ds) es d = ap (λ rest. item c rest) (joined-added ds es d)

joined-none : (ds : DataList) → joined ds no_items ≡ ds
joined-none no_items = refl
joined-none (item d ds) = ap (λ rest. item d rest) (joined-none ds)

behind_items-added : (ds : DataList) (d : Data) (read : Read DataList) → behind_items ds (read >>= λ r. Ok (item d r.0, r.1)) ≡ behind_items (added ds d) read
behind_items-added ds d (Ok r) = ap (λ all. Ok (all, r.1)) (joined-added ds r.0 d)
behind_items-added ds d (Err e) = refl

-- one more item is read
pub items_step : (one : List ℕ → Read Data) (n m : ℕ) (ds : DataList) (d : Data) (rest behind : List ℕ) (all : Read DataList) →
    n ≡ suc m → one rest ≡ Ok (d, behind) → behind_items ds (items_at one n rest) ≡ all → behind_items (added ds d) (items_at one m behind) ≡ all
items_step one n m ds d rest behind all next read before =
    let whole : behind_items ds (items_at one (suc m) rest) ≡ all = rw next at before in
    sym (behind_items-added ds d (items_at one m behind)) ∙ (rw read at whole)

-- no item is left to read
pub items_end : (one : List ℕ → Read Data) (n : ℕ) (ds : DataList) (rest : List ℕ) (all : Read DataList) →
    n ≡ 0 → behind_items ds (items_at one n rest) ≡ all → all ≡ Ok (ds, rest)
items_end one n ds rest all none before =
    let whole : Ok (joined ds no_items, rest) ≡ all = rw none at before in
    sym whole ∙ ap (λ ds. Ok (ds, rest)) (joined-none ds)

behind_items-fails : (e : ItemFault) (ds : DataList) (read all : Read DataList) → Fails e read → behind_items ds read ≡ all → Fails e all
behind_items-fails e ds read all failed same = rw (← same) (fails_bind e read _ failed)

-- the next item is not read
pub items_fail : (e : ItemFault) (one : List ℕ → Read Data) (n m : ℕ) (ds : DataList) (rest : List ℕ) (all : Read DataList) →
    n ≡ suc m → Fails e (one rest) → behind_items ds (items_at one n rest) ≡ all → Fails e all
items_fail e one n m ds rest all next failed before =
    let whole : behind_items ds (items_at one (suc m) rest) ≡ all = rw next at before in
    behind_items-fails e ds (items_at one (suc m) rest) all (fails_bind e (one rest) _ failed) whole
