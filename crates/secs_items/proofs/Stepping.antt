-- What the reading of an item gives, by what its format byte is.
use Rattle.std.proofs.Common.{◌≡◌, ◌-◌, ◌≢◌, refl, ℕ, zero, suc, List, length, Ok, Err, Result, false}
use Rattle.item_model.specs.Data.{Data, DataList, list}
use Rattle.secs_items.specs.Given.{Fails}
use Rattle.item_model.specs.Reading.{Read, ◌>>=◌, format_at, is_list, length_at, items_at, leaf_at, list_at, item_at}
use Rattle.item_model.specs.declared.fault.ItemFault.{ItemFault}
use Rattle.item_model.specs.declared.fault.ItemFault.TheVariants as fault
use Rattle.item_model.specs.declared.format.Format.{Format}
use Rattle.item_model.specs.declared.format.Format.TheVariants as format

-- a fault goes past what would have come next
pub fails_bind : {A B : Type 0} (e : ItemFault) (r : Result A ItemFault) (f : A → Result B ItemFault) → Fails e r → Fails e (r >>= f)
fails_bind fault.NoMemory r f failed = tt
fails_bind e r f failed = rw failed refl

pub fails_item : (levels total : ℕ) (bytes : List ℕ) (e : ItemFault) → Fails e (format_at total bytes) → Fails e (item_at levels total bytes)
unfolding item_at
fails_item zero total bytes e failed = fails_bind e (format_at total bytes) _ failed
fails_item (suc l) total bytes e failed = fails_bind e (format_at total bytes) _ failed

pub leaf_item : (levels total k : ℕ) (bytes rest : List ℕ) (f : Format) → format_at total bytes ≡ Ok (f, k, rest) → is_list f ≡ false →
    item_at levels total bytes ≡ leaf_at total (total - length bytes) f k rest
unfolding item_at
leaf_item zero total k bytes rest f read other = rw (read, other) refl
leaf_item (suc l) total k bytes rest f read other = rw (read, other) refl

pub deep_item : (total k : ℕ) (bytes rest : List ℕ) → format_at total bytes ≡ Ok (format.List, k, rest) →
    item_at 0 total bytes ≡ Err (fault.TooDeep (total - length bytes))
unfolding item_at
deep_item total k bytes rest read = rw read refl

pub list_item : (l total k : ℕ) (bytes rest : List ℕ) → format_at total bytes ≡ Ok (format.List, k, rest) →
    item_at (suc l) total bytes ≡ list_at (item_at l total) total k rest
unfolding item_at
list_item l total k bytes rest read = rw read refl

pub other_list : (f : Format) → f ≢ format.List → is_list f ≡ false
other_list format.List other = absurd (other refl)
other_list f other = refl

-- a list is its length and its items
pub fails_length : (one : List ℕ → Read Data) (total k : ℕ) (bytes : List ℕ) (e : ItemFault) → Fails e (length_at total k bytes) → Fails e (list_at one total k bytes)
unfolding list_at
fails_length one total k bytes e failed = fails_bind e (length_at total k bytes) _ failed

pub fails_items : (one : List ℕ → Read Data) (total k n : ℕ) (bytes rest : List ℕ) (e : ItemFault) → length_at total k bytes ≡ Ok (n, rest) →
    Fails e (items_at one n rest) → Fails e (list_at one total k bytes)
unfolding list_at
fails_items one total k n bytes rest e read failed = rw read (fails_bind e (items_at one n rest) _ failed)

pub whole_list : (one : List ℕ → Read Data) (total k n : ℕ) (bytes rest behind : List ℕ) (ds : DataList) → length_at total k bytes ≡ Ok (n, rest) →
    items_at one n rest ≡ Ok (ds, behind) → list_at one total k bytes ≡ Ok (list ds, behind)
unfolding list_at
whole_list one total k n bytes rest behind ds read items = rw (read, items) refl
