-- How the open transactions are kept: each in the slab, under a key, and the keys in the order of the starts.
use Rattle.std.specs.Prelude.{◌≡◌, ℕ, ◌≤◌, List, [], ◌∷◌, length, filter_map, Some, vec_capacity}
use Rattle.slab.specs.Slab.{Slab, get, slab_len}
use Rattle.transactions.specs.declared.transaction.Open.{Open}
use Rattle.transactions.specs.declared.table.Transactions.TheInside.{Inside}
use Rattle.transactions.specs.Table.{Table, AreDifferent, limit}

-- the transactions under these keys
abbrev pub under : Slab Open → List ℕ → List Open
under slab keys = filter_map (get slab) keys

-- each of these keys has its transaction
abbrev pub Holds : Slab Open → List ℕ → List Open → Type 0
Holds slab [] [] = Unit {0}
Holds slab [] (one ∷ others) = ⊥
Holds slab (key ∷ keys) [] = ⊥
Holds slab (key ∷ keys) (one ∷ others) = (get slab key ≡ Some one) × Holds slab keys others

-- what callers see
abbrev pub table_of : Inside → Table
table_of kept = record { next = kept.next; opened = under kept.slab kept.order.items }

-- what is always true of the fields
pub record IsKept (kept : Inside) : Type 0 where
  pub holds : Holds kept.slab kept.order.items (under kept.slab kept.order.items)
  pub different : AreDifferent (under kept.slab kept.order.items)
  pub count : slab_len kept.slab ≡ length kept.order.items
  pub within : length kept.order.items ≤ limit
  pub slab_room : limit ≤ kept.slab.capacity
  pub order_room : limit ≤ vec_capacity kept.order
