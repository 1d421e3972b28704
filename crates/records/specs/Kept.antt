-- How records are kept.
use Rattle.std.specs.Prelude.{◌≡◌, ℕ, true, List, map}
use Rattle.std.specs.List.{AllByRecursion}
use Rattle.records.specs.Names.{are_named_apart}
use Rattle.records.specs.declared.key.Key.{Key}

-- the records of a map, in the order of its entries
abbrev pub records_of : {R : Type 0} → List (Key × R) → List R
records_of entries = map (λ e. e.1) entries

-- the key of an entry is the name of its record
abbrev pub IsKeyed : {R : Type 0} → (R → List ℕ) → Key × R → Type 0
IsKeyed name e = e.0.name ≡ name e.1

-- what is always true of the entries
pub record AreKept {R : Type 0} (name : R → List ℕ) (entries : List (Key × R)) : Type 0 where
  pub keyed : AllByRecursion (IsKeyed name) entries
  pub apart : are_named_apart name (records_of entries) ≡ true
