-- Records by their names. A name is the list of its bytes, and `name` tells that of a record.
use Rattle.std.specs.Prelude.{ℕ, Bool, true, not, ◌&&◌, if◌then◌else◌, List, [], ◌∷◌, map, filter, find, Option}
use Rattle.std.specs.List.{list_any}
use Rattle.std.specs.Str.{bytes_eq}

-- the record has this name
abbrev pub has_name : {R : Type 0} → (R → List ℕ) → List ℕ → R → Bool
has_name name n r = bytes_eq (name r) n

-- the record of a name
abbrev pub record_named : {R : Type 0} → (R → List ℕ) → List ℕ → List R → Option R
record_named name n rs = find (has_name name n) rs

-- a record of the name is there
abbrev pub is_named : {R : Type 0} → (R → List ℕ) → List ℕ → List R → Bool
is_named name n rs = list_any (has_name name n) rs

-- those of a name change
abbrev pub change_named : {R : Type 0} → (R → List ℕ) → List ℕ → (R → R) → List R → List R
change_named name n change rs = map (λ r. if has_name name n r then change r else r) rs

-- the records without those of a name
abbrev pub without_named : {R : Type 0} → (R → List ℕ) → List ℕ → List R → List R
without_named name n rs = filter (λ r. not (has_name name n r)) rs

-- each name is that of one record
abbrev pub are_named_apart : {R : Type 0} → (R → List ℕ) → List R → Bool
are_named_apart name [] = true
are_named_apart name (r ∷ rs) = not (is_named name (name r) rs) && are_named_apart name rs
