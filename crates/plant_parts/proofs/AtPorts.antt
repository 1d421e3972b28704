-- Rows at ports, one after another.
use Rattle.std.proofs.Common.{drop, get_or, drop-cons, add-one, append_assoc, ◌++◌, ◌+◌, ◌<◌, zero, suc, ◌≡◌, ℕ, ◌≤◌, length, List, [], ◌∷◌, sym, ◌∙◌, ap, refl, arith}
use Rattle.std.proofs.lemmas.List.{append-nil}
use Rattle.gem_tables.specs.Table.{firing}
use Rattle.gem_tables.specs.declared.firing.Firing.{Firing}
use Rattle.shop_floor.specs.Requests.{at_ports}

drop_end : (xs : List ℕ) (i : ℕ) → length xs ≤ i → drop i xs ≡ []
drop_end [] zero within = refl
drop_end [] (suc i) within = refl
drop_end (x ∷ xs) zero within = absurd (omega (arith, within))
drop_end (x ∷ xs) (suc i) within = drop_end xs i (omega (arith, within))

-- the one at a place, and those behind it
next_of : (xs : List ℕ) (i : ℕ) → i < length xs → drop i xs ≡ get_or xs i 0 ∷ drop (i + 1) xs
next_of xs i within = drop-cons xs i 0 within ∙ rw add-one refl

-- the rows at the ports that are left, behind those that are listed
pub ports_more : (table row : ℕ) (rows : List Firing) (ports : List ℕ) (i : ℕ) → i < length ports → (rows ++ firing table (get_or ports i 0) row ∷ []) ++ at_ports table row (drop (i + 1) ports) ≡ rows ++ at_ports table row (drop i ports)
ports_more table row rows ports i within =
    append_assoc rows (firing table (get_or ports i 0) row ∷ []) (at_ports table row (drop (i + 1) ports))
    ∙ ap (λ (ps : List ℕ). rows ++ at_ports table row ps) (sym (next_of ports i within))

pub ports_all : (table row : ℕ) (rows : List Firing) (ports : List ℕ) (i : ℕ) → length ports ≤ i → rows ++ at_ports table row (drop i ports) ≡ at_ports table row ports → rows ≡ at_ports table row ports
ports_all table row rows ports i within is =
    sym (append-nil rows) ∙ ap (λ (ps : List ℕ). rows ++ at_ports table row ps) (sym (drop_end ports i within)) ∙ is
