-- A row that doesn't start leaves the state.
use Rattle.std.proofs.Common.{◌≡◌, ℕ, Bool, true, false, ◌||◌, if◌then◌else◌, List, [], ◌∷◌, refl}
use Rattle.gem_tables.specs.Table.{Row, row_starts, starts, after}

neither : (a b : Bool) → (a || b) ≡ false → (a ≡ false) × (b ≡ false)
neither true b e = absurd (cc)
neither false b e = (refl, e)

pub after-stays : {S W E : Type 0} (number : S → ℕ) (rows : List (Row S W E)) (row : ℕ) (state : S) → starts number rows row state ≡ false → after number rows row state ≡ state
after-stays number [] row state never = refl
after-stays number (r ∷ rows) row state never =
    let both = neither (row_starts number r row state) (starts number rows row state) never in
    rw both.0 (after-stays number rows row state both.1)
