-- What is true of each machine's firings is true of one that starts, and of the least that is ready.
use Rattle.std.proofs.Common.{◌≡◌, ℕ, ◌==◌, Bool, true, false, cond, List, [], ◌∷◌, Option, Some, None, option_map, refl, sym, subst, ◌⊎◌, inl, inr, arith}
use Rattle.std.specs.List.{AllByRecursion}
use Rattle.std.specs.Option.{option_or}
use Rattle.std.proofs.lemmas.Bool.{true≢false}
use Rattle.std.proofs.lemmas.Bool.Decides.{nat_tests}
use Rattle.gem_tables.specs.Table.{firing}
use Rattle.gem_tables.specs.declared.firing.Firing.{Firing}
use Rattle.gem_tables.specs.Machine.{Machine, first_ready, starts_in, fired_in, creates_in, least_in}
use Rattle.gem_tables.proofs.Choosing.{or_cases}

-- the first that is ready is ready at one of the objects
pub first_ready_cases : (P : Firing → Type 0) (table : ℕ) (ready : ℕ → Option ℕ) (objects : List ℕ) (x : Firing)
    → ((object row : ℕ) → ready object ≡ Some row → P (firing table object row)) → first_ready table ready objects ≡ Some x → P x
first_ready_cases P table ready [] x cases e = absurd (cc)
first_ready_cases P table ready (o ∷ os) x cases e = by_row (ready o) refl e (first_ready_cases P table ready os x cases) where
  by_row : (r : Option ℕ) → ready o ≡ r → option_or (option_map (firing table o) r) (first_ready table ready os) ≡ Some x → (first_ready table ready os ≡ Some x → P x) → P x
  by_row (Some row) q f later = let same : firing table o row ≡ x = cc in subst P same (cases o row q)
  by_row None q f later = later f

-- where none is ready at any object, none is the first
pub none_ready : (table : ℕ) (ready : ℕ → Option ℕ) (objects : List ℕ) → ((object : ℕ) → ready object ≡ None) → first_ready table ready objects ≡ None
none_ready table ready [] none = refl
none_ready table ready (o ∷ os) none = rw (none o) (none_ready table ready os none)

module _ {World : Type 0} where
  -- a row that starts
  pub starts_cases : (P : Firing → Type 0) (w : World) (x : Firing) (ms : List (Machine World))
      → AllByRecursion (λ (m : Machine World). m.starts x.row.row x.object w ≡ true → P (firing m.table x.object x.row.row)) ms → starts_in ms x w ≡ true → P x
  starts_cases P w x [] all e = absurd (true≢false (sym e))
  starts_cases P w x (m ∷ ms) all e = by_test (x.row.table == m.table) refl e (starts_cases P w x ms all.1) where
    by_test : (b : Bool) → (x.row.table == m.table) ≡ b → cond b (m.starts x.row.row x.object w) (starts_in ms x w) ≡ true → (starts_in ms x w ≡ true → P x) → P x
    by_test true t f later =
        let same : m.table ≡ x.row.table = grind (arith, nat_tests) in
        subst (λ (table : ℕ). P (firing table x.object x.row.row)) same (all.0 f)
    by_test false t f later = later f

  -- the least row that is ready
  pub least_cases : (P : Firing → Type 0) (w : World) (x : Firing) (ms : List (Machine World))
      → AllByRecursion (λ (m : Machine World). (object row : ℕ) → m.ready object w ≡ Some row → P (firing m.table object row)) ms → least_in ms w ≡ Some x → P x
  least_cases P w x [] all e = absurd (cc)
  least_cases P w x (m ∷ ms) all e = by_option (least_cases P w x ms all.1) (or_cases _ (least_in ms w) x e) where
    by_option : (least_in ms w ≡ Some x → P x) → (first_ready m.table (λ object. m.ready object w) (m.objects w) ≡ Some x) ⊎ ((first_ready m.table (λ object. m.ready object w) (m.objects w) ≡ None) × (least_in ms w ≡ Some x)) → P x
    by_option later (inl f) = first_ready_cases P m.table (λ object. m.ready object w) (m.objects w) x all.0 f
    by_option later (inr f) = later f.1

  -- what follows a firing, and the world behind it
  pub either_creates : (P : List Firing → World → Type 0) (w : World) (x : Firing) (ms : List (Machine World)) → P [] w
      → AllByRecursion (λ (m : Machine World). P (m.creates x.row.row x.object w) (m.fired x.row.row x.object w)) ms → P (creates_in ms x w) (fired_in ms x w)
  either_creates P w x [] none all = none
  either_creates P w x (m ∷ ms) none all = by_test (x.row.table == m.table) (either_creates P w x ms none all.1) where
    by_test : (b : Bool) → P (creates_in ms x w) (fired_in ms x w)
        → P (cond b (m.creates x.row.row x.object w) (creates_in ms x w)) (cond b (m.fired x.row.row x.object w) (fired_in ms x w))
    by_test true later = all.0
    by_test false later = later
