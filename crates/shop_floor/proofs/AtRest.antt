-- Where no row is ready by itself, none is in any table, and none at any of a table's objects.
use Rattle.std.proofs.Common.{◌≡◌, ℕ, ◌==◌, Bool, true, false, ◌||◌, List, [], ◌∷◌, Option, Some, None, option_map, refl, subst}
use Rattle.std.specs.List.{AllByRecursion}
use Rattle.std.specs.Option.{option_or}
use Rattle.std.proofs.lemmas.Bool.Decides.{Decides-eqb}
use Rattle.gem_tables.specs.Table.{firing, is_one_of}
use Rattle.gem_tables.specs.Machine.{Machine, first_ready, least_in}
use Rattle.shop_floor.specs.Floor.{Floor}
use Rattle.shop_floor.specs.Machines.{floor_machines, floor_least}
use Rattle.shop_floor.proofs.EachTable.{EachTable, by_name}

-- neither of two choices gives anything
pub neither : {A : Type 0} (first second : Option A) → option_or first second ≡ None → (first ≡ None) × (second ≡ None)
neither None second e = (refl, e)
neither (Some x) second e = absurd (cc)

-- where what follows from one is not there, it isn't
pub mapped_none : {A B : Type 0} (f : A → B) (o : Option A) → option_map f o ≡ None → o ≡ None
mapped_none f None e = refl
mapped_none f (Some x) e = absurd (cc)

-- where none is the first, none is ready at any of these objects
pub first_none : (table : ℕ) (ready : ℕ → Option ℕ) (xs : List ℕ) → first_ready table ready xs ≡ None → (x : ℕ) → is_one_of xs x ≡ true → ready x ≡ None
first_none table ready [] e x is = absurd (cc)
first_none table ready (y ∷ ys) e x is =
    let both = neither (option_map (firing table y) (ready y)) (first_ready table ready ys) e in
    of (y == x) refl is (mapped_none (firing table y) (ready y) both.0) (first_none table ready ys both.1 x)
  where
    of : (b : Bool) → (y == x) ≡ b → (b || is_one_of ys x) ≡ true → ready y ≡ None → (is_one_of ys x ≡ true → ready x ≡ None) → ready x ≡ None
    of true q is here rest = subst (λ (k : ℕ). ready k ≡ None) ((Decides-eqb y x).0 q) here
    of false q is here rest = rest is

-- no row of a table is ready
abbrev pub Rests : {World : Type 0} → World → Machine World → Type 0
Rests w m = first_ready m.table (λ object. m.ready object w) (m.objects w) ≡ None

-- where the least of all tables is none, the first of each is none
pub none_least : {World : Type 0} (ms : List (Machine World)) (w : World) → least_in ms w ≡ None → AllByRecursion (Rests w) ms
none_least [] w e = tt
none_least (m ∷ ms) w e =
    let both = neither (first_ready m.table (λ object. m.ready object w) (m.objects w)) (least_in ms w) e in
    (both.0, none_least ms w both.1)

-- so no row of tables 4 to 10 is ready
pub rests : (f : Floor) → floor_least f ≡ None → EachTable (Rests f)
rests f e = by_name (Rests f) (none_least floor_machines f e)
