-- What the least ready row is.
use Rattle.std.proofs.Common.{◌≡◌, ℕ, ◌==◌, true, false, [], ◌∷◌, map, Option, Some, None, refl, sym}
use Rattle.std.specs.List.{AllByRecursion}
use Rattle.std.specs.Option.{option_or}
use Rattle.std.proofs.lemmas.Bool.{true≢false}
use Rattle.gem_tables.specs.Table.{is_one_of}
use Rattle.gem_tables.specs.declared.firing.Firing.{Firing}
use Rattle.gem_tables.proofs.Rows.{one_of_cases}
use Rattle.gem_tables.specs.Machine.{first_ready, ready_in}
use Rattle.gem_tables.proofs.Machines.{none_ready}
use Rattle.shop_floor.proofs.EachTable.{least_cases}
use Rattle.load_port.specs.Tables.{access_number as mode_number, access_table}
use Rattle.carrier.specs.Tables.{access_number, accessing_table}
use Rattle.shop_floor.specs.Floor.{Floor, numbers_from, number_of}
use Rattle.shop_floor.specs.Machines.{floor_machines, access_machine, accessing_machine, floor_least}
use Rattle.shop_floor.proofs.Cases.{ready_at_port, ready_at_carrier}

-- no row of table 5 fires by itself
pub no_access : (f : Floor) (port row : ℕ) {P : Type 0} → access_machine.ready port f ≡ Some row → P
no_access f port row {P} e =
    ready_at_port mode_number access_table (λ s. s.access) (λ to s. record s { access = to }) (λ n r. P) f port row
    (λ place p s. ((λ itself. absurd (true≢false (sym itself))), ((λ itself. absurd (true≢false (sym itself))), tt))) e

-- nor does one of table 10: what it wants isn't told of the carrier alone
pub no_accessing : (f : Floor) (carrier row : ℕ) {P : Type 0} → accessing_machine.ready carrier f ≡ Some row → P
no_accessing f carrier row {P} e =
    ready_at_carrier access_number accessing_table (λ s. s.access) (λ to s. record s { access = to }) (λ r. P) f carrier row
    (λ c s. (
      (λ itself among wants. absurd (true≢false (sym wants))),
      (
        (λ itself among wants. absurd (true≢false (sym wants))),
        ((λ itself among wants. absurd (true≢false (sym wants))), ((λ itself. absurd (true≢false (sym itself))), tt)),
      ),
    )) e

-- it is one of these tables
pub least_table : (f : Floor) (x : Firing) → floor_least f ≡ Some x → is_one_of (4 ∷ 6 ∷ 7 ∷ 8 ∷ 9 ∷ []) x.row.table ≡ true
least_table f x e =
    least_cases (λ (y : Firing). is_one_of (4 ∷ 6 ∷ 7 ∷ 8 ∷ 9 ∷ []) y.row.table ≡ true) f x (record {
      transfer = λ o r s. refl;
      access = λ o r s. no_access f o r s;
      reservation = λ o r s. refl;
      association = λ o r s. refl;
      id = λ o r s. refl;
      map = λ o r s. refl;
      accessing = λ o r s. no_accessing f o r s;
    }) e

-- what is true of each of them is true of its table
pub of_tables : (P : ℕ → Type 0) (f : Floor) (x : Firing) → AllByRecursion P (4 ∷ 6 ∷ 7 ∷ 8 ∷ 9 ∷ []) → floor_least f ≡ Some x → P x.row.table
of_tables P f x all e = one_of_cases P (4 ∷ 6 ∷ 7 ∷ 8 ∷ 9 ∷ []) x.row.table all (least_table f x e)

-- and so none of communication, control and notes
pub not_table_1 : (f : Floor) (x : Firing) → floor_least f ≡ Some x → (x.row.table == 1) ≡ false
not_table_1 f x e = of_tables (λ n. (n == 1) ≡ false) f x (refl, (refl, (refl, (refl, (refl, tt))))) e

pub not_table_2 : (f : Floor) (x : Firing) → floor_least f ≡ Some x → (x.row.table == 2) ≡ false
not_table_2 f x e = of_tables (λ n. (n == 2) ≡ false) f x (refl, (refl, (refl, (refl, (refl, tt))))) e

pub not_table_3 : (f : Floor) (x : Firing) → floor_least f ≡ Some x → (x.row.table == 3) ≡ false
not_table_3 f x e = of_tables (λ n. (n == 3) ≡ false) f x (refl, (refl, (refl, (refl, (refl, tt))))) e

-- ---- where it is looked for

-- the first of a table of ports, and of one of carriers
abbrev pub first_port : ℕ → Floor → Option Firing
first_port table f = first_ready table (λ port. ready_in floor_machines table port f) (numbers_from 1 f.ports)

abbrev pub first_carrier : ℕ → Floor → Option Firing
first_carrier table f = first_ready table (λ carrier. ready_in floor_machines table carrier f) (map number_of f.carriers)

none_of : {A : Type 0} (o : Option A) → ((x : A) → o ≡ Some x → o ≡ None) → o ≡ None
none_of None f = refl
none_of (Some x) f = f x refl

or_none : {A : Type 0} (o : Option A) → option_or o None ≡ o
or_none None = refl
or_none (Some x) = refl

-- tables 5 and 10 may be passed over
pub least_so : (f : Floor) → floor_least f ≡ option_or (first_port 4 f) (option_or (first_port 6 f) (option_or (first_port 7 f) (option_or (first_carrier 8 f) (first_carrier 9 f))))
least_so f =
    let access : first_port 5 f ≡ None = none_ready 5 (λ port. access_machine.ready port f) (numbers_from 1 f.ports) (λ port. none_of (access_machine.ready port f) (λ row e. no_access f port row e)) in
    let accessing : first_carrier 10 f ≡ None = none_ready 10 (λ carrier. accessing_machine.ready carrier f) (map number_of f.carriers) (λ carrier. none_of (accessing_machine.ready carrier f) (λ row e. no_accessing f carrier row e)) in
    rw (access, accessing, or_none (first_carrier 9 f)) refl
