-- A row that creates a carrier finds room for it.
use Rattle.std.proofs.Common.{◌≡◌, ℕ, suc, ◌==◌, ◌≤◌, Bool, true, false, not, cond, ◌||◌, List, [], ◌∷◌, length, Option, Some, None, is_some, slice_get, refl, sym, ap, subst, arith, ◌∙◌, ◌⊎◌, inl, inr}
use Rattle.std.specs.Str.{bytes_eq}
use Rattle.std.proofs.lemmas.Bool.{true≢false, and_parts, or_parts, or_from, both_ways, not-true, eqb-true}
use Rattle.gem_tables.specs.Table.{firing, row_of}
use Rattle.gem_tables.specs.declared.firing.Firing.{Firing}
use Rattle.gem_tables.proofs.Rows.{looked_for}
use Rattle.shop_floor.proofs.EachTable.{starts_cases}
use Rattle.load_port.specs.declared.record.Association.{Association}
use Rattle.load_port.specs.declared.port.Port.{Port}
use Rattle.load_port.specs.declared.port.Arrival.{Arrival}
use Rattle.load_port.specs.Tables.{PortRow, transfer_table, access_table, reservation_table, association_number, association_table}
use Rattle.load_port.specs.Ports.{port_numbered}
use Rattle.carrier.specs.declared.carrier.Carrier.{Carrier}
use Rattle.carrier.specs.Carriers.{has_name, is_known, without, most_carriers}
use Rattle.shop_floor.specs.Floor.{Floor}
use Rattle.shop_floor.specs.Rows.{owner, forgets, is_own, arrival_at, is_new, found_creates, creation_of_arrival}
use Rattle.shop_floor.specs.Machines.{floor_starts, is_some_row, creates}
use Rattle.shop_floor.specs.Valid.{IsTold, IsFloor}
use Rattle.shop_floor.proofs.Apart.{named_so}
use Rattle.shop_floor.proofs.Belonging.{all_at}
use Rattle.shop_floor.proofs.Association.{begins, stands}
use Rattle.shop_floor.proofs.Cases.{starts_at_port}
use Rattle.shop_floor.proofs.Keeps.{with_some, with_arrival, own_name, own_some}
use Rattle.shop_floor.proofs.Room.{room_3, room_4, room_5}

-- there is a row where the list isn't empty
pub some_row : (xs : List Firing) → not (length xs == 0) ≡ is_some_row xs
some_row [] = refl
some_row (x ∷ xs) = of (suc (length xs) == 0) refl where
  of : (b : Bool) → (suc (length xs) == 0) ≡ b → not b ≡ true
  of true e = let no = eqb-true (suc (length xs)) 0 e in absurd (omega (arith, no))
  of false e = refl

-- ---- by the row

-- only what isn't known is created
new_so : (a : Option Arrival) (f : Floor) → is_some_row (creation_of_arrival a f) ≡ true → is_new a f.carriers ≡ true
new_so a f e = of (is_new a f.carriers) e where
  of : (b : Bool) → is_some_row (cond b (firing 8 f.next_carrier 1 ∷ []) []) ≡ true → b ≡ true
  of true e = refl
  of false e = absurd (true≢false (sym e))

-- row 5: what came is the port's carrier
at_5 : (place : ℕ) (f : Floor) (p : Port) → IsFloor f → slice_get f.ports place ≡ Some p → is_own p.carrier p.arrival ≡ true → is_new p.arrival f.carriers ≡ true → suc (length f.carriers) ≤ most_carriers
at_5 place f p valid s own new =
    with_arrival p.arrival (own_some p.carrier p.arrival own)
    (λ a is. room_5 place f p a.name valid s (own_name p.carrier a (ap (is_own p.carrier) (sym is) ∙ own)) (not-true _ (ap (λ o. is_new o f.carriers) (sym is) ∙ new)))

-- row 4: the port's carrier is forgotten
at_4 : (place : ℕ) (f : Floor) (p : Port) → IsFloor f → slice_get f.ports place ≡ Some p → is_some p.carrier ≡ true → suc (length (forgets (owner (slice_get f.ports place)) f.carriers)) ≤ most_carriers
at_4 place f p valid s some =
    with_some p.carrier some
    (λ name its. subst (λ o. suc (length (forgets (owner o) f.carriers)) ≤ most_carriers) (sym s)
    (subst (λ o. suc (length (forgets o f.carriers)) ≤ most_carriers) (sym its) (room_4 place f p name valid s its)))

-- what there is room for, at a row that starts
record HasRoom (f : Floor) (port row : ℕ) (o : Option (PortRow Association)) : Type 0 where
  comes : is_some_row (found_creates o port f) ≡ true → (row == 4) ≡ false → suc (length f.carriers) ≤ most_carriers
  replaces : (row == 4) ≡ true → suc (length (forgets (owner (port_numbered port f.ports)) f.carriers)) ≤ most_carriers

nothing : (f : Floor) (port row : ℕ) (o : Option (PortRow Association)) → is_some_row (found_creates o port f) ≡ false → (row == 4) ≡ false → HasRoom f port row o
nothing f port row o none other = record { comes = λ e t. absurd (both_ways _ none e); replaces = λ t. absurd (both_ways _ other t) }

arrives : (f : Floor) (port row : ℕ) (o : Option (PortRow Association)) → (row == 4) ≡ false → (is_some_row (found_creates o port f) ≡ true → suc (length f.carriers) ≤ most_carriers) → HasRoom f port row o
arrives f port row o other room = record { comes = λ e t. room e; replaces = λ t. absurd (both_ways _ other t) }

has_room : (f : Floor) (port row : ℕ) → IsFloor f → floor_starts (firing 7 port row) f ≡ true → HasRoom f port row (row_of association_table row)
has_room f port row valid starts =
    starts_at_port association_number association_table (λ s. s.association) (λ to s. record s { association = to }) (HasRoom f) f port row
    (λ place p s. let told = all_at IsTold place f.ports p s valid.told in (
      (λ among wants. nothing f (suc place) 1 _ refl refl),
      (
        (λ among wants. nothing f (suc place) 2 _ refl refl),
        (
          (λ among wants. arrives f (suc place) 3 _ refl (λ e. room_3 place f p valid s (begins 3 p told refl among).none)),
          (
            (λ among wants. record { comes = λ e t. absurd (true≢false t); replaces = λ t. at_4 place f p valid s (stands 4 true p told refl among).some }),
            (
              (λ among wants. arrives f (suc place) 5 _ refl (λ e. at_5 place f p valid s wants (ap (λ o. is_new (arrival_at o) f.carriers) (sym s) ∙ new_so (arrival_at (slice_get f.ports place)) f e))),
              (
                (λ among wants. nothing f (suc place) 6 _ refl refl),
                ((λ among wants. nothing f (suc place) 7 _ refl refl), tt),
              ),
            ),
          ),
        ),
      ),
    ))
    starts

-- rows 3 and 5, where what came isn't known
pub room-arrives : (row port : ℕ) (f : Floor) → (row ≡ 3) ⊎ (row ≡ 5) → floor_starts (firing 7 port row) f ≡ true → IsFloor f → is_new (arrival_at (port_numbered port f.ports)) f.carriers ≡ true → suc (length f.carriers) ≤ most_carriers
room-arrives row port f (inl is) starts valid new = (has_room f port 3 valid (subst (λ r. floor_starts (firing 7 port r) f ≡ true) is starts)).comes (rw new refl) refl
room-arrives row port f (inr is) starts valid new = (has_room f port 5 valid (subst (λ r. floor_starts (firing 7 port r) f ≡ true) is starts)).comes (rw new refl) refl

-- row 4, whatever came
pub room-forgets : (row port : ℕ) (f : Floor) → row ≡ 4 → floor_starts (firing 7 port row) f ≡ true → IsFloor f → suc (length (forgets (owner (port_numbered port f.ports)) f.carriers)) ≤ most_carriers
room-forgets row port f is starts valid = (has_room f port 4 valid (subst (λ r. floor_starts (firing 7 port r) f ≡ true) is starts)).replaces refl

-- ---- by the firing

-- the rows of the other tables create nothing
transfer_none : (f : Floor) (port row : ℕ) → creates (firing 4 port row) f ≡ false
transfer_none f port row = looked_for (λ o. is_some_row (found_creates o port f) ≡ false) transfer_table row refl (refl, (refl, (refl, (refl, (refl, tt)))))

access_none : (f : Floor) (port row : ℕ) → creates (firing 5 port row) f ≡ false
access_none f port row = looked_for (λ o. is_some_row (found_creates o port f) ≡ false) access_table row refl (refl, (refl, tt))

reservation_none : (f : Floor) (port row : ℕ) → creates (firing 6 port row) f ≡ false
reservation_none f port row = looked_for (λ o. is_some_row (found_creates o port f) ≡ false) reservation_table row refl (refl, (refl, (refl, tt)))

-- a row that starts and creates is one of table 7
of_creating : (P : Firing → Type 0) (x : Firing) (f : Floor) → (floor_starts (firing 7 x.object x.row.row) f ≡ true → creates (firing 7 x.object x.row.row) f ≡ true → P (firing 7 x.object x.row.row)) → floor_starts x f ≡ true → creates x f ≡ true → P x
of_creating P x f at_7 starts makes =
    starts_cases (λ (y : Firing). creates y f ≡ true → P y) f x (record {
      transfer = λ s m. absurd (both_ways _ (transfer_none f x.object x.row.row) m);
      access = λ s m. absurd (both_ways _ (access_none f x.object x.row.row) m);
      reservation = λ s m. absurd (both_ways _ (reservation_none f x.object x.row.row) m);
      association = λ s m. at_7 s m;
      id = λ s m. absurd (true≢false (sym m));
      map = λ s m. absurd (true≢false (sym m));
      accessing = λ s m. absurd (true≢false (sym m));
    }) starts makes

pub room-comes : (x : Firing) (f : Floor) → floor_starts x f ≡ true → creates x f ≡ true → (x.row.row == 4) ≡ false → IsFloor f → suc (length f.carriers) ≤ most_carriers
room-comes x f starts makes other valid =
    of_creating (λ (y : Firing). (y.row.row == 4) ≡ false → suc (length f.carriers) ≤ most_carriers) x f (λ s m. (has_room f x.object x.row.row valid s).comes m) starts makes other

pub room-replaces : (x : Firing) (f : Floor) → floor_starts x f ≡ true → creates x f ≡ true → (x.row.row == 4) ≡ true → IsFloor f → suc (length (forgets (owner (port_numbered x.object f.ports)) f.carriers)) ≤ most_carriers
room-replaces x f starts makes is valid =
    of_creating (λ (y : Firing). (y.row.row == 4) ≡ true → suc (length (forgets (owner (port_numbered y.object f.ports)) f.carriers)) ≤ most_carriers) x f (λ s m. (has_room f x.object x.row.row valid s).replaces) starts makes is

-- ---- what isn't known behind row 4

-- another name than the one that is forgotten
known_kept : (n name : List ℕ) (cs : List Carrier) → bytes_eq name n ≡ false → is_known n (without name cs) ≡ false → is_known n cs ≡ false
known_kept n name [] other e = refl
known_kept n name (c ∷ cs) other e = of (has_name name c) refl e (known_kept n name cs other) where
  of : (b : Bool) → has_name name c ≡ b → is_known n (cond (not b) (c ∷ without name cs) (without name cs)) ≡ false → (is_known n (without name cs) ≡ false → is_known n cs ≡ false) → (has_name n c || is_known n cs) ≡ false
  of true t e later = or_from _ _ (subst (λ m. bytes_eq m n ≡ false) (sym (named_so name c t)) other) (later e)
  of false t e later = let parts = or_parts (has_name n c) (is_known n (without name cs)) e in or_from _ _ parts.0 (later parts.1)

new_kept : (carrier : Option (List ℕ)) (arrival : Option Arrival) (cs : List Carrier) → not (is_own carrier arrival) ≡ true → is_new arrival (forgets carrier cs) ≡ true → is_new arrival cs ≡ true
new_kept None arrival cs other e = e
new_kept (Some name) None cs other e = absurd (cc)
new_kept (Some name) (Some a) cs other e = ap not (known_kept a.name name cs (not-true _ other) (not-true _ e))

-- what came isn't known either where the port's carrier isn't forgotten yet
pub new-replaced : (row port : ℕ) (f : Floor) → row ≡ 4 → floor_starts (firing 7 port row) f ≡ true → is_new (arrival_at (port_numbered port f.ports)) (forgets (owner (port_numbered port f.ports)) f.carriers) ≡ true → creates (firing 7 port row) f ≡ true
new-replaced row port f is starts new =
    starts_at_port association_number association_table (λ s. s.association) (λ to s. record s { association = to })
    (λ (n r : ℕ) (o : Option (PortRow Association)). r ≡ 4 → is_new (arrival_at (port_numbered n f.ports)) (forgets (owner (port_numbered n f.ports)) f.carriers) ≡ true → is_some_row (found_creates o n f) ≡ true) f port row
    (λ place p s. (
      (λ among wants is new. absurd (omega (arith, is))),
      (
        (λ among wants is new. absurd (omega (arith, is))),
        (
          (λ among wants is new. absurd (omega (arith, is))),
          (
            (λ among wants is new. rw (subst (λ (o : Option Port). is_new (arrival_at o) (forgets (owner o) f.carriers) ≡ true → is_new (arrival_at o) f.carriers ≡ true) (sym s) (new_kept p.carrier p.arrival f.carriers (and_parts (is_some p.arrival) (not (is_own p.carrier p.arrival)) wants).1) new) refl),
            ((λ among wants is new. absurd (omega (arith, is))), ((λ among wants is new. absurd (omega (arith, is))), ((λ among wants is new. absurd (omega (arith, is))), tt))),
          ),
        ),
      ),
    ))
    starts is new
