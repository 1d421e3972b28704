-- Where no row is ready by itself, nothing is awaited at a port, and its carrier is present at no other.
use Rattle.std.proofs.Common.{◌≡◌, ℕ, zero, suc, ◌+◌, Bool, true, false, cond, not, ◌&&◌, List, [], ◌∷◌, Option, Some, None, is_some, option_map, slice_get, refl, sym, ap, subst, arith, ◌∙◌}
use Rattle.std.specs.List.{AllByRecursion}
use Rattle.gem_tables.specs.Table.{Row, is_itself, is_among, first_itself, firing}
use Rattle.gem_tables.specs.Machine.{first_ready}
use Rattle.load_port.specs.declared.port.Port.{Port}
use Rattle.load_port.specs.declared.port.Arrival.{Arrival}
use Rattle.load_port.specs.declared.record.Association.{Association}
use Rattle.load_port.specs.declared.record.Association.TheVariants.{NotAssociated, Associated}
use Rattle.load_port.specs.Record.{is_associated}
use Rattle.load_port.specs.Tables.{association_number, association_table}
use Rattle.shop_floor.specs.Floor.{Floor, numbers_from}
use Rattle.shop_floor.specs.Rows.{port_wants, is_own, is_elsewhere}
use Rattle.shop_floor.specs.Machines.{port_ready, floor_least, association_machine}
use Rattle.shop_floor.specs.Valid.{IsTold, IsFloor}
use Rattle.shop_floor.proofs.AtRest.{neither, mapped_none, rests}
use Rattle.shop_floor.proofs.Belonging.{all_at}

-- ---- nothing is ready

-- none is ready at any of the objects
none_first : (table : ℕ) (ready : ℕ → Option ℕ) (objects : List ℕ) → first_ready table ready objects ≡ None → AllByRecursion (λ n. ready n ≡ None) objects
none_first table ready [] e = tt
none_first table ready (n ∷ ns) e =
    let parts = neither (option_map (firing table n) (ready n)) (first_ready table ready ns) e in
    (mapped_none (firing table n) (ready n) parts.0, none_first table ready ns parts.1)

-- so it is at the port of each number
at_number : (P : ℕ → Type 0) (first place n : ℕ) (ports : List Port) (p : Port) → n ≡ first + place → AllByRecursion P (numbers_from first ports) → slice_get ports place ≡ Some p → P n
at_number P first place n [] p e all s = absurd (cc)
at_number P first zero n (q ∷ qs) p e all s = let same : first ≡ n = omega (arith, e) in subst P same all.0
at_number P first (suc place) n (q ∷ qs) p e all s = at_number P (first + 1) place n qs p (omega (arith, e)) all.1 s

-- no row of a table is
pub no_row : {S W E : Type 0} (number : S → ℕ) (finds : W → Bool) (rows : List (Row S W E)) (state : S) → first_itself number finds rows state ≡ None
    → AllByRecursion (λ (r : Row S W E). (is_itself r.by && (is_among number r.from state && finds r.wants)) ≡ false) rows
no_row number finds [] state e = tt
no_row number finds (r ∷ rows) state e = of (is_itself r.by && (is_among number r.from state && finds r.wants)) refl e (no_row number finds rows state) where
  of : (b : Bool) → (is_itself r.by && (is_among number r.from state && finds r.wants)) ≡ b → cond b (Some r.number) (first_itself number finds rows state) ≡ None
      → (first_itself number finds rows state ≡ None → AllByRecursion (λ (q : Row _ _ _). (is_itself q.by && (is_among number q.from state && finds q.wants)) ≡ false) rows)
      → AllByRecursion (λ (q : Row _ _ _). (is_itself q.by && (is_among number q.from state && finds q.wants)) ≡ false) (r ∷ rows)
  of true t f later = absurd (cc)
  of false t f later = (t, later f)

-- ---- at a port

-- nothing came to it that is not told of yet, and its carrier is present at no other
pub record IsQuiet (f : Floor) (place : ℕ) (p : Port) : Type 0 where
  pub none : is_some p.arrival ≡ false
  pub not_elsewhere : is_elsewhere (suc place) p.carrier f.carriers ≡ false

-- neither what is the port's own came nor anything else
none_came : (carrier : Option (List ℕ)) (arrival : Option Arrival) → (is_some arrival && not (is_own carrier arrival)) ≡ false → is_own carrier arrival ≡ false → is_some arrival ≡ false
none_came carrier None other own = refl
none_came carrier (Some a) other own = let all : not (is_own carrier (Some a)) ≡ false = other in let turned : not (is_own carrier (Some a)) ≡ true = rw own refl in absurd (cc)

-- where no carrier belongs to the port, none that does is elsewhere
none_elsewhere : (carrier : Option (List ℕ)) → is_some carrier ≡ false → (port : ℕ) (f : Floor) → is_elsewhere port carrier f.carriers ≡ false
none_elsewhere None e port f = refl
none_elsewhere (Some name) e port f = absurd (cc)

-- by what the port is associated with
quiet_by : (f : Floor) (place : ℕ) (p : Port) (a : Association) → p.states.association ≡ a → IsTold p → first_itself association_number (λ want. port_wants want (suc place) p f.carriers) association_table a ≡ None → IsQuiet f place p
quiet_by f place p NotAssociated is told none =
    let rows = no_row association_number (λ want. port_wants want (suc place) p f.carriers) association_table NotAssociated none in
    let free : is_some p.carrier ≡ false = sym told ∙ ap is_associated is in
    record { none = rows.1.1.0; not_elsewhere = none_elsewhere p.carrier free (suc place) f }
quiet_by f place p Associated is told none =
    let rows = no_row association_number (λ want. port_wants want (suc place) p f.carriers) association_table Associated none in
    let from_4 = rows.1.1.1 in
    record { none = none_came p.carrier p.arrival from_4.0 from_4.1.0; not_elsewhere = from_4.1.1.1.0 }

-- where no row is ready by itself
pub quiet_port : (f : Floor) (place : ℕ) (p : Port) → slice_get f.ports place ≡ Some p → floor_least f ≡ None → IsFloor f → IsQuiet f place p
quiet_port f place p s least valid =
    let each = none_first 7 (λ object. association_machine.ready object f) (association_machine.objects f) (rests f least).association in
    let here : association_machine.ready (suc place) f ≡ None = at_number (λ n. association_machine.ready n f ≡ None) 1 place (suc place) f.ports p (omega arith) each s in
    quiet_by f place p p.states.association refl (all_at IsTold place f.ports p s valid.told)
    (subst (λ (o : Option Port). port_ready association_number association_table (λ r. r.association) (λ to r. record r { association = to }) (suc place) f o ≡ None) s here)
