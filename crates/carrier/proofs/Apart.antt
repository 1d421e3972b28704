-- The carriers after a change: each has its own name, and they are few.
use Rattle.std.proofs.Common.{◌≡◌, ℕ, ◌<◌, Bool, false, cond, List, [], ◌∷◌, ◌++◌, length, filter, refl, arith}
use Rattle.records.proofs.Apart.{apart_more, apart_first, apart_changed, apart_fewer, length_more, length_first, length_mapped, length_fewer}
use Rattle.carrier.specs.Carriers.{name_of, number_of, has_name, is_known, change_numbered, change_named, AreCarriers, most_carriers}
use Rattle.carrier.specs.Changes.{changed_by}
use Rattle.carrier.specs.declared.carrier.Carrier.{Carrier}
use Rattle.carrier.specs.declared.change.CarrierChange.{CarrierChange}
use Rattle.carrier.specs.declared.change.CarrierChange.TheVariants as change
use Rattle.records.specs.Numbers.{has_number}

-- no change gives a carrier another name
pub same_name : (d : CarrierChange) (c : Carrier) → name_of (changed_by d c) ≡ name_of c
same_name (change.Row table row) c = refl
same_name (change.ReadMap map) c = refl
same_name (change.Came port is_read map) c = refl
same_name (change.Directed port) c = refl
same_name change.Bound c = refl
same_name (change.ToldMap map) c = refl
same_name change.Stopped c = refl

pub carriers_none : AreCarriers []
carriers_none = record { apart = refl; few = omega arith }

-- one more, behind the others
pub carriers_more : (carrier : Carrier) (cs : List Carrier) → AreCarriers cs → is_known carrier.name cs ≡ false → length cs < most_carriers → AreCarriers (cs ++ carrier ∷ [])
carriers_more carrier cs h e l =
    let longer = length_more carrier cs in
    record { apart = apart_more name_of carrier cs h.apart e; few = omega arith }

-- that of a number changes
pub carriers_numbered : (n : ℕ) (d : CarrierChange) (cs : List Carrier) → AreCarriers cs → AreCarriers (change_numbered n (changed_by d) cs)
carriers_numbered n d cs h =
    let many = length_first (has_number number_of n) (changed_by d) cs in
    let few = h.few in
    record { apart = apart_first name_of (has_number number_of n) (changed_by d) (same_name d) cs h.apart; few = omega arith }

-- that of a name changes
pub carriers_named : (name : List ℕ) (d : CarrierChange) (cs : List Carrier) → AreCarriers cs → AreCarriers (change_named name (changed_by d) cs)
carriers_named name d cs h =
    let many = length_mapped (λ c. cond (has_name name c) (changed_by d c) c) cs in
    let few = h.few in
    record { apart = apart_changed name_of name (changed_by d) (same_name d) cs h.apart; few = omega arith }

-- some are forgotten
pub carriers_fewer : (test : Carrier → Bool) (cs : List Carrier) → AreCarriers cs → AreCarriers (filter test cs)
carriers_fewer test cs h =
    let shorter = length_fewer test cs in
    let few = h.few in
    record { apart = apart_fewer name_of test cs h.apart; few = omega arith }
