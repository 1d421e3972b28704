-- What follows where a substrate can be registered, and where it can move.
use Rattle.std.proofs.Common.{◌≡◌, ℕ, ◌<◌, nat_lt, Bool, true, false, true≢false, not, List, length, Option, Some, None, is_some, refl, sym, ap, ◌∙◌, arith}
use Rattle.std.proofs.lemmas.Bool.Decides.{nat_tests}
use Rattle.gem_ids.specs.declared.numbers.LocId.{LocId}
use Rattle.substrate.specs.Places.{substrate_named, is_known, is_taken, substrate_at, is_there, has_place, fault_of, register_fault, can_shift, most_substrates}
use Rattle.substrate.specs.declared.registered.Registered.{Registered}
use Rattle.records.proofs.Truth.{and_true, not_true}
use Rattle.substrate.proofs.Sites.{same_is}
use Rattle.substrate.proofs.Standing.{at_taken}

-- the place is free, the name is new, and there is room
pub record IsFree (sub : List ℕ) (loc : LocId) (rs : List Registered) : Type 0 where
  pub place : is_taken loc rs ≡ false
  pub name : is_known sub rs ≡ false
  pub room : length rs < most_substrates

no_fault : (who : Option (List ℕ)) (known room : Bool) → fault_of who known room ≡ None → (who ≡ None) × (known ≡ false) × (room ≡ true)
no_fault (Some w) known room h = absurd (cc)
no_fault None true room h = absurd (cc)
no_fault None false true h = (refl, refl, refl)
no_fault None false false h = absurd (cc)

pub is_free : (sub : List ℕ) (loc : LocId) (rs : List Registered) → register_fault sub loc rs ≡ None → IsFree sub loc rs
is_free sub loc rs h =
    let parts = no_fault (substrate_at loc rs) (is_known sub rs) (nat_lt (length rs) most_substrates) h in
    let room = parts.2 in
    record {
      place = sym (at_taken loc rs) ∙ ap is_some parts.0;
      name = parts.1;
      room = grind (arith, nat_tests);
    }

-- the substrate is at the start, and the end is free
pub record CanMove (sub : List ℕ) (from to : LocId) (rs : List Registered) : Type 0 where
  pub found : Registered
  pub named : substrate_named sub rs ≡ Some found
  pub at : found.at ≡ from
  pub free : is_taken to rs ≡ false

pub can_move : (sub : List ℕ) (from to : LocId) (rs : List Registered) → can_shift sub from to rs ≡ true → CanMove sub from to rs
can_move sub from to rs h = by_option (substrate_named sub rs) refl (and_true (has_place sub from rs) (not (is_taken to rs)) h) where
  by_option : (o : Option Registered) → substrate_named sub rs ≡ o → (is_there from o ≡ true) × (not (is_taken to rs) ≡ true) → CanMove sub from to rs
  by_option None s parts = absurd (true≢false (sym parts.0))
  by_option (Some found) s parts = record { found = found; named = s; at = same_is found.at from parts.0; free = not_true _ parts.1 }
