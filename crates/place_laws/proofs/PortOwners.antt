-- A port's carrier is bound to it, is forgotten, or belongs to it no more: rows 1, 2, 6 and 7 of table 7.
use Rattle.std.proofs.Common.{◌≡◌, ℕ, suc, Bool, true, false, not, ◌&&◌, List, find, Option, Some, None, slice_get, refl, ap, subst, ◌∙◌}
use Rattle.std.proofs.lemmas.Bool.{and_parts, not-true}
use Rattle.load_port.specs.declared.port.Port.{Port}
use Rattle.carrier.specs.declared.carrier.Carrier.{Carrier}
use Rattle.carrier.specs.Carriers.{has_name, is_port, change_named, binds}
use Rattle.shop_floor.specs.Floor.{Floor, is_present, with_port}
use Rattle.shop_floor.specs.Rows.{freed, owned_by, owner, forgets, is_directed, bound_to, binding, forgetting}
use Rattle.shop_floor.specs.Valid.{IsFloor}
use Rattle.shop_floor.proofs.Apart.{IsOnly, all_follows, all_changed, found_only, found_passes}
use Rattle.place_laws.specs.Ports.{IsAtPort, IsNamedHere, AtPorts}
use Rattle.place_laws.proofs.Away.{IsAway, all_absent, away_absent, away_changed, all_forgets, away_forgets}
use Rattle.place_laws.proofs.PortChanges.{IsHeldHere, moved-at-ports, held_here, blocked_where}

-- ---- row 1: a carrier that isn't present is bound

-- the carrier that is bound is present under no name of a carrier, before and behind it
directed_absent : (place : ℕ) (f : Floor) (c : Carrier) → IsFloor f → find (is_directed (suc place)) f.carriers ≡ Some c → is_present c.name f.carriers ≡ false
directed_absent place f c valid found =
    all_absent c.name f.carriers (all_follows (IsOnly c) (IsAway c.name) f.carriers (λ d only. of d only (has_name c.name d) refl) (found_only (is_directed (suc place)) f.carriers c valid.apart found)) where
      absent : c.present ≡ false
      absent = not-true _ (and_parts (not c.present) (not c.bound) (and_parts (is_port (suc place) c.port) (not c.present && not c.bound) (found_passes (is_directed (suc place)) f.carriers c found)).1).0

      of : (d : Carrier) → IsOnly c d → (b : Bool) → has_name c.name d ≡ b → IsAway c.name d
      of d only true e = away_absent c.name d (ap (λ (x : Carrier). x.present) (only e) ∙ absent)
      of d only false e = rw e refl

bound-at-ports : (place : ℕ) (f : Floor) (p : Port) (c : Carrier) → slice_get f.ports place ≡ Some p → find (is_directed (suc place)) f.carriers ≡ Some c → IsFloor f → AtPorts f → AtPorts (bound_to (suc place) (Some c) f)
bound-at-ports place f p c s found valid kept =
    moved-at-ports place (owned_by c.name) f p (change_named c.name binds f.carriers) f.next_carrier s (record {
      arrival = refl;
      blocked = blocked_where place f p s kept;
      owner = λ name a arrives is. owner_here name is;
      here = all_changed (IsHeldHere place p) (IsHeldHere place (owned_by c.name p)) c.name binds f.carriers (λ d is held. held) (λ d other held. held) (held_here place f p s kept);
      at = all_changed (IsAtPort f.ports) (IsAtPort f.ports) c.name binds f.carriers (λ d is at. at) (λ d other at. at) kept.at;
      named = all_changed IsNamedHere IsNamedHere c.name binds f.carriers (λ d is named. named) (λ d other named. named) kept.named;
      away = away_changed c.name binds f.carriers (λ d. refl) (λ d. refl);
    }) kept where
      owner_here : (name : List ℕ) → Some c.name ≡ Some name → is_present name (change_named c.name binds f.carriers) ≡ false
      owner_here name is =
          let same : c.name ≡ name = cc in
          away_changed c.name binds f.carriers (λ d. refl) (λ d. refl) name (subst (λ (n : List ℕ). is_present n f.carriers ≡ false) same (directed_absent place f c valid found))

pub binding-at-ports : (place : ℕ) (f : Floor) (p : Port) → slice_get f.ports place ≡ Some p → IsFloor f → AtPorts f → AtPorts (binding (suc place) f)
binding-at-ports place f p s valid kept = of (find (is_directed (suc place)) f.carriers) refl where
  of : (o : Option Carrier) → find (is_directed (suc place)) f.carriers ≡ o → AtPorts (bound_to (suc place) o f)
  of None e = kept
  of (Some c) e = bound-at-ports place f p c s e valid kept

-- ---- rows 2 and 6: the port's carrier is forgotten

pub forgotten-at-ports : (place : ℕ) (f : Floor) (p : Port) → slice_get f.ports place ≡ Some p → AtPorts f → AtPorts (forgetting (suc place) f)
forgotten-at-ports place f p s kept =
    moved-at-ports place freed f p (forgets (owner (slice_get f.ports place)) f.carriers) f.next_carrier s (record {
      arrival = refl;
      blocked = blocked_where place f p s kept;
      owner = λ name a arrives is. absurd (cc);
      here = all_forgets (IsHeldHere place (freed p)) (owner (slice_get f.ports place)) f.carriers (held_here place f p s kept);
      at = all_forgets (IsAtPort f.ports) (owner (slice_get f.ports place)) f.carriers kept.at;
      named = all_forgets IsNamedHere (owner (slice_get f.ports place)) f.carriers kept.named;
      away = away_forgets (owner (slice_get f.ports place)) f.carriers;
    }) kept

-- ---- row 7: no carrier belongs to the port

pub freed-at-ports : (place : ℕ) (f : Floor) (p : Port) → slice_get f.ports place ≡ Some p → AtPorts f → AtPorts (with_port (suc place) freed f)
freed-at-ports place f p s kept =
    moved-at-ports place freed f p f.carriers f.next_carrier s (record {
      arrival = refl;
      blocked = blocked_where place f p s kept;
      owner = λ name a arrives is. absurd (cc);
      here = held_here place f p s kept;
      at = kept.at;
      named = kept.named;
      away = λ name e. e;
    }) kept
