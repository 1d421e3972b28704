-- What came to a port is present there, by rows 3 to 5 of table 7.
use Rattle.std.proofs.Common.{◌≡◌, ℕ, suc, ◌==◌, true, false, List, Some, is_some, slice_get, refl, sym, ap, subst, arith}
use Rattle.std.proofs.lemmas.Bool.{both_ways}
use Rattle.std.proofs.lemmas.Bool.Decides.{nat_tests}
use Rattle.load_port.specs.declared.port.Port.{Port}
use Rattle.load_port.specs.declared.port.Arrival.{Arrival}
use Rattle.load_port.specs.declared.record.Transfer.{Transfer}
use Rattle.load_port.specs.declared.record.Transfer.TheVariants.{TransferBlocked, ReadyToUnload}
use Rattle.load_port.specs.Record.{is_occupied, is_blocked}
use Rattle.carrier.specs.declared.carrier.Carrier.{Carrier}
use Rattle.carrier.specs.Carriers.{change_named, found_or_created, next_number, came_to}
use Rattle.shop_floor.specs.Floor.{Floor}
use Rattle.shop_floor.specs.Rows.{taken_by, owner, forgets, without_owner, arrival_at, arrived, arriving}
use Rattle.shop_floor.proofs.Apart.{all_changed, all_found, named_so}
use Rattle.shop_floor.proofs.Keeps.{all_true, with_arrival}
use Rattle.place_laws.specs.Ports.{is_held, IsAtPort, IsItsName, IsNamedHere, AtPorts}
use Rattle.place_laws.proofs.Away.{all_forgets, away_forgets}
use Rattle.place_laws.proofs.PortChanges.{IsHeldHere, IsHeldElse, change-at-ports, carriers-at-ports}

blocked_occupied : (t : Transfer) → is_blocked t ≡ true → is_occupied t ≡ true
blocked_occupied TransferBlocked e = refl
blocked_occupied ReadyToUnload e = refl
blocked_occupied _ e = absurd (cc)

-- rows 3 and 5: the carrier is found or created
pub arrived-at-ports : (place : ℕ) (f : Floor) (p : Port) (a : Arrival) → slice_get f.ports place ≡ Some p → p.arrival ≡ Some a → AtPorts f → AtPorts (arrived (suc place) (Some a) f)
arrived-at-ports place f p a s is kept =
    change-at-ports place (taken_by a.name) f p (change_named a.name comes (found_or_created f.next_carrier a.name f.carriers)) (next_number f.next_carrier a.name f.carriers) s (record {
      here = all_true (IsHeldHere place (taken_by a.name p)) (change_named a.name comes (found_or_created f.next_carrier a.name f.carriers)) (λ c present here. now);
      others = all_changed (IsAtPort f.ports) (IsHeldElse place f.ports) a.name comes (found_or_created f.next_carrier a.name f.carriers)
          (λ c named at other. absurd (both_ways _ other own)) (λ c other at e. at)
          (all_found (IsAtPort f.ports) f.next_carrier a.name f.carriers (λ new present. absurd (cc)) kept.at);
      named = all_changed IsNamedHere IsNamedHere a.name comes (found_or_created f.next_carrier a.name f.carriers)
          (λ c named was present port here. its_name c (named_so a.name c named) port here) (λ c other was. was)
          (all_found IsNamedHere f.next_carrier a.name f.carriers (λ new present. absurd (cc)) kept.named);
      comes = λ b none. absurd (cc);
      elsewhere = λ n r b e found arrives. absurd (never n e (kept.alone n (suc place) r p found s (ap is_some arrives) (ap is_some is)));
      alone = λ n r e found some none. absurd (cc);
    }) kept where
      comes : Carrier → Carrier
      comes = came_to (suc place) a.is_read a.map

      blocked : is_blocked p.states.transfer ≡ true
      blocked = (kept.awaited (suc place) p a s is).blocked

      now : is_held (Some (taken_by a.name p)) ≡ true
      now = rw (blocked_occupied p.states.transfer blocked) refl

      own : (suc place == suc place) ≡ true
      own = grind (arith, nat_tests)

      its_name : (c : Carrier) → c.name ≡ a.name → (port : ℕ) → (suc place == port) ≡ true → IsItsName port c.name
      its_name c named port here =
          let same : suc place ≡ port = grind (arith, nat_tests) in
          let was : IsItsName port a.name = subst (λ (n : ℕ). IsItsName n a.name) same (kept.awaited (suc place) p a s is).named in
          subst (λ (name : List ℕ). IsItsName port name) (sym named) was

      never : (n : ℕ) → (n == suc place) ≡ false → n ≡ suc place → ⊥
      never n e same = grind (arith, nat_tests)

-- where something came
pub arriving-at-ports : (place : ℕ) (f : Floor) (p : Port) → slice_get f.ports place ≡ Some p → is_some p.arrival ≡ true → AtPorts f → AtPorts (arriving (suc place) f)
arriving-at-ports place f p s some kept =
    with_arrival p.arrival some
    (λ a is. subst (λ o. AtPorts (arrived (suc place) (arrival_at o) f)) (sym s)
    (subst (λ o. AtPorts (arrived (suc place) o f)) (sym is) (arrived-at-ports place f p a s is kept)))

-- row 4: the port's carrier is forgotten before that
pub replaced-at-ports : (place : ℕ) (f : Floor) (p : Port) → slice_get f.ports place ≡ Some p → is_some p.arrival ≡ true → AtPorts f → AtPorts (arriving (suc place) (without_owner (suc place) f))
replaced-at-ports place f p s some kept =
    arriving-at-ports place (without_owner (suc place) f) p s some
    (carriers-at-ports f (forgets (owner (slice_get f.ports place)) f.carriers) f.next_carrier
    (all_forgets (IsAtPort f.ports) (owner (slice_get f.ports place)) f.carriers kept.at)
    (all_forgets IsNamedHere (owner (slice_get f.ports place)) f.carriers kept.named)
    (away_forgets (owner (slice_get f.ports place)) f.carriers)
    kept)
