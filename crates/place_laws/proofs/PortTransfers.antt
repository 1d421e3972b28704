-- The rows of table 4 that are fired alone, and how the ports begin.
use Rattle.std.proofs.Common.{◌≡◌, ℕ, zero, suc, true, false, not, ◌&&◌, [], ◌∷◌, Some, is_some, slice_get, refl, sym, ap}
use Rattle.std.proofs.lemmas.Bool.{both_ways, and_parts, not-true}
use Rattle.std.proofs.lemmas.List.Elements.{All-from_recursion, All-contains}
use Rattle.gem_tables.specs.Table.{is_among}
use Rattle.load_port.specs.declared.port.Port.{Port}
use Rattle.load_port.specs.declared.record.Transfer.{Transfer}
use Rattle.load_port.specs.declared.record.Transfer.TheVariants.{OutOfService, TransferBlocked, ReadyToLoad, ReadyToUnload}
use Rattle.load_port.specs.Tables.{transfer_number}
use Rattle.load_port.specs.Record.{is_occupied}
use Rattle.load_port.specs.Ports as ports
use Rattle.load_port.specs.Ports.{first_ports, port_numbered}
use Rattle.carrier.specs.declared.carrier.Carrier.{Carrier}
use Rattle.carrier.specs.Carriers.{is_port, is_present_at, is_finished}
use Rattle.shop_floor.specs.Floor.{Floor, opening, with_port}
use Rattle.shop_floor.specs.Rows.{has_finished}
use Rattle.shop_floor.proofs.Apart.{all_follows, found_one, found_passes, found_contained}
use Rattle.place_laws.specs.Ports.{is_held, AtPorts}
use Rattle.place_laws.proofs.PortChanges.{IsHeldHere, IsNotHere, moved-at-ports, held_here, nobody_here, none_awaited, free_blocked}

-- ---- the beginning

first_arrival : (n place : ℕ) (p : Port) → slice_get (first_ports n) place ≡ Some p → is_some p.arrival ≡ false
first_arrival zero place p e = absurd (cc)
first_arrival (suc n) zero p e = let same : ports.first_port ≡ p = cc in ap (λ (q : Port). is_some q.arrival) (sym same)
first_arrival (suc n) (suc place) p e = first_arrival n place p e

opening_arrival : (n number : ℕ) (p : Port) → port_numbered number (first_ports n) ≡ Some p → is_some p.arrival ≡ false
opening_arrival n zero p e = absurd (cc)
opening_arrival n (suc place) p e = first_arrival n place p e

pub opening-at-ports : (n : ℕ) → AtPorts (opening n)
opening-at-ports n = record {
  at = tt;
  named = tt;
  awaited = λ port p a found arrives. absurd (both_ways _ (opening_arrival n port p found) (ap is_some arrives));
  alone = λ k m p q found other some too. absurd (both_ways _ (opening_arrival n k p found) some);
}

-- ---- the states of a transfer, where a row starts

pub among_out : (t : Transfer) → is_among transfer_number (OutOfService ∷ []) t ≡ true → t ≡ OutOfService
among_out OutOfService e = refl
among_out _ e = absurd (cc)

pub among_blocked : (t : Transfer) → is_among transfer_number (TransferBlocked ∷ []) t ≡ true → t ≡ TransferBlocked
among_blocked TransferBlocked e = refl
among_blocked _ e = absurd (cc)

pub among_loadable : (t : Transfer) → is_among transfer_number (ReadyToLoad ∷ []) t ≡ true → t ≡ ReadyToLoad
among_loadable ReadyToLoad e = refl
among_loadable _ e = absurd (cc)

pub among_unloadable : (t : Transfer) → is_among transfer_number (ReadyToUnload ∷ []) t ≡ true → t ≡ ReadyToUnload
among_unloadable ReadyToUnload e = refl
among_unloadable _ e = absurd (cc)

-- ---- rows 1 and 2: nobody is there, and nothing is awaited

pub free-at-ports : (row place : ℕ) (f : Floor) (p : Port) → slice_get f.ports place ≡ Some p → is_occupied p.states.transfer ≡ false → AtPorts f → AtPorts (with_port (suc place) (ports.fires_row 4 row) f)
free-at-ports row place f p s free kept = moved-at-ports place (ports.fires_row 4 row) f p f.carriers f.next_carrier s (record {
  arrival = refl;
  blocked = λ some. absurd (both_ways _ (none_awaited place f p s (free_blocked p.states.transfer free) kept) some);
  owner = λ name a arrives is. (kept.awaited (suc place) p a s arrives).owner name is;
  here = all_follows (IsNotHere place) (IsHeldHere place (ports.fires_row 4 row p)) f.carriers (λ c absent present here. absurd (absent present here)) (nobody_here place f p s free kept);
  at = kept.at;
  named = kept.named;
  away = λ name e. e;
}) kept

-- ---- row 4: a carrier that is present there is finished, so nothing is awaited

-- the port is held where one is present
pub held_where : (place : ℕ) (f : Floor) (p : Port) → slice_get f.ports place ≡ Some p → has_finished (suc place) f.carriers ≡ true → AtPorts f → is_held (Some p) ≡ true
held_where place f p s finished kept =
    let one = found_one (λ (c : Carrier). is_present_at (suc place) c && is_finished c.states) f.carriers finished in
    let passes = found_passes (λ (c : Carrier). is_present_at (suc place) c && is_finished c.states) f.carriers one.0 one.1 in
    let there = and_parts (is_present_at (suc place) one.0) (is_finished one.0.states) passes in
    let parts = and_parts one.0.present (is_port (suc place) one.0.port) there.0 in
    let among = found_contained (λ (c : Carrier). is_present_at (suc place) c && is_finished c.states) f.carriers one.0 one.1 in
    let all = All-from_recursion (IsHeldHere place p) f.carriers (held_here place f p s kept) in
    All-contains (IsHeldHere place p) f.carriers one.0 all among parts.0 parts.1

pub finished-at-ports : (place : ℕ) (f : Floor) (p : Port) → slice_get f.ports place ≡ Some p → p.states.transfer ≡ TransferBlocked → has_finished (suc place) f.carriers ≡ true → AtPorts f → AtPorts (with_port (suc place) (ports.fires_row 4 4) f)
finished-at-ports place f p s blocked finished kept = moved-at-ports place (ports.fires_row 4 4) f p f.carriers f.next_carrier s (record {
  arrival = refl;
  blocked = λ some. absurd (both_ways _ none some);
  owner = λ name a arrives is. (kept.awaited (suc place) p a s arrives).owner name is;
  here = all_follows (IsHeldHere place p) (IsHeldHere place (ports.fires_row 4 4 p)) f.carriers (λ c held present here. now) (held_here place f p s kept);
  at = kept.at;
  named = kept.named;
  away = λ name e. e;
}) kept where
  none : is_some p.arrival ≡ false
  none = not-true _ (and_parts (is_occupied p.states.transfer) (not (is_some p.arrival)) (held_where place f p s finished kept)).1

  now : is_held (Some (ports.fires_row 4 4 p)) ≡ true
  now = rw (blocked, none) refl
