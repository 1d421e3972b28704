-- What holds of the ports and of the carriers at them goes on to hold, where one port and the carriers change.
use Rattle.std.proofs.Common.{◌≡◌, ℕ, zero, suc, ◌==◌, Bool, true, false, List, [], ◌∷◌, Option, Some, None, is_some, slice_get, refl, sym, ap, subst, arith, ◌∙◌}
use Rattle.std.specs.List.{AllByRecursion}
use Rattle.std.proofs.lemmas.Bool.{both_ways}
use Rattle.std.proofs.lemmas.Bool.Decides.{nat_tests}
use Rattle.gem_tables.specs.Table.{update_at}
use Rattle.gem_ids.specs.declared.numbers.PortNo.{PortNo}
use Rattle.load_port.specs.declared.port.Port.{Port}
use Rattle.load_port.specs.declared.port.Arrival.{Arrival}
use Rattle.load_port.specs.declared.record.Transfer.{Transfer}
use Rattle.load_port.specs.declared.record.Transfer.TheVariants.{OutOfService, TransferBlocked, ReadyToLoad, ReadyToUnload}
use Rattle.load_port.specs.Record.{is_occupied, is_blocked}
use Rattle.load_port.specs.Ports.{port_numbered}
use Rattle.carrier.specs.declared.carrier.Carrier.{Carrier}
use Rattle.carrier.specs.Carriers.{is_port}
use Rattle.shop_floor.specs.Floor.{Floor, floor_of, is_present, with_port}
use Rattle.shop_floor.specs.Valid.{port_of}
use Rattle.shop_floor.proofs.Apart.{all_both, all_follows}
use Rattle.shop_floor.proofs.Belonging.{get_updated, numbered_same, numbered_other}
use Rattle.place_laws.specs.Ports.{is_held, IsAtPort, IsNamedHere, IsAwaited, AtPorts}
use Rattle.place_laws.proofs.Away.{StayAway}

-- ---- the port of a number

-- it is the changed one, or one that stays
pub numbered_cases : (P : Option Port → Type 0) (n place : ℕ) (change : Port → Port) (ports : List Port) (p : Port) → slice_get ports place ≡ Some p
    → ((n == suc place) ≡ true → P (Some (change p))) → ((n == suc place) ≡ false → P (port_numbered n ports)) → P (port_numbered n (update_at place change ports))
numbered_cases P n place change ports p s here other = of (n == suc place) refl where
  of : (b : Bool) → (n == suc place) ≡ b → P (port_numbered n (update_at place change ports))
  of true e =
      let same : n ≡ suc place = grind (arith, nat_tests) in
      subst P (sym (numbered_same n place (update_at place change ports) same ∙ get_updated place change ports p s)) (here e)
  of false e = subst P (sym (numbered_other n place change ports e)) (other e)

-- what holds at each place whose port passes a test holds at one, where no port fails it
pub at_place : (P : ℕ → Type 0) (test : ℕ → Option Port → Bool) (ps : List Port) (port : ℕ) → ((n : ℕ) → test n None ≡ false)
    → ((place : ℕ) (p : Port) → slice_get ps place ≡ Some p → test (suc place) (Some p) ≡ true → P (suc place)) → test port (port_numbered port ps) ≡ true → P port
at_place P test ps zero none there e = absurd (both_ways _ (none zero) e)
at_place P test ps (suc place) none there e = of (slice_get ps place) refl e where
  of : (o : Option Port) → slice_get ps place ≡ o → test (suc place) o ≡ true → P (suc place)
  of None s t = absurd (both_ways _ (none (suc place)) t)
  of (Some p) s t = there place p s t

-- that of a carrier that is at the place
pub port_here : (o : Option PortNo) (place : ℕ) (ports : List Port) (p : Port) → slice_get ports place ≡ Some p → is_port (suc place) o ≡ true → port_of o ports ≡ Some p
port_here None place ports p s e = absurd (cc)
port_here (Some n) place ports p s e = let same : n.0 ≡ suc place = grind (arith, nat_tests) in numbered_same n.0 place ports same ∙ s

-- two changes of a place are one
pub updated_twice : {X : Type 0} (n : ℕ) (first second : X → X) (xs : List X) → update_at n second (update_at n first xs) ≡ update_at n (λ x. second (first x)) xs
updated_twice zero first second [] = refl
updated_twice (suc n) first second [] = refl
updated_twice zero first second (x ∷ xs) = refl
updated_twice (suc n) first second (x ∷ xs) = ap (λ ys. x ∷ ys) (updated_twice n first second xs)

-- ---- a carrier that is present

-- at the place
abbrev pub IsHeldHere : ℕ → Port → Carrier → Type 0
IsHeldHere place p c = c.present ≡ true → is_port (suc place) c.port ≡ true → is_held (Some p) ≡ true

-- at another one
abbrev pub IsHeldElse : ℕ → List Port → Carrier → Type 0
IsHeldElse place ports c = is_port (suc place) c.port ≡ false → IsAtPort ports c

-- none is at the place
abbrev pub IsNotHere : ℕ → Carrier → Type 0
IsNotHere place c = c.present ≡ true → is_port (suc place) c.port ≡ true → ⊥

pub at_changed : (place : ℕ) (change : Port → Port) (ports : List Port) (p : Port) (c : Carrier) → slice_get ports place ≡ Some p → IsHeldHere place (change p) c → IsHeldElse place ports c → IsAtPort (update_at place change ports) c
at_changed place change ports p c s here other present = of c.port (here present) (λ e. other e present) where
  of : (o : Option PortNo) → (is_port (suc place) o ≡ true → is_held (Some (change p)) ≡ true) → (is_port (suc place) o ≡ false → is_held (port_of o ports) ≡ true) → is_held (port_of o (update_at place change ports)) ≡ true
  of None h e = e refl
  of (Some n) h e = numbered_cases (λ q. is_held q ≡ true) n.0 place change ports p s h e

-- ---- all of it

-- what is to hold of the port of a place as it becomes, and of the carriers as they become
pub record Changed (place : ℕ) (f : Floor) (q : Port) (cs : List Carrier) : Type 0 where
  pub here : AllByRecursion (IsHeldHere place q) cs
  pub others : AllByRecursion (IsHeldElse place f.ports) cs
  pub named : AllByRecursion IsNamedHere cs
  pub comes : (a : Arrival) → q.arrival ≡ Some a → IsAwaited cs (suc place) q a
  pub elsewhere : (n : ℕ) (r : Port) (a : Arrival) → (n == suc place) ≡ false → port_numbered n f.ports ≡ Some r → r.arrival ≡ Some a → IsAwaited cs n r a
  pub alone : (n : ℕ) (r : Port) → (n == suc place) ≡ false → port_numbered n f.ports ≡ Some r → is_some r.arrival ≡ true → is_some q.arrival ≡ true → ⊥

pub change-at-ports : (place : ℕ) (change : Port → Port) (f : Floor) (p : Port) (cs : List Carrier) (next : ℕ) → slice_get f.ports place ≡ Some p → Changed place f (change p) cs → AtPorts f → AtPorts (floor_of (update_at place change f.ports) cs next)
change-at-ports place change f p cs next s changed kept = record {
  at = all_follows (λ c. IsHeldHere place (change p) c × IsHeldElse place f.ports c) (IsAtPort (update_at place change f.ports)) cs
      (λ c both. at_changed place change f.ports p c s both.0 both.1)
      (all_both (IsHeldHere place (change p)) (IsHeldElse place f.ports) cs changed.here changed.others);
  named = changed.named;
  awaited = λ n q a found arrives. numbered_cases (λ (o : Option Port). o ≡ Some q → IsAwaited cs n q a) n place change f.ports p s
      (λ e is. awaited_here n q a e is arrives)
      (λ e is. changed.elsewhere n q a e is arrives)
      found;
  alone = λ n m q r found other some too. numbered_cases (λ (o : Option Port). o ≡ Some q → n ≡ m) n place change f.ports p s
      (λ e is. numbered_cases (λ (o : Option Port). o ≡ Some r → n ≡ m) m place change f.ports p s
      (λ t at. grind (arith, nat_tests))
      (λ t at. absurd (changed.alone m r t at too (arrives_here q is some)))
      other)
      (λ e is. numbered_cases (λ (o : Option Port). o ≡ Some r → n ≡ m) m place change f.ports p s
      (λ t at. absurd (changed.alone n q e is some (arrives_here r at too)))
      (λ t at. kept.alone n m q r is at some too)
      other)
      found;
} where
  awaited_here : (n : ℕ) (q : Port) (a : Arrival) → (n == suc place) ≡ true → Some (change p) ≡ Some q → q.arrival ≡ Some a → IsAwaited cs n q a
  awaited_here n q a e is arrives =
      let same : n ≡ suc place = grind (arith, nat_tests) in
      let one : change p ≡ q = cc in
      let came : (change p).arrival ≡ Some a = ap (λ (r : Port). r.arrival) one ∙ arrives in
      subst (λ (m : ℕ). IsAwaited cs m q a) (sym same) (subst (λ (r : Port). IsAwaited cs (suc place) r a) one (changed.comes a came))

  arrives_here : (q : Port) → Some (change p) ≡ Some q → is_some q.arrival ≡ true → is_some (change p).arrival ≡ true
  arrives_here q is some = let one : change p ≡ q = cc in ap (λ (r : Port). is_some r.arrival) one ∙ some

-- ---- where the port keeps what came

-- what is to hold then
pub record Moved (f : Floor) (place : ℕ) (p q : Port) (cs : List Carrier) : Type 0 where
  pub arrival : q.arrival ≡ p.arrival
  pub blocked : is_some p.arrival ≡ true → is_blocked q.states.transfer ≡ true
  pub owner : (name : List ℕ) (a : Arrival) → p.arrival ≡ Some a → q.carrier ≡ Some name → is_present name cs ≡ false
  pub here : AllByRecursion (IsHeldHere place q) cs
  pub at : AllByRecursion (IsAtPort f.ports) cs
  pub named : AllByRecursion IsNamedHere cs
  pub away : StayAway f.carriers cs

-- what came is awaited behind a change of the carriers
pub awaited_on : (n : ℕ) (r : Port) (a : Arrival) (before cs : List Carrier) → StayAway before cs → IsAwaited before n r a → IsAwaited cs n r a
awaited_on n r a before cs away was = record {
  blocked = was.blocked;
  new = away a.name was.new;
  named = was.named;
  owner = λ name is. away name (was.owner name is);
}

pub moved-at-ports : (place : ℕ) (change : Port → Port) (f : Floor) (p : Port) (cs : List Carrier) (next : ℕ) → slice_get f.ports place ≡ Some p → Moved f place p (change p) cs → AtPorts f → AtPorts (floor_of (update_at place change f.ports) cs next)
moved-at-ports place change f p cs next s moved kept = change-at-ports place change f p cs next s (record {
  here = moved.here;
  others = all_follows (IsAtPort f.ports) (IsHeldElse place f.ports) cs (λ c at e. at) moved.at;
  named = moved.named;
  comes = λ a e. awaited_here a (sym moved.arrival ∙ e);
  elsewhere = λ n r a e found arrives. awaited_on n r a f.carriers cs moved.away (kept.awaited n r a found arrives);
  alone = λ n r e found some too. never n e (kept.alone n (suc place) r p found s some (ap is_some (sym moved.arrival) ∙ too));
}) kept where
  awaited_here : (a : Arrival) → p.arrival ≡ Some a → IsAwaited cs (suc place) (change p) a
  awaited_here a arrives = let was = kept.awaited (suc place) p a s arrives in record {
    blocked = moved.blocked (ap is_some arrives);
    new = moved.away a.name was.new;
    named = was.named;
    owner = λ name is. moved.owner name a arrives is;
  }

  never : (n : ℕ) → (n == suc place) ≡ false → n ≡ suc place → ⊥
  never n e same = grind (arith, nat_tests)

-- no port changes
pub carriers-at-ports : (f : Floor) (cs : List Carrier) (next : ℕ) → AllByRecursion (IsAtPort f.ports) cs → AllByRecursion IsNamedHere cs → StayAway f.carriers cs → AtPorts f → AtPorts (floor_of f.ports cs next)
carriers-at-ports f cs next at named away kept = record {
  at = at;
  named = named;
  awaited = λ n p a found arrives. awaited_on n p a f.carriers cs away (kept.awaited n p a found arrives);
  alone = kept.alone;
}

-- ---- what holds at a place

-- a carrier is held there as it is
pub held_here : (place : ℕ) (f : Floor) (p : Port) → slice_get f.ports place ≡ Some p → AtPorts f → AllByRecursion (IsHeldHere place p) f.carriers
held_here place f p s kept =
    all_follows (IsAtPort f.ports) (IsHeldHere place p) f.carriers
    (λ c at present here. ap is_held (sym (port_here c.port place f.ports p s here)) ∙ at present) kept.at

-- none is present where the port isn't occupied, or where something is awaited
not_held : (place : ℕ) (f : Floor) (p : Port) → slice_get f.ports place ≡ Some p → is_held (Some p) ≡ false → AtPorts f → AllByRecursion (IsNotHere place) f.carriers
not_held place f p s none kept =
    all_follows (IsHeldHere place p) (IsNotHere place) f.carriers (λ c held present here. both_ways _ none (held present here)) (held_here place f p s kept)

pub nobody_here : (place : ℕ) (f : Floor) (p : Port) → slice_get f.ports place ≡ Some p → is_occupied p.states.transfer ≡ false → AtPorts f → AllByRecursion (IsNotHere place) f.carriers
nobody_here place f p s free kept = not_held place f p s (rw free refl) kept

-- nothing is awaited where the port isn't TRANSFER BLOCKED
pub none_awaited : (place : ℕ) (f : Floor) (p : Port) → slice_get f.ports place ≡ Some p → is_blocked p.states.transfer ≡ false → AtPorts f → is_some p.arrival ≡ false
none_awaited place f p s other kept = of p.arrival refl where
  of : (o : Option Arrival) → p.arrival ≡ o → is_some o ≡ false
  of None e = refl
  of (Some a) e = absurd (both_ways _ other (kept.awaited (suc place) p a s e).blocked)

-- what is awaited is so at a port that is TRANSFER BLOCKED
pub blocked_where : (place : ℕ) (f : Floor) (p : Port) → slice_get f.ports place ≡ Some p → AtPorts f → is_some p.arrival ≡ true → is_blocked p.states.transfer ≡ true
blocked_where place f p s kept some = of p.arrival refl some where
  of : (o : Option Arrival) → p.arrival ≡ o → is_some o ≡ true → is_blocked p.states.transfer ≡ true
  of None e t = absurd (cc)
  of (Some a) e t = (kept.awaited (suc place) p a s e).blocked

-- a port that isn't occupied isn't TRANSFER BLOCKED
pub free_blocked : (t : Transfer) → is_occupied t ≡ false → is_blocked t ≡ false
free_blocked OutOfService e = refl
free_blocked TransferBlocked e = absurd (cc)
free_blocked ReadyToLoad e = refl
free_blocked ReadyToUnload e = refl

-- ---- a change of states that leaves the transfer

-- it leaves what came and the carrier, too
pub record LeavesTransfer (change : Port → Port) : Type 0 where
  pub transfer : (p : Port) → (change p).states.transfer ≡ p.states.transfer
  pub arrival : (p : Port) → (change p).arrival ≡ p.arrival
  pub carrier : (p : Port) → (change p).carrier ≡ p.carrier

-- a change of a place that isn't there changes nothing
update_none : {X : Type 0} (n : ℕ) (change : X → X) (xs : List X) → slice_get xs n ≡ None → update_at n change xs ≡ xs
update_none zero change [] e = refl
update_none (suc n) change [] e = refl
update_none zero change (x ∷ xs) e = absurd (cc)
update_none (suc n) change (x ∷ xs) e = ap (λ ys. x ∷ ys) (update_none n change xs e)

pub states-at-ports : (port : ℕ) (change : Port → Port) (f : Floor) → LeavesTransfer change → AtPorts f → AtPorts (with_port port change f)
states-at-ports zero change f leaves kept = kept
states-at-ports (suc place) change f leaves kept = of (slice_get f.ports place) refl where
  of : (o : Option Port) → slice_get f.ports place ≡ o → AtPorts (with_port (suc place) change f)
  of None s = subst (λ ps. AtPorts (floor_of ps f.carriers f.next_carrier)) (sym (update_none place change f.ports s)) kept
  of (Some p) s = moved-at-ports place change f p f.carriers f.next_carrier s (record {
    arrival = leaves.arrival p;
    blocked = λ some. rw (leaves.transfer p) (blocked_where place f p s kept some);
    owner = λ name a arrives is. (kept.awaited (suc place) p a s arrives).owner name (sym (leaves.carrier p) ∙ is);
    here = all_follows (IsHeldHere place p) (IsHeldHere place (change p)) f.carriers (λ c held present here. rw (leaves.transfer p, leaves.arrival p) (held present here)) (held_here place f p s kept);
    at = kept.at;
    named = kept.named;
    away = λ name e. e;
  }) kept
