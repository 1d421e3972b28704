-- A carrier is removed from a port: row 5 of table 4, and row 6 of table 7 behind it where that starts.
use Rattle.std.proofs.Common.{◌≡◌, ℕ, suc, Bool, true, false, not, ◌&&◌, List, [], ◌∷◌, Option, Some, None, is_some, slice_get, refl, sym, ap, subst, ◌∙◌}
use Rattle.std.specs.List.{AllByRecursion}
use Rattle.std.proofs.lemmas.Bool.{both_ways, and_parts, not-true, or_left}
use Rattle.gem_tables.specs.Table.{firing, update_at, is_among}
use Rattle.load_port.specs.declared.port.Port.{Port}
use Rattle.load_port.specs.declared.record.Transfer.TheVariants.{ReadyToUnload}
use Rattle.load_port.specs.declared.record.Association.{Association}
use Rattle.load_port.specs.declared.record.Association.TheVariants.{NotAssociated, Associated}
use Rattle.load_port.specs.Record.{is_associated}
use Rattle.load_port.specs.Tables.{transfer_number, association_number}
use Rattle.load_port.specs.Ports as ports
use Rattle.carrier.specs.declared.carrier.Carrier.{Carrier}
use Rattle.carrier.specs.Carriers.{has_name, is_port}
use Rattle.shop_floor.specs.Floor.{Floor, floor_of}
use Rattle.shop_floor.specs.Rows.{freed, owner, forgets}
use Rattle.shop_floor.specs.Machines.{floor_starts, floor_fired}
use Rattle.shop_floor.specs.Valid.{Belongs, IsTold, IsFloor}
use Rattle.shop_floor.proofs.Apart.{all_follows, all_filtered, has_its_name}
use Rattle.shop_floor.proofs.Belonging.{all_at, get_updated}
use Rattle.place_laws.specs.Ports.{IsAtPort, IsNamedHere, AtPorts}
use Rattle.place_laws.proofs.Away.{StayAway, all_forgets, away_forgets}
use Rattle.place_laws.proofs.PortChanges.{IsHeldHere, IsNotHere, port_here, at_place, updated_twice, moved-at-ports, none_awaited}
use Rattle.place_laws.proofs.PortTransfers.{among_unloadable}
use Rattle.place_laws.proofs.PortsKept.{associated-at-ports}

-- ---- who is there

-- a carrier that is present at a place is that of its port
pub owned_here : (place : ℕ) (f : Floor) (p : Port) (c : Carrier) → slice_get f.ports place ≡ Some p → Belongs f.ports c → c.present ≡ true → is_port (suc place) c.port ≡ true → p.carrier ≡ Some c.name
owned_here place f p c s belongs present here = ap owner (sym (port_here c.port place f.ports p s here)) ∙ belongs (or_left c.present c.bound present)

-- nobody, where none belongs to it
nobody_owned : (place : ℕ) (f : Floor) (p : Port) → slice_get f.ports place ≡ Some p → p.carrier ≡ None → IsFloor f → AllByRecursion (IsNotHere place) f.carriers
nobody_owned place f p s none valid =
    all_follows (Belongs f.ports) (IsNotHere place) f.carriers (λ c belongs present here. never c (owned_here place f p c s belongs present here)) valid.belong where
      never : (c : Carrier) → p.carrier ≡ Some c.name → ⊥
      never c its = absurd (cc)

-- nobody else, where its carrier is forgotten
nobody_else : (o : Option (List ℕ)) (place : ℕ) (f : Floor) (p : Port) → slice_get f.ports place ≡ Some p → p.carrier ≡ o → IsFloor f → AllByRecursion (IsNotHere place) (forgets o f.carriers)
nobody_else None place f p s is valid = nobody_owned place f p s is valid
nobody_else (Some name) place f p s is valid =
    all_filtered (Belongs f.ports) (IsNotHere place) (λ c. not (has_name name c)) f.carriers
    (λ c other belongs present here. never c (not-true _ other) (owned_here place f p c s belongs present here)) valid.belong where
      never : (c : Carrier) → has_name name c ≡ false → p.carrier ≡ Some c.name → ⊥
      never c other its = let same : c.name ≡ name = cc in both_ways _ other (has_its_name name c same)

-- ---- row 5 of table 4

-- a port that is READY TO UNLOAD becomes READY TO LOAD, its carrier goes on to belong to it or doesn't, and nobody is there
vacated-at-ports : (place : ℕ) (f : Floor) (p : Port) (change : Port → Port) (cs : List Carrier) → slice_get f.ports place ≡ Some p → p.states.transfer ≡ ReadyToUnload → (change p).arrival ≡ p.arrival
    → AllByRecursion (IsNotHere place) cs → AllByRecursion (IsAtPort f.ports) cs → AllByRecursion IsNamedHere cs → StayAway f.carriers cs → AtPorts f → AtPorts (floor_of (update_at place change f.ports) cs f.next_carrier)
vacated-at-ports place f p change cs s unloadable same nobody at named away kept =
    moved-at-ports place change f p cs f.next_carrier s (record {
      arrival = same;
      blocked = λ some. absurd (both_ways _ none some);
      owner = λ name a arrives is. absurd (both_ways _ none (ap is_some arrives));
      here = all_follows (IsNotHere place) (IsHeldHere place (change p)) cs (λ c absent present here. absurd (absent present here)) nobody;
      at = at;
      named = named;
      away = away;
    }) kept where
      none : is_some p.arrival ≡ false
      none = none_awaited place f p s (rw unloadable refl) kept

-- ---- where the port's carrier is forgotten

emptied-at-ports : (place : ℕ) (f : Floor) (p : Port) → slice_get f.ports place ≡ Some p → p.states.transfer ≡ ReadyToUnload → IsFloor f → AtPorts f → AtPorts (floor_fired (firing 7 (suc place) 6) (floor_fired (firing 4 (suc place) 5) f))
emptied-at-ports place f p s unloadable valid kept =
    associated-at-ports (suc place) 6 _
    (subst (λ (o : Option (List ℕ)). AtPorts (floor_of (update_at place freed (update_at place (ports.fires_row 4 5) f.ports)) (forgets o f.carriers) f.next_carrier)) (sym own)
    (subst (λ (ps : List Port). AtPorts (floor_of ps (forgets p.carrier f.carriers) f.next_carrier)) (sym (updated_twice place (ports.fires_row 4 5) freed f.ports))
    (vacated-at-ports place f p (λ q. freed (ports.fires_row 4 5 q)) (forgets p.carrier f.carriers) s unloadable refl
    (nobody_else p.carrier place f p s refl valid)
    (all_forgets (IsAtPort f.ports) p.carrier f.carriers kept.at)
    (all_forgets IsNamedHere p.carrier f.carriers kept.named)
    (away_forgets p.carrier f.carriers)
    kept))) where
      own : owner (slice_get (update_at place (ports.fires_row 4 5) f.ports) place) ≡ p.carrier
      own = ap owner (get_updated place (ports.fires_row 4 5) f.ports p s)

unloadable_at : (P : ℕ → Type 0) (port : ℕ) (f : Floor) → floor_starts (firing 4 port 5) f ≡ true → ((place : ℕ) (p : Port) → slice_get f.ports place ≡ Some p → p.states.transfer ≡ ReadyToUnload → P (suc place)) → P port
unloadable_at P port f starts there =
    at_place P starts_there f.ports port (λ n. refl) (λ place p s e. there place p s (among_unloadable p.states.transfer (and_parts (is_among transfer_number (ReadyToUnload ∷ []) p.states.transfer) true e).0)) starts where
      starts_there : ℕ → Option Port → Bool
      starts_there n None = false
      starts_there n (Some p) = is_among transfer_number (ReadyToUnload ∷ []) p.states.transfer && true

pub removal-at-ports : (port : ℕ) (f : Floor) → floor_starts (firing 4 port 5) f ≡ true → IsFloor f → AtPorts f → AtPorts (floor_fired (firing 7 port 6) (floor_fired (firing 4 port 5) f))
removal-at-ports port f starts valid kept =
    unloadable_at (λ n. AtPorts (floor_fired (firing 7 n 6) (floor_fired (firing 4 n 5) f))) port f starts (λ place p s unloadable. emptied-at-ports place f p s unloadable valid kept)

-- ---- where none belongs to the port

-- row 6 of table 7 starts where a port is ASSOCIATED
not_among : (a : Association) → (is_among association_number (Associated ∷ []) a && true) ≡ false → is_associated a ≡ false
not_among NotAssociated e = refl
not_among Associated e = absurd (cc)

none_belongs : (o : Option (List ℕ)) → is_some o ≡ false → o ≡ None
none_belongs None e = refl
none_belongs (Some name) e = absurd (cc)

left-at-ports : (place : ℕ) (f : Floor) (p : Port) → slice_get f.ports place ≡ Some p → p.states.transfer ≡ ReadyToUnload → floor_starts (firing 7 (suc place) 6) (floor_fired (firing 4 (suc place) 5) f) ≡ false → IsFloor f → AtPorts f → AtPorts (floor_fired (firing 4 (suc place) 5) f)
left-at-ports place f p s unloadable fails valid kept =
    vacated-at-ports place f p (ports.fires_row 4 5) f.carriers s unloadable refl (nobody_owned place f p s none valid) kept.at kept.named (λ name e. e) kept where
      starts_there : Option Port → Bool
      starts_there None = false
      starts_there (Some q) = is_among association_number (Associated ∷ []) q.states.association && true

      other : (is_among association_number (Associated ∷ []) p.states.association && true) ≡ false
      other = ap starts_there (sym (get_updated place (ports.fires_row 4 5) f.ports p s)) ∙ fails

      none : p.carrier ≡ None
      none = none_belongs p.carrier (sym (all_at IsTold place f.ports p s valid.told) ∙ not_among p.states.association other)

pub removal-left-at-ports : (port : ℕ) (f : Floor) → floor_starts (firing 4 port 5) f ≡ true → floor_starts (firing 7 port 6) (floor_fired (firing 4 port 5) f) ≡ false → IsFloor f → AtPorts f → AtPorts (floor_fired (firing 4 port 5) f)
removal-left-at-ports port f starts fails valid kept =
    unloadable_at (λ n. floor_starts (firing 7 n 6) (floor_fired (firing 4 n 5) f) ≡ false → AtPorts (floor_fired (firing 4 n 5) f)) port f starts
    (λ place p s unloadable fails. left-at-ports place f p s unloadable fails valid kept) fails
