-- The carrier that is removed from a port has ended, since each carrier that is present at a port that is READY TO UNLOAD has.
use Rattle.std.proofs.Common.{◌≡◌, ℕ, zero, suc, ◌==◌, Bool, true, false, not, ◌||◌, List, [], ◌∷◌, Option, Some, None, slice_get, inl, inr, refl, sym, ◌∙◌, ap, arith}
use Rattle.std.specs.List.{AllByRecursion}
use Rattle.std.proofs.lemmas.Bool.{true≢false}
use Rattle.std.proofs.lemmas.Bool.Decides.{Decides-eqb}
use Rattle.gem_tables.specs.Table.{firing, is_among}
use Rattle.gem_ids.specs.declared.numbers.PortNo.{PortNo}
use Rattle.load_port.specs.declared.port.Port.{Port}
use Rattle.load_port.specs.declared.record.Transfer.{Transfer}
use Rattle.load_port.specs.declared.record.Transfer.TheVariants.{ReadyToUnload}
use Rattle.load_port.specs.Record.{is_unloadable}
use Rattle.load_port.specs.Tables.{PortRow, transfer_number, transfer_table}
use Rattle.load_port.specs.Ports.{port_numbered}
use Rattle.carrier.specs.declared.carrier.Carrier.{Carrier}
use Rattle.carrier.specs.declared.record.Accessing.{Accessing}
use Rattle.carrier.specs.declared.record.Accessing.TheVariants as access
use Rattle.carrier.specs.Tables.{access_number}
use Rattle.carrier.specs.declared.record.IdState.{IdState}
use Rattle.carrier.specs.declared.record.IdState.TheVariants as id
use Rattle.carrier.specs.declared.record.MapState.{MapState}
use Rattle.carrier.specs.declared.record.MapState.TheVariants as slots
use Rattle.carrier.specs.Record.{is_done, is_id_verified, is_id_failed, is_map_not_read, is_map_verified, is_map_failed}
use Rattle.carrier.specs.Carriers.{has_name, is_port, carrier_numbered, is_finished}
use Rattle.shop_floor.specs.Floor.{Floor}
use Rattle.shop_floor.specs.Rows.{is_elsewhere}
use Rattle.shop_floor.specs.Rows as rows
use Rattle.shop_floor.specs.Valid.{IsFloor, port_of}
use Rattle.shop_floor.specs.Machines as shop
use Rattle.shop_floor.proofs.Apart.{all_both, all_follows}
use Rattle.shop_floor.proofs.Cases.{starts_at_port}
use Rattle.floor_model.specs.Floor.{ToolFloor}
use Rattle.floor_moves.specs.Carriers.{HasEnded}
use Rattle.place_laws.specs.Picture.{of_one, picture}
use Rattle.place_laws.specs.Ports.{unloads, IsFinishedThere, IsReadById, Unloading}
use Rattle.place_laws.proofs.Stays.{at_found}
use Rattle.place_laws.proofs.QuietPorts.{quiet_port}
use Rattle.floor_laws.proofs.GrowTaken.{IsHere, EndsAt, at_its_port, by_its_number}

-- a carrier is CARRIER COMPLETE or CARRIER STOPPED, or its map is not VERIFIED
abbrev pub is_over : Carrier → Bool
is_over c = is_done c.states.access || not (is_map_verified c.states.map)

-- where a carrier is present at a port that is READY TO UNLOAD, it is over
abbrev pub IsOverThere : List Port → Carrier → Type 0
IsOverThere ports c = c.present ≡ true → unloads (port_of c.port ports) ≡ true → is_over c ≡ true

-- a carrier that has finished is over: a verification that failed leaves its slot map unread, or is that of the map
finished_over : (c : Carrier) → IsReadById c → is_finished c.states ≡ true → is_over c ≡ true
finished_over c by_id e = of (is_done c.states.access) c.states.id c.states.map by_id e where
  of : (done : Bool) (i : IdState) (m : MapState) → (is_map_not_read m ≡ false → is_id_verified i ≡ true) → (done || (is_id_failed i || is_map_failed m)) ≡ true → (done || not (is_map_verified m)) ≡ true
  of true i m read t = refl
  of false i slots.NotRead read t = refl
  of false i slots.WaitingForHost read t = refl
  of false i slots.VerificationFailed read t = refl
  of false id.NotRead slots.Verified read t = t
  of false id.WaitingForHost slots.Verified read t = t
  of false id.Verified slots.Verified read t = t
  of false id.VerificationFailed slots.Verified read t = read refl

pub over_there : (s : Floor) → Unloading s → AllByRecursion (IsOverThere s.ports) s.carriers
over_there s u =
    all_follows (λ (c : Carrier). IsFinishedThere s.ports c × IsReadById c) (IsOverThere s.ports) s.carriers
    (λ c b present there. finished_over c b.1 (b.0 present there))
    (all_both (IsFinishedThere s.ports) IsReadById s.carriers u.finished u.by_id)

-- so it has ended
pub over_ended : (c : Carrier) (f : ToolFloor) → carrier_numbered c.number f.shop.carriers ≡ Some c → is_over c ≡ true → HasEnded c.number (picture f)
over_ended c f there over = of c.states.access refl (is_map_verified c.states.map) refl over where
  accessed : (a : Accessing) → c.states.access ≡ a → (picture f).access c.number ≡ access_number a
  accessed a is = ap (of_one 0 (λ (x : Carrier). access_number x.states.access)) there ∙ ap access_number is

  unread : (b : Bool) → is_map_verified c.states.map ≡ b → (picture f).is_verified c.number ≡ b
  unread b is = ap (of_one false (λ (x : Carrier). is_map_verified x.states.map)) there ∙ is

  of : (a : Accessing) → c.states.access ≡ a → (b : Bool) → is_map_verified c.states.map ≡ b → (is_done c.states.access || not (is_map_verified c.states.map)) ≡ true → HasEnded c.number (picture f)
  of a is false read e = inr (unread false read)
  of access.Complete is true read e = inl (let k = accessed access.Complete is in omega (arith, k))
  of access.Stopped is true read e = inl (let k = accessed access.Stopped is in omega (arith, k))
  of _ is true read e = absurd (true≢false (sym e ∙ ap (λ (a : Accessing). is_done a || not (is_map_verified c.states.map)) is ∙ ap not read))

among_unload : (t : Transfer) → is_among transfer_number (ReadyToUnload ∷ []) t ≡ true → is_unloadable t ≡ true
among_unload ReadyToUnload e = refl
among_unload _ e = absurd (cc)

-- a port from which a carrier is removed is READY TO UNLOAD
unloads_there : (port : ℕ) (f : ToolFloor) → shop.floor_starts (firing 4 port 5) f.shop ≡ true → unloads (port_numbered port f.shop.ports) ≡ true
unloads_there port f starts =
    starts_at_port transfer_number transfer_table (λ s. s.transfer) (λ to s. record s { transfer = to }) (λ (n r : ℕ) (o : Option (PortRow Transfer)). (r == 5) ≡ true → unloads (port_numbered n f.shop.ports) ≡ true) f.shop port 5
    (λ place p s. (
      (λ among wants is. absurd (true≢false (sym is))),
      ((λ among wants is. absurd (true≢false (sym is))), ((λ among wants is. absurd (true≢false (sym is))), ((λ among wants is. absurd (true≢false (sym is))), ((λ among wants is. ap unloads s ∙ among_unload p.states.transfer among), tt)))),
    ))
    starts refl

-- where no row is ready by itself, the port's carrier is present at no other
here_at_rest : (port : ℕ) (f : ToolFloor) → unloads (port_numbered port f.shop.ports) ≡ true → shop.floor_least f.shop ≡ None → IsFloor f.shop → IsHere port f.shop
here_at_rest zero f there rests valid = absurd (true≢false (sym there))
here_at_rest (suc place) f there rests valid = of (slice_get f.shop.ports place) refl there where
  of : (o : Option Port) → slice_get f.shop.ports place ≡ o → unloads o ≡ true → IsHere (suc place) f.shop
  of None is e = absurd (true≢false (sym e))
  of (Some p) is e = ap (λ (o : Option Port). is_elsewhere (suc place) (rows.owner o) f.shop.carriers) is ∙ (quiet_port f.shop place p is rests valid).not_elsewhere

pub ends_at : (port : ℕ) (f : ToolFloor) → shop.floor_starts (firing 4 port 5) f.shop ≡ true → shop.floor_least f.shop ≡ None → IsFloor f.shop → Unloading f.shop → EndsAt port f
ends_at port f starts rests valid unloading name c its found present = over_ended c f (by_its_number f.shop valid name c found) (all present (of c.port at)) where
  there : unloads (port_numbered port f.shop.ports) ≡ true
  there = unloads_there port f starts

  at : is_port port c.port ≡ true
  at = at_its_port port f.shop (here_at_rest port f there rests valid) name its c found present

  all : IsOverThere f.shop.ports c
  all = at_found (IsOverThere f.shop.ports) (has_name name) f.shop.carriers c (over_there f.shop unloading) found

  of : (o : Option PortNo) → is_port port o ≡ true → unloads (port_of o f.shop.ports) ≡ true
  of None e = absurd (cc)
  of (Some q) e = ap (λ (n : ℕ). unloads (port_numbered n f.shop.ports)) ((Decides-eqb q.0 port).0 e) ∙ there
