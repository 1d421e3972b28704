-- What the host writes of a carrier keeps what holds; so do a binding that is cancelled and a carrier that is placed.
use Rattle.std.proofs.Common.{◌≡◌, ℕ, zero, suc, Bool, true, false, ◌||◌, List, length, Option, Some, None, slice_get, refl, sym, ◌∙◌, ap}
use Rattle.std.proofs.lemmas.Bool.{true≢false, both_ways, or_parts}
use Rattle.gem_tables.specs.Table.{firing}
use Rattle.load_port.specs.declared.port.Port.{Port}
use Rattle.load_port.specs.declared.port.Arrival.{Arrival}
use Rattle.load_port.specs.declared.caack.Caack.TheVariants as caack
use Rattle.load_port.specs.Caack.{is_done_code}
use Rattle.load_port.specs.Tables.{transfer_number, transfer_table}
use Rattle.load_port.specs.Ports as ports
use Rattle.load_port.specs.Ports.{port_numbered, change_port}
use Rattle.carrier.specs.declared.carrier.Carrier.{Carrier}
use Rattle.carrier.specs.declared.action.CarrierAction.{CarrierAction}
use Rattle.carrier.specs.declared.action.CarrierWord.{CarrierWord}
use Rattle.carrier.specs.declared.action.CarrierWord.TheVariants as word
use Rattle.carrier.specs.Carriers.{has_name, carrier_named, directed_to, told_map, found_or_created, created as new_carrier}
use Rattle.carrier.specs.Verdict.{cancel_notify_code}
use Rattle.shop_floor.specs.Floor.{Floor, arrival_of}
use Rattle.shop_floor.specs.Rows.{freed, owner, forgets}
use Rattle.shop_floor.specs.Requests.{came, carrier_code, carrier_written, directed, maps_told}
use Rattle.shop_floor.specs.Machines as shop
use Rattle.shop_floor.specs.Machines.{port_starts}
use Rattle.shop_floor.specs.Valid.{IsFloor}
use Rattle.shop_floor.proofs.Apart.{IsOnly, all_follows, found_only, found_passes, named_so, has_its_name}
use Rattle.shop_floor.proofs.Asked.{written-keeps}
use Rattle.shop_floor.proofs.Belonging.{ports_length, get_updated}
use Rattle.shop_floor.proofs.Keeps.{row-keeps as shop_keeps, came-keeps}
use Rattle.floor_model.specs.declared.tracked.Substrate.{Substrate}
use Rattle.floor_model.specs.Floor.{ToolFloor, with_shop}
use Rattle.floor_model.specs.Machines.{floor_starts, floor_fired}
use Rattle.place_laws.specs.Sound.{Sound}
use Rattle.place_laws.proofs.Stays.{stay_same, NonePresent}
use Rattle.place_laws.proofs.Leaving.{Leaves, leaves_then, port_leaves, forgotten_leaves}
use Rattle.place_laws.proofs.ShopRows.{transfer_leaves}
use Rattle.place_laws.proofs.PortsKept.{forgetting-at-ports}
use Rattle.place_laws.proofs.PortPlacing.{placing-at-ports}
use Rattle.place_laws.proofs.PortRequests.{answer_of, answer_second, written-at-ports, action}
use Rattle.place_laws.proofs.Written.{written_leaves}
use Rattle.place_laws.proofs.UnloadPorts.{placing-unloading}
use Rattle.place_laws.proofs.UnloadRows.{unbound-unloading}
use Rattle.place_laws.proofs.UnloadRequests.{written-unloading}
use Rattle.floor_laws.proofs.ShopBase.{shop_sound}
use Rattle.floor_laws.proofs.ShopAccess.{SameAccess, finds_without, finds_forgets, finds_more, finds_found, access_found, access_same, access_named, stays_open, transfer_access}

-- ---- what the host writes

-- the carrier of a name, where it isn't present
absent_named : (name : List ℕ) (f : Floor) (c : Carrier) → IsFloor f → carrier_named name f.carriers ≡ Some c → c.present ≡ false → NonePresent name f.carriers
absent_named name f c valid found absent =
    all_follows (IsOnly c) (λ (d : Carrier). has_name name d ≡ true → d.present ≡ true → ⊥) f.carriers
    (λ d only is present. both_ways _ (ap (λ (x : Carrier). x.present) (only (has_its_name c.name d (named_so name d is ∙ sym (named_so name c (found_passes (has_name name) f.carriers c found))))) ∙ absent) present)
    (found_only (has_name name) f.carriers c valid.apart found)

-- what CancelCarrierNotification may forget isn't present
unknown_absent : (name : List ℕ) (f : Floor) (o : Option Carrier) → IsFloor f → carrier_named name f.carriers ≡ o → is_done_code (cancel_notify_code o) ≡ true → NonePresent name f.carriers
unknown_absent name f None valid found code = absurd (true≢false (sym code))
unknown_absent name f (Some c) valid found code = absent_named name f c valid found (or_parts c.present c.bound (answer_second (c.present || c.bound) caack.Impossible caack.Done code refl)).0

directed_access : (name : List ℕ) (port : ℕ) (f : Floor) → SameAccess f.carriers (directed name port f).carriers
directed_access name port f =
    let there = found_or_created f.next_carrier name f.carriers in
    access_named name (directed_to port) (λ c. refl) (λ c. refl) f.carriers there (access_found f.carriers there (finds_found f.next_carrier name f.carriers))

told_access : (o : Option (List ℕ)) (name : List ℕ) (f : Floor) → SameAccess f.carriers (maps_told o name f.carriers)
told_access None name f = access_same f.carriers
told_access (Some slots) name f = access_named name (told_map slots) (λ c. refl) (λ c. refl) f.carriers f.carriers (access_same f.carriers)

pub written_access : (w : CarrierWord) (id : List ℕ) (port : ℕ) (slots : Option (List ℕ)) (bad : Bool) (f : Floor) → IsFloor f → is_done_code (carrier_code f (action w id port slots bad)) ≡ true → SameAccess f.carriers (carrier_written (action w id port slots bad) f).carriers
written_access word.Bind id port slots bad f valid code = directed_access id port f
written_access word.CancelBind id port slots bad f valid code = access_same f.carriers
written_access word.Proceed id port slots bad f valid code = told_access slots id f
written_access word.Cancel id port slots bad f valid code = access_same f.carriers
written_access word.Notify id port slots bad f valid code = access_found f.carriers _ (finds_more f.carriers (new_carrier f.next_carrier id))
written_access word.CancelNotify id port slots bad f valid code = access_found f.carriers _ (finds_without id f.carriers (unknown_absent id f (carrier_named id f.carriers) valid refl (answer_of _ caack.Faulty _ code refl)))
written_access word.Unknown id port slots bad f valid code = access_same f.carriers

pub written_sound : (a : CarrierAction) (f : ToolFloor) → is_done_code (carrier_code f.shop a) ≡ true → Sound f → Sound (with_shop (carrier_written a f.shop) f)
written_sound a f code sound =
    let g = carrier_written a f.shop in
    let valid = sound.base.shop in
    shop_sound f g (written_leaves f.substrates f.shop valid a code) (written-keeps a f.shop code valid) (written-at-ports a f.shop code valid sound.ports)
    (written-unloading a f.shop code valid sound.unloading)
    (stays_open f g sound.base (written_access a.word a.id a.port a.map a.bad_attr f.shop valid code) sound.valid) sound

-- ---- a binding is cancelled

-- so many ports behind a row of table 7 that forgets
same_count : (row port : ℕ) (f : Floor) → length (change_port port (ports.fires_row 7 row) (change_port port freed f.ports)) ≡ length f.ports
same_count row port f = ports_length port (ports.fires_row 7 row) (change_port port freed f.ports) ∙ ports_length port freed f.ports

-- the load ports and carriers behind such a row, where this carrier belongs to the port
abbrev pub behind : ℕ → ℕ → Option (List ℕ) → Floor → Floor
behind row port o f = record { ports = change_port port (ports.fires_row 7 row) (change_port port freed f.ports); carriers = forgets o f.carriers; next_carrier = f.next_carrier }

-- where it isn't present, the row leaves the substrates
pub forgets_leaves : (ss : List Substrate) (row port : ℕ) (o : Option (List ℕ)) (f : Floor) → ((name : List ℕ) → o ≡ Some name → NonePresent name f.carriers) → Leaves ss f (behind row port o f)
forgets_leaves ss row port None f none = record { stay = stay_same f.carriers; registered = λ are. are; ports = same_count row port f }
forgets_leaves ss row port (Some name) f none = forgotten_leaves ss name _ f.next_carrier f (none name refl) (same_count row port f)

-- row 2 of table 7, where the port's carrier is not present
pub unbinding_sound : (port : ℕ) (f : ToolFloor) → floor_starts (firing 7 port 2) f ≡ true → ((name : List ℕ) → owner (port_numbered port f.shop.ports) ≡ Some name → NonePresent name f.shop.carriers) → Sound f → Sound (floor_fired (firing 7 port 2) f)
unbinding_sound port f starts none sound =
    let g = shop.floor_fired (firing 7 port 2) f.shop in
    let o = owner (port_numbered port f.shop.ports) in
    shop_sound f g (forgets_leaves f.substrates 2 port o f.shop none) (shop_keeps (firing 7 port 2) f.shop starts sound.base.shop) (forgetting-at-ports 2 port f.shop refl starts sound.base.shop sound.ports)
    (unbound-unloading port f.shop sound.unloading)
    (stays_open f g sound.base (access_found f.shop.carriers g.carriers (finds_forgets o f.shop.carriers none)) sound.valid) sound

-- ---- a carrier is placed

-- row 3 of table 4 goes on to start where what came is written
pub still_placed : (port : ℕ) (a : Arrival) (f : Floor) → shop.floor_starts (firing 4 port 3) f ≡ true → shop.floor_starts (firing 4 port 3) (came port a f) ≡ true
still_placed zero a f starts = absurd (cc)
still_placed (suc place) a f starts = of (slice_get f.ports place) refl starts where
  of : (o : Option Port) → slice_get f.ports place ≡ o → port_starts transfer_number transfer_table (λ s. s.transfer) (λ to s. record s { transfer = to }) 3 (suc place) f o ≡ true → shop.floor_starts (firing 4 (suc place) 3) (came (suc place) a f) ≡ true
  of None is e = absurd (true≢false (sym e))
  of (Some p) is e =
      ap (λ (o : Option Port). port_starts transfer_number transfer_table (λ s. s.transfer) (λ to s. record s { transfer = to }) 3 (suc place) (came (suc place) a f) o)
      (get_updated place (λ (q : Port). record q { arrival = Some a }) f.ports p is) ∙ e

pub placing_sound : (port : ℕ) (name : Option (List ℕ)) (slots : List ℕ) (f : ToolFloor) → floor_starts (firing 4 port 3) f ≡ true → shop.floor_least f.shop ≡ None → Sound f
    → Sound (floor_fired (firing 4 port 3) (with_shop (came port (arrival_of port name slots f.shop.carriers) f.shop) f))
placing_sound port name slots f starts rests sound =
    let a = arrival_of port name slots f.shop.carriers in
    let g = came port a f.shop in
    let h = shop.floor_fired (firing 4 port 3) g in
    let valid = sound.base.shop in
    shop_sound f h (leaves_then f.substrates f.shop g h (port_leaves f.substrates port _ f.shop) (transfer_leaves f.substrates g port 3))
    (shop_keeps (firing 4 port 3) g (still_placed port a f.shop starts) (came-keeps port a f.shop valid)) (placing-at-ports port name slots f.shop starts rests valid sound.ports)
    (placing-unloading port a f.shop sound.unloading)
    (stays_open f h sound.base (transfer_access g port 3) sound.valid) sound
