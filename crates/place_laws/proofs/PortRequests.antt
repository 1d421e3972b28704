-- What holds of the ports and of the carriers at them holds behind what an action of the host writes.
use Rattle.std.proofs.Common.{◌≡◌, ℕ, Bool, true, false, not, ◌||◌, List, map, Option, Some, None, refl, sym, ap, ◌∙◌}
use Rattle.std.specs.Prelude.{if◌then◌else◌}
use Rattle.std.specs.List.{AllByRecursion}
use Rattle.std.proofs.lemmas.Bool.{true≢false, both_ways, or_parts}
use Rattle.load_port.specs.declared.action.PortView.{PortView}
use Rattle.load_port.specs.declared.caack.Caack.{Caack}
use Rattle.load_port.specs.declared.caack.Caack.TheVariants as caack
use Rattle.load_port.specs.Caack.{is_done_code}
use Rattle.load_port.specs.Ports.{view_of}
use Rattle.carrier.specs.declared.carrier.Carrier.{Carrier}
use Rattle.carrier.specs.declared.action.CarrierAction.{CarrierAction}
use Rattle.carrier.specs.declared.action.CarrierWord.{CarrierWord}
use Rattle.carrier.specs.declared.action.CarrierWord.TheVariants as word
use Rattle.carrier.specs.Carriers.{has_name, carrier_named, change_named, without, created, with_created, found_or_created, next_number, directed_to, told_map, are_named_apart}
use Rattle.carrier.specs.Verdict.{view_numbered, bind_carrier_code, bind_code}
use Rattle.shop_floor.specs.Floor.{Floor, floor_of}
use Rattle.shop_floor.specs.Requests.{carrier_code, carrier_written, created as made, directed, maps_told}
use Rattle.shop_floor.specs.Valid.{IsFloor}
use Rattle.shop_floor.proofs.Apart.{IsOnly, all_both, all_follows, all_pushed, all_changed, all_filtered, all_found, found_only, found_passes, none_passes, unknown_all, named_so, has_its_name}
use Rattle.place_laws.specs.Ports.{IsAtPort, IsNamedHere, AtPorts}
use Rattle.place_laws.proofs.Away.{away_changed, away_created, away_found, away_without}
use Rattle.place_laws.proofs.PortChanges.{carriers-at-ports}

-- ---- answers

-- an answer that it is done, and isn't the first
pub answer_of : (b : Bool) (n m : Caack) → is_done_code (if b then n else m) ≡ true → is_done_code n ≡ false → is_done_code m ≡ true
answer_of true n m e other = absurd (both_ways _ other e)
answer_of false n m e other = e

pub answer_second : (b : Bool) (n m : Caack) → is_done_code (if b then n else m) ≡ true → is_done_code n ≡ false → b ≡ false
answer_second true n m e other = absurd (both_ways _ other e)
answer_second false n m e other = refl

-- what a Bind wants of the carrier
pub bind_of : (known : Option Carrier) (cs : List Carrier) (o : Option PortView) → is_done_code (bind_code known cs o) ≡ true → is_done_code (bind_carrier_code known cs) ≡ true
bind_of known cs None e = absurd (true≢false (sym e))
bind_of known cs (Some p) e = answer_of _ caack.Impossible _ (answer_of (not p.in_service) caack.NotNow _ e refl) refl

-- ---- a Bind directs a carrier that isn't present

-- the carrier of a name isn't
abbrev pub IsLoose : List ℕ → Carrier → Type 0
IsLoose name c = has_name name c ≡ true → c.present ≡ false

pub loose : (name : List ℕ) (cs : List Carrier) (known : Option Carrier) → are_named_apart cs ≡ true → carrier_named name cs ≡ known → is_done_code (bind_carrier_code known cs) ≡ true → AllByRecursion (IsLoose name) cs
loose name cs None apart found code = all_follows (λ c. has_name name c ≡ false) (IsLoose name) cs (λ c other is. absurd (both_ways _ other is)) (unknown_all name cs (none_passes (has_name name) cs found))
loose name cs (Some c) apart found code =
    let absent : c.present ≡ false = (or_parts c.present c.bound (answer_second (c.present || c.bound) caack.Impossible caack.Done code refl)).0 in
    all_follows (IsOnly c) (IsLoose name) cs
    (λ d only is. ap (λ (x : Carrier). x.present) (only (has_its_name c.name d (named_so name d is ∙ sym (named_so name c (found_passes (has_name name) cs c found))))) ∙ absent)
    (found_only (has_name name) cs c apart found)

found-at-ports : (name : List ℕ) (f : Floor) → AtPorts f → AtPorts (floor_of f.ports (found_or_created f.next_carrier name f.carriers) (next_number f.next_carrier name f.carriers))
found-at-ports name f kept =
    carriers-at-ports f (found_or_created f.next_carrier name f.carriers) (next_number f.next_carrier name f.carriers)
    (all_found (IsAtPort f.ports) f.next_carrier name f.carriers (λ new present. absurd (cc)) kept.at)
    (all_found IsNamedHere f.next_carrier name f.carriers (λ new present. absurd (cc)) kept.named)
    (away_found f.next_carrier name f.carriers)
    kept

directed-at-ports : (name : List ℕ) (port : ℕ) (f : Floor) → AllByRecursion (IsLoose name) f.carriers → AtPorts f → AtPorts (floor_of f.ports (change_named name (directed_to port) f.carriers) f.next_carrier)
directed-at-ports name port f loose kept =
    carriers-at-ports f (change_named name (directed_to port) f.carriers) f.next_carrier
    (all_changed (λ c. IsAtPort f.ports c × IsLoose name c) (IsAtPort f.ports) name (directed_to port) f.carriers (λ c is b present. absurd (both_ways _ (b.1 is) present)) (λ c other b. b.0)
    (all_both (IsAtPort f.ports) (IsLoose name) f.carriers kept.at loose))
    (all_changed (λ c. IsNamedHere c × IsLoose name c) IsNamedHere name (directed_to port) f.carriers (λ c is b present. absurd (both_ways _ (b.1 is) present)) (λ c other b. b.0)
    (all_both IsNamedHere (IsLoose name) f.carriers kept.named loose))
    (away_changed name (directed_to port) f.carriers (λ c. refl) (λ c. refl))
    kept

bound-at-ports : (name : List ℕ) (port : ℕ) (f : Floor) → is_done_code (bind_carrier_code (carrier_named name f.carriers) f.carriers) ≡ true → IsFloor f → AtPorts f → AtPorts (directed name port f)
bound-at-ports name port f code valid kept =
    directed-at-ports name port (floor_of f.ports (found_or_created f.next_carrier name f.carriers) (next_number f.next_carrier name f.carriers))
    (all_found (IsLoose name) f.next_carrier name f.carriers (λ new is. refl) (loose name f.carriers (carrier_named name f.carriers) valid.apart refl code))
    (found-at-ports name f kept)

-- ---- the other words

-- a carrier becomes known, which isn't present
made-at-ports : (name : List ℕ) (f : Floor) → AtPorts f → AtPorts (made name f)
made-at-ports name f kept =
    carriers-at-ports f (with_created f.next_carrier name f.carriers) _
    (all_pushed (IsAtPort f.ports) f.carriers (created f.next_carrier name) kept.at (λ present. absurd (cc)))
    (all_pushed IsNamedHere f.carriers (created f.next_carrier name) kept.named (λ present. absurd (cc)))
    (away_created f.next_carrier name f.carriers)
    kept

-- one is forgotten
unknown-at-ports : (name : List ℕ) (f : Floor) → AtPorts f → AtPorts (floor_of f.ports (without name f.carriers) f.next_carrier)
unknown-at-ports name f kept =
    carriers-at-ports f (without name f.carriers) f.next_carrier
    (all_filtered (IsAtPort f.ports) (IsAtPort f.ports) (λ c. not (has_name name c)) f.carriers (λ c t at. at) kept.at)
    (all_filtered IsNamedHere IsNamedHere (λ c. not (has_name name c)) f.carriers (λ c t named. named) kept.named)
    (away_without name f.carriers)
    kept

-- a map is told
maps-at-ports : (o : Option (List ℕ)) (name : List ℕ) (f : Floor) → AtPorts f → AtPorts (floor_of f.ports (maps_told o name f.carriers) f.next_carrier)
maps-at-ports None name f kept = kept
maps-at-ports (Some slots) name f kept =
    carriers-at-ports f (change_named name (told_map slots) f.carriers) f.next_carrier
    (all_changed (IsAtPort f.ports) (IsAtPort f.ports) name (told_map slots) f.carriers (λ c is at. at) (λ c other at. at) kept.at)
    (all_changed IsNamedHere IsNamedHere name (told_map slots) f.carriers (λ c is named. named) (λ c other named. named) kept.named)
    (away_changed name (told_map slots) f.carriers (λ c. refl) (λ c. refl))
    kept

-- ---- an action that is done

-- an action of these parts
abbrev pub action : CarrierWord → List ℕ → ℕ → Option (List ℕ) → Bool → CarrierAction
action w id port slots bad = record { word = w; id = id; port = port; map = slots; bad_attr = bad }

written-so : (w : CarrierWord) (id : List ℕ) (port : ℕ) (slots : Option (List ℕ)) (bad : Bool) (f : Floor) → is_done_code (carrier_code f (action w id port slots bad)) ≡ true → IsFloor f → AtPorts f → AtPorts (carrier_written (action w id port slots bad) f)
written-so word.Bind id port slots bad f code valid kept = bound-at-ports id port f (bind_of (carrier_named id f.carriers) f.carriers (view_numbered port (map view_of f.ports)) (answer_of _ caack.Faulty _ code refl)) valid kept
written-so word.CancelBind id port slots bad f code valid kept = kept
written-so word.Proceed id port slots bad f code valid kept = maps-at-ports slots id f kept
written-so word.Cancel id port slots bad f code valid kept = kept
written-so word.Notify id port slots bad f code valid kept = made-at-ports id f kept
written-so word.CancelNotify id port slots bad f code valid kept = unknown-at-ports id f kept
written-so word.Unknown id port slots bad f code valid kept = kept

pub written-at-ports : (a : CarrierAction) (f : Floor) → is_done_code (carrier_code f a) ≡ true → IsFloor f → AtPorts f → AtPorts (carrier_written a f)
written-at-ports a f code valid kept = written-so a.word a.id a.port a.map a.bad_attr f code valid kept
