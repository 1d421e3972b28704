-- What an action on a carrier writes, where the host is answered that it is done, keeps what holds of the ports and the carriers,
-- and finds room for a new carrier.
use Rattle.std.proofs.Common.{◌≡◌, ℕ, suc, ◌+◌, ◌≤◌, Bool, true, false, not, cond, List, length, map, Option, Some, None, refl, sym, ap, subst, arith, ◌∙◌}
use Rattle.std.specs.Prelude.{if◌then◌else◌}
use Rattle.std.specs.List.{AllByRecursion}
use Rattle.std.proofs.lemmas.Bool.Decides.{nat_tests}
use Rattle.std.proofs.lemmas.Bool.{true≢false, both_ways}
use Rattle.load_port.specs.declared.action.PortView.{PortView}
use Rattle.load_port.specs.declared.caack.Caack.{Caack}
use Rattle.load_port.specs.declared.caack.Caack.TheVariants as caack
use Rattle.load_port.specs.Caack.{is_done_code}
use Rattle.load_port.specs.Ports.{view_of}
use Rattle.carrier.specs.declared.carrier.Carrier.{Carrier}
use Rattle.carrier.specs.declared.action.CarrierAction.{CarrierAction}
use Rattle.carrier.specs.declared.action.CarrierWord.{CarrierWord}
use Rattle.carrier.specs.declared.action.CarrierWord.TheVariants as word
use Rattle.carrier.specs.Carriers.{has_name, is_known, carrier_named, change_named, without, created as new_carrier, with_created, found_or_created, next_number, directed_to, told_map, are_named_apart, absent_count, most_absent, most_carriers}
use Rattle.carrier.specs.Verdict.{has_room, view_numbered, bind_carrier_code, bind_code, notify_code}
use Rattle.shop_floor.specs.Floor.{Floor}
use Rattle.shop_floor.specs.Requests.{carrier_code, carrier_written, created as made, directed, maps_told}
use Rattle.shop_floor.specs.Valid.{Belongs, ReadWherePresent, IsFloor}
use Rattle.shop_floor.proofs.Belonging.{is_held}
use Rattle.shop_floor.proofs.Apart.{IsOnly, all_both, all_follows, all_pushed, all_filtered, all_changed, all_found, found_only, found_passes, none_passes, unknown_all, named_so, has_its_name, known_found, apart_changed, apart_without, apart_created, absent_pushed, absent_without, absent_changed}
use Rattle.shop_floor.proofs.Numbers.{rise_changed, rise_without, rise_created}
use Rattle.shop_floor.proofs.Room.{room-absent}

-- ---- answers

-- an answer that it is done, and isn't the first
answer_of : (b : Bool) (n m : Caack) → is_done_code (if b then n else m) ≡ true → is_done_code n ≡ false → is_done_code m ≡ true
answer_of true n m e other = absurd (both_ways _ other e)
answer_of false n m e other = e

-- one that isn't the second
answer_first : (b : Bool) (n m : Caack) → is_done_code (if b then n else m) ≡ true → is_done_code m ≡ false → b ≡ true
answer_first true n m e other = refl
answer_first false n m e other = absurd (both_ways _ other e)

answer_second : (b : Bool) (n m : Caack) → is_done_code (if b then n else m) ≡ true → is_done_code n ≡ false → b ≡ false
answer_second true n m e other = absurd (both_ways _ other e)
answer_second false n m e other = refl

-- what a Bind wants of the carrier
bind_of : (known : Option Carrier) (cs : List Carrier) (o : Option PortView) → is_done_code (bind_code known cs o) ≡ true → is_done_code (bind_carrier_code known cs) ≡ true
bind_of known cs None e = absurd (true≢false (sym e))
bind_of known cs (Some p) e = answer_of _ caack.Impossible _ (answer_of (not p.in_service) caack.NotNow _ e refl) refl

-- ---- a carrier becomes known

room_so : (cs : List Carrier) → has_room cs ≡ true → suc (absent_count cs) ≤ most_absent
room_so cs e = grind (arith, nat_tests)

-- the carrier of a name, made where it isn't known
abbrev found_floor : List ℕ → Floor → Floor
found_floor name f = record f { carriers = found_or_created f.next_carrier name f.carriers; next_carrier = next_number f.next_carrier name f.carriers }

pub notified-valid : (name : List ℕ) (f : Floor) → is_known name f.carriers ≡ false → has_room f.carriers ≡ true → IsFloor f → IsFloor (made name f)
notified-valid name f new room valid = record {
  apart = apart_created f.next_carrier name f.carriers new valid.apart;
  rising = rise_created 1 f.next_carrier name f.carriers valid.rising;
  absent = let k = absent_pushed f.carriers (new_carrier f.next_carrier name) in let r = room_so f.carriers room in omega (arith, k, r);
  belong = all_pushed (Belongs f.ports) f.carriers (new_carrier f.next_carrier name) valid.belong (λ held. absurd (cc));
  read = all_pushed ReadWherePresent f.carriers (new_carrier f.next_carrier name) valid.read (λ was. absurd (cc));
  told = valid.told;
  few = valid.few;
}

pub found-valid : (name : List ℕ) (f : Floor) → (is_known name f.carriers ≡ false → has_room f.carriers ≡ true) → IsFloor f → IsFloor (found_floor name f)
found-valid name f room valid = of (is_known name f.carriers) refl where
  of : (b : Bool) → is_known name f.carriers ≡ b → IsFloor (record f { carriers = cond b f.carriers (with_created f.next_carrier name f.carriers); next_carrier = cond b f.next_carrier (f.next_carrier + 1) })
  of true t = valid
  of false t = notified-valid name f t (room t) valid

-- ---- a carrier that is neither present nor bound is directed to a port

-- the carrier of a name is neither
abbrev IsLoose : List ℕ → Carrier → Type 0
IsLoose name c = has_name name c ≡ true → is_held c ≡ false

loose_found : (number : ℕ) (name : List ℕ) (cs : List Carrier) → AllByRecursion (IsLoose name) cs → AllByRecursion (IsLoose name) (found_or_created number name cs)
loose_found number name cs loose = all_found (IsLoose name) number name cs (λ new is. refl) loose

loose_unknown : (name : List ℕ) (cs : List Carrier) → is_known name cs ≡ false → AllByRecursion (IsLoose name) cs
loose_unknown name cs new = all_follows (λ c. has_name name c ≡ false) (IsLoose name) cs (λ c other is. absurd (cc)) (unknown_all name cs new)

loose_known : (name : List ℕ) (cs : List Carrier) (c : Carrier) → are_named_apart cs ≡ true → carrier_named name cs ≡ Some c → is_held c ≡ false → AllByRecursion (IsLoose name) cs
loose_known name cs c apart found loose =
    all_follows (IsOnly c) (IsLoose name) cs
    (λ d only is. ap is_held (only (has_its_name c.name d (named_so name d is ∙ sym (named_so name c (found_passes (has_name name) cs c found))))) ∙ loose)
    (found_only (has_name name) cs c apart found)

pub directed-valid : (name : List ℕ) (port : ℕ) (f : Floor) → AllByRecursion (IsLoose name) f.carriers → IsFloor f → IsFloor (record f { carriers = change_named name (directed_to port) f.carriers })
directed-valid name port f loose valid = record {
  apart = apart_changed name (directed_to port) f.carriers (λ c. refl) valid.apart;
  rising = rise_changed 1 f.next_carrier name (directed_to port) f.carriers (λ c. refl) valid.rising;
  absent = let less = absent_changed name (directed_to port) f.carriers (λ c. omega arith) in omega (arith, less, valid.absent);
  belong = all_changed (λ c. Belongs f.ports c × IsLoose name c) (Belongs f.ports) name (directed_to port) f.carriers
      (λ c is b held. never c (b.1 is) held) (λ c other b. b.0) (all_both (Belongs f.ports) (IsLoose name) f.carriers valid.belong loose);
  read = all_changed ReadWherePresent ReadWherePresent name (directed_to port) f.carriers (λ c is r. r) (λ c other r. r) valid.read;
  told = valid.told;
  few = valid.few;
} where
  never : {P : Type 0} (c : Carrier) → is_held c ≡ false → is_held c ≡ true → P
  never c loose held = absurd (cc)

bound-so : (name : List ℕ) (port : ℕ) (f : Floor) (known : Option Carrier) → carrier_named name f.carriers ≡ known → is_done_code (bind_carrier_code known f.carriers) ≡ true → IsFloor f → IsFloor (directed name port f)
bound-so name port f None found code valid =
    let new = none_passes (has_name name) f.carriers found in
    directed-valid name port (found_floor name f)
    (loose_found f.next_carrier name f.carriers (loose_unknown name f.carriers new))
    (found-valid name f (λ t. answer_first (has_room f.carriers) caack.Done caack.NotNow code refl) valid)
bound-so name port f (Some c) found code valid =
    directed-valid name port (found_floor name f)
    (loose_found f.next_carrier name f.carriers (loose_known name f.carriers c valid.apart found (answer_second (is_held c) caack.Impossible caack.Done code refl)))
    (found-valid name f (λ t. absurd (known_named name f.carriers c found t)) valid) where
      known_named : (n : List ℕ) (cs : List Carrier) (d : Carrier) → carrier_named n cs ≡ Some d → is_known n cs ≡ false → ⊥
      known_named n cs d here unknown =
          let passes = found_passes (has_name n) cs d here in
          let fails = known_found n (has_name n) cs d here unknown in
          absurd (cc)

-- ---- the other words

-- a carrier that isn't known is told of
pub notify-so : (name : List ℕ) (f : Floor) (known : Option Carrier) → carrier_named name f.carriers ≡ known → is_done_code (notify_code known f.carriers) ≡ true → IsFloor f → IsFloor (made name f)
notify-so name f None found code valid = notified-valid name f (none_passes (has_name name) f.carriers found) (answer_first (has_room f.carriers) caack.Done caack.NotNow code refl) valid
notify-so name f (Some c) found code valid = absurd (true≢false (sym code))

forgotten-so : (name : List ℕ) (f : Floor) → IsFloor f → IsFloor (record f { carriers = without name f.carriers })
forgotten-so name f valid = record {
  apart = apart_without name f.carriers valid.apart;
  rising = rise_without 1 f.next_carrier name f.carriers valid.rising;
  absent = let less = absent_without name f.carriers in omega (arith, less, valid.absent);
  belong = all_filtered (Belongs f.ports) (Belongs f.ports) (λ c. not (has_name name c)) f.carriers (λ c t b. b) valid.belong;
  read = all_filtered ReadWherePresent ReadWherePresent (λ c. not (has_name name c)) f.carriers (λ c t r. r) valid.read;
  told = valid.told;
  few = valid.few;
}

maps-so : (o : Option (List ℕ)) (name : List ℕ) (f : Floor) → IsFloor f → IsFloor (record f { carriers = maps_told o name f.carriers })
maps-so None name f valid = valid
maps-so (Some slots) name f valid = record {
  apart = apart_changed name (told_map slots) f.carriers (λ c. refl) valid.apart;
  rising = rise_changed 1 f.next_carrier name (told_map slots) f.carriers (λ c. refl) valid.rising;
  absent = let less = absent_changed name (told_map slots) f.carriers (λ c. omega arith) in omega (arith, less, valid.absent);
  belong = all_changed (Belongs f.ports) (Belongs f.ports) name (told_map slots) f.carriers (λ c is b. b) (λ c other b. b) valid.belong;
  read = all_changed ReadWherePresent ReadWherePresent name (told_map slots) f.carriers (λ c is r. r) (λ c other r. r) valid.read;
  told = valid.told;
  few = valid.few;
}

-- ---- an action that is done

-- an action of these parts
abbrev action : CarrierWord → List ℕ → ℕ → Option (List ℕ) → Bool → CarrierAction
action w id port slots bad = record { word = w; id = id; port = port; map = slots; bad_attr = bad }

written-so : (w : CarrierWord) (id : List ℕ) (port : ℕ) (slots : Option (List ℕ)) (bad : Bool) (f : Floor) → is_done_code (carrier_code f (action w id port slots bad)) ≡ true → IsFloor f → IsFloor (carrier_written (action w id port slots bad) f)
written-so word.Bind id port slots bad f code valid = bound-so id port f (carrier_named id f.carriers) refl (bind_of (carrier_named id f.carriers) f.carriers (view_numbered port (map view_of f.ports)) (answer_of _ caack.Faulty _ code refl)) valid
written-so word.CancelBind id port slots bad f code valid = valid
written-so word.Proceed id port slots bad f code valid = maps-so slots id f valid
written-so word.Cancel id port slots bad f code valid = valid
written-so word.Notify id port slots bad f code valid = notify-so id f (carrier_named id f.carriers) refl (answer_of _ caack.Faulty _ code refl) valid
written-so word.CancelNotify id port slots bad f code valid = forgotten-so id f valid
written-so word.Unknown id port slots bad f code valid = valid

pub written-keeps : (a : CarrierAction) (f : Floor) → is_done_code (carrier_code f a) ≡ true → IsFloor f → IsFloor (carrier_written a f)
written-keeps a f code valid = written-so a.word a.id a.port a.map a.bad_attr f code valid

-- ---- there is room for a carrier that becomes known

bind_room : (name : List ℕ) (f : Floor) (known : Option Carrier) → carrier_named name f.carriers ≡ known → is_done_code (bind_carrier_code known f.carriers) ≡ true → is_known name f.carriers ≡ false → IsFloor f → suc (length f.carriers) ≤ most_carriers
bind_room name f None found code new valid = room-absent f valid (room_so f.carriers (answer_first (has_room f.carriers) caack.Done caack.NotNow code refl))
bind_room name f (Some c) found code new valid = unlike (found_passes (has_name name) f.carriers c found) (known_found name (has_name name) f.carriers c found new) where
  unlike : {P : Type 0} → has_name name c ≡ true → has_name name c ≡ false → P
  unlike passes fails = absurd (cc)

notify_room : (f : Floor) (known : Option Carrier) → is_done_code (notify_code known f.carriers) ≡ true → IsFloor f → suc (length f.carriers) ≤ most_carriers
notify_room f None code valid = room-absent f valid (room_so f.carriers (answer_first (has_room f.carriers) caack.Done caack.NotNow code refl))
notify_room f (Some c) code valid = absurd (true≢false (sym code))

pub room-bind : (a : CarrierAction) (f : Floor) → a.word ≡ word.Bind → is_done_code (carrier_code f a) ≡ true → is_known a.id f.carriers ≡ false → IsFloor f → suc (length f.carriers) ≤ most_carriers
room-bind a f is code new valid =
    let known : is_done_code (carrier_code f (action word.Bind a.id a.port a.map a.bad_attr)) ≡ true = subst (λ w. is_done_code (carrier_code f (action w a.id a.port a.map a.bad_attr)) ≡ true) is code in
    bind_room a.id f (carrier_named a.id f.carriers) refl (bind_of (carrier_named a.id f.carriers) f.carriers (view_numbered a.port (map view_of f.ports)) (answer_of _ caack.Faulty _ known refl)) new valid

pub room-notify : (a : CarrierAction) (f : Floor) → a.word ≡ word.Notify → is_done_code (carrier_code f a) ≡ true → IsFloor f → suc (length f.carriers) ≤ most_carriers
room-notify a f is code valid =
    let known : is_done_code (carrier_code f (action word.Notify a.id a.port a.map a.bad_attr)) ≡ true = subst (λ w. is_done_code (carrier_code f (action w a.id a.port a.map a.bad_attr)) ≡ true) is code in
    notify_room f (carrier_named a.id f.carriers) (answer_of _ caack.Faulty _ known refl) valid

notify_unknown : (name : List ℕ) (f : Floor) (known : Option Carrier) → carrier_named name f.carriers ≡ known → is_done_code (notify_code known f.carriers) ≡ true → is_known name f.carriers ≡ false
notify_unknown name f None found code = none_passes (has_name name) f.carriers found
notify_unknown name f (Some c) found code = absurd (true≢false (sym code))

-- a carrier that is told of isn't known yet
pub notify-unknown : (a : CarrierAction) (f : Floor) → a.word ≡ word.Notify → is_done_code (carrier_code f a) ≡ true → is_known a.id f.carriers ≡ false
notify-unknown a f is code =
    let known : is_done_code (carrier_code f (action word.Notify a.id a.port a.map a.bad_attr)) ≡ true = subst (λ w. is_done_code (carrier_code f (action w a.id a.port a.map a.bad_attr)) ≡ true) is code in
    notify_unknown a.id f (carrier_named a.id f.carriers) refl (answer_of _ caack.Faulty _ known refl)
