-- What an action of the host writes leaves the substrates; a carrier whose binding is cancelled is not present.
use Rattle.std.proofs.Common.{◌≡◌, ℕ, Bool, true, false, not, ◌||◌, List, map, Option, Some, None, refl, sym, ◌∙◌, ap, subst}
use Rattle.std.specs.List.{AllByRecursion}
use Rattle.std.proofs.lemmas.Bool.{true≢false, both_ways, or_parts, or_right}
use Rattle.gem_ids.specs.declared.numbers.PortNo.{PortNo}
use Rattle.load_port.specs.declared.caack.Caack.TheVariants as caack
use Rattle.load_port.specs.Caack.{is_done_code}
use Rattle.load_port.specs.Ports.{view_of, port_numbered}
use Rattle.carrier.specs.declared.carrier.Carrier.{Carrier}
use Rattle.carrier.specs.declared.action.CarrierAction.{CarrierAction}
use Rattle.carrier.specs.declared.action.CarrierWord.{CarrierWord}
use Rattle.carrier.specs.declared.action.CarrierWord.TheVariants as word
use Rattle.carrier.specs.Carriers.{has_name, carrier_named, created, directed_to, told_map, are_named_apart}
use Rattle.carrier.specs.Verdict.{view_numbered, bind_carrier_code, cancel_bind_code, cancel_notify_code}
use Rattle.shop_floor.specs.Floor.{Floor}
use Rattle.shop_floor.specs.Rows.{owner}
use Rattle.shop_floor.specs.Requests.{carrier_code, carrier_written, created as made, directed, maps_told, port_or_none, port_number_of}
use Rattle.shop_floor.specs.Valid.{port_of, Belongs, IsFloor}
use Rattle.shop_floor.proofs.Apart.{IsOnly, all_follows, all_pushed, all_changed, found_only, found_passes, named_so, has_its_name}
use Rattle.shop_floor.proofs.Keeps.{all_true}
use Rattle.floor_model.specs.declared.tracked.Substrate.{Substrate}
use Rattle.place_laws.specs.Standing.{AreRegistered}
use Rattle.place_laws.proofs.Stays.{stay_more, stay_named, NonePresent, leaves-registered, not-verified, at_found}
use Rattle.place_laws.proofs.Leaving.{Leaves, leaves_same, found_changes, forgotten_leaves}
use Rattle.place_laws.proofs.PortRequests.{answer_of, answer_second, bind_of, IsLoose, loose, action}

-- ---- carriers that are not present

loose_none : (name : List ℕ) (cs : List Carrier) → AllByRecursion (IsLoose name) cs → NonePresent name cs
loose_none name cs all = all_follows (IsLoose name) (λ (c : Carrier). has_name name c ≡ true → c.present ≡ true → ⊥) cs (λ c loose named present. absurd (both_ways _ (loose named) present)) all

absent_named : (name : List ℕ) (cs : List Carrier) (c : Carrier) → are_named_apart cs ≡ true → carrier_named name cs ≡ Some c → c.present ≡ false → NonePresent name cs
absent_named name cs c apart found absent =
    loose_none name cs (all_follows (IsOnly c) (IsLoose name) cs
    (λ d only is. ap (λ (x : Carrier). x.present) (only (has_its_name c.name d (named_so name d is ∙ sym (named_so name c (found_passes (has_name name) cs c found))))) ∙ absent)
    (found_only (has_name name) cs c apart found))

-- ---- what is written

module _ (ss : List Substrate) (f : Floor) (valid : IsFloor f) where
  directed_leaves : (name : List ℕ) (port : ℕ) → is_done_code (bind_carrier_code (carrier_named name f.carriers) f.carriers) ≡ true → Leaves ss f (directed name port f)
  directed_leaves name port code =
      found_changes ss name (directed_to port) f.ports _ f (λ c. refl) (λ c. refl) valid.read
      (loose_none name f.carriers (loose name f.carriers (carrier_named name f.carriers) valid.apart refl code)) refl

  told_leaves : (o : Option (List ℕ)) (name : List ℕ) → Leaves ss f (record f { carriers = maps_told o name f.carriers })
  told_leaves None name = leaves_same ss f
  told_leaves (Some slots) name = record {
    stay = stay_named name (told_map slots) (λ c. refl) f.carriers (all_true _ f.carriers (λ c named present verified. record { present = present; verified = verified; name = refl; port = refl }));
    registered = λ are. all_changed (AreRegistered ss) (AreRegistered ss) name (told_map slots) f.carriers (λ c named r. leaves-registered ss c (told_map slots c) (record { number = refl; name = refl; port = refl; map = refl; verified = λ v. v }) r) (λ c other r. r) are;
    ports = refl;
  }

  made_leaves : (name : List ℕ) → Leaves ss f (made name f)
  made_leaves name = record {
    stay = stay_more f.carriers (created f.next_carrier name);
    registered = λ are. all_pushed (AreRegistered ss) f.carriers (created f.next_carrier name) are (not-verified ss (created f.next_carrier name) refl);
    ports = refl;
  }

  unknown_leaves : (name : List ℕ) (o : Option Carrier) → carrier_named name f.carriers ≡ o → is_done_code (cancel_notify_code o) ≡ true → NonePresent name f.carriers
  unknown_leaves name None found code = absurd (true≢false (sym code))
  unknown_leaves name (Some c) found code = absent_named name f.carriers c valid.apart found (or_parts c.present c.bound (answer_second (c.present || c.bound) caack.Impossible caack.Done code refl)).0

  written_so : (w : CarrierWord) (id : List ℕ) (port : ℕ) (slots : Option (List ℕ)) (bad : Bool) → is_done_code (carrier_code f (action w id port slots bad)) ≡ true → Leaves ss f (carrier_written (action w id port slots bad) f)
  written_so word.Bind id port slots bad code = directed_leaves id port (bind_of (carrier_named id f.carriers) f.carriers (view_numbered port (map view_of f.ports)) (answer_of _ caack.Faulty _ code refl))
  written_so word.CancelBind id port slots bad code = leaves_same ss f
  written_so word.Proceed id port slots bad code = told_leaves slots id
  written_so word.Cancel id port slots bad code = leaves_same ss f
  written_so word.Notify id port slots bad code = made_leaves id
  written_so word.CancelNotify id port slots bad code = forgotten_leaves ss id f.ports f.next_carrier f (unknown_leaves id (carrier_named id f.carriers) refl (answer_of _ caack.Faulty _ code refl)) refl
  written_so word.Unknown id port slots bad code = leaves_same ss f

  pub written_leaves : (a : CarrierAction) → is_done_code (carrier_code f a) ≡ true → Leaves ss f (carrier_written a f)
  written_leaves a code = written_so a.word a.id a.port a.map a.bad_attr code

-- ---- a binding is cancelled

-- what the answer says of its carrier: it is bound, and not present
record IsBound (c : Carrier) : Type 0 where
  bound : c.bound ≡ true
  absent : c.present ≡ false

both_so : (b p : Bool) → (not b || p) ≡ false → (b ≡ true) × (p ≡ false)
both_so true true e = absurd (cc)
both_so true false e = (refl, refl)
both_so false p e = absurd (cc)

bound_so : (c : Carrier) (port : ℕ) → is_done_code (cancel_bind_code (Some c) port) ≡ true → IsBound c
bound_so c port code =
    let both = both_so c.bound c.present (answer_second (not c.bound || c.present) caack.Impossible _ code refl) in
    record { bound = both.0; absent = both.1 }

module _ (f : Floor) (valid : IsFloor f) where
  -- the port's carrier is the one that is bound to it
  owner_is : (c : Carrier) (o : Option PortNo) → owner (port_of o f.ports) ≡ Some c.name → owner (port_numbered (port_or_none o) f.ports) ≡ Some c.name
  owner_is c None e = absurd (cc)
  owner_is c (Some n) e = e

  unbound_so : (id : List ℕ) (port : ℕ) (o : Option Carrier) → carrier_named id f.carriers ≡ o → is_done_code (cancel_bind_code o port) ≡ true → (name : List ℕ) → owner (port_numbered (port_number_of o) f.ports) ≡ Some name → NonePresent name f.carriers
  unbound_so id port None found code name is = absurd (true≢false (sym code))
  unbound_so id port (Some c) found code name is =
      let bound = bound_so c port code in
      let belongs = at_found (Belongs f.ports) (has_name id) f.carriers c valid.belong found in
      let its : owner (port_numbered (port_number_of (Some c)) f.ports) ≡ Some c.name = owner_is c c.port (belongs (or_right c.present c.bound bound.bound)) in
      let same : c.name ≡ name = let both : Some c.name ≡ Some name = sym its ∙ is in cc in
      let own : c.name ≡ id = named_so id c (found_passes (has_name id) f.carriers c found) in
      subst (λ (n : List ℕ). NonePresent n f.carriers) (sym own ∙ same) (absent_named id f.carriers c valid.apart found bound.absent)

  -- where a binding is cancelled, the carrier of the port is not present
  pub unbound : (a : CarrierAction) → a.word ≡ word.CancelBind → is_done_code (carrier_code f a) ≡ true → (name : List ℕ) → owner (port_numbered (port_number_of (carrier_named a.id f.carriers)) f.ports) ≡ Some name → NonePresent name f.carriers
  unbound a is code =
      let known : is_done_code (carrier_code f (action word.CancelBind a.id a.port a.map a.bad_attr)) ≡ true = subst (λ (w : CarrierWord). is_done_code (carrier_code f (action w a.id a.port a.map a.bad_attr)) ≡ true) is code in
      unbound_so a.id a.port (carrier_named a.id f.carriers) refl (answer_of _ caack.Faulty _ known refl)
