-- What becomes of the carriers of substrates where carriers change, are created or are forgotten.
use Rattle.std.proofs.Common.{◌≡◌, ℕ, ◌==◌, Bool, true, false, not, ◌&&◌, if◌then◌else◌, List, [], ◌∷◌, ◌++◌, find, Some, None, refl, sym, ◌∙◌, ap, subst}
use Rattle.std.specs.List.{AllByRecursion, list_any}
use Rattle.std.proofs.lemmas.Bool.{or_parts}
use Rattle.gem_ids.specs.declared.numbers.LocId.TheVariants.{Slot}
use Rattle.gem_ids.specs.Names.{name_in_slot}
use Rattle.carrier.specs.declared.carrier.Carrier.{Carrier}
use Rattle.carrier.specs.Record.{is_map_verified}
use Rattle.carrier.specs.Carriers.{has_name, carrier_numbered, change_numbered, change_named, without, with_created, found_or_created, is_known}
use Rattle.shop_floor.specs.Floor.{is_present}
use Rattle.floor_model.specs.declared.tracked.Substrate.{Substrate}
use Rattle.place_laws.specs.Standing.{IsCarried, is_that_of, AreRegistered, code_of}

-- a carrier that is present with map VERIFIED goes on to be so, with its name and at its port
pub record GoesOn (c d : Carrier) : Type 0 where
  pub present : d.present ≡ true
  pub verified : is_map_verified d.states.map ≡ true
  pub name : d.name ≡ c.name
  pub port : d.port ≡ c.port

-- each such carrier is found so behind a change
abbrev pub Stay : List Carrier → List Carrier → Type 0
Stay cs ds = (n : ℕ) (c : Carrier) → carrier_numbered n cs ≡ Some c → c.present ≡ true → is_map_verified c.states.map ≡ true → (d : Carrier) × (carrier_numbered n ds ≡ Some d) × GoesOn c d

pub same_goes : (c : Carrier) → c.present ≡ true → is_map_verified c.states.map ≡ true → GoesOn c c
same_goes c p v = record { present = p; verified = v; name = refl; port = refl }

pub stay_same : (cs : List Carrier) → Stay cs cs
stay_same cs n c found p v = (c, found, same_goes c p v)

goes_on : (c d e : Carrier) → GoesOn c d → GoesOn d e → GoesOn c e
goes_on c d e first next = record { present = next.present; verified = next.verified; name = next.name ∙ first.name; port = next.port ∙ first.port }

pub stay_then : (cs ds es : List Carrier) → Stay cs ds → Stay ds es → Stay cs es
stay_then cs ds es first next n c found p v =
    let one = first n c found p v in
    let two = next n one.0 one.1 one.2.present one.2.verified in
    (two.0, two.1, goes_on c one.0 two.0 one.2 two.2)

-- ---- one that is found

no_carrier : {P : Type 0} (c : Carrier) → None ≡ Some c → P
no_carrier c e = absurd (cc)

-- the carrier of a number behind a change of the one of a number
pub stay_numbered : (n : ℕ) (change : Carrier → Carrier) → ((c : Carrier) → (change c).number ≡ c.number) → ((c : Carrier) → c.present ≡ true → is_map_verified c.states.map ≡ true → GoesOn c (change c)) → (cs : List Carrier) → Stay cs (change_numbered n change cs)
stay_numbered n change keeps goes [] k c found p v = no_carrier c found
stay_numbered n change keeps goes (x ∷ xs) k c found p v = of (x.number == n) (x.number == k) refl found (λ f. stay_numbered n change keeps goes xs k c f p v) where
  of : (here there : Bool) → (x.number == k) ≡ there → (if there then Some x else carrier_numbered k xs) ≡ Some c
      → (carrier_numbered k xs ≡ Some c → (d : Carrier) × (carrier_numbered k (change_numbered n change xs) ≡ Some d) × GoesOn c d)
      → (d : Carrier) × (carrier_numbered k (if here then change x ∷ xs else x ∷ change_numbered n change xs) ≡ Some d) × GoesOn c d
  of true true e f later =
      let same : x ≡ c = cc in
      (change x, ap (λ (b : Bool). if b then Some (change x) else carrier_numbered k xs) (ap (λ (m : ℕ). m == k) (keeps x) ∙ e), subst (λ (y : Carrier). GoesOn y (change x)) same (goes x (ap (λ (y : Carrier). y.present) same ∙ p) (ap (λ (y : Carrier). is_map_verified y.states.map) same ∙ v)))
  of true false e f later = (c, ap (λ (b : Bool). if b then Some (change x) else carrier_numbered k xs) (ap (λ (m : ℕ). m == k) (keeps x) ∙ e) ∙ f, same_goes c p v)
  of false true e f later = (c, ap (λ (b : Bool). if b then Some x else carrier_numbered k (change_numbered n change xs)) e ∙ f, same_goes c p v)
  of false false e f later = let rest = later f in (rest.0, ap (λ (b : Bool). if b then Some x else carrier_numbered k (change_numbered n change xs)) e ∙ rest.1, rest.2)

-- behind a change of the one of a name
pub stay_named : (name : List ℕ) (change : Carrier → Carrier) → ((c : Carrier) → (change c).number ≡ c.number) → (cs : List Carrier) → AllByRecursion (λ (c : Carrier). has_name name c ≡ true → c.present ≡ true → is_map_verified c.states.map ≡ true → GoesOn c (change c)) cs → Stay cs (change_named name change cs)
stay_named name change keeps [] goes k c found p v = no_carrier c found
stay_named name change keeps (x ∷ xs) goes k c found p v = of (has_name name x) refl (x.number == k) refl found (λ f. stay_named name change keeps xs goes.1 k c f p v) where
  of : (named : Bool) → has_name name x ≡ named → (there : Bool) → (x.number == k) ≡ there → (if there then Some x else carrier_numbered k xs) ≡ Some c
      → (carrier_numbered k xs ≡ Some c → (d : Carrier) × (carrier_numbered k (change_named name change xs) ≡ Some d) × GoesOn c d)
      → (d : Carrier) × (carrier_numbered k ((if named then change x else x) ∷ change_named name change xs) ≡ Some d) × GoesOn c d
  of true is true e f later =
      let same : x ≡ c = cc in
      (change x, ap (λ (b : Bool). if b then Some (change x) else carrier_numbered k (change_named name change xs)) (ap (λ (m : ℕ). m == k) (keeps x) ∙ e), subst (λ (y : Carrier). GoesOn y (change x)) same (goes.0 is (ap (λ (y : Carrier). y.present) same ∙ p) (ap (λ (y : Carrier). is_map_verified y.states.map) same ∙ v)))
  of true is false e f later =
      let rest = later f in
      (rest.0, ap (λ (b : Bool). if b then Some (change x) else carrier_numbered k (change_named name change xs)) (ap (λ (m : ℕ). m == k) (keeps x) ∙ e) ∙ rest.1, rest.2)
  of false is true e f later = (c, ap (λ (b : Bool). if b then Some x else carrier_numbered k (change_named name change xs)) e ∙ f, same_goes c p v)
  of false is false e f later = let rest = later f in (rest.0, ap (λ (b : Bool). if b then Some x else carrier_numbered k (change_named name change xs)) e ∙ rest.1, rest.2)

-- none of a name is present
abbrev pub NonePresent : List ℕ → List Carrier → Type 0
NonePresent name cs = AllByRecursion (λ (c : Carrier). has_name name c ≡ true → c.present ≡ true → ⊥) cs

pub none_present : (name : List ℕ) (cs : List Carrier) → is_present name cs ≡ false → NonePresent name cs
none_present name [] e = tt
none_present name (x ∷ xs) e =
    let parts = or_parts (has_name name x && x.present) (is_present name xs) e in
    ((λ named there. not_both (has_name name x) x.present parts.0 named there), none_present name xs parts.1) where
      not_both : (a b : Bool) → (a && b) ≡ false → a ≡ true → b ≡ true → ⊥
      not_both true true e one two = absurd (cc)
      not_both true false e one two = absurd (cc)
      not_both false b e one two = absurd (cc)

-- another than the one that is forgotten is found as it was
pub found_without : (name : List ℕ) (k : ℕ) (c : Carrier) (cs : List Carrier) → has_name name c ≡ false → carrier_numbered k cs ≡ Some c → carrier_numbered k (without name cs) ≡ Some c
found_without name k c [] other found = no_carrier c found
found_without name k c (x ∷ xs) other found = of (has_name name x) refl (x.number == k) refl found (found_without name k c xs other) where
  of : (named : Bool) → has_name name x ≡ named → (there : Bool) → (x.number == k) ≡ there → (if there then Some x else carrier_numbered k xs) ≡ Some c
      → (carrier_numbered k xs ≡ Some c → carrier_numbered k (without name xs) ≡ Some c)
      → carrier_numbered k (if not named then x ∷ without name xs else without name xs) ≡ Some c
  of true is true e f later = let same : x ≡ c = cc in absurd (let clash : true ≡ false = sym is ∙ ap (has_name name) same ∙ other in cc)
  of true is false e f later = later f
  of false is true e f later = ap (λ (b : Bool). if b then Some x else carrier_numbered k (without name xs)) e ∙ f
  of false is false e f later = ap (λ (b : Bool). if b then Some x else carrier_numbered k (without name xs)) e ∙ later f

-- what is so of each is so of one that is found
pub at_found : (P : Carrier → Type 0) (test : Carrier → Bool) (cs : List Carrier) (c : Carrier) → AllByRecursion P cs → find test cs ≡ Some c → P c
at_found P test [] c all found = no_carrier c found
at_found P test (x ∷ xs) c all found = of (test x) found (at_found P test xs c all.1) where
  of : (b : Bool) → (if b then Some x else find test xs) ≡ Some c → (find test xs ≡ Some c → P c) → P c
  of true f later = let same : x ≡ c = cc in subst P same all.0
  of false f later = later f

-- behind one that isn't present and is forgotten
pub stay_without : (name : List ℕ) (cs : List Carrier) → NonePresent name cs → Stay cs (without name cs)
stay_without name cs none k c found p v = (c, found_without name k c cs (unlike (has_name name c) refl) found, same_goes c p v) where
  unlike : (b : Bool) → has_name name c ≡ b → has_name name c ≡ false
  unlike true is = absurd (at_found (λ (x : Carrier). has_name name x ≡ true → x.present ≡ true → ⊥) (λ (x : Carrier). x.number == k) cs c none found is p)
  unlike false is = is

-- with one more behind the others
pub stay_more : (cs : List Carrier) (y : Carrier) → Stay cs (cs ++ y ∷ [])
stay_more [] y k c found p v = no_carrier c found
stay_more (x ∷ xs) y k c found p v = of (x.number == k) refl found (λ f. stay_more xs y k c f p v) where
  of : (there : Bool) → (x.number == k) ≡ there → (if there then Some x else carrier_numbered k xs) ≡ Some c
      → (carrier_numbered k xs ≡ Some c → (d : Carrier) × (carrier_numbered k (xs ++ y ∷ []) ≡ Some d) × GoesOn c d)
      → (d : Carrier) × (carrier_numbered k (x ∷ (xs ++ y ∷ [])) ≡ Some d) × GoesOn c d
  of true e f later = (c, ap (λ (b : Bool). if b then Some x else carrier_numbered k (xs ++ y ∷ [])) e ∙ f, same_goes c p v)
  of false e f later = let rest = later f in (rest.0, ap (λ (b : Bool). if b then Some x else carrier_numbered k (xs ++ y ∷ [])) e ∙ rest.1, rest.2)

pub stay_found : (number : ℕ) (name : List ℕ) (cs : List Carrier) → Stay cs (found_or_created number name cs)
stay_found number name cs = of (is_known name cs) where
  of : (b : Bool) → Stay cs (if b then cs else with_created number name cs)
  of true = stay_same cs
  of false = stay_more cs _

-- ---- substrates

-- a substrate has its carrier behind the change
pub one-carried : (cs ds : List Carrier) → Stay cs ds → (s : Substrate) → IsCarried cs s → IsCarried ds s
one-carried cs ds stay s is =
    let of = is.2 in
    let there = stay s.carrier is.0 is.1 of.present of.verified in
    let goes = there.2 in
    (there.0, there.1, record { present = goes.present; verified = goes.verified; port = of.port; slot = of.slot; at = goes.port ∙ of.at; own = of.own; named = of.named ∙ ap (λ (name : List ℕ). name_in_slot name of.slot.0) (sym goes.name); first = of.first; last = of.last })

pub stay-carried : (cs ds : List Carrier) → Stay cs ds → (ss : List Substrate) → AllByRecursion (IsCarried cs) ss → AllByRecursion (IsCarried ds) ss
stay-carried cs ds stay [] all = tt
stay-carried cs ds stay (s ∷ ss) all = (one-carried cs ds stay s all.0, stay-carried cs ds stay ss all.1)

-- ---- what is registered of a carrier

-- a carrier that changes in no more than its states, and isn't newly VERIFIED
pub record LeavesSlots (c d : Carrier) : Type 0 where
  pub number : d.number ≡ c.number
  pub name : d.name ≡ c.name
  pub port : d.port ≡ c.port
  pub map : d.map ≡ c.map
  pub verified : is_map_verified d.states.map ≡ true → is_map_verified c.states.map ≡ true

pub leaves-registered : (ss : List Substrate) (c d : Carrier) → LeavesSlots c d → AreRegistered ss c → AreRegistered ss d
leaves-registered ss c d leaves are v port slot at last code =
    ap (λ (n : ℕ). list_any (is_that_of n (name_in_slot d.name slot.0) (Slot port slot)) ss) leaves.number
    ∙ ap (λ (name : List ℕ). list_any (is_that_of c.number (name_in_slot name slot.0) (Slot port slot)) ss) leaves.name
    ∙ are (leaves.verified v) port slot (sym leaves.port ∙ at) last (ap (code_of slot.0) (sym leaves.map) ∙ code)

-- one whose map isn't VERIFIED has none to show
pub not-verified : (ss : List Substrate) (d : Carrier) → is_map_verified d.states.map ≡ false → AreRegistered ss d
not-verified ss d not v port slot at last code = absurd (cc)
