-- What is told of constants can be sent.
use Rattle.std.proofs.Common.{◌≡◌, ℕ, suc, ◌^◌, ◌<◌, ◌≤◌, ◌+◌, Bool, true, false, ◌&&◌, nat_lt, cond, ◌==◌, List, [], ◌∷◌, map, length, Option, Some, None, unwrap_or, option_map, find, refl, sym, ap, arith, subst, Result, Ok, Err, IfOk}
use Rattle.std.specs.List.{All, list_all}
use Rattle.std.proofs.lemmas.List.Elements.{All-nil, All-cons}
use Rattle.std.proofs.lemmas.Bool.Decides.{nat_tests}
use Rattle.item_model.specs.Data.{Data}
use Rattle.item_model.specs.View.{view}
use Rattle.item_model.specs.declared.item.Item.{Item}
use Rattle.item_model.specs.Height.{height, highest}
use Rattle.item_model.specs.Plain.{count_of}
use Rattle.item_model.specs.Sendable.{IsLength, HasShortBodies, HaveShortBodies, IsSendable}
use Rattle.item_model.specs.Weight.{weight, AreBounded}
use Rattle.data_variables.specs.declared.constant.Constant.{Constant}
use Rattle.data_variables.specs.declared.val.Val.{Val}
use Rattle.data_variables.specs.declared.val.Val.TheVariants.{Number, Truth}
use Rattle.data_variables.specs.Table.{constant_lines, constant_of}
use Rattle.data_variables.specs.Bodies.{value_item, items, known_name, unknown_name, name_item, asked, namelist_of}

-- a value can be sent, and is no list
value_short : (v : Val) → HasShortBodies (value_item v)
value_short (Number n) = omega arith
value_short (Truth t) = omega arith

value_low : (v : Val) → height (value_item v) ≡ 0
value_low (Number n) = refl
value_low (Truth t) = refl

pub value_sendable : (v : Val) → IsSendable (value_item v)
value_sendable v = record { depth = rw (value_low v) (omega arith); bodies = value_short v }

-- the name and the units are short, of ASCII characters
abbrev are_ascii : List ℕ → Bool
are_ascii text = nat_lt (length text) 81 && list_all (λ b. nat_lt b 128) text

abbrev is_plain : Constant → Bool
is_plain c = are_ascii c.name && are_ascii c.units

each_ascii : (text : List ℕ) → list_all (λ b. nat_lt b 128) text ≡ true → All (λ b. b < 128) text
each_ascii [] h = All-nil (λ b. b < 128)
each_ascii (b ∷ text) h =
    let here : b < 128 = grind (arith, nat_tests) in
    let rest : list_all (λ c. nat_lt c 128) text ≡ true = grind (arith, nat_tests) in
    All-cons (λ c. c < 128) b text here (each_ascii text rest)

ascii_short : (text : List ℕ) → are_ascii text ≡ true → IsLength (length text) × All (λ b. b < 128) text
ascii_short text h =
    let few : length text < 81 = grind (arith, nat_tests) in
    let characters : list_all (λ b. nat_lt b 128) text ≡ true = grind (arith, nat_tests) in
    (omega arith, each_ascii text characters)

-- what is found in a table passes each test that all of its lines pass
found_passes : (test wanted : Constant → Bool) (lines : List Constant) → list_all test lines ≡ true → unwrap_or (option_map test (find wanted lines)) true ≡ true
found_passes test wanted [] h = refl
found_passes test wanted (l ∷ lines) h = by_test (wanted l) (found_passes test wanted lines rest) where
  here : test l ≡ true
  here = grind (arith, nat_tests)

  rest : list_all test lines ≡ true
  rest = grind (arith, nat_tests)

  by_test : (b : Bool) → unwrap_or (option_map test (find wanted lines)) true ≡ true → unwrap_or (option_map test (cond b (Some l) (find wanted lines))) true ≡ true
  by_test true later = here
  by_test false later = later

-- what is told of a constant can be sent
known_short : (ecid : ℕ) (c : Constant) → is_plain c ≡ true → HasShortBodies (known_name ecid c)
known_short ecid c h =
    let name : are_ascii c.name ≡ true = grind (arith, nat_tests) in
    let units : are_ascii c.units ≡ true = grind (arith, nat_tests) in (
      omega arith,
      (omega arith, (ascii_short c.name name, (value_short c.least, (value_short c.most, (value_short c.default, (ascii_short c.units units, tt)))))),
    )

known_low : (ecid : ℕ) (c : Constant) → height (known_name ecid c) ≤ 1
known_low ecid c = rw (value_low c.least, value_low c.most, value_low c.default) (omega arith)

-- and so can what is told of an ECID that no constant has
unknown_short : (ecid : ℕ) → HasShortBodies (unknown_name ecid)
unknown_short ecid =
    let none : IsLength 0 × All (λ b. b < 128) [] = (omega arith, All-nil (λ b. b < 128)) in
    (omega arith, (omega arith, (none, (none, (none, (none, (none, tt)))))))

name_short : (ecid : ℕ) → HasShortBodies (name_item ecid)
name_short ecid = by_line (constant_of ecid) (found_passes is_plain (λ c. c.ecid == ecid) constant_lines refl) where
  by_line : (o : Option Constant) → unwrap_or (option_map is_plain o) true ≡ true → HasShortBodies (unwrap_or (option_map (known_name ecid) o) (unknown_name ecid))
  by_line None h = unknown_short ecid
  by_line (Some c) h = known_short ecid c h

name_low : (ecid : ℕ) → height (name_item ecid) ≤ 1
name_low ecid = by_line (constant_of ecid) where
  by_line : (o : Option Constant) → height (unwrap_or (option_map (known_name ecid) o) (unknown_name ecid)) ≤ 1
  by_line None = omega arith
  by_line (Some c) = known_low ecid c

-- the same of several
told_short : (tell : ℕ → Data) → ((n : ℕ) → HasShortBodies (tell n)) → (ids : List ℕ) → HaveShortBodies (items (map tell ids))
told_short tell short [] = tt
told_short tell short (id ∷ ids) = (short id, told_short tell short ids)

told_low : (tell : ℕ → Data) → ((n : ℕ) → height (tell n) ≤ 1) → (ids : List ℕ) → highest (items (map tell ids)) ≤ 1
told_low tell low [] = omega arith
told_low tell low (id ∷ ids) =
    let here = low id in
    let rest = told_low tell low ids in
    omega arith

told_count : (tell : ℕ → Data) (ids : List ℕ) → count_of (items (map tell ids)) ≡ length ids
told_count tell [] = refl
told_count tell (id ∷ ids) = ap suc (told_count tell ids)

-- ---- bounds

value_light : (v : Val) → weight (value_item v) ≤ 8
value_light (Number n) = omega arith
value_light (Truth t) = omega arith

ascii_light : (text : List ℕ) → are_ascii text ≡ true → length text < 81
ascii_light text h = grind (arith, nat_tests)

-- what is told of a constant takes at most 210 bytes
known_light : (ecid : ℕ) (c : Constant) → is_plain c ≡ true → weight (known_name ecid c) ≤ 210
known_light ecid c h =
    let name_plain : are_ascii c.name ≡ true = grind (arith, nat_tests) in
    let units_plain : are_ascii c.units ≡ true = grind (arith, nat_tests) in
    let name = ascii_light c.name name_plain in
    let units = ascii_light c.units units_plain in
    let least = value_light c.least in
    let most = value_light c.most in
    let default = value_light c.default in
    omega arith

name_light : (ecid : ℕ) → weight (name_item ecid) ≤ 210
name_light ecid = by_line (constant_of ecid) (found_passes is_plain (λ c. c.ecid == ecid) constant_lines refl) where
  by_line : (o : Option Constant) → unwrap_or (option_map is_plain o) true ≡ true → weight (unwrap_or (option_map (known_name ecid) o) (unknown_name ecid)) ≤ 210
  by_line None h = omega arith
  by_line (Some c) h = known_light ecid c h

-- what is told of each ECID stays within bounds
pub names_bounded : (ids : List ℕ) → AreBounded 1 210 (items (map name_item ids))
names_bounded [] = tt
names_bounded (id ∷ ids) = (record { depth = name_low id; size = name_light id; bodies = name_short id }, names_bounded ids)

-- as many are told of as are asked for
pub names_counted : (ids : List ℕ) → count_of (items (map name_item ids)) ≡ length ids
names_counted ids = told_count name_item ids

-- the body of S2F30 can be sent where three length bytes hold the number of ECIDs
pub namelist_sendable : (ids : List ℕ) → length ids < 2 ^ 24 → IsSendable (namelist_of ids)
namelist_sendable ids l =
    let low = told_low name_item name_low (asked ids) in
    record {
      depth = omega arith;
      bodies = (rw (told_count name_item (asked ids)) (few ids l), told_short name_item name_short (asked ids));
    }
  where
    few : (some : List ℕ) → length some < 2 ^ 24 → IsLength (length (asked some))
    few [] k = omega arith
    few (id ∷ others) k = k

-- an answer that gives the body gives what can be sent
pub sends : {E : Type 0} (ids : List ℕ) (answer : Result Item E) → IfOk answer (λ i. view i ≡ namelist_of ids) → length ids < 2 ^ 24 → IfOk answer (λ i. IsSendable (view i))
sends ids (Ok i) h l = subst IsSendable (sym h) (namelist_sendable ids l)
sends ids (Err e) h l = tt
