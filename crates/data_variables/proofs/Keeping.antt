-- The values of constants stay within what the table says.
use Rattle.std.proofs.Common.{◌≡◌, ℕ, ◌==◌, Bool, true, false, cond, if◌then◌else◌, List, [], ◌∷◌, Option, Some, None, option_map, find, refl, sym, arith, subst}
use Rattle.std.specs.List.{list_all}
use Rattle.std.proofs.lemmas.Bool.Decides.{nat_tests}
use Rattle.data_variables.specs.declared.val.Val.{Val}
use Rattle.data_variables.specs.Table.{is_allowed}
use Rattle.data_variables.specs.Values.{AreConstants, value_of}
use Rattle.data_variables.specs.Setting.{eac, with_said, with_value, set_all_after}
use Rattle.data_variables.proofs.Codes.{good_first, allowed, says_none}
use Rattle.data_variables.proofs.Rising.{constants_with_value}
use Rattle.data_variables.proofs.Said.{said_first, said_nothing}

-- a value that is found passes each test that all values pass
value_passes : (test : ℕ → Val → Bool) (ecid : ℕ) (value : Val) (values : List (ℕ × Val)) → list_all (λ (p : ℕ × Val). test p.0 p.1) values ≡ true → value_of ecid values ≡ Some value → test ecid value ≡ true
value_passes test ecid value [] h e = absurd (cc)
value_passes test ecid value (p ∷ values) h e = by_test (ecid == p.0) refl e (value_passes test ecid value values rest) where
  here : test p.0 p.1 ≡ true
  here = grind (arith, nat_tests)

  rest : list_all (λ (q : ℕ × Val). test q.0 q.1) values ≡ true
  rest = grind (arith, nat_tests)

  by_test : (b : Bool) → (ecid == p.0) ≡ b → option_map (λ (q : ℕ × Val). q.1) (cond b (Some p) (find (λ q. ecid == q.0) values)) ≡ Some value → (value_of ecid values ≡ Some value → test ecid value ≡ true) → test ecid value ≡ true
  by_test true q f later =
      let same : ecid ≡ p.0 = grind (arith, nat_tests) in
      let found : p.1 ≡ value = cc in
      subst (λ (k : ℕ). test k value ≡ true) (sym same) (subst (λ (v : Val). test p.0 v ≡ true) found here)
  by_test false q f later = later f

-- the value of a constant is one that it can have
pub value_allowed : (values : List (ℕ × Val)) (ecid : ℕ) (value : Val) → AreConstants values → value_of ecid values ≡ Some value → is_allowed ecid value ≡ true
value_allowed values ecid value h e = value_passes is_allowed ecid value values h.in_range e

-- constants stay constants where no pair is faulty
said_keeps : (sets : List (ℕ × Option Val)) (values : List (ℕ × Val)) → eac sets ≡ 0 → AreConstants values → AreConstants (with_said sets values)
said_keeps [] values e h = subst AreConstants (sym (said_nothing values)) h
said_keeps ((ecid, None) ∷ sets) values e h = absurd (says_none (ecid, None) (good_first (ecid, None) sets e).0 refl)
said_keeps ((ecid, Some value) ∷ sets) values e h =
    let good = good_first (ecid, Some value) sets e in
    subst AreConstants (sym (said_first ecid value sets values))
    (said_keeps sets (with_value ecid value values) good.1 (constants_with_value ecid value values (allowed ecid value good.0) h))

-- and where one is
pub setting_keeps : (sets : List (ℕ × Option Val)) (values : List (ℕ × Val)) → AreConstants values → AreConstants (set_all_after sets values)
setting_keeps sets values h = by_code (eac sets == 0) refl where
  by_code : (b : Bool) → (eac sets == 0) ≡ b → AreConstants (if b then with_said sets values else values)
  by_code true q =
      let none : eac sets ≡ 0 = grind (arith, nat_tests) in
      said_keeps sets values none h
  by_code false q = h
