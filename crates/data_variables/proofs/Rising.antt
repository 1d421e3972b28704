-- Laws of entries whose keys rise, as those of the constants do.
use Rattle.std.proofs.Common.{◌≡◌, ℕ, ◌+◌, ◌<◌, ◌==◌, Bool, true, false, nat_lt, ◌&&◌, cond, if◌then◌else◌, List, [], ◌∷◌, ◌++◌, map, Some, None, option_map, find, refl, sym, ap, ◌∙◌, arith, subst, append_assoc, length, drop, get_or, add-one, drop-cons}
use Rattle.std.specs.List.{list_all}
use Rattle.std.specs.Map.{lookup, set_value}
use Rattle.std.proofs.lemmas.Bool.Decides.{nat_tests}
use Rattle.indexmap.specs.IndexMap.{insert_entry}
use Rattle.data_variables.specs.declared.val.Val.{Val}
use Rattle.data_variables.specs.Table.{is_allowed}
use Rattle.data_variables.specs.Values.{AreConstants, value_of}
use Rattle.data_variables.specs.Setting.{with_value}

-- the keys of entries
abbrev pub keys : List (ℕ × Val) → List ℕ
keys es = map (λ (p : ℕ × Val). p.0) es

-- each key is below all behind it
abbrev pub rising : List ℕ → Bool
rising [] = true
rising (k ∷ ks) = list_all (λ n. nat_lt k n) ks && rising ks

-- the keys of the constants rise
pub constants_rise : (values : List (ℕ × Val)) → AreConstants values → rising (keys values) ≡ true
constants_rise values h = rw h.in_order refl

-- the entry of a key is the first
pub lookup_is : (ecid : ℕ) (es : List (ℕ × Val)) → lookup (λ k. ecid == k) es ≡ value_of ecid es
lookup_is ecid [] = refl
lookup_is ecid (e ∷ es) = by_test (ecid == e.0) (lookup_is ecid es) where
  by_test : (b : Bool) → lookup (λ k. ecid == k) es ≡ value_of ecid es → cond b (Some e.1) (lookup (λ k. ecid == k) es) ≡ option_map (λ (p : ℕ × Val). p.1) (cond b (Some e) (find (λ p. ecid == p.0) es))
  by_test true h = refl
  by_test false h = h

-- no entry has a key below all
unchanged : (ecid : ℕ) (value : Val) (k : ℕ) (es : List (ℕ × Val)) → list_all (λ n. nat_lt k n) (keys es) ≡ true → ecid ≡ k → with_value ecid value es ≡ es
unchanged ecid value k [] h e = refl
unchanged ecid value k (p ∷ es) h e =
    let below : nat_lt k p.0 ≡ true = grind (arith, nat_tests) in
    let rest : list_all (λ n. nat_lt k n) (keys es) ≡ true = grind (arith, nat_tests) in
    let other : (ecid == p.0) ≡ false = grind (arith, nat_tests) in
    rw (other, unchanged ecid value k es rest e) refl

-- where keys rise, the first entry of a key is the only one
pub set_value_is : (ecid : ℕ) (value : Val) (es : List (ℕ × Val)) → rising (keys es) ≡ true → set_value (λ k. ecid == k) es value ≡ with_value ecid value es
set_value_is ecid value [] h = refl
set_value_is ecid value (p ∷ es) h = by_test (ecid == p.0) refl (set_value_is ecid value es rest) where
  above : list_all (λ n. nat_lt p.0 n) (keys es) ≡ true
  above = grind (arith, nat_tests)

  rest : rising (keys es) ≡ true
  rest = grind (arith, nat_tests)

  by_test : (b : Bool) → (ecid == p.0) ≡ b → set_value (λ k. ecid == k) es value ≡ with_value ecid value es → cond b ((p.0, value) ∷ es) (p ∷ set_value (λ k. ecid == k) es value) ≡ (p.0, if b then value else p.1) ∷ with_value ecid value es
  by_test true q later =
      let same : ecid ≡ p.0 = grind (arith, nat_tests) in
      ap (λ (rs : List (ℕ × Val)). (p.0, value) ∷ rs) (sym (unchanged ecid value p.0 es above same))
  by_test false q later = ap (λ (rs : List (ℕ × Val)). p ∷ rs) later

-- an ECID that has no value gets none
pub absent_stays : (ecid : ℕ) (value : Val) (es : List (ℕ × Val)) → lookup (λ k. ecid == k) es ≡ None → with_value ecid value es ≡ es
absent_stays ecid value [] h = refl
absent_stays ecid value (p ∷ es) h = by_test (ecid == p.0) h (absent_stays ecid value es) where
  by_test : (b : Bool) → cond b (Some p.1) (lookup (λ k. ecid == k) es) ≡ None → (lookup (λ k. ecid == k) es ≡ None → with_value ecid value es ≡ es) → (p.0, if b then value else p.1) ∷ with_value ecid value es ≡ p ∷ es
  by_test true f later = absurd (cc)
  by_test false f later = ap (λ (rs : List (ℕ × Val)). p ∷ rs) (later f)

-- a new value leaves the order
pub keys_with_value : (ecid : ℕ) (value : Val) (es : List (ℕ × Val)) → keys (with_value ecid value es) ≡ keys es
keys_with_value ecid value [] = refl
keys_with_value ecid value (p ∷ es) = ap (λ (ks : List ℕ). p.0 ∷ ks) (keys_with_value ecid value es)

-- a value that passes a test keeps it for all
all_with_value : (test : ℕ → Val → Bool) (ecid : ℕ) (value : Val) (es : List (ℕ × Val)) → test ecid value ≡ true → list_all (λ (p : ℕ × Val). test p.0 p.1) es ≡ true → list_all (λ (p : ℕ × Val). test p.0 p.1) (with_value ecid value es) ≡ true
all_with_value test ecid value [] a h = refl
all_with_value test ecid value (p ∷ es) a h = rw (chosen (ecid == p.0) refl, all_with_value test ecid value es a rest) refl where
  here : test p.0 p.1 ≡ true
  here = grind (arith, nat_tests)

  rest : list_all (λ (q : ℕ × Val). test q.0 q.1) es ≡ true
  rest = grind (arith, nat_tests)

  chosen : (b : Bool) → (ecid == p.0) ≡ b → test p.0 (if b then value else p.1) ≡ true
  chosen true q =
      let same : ecid ≡ p.0 = grind (arith, nat_tests) in
      subst (λ (k : ℕ). test k value ≡ true) same a
  chosen false q = here

-- the constants with a new value that is allowed are constants
pub constants_with_value : (ecid : ℕ) (value : Val) (es : List (ℕ × Val)) → is_allowed ecid value ≡ true → AreConstants es → AreConstants (with_value ecid value es)
constants_with_value ecid value es a h = record {
  in_order = keys_with_value ecid value es ∙ h.in_order;
  in_range = all_with_value is_allowed ecid value es a h.in_range;
}

-- an entry of a key above all goes last
insert_last : (k : ℕ) (v : Val) (es : List (ℕ × Val)) → list_all (λ n. nat_lt n k) (keys es) ≡ true → insert_entry (λ a b. a == b) es k v ≡ es ++ (k, v) ∷ []
insert_last k v [] h = refl
insert_last k v (p ∷ es) h =
    let below : nat_lt p.0 k ≡ true = grind (arith, nat_tests) in
    let rest : list_all (λ n. nat_lt n k) (keys es) ≡ true = grind (arith, nat_tests) in
    let other : (k == p.0) ≡ false = grind (arith, nat_tests) in
    rw (other, insert_last k v es rest) refl

-- what is above all is above the one in the middle
above_middle : (k : ℕ) (es : List (ℕ × Val)) (x : ℕ × Val) (xs : List (ℕ × Val)) → list_all (λ n. nat_lt k n) (keys (es ++ x ∷ xs)) ≡ true → nat_lt k x.0 ≡ true
above_middle k [] x xs h = grind (arith, nat_tests)
above_middle k (p ∷ es) x xs h =
    let rest : list_all (λ n. nat_lt k n) (keys (es ++ x ∷ xs)) ≡ true = grind (arith, nat_tests) in
    above_middle k es x xs rest

-- where keys rise, those before one are below it
before_below : (es : List (ℕ × Val)) (x : ℕ × Val) (xs : List (ℕ × Val)) → rising (keys (es ++ x ∷ xs)) ≡ true → list_all (λ n. nat_lt n x.0) (keys es) ≡ true
before_below [] x xs h = refl
before_below (p ∷ es) x xs h =
    let above : list_all (λ n. nat_lt p.0 n) (keys (es ++ x ∷ xs)) ≡ true = grind (arith, nat_tests) in
    let rest : rising (keys (es ++ x ∷ xs)) ≡ true = grind (arith, nat_tests) in
    rw (above_middle p.0 es x xs above, before_below es x xs rest) refl

-- the next of the constants goes last
insert_next : (c es : List (ℕ × Val)) (x : ℕ × Val) (xs : List (ℕ × Val)) → AreConstants c → es ++ x ∷ xs ≡ c → insert_entry (λ a b. a == b) es x.0 x.1 ++ xs ≡ c
insert_next c es x xs h e =
    let rise : rising (keys (es ++ x ∷ xs)) ≡ true = rw e (constants_rise c h) in
    let last = insert_last x.0 x.1 es (before_below es x xs rise) in
    rw last (append_assoc es (x ∷ []) xs ∙ e)

-- the constant at a place goes behind those before it
pub next_inserted : (c es new : List (ℕ × Val)) (i : ℕ) (d : ℕ × Val) → AreConstants c → i < length c → es ++ drop i c ≡ c → new ≡ insert_entry (λ a b. a == b) es (get_or c i d).0 (get_or c i d).1 → new ++ drop (i + 1) c ≡ c
next_inserted c es new i d h l e n =
    let cut : drop i c ≡ get_or c i d ∷ drop (i + 1) c = rw add-one (drop-cons c i d l) in
    let whole : es ++ get_or c i d ∷ drop (i + 1) c ≡ c = ap (λ (ps : List (ℕ × Val)). es ++ ps) (sym cut) ∙ e in
    rw n (insert_next c es (get_or c i d) (drop (i + 1) c) h whole)
