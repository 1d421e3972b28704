-- The names of the carriers, and how many of them aren't present, where one is found, created, changed or forgotten.
use Rattle.std.proofs.Common.{◌≡◌, ℕ, suc, ◌+◌, ◌≤◌, Bool, true, false, not, ◌||◌, List, [], ◌∷◌, ◌++◌, length, find, Contains, Some, None, cond, refl, sym, ap, arith, ◌∙◌}
use Rattle.std.specs.List.{AllByRecursion, list_any, filter}
use Rattle.std.proofs.lemmas.Bool.{and_parts, or_parts, or_from, not-true, cond_both}
use Rattle.std.proofs.lemmas.Slice.Eq.{bytes_eq-Decides}
use Rattle.carrier.specs.declared.carrier.Carrier.{Carrier}
use Rattle.carrier.specs.Carriers.{has_name, is_known, change_named, without, created, with_created, found_or_created, is_absent, absent_count, are_named_apart}

-- ---- lists

pub all_both : {X : Type 0} (P Q : X → Type 0) (xs : List X) → AllByRecursion P xs → AllByRecursion Q xs → AllByRecursion (λ x. P x × Q x) xs
all_both P Q [] p q = tt
all_both P Q (x ∷ xs) p q = ((p.0, q.0), all_both P Q xs p.1 q.1)

pub all_follows : {X : Type 0} (P Q : X → Type 0) (xs : List X) → ((x : X) → P x → Q x) → AllByRecursion P xs → AllByRecursion Q xs
all_follows P Q [] f p = tt
all_follows P Q (x ∷ xs) f p = (f x p.0, all_follows P Q xs f p.1)

pub all_pushed : {X : Type 0} (P : X → Type 0) (xs : List X) (x : X) → AllByRecursion P xs → P x → AllByRecursion P (xs ++ x ∷ [])
all_pushed P [] x p q = (q, tt)
all_pushed P (y ∷ ys) x p q = (p.0, all_pushed P ys x p.1 q)

pub all_filtered : {X : Type 0} (P Q : X → Type 0) (test : X → Bool) (xs : List X) → ((x : X) → test x ≡ true → P x → Q x) → AllByRecursion P xs → AllByRecursion Q (filter test xs)
all_filtered P Q test [] f p = tt
all_filtered P Q test (x ∷ xs) f p = cond_both (test x) _ _ (AllByRecursion Q) (λ t. (f x t p.0, all_filtered P Q test xs f p.1)) (λ t. all_filtered P Q test xs f p.1)

-- where one passes a test, the first one that does is found
pub found_one : {X : Type 0} (test : X → Bool) (xs : List X) → list_any test xs ≡ true → (x : X) × (find test xs ≡ Some x)
found_one test [] e = absurd (cc)
found_one test (x ∷ xs) e = of (test x) refl e (found_one test xs) where
  of : (b : Bool) → test x ≡ b → (b || list_any test xs) ≡ true → (list_any test xs ≡ true → (y : _) × (find test xs ≡ Some y)) → (y : _) × (cond b (Some x) (find test xs) ≡ Some y)
  of true q f later = (x, refl)
  of false q f later = later f

pub found_passes : {X : Type 0} (test : X → Bool) (xs : List X) (x : X) → find test xs ≡ Some x → test x ≡ true
found_passes test [] x e = absurd (cc)
found_passes test (y ∷ ys) x e = of (test y) refl e (found_passes test ys x) where
  of : (b : Bool) → test y ≡ b → cond b (Some y) (find test ys) ≡ Some x → (find test ys ≡ Some x → test x ≡ true) → test x ≡ true
  of true q f later = let same : y ≡ x = cc in ap test (sym same) ∙ q
  of false q f later = later f

pub none_passes : {X : Type 0} (test : X → Bool) (xs : List X) → find test xs ≡ None → list_any test xs ≡ false
none_passes test [] e = refl
none_passes test (y ∷ ys) e = of (test y) e (none_passes test ys) where
  of : (b : Bool) → cond b (Some y) (find test ys) ≡ None → (find test ys ≡ None → list_any test ys ≡ false) → (b || list_any test ys) ≡ false
  of true f later = absurd (cc)
  of false f later = later f

-- it is one of the list
pub found_contained : {X : Type 0} (test : X → Bool) (xs : List X) (x : X) → find test xs ≡ Some x → Contains xs x
found_contained test [] x e = absurd (cc)
found_contained test (y ∷ ys) x e = of (test y) e (found_contained test ys x) where
  of : (b : Bool) → cond b (Some y) (find test ys) ≡ Some x → (find test ys ≡ Some x → Contains ys x) → Contains (y ∷ ys) x
  of true f later = let same : y ≡ x = cc in (0, omega arith, same)
  of false f later = let rest = later f in (suc rest.0, omega (arith, rest.1), rest.2)

-- ---- names

pub named_so : (name : List ℕ) (c : Carrier) → has_name name c ≡ true → c.name ≡ name
named_so name c e = (bytes_eq-Decides c.name name).0 e

pub has_its_name : (name : List ℕ) (c : Carrier) → c.name ≡ name → has_name name c ≡ true
has_its_name name c e = (bytes_eq-Decides c.name name).1 e

-- of two carriers, each has the other's name, or neither
pub names_agree : (c d : Carrier) (b : Bool) → has_name c.name d ≡ b → has_name d.name c ≡ b
names_agree c d true e = has_its_name d.name c (sym (named_so c.name d e))
names_agree c d false e = of (has_name d.name c) refl where
  of : (t : Bool) → has_name d.name c ≡ t → has_name d.name c ≡ false
  of true q = let back = has_its_name c.name d (sym (named_so d.name c q)) in absurd (cc)
  of false q = q

-- no carrier of an unknown name
pub unknown_all : (name : List ℕ) (cs : List Carrier) → is_known name cs ≡ false → AllByRecursion (λ c. has_name name c ≡ false) cs
unknown_all name [] e = tt
unknown_all name (c ∷ cs) e = let parts = or_parts _ _ e in (parts.0, unknown_all name cs parts.1)

-- ---- the names stay apart

-- a change that leaves the name
known_changed : (n name : List ℕ) (change : Carrier → Carrier) (cs : List Carrier) → ((c : Carrier) → (change c).name ≡ c.name) → is_known n (change_named name change cs) ≡ is_known n cs
known_changed n name change [] same = refl
known_changed n name change (c ∷ cs) same = of (has_name name c) (known_changed n name change cs same) where
  of : (b : Bool) → is_known n (change_named name change cs) ≡ is_known n cs → (has_name n (cond b (change c) c) || is_known n (change_named name change cs)) ≡ (has_name n c || is_known n cs)
  of true rest = rw (same c, rest) refl
  of false rest = rw rest refl

name_changed : (name : List ℕ) (change : Carrier → Carrier) (c : Carrier) → ((d : Carrier) → (change d).name ≡ d.name) → (b : Bool) → (cond b (change c) c).name ≡ c.name
name_changed name change c same true = same c
name_changed name change c same false = refl

pub apart_changed : (name : List ℕ) (change : Carrier → Carrier) (cs : List Carrier) → ((c : Carrier) → (change c).name ≡ c.name) → are_named_apart cs ≡ true → are_named_apart (change_named name change cs) ≡ true
apart_changed name change [] same e = refl
apart_changed name change (c ∷ cs) same e =
    let parts = and_parts (not (is_known c.name cs)) (are_named_apart cs) e in
    let rest = apart_changed name change cs same parts.1 in
    let head = name_changed name change c same (has_name name c) in
    let other = known_changed c.name name change cs same in
    rw (head, other, rest, not-true _ parts.0) refl

-- the others, without one
pub known_without : (n name : List ℕ) (cs : List Carrier) → is_known n cs ≡ false → is_known n (without name cs) ≡ false
known_without n name [] e = refl
known_without n name (c ∷ cs) e =
    let parts = or_parts (has_name n c) (is_known n cs) e in
    let rest = known_without n name cs parts.1 in
    cond_both (not (has_name name c)) _ _ (λ ds. is_known n ds ≡ false) (λ t. or_from _ _ parts.0 rest) (λ t. rest)

pub apart_without : (name : List ℕ) (cs : List Carrier) → are_named_apart cs ≡ true → are_named_apart (without name cs) ≡ true
apart_without name [] e = refl
apart_without name (c ∷ cs) e =
    let parts = and_parts (not (is_known c.name cs)) (are_named_apart cs) e in
    let rest = apart_without name cs parts.1 in
    cond_both (not (has_name name c)) _ _ (λ ds. are_named_apart ds ≡ true) (λ t. rw (known_without c.name name cs (not-true _ parts.0), rest) refl) (λ t. rest)

-- the others, with one more
known_pushed : (n : List ℕ) (cs : List Carrier) (d : Carrier) → is_known n cs ≡ false → has_name n d ≡ false → is_known n (cs ++ d ∷ []) ≡ false
known_pushed n [] d e other = or_from _ _ other refl
known_pushed n (c ∷ cs) d e other =
    let parts = or_parts (has_name n c) (is_known n cs) e in
    or_from _ _ parts.0 (known_pushed n cs d parts.1 other)

pub apart_pushed : (cs : List Carrier) (d : Carrier) → is_known d.name cs ≡ false → are_named_apart cs ≡ true → are_named_apart (cs ++ d ∷ []) ≡ true
apart_pushed [] d new e = refl
apart_pushed (c ∷ cs) d new e =
    let parts = and_parts (not (is_known c.name cs)) (are_named_apart cs) e in
    let others = or_parts (has_name d.name c) (is_known d.name cs) new in
    let rest = apart_pushed cs d others.1 parts.1 in
    rw (known_pushed c.name cs d (not-true _ parts.0) (names_agree d c false others.0), rest) refl

pub apart_created : (number : ℕ) (name : List ℕ) (cs : List Carrier) → is_known name cs ≡ false → are_named_apart cs ≡ true → are_named_apart (with_created number name cs) ≡ true
apart_created number name cs new e = apart_pushed cs (created number name) new e

pub apart_found : (number : ℕ) (name : List ℕ) (cs : List Carrier) → are_named_apart cs ≡ true → are_named_apart (found_or_created number name cs) ≡ true
apart_found number name cs e = cond_both (is_known name cs) _ _ (λ ds. are_named_apart ds ≡ true) (λ t. e) (λ t. apart_created number name cs t e)

-- ---- the one of a name

-- one that is found is of a known name
pub known_found : (n : List ℕ) (test : Carrier → Bool) (cs : List Carrier) (c : Carrier) → find test cs ≡ Some c → is_known n cs ≡ false → has_name n c ≡ false
known_found n test [] c f e = absurd (cc)
known_found n test (d ∷ ds) c f e = of (test d) f (or_parts (has_name n d) (is_known n ds) e) (known_found n test ds c) where
  of : (b : Bool) → cond b (Some d) (find test ds) ≡ Some c → (has_name n d ≡ false) × (is_known n ds ≡ false) → (find test ds ≡ Some c → is_known n ds ≡ false → has_name n c ≡ false) → has_name n c ≡ false
  of true g parts rest = let same : d ≡ c = cc in ap (has_name n) (sym same) ∙ parts.0
  of false g parts rest = rest g parts.1

-- it is this carrier, where it has its name
abbrev pub IsOnly : Carrier → Carrier → Type 0
IsOnly c d = has_name c.name d ≡ true → d ≡ c

-- a carrier that is found is the only one of its name
pub found_only : (test : Carrier → Bool) (cs : List Carrier) (c : Carrier) → are_named_apart cs ≡ true → find test cs ≡ Some c → AllByRecursion (IsOnly c) cs
found_only test [] c e f = tt
found_only test (d ∷ ds) c e f = of (test d) f (and_parts (not (is_known d.name ds)) (are_named_apart ds) e) (found_only test ds c) where
  no_other : (b : Carrier) → has_name d.name b ≡ false → d ≡ c → IsOnly c b
  no_other b apart same is = let named : has_name d.name b ≡ true = rw same is in absurd (cc)

  of : (b : Bool) → cond b (Some d) (find test ds) ≡ Some c → (not (is_known d.name ds) ≡ true) × (are_named_apart ds ≡ true) → (are_named_apart ds ≡ true → find test ds ≡ Some c → AllByRecursion (IsOnly c) ds) → AllByRecursion (IsOnly c) (d ∷ ds)
  of true g parts rest =
      let same : d ≡ c = cc in
      ((λ is. same), all_follows (λ b. has_name d.name b ≡ false) (IsOnly c) ds (λ b apart. no_other b apart same) (unknown_all d.name ds (not-true _ parts.0)))
  of false g parts rest =
      let other : has_name d.name c ≡ false = known_found d.name test ds c g (not-true _ parts.0) in
      let back : has_name c.name d ≡ false = names_agree d c false other in
      ((λ is. absurd (cc)), rest parts.1 g)

-- so is each carrier of the list
pub all_only : (cs : List Carrier) → are_named_apart cs ≡ true → AllByRecursion (λ c. AllByRecursion (IsOnly c) cs) cs
all_only [] e = tt
all_only (x ∷ xs) e =
    let parts = and_parts (not (is_known x.name xs)) (are_named_apart xs) e in
    let others = unknown_all x.name xs (not-true _ parts.0) in (
      ((λ is. refl), all_follows (λ d. has_name x.name d ≡ false) (IsOnly x) xs (λ d other is. absurd (cc)) others),
      all_follows (λ c. (has_name x.name c ≡ false) × AllByRecursion (IsOnly c) xs) (λ c. AllByRecursion (IsOnly c) (x ∷ xs)) xs
          (λ c b. ((λ is. let back = names_agree x c false b.0 in absurd (cc)), b.1))
          (all_both (λ c. has_name x.name c ≡ false) (λ c. AllByRecursion (IsOnly c) xs) xs others (all_only xs parts.1)),
    )

-- ---- what is true of each

-- of a change of the one of a name
pub all_changed : (P Q : Carrier → Type 0) (name : List ℕ) (change : Carrier → Carrier) (cs : List Carrier) → ((c : Carrier) → has_name name c ≡ true → P c → Q (change c)) → ((c : Carrier) → has_name name c ≡ false → P c → Q c) → AllByRecursion P cs → AllByRecursion Q (change_named name change cs)
all_changed P Q name change [] at others p = tt
all_changed P Q name change (c ∷ cs) at others p =
    (cond_both (has_name name c) _ _ Q (λ t. at c t p.0) (λ t. others c t p.0), all_changed P Q name change cs at others p.1)

-- of the one of a name, which is found or created
pub all_found : (P : Carrier → Type 0) (number : ℕ) (name : List ℕ) (cs : List Carrier) → (is_known name cs ≡ false → P (created number name)) → AllByRecursion P cs → AllByRecursion P (found_or_created number name cs)
all_found P number name cs new p = cond_both (is_known name cs) _ _ (AllByRecursion P) (λ t. p) (λ t. all_pushed P cs (created number name) p (new t))

-- ---- how many aren't present

-- 1 for one that isn't present
abbrev pub one_absent : Bool → ℕ
one_absent true = 0
one_absent false = 1

absent_cond : (present : Bool) (c : Carrier) (rest : List Carrier) → length (cond (not present) (c ∷ rest) rest) ≡ one_absent present + length rest
absent_cond true c rest = omega arith
absent_cond false c rest = omega arith

pub absent_cons : (c : Carrier) (cs : List Carrier) → absent_count (c ∷ cs) ≡ one_absent c.present + absent_count cs
absent_cons c cs = absent_cond c.present c (filter is_absent cs)

pub absent_pushed : (cs : List Carrier) (d : Carrier) → absent_count (cs ++ d ∷ []) ≡ absent_count cs + one_absent d.present
absent_pushed [] d = omega (arith, absent_cons d [])
absent_pushed (c ∷ cs) d = omega (arith, absent_cons c cs, absent_cons c (cs ++ d ∷ []), absent_pushed cs d)

pub absent_without : (name : List ℕ) (cs : List Carrier) → absent_count (without name cs) ≤ absent_count cs
absent_without name [] = omega arith
absent_without name (c ∷ cs) =
    let rest = absent_without name cs in
    cond_both (not (has_name name c)) _ _ (λ ds. absent_count ds ≤ absent_count (c ∷ cs))
    (λ t. omega (arith, absent_cons c cs, absent_cons c (without name cs), rest))
    (λ t. omega (arith, absent_cons c cs, rest))

-- a change that doesn't take one away
pub absent_changed : (name : List ℕ) (change : Carrier → Carrier) (cs : List Carrier) → ((c : Carrier) → one_absent (change c).present ≤ one_absent c.present) → absent_count (change_named name change cs) ≤ absent_count cs
absent_changed name change [] less = omega arith
absent_changed name change (c ∷ cs) less = of (has_name name c) (absent_changed name change cs less) where
  of : (b : Bool) → absent_count (change_named name change cs) ≤ absent_count cs → absent_count (cond b (change c) c ∷ change_named name change cs) ≤ absent_count (c ∷ cs)
  of true rest = omega (arith, absent_cons c cs, absent_cons (change c) (change_named name change cs), rest, less c)
  of false rest = omega (arith, absent_cons c cs, absent_cons c (change_named name change cs), rest)

-- the one of a name comes, also one that is created
absent_came : (number : ℕ) (name : List ℕ) (change : Carrier → Carrier) (cs : List Carrier) → ((c : Carrier) → (change c).present ≡ true) → absent_count (change_named name change (with_created number name cs)) ≤ absent_count cs
absent_came number name change [] comes = of (has_name name (created number name)) (has_its_name name (created number name) refl) where
  of : (b : Bool) → b ≡ true → absent_count (cond b (change (created number name)) (created number name) ∷ []) ≤ absent_count []
  of true q = let k : one_absent (change (created number name)).present ≡ 0 = ap one_absent (comes (created number name)) in omega (arith, absent_cons (change (created number name)) [], k)
  of false q = absurd (cc)
absent_came number name change (c ∷ cs) comes = of (has_name name c) (absent_came number name change cs comes) where
  of : (b : Bool) → absent_count (change_named name change (with_created number name cs)) ≤ absent_count cs → absent_count (cond b (change c) c ∷ change_named name change (with_created number name cs)) ≤ absent_count (c ∷ cs)
  of true rest =
      let k : one_absent (change c).present ≡ 0 = ap one_absent (comes c) in
      omega (arith, absent_cons c cs, absent_cons (change c) (change_named name change (with_created number name cs)), rest, k)
  of false rest = omega (arith, absent_cons c cs, absent_cons c (change_named name change (with_created number name cs)), rest)

comes_less : (change : Carrier → Carrier) (c : Carrier) → (change c).present ≡ true → one_absent (change c).present ≤ one_absent c.present
comes_less change c comes = let k : one_absent (change c).present ≡ 0 = ap one_absent comes in omega (arith, k)

pub absent_comes : (number : ℕ) (name : List ℕ) (change : Carrier → Carrier) (cs : List Carrier) → ((c : Carrier) → (change c).present ≡ true) → absent_count (change_named name change (found_or_created number name cs)) ≤ absent_count cs
absent_comes number name change cs comes =
    cond_both (is_known name cs) _ _ (λ ds. absent_count (change_named name change ds) ≤ absent_count cs)
    (λ t. absent_changed name change cs (λ c. comes_less change c (comes c)))
    (λ t. absent_came number name change cs comes)
