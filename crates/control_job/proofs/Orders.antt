-- Lists of numbers of jobs, as the queue's order has them.
use Rattle.std.proofs.Common.{◌≡◌, ℕ, suc, ◌==◌, ◌≤◌, ◌<◌, nat_le, Bool, true, false, true≢false, cond, not, ◌||◌, List, [], ◌∷◌, ◌++◌, length, filter, refl, sym, ap, ◌∙◌, subst, arith}
use Rattle.std.specs.List.{list_all}
use Rattle.std.proofs.lemmas.Bool.Decides.{nat_tests}
use Rattle.gem_tables.specs.Table.{is_one_of}
use Rattle.records.proofs.Truth.{or_false, and_true, not_true}
use Rattle.records.proofs.Rising.{rising_filter, rising_more as rising_behind}
use Rattle.control_job.specs.Jobs.{order_without, order_count, put_first, put_last, are_apart, AreRising}

or_second : (a b : Bool) → b ≡ true → (a || b) ≡ true
or_second true b h = refl
or_second false b h = h

own : (n : ℕ) → (n == n) ≡ true
own n = grind (arith, nat_tests)

-- ---- the order without a number

-- another number stays in it
pub stays_in : (n m : ℕ) (ns : List ℕ) → (m == n) ≡ false → is_one_of ns m ≡ true → is_one_of (order_without n ns) m ≡ true
stays_in n m [] other h = absurd (true≢false (sym h))
stays_in n m (k ∷ ks) other h = by_test (k == n) (k == m) refl refl h (stays_in n m ks other) where
  by_test : (b c : Bool) → (k == n) ≡ b → (k == m) ≡ c → (c || is_one_of ks m) ≡ true → (is_one_of ks m ≡ true → is_one_of (order_without n ks) m ≡ true) → is_one_of (cond (not b) (k ∷ order_without n ks) (order_without n ks)) m ≡ true
  by_test true true t u g later = let clash : (m == n) ≡ true = grind (arith, nat_tests, t, u) in absurd (true≢false (sym clash ∙ other))
  by_test true false t u g later = later g
  by_test false true t u g later = rw u refl
  by_test false false t u g later = rw u (later g)

-- the number isn't in it
pub gone : (n : ℕ) (ns : List ℕ) → is_one_of (order_without n ns) n ≡ false
gone n [] = refl
gone n (k ∷ ks) = by_test (k == n) refl (gone n ks) where
  by_test : (b : Bool) → (k == n) ≡ b → is_one_of (order_without n ks) n ≡ false → is_one_of (cond (not b) (k ∷ order_without n ks) (order_without n ks)) n ≡ false
  by_test true t later = later
  by_test false t later = rw t later

-- what isn't in it before isn't after
none_in : (n m : ℕ) (ns : List ℕ) → is_one_of ns m ≡ false → is_one_of (order_without n ns) m ≡ false
none_in n m [] h = refl
none_in n m (k ∷ ks) h = let parts = or_false (k == m) (is_one_of ks m) h in by_test (k == n) parts.0 (none_in n m ks parts.1) where
  by_test : (b : Bool) → (k == m) ≡ false → is_one_of (order_without n ks) m ≡ false → is_one_of (cond (not b) (k ∷ order_without n ks) (order_without n ks)) m ≡ false
  by_test true t later = later
  by_test false t later = rw t later

-- where it isn't in it, nothing changes
same_without : (n : ℕ) (ns : List ℕ) → is_one_of ns n ≡ false → order_without n ns ≡ ns
same_without n [] h = refl
same_without n (k ∷ ks) h =
    let parts = or_false (k == n) (is_one_of ks n) h in
    rw (parts.0) (ap (λ (ns : List ℕ). k ∷ ns) (same_without n ks parts.1))

-- numbers that stand once still do
pub apart_without : (n : ℕ) (ns : List ℕ) → are_apart ns ≡ true → are_apart (order_without n ns) ≡ true
apart_without n [] h = refl
apart_without n (k ∷ ks) h =
    let parts = and_true (not (is_one_of ks k)) (are_apart ks) h in
    by_test (k == n) (not_true (is_one_of ks k) parts.0) (apart_without n ks parts.1)
  where
    by_test : (b : Bool) → is_one_of ks k ≡ false → are_apart (order_without n ks) ≡ true → are_apart (cond (not b) (k ∷ order_without n ks) (order_without n ks)) ≡ true
    by_test true first later = later
    by_test false first later = rw (none_in n k ks first, later) refl

-- one less stands there
pub one_less : (n : ℕ) (ns : List ℕ) → are_apart ns ≡ true → is_one_of ns n ≡ true → suc (length (order_without n ns)) ≡ length ns
one_less n [] h e = absurd (true≢false (sym e))
one_less n (k ∷ ks) h e =
    let parts = and_true (not (is_one_of ks k)) (are_apart ks) h in
    by_test (k == n) refl e (not_true (is_one_of ks k) parts.0) (one_less n ks parts.1)
  where
    by_test : (b : Bool) → (k == n) ≡ b → (b || is_one_of ks n) ≡ true → is_one_of ks k ≡ false → (is_one_of ks n ≡ true → suc (length (order_without n ks)) ≡ length ks) → suc (length (cond (not b) (k ∷ order_without n ks) (order_without n ks))) ≡ suc (length ks)
    by_test true t f first later =
        let same : k ≡ n = grind (arith, nat_tests, t) in
        ap (λ (ns : List ℕ). suc (length ns)) (same_without n ks (subst (λ (m : ℕ). is_one_of ks m ≡ false) same first))
    by_test false t f first later = ap suc (later f)

-- fewer stand there, even where a number stands twice
no_more : (n : ℕ) (ns : List ℕ) → length (order_without n ns) ≤ length ns
no_more n [] = omega arith
no_more n (k ∷ ks) = by_test (k == n) (no_more n ks) where
  by_test : (b : Bool) → length (order_without n ks) ≤ length ks → length (cond (not b) (k ∷ order_without n ks) (order_without n ks)) ≤ suc (length ks)
  by_test true later = omega (arith, later)
  by_test false later = omega (arith, later)

pub shorter : (n : ℕ) (ns : List ℕ) → is_one_of ns n ≡ true → length (order_without n ns) < length ns
shorter n [] e = absurd (true≢false (sym e))
shorter n (k ∷ ks) e = by_test (k == n) e (shorter n ks) (no_more n ks) where
  by_test : (b : Bool) → (b || is_one_of ks n) ≡ true → (is_one_of ks n ≡ true → length (order_without n ks) < length ks) → length (order_without n ks) ≤ length ks → length (cond (not b) (k ∷ order_without n ks) (order_without n ks)) < suc (length ks)
  by_test true f later most = omega (arith, most)
  by_test false f later most = let less = later f in omega (arith, less)

-- a number that isn't in it is not counted, and one that stands once is counted once
count_none : (n : ℕ) (ns : List ℕ) → is_one_of ns n ≡ false → order_count n ns ≡ 0
count_none n [] h = refl
count_none n (k ∷ ks) h =
    let parts = or_false (k == n) (is_one_of ks n) h in
    rw parts.0 (count_none n ks parts.1)

pub count_once : (n : ℕ) (ns : List ℕ) → are_apart ns ≡ true → is_one_of ns n ≡ true → order_count n ns ≡ 1
count_once n [] h e = absurd (true≢false (sym e))
count_once n (k ∷ ks) h e =
    let parts = and_true (not (is_one_of ks k)) (are_apart ks) h in
    by_test (k == n) refl e (not_true (is_one_of ks k) parts.0) (count_once n ks parts.1)
  where
    by_test : (b : Bool) → (k == n) ≡ b → (b || is_one_of ks n) ≡ true → is_one_of ks k ≡ false → (is_one_of ks n ≡ true → order_count n ks ≡ 1) → length (cond b (k ∷ filter (λ m. m == n) ks) (filter (λ m. m == n) ks)) ≡ 1
    by_test true t f first later =
        let same : k ≡ n = grind (arith, nat_tests, t) in
        ap suc (count_none n ks (subst (λ (m : ℕ). is_one_of ks m ≡ false) same first))
    by_test false t f first later = later f

-- a test that all pass is passed by those that stay
pub all_without : (test : ℕ → Bool) (n : ℕ) (ns : List ℕ) → list_all test ns ≡ true → list_all test (order_without n ns) ≡ true
all_without test n [] h = refl
all_without test n (k ∷ ks) h = let parts = and_true (test k) (list_all test ks) h in by_test (k == n) parts.0 (all_without test n ks parts.1) where
  by_test : (b : Bool) → test k ≡ true → list_all test (order_without n ks) ≡ true → list_all test (cond (not b) (k ∷ order_without n ks) (order_without n ks)) ≡ true
  by_test true t later = later
  by_test false t later = rw (t, later) refl

-- ---- a number behind the others

pub in_more : (m n : ℕ) (ns : List ℕ) → is_one_of (ns ++ n ∷ []) m ≡ (is_one_of ns m || (n == m))
in_more m n [] = by_test (n == m) where
  by_test : (b : Bool) → (b || false) ≡ b
  by_test true = refl
  by_test false = refl
in_more m n (k ∷ ks) = by_test (k == m) (in_more m n ks) where
  by_test : (b : Bool) → is_one_of (ks ++ n ∷ []) m ≡ (is_one_of ks m || (n == m)) → (b || is_one_of (ks ++ n ∷ []) m) ≡ ((b || is_one_of ks m) || (n == m))
  by_test true later = refl
  by_test false later = later

pub still_in : (m n : ℕ) (ns : List ℕ) → is_one_of ns m ≡ true → is_one_of (ns ++ n ∷ []) m ≡ true
still_in m n ns h = in_more m n ns ∙ rw h refl

pub last_in : (n : ℕ) (ns : List ℕ) → is_one_of (ns ++ n ∷ []) n ≡ true
last_in n ns = in_more n n ns ∙ or_second (is_one_of ns n) (n == n) (own n)

pub apart_more : (n : ℕ) (ns : List ℕ) → are_apart ns ≡ true → is_one_of ns n ≡ false → are_apart (ns ++ n ∷ []) ≡ true
apart_more n [] h e = refl
apart_more n (k ∷ ks) h e =
    let parts = and_true (not (is_one_of ks k)) (are_apart ks) h in
    let others = or_false (k == n) (is_one_of ks n) e in
    let turned : (n == k) ≡ false = let t = others.0 in grind (arith, nat_tests, t) in
    let first : is_one_of (ks ++ n ∷ []) k ≡ false = in_more k n ks ∙ rw (not_true (is_one_of ks k) parts.0, turned) refl in
    rw (first, apart_more n ks parts.1 others.1) refl

pub all_more : (test : ℕ → Bool) (n : ℕ) (ns : List ℕ) → list_all test ns ≡ true → test n ≡ true → list_all test (ns ++ n ∷ []) ≡ true
all_more test n [] h t = rw t refl
all_more test n (k ∷ ks) h t = let parts = and_true (test k) (list_all test ks) h in rw (parts.0, all_more test n ks parts.1 t) refl

-- a test that each passes which passes another
pub all_wider : (test wider : ℕ → Bool) (ns : List ℕ) → ((m : ℕ) → test m ≡ true → wider m ≡ true) → list_all test ns ≡ true → list_all wider ns ≡ true
all_wider test wider [] f h = refl
all_wider test wider (k ∷ ks) f h = let parts = and_true (test k) (list_all test ks) h in rw (f k parts.0, all_wider test wider ks f parts.1) refl

-- one of them passes what all pass
pub one_of_all : (test : ℕ → Bool) (n : ℕ) (ns : List ℕ) → list_all test ns ≡ true → is_one_of ns n ≡ true → test n ≡ true
one_of_all test n [] h e = absurd (true≢false (sym e))
one_of_all test n (k ∷ ks) h e = let parts = and_true (test k) (list_all test ks) h in by_test (k == n) refl e parts.0 (one_of_all test n ks parts.1) where
  by_test : (b : Bool) → (k == n) ≡ b → (b || is_one_of ks n) ≡ true → test k ≡ true → (is_one_of ks n ≡ true → test n ≡ true) → test n ≡ true
  by_test true t f first later = let same : k ≡ n = grind (arith, nat_tests, t) in subst (λ (m : ℕ). test m ≡ true) same first
  by_test false t f first later = later f

-- ---- a number goes first or last

pub in_last : (n m : ℕ) (ns : List ℕ) → is_one_of ns m ≡ true → is_one_of (put_last n ns) m ≡ true
in_last n m ns h = by_test (m == n) refl where
  by_test : (b : Bool) → (m == n) ≡ b → is_one_of (put_last n ns) m ≡ true
  by_test true t = let same : n ≡ m = grind (arith, nat_tests, t) in subst (λ (k : ℕ). is_one_of (put_last n ns) k ≡ true) same (last_in n (order_without n ns))
  by_test false t = still_in m n (order_without n ns) (stays_in n m ns t h)

pub in_first : (n m : ℕ) (ns : List ℕ) → is_one_of ns m ≡ true → is_one_of (put_first n ns) m ≡ true
in_first n m ns h = by_test (m == n) refl where
  by_test : (b : Bool) → (m == n) ≡ b → is_one_of (put_first n ns) m ≡ true
  by_test true t = let same : (n == m) ≡ true = grind (arith, nat_tests, t) in rw same refl
  by_test false t = or_second (n == m) (is_one_of (order_without n ns) m) (stays_in n m ns t h)

-- the numbers that stay are in the order that stays
pub both_without : (n : ℕ) (order ns : List ℕ) → list_all (is_one_of order) ns ≡ true → list_all (is_one_of (order_without n order)) (order_without n ns) ≡ true
both_without n order [] h = refl
both_without n order (k ∷ ks) h = let parts = and_true (is_one_of order k) (list_all (is_one_of order) ks) h in by_test (k == n) refl parts.0 (both_without n order ks parts.1) where
  by_test : (b : Bool) → (k == n) ≡ b → is_one_of order k ≡ true → list_all (is_one_of (order_without n order)) (order_without n ks) ≡ true → list_all (is_one_of (order_without n order)) (cond (not b) (k ∷ order_without n ks) (order_without n ks)) ≡ true
  by_test true t first later = later
  by_test false t first later = rw (stays_in n k order t first, later) refl

-- ---- rising numbers

pub rising_without : (n last given : ℕ) (ns : List ℕ) → AreRising last given ns → AreRising last given (order_without n ns)
rising_without n last given ns h = rising_filter (λ m. m) (λ m. not (m == n)) last given ns h

pub rising_more : (last given next : ℕ) (ns : List ℕ) → AreRising last given ns → given < next → AreRising last next (ns ++ next ∷ [])
rising_more last given next ns h l = rising_behind (λ m. m) last given next next ns h refl l

-- none of them is at or below where they rise from
not_below : (n last given : ℕ) (ns : List ℕ) → AreRising last given ns → n ≤ last → is_one_of ns n ≡ false
not_below n last given [] h l = refl
not_below n last given (k ∷ ks) h l =
    let less = h.0 in
    let other : (k == n) ≡ false = grind (arith, nat_tests, less, l) in
    rw (other, not_below n k given ks h.1 (omega (arith, less, l))) refl

-- each stands once
pub rising_apart : (last given : ℕ) (ns : List ℕ) → AreRising last given ns → are_apart ns ≡ true
rising_apart last given [] h = refl
rising_apart last given (k ∷ ks) h = rw (not_below k k given ks h.1 (omega arith), rising_apart k given ks h.1) refl

-- a number past all that were given is none of them
pub fresh : (given next : ℕ) (ns : List ℕ) → list_all (λ n. nat_le n given) ns ≡ true → given < next → is_one_of ns next ≡ false
fresh given next [] h l = refl
fresh given next (k ∷ ks) h l =
    let parts = and_true (nat_le k given) (list_all (λ n. nat_le n given) ks) h in
    let low = parts.0 in
    let other : (k == next) ≡ false = grind (arith, nat_tests, low, l) in
    rw (other, fresh given next ks parts.1 l) refl

pub given_later : (given next : ℕ) (ns : List ℕ) → list_all (λ n. nat_le n given) ns ≡ true → given < next → list_all (λ n. nat_le n next) ns ≡ true
given_later given next ns h l = all_wider (λ n. nat_le n given) (λ n. nat_le n next) ns (λ m e. grind (arith, nat_tests, e, l)) h
