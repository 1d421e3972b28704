-- What a number tells of, after another one was given or a fate has changed.
use Rattle.std.proofs.Common.{◌≡◌, ℕ, zero, suc, ◌+◌, ◌<◌, ◌≤◌, ◌==◌, Bool, true, false, ◌&&◌, List, [], ◌∷◌, ◌++◌, length, Option, Some, None, option_map, slice_get, slice_set, slice_index_or, refl, sym, ap, arith}
use Rattle.std.proofs.lemmas.Bool.Decides.{nat_tests}
use Rattle.std.proofs.lemmas.Option.{slice_get-get_or, slice_get_past}
use Rattle.gem_tables.specs.Table.{update_at}
use Rattle.spool.specs.declared.note.Kind.{Kind}
use Rattle.note_line.specs.declared.fate.Told.{Told}
use Rattle.note_line.specs.declared.fate.Fate.{Fate}
use Rattle.note_line.specs.Line.{told_of, fate_of, with_fate}
use Rattle.note_line.specs.Fates.{tells, what_of, passes, has_fate, one_if}

-- ---- in a list

module _ {X : Type 0} where
  get-update_same : (place : ℕ) (change : X → X) (xs : List X) → slice_get (update_at place change xs) place ≡ option_map change (slice_get xs place)
  get-update_same zero change [] = refl
  get-update_same (suc place) change [] = refl
  get-update_same zero change (x ∷ xs) = refl
  get-update_same (suc place) change (x ∷ xs) = get-update_same place change xs

  get-update_other : (place other : ℕ) (change : X → X) (xs : List X) → (other == place) ≡ false → slice_get (update_at place change xs) other ≡ slice_get xs other
  get-update_other zero zero change xs e = absurd (grind (arith, nat_tests))
  get-update_other zero (suc other) change [] e = refl
  get-update_other (suc place) zero change [] e = refl
  get-update_other (suc place) (suc other) change [] e = refl
  get-update_other zero (suc other) change (x ∷ xs) e = refl
  get-update_other (suc place) zero change (x ∷ xs) e = refl
  get-update_other (suc place) (suc other) change (x ∷ xs) e = get-update_other place other change xs (grind (arith, nat_tests))

  -- past the end nothing changes
  update-past : (place : ℕ) (change : X → X) (xs : List X) → length xs ≤ place → update_at place change xs ≡ xs
  update-past zero change [] l = refl
  update-past (suc place) change [] l = refl
  update-past zero change (x ∷ xs) l = absurd (omega arith)
  update-past (suc place) change (x ∷ xs) l = ap (λ ys. x ∷ ys) (update-past place change xs (omega arith))

  get-append_within : (xs ys : List X) (place : ℕ) → place < length xs → slice_get (xs ++ ys) place ≡ slice_get xs place
  get-append_within [] ys place l = absurd (omega arith)
  get-append_within (x ∷ xs) ys zero l = refl
  get-append_within (x ∷ xs) ys (suc place) l = get-append_within xs ys place (omega arith)

  get-append_behind : (xs : List X) (x : X) → slice_get (xs ++ x ∷ []) (length xs) ≡ Some x
  get-append_behind [] x = refl
  get-append_behind (y ∷ xs) x = get-append_behind xs x

-- ---- another fate

-- that of the number
pub told_of-with_fate : (number : ℕ) (fate : Fate) (told : List Told) → told_of number (with_fate number fate told) ≡ option_map (λ (one : Told). record one { fate = fate }) (told_of number told)
told_of-with_fate zero fate told = refl
told_of-with_fate (suc place) fate told = get-update_same place _ told

-- other numbers keep theirs
pub told_of-with_other : (number other : ℕ) (fate : Fate) (told : List Told) → (other == number) ≡ false → told_of other (with_fate number fate told) ≡ told_of other told
told_of-with_other zero other fate told e = refl
told_of-with_other (suc place) zero fate told e = refl
told_of-with_other (suc place) (suc other) fate told e = get-update_other place other _ told (grind (arith, nat_tests))

-- the number has the fate
pub fate_of-with_fate : (number : ℕ) (fate : Fate) (told : List Told) (before : Fate) → fate_of number told ≡ Some before → fate_of number (with_fate number fate told) ≡ Some fate
fate_of-with_fate number fate told before e = rw (told_of-with_fate number fate told) (of (told_of number told) e) where
  of : (one : Option Told) → option_map (λ (one : Told). one.fate) one ≡ Some before → option_map (λ (one : Told). one.fate) (option_map (λ (one : Told). record one { fate = fate }) one) ≡ Some fate
  of None e = absurd (cc)
  of (Some one) e = refl

pub fate_of-with_other : (number other : ℕ) (fate : Fate) (told : List Told) → (other == number) ≡ false → fate_of other (with_fate number fate told) ≡ fate_of other told
fate_of-with_other number other fate told e = ap (option_map (λ (one : Told). one.fate)) (told_of-with_other number other fate told e)

-- each number tells of the same
pub what_of-with_fate : (number other : ℕ) (fate : Fate) (told : List Told) → what_of other (with_fate number fate told) ≡ what_of other told
what_of-with_fate number other fate told = by_test (other == number) refl where
  of : (one : Option Told) → option_map tells (option_map (λ (one : Told). record one { fate = fate }) one) ≡ option_map tells one
  of None = refl
  of (Some one) = refl

  by_test : (b : Bool) → (other == number) ≡ b → what_of other (with_fate number fate told) ≡ what_of other told
  by_test false q = ap (option_map tells) (told_of-with_other number other fate told q)
  by_test true q =
      let same : other ≡ number = grind (arith, nat_tests) in
      rw (same, told_of-with_fate number fate told) (of (told_of number told))

-- no number is given or taken back
pub length-with_fate : (number : ℕ) (fate : Fate) (told : List Told) → length (with_fate number fate told) ≡ length told
length-with_fate zero fate told = refl
length-with_fate (suc place) fate told = of place told where
  of : (place : ℕ) (told : List Told) → length (update_at place (λ (one : Told). record one { fate = fate }) told) ≡ length told
  of zero [] = refl
  of (suc place) [] = refl
  of zero (one ∷ others) = refl
  of (suc place) (one ∷ others) = ap suc (of place others)

-- ---- a number more

-- a number that was given tells of the same
pub told_of-more : (number : ℕ) (told : List Told) (one : Told) → number ≤ length told → told_of number (told ++ one ∷ []) ≡ told_of number told
told_of-more zero told one l = refl
told_of-more (suc place) told one l = get-append_within told (one ∷ []) place (omega arith)

-- the one behind them tells of the new one
pub told_of-last : (told : List Told) (one : Told) → told_of (suc (length told)) (told ++ one ∷ []) ≡ Some one
told_of-last told one = get-append_behind told one

-- those that have a fate are those that had it, and the new one where it has it
pub has_fate-more : (test : Fate → Bool) (number : ℕ) (told : List Told) (one : Told) → one_if (has_fate test number (told ++ one ∷ [])) ≡ one_if (has_fate test number told) + one_if (test one.fate && (suc (length told) == number))
has_fate-more test zero told one = grind (arith, nat_tests)
has_fate-more test (suc place) told one = of told place where
  of : (told : List Told) (place : ℕ) → one_if (passes test (option_map (λ (one : Told). one.fate) (slice_get (told ++ one ∷ []) place))) ≡ one_if (passes test (option_map (λ (one : Told). one.fate) (slice_get told place))) + one_if (test one.fate && (suc (length told) == suc place))
  of [] zero = grind (arith, nat_tests)
  of [] (suc place) = grind (arith, nat_tests)
  of (first ∷ others) zero = grind (arith, nat_tests)
  of (first ∷ others) (suc place) = let rest = of others place in grind (arith, nat_tests)

-- a number that tells of something was given
pub what-given : (number : ℕ) (told : List Told) (what : Kind × ℕ) → what_of number told ≡ Some what → number ≤ length told
what-given zero told what e = omega arith
what-given (suc place) told what e = of told place e where
  of : (told : List Told) (place : ℕ) → option_map tells (slice_get told place) ≡ Some what → suc place ≤ length told
  of [] place e = absurd (cc)
  of (one ∷ others) zero e = omega arith
  of (one ∷ others) (suc place) e = let rest = of others place e in omega arith

-- a number that has a fate was given
pub fate-given : (number : ℕ) (told : List Told) (fate : Fate) → fate_of number told ≡ Some fate → number ≤ length told
fate-given zero told fate e = omega arith
fate-given (suc place) told fate e = of told place e where
  of : (told : List Told) (place : ℕ) → option_map (λ (one : Told). one.fate) (slice_get told place) ≡ Some fate → suc place ≤ length told
  of [] place e = absurd (cc)
  of (one ∷ others) zero e = omega arith
  of (one ∷ others) (suc place) e = let rest = of others place e in omega arith

-- ---- as a slice is written

-- to write a told with another fate at its place is to change its fate
pub written : (told : List Told) (number place : ℕ) (fate : Fate) (one : Told) → number ≡ place + 1 → one ≡ slice_index_or told place one → slice_set told place (record { kind = one.kind; id = one.id; fate = fate }) ≡ with_fate number fate told
written told zero place fate one n e = absurd (omega arith)
written told (suc number) place fate one n e = let same : number ≡ place = omega arith in rw same (of told place e) where
  of : (told : List Told) (place : ℕ) → one ≡ slice_index_or told place one → slice_set told place (record { kind = one.kind; id = one.id; fate = fate }) ≡ update_at place (λ (x : Told). record x { fate = fate }) told
  of [] zero e = refl
  of [] (suc place) e = refl
  of (first ∷ others) zero e = rw e refl
  of (first ∷ others) (suc place) e = ap (λ ys. first ∷ ys) (of others place e)

-- a number that wasn't given changes nothing
pub written-past : (told : List Told) (number place : ℕ) (fate : Fate) → number ≡ place + 1 → length told ≤ place → told ≡ with_fate number fate told
written-past told zero place fate n l = refl
written-past told (suc number) place fate n l = sym (update-past number _ told (omega arith))

-- ---- as a fate is read

pub read : (told : List Told) (number place : ℕ) (one : Told) → number ≡ place + 1 → place < length told → one ≡ slice_index_or told place one → Some one.fate ≡ fate_of number told
read told zero place one n b e = absurd (omega arith)
read told (suc number) place one n b e =
    let same : number ≡ place = omega arith in
    rw (same, slice_get-get_or told place one b) (ap (λ (x : Told). Some x.fate) e)

pub read-past : (told : List Told) (number place : ℕ) → number ≡ place + 1 → length told ≤ place → None ≡ fate_of number told
read-past told zero place n l = refl
read-past told (suc number) place n l = rw (slice_get_past told number (omega arith)) refl
