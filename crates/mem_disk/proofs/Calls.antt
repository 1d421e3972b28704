-- What a call leaves of the disk in memory.
use Rattle.std.proofs.Common.{◌≡◌, ℕ, ◌+◌, ◌<◌, true, false, List, [], ◌∷◌, ◌++◌, length, get_or, take, reverse, refl, sym, ◌∙◌, ap, subst, arith}
use Rattle.std.specs.Prelude.{Result, Ok, Err, is_ok, is_err, if◌then◌else◌, slice_set}
use Rattle.mem_disk.specs.declared.mem_disk.Call.{Call}
use Rattle.mem_disk.specs.declared.mem_disk.Call.TheVariants.{Synced}
use Rattle.outside.specs.Disk.{TornSince, IsRead}
use Rattle.mem_disk.specs.Images.{Remembered, reads_after, Images}
use Rattle.mem_disk.specs.Laws.{images_read, newest}

pub not_chosen : {T E A : Type 0} (r : Result T E) (x y z : A) → is_err r ≡ true → z ≡ (if is_ok r then x else y) → z ≡ y
not_chosen (Ok v) x y z bad is = absurd cc
not_chosen (Err e) x y z bad is = is

pub is_chosen : {T E A : Type 0} (r : Result T E) (x y z : A) → is_err r ≡ false → z ≡ (if is_ok r then x else y) → z ≡ x
is_chosen (Ok v) x y z good is = is
is_chosen (Err e) x y z good is = absurd cc

-- where nothing was done
pub same_images : (old new : Remembered) (at n : ℕ) → new.first ≡ old.first → new.calls ≡ old.calls → (c : List ℕ) → Images new.first (reverse new.calls) c → TornSince at n (Images old.first (reverse old.calls)) c
same_images old new at n first calls c left =
    (c, subst (λ (l : List Call). Images old.first (reverse l) c) calls (subst (λ (f : List ℕ). Images f (reverse new.calls) c) first left), record { no_shorter = omega arith; others = λ k lt out. refl })

pub synced_images : (first : List ℕ) (calls new : List Call) → new ≡ calls ++ Synced ∷ [] → (c : List ℕ) → Images first (reverse new) c → Images first (reverse calls) c
synced_images first calls new is c left =
    let now : c ≡ reads_after first (reverse calls) = subst (λ (l : List Call). Images first l c) (ap reverse is ∙ newest calls Synced) left in
    subst (Images first (reverse calls)) (sym now) (images_read first (reverse calls))

pub read_one : (R buf : List ℕ) (at b : ℕ) → 0 < length buf → at < length R → b ≡ get_or R at 0 → IsRead R at (length buf) 1 (take 1 (slice_set buf 0 b))
read_one R [] at b some within is = absurd (omega arith)
read_one R (x ∷ xs) at b some within is = record {
  there = λ more. record {
    within = λ k lt. omega arith;
    same = λ k lt.
        let zero_is : k ≡ 0 = omega arith in
        let there : at ≡ at + k = omega arith in
        subst (λ (i : ℕ). get_or R (at + k) 0 ≡ get_or (b ∷ []) i 0) (sym zero_is) (ap (λ (i : ℕ). get_or R i 0) (sym there) ∙ sym is);
  };
  end = λ none. absurd (omega arith);
}
