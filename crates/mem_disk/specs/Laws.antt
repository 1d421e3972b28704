-- The disk in memory is a disk.
use Rattle.std.specs.Prelude.{◌≡◌, ℕ, ◌+◌, ◌-◌, ◌<◌, ◌≤◌, List, [], ◌∷◌, ◌++◌, length, take, drop, reverse, replicate, get_or}
use Rattle.std.proofs.Common.{refl, sym, ◌∙◌, append_assoc, ap, subst, inl, inr, ⊎_elim, arith}
use Rattle.std.proofs.lemmas.Bool.{cases_lt}
use Rattle.std.proofs.lemmas.List.{take_all, length-append, length-take, length-drop, length-replicate, get_or-take, get_or-drop, get_or_append_left, get_or-append_right, reverse-append, take-append-le}
use Rattle.mem_disk.specs.declared.mem_disk.Call.{Call}
use Rattle.mem_disk.specs.declared.mem_disk.Call.TheVariants.{Wrote, Synced}
use Rattle.outside.specs.Disk.{WrittenAt, Elapses}
use Rattle.mem_disk.specs.Images.{put, reads_after, Images, LeftSince}

-- ---- a write

module _ (at : ℕ) (piece old : List ℕ) where
  front_size : length (take at old ++ replicate (at - length old) 0) ≡ at
  front_size = omega (arith, length-append (take at old) (replicate (at - length old) 0), length-take at old, length-replicate {A = ℕ} (at - length old) 0)

  tail_at : (k : ℕ) → at ≤ k → get_or (put at piece old) k 0 ≡ get_or (piece ++ drop (at + length piece) old) (k - at) 0
  tail_at k le = ap (λ (l : List ℕ). get_or l k 0) (append_assoc (take at old ++ replicate (at - length old) 0) piece (drop (at + length piece) old))
      ∙ get_or-append_right (take at old ++ replicate (at - length old) 0) (piece ++ drop (at + length piece) old) at k 0 front_size le

  put_size : length old ≤ length (put at piece old)
  put_size = omega (arith, front_size, length-append (take at old ++ replicate (at - length old) 0) piece, length-append ((take at old ++ replicate (at - length old) 0) ++ piece) (drop (at + length piece) old), length-drop (at + length piece) old)

  put_reaches : at + length piece ≤ length (put at piece old)
  put_reaches = omega (arith, front_size, length-append (take at old ++ replicate (at - length old) 0) piece, length-append ((take at old ++ replicate (at - length old) 0) ++ piece) (drop (at + length piece) old))

  before_at : (k : ℕ) → k < length old → k < at → get_or (put at piece old) k 0 ≡ get_or old k 0
  before_at k within lt =
      let f = take at old in
      let z : List ℕ = replicate (at - length old) 0 in
      ap (λ (l : List ℕ). get_or l k 0) (append_assoc (f ++ z) piece (drop (at + length piece) old) ∙ append_assoc f z (piece ++ drop (at + length piece) old))
      ∙ get_or_append_left f (z ++ (piece ++ drop (at + length piece) old)) 0 k (omega (arith, length-take at old))
      ∙ get_or-take at old k 0 lt

  behind_at : (k : ℕ) → k < length old → at + length piece ≤ k → get_or (put at piece old) k 0 ≡ get_or old k 0
  behind_at k within le =
      tail_at k (omega arith)
      ∙ get_or-append_right piece (drop (at + length piece) old) (length piece) (k - at) 0 refl (omega arith)
      ∙ get_or-drop (at + length piece) old (k - at - length piece) 0
      ∙ (let e : at + length piece + (k - at - length piece) ≡ k = omega arith in
      ap (λ (i : ℕ). get_or old i 0) e)

  pub put_written : WrittenAt at piece old (put at piece old)
  put_written = record {
    torn = record { no_shorter = put_size; others = λ k lt out. ⊎_elim (before_at k lt) (behind_at k lt) out };
    there = record {
      within = λ k lt. omega (arith, put_reaches);
      same = λ k lt.
          tail_at (at + k) (omega arith)
          ∙ (let e : at + k - at ≡ k = omega arith in
          ap (λ (i : ℕ). get_or (piece ++ drop (at + length piece) old) i 0) e)
          ∙ get_or_append_left piece (drop (at + length piece) old) 0 k lt;
    };
  }

-- ---- the laws

pub images_read : (first : List ℕ) (calls : List Call) → Images first calls (reads_after first calls)
images_read first [] = refl
images_read first (Wrote at piece ∷ calls) = (reads_after first calls, images_read first calls, (put_written at piece.items (reads_after first calls)).torn)
images_read first (Synced ∷ calls) = refl

pub left_now : (first : List ℕ) (calls : List Call) (c : List ℕ) → LeftSince first calls (length calls) c → Images first (reverse calls) c
left_now first calls c left = subst (λ (l : List Call). Images first (reverse l) c) (take_all left.0 calls (omega (arith, left.1))) left.3

pub now_left : (first : List ℕ) (calls : List Call) (t : ℕ) (c : List ℕ) → t ≤ length calls → Images first (reverse calls) c → LeftSince first calls t c
now_left first calls t c le now = (length calls, le, omega arith, subst (λ (l : List Call). Images first (reverse l) c) (sym (take_all (length calls) calls (omega arith))) now)

-- one call more
pub newest : (calls : List Call) (call : Call) → reverse (calls ++ call ∷ []) ≡ call ∷ reverse calls
newest calls call = reverse-append calls (call ∷ [])

pub elapses_more : (first : List ℕ) (calls : List Call) (call : Call) → Elapses (length calls) (length (calls ++ call ∷ [])) (LeftSince first calls) (LeftSince first (calls ++ call ∷ [])) (Images first (reverse (calls ++ call ∷ [])))
elapses_more first calls call = record {
  later = omega (arith, length-append calls (call ∷ []));
  nothing_else = λ t c le left. ⊎_elim
      (λ few. inl (left.0, left.1, omega arith, subst (λ (l : List Call). Images first (reverse l) c) (take-append-le left.0 calls (call ∷ []) (omega arith)) left.3))
      (λ all. inr (subst (λ (l : List Call). Images first (reverse l) c) (take_all left.0 (calls ++ call ∷ []) (omega (arith, length-append calls (call ∷ [])))) left.3))
      (cases_lt left.0 (length calls + 1));
  keeps = λ t c le left. (left.0, left.1, omega (arith, left.2, length-append calls (call ∷ [])), subst (λ (l : List Call). Images first (reverse l) c) (sym (take-append-le left.0 calls (call ∷ []) left.2)) left.3);
}

pub elapses_none : (first : List ℕ) (calls : List Call) → Elapses (length calls) (length calls) (LeftSince first calls) (LeftSince first calls) (Images first (reverse calls))
elapses_none first calls = record { later = omega arith; nothing_else = λ t c le left. inl left; keeps = λ t c le left. left }
