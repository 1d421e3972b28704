-- Pieces of a disk's bytes stay where nothing is written, and stand where they were written.
use Rattle.std.proofs.Common.{◌≡◌, inl, inr, ⊎_elim, ℕ, ◌+◌, ◌-◌, ◌<◌, ◌≤◌, ◌⊎◌, List, [], ◌∷◌, ◌++◌, length, get_or, refl, sym, ◌∙◌, ap, subst, arith, length-append}
use Rattle.std.proofs.lemmas.Bool.{cases_lt}
use Rattle.std.proofs.lemmas.List.{get_or_append_left, get_or-append-add, get_or-append_right}
use Rattle.outside.specs.Disk.{HasAt, Torn, WrittenAt, Follows}

-- a piece that the write doesn't touch
pub stays : (at n : ℕ) (old new : List ℕ) (place : ℕ) (piece : List ℕ) → Torn at n old new → HasAt old place piece → (place + length piece ≤ at) ⊎ (at + n ≤ place) → HasAt new place piece
stays at n old new place piece torn has apart = record {
  within = λ k lt. omega (arith, torn.no_shorter, has.within k lt);
  same = λ k lt. torn.others (place + k) (has.within k lt) (⊎_elim (λ before. inl (omega arith)) (λ behind. inr (omega arith)) apart) ∙ has.same k lt;
}

-- two pieces beside each other are one
pub joined : (bytes : List ℕ) (at next : ℕ) (xs ys : List ℕ) → next ≡ at + length xs → HasAt bytes at xs → HasAt bytes next ys → HasAt bytes at (xs ++ ys)
joined bytes at next xs ys is left right = record {
  within = λ k lt. elim (cases_lt k (length xs)) [
    | inl below ↦ left.within k below
    | inr above ↦ omega (arith, right.within (k - length xs) (omega (arith, length-append xs ys)))
  ];
  same = λ k lt. elim (cases_lt k (length xs)) [
    | inl below ↦ left.same k below ∙ sym (get_or_append_left xs ys 0 k below)
    | inr above ↦
        let d = k - length xs in
        let there : next + d ≡ at + k = omega arith in
        subst (λ (i : ℕ). get_or bytes i 0 ≡ get_or (xs ++ ys) k 0) there (right.same d (omega (arith, length-append xs ys)) ∙ sym (get_or-append_right xs ys (length xs) k 0 refl above))
  ];
}

pub left_part : (bytes : List ℕ) (at : ℕ) (xs ys : List ℕ) → HasAt bytes at (xs ++ ys) → HasAt bytes at xs
left_part bytes at xs ys has = record {
  within = λ k lt. has.within k (omega (arith, length-append xs ys));
  same = λ k lt. has.same k (omega (arith, length-append xs ys)) ∙ get_or_append_left xs ys 0 k lt;
}

pub right_part : (bytes : List ℕ) (at next : ℕ) (xs ys : List ℕ) → next ≡ at + length xs → HasAt bytes at (xs ++ ys) → HasAt bytes next ys
right_part bytes at next xs ys is has = record {
  within = λ k lt. omega (arith, has.within (length xs + k) (omega (arith, length-append xs ys)));
  same = λ k lt.
      let there : at + (length xs + k) ≡ next + k = omega arith in
      subst (λ (i : ℕ). get_or bytes i 0 ≡ get_or ys k 0) there (has.same (length xs + k) (omega (arith, length-append xs ys)) ∙ get_or-append-add xs ys k 0);
}

-- one byte is whatever it is
pub one_byte : (bytes : List ℕ) (at : ℕ) → at < length bytes → HasAt bytes at (get_or bytes at 0 ∷ [])
one_byte bytes at lt = record {
  within = λ k below. omega arith;
  same = λ k below.
      let zero_is : k ≡ 0 = omega arith in
      subst (λ (i : ℕ). get_or bytes (at + i) 0 ≡ get_or (get_or bytes at 0 ∷ []) i 0) (sym zero_is)
      (ap (λ (i : ℕ). get_or bytes i 0)
      (let e : at + 0 ≡ at = omega arith in
      e));
}

pub no_bytes : (bytes : List ℕ) (at : ℕ) → HasAt bytes at []
no_bytes bytes at = record { within = λ k lt. absurd (omega arith); same = λ k lt. absurd (omega arith) }

-- ---- writes in pieces

pub torn_none : (at n : ℕ) (old : List ℕ) → Torn at n old old
torn_none at n old = record { no_shorter = omega arith; others = λ k lt out. refl }

pub torn_wider : (at n at' n' : ℕ) (old new : List ℕ) → at ≤ at' → at' + n' ≤ at + n → Torn at' n' old new → Torn at n old new
torn_wider at n at' n' old new from to torn = record {
  no_shorter = torn.no_shorter;
  others = λ k lt out. torn.others k lt (⊎_elim (λ before. inl (omega arith)) (λ behind. inr (omega arith)) out);
}

pub torn_twice : (at n : ℕ) (old mid new : List ℕ) → Torn at n old mid → Torn at n mid new → Torn at n old new
torn_twice at n old mid new first second = record {
  no_shorter = omega (arith, first.no_shorter, second.no_shorter);
  others = λ k lt out. second.others k (omega (arith, first.no_shorter)) out ∙ first.others k lt out;
}

pub written_none : (at : ℕ) (old : List ℕ) → WrittenAt at [] old old
written_none at old = record { torn = torn_none at 0 old; there = no_bytes old at }

-- two writes beside each other are one
pub written_twice : (at next : ℕ) (xs ys old mid new : List ℕ) → next ≡ at + length xs → WrittenAt at xs old mid → WrittenAt next ys mid new → WrittenAt at (xs ++ ys) old new
written_twice at next xs ys old mid new is first second = record {
  torn = torn_twice at (length (xs ++ ys)) old mid new
      (torn_wider at (length (xs ++ ys)) at (length xs) old mid (omega arith) (omega (arith, length-append xs ys)) first.torn)
      (torn_wider at (length (xs ++ ys)) next (length ys) mid new (omega arith) (omega (arith, length-append xs ys)) second.torn);
  there = joined new at next xs ys is (stays next (length ys) mid new at xs second.torn first.there (inl (omega arith))) second.there;
}

module _ (at n : ℕ) (old mid new : List ℕ → Type 0) where
  pub follows_twice : (at' n' : ℕ) → at ≤ at' → at' + n' ≤ at + n → Follows (Torn at n) old mid → Follows (Torn at' n') mid new → Follows (Torn at n) old new
  follows_twice at' n' from to first second c left =
      let late = second c left in
      let early = first late.0 late.1 in
      (early.0, early.1, torn_twice at n early.0 late.0 c early.2 (torn_wider at n at' n' late.0 c from to late.2))

pub follows_wider : (at n at' n' : ℕ) (old new : List ℕ → Type 0) → at ≤ at' → at' + n' ≤ at + n → Follows (Torn at' n') old new → Follows (Torn at n) old new
follows_wider at n at' n' old new from to follows c left = let f = follows c left in (f.0, f.1, torn_wider at n at' n' f.0 c from to f.2)
