-- There is room for each substrate that is registered: at most 25 of a port are kept.
use Rattle.std.proofs.Common.{◌≡◌, ◌≤◌, ◌<◌, ℕ, zero, suc, ◌+◌, ◌-◌, ◌*◌, ◌==◌, Bool, true, false, not, List, [], ◌∷◌, filter, length, cond, refl, sym, ap, subst, ◌∙◌, arith}
use Rattle.std.proofs.lemmas.Bool.{or_right, false_from_ne_true}
use Rattle.std.proofs.lemmas.Bool.Decides.{Decides-eqb}
use Rattle.gem_tables.specs.Table.{is_one_of}
use Rattle.floor_moves.specs.Floor.{Floor, own}
use Rattle.floor_moves.specs.Carriers.{AreWithin}
use Rattle.floor_moves.specs.Valid.{IsDistinct, Valid}
use Rattle.floor_moves.proofs.Scans.{first_of, filter_tells, filter_distinct}
use Rattle.floor_moves.proofs.Facts.{is_number}

module _ (key : ℕ → ℕ) where
  -- no two of the list have one key
  abbrev IsApart : List ℕ → Type 0
  IsApart ns = (n m : ℕ) → is_one_of ns n ≡ true → is_one_of ns m ≡ true → key n ≡ key m → n ≡ m

  -- nobody has the key
  all_others : (k : ℕ) (ns : List ℕ) → ((n : ℕ) → is_one_of ns n ≡ true → key n ≡ k → ⊥) → filter (λ n. not (key n == k)) ns ≡ ns
  all_others k [] none = refl
  all_others k (n ∷ ns) none =
      let other : (key n == k) ≡ false = false_from_ne_true (key n == k) (λ t. none n (first_of n ns) (is_number (key n) k t)) in
      ap (λ (b : Bool). cond (not b) (n ∷ filter (λ m. not (key m == k)) ns) (filter (λ m. not (key m == k)) ns)) other
      ∙ ap (λ (ms : List ℕ). n ∷ ms) (all_others k ns (λ m i e. none m (or_right (n == m) (is_one_of ns m) i) e))

  -- at most one has it
  one_less : (k : ℕ) (ns : List ℕ) → IsDistinct ns → IsApart ns → length ns ≤ length (filter (λ n. not (key n == k)) ns) + 1
  one_less k [] d a = omega arith
  one_less k (n ∷ ns) d a = by (key n == k) refl (one_less k ns d.1 (λ x y i j e. a x y (or_right (n == x) (is_one_of ns x) i) (or_right (n == y) (is_one_of ns y) j) e))
    where
      by : (b : Bool) → (key n == k) ≡ b → length ns ≤ length (filter (λ m. not (key m == k)) ns) + 1 → length (n ∷ ns) ≤ length (cond (not b) (n ∷ filter (λ m. not (key m == k)) ns) (filter (λ m. not (key m == k)) ns)) + 1
      by false q rest = let e : length (n ∷ ns) ≡ suc (length ns) = refl in let f : length (n ∷ filter (λ m. not (key m == k)) ns) ≡ suc (length (filter (λ m. not (key m == k)) ns)) = refl in omega (arith, rest, e, f)
      by true q rest =
          let same = all_others k ns (λ m i e. alone m i e) in
          let l : length (filter (λ m. not (key m == k)) ns) ≡ length ns = ap (λ (ms : List ℕ). length ms) same in
          let e : length (n ∷ ns) ≡ suc (length ns) = refl in
          omega (arith, l, e)
        where
          alone : (m : ℕ) → is_one_of ns m ≡ true → key m ≡ k → ⊥
          alone m i e =
              let same : n ≡ m = a n m (first_of n ns) (or_right (n == m) (is_one_of ns m) i) (is_number (key n) k q ∙ sym e) in
              let t : is_one_of ns n ≡ true = subst (λ (x : ℕ). is_one_of ns x ≡ true) (sym same) i in
              let f = d.0 in
              cc

  -- as many as there are keys
  pub at_most : (k : ℕ) (ns : List ℕ) → IsDistinct ns → IsApart ns → ((n : ℕ) → is_one_of ns n ≡ true → key n < k) → length ns ≤ k
  at_most zero [] d a less = omega arith
  at_most zero (n ∷ ns) d a less = let l = less n (first_of n ns) in absurd (omega (arith, l))
  at_most (suc k) ns d a less =
      let rest = at_most k (filter (λ n. not (key n == k)) ns) (filter_distinct (λ n. not (key n == k)) ns d)
      (λ n m i j e. a n m (filter_tells (λ n. not (key n == k)) ns n i).0 (filter_tells (λ n. not (key n == k)) ns m j).0 e)
      (λ n i. below n (filter_tells (λ n. not (key n == k)) ns n i)) in
      let one = one_less k ns d a in
      omega (arith, rest, one)
    where
      below : (n : ℕ) → (is_one_of ns n ≡ true) × (not (key n == k) ≡ true) → key n < k
      below n w =
          let l = less n w.0 in
          let other : key n ≡ k → ⊥ = λ (e : key n ≡ k). (let t : (key n == k) ≡ true = (Decides-eqb (key n) k).1 e in let z : not (key n == k) ≡ false = ap not t in let y = w.1 in cc) in
          smaller (key n) l other
        where
          smaller : (x : ℕ) → x < suc k → (x ≡ k → ⊥) → x < k
          smaller x l other = grind (arith, l, other)

-- the place of a slot among those of all ports
abbrev key_of : Floor → ℕ → ℕ
key_of g n = 25 * (g.port_of n - 1) + (g.slot_of n - 1)

pub room_for_all : (g : Floor) (ports : ℕ) → Valid g → AreWithin ports g → length g.substrates ≤ 25 * ports
room_for_all g ports v within =
    at_most (key_of g) (25 * ports) g.substrates v.places.distinct
    (λ n m i j e. v.places.slots n m i j (same n m (within n i) (within m j) e))
    (λ n i. let w = within n i in let a = w.0 in let b = w.1 in let c = w.2 in let d = w.3 in omega (arith, a, b, c, d))
  where
    same : (n m : ℕ) → (1 ≤ g.port_of n) × (g.port_of n ≤ ports) × (1 ≤ g.slot_of n) × (g.slot_of n ≤ 25) → (1 ≤ g.port_of m) × (g.port_of m ≤ ports) × (1 ≤ g.slot_of m) × (g.slot_of m ≤ 25) → key_of g n ≡ key_of g m → own n g ≡ own m g
    same n m w u e =
        let a = w.0 in
        let b = u.0 in
        let c = w.2 in
        let d = u.2 in
        let f = w.3 in
        let h = u.3 in
        let p : g.port_of n ≡ g.port_of m = omega (arith, a, b, c, d, f, h, e) in
        let q : g.slot_of n ≡ g.slot_of m = omega (arith, p, a, b, c, d, f, h, e) in
        cc
