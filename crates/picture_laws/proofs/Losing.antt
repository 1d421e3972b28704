-- A substrate that is taken away has no place in the floor by numbers.
use Rattle.std.proofs.Common.{◌≡◌, ◌<◌, ◌≤◌, ℕ, ◌==◌, Bool, true, false, not, if◌then◌else◌, cond, List, [], ◌∷◌, find, Option, Some, None, option_map, refl, sym, ◌∙◌, ap, subst, arith}
use Rattle.std.proofs.lemmas.Bool.Decides.{Decides-eqb}
use Rattle.substrate.specs.Places.{name_of, AreNumbered, are_named_apart, has_name, is_known, substrate_named, without}
use Rattle.substrate.specs.declared.registered.Registered.{Registered}
use Rattle.records.proofs.Apart.{has_it, first_apart, rest_apart, without_none}
use Rattle.floor_moves.specs.Floor.{Loc}
use Rattle.place_laws.specs.Picture.{loc_of}
use Rattle.picture_laws.proofs.Moving.{among, past}

-- none has a number that is not past the last one before
none_before : (last given : ℕ) (rs : List Registered) (k : ℕ) → AreNumbered last given rs → k ≤ last → among rs k ≡ None
none_before last given [] k rising less = refl
none_before last given (r ∷ rs) k rising less = of (r.number == k) refl (none_before r.number given rs k rising.1) where
  of : (b : Bool) → (r.number == k) ≡ b → (k ≤ r.number → among rs k ≡ None) → option_map (λ (s : Registered). loc_of s.at) (if b then Some r else find (λ (s : Registered). s.number == k) rs) ≡ None
  of true e rest = let same = (Decides-eqb r.number k).0 e in let more = rising.0 in absurd (omega (arith, same, less, more))
  of false e rest = let more = rising.0 in rest (omega (arith, less, more))

module _ (sub : List ℕ) where
  -- the substrate of the name has no place, and each other is where it was
  pub taken_among : (last given : ℕ) (held : List Registered) (found : Registered) → are_named_apart held ≡ true → AreNumbered last given held → substrate_named sub held ≡ Some found → (k : ℕ) → among (without sub held) k ≡ (if k == found.number then None else among held k)
  taken_among last given [] found apart rising e k = absurd (cc)
  taken_among last given (r ∷ rs) found apart rising e k =
      of (has_name sub r) refl e (λ f. taken_among r.number given rs found (rest_apart name_of r rs apart) rising.1 f k) where
        head : (c : Bool) (x : Registered) (xs : List Registered) → option_map (λ (s : Registered). loc_of s.at) (if c then Some x else find (λ (s : Registered). s.number == k) xs) ≡ (if c then Some (loc_of x.at) else among xs k)
        head true x xs = refl
        head false x xs = refl

        -- it is this one
        this : (b c : Bool) → (k == r.number) ≡ b → (r.number == k) ≡ c → among rs k ≡ (if b then None else (if c then Some (loc_of r.at) else among rs k))
        this true c p q = let same = (Decides-eqb k r.number).0 p in none_before r.number given rs k rising.1 (omega (arith, same))
        this false true p q = let same : k ≡ r.number = sym ((Decides-eqb r.number k).0 q) in let t = (Decides-eqb k r.number).1 same in absurd (cc)
        this false false p q = refl

        -- it is behind this one
        behind : (b c : Bool) → (k == found.number) ≡ b → (r.number == k) ≡ c → r.number < found.number → (if c then Some (loc_of r.at) else (if b then None else among rs k)) ≡ (if b then None else (if c then Some (loc_of r.at) else among rs k))
        behind true true p q less = let a = (Decides-eqb k found.number).0 p in let b = (Decides-eqb r.number k).0 q in absurd (omega (arith, less, a, b))
        behind true false p q less = refl
        behind false true p q less = refl
        behind false false p q less = refl

        gone : (b : Bool) → has_name sub r ≡ b → without sub (r ∷ rs) ≡ cond (not b) (r ∷ without sub rs) (without sub rs)
        gone b is = ap (λ (c : Bool). cond (not c) (r ∷ without sub rs) (without sub rs)) is

        of : (b : Bool) → has_name sub r ≡ b → (if b then Some r else substrate_named sub rs) ≡ Some found → (substrate_named sub rs ≡ Some found → among (without sub rs) k ≡ (if k == found.number then None else among rs k)) → among (without sub (r ∷ rs)) k ≡ (if k == found.number then None else among (r ∷ rs) k)
        of true is e rest =
            let same : r ≡ found = cc in
            let others : without sub rs ≡ rs = without_none name_of sub rs (subst (λ (n : List ℕ). is_known n rs ≡ false) (has_it name_of sub r is) (first_apart name_of r rs apart)) in
            ap (λ (xs : List Registered). among xs k) (gone true is ∙ others)
            ∙ this (k == r.number) (r.number == k) refl refl
            ∙ ap (λ (o : Option Loc). if k == r.number then None else o) (sym (head (r.number == k) r rs))
            ∙ ap (λ (x : Registered). if k == x.number then None else among (r ∷ rs) k) same
        of false is e rest =
            ap (λ (xs : List Registered). among xs k) (gone false is)
            ∙ head (r.number == k) r (without sub rs)
            ∙ ap (λ (o : Option Loc). if r.number == k then Some (loc_of r.at) else o) (rest e)
            ∙ behind (k == found.number) (r.number == k) refl refl (past r.number given (has_name sub) rs found rising.1 e)
            ∙ ap (λ (o : Option Loc). if k == found.number then None else o) (sym (head (r.number == k) r rs))
