-- What is found among the substrates that have a place, where some of them go and where some of them change.
use Rattle.std.proofs.Common.{◌≡◌, ◌≤◌, ◌<◌, ℕ, ◌==◌, Bool, true, false, if◌then◌else◌, List, [], ◌∷◌, filter, Option, Some, None, option_map, refl, sym, ◌∙◌, ap, arith}
use Rattle.std.specs.List.{AllByRecursion}
use Rattle.std.proofs.lemmas.Bool.Decides.{Decides-eqb}
use Rattle.substrate.specs.Places.{PlaceMap, AreNumbered}
use Rattle.substrate.specs.declared.registered.Registered.{Registered}
use Rattle.floor_moves.specs.Floor.{Loc}
use Rattle.place_laws.specs.Picture.{loc_of, place_in}
use Rattle.place_laws.proofs.Holding.{found_number}
use Rattle.place_laws.proofs.Names.{each_found, numbered_in, none_before}

-- one that is found and passes a test
abbrev pub passing : (Registered → Bool) → Option Registered → Option Registered
passing q None = None
passing q (Some r) = if q r then Some r else None

-- the last number is not before the first
pub numbers_rise : (last given : ℕ) (rs : List Registered) → AreNumbered last given rs → last ≤ given
numbers_rise last given [] rising = rising
numbers_rise last given (r ∷ rs) rising = let more = rising.0 in let rest = numbers_rise r.number given rs rising.1 in omega (arith, more, rest)

-- none has a number that was not given
pub none_past : (last given : ℕ) (rs : List Registered) (n : ℕ) → AreNumbered last given rs → given < n → numbered_in n rs ≡ None
none_past last given [] n rising more = refl
none_past last given (r ∷ rs) n rising more = of (r.number == n) refl (none_past r.number given rs n rising.1 more) where
  of : (b : Bool) → (r.number == n) ≡ b → numbered_in n rs ≡ None → (if b then Some r else numbered_in n rs) ≡ None
  of true e rest = let same = (Decides-eqb r.number n).0 e in let within = numbers_rise r.number given rs rising.1 in absurd (omega (arith, same, within, more))
  of false e rest = rest

-- a number that has a place was given, and is past 0
pub place_given : (p : PlaceMap) (n : ℕ) (l : Loc) → AreNumbered 0 p.given p.held → place_in p n ≡ Some l → n ≤ p.given
place_given p n l rising e = of (numbered_in n p.held) refl e where
  within : (last : ℕ) (rs : List Registered) → AreNumbered last p.given rs → AllByRecursion (λ (r : Registered). r.number ≤ p.given) rs
  within last [] r = tt
  within last (x ∷ xs) r = (numbers_rise x.number p.given xs r.1, within x.number xs r.1)

  of : (o : Option Registered) → numbered_in n p.held ≡ o → option_map (λ (r : Registered). loc_of r.at) o ≡ Some l → n ≤ p.given
  of None is f = absurd (cc)
  of (Some r) is f =
      let its = found_number (λ (x : Registered). x.number) n p.held r is in
      let less = each_found (λ (x : Registered). x.number ≤ p.given) (λ (x : Registered). x.number == n) p.held r (within 0 p.held rising) is in
      omega (arith, its, less)

-- where some go, one that is found is found still, where it doesn't go
pub found_fewer : (q : Registered → Bool) (n last given : ℕ) (rs : List Registered) → AreNumbered last given rs → numbered_in n (filter q rs) ≡ passing q (numbered_in n rs)
found_fewer q n last given [] rising = refl
found_fewer q n last given (r ∷ rs) rising = of (r.number == n) refl (q r) refl (found_fewer q n r.number given rs rising.1) where
  kept : q r ≡ true → filter q (r ∷ rs) ≡ r ∷ filter q rs
  kept u = ap (λ (t : Bool). if t then r ∷ filter q rs else filter q rs) u

  dropped : q r ≡ false → filter q (r ∷ rs) ≡ filter q rs
  dropped u = ap (λ (t : Bool). if t then r ∷ filter q rs else filter q rs) u

  test : (b : Bool) → (r.number == n) ≡ b → (xs : List Registered) → numbered_in n (r ∷ xs) ≡ (if b then Some r else numbered_in n xs)
  test b e xs = ap (λ (t : Bool). if t then Some r else numbered_in n xs) e

  of : (b : Bool) → (r.number == n) ≡ b → (t : Bool) → q r ≡ t → numbered_in n (filter q rs) ≡ passing q (numbered_in n rs) → numbered_in n (filter q (r ∷ rs)) ≡ passing q (numbered_in n (r ∷ rs))
  of true e true u rest = ap (numbered_in n) (kept u) ∙ test true e (filter q rs) ∙ sym (ap (passing q) (test true e rs) ∙ ap (λ (t : Bool). if t then Some r else None) u)
  of true e false u rest =
      let within : n ≤ r.number = let k = (Decides-eqb r.number n).0 e in omega (arith, k) in
      ap (numbered_in n) (dropped u) ∙ rest ∙ ap (passing q) (none_before r.number given rs n rising.1 within) ∙ sym (ap (passing q) (test true e rs) ∙ ap (λ (t : Bool). if t then Some r else None) u)
  of false e true u rest = ap (numbered_in n) (kept u) ∙ test false e (filter q rs) ∙ rest ∙ sym (ap (passing q) (test false e rs))
  of false e false u rest = ap (numbered_in n) (dropped u) ∙ rest ∙ sym (ap (passing q) (test false e rs))
