-- The completions while the tool settles, one firing after another.
use Rattle.std.proofs.Common.{◌≡◌, ◌+◌, ◌==◌, Bool, true, false, ◌&&◌, List, [], ◌∷◌, ◌++◌, Some, None, refl, sym, ◌∙◌, ap, subst, arith}
use Rattle.std.proofs.lemmas.Bool.{true≢false}
use Rattle.std.proofs.lemmas.Bool.Decides.{nat_tests}
use Rattle.std.proofs.lemmas.List.Sums.{sum_by-append, sum_by-cons}
use Rattle.gem_tables.specs.Table.{is_one_of}
use Rattle.gem_tables.specs.declared.firing.Firing.{Firing}
use Rattle.floor_model.specs.Machines.{is_creation}
use Rattle.floor_model.proofs.Keeping.{AreCreations}
use Rattle.gem_model.specs.State.{State}
use Rattle.gem_model.specs.Machines.{creations, least}
use Rattle.gem_model.specs.Fire.{fire, fire_all, advanced}
use Rattle.gem_model.specs.Measure.{one_if}
use Rattle.gem_model.specs.Settle.{Path, Settles, settling, settled}
use Rattle.gem_model.proofs.FloorRows.{created_are, creates_no_more}
use Rattle.gem_model.proofs.Settling.{settles_so, settles_only}
use Rattle.history_parts.specs.Additions.{completes, completions}

first_of_both : (a b : Bool) → (a && b) ≡ true → a ≡ true
first_of_both true b e = refl
first_of_both false b e = absurd (true≢false (sym e))

-- a row of what was created is none of a control job
not_completes : (d : Firing) → is_creation d ≡ true → completes d ≡ false
not_completes d is = of (d.row.table == 15) refl where
  of : (b : Bool) → (d.row.table == 15) ≡ b → (b && (d.row.row == 8)) ≡ false
  of false q = refl
  of true q =
      let same : d.row.table ≡ 15 = grind (arith, nat_tests, q) in
      let none : is_one_of (8 ∷ 12 ∷ 13 ∷ []) d.row.table ≡ false = ap (is_one_of (8 ∷ 12 ∷ 13 ∷ [])) same in
      absurd (true≢false (sym (first_of_both _ _ is) ∙ none))

completions-cons : (f : Firing) (fs : List Firing) → completions (f ∷ fs) ≡ one_if (completes f) + completions fs
completions-cons f fs = sum_by-cons (λ (x : Firing). one_if (completes x)) f fs

none_created : (ds : List Firing) → AreCreations ds → completions ds ≡ 0
none_created [] are = refl
none_created (d ∷ ds) are =
    let here = ap one_if (not_completes d are.0) in
    omega (arith, here, completions-cons d ds, none_created ds are.1)

-- what a path does behind what a firing created
record Behind (k : State) (ds fs : List Firing) (h : State) : Type 0 where
  rest : List Firing
  is : fs ≡ ds ++ rest
  path : Path (fire_all ds k) [] rest h

behind : (ds : List Firing) → AreCreations ds → (g : State) (fs : List Firing) (h : State) → Path g ds fs h → Behind g ds fs h
behind [] are g fs h path = record { rest = fs; is = refl; path = path }
behind (d ∷ ds) are g [] h path = absurd path
behind (d ∷ ds) are g (x ∷ fs) h path =
    let due : creations g d ++ ds ≡ ds = ap (λ (cs : List Firing). cs ++ ds) (creates_no_more g d are.0) in
    let b = behind ds are.1 (fire g d) fs h (subst (λ (ys : List Firing). Path (fire g d) ys fs h) due path.1) in
    record { rest = b.rest; is = ap (λ (y : Firing). y ∷ fs) path.0 ∙ ap (λ (ys : List Firing). d ∷ ys) b.is; path = b.path }

-- a firing, and those behind it and what it created
pub first_completes : (g : State) (f : Firing) → least g ≡ Some f → completions (settling g) ≡ one_if (completes f) + completions (settling (advanced g f))
first_completes g f ready = of (settling g) (settles_so g) where
  of : (fs : List Firing) → Settles g fs (settled g) → completions fs ≡ one_if (completes f) + completions (settling (advanced g f))
  of [] path = absurd (let clash : Some f ≡ None = sym ready ∙ path.0 in cc)
  of (x ∷ fs) path =
      let both : Some x ≡ Some f = sym path.0 ∙ ready in
      let same : x ≡ f = cc in
      let b : Behind (fire g f) (creations g f) fs (settled g) = behind (creations g f) (created_are g f) (fire g f) fs (settled g) (subst (λ (y : Firing). Path (fire g y) (creations g y) fs (settled g)) same path.1) in
      let only = settles_only (advanced g f) b.rest (settled g) b.path in
      let here = ap (λ (y : Firing). one_if (completes y)) same in
      let rest : completions fs ≡ completions (creations g f ++ settling (advanced g f)) = ap completions (b.is ∙ ap (λ (ys : List Firing). creations g f ++ ys) only.0) in
      let split = sum_by-append (λ (y : Firing). one_if (completes y)) (creations g f) (settling (advanced g f)) in
      omega (arith, here, rest, split, completions-cons x fs, none_created (creations g f) (created_are g f))

-- where no row is ready none completes
pub none_completes : (g : State) → least g ≡ None → completions (settling g) ≡ 0
none_completes g none = of (settling g) (settles_so g) where
  of : (fs : List Firing) → Settles g fs (settled g) → completions fs ≡ 0
  of [] path = refl
  of (x ∷ fs) path = absurd (let clash : Some x ≡ None = sym path.0 ∙ none in cc)
