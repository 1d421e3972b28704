-- A list of items as a list of steps that builds it again: the code that the value of a type needs. No clause speaks of it.
use Rattle.std.specs.Prelude.{◌≡◌, ℕ, ◌==◌, ℤ, Bool, if◌then◌else◌, List, [], ◌∷◌, ◌++◌, refl}
use Rattle.std.specs.Coded.{Coded, code_by, coded_ℕ, coded_ℤ, coded_bool, coded_list, coded×}
use Rattle.std.proofs.Common.{◌∙◌, ap, append_assoc, append-nil}
use Rattle.item_model.specs.Data.{Data, DataList, list, binary, boolean, ascii, i1, i2, i4, i8, u1, u2, u4, u8, no_items, item}

-- a step: its kind, and the elements of an item that isn't a list
abbrev pub Step : Type 0
Step = ℕ × (List ℕ × (List ℤ × List Bool))

-- one step
abbrev unsigned : ℕ → List ℕ → List Step
unsigned kind ns = (kind, (ns, ([], []))) ∷ []

-- the same with signed numbers
abbrev signed : ℕ → List ℤ → List Step
signed kind zs = (kind, ([], (zs, []))) ∷ []

-- the same with truths
abbrev truths : ℕ → List Bool → List Step
truths kind bs = (kind, ([], ([], bs))) ∷ []

-- kind 0 begins a list, 1 puts an item before a list, 2 makes an item of a list
abbrev mutual
  steps : Data → List Step
  steps (list ds) = steps_of ds ++ unsigned 2 []
  steps (boolean bs) = truths 3 bs
  steps (binary ns) = unsigned 4 ns
  steps (ascii ns) = unsigned 5 ns
  steps (u1 ns) = unsigned 6 ns
  steps (u2 ns) = unsigned 7 ns
  steps (u4 ns) = unsigned 8 ns
  steps (u8 ns) = unsigned 9 ns
  steps (i1 zs) = signed 10 zs
  steps (i2 zs) = signed 11 zs
  steps (i4 zs) = signed 12 zs
  steps (i8 zs) = signed 13 zs

  -- the steps that build a list
  steps_of : DataList → List Step
  steps_of no_items = unsigned 0 []
  steps_of (item d ds) = steps_of ds ++ (steps d ++ unsigned 1 [])

-- an item that isn't a list
abbrev leaf : ℕ → List ℕ → List ℤ → List Bool → Data
leaf kind ns zs bs =
    if kind == 3 then boolean bs else (
    if kind == 4 then binary ns else (
    if kind == 5 then ascii ns else (
    if kind == 6 then u1 ns else (
    if kind == 7 then u2 ns else (
    if kind == 8 then u4 ns else (
    if kind == 9 then u8 ns else (
    if kind == 10 then i1 zs else (
    if kind == 11 then i2 zs else (
    if kind == 12 then i4 zs else i8 zs)))))))))

-- puts an item, which stands as a list of one, before the list under it
abbrev joined : List DataList → List DataList
joined [] = []
joined (no_items ∷ made) = made
joined (item d _ ∷ []) = []
joined (item d _ ∷ ds ∷ made) = item d ds ∷ made

-- makes an item of a list
abbrev wrapped : List DataList → List DataList
wrapped [] = []
wrapped (ds ∷ made) = item (list ds) no_items ∷ made

-- what a step makes of the lists that are made so far
abbrev step : Step → List DataList → List DataList
step s made =
    if s.0 == 0 then no_items ∷ made else (
    if s.0 == 1 then joined made else (
    if s.0 == 2 then wrapped made else
    item (leaf s.0 s.1.0 s.1.1.0 s.1.1.1) no_items ∷ made))

-- the steps, one after another
abbrev run : List Step → List DataList → List DataList
run [] made = made
run (s ∷ ss) made = run ss (step s made)

-- the list that was made last
abbrev last_made : List DataList → DataList
last_made [] = no_items
last_made (ds ∷ made) = ds

mutual
  -- the steps of an item put it before what is made so far, as a list of one
  run-steps : (d : Data) (ss : List Step) (made : List DataList) → run (steps d ++ ss) made ≡ run ss (item d no_items ∷ made)
  run-steps (list ds) ss made = rw append_assoc (run-steps_of ds (unsigned 2 [] ++ ss) made)
  run-steps (boolean bs) ss made = refl
  run-steps (binary ns) ss made = refl
  run-steps (ascii ns) ss made = refl
  run-steps (u1 ns) ss made = refl
  run-steps (u2 ns) ss made = refl
  run-steps (u4 ns) ss made = refl
  run-steps (u8 ns) ss made = refl
  run-steps (i1 zs) ss made = refl
  run-steps (i2 zs) ss made = refl
  run-steps (i4 zs) ss made = refl
  run-steps (i8 zs) ss made = refl

  -- the steps of a list put it before what is made so far
  run-steps_of : (ds : DataList) (ss : List Step) (made : List DataList) → run (steps_of ds ++ ss) made ≡ run ss (ds ∷ made)
  run-steps_of no_items ss made = refl
  run-steps_of (item d ds) ss made =
      rw (append_assoc, append_assoc) (run-steps_of ds (steps d ++ (unsigned 1 [] ++ ss)) made ∙ run-steps d (unsigned 1 [] ++ ss) (ds ∷ made))

-- the list that the steps build
abbrev pub built : List Step → DataList
built ss = last_made (run ss [])

-- the steps that build a list build it
pub built-steps_of : (ds : DataList) → built (steps_of ds) ≡ ds
built-steps_of ds = ap last_made (rw append-nil at (run-steps_of ds [] []))

-- the code by which a proof tells lists of items apart
abbrev pub items_code : Coded DataList
items_code =
    code_by (List Step) (coded_list (coded× coded_ℕ (coded× (coded_list coded_ℕ) (coded× (coded_list coded_ℤ) (coded_list coded_bool))))) steps_of built built-steps_of
