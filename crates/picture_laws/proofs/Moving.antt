-- A substrate that moves does to the floor by numbers what the laws have.
use Rattle.std.proofs.Common.{◌≡◌, ◌<◌, ℕ, ◌==◌, Bool, true, false, if◌then◌else◌, List, [], ◌∷◌, find, Option, Some, None, option_map, refl, sym, ◌∙◌, ap, subst, arith}
use Rattle.std.proofs.lemmas.Bool.Decides.{Decides-eqb}
use Rattle.gem_ids.specs.declared.numbers.LocId.{LocId}
use Rattle.tool_tasks.specs.declared.task.Task.{Task as ToolTask}
use Rattle.tool_tasks.specs.declared.task.Task.TheVariants as task
use Rattle.robot_moves.specs.declared.module.Module.{Module}
use Rattle.robot_moves.specs.declared.module.Module.TheVariants.{Idle, Busy, Down}
use Rattle.substrate.specs.Places.{name_of, PlaceMap, AreNumbered, are_named_apart, has_name, substrate_named, moved, moves_to}
use Rattle.substrate.specs.declared.registered.Registered.{Registered}
use Rattle.records.proofs.Apart.{rest_apart, tail_stays}
use Rattle.floor_moves.specs.Floor.{Loc, Task, busy, pick, place, align, process}
use Rattle.place_laws.specs.Picture.{loc_of, numbered, number_or_none, task_of, module_of}

-- a place of a list
abbrev pub among : List Registered → ℕ → Option Loc
among held k = option_map (λ (r : Registered). loc_of r.at) (find (λ (r : Registered). r.number == k) held)

-- what is found is past the last number before it
pub past : (last given : ℕ) (t : Registered → Bool) (rs : List Registered) (found : Registered) → AreNumbered last given rs → find t rs ≡ Some found → last < found.number
past last given t [] found rising e = absurd (cc)
past last given t (r ∷ rs) found rising e = of (t r) e (past r.number given t rs found rising.1) where
  of : (b : Bool) → (if b then Some r else find t rs) ≡ Some found → (find t rs ≡ Some found → r.number < found.number) → last < found.number
  of true e rest = let same : r ≡ found = cc in let less = rising.0 in subst (λ (x : Registered). last < x.number) same less
  of false e rest = let less = rising.0 in let more = rest e in omega (arith, less, more)

module _ (sub : List ℕ) (to : LocId) where
  -- the substrate of the name is at its new place, and each other is where it was
  pub moved_among : (last given : ℕ) (held : List Registered) (found : Registered) → are_named_apart held ≡ true → AreNumbered last given held → substrate_named sub held ≡ Some found → (k : ℕ) → among (moved sub to held) k ≡ (if k == found.number then Some (loc_of to) else among held k)
  moved_among last given [] found apart rising e k = absurd (cc)
  moved_among last given (r ∷ rs) found apart rising e k =
      of (has_name sub r) refl e (λ f. moved_among r.number given rs found (rest_apart name_of r rs apart) rising.1 f k) where
        here : (k == r.number) ≡ (r.number == k)
        here = by (k == r.number) (r.number == k) refl refl where
          by : (b c : Bool) → (k == r.number) ≡ b → (r.number == k) ≡ c → b ≡ c
          by true true p q = refl
          by false false p q = refl
          by true false p q = let same : r.number ≡ k = sym ((Decides-eqb k r.number).0 p) in let t = (Decides-eqb r.number k).1 same in cc
          by false true p q = let same : k ≡ r.number = sym ((Decides-eqb r.number k).0 q) in let t = (Decides-eqb k r.number).1 same in cc

        this : (b : Bool) → (if b then Some (loc_of to) else among rs k) ≡ (if b then Some (loc_of to) else (if b then Some (loc_of r.at) else among rs k))
        this true = refl
        this false = refl

        -- it is behind this one
        behind : (b c : Bool) → (k == found.number) ≡ b → (r.number == k) ≡ c → r.number < found.number → (if c then Some (loc_of r.at) else (if b then Some (loc_of to) else among rs k)) ≡ (if b then Some (loc_of to) else (if c then Some (loc_of r.at) else among rs k))
        behind true true p q less = let a = (Decides-eqb k found.number).0 p in let b = (Decides-eqb r.number k).0 q in absurd (omega (arith, less, a, b))
        behind true false p q less = refl
        behind false true p q less = refl
        behind false false p q less = refl

        head : (c : Bool) (x y : Registered) (xs ys : List Registered) → option_map (λ (s : Registered). loc_of s.at) (if c then Some x else find (λ (s : Registered). s.number == k) xs) ≡ (if c then Some (loc_of x.at) else among xs k)
        head true x y xs ys = refl
        head false x y xs ys = refl

        of : (b : Bool) → has_name sub r ≡ b → (if b then Some r else substrate_named sub rs) ≡ Some found → (substrate_named sub rs ≡ Some found → among (moved sub to rs) k ≡ (if k == found.number then Some (loc_of to) else among rs k)) → among (moved sub to (r ∷ rs)) k ≡ (if k == found.number then Some (loc_of to) else among (r ∷ rs) k)
        of true is e rest =
            let same : r ≡ found = cc in
            let stays : moved sub to rs ≡ rs = tail_stays name_of sub (moves_to to) r rs apart is in
            let first : (if has_name sub r then moves_to to r else r) ≡ moves_to to r = ap (λ (b : Bool). if b then moves_to to r else r) is in
            ap (λ (x : Registered). among (x ∷ moved sub to rs) k) first
            ∙ ap (λ (xs : List Registered). among (moves_to to r ∷ xs) k) stays
            ∙ head (r.number == k) (moves_to to r) r rs rs
            ∙ ap (λ (b : Bool). if b then Some (loc_of to) else among rs k) (sym here)
            ∙ this (k == r.number)
            ∙ ap (λ (b : Bool). if k == r.number then Some (loc_of to) else (if b then Some (loc_of r.at) else among rs k)) here
            ∙ ap (λ (o : Option Loc). if k == r.number then Some (loc_of to) else o) (sym (head (r.number == k) r r rs rs))
            ∙ ap (λ (x : Registered). if k == x.number then Some (loc_of to) else among (r ∷ rs) k) same
        of false is e rest =
            let first : (if has_name sub r then moves_to to r else r) ≡ r = ap (λ (b : Bool). if b then moves_to to r else r) is in
            ap (λ (x : Registered). among (x ∷ moved sub to rs) k) first
            ∙ head (r.number == k) r r (moved sub to rs) rs
            ∙ ap (λ (o : Option Loc). if r.number == k then Some (loc_of r.at) else o) (rest e)
            ∙ behind (k == found.number) (r.number == k) refl refl (past r.number given (has_name sub) rs found rising.1 e)
            ∙ ap (λ (o : Option Loc). if k == found.number then Some (loc_of to) else o) (sym (head (r.number == k) r r rs rs))

  -- names keep their numbers
  pub number_stays : (name : List ℕ) (held : List Registered) → option_map (λ (r : Registered). r.number) (substrate_named name (moved sub to held)) ≡ option_map (λ (r : Registered). r.number) (substrate_named name held)
  number_stays name [] = refl
  number_stays name (r ∷ rs) = of (has_name sub r) (number_stays name rs) where
    kept : (c : Bool) (x : Registered) → x.number ≡ r.number → option_map (λ (r : Registered). r.number) (substrate_named name (moved sub to rs)) ≡ option_map (λ (r : Registered). r.number) (substrate_named name rs) → option_map (λ (r : Registered). r.number) (if c then Some x else substrate_named name (moved sub to rs)) ≡ option_map (λ (r : Registered). r.number) (if c then Some r else substrate_named name rs)
    kept true x same rest = ap (λ (n : ℕ). Some n) same
    kept false x same rest = rest

    of : (b : Bool) → option_map (λ (r : Registered). r.number) (substrate_named name (moved sub to rs)) ≡ option_map (λ (r : Registered). r.number) (substrate_named name rs) → option_map (λ (r : Registered). r.number) (substrate_named name ((if b then moves_to to r else r) ∷ moved sub to rs)) ≡ option_map (λ (r : Registered). r.number) (substrate_named name (r ∷ rs))
    of true rest = kept (has_name name r) (moves_to to r) refl rest
    of false rest = kept (has_name name r) r refl rest

  module _ (p : PlaceMap) where
    same_number : (name : List ℕ) → numbered name (record p { held = moved sub to p.held }) ≡ numbered name p
    same_number name = ap number_or_none (number_stays name p.held)

    same_task : (t : ToolTask) → task_of t (record p { held = moved sub to p.held }) ≡ task_of t p
    same_task (task.Pick name from) = ap (λ (n : ℕ). pick n (loc_of from)) (same_number name)
    same_task (task.Place name end) = ap (λ (n : ℕ). place n (loc_of end)) (same_number name)
    same_task (task.Align name) = ap align (same_number name)
    same_task (task.Process name recipe) = ap process (same_number name)

    -- what modules have open names the same substrates
    pub same_module : (o : Option Module) → module_of o (record p { held = moved sub to p.held }) ≡ module_of o p
    same_module None = refl
    same_module (Some Idle) = refl
    same_module (Some (Busy command fetched)) = ap (λ (t : Task). busy (record { number = command.number.0; task = t })) (same_task command.task)
    same_module (Some Down) = refl
