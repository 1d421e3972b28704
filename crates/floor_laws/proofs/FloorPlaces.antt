-- How the places of substrates and the open commands change over the rows that one input fires together; each substrate has one place; and
-- what else follows from what holds.
use Rattle.std.proofs.Common.{◌≡◌, ◌≤◌, ◌⊎◌, inl, inr, ℕ, ◌*◌, ◌==◌, Bool, true, false, ◌++◌, if◌then◌else◌, List, [], ◌∷◌, length, Option, Some, None, refl, sym, ◌∙◌, ap, subst, arith}
use Rattle.std.specs.Option.{option_or}
use Rattle.std.proofs.lemmas.Bool.Decides.{Decides-eqb}
use Rattle.gem_tables.specs.Table.{firing, is_one_of}
use Rattle.gem_tables.specs.declared.firing.Firing.{Firing}
use Rattle.gem_tables.proofs.Rows.{one_of_cases}
use Rattle.gem_ids.specs.declared.numbers.LocId.{LocId}
use Rattle.tool_tasks.specs.declared.task.Command.{Command}
use Rattle.tool_tasks.specs.declared.task.Task.{Task}
use Rattle.tool_tasks.specs.declared.task.Task.TheVariants as task
use Rattle.robot_moves.specs.declared.module.Module.{Module}
use Rattle.robot_moves.specs.declared.module.Module.TheVariants.{Idle, Busy, Down}
use Rattle.robot_moves.specs.Modules.{module_at}
use Rattle.shop_floor.specs.Machines as shop
use Rattle.substrate.specs.Places.{PlaceMap}
use Rattle.floor_model.specs.declared.tracked.Substrate.{Substrate}
use Rattle.floor_model.specs.Floor.{ToolFloor, substrate_numbered}
use Rattle.floor_model.specs.Machines.{floor_starts, floor_fired, floor_least}
use Rattle.floor_model.specs.Modules.{number_named}
use Rattle.floor_model.specs.Signals.{at_module, done_row, at_processed, processed_rows, is_of_aborting, done_processing, at_done, done_processed, done_at, done_rows, closing_at, closing_rows, can_be_lost, lost_at, lost_rows}
use Rattle.floor_model.specs.Substrates.{removed_where}
use Rattle.floor_model.specs.Views.{planned, goes_on}
use Rattle.floor_model.proofs.Tables.{least_floor}
use Rattle.floor_moves.specs.Floor.{arm}
use Rattle.floor_moves.specs.OnePlace.{OnePlace}
use Rattle.floor_moves.proofs.Promised.{one_place}
use Rattle.place_laws.specs.Picture.{picture, loc_of, place_in}
use Rattle.place_laws.specs.Sound.{Sound}
use Rattle.floor_laws.specs.Rows.{one_listed, listed}
use Rattle.floor_laws.specs.Moves.{Picked, Placed, DoneAt, LostAt}
use Rattle.floor_laws.proofs.FloorInputs.{listed_either, listed_starts, done_starts, failed_starts, down_starts}
use Rattle.floor_laws.proofs.ShopTables.{transfer_valid}
use Rattle.floor_laws.proofs.EndAnswers.{module_row_sound}
use Rattle.floor_laws.proofs.EndStepped.{one_place_done}
use Rattle.floor_laws.proofs.GrowRows.{move_same, processing_same}
use Rattle.floor_laws.proofs.GrowTransfer.{Transfers, pick_places, place_places}
use Rattle.floor_laws.proofs.OpenCommands.{Opens, opens_same, opens_then, IsShut, shut_stays, open_given}
use Rattle.floor_laws.proofs.OpenRows.{row_opens}
use Rattle.floor_laws.proofs.OpenClosed.{closing, closed_gone}
use Rattle.floor_laws.proofs.RegFound.{few_substrates}
use Rattle.floor_laws.proofs.EndLost.{lost_places}

-- ---- rows that leave the places

-- a row of a module but that of a transfer that is done
module_still : (m row : ℕ) (f : ToolFloor) → (row == 5) ≡ false → (one_listed (firing 16 m row) f).places ≡ f.places
module_still m row f other = listed_either (λ (g : ToolFloor). g.places ≡ f.places) (firing 16 m row) f (λ starts. move_same row m (planned m f) f other) (λ left. refl)

-- a row of processing but that of `lost`
substrate_still : (n row : ℕ) (f : ToolFloor) → (row == 8) ≡ false → (one_listed (firing 13 n row) f).places ≡ f.places
substrate_still n row f other = listed_either (λ (g : ToolFloor). g.places ≡ f.places) (firing 13 n row) f (λ starts. processing_same row (substrate_numbered n f.substrates) f other) (λ left. refl)

-- the row behind a Process that is done
pub done_still : (n : ℕ) (f : ToolFloor) → (done_processing n f == 8) ≡ false
done_still n f = of (is_of_aborting (substrate_numbered n f.substrates) f) where
  of : (b : Bool) → ((if b then 4 else 3) == 8) ≡ false
  of true = refl
  of false = refl

-- ---- Done

module _ (m : ℕ) (f : ToolFloor) (sound : Sound f) (c : Command) (fetched : Bool) (here : module_at m f.modules ≡ Some (Busy c fetched)) where
  -- where the places are the same, each stays
  all_stay : (g : ToolFloor) → g.places ≡ f.places → DoneAt c f g
  all_stay g same = record { places = λ n. inl (ap (λ (p : PlaceMap). place_in p n) same); given = ap (λ (p : PlaceMap). p.given) same }

  -- a Pick
  transfer_picks : (g : ToolFloor) (sub : List ℕ) (from : LocId) → c.task ≡ task.Pick sub from → Transfers sub (loc_of from) arm f g → DoneAt c f g
  transfer_picks g sub from q t = record { places = λ n. of n (n == t.number) refl; given = t.given } where
    of : (n : ℕ) (b : Bool) → (n == t.number) ≡ b → (place_in g.places n ≡ place_in f.places n) ⊎ (Picked c n f g ⊎ Placed c n f g)
    of n true e =
        subst (λ (k : ℕ). (place_in g.places k ≡ place_in f.places k) ⊎ (Picked c k f g ⊎ Placed c k f g)) (sym ((Decides-eqb n t.number).0 e))
        (inr (inl (record { sub = sub; from = from; task = q; named = t.named; before = t.before; after = t.after })))
    of n false e = inl (t.others n (λ is. let hit = (Decides-eqb n t.number).1 is in cc))

  -- a Place
  transfer_places : (g : ToolFloor) (sub : List ℕ) (to : LocId) → c.task ≡ task.Place sub to → Transfers sub arm (loc_of to) f g → DoneAt c f g
  transfer_places g sub to q t = record { places = λ n. of n (n == t.number) refl; given = t.given } where
    of : (n : ℕ) (b : Bool) → (n == t.number) ≡ b → (place_in g.places n ≡ place_in f.places n) ⊎ (Picked c n f g ⊎ Placed c n f g)
    of n true e =
        subst (λ (k : ℕ). (place_in g.places k ≡ place_in f.places k) ⊎ (Picked c k f g ⊎ Placed c k f g)) (sym ((Decides-eqb n t.number).0 e))
        (inr (inr (record { sub = sub; to = to; task = q; named = t.named; before = t.before; after = t.after })))
    of n false e = inl (t.others n (λ is. let hit = (Decides-eqb n t.number).1 is in cc))

  -- the rows of the task
  abbrev rows_of : Task → List Firing
  rows_of t = at_module (done_row t) m ++ done_processed t f

  -- the row of what was processed
  processed : (o : Option ℕ) (g : ToolFloor) → (listed (at_done o f) g).places ≡ g.places
  processed None g = refl
  processed (Some n) g = by (goes_on (substrate_numbered n f.substrates) f) where
    by : (b : Bool) → (listed (if b then [] else firing 13 n (done_processing n f) ∷ []) g).places ≡ g.places
    by true = refl
    by false = substrate_still n (done_processing n f) g (done_still n f)

  -- each task
  by_task : (t : Task) → c.task ≡ t → DoneAt c f (listed (rows_of t) f)
  by_task (task.Pick sub from) q =
      subst (DoneAt c f) (sym (listed_starts (firing 16 m 5) f (done_starts m f c fetched here (task.Pick sub from) q)))
      (transfer_picks (floor_fired (firing 16 m 5) f) sub from q (pick_places m c fetched f here sound sub from q))
  by_task (task.Place sub to) q =
      subst (DoneAt c f) (sym (listed_starts (firing 16 m 5) f (done_starts m f c fetched here (task.Place sub to) q)))
      (transfer_places (floor_fired (firing 16 m 5) f) sub to q (place_places m c fetched f here sound sub to q))
  by_task (task.Align sub) q = all_stay (listed (rows_of (task.Align sub)) f) (module_still m 6 f refl)
  by_task (task.Process sub recipe) q =
      all_stay (listed (rows_of (task.Process sub recipe)) f) (processed (number_named sub f.places) (one_listed (firing 16 m 7) f) ∙ module_still m 7 f refl)

  -- the rows of Done are those of the task
  done_are : done_rows m f ≡ rows_of c.task
  done_are = ap (λ (o : Option Module). done_at m o f) here

  -- the places behind all rows of Done
  pub done_places : DoneAt c f (listed (done_rows m f) f)
  done_places = subst (λ (xs : List Firing). DoneAt c f (listed xs f)) (sym done_are) (by_task c.task refl)

-- ---- Failed and Down

-- nothing moves
pub closing_places : (row number : ℕ) (f : ToolFloor) → (row == 5) ≡ false → (listed (closing_rows row number f) f).places ≡ f.places
closing_places row number f other = of (module_at number f.modules) where
  one : (o : Option ℕ) (g : ToolFloor) → (listed (at_processed 4 o) g).places ≡ g.places
  one None g = refl
  one (Some n) g = substrate_still n 4 g refl

  processed : (t : Task) (g : ToolFloor) → (listed (processed_rows 4 t f) g).places ≡ g.places
  processed (task.Pick sub from) g = refl
  processed (task.Place sub to) g = refl
  processed (task.Align sub) g = refl
  processed (task.Process sub recipe) g = one (number_named sub f.places) g

  of : (o : Option Module) → (listed (closing_at row number o f) f).places ≡ f.places
  of None = module_still number row f other
  of (Some Idle) = module_still number row f other
  of (Some Down) = module_still number row f other
  of (Some (Busy c fetched)) = processed c.task (one_listed (firing 16 number row) f) ∙ module_still number row f other

-- ---- `lost`

-- the places behind the rows of `lost`
pub lost_listed : (sub : List ℕ) (f : ToolFloor) → Sound f → LostAt sub f (listed (lost_rows sub f) f)
lost_listed sub f sound = of (number_named sub f.places) refl where
  stays : LostAt sub f f
  stays = record { places = λ n. inl refl; given = refl }

  given_same : (o : Option Substrate) → (removed_where o f.places).given ≡ f.places.given
  given_same None = refl
  given_same (Some s) = refl

  goes : (k : ℕ) → lost_rows sub f ≡ firing 13 k 8 ∷ [] → LostAt sub f (floor_fired (firing 13 k 8) f)
  goes k is = record { places = λ n. by n (n == k) refl; given = given_same (substrate_numbered k f.substrates) } where
    w : (number_named sub f.places ≡ Some k) × (place_in (floor_fired (firing 13 k 8) f).places k ≡ None) × ((n : ℕ) → (n ≡ k → ⊥) → place_in (floor_fired (firing 13 k 8) f).places n ≡ place_in f.places n)
    w = lost_places f k sub is sound

    by : (n : ℕ) (b : Bool) → (n == k) ≡ b → (place_in (floor_fired (firing 13 k 8) f).places n ≡ place_in f.places n) ⊎ ((number_named sub f.places ≡ Some n) × (place_in (floor_fired (firing 13 k 8) f).places n ≡ None))
    by n true e =
        subst (λ (i : ℕ). (place_in (floor_fired (firing 13 k 8) f).places i ≡ place_in f.places i) ⊎ ((number_named sub f.places ≡ Some i) × (place_in (floor_fired (firing 13 k 8) f).places i ≡ None))) (sym ((Decides-eqb n k).0 e))
        (inr (w.0, w.1))
    by n false e = inl (w.2 n (λ same. let hit = (Decides-eqb n k).1 same in cc))

  of : (o : Option ℕ) → lost_rows sub f ≡ lost_at o f → LostAt sub f (listed (lost_at o f) f)
  of None e = stays
  of (Some n) e = each (can_be_lost (substrate_numbered n f.substrates) f) e where
    each : (b : Bool) → lost_rows sub f ≡ (if b then firing 13 n 8 ∷ [] else []) → LostAt sub f (listed (if b then firing 13 n 8 ∷ [] else []) f)
    each true is = listed_either (LostAt sub f) (firing 13 n 8) f (λ starts. goes n is) (λ left. stays)
    each false is = stays

-- ---- open commands

-- rows one behind the other open only commands of new numbers
pub opens_listed : (xs : List Firing) (f : ToolFloor) → Opens f (listed xs f)
opens_listed [] f = opens_same f f refl refl
opens_listed (x ∷ xs) f =
    opens_then f (one_listed x f) (listed xs (one_listed x f)) (listed_either (Opens f) x f (λ starts. row_opens x f starts) (λ left. opens_same f f refl refl)) (opens_listed xs (one_listed x f))

module _ (m : ℕ) (f : ToolFloor) (sound : Sound f) (c : Command) (fetched : Bool) (here : module_at m f.modules ≡ Some (Busy c fetched)) where
  -- behind a row that closes the command of the module, and any rows behind it, none of its number is open
  pub closed_then : (row : ℕ) (rest : List Firing) → is_one_of closing row ≡ true → floor_starts (firing 16 m row) f ≡ true → IsShut c.number.0 (listed (firing 16 m row ∷ rest) f)
  closed_then row rest closes starts =
      let g = floor_fired (firing 16 m row) f in
      let before = open_given m c fetched f here sound in
      let more = (row_opens (firing 16 m row) f starts).given in
      subst (λ (h : ToolFloor). IsShut c.number.0 (listed rest h)) (sym (listed_starts (firing 16 m row) f starts))
      (shut_stays g (listed rest g) c.number.0 (opens_listed rest g) (omega (arith, before, more)) (closed_gone m row c fetched f closes here sound))

  -- the row of a task that is done closes it
  done_closes : (t : Task) → is_one_of closing (done_row t) ≡ true
  done_closes (task.Pick sub from) = refl
  done_closes (task.Place sub to) = refl
  done_closes (task.Align sub) = refl
  done_closes (task.Process sub recipe) = refl

  -- so behind all rows of Done, of Failed and of Down
  pub done_shuts : IsShut c.number.0 (listed (done_rows m f) f)
  done_shuts =
      subst (λ (xs : List Firing). IsShut c.number.0 (listed xs f)) (sym (ap (λ (o : Option Module). done_at m o f) here))
      (closed_then (done_row c.task) (done_processed c.task f) (done_closes c.task) (done_starts m f c fetched here c.task refl))

  pub failed_shuts : IsShut c.number.0 (listed (closing_rows 8 m f) f)
  failed_shuts =
      subst (λ (xs : List Firing). IsShut c.number.0 (listed xs f)) (sym (ap (λ (o : Option Module). closing_at 8 m o f) here))
      (closed_then 8 (processed_rows 4 c.task f) refl (failed_starts m f c fetched here))

  pub down_shuts : IsShut c.number.0 (listed (closing_rows 9 m f) f)
  down_shuts =
      subst (λ (xs : List Firing). IsShut c.number.0 (listed xs f)) (sym (ap (λ (o : Option Module). closing_at 9 m o f) here))
      (closed_then 9 (processed_rows 4 c.task f) refl (down_starts m f c fetched here))

-- ---- what follows from what holds

-- each substrate has one place
pub one_place_sound : (f : ToolFloor) → Sound f → OnePlace (picture f)
one_place_sound f sound = one_place (picture f) sound.valid

-- behind the row of a module that an input fires, before another follows
pub one_place_behind : (f : ToolFloor) (m row : ℕ) → floor_starts (firing 16 m row) f ≡ true → is_one_of (5 ∷ 6 ∷ 7 ∷ 8 ∷ 9 ∷ 10 ∷ []) row ≡ true → Sound f → OnePlace (picture (floor_fired (firing 16 m row) f))
one_place_behind f m row starts one sound =
    one_of_cases (λ (r : ℕ). floor_starts (firing 16 m r) f ≡ true → OnePlace (picture (floor_fired (firing 16 m r) f))) (5 ∷ 6 ∷ 7 ∷ 8 ∷ 9 ∷ 10 ∷ []) row (
      kept 5 refl,
      (kept 6 refl, ((λ s. one_place_done f m s sound), (kept 8 refl, (kept 9 refl, (kept 10 refl, tt))))),
    )
    one starts
  where
    kept : (r : ℕ) → is_one_of (5 ∷ 6 ∷ 8 ∷ 9 ∷ 10 ∷ []) r ≡ true → floor_starts (firing 16 m r) f ≡ true → OnePlace (picture (floor_fired (firing 16 m r) f))
    kept r is s = one_place_sound (floor_fired (firing 16 m r) f) (module_row_sound f m r s is sound)

-- behind the first row of a removal
pub one_place_vacated : (port : ℕ) (f : ToolFloor) → floor_starts (firing 4 port 5) f ≡ true → Sound f → OnePlace (picture (floor_fired (firing 4 port 5) f))
one_place_vacated port f starts sound = one_place (picture (floor_fired (firing 4 port 5) f)) (transfer_valid f port 5 starts sound.base sound.valid)

-- where none is ready, none of the load ports and the carriers is
pub shop_rests : (f : ToolFloor) → floor_least f ≡ None → shop.floor_least f.shop ≡ None
shop_rests f e = first (shop.floor_least f.shop) _ (sym (least_floor f) ∙ e) where
  first : (a b : Option Firing) → option_or a b ≡ None → a ≡ None
  first None b e = refl
  first (Some x) b e = absurd (cc)

-- there are at most as many substrates as slots
pub few_sound : (f : ToolFloor) → Sound f → length f.substrates ≤ 25 * length f.shop.ports
few_sound f sound = few_substrates f sound.base sound.valid
