-- The tables of the load ports and the carriers on the floor of the tool, and those beside them.
use Rattle.std.proofs.Common.{◌≡◌, ℕ, ◌==◌, Bool, true, false, ◌||◌, if◌then◌else◌, List, [], ◌∷◌, map, Option, Some, None, refl, sym, ◌∙◌, ap, subst, arith}
use Rattle.std.specs.Option.{option_or}
use Rattle.std.proofs.lemmas.Bool.Decides.{nat_tests}
use Rattle.gem_tables.specs.Table.{firing, is_one_of}
use Rattle.gem_tables.specs.Machine.{first_ready, least_in}
use Rattle.gem_tables.specs.declared.firing.Firing.{Firing}
use Rattle.gem_tables.proofs.Machines.{none_ready}
use Rattle.carrier.specs.Carriers.{carrier_numbered}
use Rattle.robot_moves.specs.Modules.{module_at}
use Rattle.robot_moves.specs.declared.module.Module.{Module}
use Rattle.robot_moves.specs.declared.module.Module.TheVariants.{Idle, Busy, Down}
use Rattle.shop_floor.specs.Floor.{Floor, numbers_from, number_of as carrier_number}
use Rattle.shop_floor.specs.Machines.{transfer_machine, access_machine, reservation_machine, association_machine, id_machine, map_machine, accessing_machine, floor_starts as shop_starts, floor_fired as shop_fired, creation_rows as shop_creations, floor_least as shop_least, object_name as shop_object}
use Rattle.shop_floor.proofs.Shapes.{no_accessing}
use Rattle.control_job.specs.Jobs.{numbers_of as control_numbers}
use Rattle.tool_jobs.specs.Rows.{control_fired as control_row_fired}
use Rattle.floor_model.specs.Jobs.{process_behind}
use Rattle.floor_model.specs.Floor.{ToolFloor, with_shop, with_jobs, with_module, module_numbers, number_of, location_at, change_location, location_numbers, substrate_numbered}
use Rattle.substrate.specs.Record.{location_fired}
use Rattle.floor_model.specs.Views.{planned}
use Rattle.floor_model.specs.Modules.{move_starts, move_ready}
use Rattle.floor_model.specs.Substrates.{new_rows}
use Rattle.floor_model.specs.Machines.{moved_by, registered_by, accessing_ready, location_ready, location_machine, transport_machine, processing_machine, process_numbers, process_machine, control_machine, move_machine, floor_starts, floor_fired, creation_rows, floor_least, object_name}

-- ---- numbers of tables

or_none : (a b : Bool) → (a || b) ≡ false → (a ≡ false) × (b ≡ false)
or_none true b e = absurd (cc)
or_none false b e = (refl, e)

-- a number that is none of these is not the first of them, nor one of the others
pub none_of : (n : ℕ) (ns : List ℕ) (t : ℕ) → is_one_of (n ∷ ns) t ≡ false → ((t == n) ≡ false) × (is_one_of ns t ≡ false)
none_of n ns t e =
    let parts = or_none (n == t) (is_one_of ns t) e in
    let first = parts.0 in
    (grind (arith, nat_tests, first), parts.1)

-- ---- a row of another table than those that stand beside the load ports and the carriers

-- the tables that find something else than the load ports and the carriers do alone
abbrev pub others : List ℕ
others = 10 ∷ 11 ∷ 12 ∷ 13 ∷ 14 ∷ 15 ∷ 16 ∷ []

-- the tables that do something else
abbrev pub other_effects : List ℕ
other_effects = 7 ∷ 9 ∷ others

module _ (x : Firing) (f : ToolFloor) (other : is_one_of others x.row.table ≡ false) where
  not_10 : ((x.row.table == 10) ≡ false) × (is_one_of (11 ∷ 12 ∷ 13 ∷ 14 ∷ 15 ∷ 16 ∷ []) x.row.table ≡ false)
  not_10 = none_of 10 (11 ∷ 12 ∷ 13 ∷ 14 ∷ 15 ∷ 16 ∷ []) x.row.table other

  not_11 : ((x.row.table == 11) ≡ false) × (is_one_of (12 ∷ 13 ∷ 14 ∷ 15 ∷ 16 ∷ []) x.row.table ≡ false)
  not_11 = none_of 11 (12 ∷ 13 ∷ 14 ∷ 15 ∷ 16 ∷ []) x.row.table not_10.1

  not_12 : ((x.row.table == 12) ≡ false) × (is_one_of (13 ∷ 14 ∷ 15 ∷ 16 ∷ []) x.row.table ≡ false)
  not_12 = none_of 12 (13 ∷ 14 ∷ 15 ∷ 16 ∷ []) x.row.table not_11.1

  not_13 : ((x.row.table == 13) ≡ false) × (is_one_of (14 ∷ 15 ∷ 16 ∷ []) x.row.table ≡ false)
  not_13 = none_of 13 (14 ∷ 15 ∷ 16 ∷ []) x.row.table not_12.1

  not_14 : ((x.row.table == 14) ≡ false) × (is_one_of (15 ∷ 16 ∷ []) x.row.table ≡ false)
  not_14 = none_of 14 (15 ∷ 16 ∷ []) x.row.table not_13.1

  not_15 : ((x.row.table == 15) ≡ false) × (is_one_of (16 ∷ []) x.row.table ≡ false)
  not_15 = none_of 15 (16 ∷ []) x.row.table not_14.1

  not_16 : ((x.row.table == 16) ≡ false) × (is_one_of [] x.row.table ≡ false)
  not_16 = none_of 16 [] x.row.table not_15.1

  -- it starts where it does of the load ports and the carriers
  pub starts_shop : floor_starts x f ≡ shop_starts x f.shop
  starts_shop = rw (not_10.0, not_11.0, not_12.0, not_13.0, not_14.0, not_15.0, not_16.0) refl

module _ (x : Firing) (f : ToolFloor) (other : is_one_of other_effects x.row.table ≡ false) where
  not_7 : ((x.row.table == 7) ≡ false) × (is_one_of (9 ∷ others) x.row.table ≡ false)
  not_7 = none_of 7 (9 ∷ others) x.row.table other

  not_9 : ((x.row.table == 9) ≡ false) × (is_one_of others x.row.table ≡ false)
  not_9 = none_of 9 others x.row.table not_7.1

  pub is_other : is_one_of others x.row.table ≡ false
  is_other = not_9.1

  none_10 : ((x.row.table == 10) ≡ false) × (is_one_of (11 ∷ 12 ∷ 13 ∷ 14 ∷ 15 ∷ 16 ∷ []) x.row.table ≡ false)
  none_10 = none_of 10 (11 ∷ 12 ∷ 13 ∷ 14 ∷ 15 ∷ 16 ∷ []) x.row.table not_9.1

  none_11 : ((x.row.table == 11) ≡ false) × (is_one_of (12 ∷ 13 ∷ 14 ∷ 15 ∷ 16 ∷ []) x.row.table ≡ false)
  none_11 = none_of 11 (12 ∷ 13 ∷ 14 ∷ 15 ∷ 16 ∷ []) x.row.table none_10.1

  none_12 : ((x.row.table == 12) ≡ false) × (is_one_of (13 ∷ 14 ∷ 15 ∷ 16 ∷ []) x.row.table ≡ false)
  none_12 = none_of 12 (13 ∷ 14 ∷ 15 ∷ 16 ∷ []) x.row.table none_11.1

  none_13 : ((x.row.table == 13) ≡ false) × (is_one_of (14 ∷ 15 ∷ 16 ∷ []) x.row.table ≡ false)
  none_13 = none_of 13 (14 ∷ 15 ∷ 16 ∷ []) x.row.table none_12.1

  none_14 : ((x.row.table == 14) ≡ false) × (is_one_of (15 ∷ 16 ∷ []) x.row.table ≡ false)
  none_14 = none_of 14 (15 ∷ 16 ∷ []) x.row.table none_13.1

  none_15 : ((x.row.table == 15) ≡ false) × (is_one_of (16 ∷ []) x.row.table ≡ false)
  none_15 = none_of 15 (16 ∷ []) x.row.table none_14.1

  none_16 : ((x.row.table == 16) ≡ false) × (is_one_of [] x.row.table ≡ false)
  none_16 = none_of 16 [] x.row.table none_15.1

  -- what it does to them is all that it does
  pub fired_shop : floor_fired x f ≡ with_shop (shop_fired x f.shop) f
  fired_shop = rw (not_7.0, not_9.0, none_10.0, none_11.0, none_12.0, none_13.0, none_14.0, none_15.0, none_16.0) (of (x.row.table == 4) (x.row.table == 5) (x.row.table == 6) (x.row.table == 8)) where
    of : (a b c d : Bool) → (if a then with_shop (transfer_machine.fired x.row.row x.object f.shop) f else (if b then with_shop (access_machine.fired x.row.row x.object f.shop) f else (if c then with_shop (reservation_machine.fired x.row.row x.object f.shop) f else (if d then with_shop (id_machine.fired x.row.row x.object f.shop) f else f))))
        ≡ with_shop (if a then transfer_machine.fired x.row.row x.object f.shop else (if b then access_machine.fired x.row.row x.object f.shop else (if c then reservation_machine.fired x.row.row x.object f.shop else (if d then id_machine.fired x.row.row x.object f.shop else f.shop)))) f
    of true b c d = refl
    of false true c d = refl
    of false false true d = refl
    of false false false true = refl
    of false false false false = refl

  pub creates_shop : creation_rows x f ≡ shop_creations x f.shop
  creates_shop = rw (not_7.0, not_9.0, none_10.0, none_11.0, none_12.0, none_13.0, none_14.0, none_15.0, none_16.0) refl

-- ---- a row of one of those tables

module _ (x : Firing) (f : ToolFloor) where
  -- what is true of a row of a table of this number is true of a row whose table has the number
  pub of_table : (n : ℕ) (P : Firing → Type 0) → (x.row.table == n) ≡ true → P (firing n x.object x.row.row) → P x
  of_table n P is here = let same : n ≡ x.row.table = grind (arith, nat_tests, is) in subst (λ (t : ℕ). P (firing t x.object x.row.row)) same here

-- ---- what is ready

none_option : {A : Type 0} (o : Option A) → ((a : A) → o ≡ Some a → o ≡ None) → o ≡ None
none_option None f = refl
none_option (Some a) f = f a refl

or_again : {A : Type 0} (x y z : Option A) → option_or (option_or x y) z ≡ option_or x (option_or y z)
or_again None y z = refl
or_again (Some a) y z = refl

-- the first rows that are ready, of the tables beside the load ports and the carriers
abbrev pub first_accessing : ToolFloor → Option Firing
first_accessing f = first_ready 10 (λ carrier. accessing_ready (carrier_numbered carrier f.shop.carriers) f) (map carrier_number f.shop.carriers)

abbrev pub first_location : ToolFloor → Option Firing
first_location f = first_ready 11 (λ number. location_ready number (location_at number f.locations) f) (location_numbers 1 f.locations)

abbrev pub first_transport : ToolFloor → Option Firing
first_transport f = first_ready 12 (λ n. transport_machine.ready n f) (map number_of f.substrates)

abbrev pub first_processing : ToolFloor → Option Firing
first_processing f = first_ready 13 (λ n. processing_machine.ready n f) (map number_of f.substrates)

abbrev pub first_process : ToolFloor → Option Firing
first_process f = first_ready 14 (λ n. process_machine.ready n f) (process_numbers f.jobs.process.kept)

abbrev pub first_control : ToolFloor → Option Firing
first_control f = first_ready 15 (λ n. control_machine.ready n f) (control_numbers f.jobs.control.jobs)

abbrev pub first_move : ToolFloor → Option Firing
first_move f = first_ready 16 (λ number. move_ready (planned number f) (module_at number f.modules)) (module_numbers 1 f.modules)

abbrev pub first_of_others : ToolFloor → Option Firing
first_of_others f = option_or (first_accessing f) (option_or (first_location f) (option_or (first_transport f) (option_or (first_processing f) (option_or (first_process f) (option_or (first_control f) (first_move f))))))

or_nothing : {A : Type 0} (o : Option A) → option_or o None ≡ o
or_nothing None = refl
or_nothing (Some a) = refl

none_accessing : (s : Floor) → first_ready 10 (λ carrier. accessing_machine.ready carrier s) (map carrier_number s.carriers) ≡ None
none_accessing s =
    none_ready 10 (λ carrier. accessing_machine.ready carrier s) (map carrier_number s.carriers)
    (λ carrier. none_option (accessing_machine.ready carrier s) (λ row e. no_accessing s carrier row e))

-- the least row is that of the load ports and the carriers, and else the first of the others
pub least_floor : (f : ToolFloor) → floor_least f ≡ option_or (shop_least f.shop) (first_of_others f)
least_floor f =
    rw (or_nothing (first_move f), none_accessing f.shop)
    (of (first_ready 4 (λ n. transfer_machine.ready n f.shop) (numbers_from 1 f.shop.ports)) (first_ready 5 (λ n. access_machine.ready n f.shop) (numbers_from 1 f.shop.ports)) (first_ready 6 (λ n. reservation_machine.ready n f.shop) (numbers_from 1 f.shop.ports))
    (first_ready 7 (λ n. association_machine.ready n f.shop) (numbers_from 1 f.shop.ports)) (first_ready 8 (λ n. id_machine.ready n f.shop) (map carrier_number f.shop.carriers)) (first_ready 9 (λ n. map_machine.ready n f.shop) (map carrier_number f.shop.carriers)) (first_of_others f)) where
      of : (a b c d e g rest : Option Firing) → option_or a (option_or b (option_or c (option_or d (option_or e (option_or g rest))))) ≡ option_or (option_or a (option_or b (option_or c (option_or d (option_or e (option_or g (option_or None None))))))) rest
      of (Some x) b c d e g rest = refl
      of None (Some x) c d e g rest = refl
      of None None (Some x) d e g rest = refl
      of None None None (Some x) e g rest = refl
      of None None None None (Some x) g rest = refl
      of None None None None None (Some x) rest = refl
      of None None None None None None rest = refl

-- ---- what rows of the other tables do

module _ (x : Firing) (f : ToolFloor) where
  pub fired_location : x.row.table ≡ 11 → floor_fired x f ≡ record f { locations = change_location x.object (location_fired x.row.row) f.locations }
  fired_location is = subst (λ (t : ℕ). floor_fired (firing t x.object x.row.row) f ≡ record f { locations = change_location x.object (location_fired x.row.row) f.locations }) (sym is) refl

  pub starts_map : x.row.table ≡ 9 → floor_starts x f ≡ true → shop_starts x f.shop ≡ true
  starts_map is e = sym (starts_shop x f (rw is refl)) ∙ e

  pub fired_map : x.row.table ≡ 9 → floor_fired x f ≡ with_shop (shop_fired x f.shop) (registered_by x.row.row x.object f)
  fired_map is = subst (λ (t : ℕ). floor_fired (firing t x.object x.row.row) f ≡ with_shop (shop_fired (firing t x.object x.row.row) f.shop) (registered_by x.row.row x.object f)) (sym is) refl

  pub created_map : x.row.table ≡ 9 → creation_rows x f ≡ new_rows f (registered_by x.row.row x.object f)
  created_map is = subst (λ (t : ℕ). creation_rows (firing t x.object x.row.row) f ≡ new_rows f (registered_by x.row.row x.object f)) (sym is) refl

  pub fired_process : x.row.table ≡ 14 → floor_fired x f ≡ process_behind x.row.row x.object f
  fired_process is = subst (λ (t : ℕ). floor_fired (firing t x.object x.row.row) f ≡ process_behind x.row.row x.object f) (sym is) refl

  pub starts_process : x.row.table ≡ 14 → floor_starts x f ≡ process_machine.starts x.row.row x.object f
  starts_process is = subst (λ (t : ℕ). floor_starts (firing t x.object x.row.row) f ≡ process_machine.starts x.row.row x.object f) (sym is) refl

  pub fired_control : x.row.table ≡ 15 → floor_fired x f ≡ with_jobs (control_row_fired x.row.row x.object f.jobs) f
  fired_control is = subst (λ (t : ℕ). floor_fired (firing t x.object x.row.row) f ≡ with_jobs (control_row_fired x.row.row x.object f.jobs) f) (sym is) refl

  pub starts_control : x.row.table ≡ 15 → floor_starts x f ≡ control_machine.starts x.row.row x.object f
  starts_control is = subst (λ (t : ℕ). floor_starts (firing t x.object x.row.row) f ≡ control_machine.starts x.row.row x.object f) (sym is) refl

  pub fired_move : x.row.table ≡ 16 → floor_fired x f ≡ moved_by x.row.row x.object f
  fired_move is = subst (λ (t : ℕ). floor_fired (firing t x.object x.row.row) f ≡ moved_by x.row.row x.object f) (sym is) refl

  pub starts_move : x.row.table ≡ 16 → floor_starts x f ≡ move_starts x.row.row (planned x.object f) (module_at x.object f.modules)
  starts_move is = subst (λ (t : ℕ). floor_starts (firing t x.object x.row.row) f ≡ move_starts x.row.row (planned x.object f) (module_at x.object f.modules)) (sym is) refl

-- ---- which is the least

module _ (f : ToolFloor) (x : Firing) where
  pub least_first : shop_least f.shop ≡ Some x → Some x ≡ floor_least f
  least_first e = sym (least_floor f ∙ ap (λ (o : Option Firing). option_or o (first_of_others f)) e)

  pub least_second : shop_least f.shop ≡ None → first_accessing f ≡ Some x → Some x ≡ floor_least f
  least_second e a = sym (least_floor f ∙ rw (e, a) refl)

  pub least_third : shop_least f.shop ≡ None → first_accessing f ≡ None → first_location f ≡ Some x → Some x ≡ floor_least f
  least_third e a l = sym (least_floor f ∙ rw (e, a, l) refl)

  pub least_fourth : shop_least f.shop ≡ None → first_accessing f ≡ None → first_location f ≡ None → first_transport f ≡ Some x → Some x ≡ floor_least f
  least_fourth e a l t = sym (least_floor f ∙ rw (e, a, l, t) refl)

module _ (f : ToolFloor) (x : Firing) (e : shop_least f.shop ≡ None) (a : first_accessing f ≡ None) (l : first_location f ≡ None) (t : first_transport f ≡ None) where
  pub least_fifth : first_processing f ≡ Some x → Some x ≡ floor_least f
  least_fifth p = sym (least_floor f ∙ rw (e, a, l, t, p) refl)

  pub least_sixth : first_processing f ≡ None → first_process f ≡ Some x → Some x ≡ floor_least f
  least_sixth p j = sym (least_floor f ∙ rw (e, a, l, t, p, j) refl)

  pub least_seventh : first_processing f ≡ None → first_process f ≡ None → first_control f ≡ Some x → Some x ≡ floor_least f
  least_seventh p j c = sym (least_floor f ∙ rw (e, a, l, t, p, j, c) refl)

pub least_last : (f : ToolFloor) → shop_least f.shop ≡ None → first_accessing f ≡ None → first_location f ≡ None → first_transport f ≡ None → first_processing f ≡ None → first_process f ≡ None → first_control f ≡ None → first_move f ≡ floor_least f
least_last f e a l t p j c = sym (least_floor f ∙ rw (e, a, l, t, p, j, c) refl)
