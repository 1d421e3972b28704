-- What holds of the floor of the tool holds as it begins, and is kept by each row that is ready by itself, and by each that an input fires
-- alone.
use Rattle.std.proofs.Common.{◌≡◌, ◌≤◌, ◌⊎◌, inl, inr, ℕ, zero, suc, ◌+◌, ◌==◌, Bool, true, false, not, ◌||◌, List, [], ◌∷◌, length, min, Option, Some, None, refl, sym, ◌∙◌, ap, arith}
use Rattle.std.proofs.Math.Nat.{min-le_left}
use Rattle.std.proofs.lemmas.List.{length-replicate}
use Rattle.gem_tables.specs.Table.{firing, is_one_of}
use Rattle.gem_tables.specs.declared.firing.Firing.{Firing}
use Rattle.gem_tables.proofs.Rows.{ready_row, one_of_cases}
use Rattle.floor_model.proofs.EachTable.{starts_cases, least_cases}
use Rattle.load_port.specs.Ports.{first_ports, most_ports}
use Rattle.load_port.specs.Tables.{transfer_number, transfer_table, association_number, association_table}
use Rattle.carrier.specs.declared.carrier.Carrier.{Carrier}
use Rattle.carrier.specs.Tables.{access_number, accessing_table}
use Rattle.carrier.specs.Carriers.{carrier_numbered}
use Rattle.shop_floor.proofs.Cases.{ready_at_port}
use Rattle.shop_floor.proofs.Keeps.{opening-valid}
use Rattle.robot_moves.specs.declared.module.Module.{Module}
use Rattle.robot_moves.specs.declared.module.Module.TheVariants.{Idle}
use Rattle.robot_moves.specs.declared.view.Move.{Move}
use Rattle.robot_moves.specs.Tables.{move_table, state_number}
use Rattle.robot_moves.specs.Modules.{module_at, state_of}
use Rattle.tool_tasks.specs.declared.recipes.Recipe.{Recipe}
use Rattle.floor_model.specs.Floor.{ToolFloor, opening}
use Rattle.floor_model.specs.Views.{planned}
use Rattle.floor_model.specs.Modules.{move_wants, move_ready}
use Rattle.floor_model.specs.Substrates.{reaches_verified}
use Rattle.floor_model.specs.Wants.{accessing_wants}
use Rattle.floor_model.specs.Machines.{accessing_ready, floor_starts, floor_fired, floor_least}
use Rattle.floor_model.proofs.Keeping.{least_starts}
use Rattle.place_laws.specs.Sound.{Base, Sound}
use Rattle.place_laws.proofs.PortTransfers.{opening-at-ports}
use Rattle.place_laws.proofs.UnloadPorts.{opening-unloading}
use Rattle.picture_laws.proofs.Opening.{opening-keeps}
use Rattle.floor_laws.specs.Rows.{is_common}
use Rattle.floor_laws.proofs.ShopTables.{shop_row_sound}
use Rattle.floor_laws.proofs.RegVerified.{slot_sound}
use Rattle.floor_laws.proofs.EndRows.{transport_sound, processing_sound, processing_ready_sound}
use Rattle.floor_laws.proofs.EndAnswers.{module_row_sound}
use Rattle.floor_laws.proofs.JobProcess.{process_sound}
use Rattle.floor_laws.proofs.JobCreated.{control_sound}
use Rattle.floor_laws.proofs.IssueSound.{issue_sound}
use Rattle.std.proofs.Math.Bool.{or-false}

-- ---- rows that keep what holds wherever they start

-- no row is said to be one that it isn't
not_itself : {P : Type 0} → false ≡ true → P
not_itself e = absurd (cc)

module _ (f : ToolFloor) (sound : Sound f) where
  -- table 9
  slots : (carrier row : ℕ) → floor_starts (firing 9 carrier row) f ≡ true → Sound (floor_fired (firing 9 carrier row) f)
  slots carrier row starts = of (reaches_verified row) refl where
    of : (b : Bool) → reaches_verified row ≡ b → Sound (floor_fired (firing 9 carrier row) f)
    of true is = slot_sound f carrier row is starts sound
    of false is = shop_row_sound (firing 9 carrier row) f starts (ap (λ (b : Bool). not b || false) is) sound

  -- rows 1, 2 and 5 of table 13
  processing : (n row : ℕ) → floor_starts (firing 13 n row) f ≡ true → is_one_of (1 ∷ 2 ∷ 5 ∷ []) row ≡ true → Sound (floor_fired (firing 13 n row) f)
  processing n row starts one =
      one_of_cases (λ (r : ℕ). floor_starts (firing 13 n r) f ≡ true → Sound (floor_fired (firing 13 n r) f)) (1 ∷ 2 ∷ 5 ∷ []) row (
        (λ st. processing_sound f n 1 st refl (λ six. not_itself six) sound),
        ((λ st. processing_sound f n 2 st refl (λ six. not_itself six) sound), ((λ st. processing_sound f n 5 st refl (λ six. not_itself six) sound), tt)),
      )
      one starts

  -- rows 1 to 4 and 10 of table 16
  moves : (m row : ℕ) → floor_starts (firing 16 m row) f ≡ true → is_one_of (1 ∷ 2 ∷ 3 ∷ 4 ∷ 10 ∷ []) row ≡ true → Sound (floor_fired (firing 16 m row) f)
  moves m row starts one =
      one_of_cases (λ (r : ℕ). floor_starts (firing 16 m r) f ≡ true → Sound (floor_fired (firing 16 m r) f)) (1 ∷ 2 ∷ 3 ∷ 4 ∷ 10 ∷ []) row (
        (λ st. issue_sound f m 1 refl st sound),
        (
          (λ st. issue_sound f m 2 refl st sound),
          ((λ st. issue_sound f m 3 refl st sound), ((λ st. issue_sound f m 4 refl st sound), ((λ st. module_row_sound f m 10 st refl sound), tt))),
        ),
      )
      one starts

-- such a row keeps what holds; those of tables 1 to 3 are none of the floor, and don't start there
pub row_sound : (x : Firing) (f : ToolFloor) → floor_starts x f ≡ true → is_common x ≡ true → Sound f → Sound (floor_fired x f)
row_sound x f starts common sound =
    starts_cases (λ (y : Firing). is_common y ≡ true → Sound (floor_fired y f)) f x (record {
      transfer = λ s kind. shop_row_sound (firing 4 x.object x.row.row) f s kind sound;
      access = λ s kind. shop_row_sound (firing 5 x.object x.row.row) f s refl sound;
      reservation = λ s kind. shop_row_sound (firing 6 x.object x.row.row) f s refl sound;
      association = λ s kind. shop_row_sound (firing 7 x.object x.row.row) f s kind sound;
      id = λ s kind. shop_row_sound (firing 8 x.object x.row.row) f s refl sound;
      map = λ s kind. slots f sound x.object x.row.row s;
      accessing = λ s kind. shop_row_sound (firing 10 x.object x.row.row) f s (sym (or-false (not (x.row.row == 4))) ∙ kind) sound;
      location = λ s kind. shop_row_sound (firing 11 x.object x.row.row) f s refl sound;
      transport = λ s kind. transport_sound f x.object x.row.row sound;
      processing = λ s kind. processing f sound x.object x.row.row s (sym (or-false (is_one_of (1 ∷ 2 ∷ 5 ∷ []) x.row.row)) ∙ kind);
      process_job = λ s kind. process_sound f x.object x.row.row s sound;
      control_job = λ s kind. control_sound f x.object x.row.row sound;
      move = λ s kind. moves f sound x.object x.row.row s kind;
    }) starts common

-- ---- rows that are ready by themselves

module _ (f : ToolFloor) (sound : Sound f) where
  -- it is one of those, or keeps what holds
  abbrev Keeps : Firing → Type 0
  Keeps y = (is_common y ≡ true) ⊎ Sound (floor_fired y f)

  -- a row of a table is one of those
  abbrev Common : ℕ → ℕ → ℕ → Type 0
  Common table object row = is_common (firing table object row) ≡ true

  -- so those of table 10 that are ready
  accessing : (object row : ℕ) (o : Option Carrier) → accessing_ready o f ≡ Some row → Common 10 object row
  accessing object row None e = absurd (cc)
  accessing object row (Some c) e = ready_row (Common 10 object) access_number (λ want. accessing_wants want c f) accessing_table row c.states.access ((λ i a w. refl), ((λ i a w. refl), ((λ i a w. refl), ((λ i a w. not_itself i), tt)))) e

  -- and those of table 16
  commands : (object row : ℕ) (plan : Option Move) (o : Option Module) → move_ready plan o ≡ Some row → Common 16 object row
  commands object row plan None e = absurd (cc)
  commands object row plan (Some m) e =
      ready_row (Common 16 object) state_number (λ want. move_wants want plan m) move_table row (state_of m)
      ((λ i a w. refl), ((λ i a w. refl), ((λ i a w. refl), ((λ i a w. refl), ((λ i a w. not_itself i), ((λ i a w. not_itself i), ((λ i a w. not_itself i), ((λ i a w. not_itself i), ((λ i a w. not_itself i), ((λ i a w. not_itself i), tt)))))))))) e

  -- so is the least that is ready
  kind : (x : Firing) → floor_least f ≡ Some x → Keeps x
  kind x e =
      least_cases Keeps f x (record {
        transfer = λ o r s. inl (ready_at_port transfer_number transfer_table (λ s. s.transfer) (λ to s. record s { transfer = to }) (Common 4) f.shop o r (λ place p at. ((λ i a w. not_itself i), ((λ i a w. not_itself i), ((λ i a w. not_itself i), ((λ i a w. refl), ((λ i a w. not_itself i), tt)))))) s);
        access = λ o r s. inl refl;
        reservation = λ o r s. inl refl;
        association = λ o r s. inl (ready_at_port association_number association_table (λ s. s.association) (λ to s. record s { association = to }) (Common 7) f.shop o r (λ place p at. ((λ i a w. not_itself i), ((λ i a w. not_itself i), ((λ i a w. refl), ((λ i a w. refl), ((λ i a w. refl), ((λ i a w. not_itself i), ((λ i a w. refl), tt)))))))) s);
        id = λ o r s. inl refl;
        map = λ o r s. inl refl;
        accessing = λ o r s. inl (accessing o r (carrier_numbered o f.shop.carriers) s);
        location = λ o r s. inl refl;
        transport = λ o r s. inl refl;
        processing = λ o r s. inr (processing_ready_sound f o r s sound);
        process_job = λ o r s. inl refl;
        control_job = λ o r s. inl refl;
        move = λ o r s. inl (commands o r (planned o f) (module_at o f.modules) s);
      }) e

-- the least that is ready keeps what holds
pub least_sound : (x : Firing) (f : ToolFloor) → floor_least f ≡ Some x → Sound f → Sound (floor_fired x f)
least_sound x f e sound = of (kind f sound x e) where
  of : (is_common x ≡ true) ⊎ Sound (floor_fired x f) → Sound (floor_fired x f)
  of (inl common) = row_sound x f (least_starts f x e) common sound
  of (inr all) = all

-- ---- the beginning

-- so many ports
first_length : (n : ℕ) → length (first_ports n) ≡ n
first_length zero = refl
first_length (suc n) = ap suc (first_length n)

-- it holds as the tool begins
pub opening_sound : (ports chambers : ℕ) (recipes : List Recipe) → ports ≤ most_ports → Sound (opening ports chambers recipes)
opening_sound ports chambers recipes few = record { base = base; ports = opening-at-ports ports; unloading = opening-unloading ports; valid = opening-keeps ports chambers recipes } where
  modules : length (opening ports chambers recipes).modules ≤ 2 + chambers
  modules =
      let count : length (opening ports chambers recipes).modules ≡ 2 + min chambers 253 = length-replicate (2 + min chambers 253) Idle in
      let less = min-le_left chambers 253 in
      omega (arith, count, less)

  base : Base (opening ports chambers recipes)
  base = record {
    shop = opening-valid ports few;
    carried = tt;
    registered = tt;
    apart = tt;
    rising = omega arith;
    same_ports = sym (first_length ports);
    modules = modules;
    places = record { named_apart = refl; placed_apart = refl; within = refl; numbered = omega arith; few = omega arith };
    held = tt;
    jobs = record { numbered = omega arith; given = tt; members = tt };
  }
