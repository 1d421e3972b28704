-- The rows of tables 4 to 11 that forget no carrier that is present, and register no substrate, keep what holds.
use Rattle.std.proofs.Common.{◌≡◌, ◌≤◌, ◌⊎◌, inl, inr, ℕ, ◌==◌, Bool, true, false, not, ◌&&◌, ◌||◌, if◌then◌else◌, [], ◌∷◌, Option, Some, None, refl, sym, ◌∙◌, ap, subst, arith}
use Rattle.std.proofs.lemmas.Bool.{true≢false, and_parts, not-true}
use Rattle.std.proofs.lemmas.Bool.Decides.{Decides-eqb}
use Rattle.gem_tables.specs.Table.{firing, is_one_of, is_creation, is_among, row_of, found_starts, after}
use Rattle.gem_tables.specs.declared.firing.Firing.{Firing}
use Rattle.floor_model.proofs.EachTable.{starts_cases}
use Rattle.gem_tables.proofs.Rows.{found_row}
use Rattle.carrier.specs.declared.carrier.Carrier.{Carrier}
use Rattle.carrier.specs.declared.record.Accessing.{Accessing}
use Rattle.carrier.specs.declared.record.Accessing.TheVariants as access
use Rattle.carrier.specs.Tables.{CarrierRow, access_number, accessing_table}
use Rattle.carrier.specs.Carriers as carriers
use Rattle.carrier.specs.Carriers.{carrier_numbered, change_numbered}
use Rattle.shop_floor.specs.Floor.{with_carrier}
use Rattle.shop_floor.specs.Machines as shop
use Rattle.shop_floor.proofs.Keeps.{row-keeps as shop_keeps, accessing-keeps}
use Rattle.floor_model.specs.declared.tracked.Substrate.{Substrate}
use Rattle.floor_model.specs.Floor.{ToolFloor, with_shop}
use Rattle.floor_model.specs.Jobs.{is_any_of_carrier}
use Rattle.floor_model.specs.Machines.{floor_starts, floor_fired, taken_along, accessing_starts}
use Rattle.floor_model.specs.Wants.{accessing_wants, is_quiet, are_back}
use Rattle.floor_model.specs.Substrates.{reaches_verified, without_carrier, registers_found}
use Rattle.shop_floor.specs.Owning.{owner_number}
use Rattle.floor_moves.specs.Valid.{Valid}
use Rattle.place_laws.specs.Picture.{picture, of_one}
use Rattle.place_laws.specs.Sound.{Base, Sound}
use Rattle.place_laws.proofs.Leaving.{Leaves}
use Rattle.place_laws.proofs.ShopRows.{is_gentle, transfer_leaves, mode_leaves, reservation_leaves, association_leaves, id_leaves, map_leaves, accessing_leaves}
use Rattle.place_laws.proofs.PortsKept.{is_plain_row, row-at-ports, carrier-at-ports, states_left}
use Rattle.place_laws.proofs.UnloadRows.{accessing-unloading, row-unloading}
use Rattle.place_laws.proofs.Holding.{kept_there, its_carrier}
use Rattle.floor_laws.proofs.ShopBase.{accessing, StayOpen, shop_valid, shop_sound, location_sound}
use Rattle.floor_laws.proofs.ShopAccess.{SameAccess, found_numbered, stays_open, transfer_access, mode_access, reservation_access, association_access, id_access, map_access}
use Rattle.std.proofs.Math.Bool.{or-false}

-- ---- table 4, also where it is not told what holds of ports: so behind row 5, which removes a carrier

module _ (f : ToolFloor) (port row : ℕ) (starts : floor_starts (firing 4 port row) f ≡ true) (b : Base f) where
  pub transfer_valid : Valid (picture f) → Valid (picture (floor_fired (firing 4 port row) f))
  transfer_valid v =
      let g = shop.floor_fired (firing 4 port row) f.shop in
      shop_valid f g b.carried (transfer_leaves f.substrates f.shop port row).stay (shop_keeps (firing 4 port row) f.shop starts b.shop) (stays_open f g b (transfer_access f.shop port row) v) v

-- ---- table 10

-- behind the row the carrier is NOT ACCESSED or IN ACCESS, or no process job names it
abbrev pub MayAccess : ToolFloor → ℕ → Carrier → Type 0
MayAccess f row c = (accessing (carriers.fires_row 10 row c) ≤ 1) ⊎ (is_any_of_carrier c.name f.jobs ≡ false)

module _ (f : ToolFloor) (sound : Sound f) (n row : ℕ) (c : Carrier) (known : carrier_numbered n f.shop.carriers ≡ Some c) (may : MayAccess f row c) where
  -- the carriers of members stay NOT ACCESSED or IN ACCESS
  accessed_open : StayOpen f (with_carrier n (carriers.fires_row 10 row) f.shop)
  accessed_open k is =
      let h = kept_there f sound.base.carried k (sound.valid.members.kept k is) in
      let which : (picture f).carrier_of k ≡ h.one.carrier = ap (of_one 0 (λ (t : Substrate). t.carrier)) h.found in
      let there = found_numbered n (carriers.fires_row 10 row) (λ d. refl) h.one.carrier h.its f.shop.carriers h.known in
      let now = ap (λ (m : ℕ). of_one 0 accessing (carrier_numbered m (change_numbered n (carriers.fires_row 10 row) f.shop.carriers))) which ∙ ap (of_one 0 accessing) there in
      let before : accessing h.its ≤ 1 = subst (λ (m : ℕ). m ≤ 1) (its_carrier f 0 accessing k h) (sound.valid.members.here k is) in
      let names : is_any_of_carrier h.its.name f.jobs ≡ true = sym (its_carrier f false (λ (x : Carrier). is_any_of_carrier x.name f.jobs) k h) ∙ sound.valid.members.carrier k is in
      subst (λ (m : ℕ). m ≤ 1) (sym now) (of h.one.carrier h.its h.known before names (h.one.carrier == n) refl) where
        its : (d : Carrier) → d ≡ c → is_any_of_carrier d.name f.jobs ≡ true → MayAccess f row c → accessing (carriers.fires_row 10 row d) ≤ 1
        its d same names (inl less) = subst (λ (x : Carrier). accessing (carriers.fires_row 10 row x) ≤ 1) (sym same) less
        its d same names (inr none) = absurd (true≢false (sym names ∙ ap (λ (x : Carrier). is_any_of_carrier x.name f.jobs) same ∙ none))

        of : (m : ℕ) (d : Carrier) → carrier_numbered m f.shop.carriers ≡ Some d → accessing d ≤ 1 → is_any_of_carrier d.name f.jobs ≡ true → (b : Bool) → (m == n) ≡ b → accessing (if b then carriers.fires_row 10 row d else d) ≤ 1
        of m d found before names true e =
            let one : Some d ≡ Some c = sym found ∙ ap (λ (i : ℕ). carrier_numbered i f.shop.carriers) ((Decides-eqb m n).0 e) ∙ known in
            let same : d ≡ c = cc in
            its d same names may
        of m d found before names false e = before

  accessed_sound : Sound (floor_fired (firing 10 n row) f)
  accessed_sound =
      shop_sound f (with_carrier n (carriers.fires_row 10 row) f.shop) (accessing_leaves f.substrates f.shop n row) (accessing-keeps f.shop n row sound.base.shop)
      (carrier-at-ports n (carriers.fires_row 10 row) f.shop (states_left 10 row) sound.ports) (accessing-unloading f.shop n row sound.unloading) accessed_open sound

-- row 4, CancelCarrier of a carrier that no process job names
pub cancel_sound : (f : ToolFloor) (n : ℕ) (c : Carrier) → carrier_numbered n f.shop.carriers ≡ Some c → floor_starts (firing 10 n 4) f ≡ true → is_any_of_carrier c.name f.jobs ≡ false → Sound f → Sound (floor_fired (firing 10 n 4) f)
cancel_sound f n c known starts none sound = accessed_sound f sound n 4 c known (inr none)

-- row 1 ends IN ACCESS
begins : (x : Accessing) → is_among access_number (access.NotAccessed ∷ []) x ≡ true → access_number (after access_number accessing_table 1 x) ≤ 1
begins access.NotAccessed among = omega arith
begins _ among = absurd (cc)

-- no process job names a carrier that is quiet
quiet_unnamed : (c : Carrier) (f : ToolFloor) (b : Bool) → (is_quiet c f && b) ≡ true → is_any_of_carrier c.name f.jobs ≡ false
quiet_unnamed c f b e = not-true _ (and_parts (not (is_any_of_carrier c.name f.jobs)) (are_back c.number f) (and_parts (is_quiet c f) b e).0).0

-- rows 1 to 3
pub may_access : (f : ToolFloor) (row : ℕ) (c : Carrier) → (row == 4) ≡ false → accessing_starts row (Some c) f ≡ true → MayAccess f row c
may_access f row c other starts = of (row_of accessing_table row) refl starts other where
  Kind : CarrierRow Accessing → Type 0
  Kind r = (is_creation r.by || is_among access_number r.from c.states.access) ≡ true → accessing_wants r.wants c f ≡ true → (r.number == 4) ≡ false → MayAccess f r.number c

  of : (o : Option (CarrierRow Accessing)) → row_of accessing_table row ≡ o → found_starts access_number (λ want. accessing_wants want c f) c.states.access o ≡ true → (row == 4) ≡ false → MayAccess f row c
  of None q w not_four = absurd (true≢false (sym w))
  of (Some r) q w not_four =
      let parts = and_parts (is_creation r.by || is_among access_number r.from c.states.access) (accessing_wants r.wants c f) w in
      let here = found_row Kind accessing_table row r (
        (λ among wants four. inl (begins c.states.access among)),
        ((λ among wants four. inr (quiet_unnamed c f _ wants)), ((λ among wants four. inr (quiet_unnamed c f _ wants)), ((λ among wants four. absurd (cc)), tt))),
      ) q in
      subst (λ (m : ℕ). (m == 4) ≡ false → MayAccess f m c) here.1 (here.0 parts.0 parts.1) not_four

accessing_sound : (f : ToolFloor) (n row : ℕ) → (row == 4) ≡ false → floor_starts (firing 10 n row) f ≡ true → Sound f → Sound (floor_fired (firing 10 n row) f)
accessing_sound f n row other starts sound = of (carrier_numbered n f.shop.carriers) refl starts where
  of : (o : Option Carrier) → carrier_numbered n f.shop.carriers ≡ o → accessing_starts row o f ≡ true → Sound (floor_fired (firing 10 n row) f)
  of None known w = absurd (true≢false (sym w))
  of (Some c) known w = accessed_sound f sound n row c known (may_access f row c other w)

-- ---- all of them

-- The row is one of tables 4 to 11, but for these: rows 3 and 5 of table 4, which place and remove a carrier, rows 2 and 6 of table 7,
-- which forget one, the rows of table 9 that reach VERIFIED, and row 4 of table 10, CancelCarrier.
abbrev pub is_shop_row : Firing → Bool
is_shop_row x =
    is_plain_row x
    && (is_one_of (4 ∷ 5 ∷ 6 ∷ 7 ∷ 8 ∷ 11 ∷ []) x.row.table || ((x.row.table == 9) && not (reaches_verified x.row.row) || (x.row.table == 10) && not (x.row.row == 4)))

-- a row of table 7 that takes nothing along
pub takes_none : (row port : ℕ) (f : ToolFloor) → is_gentle row ≡ true → taken_along row port f ≡ f
takes_none row port f gentle = of (row == 6) refl where
  of : (t : Bool) → (row == 6) ≡ t → (if t then without_carrier (owner_number port f.shop) f else f) ≡ f
  of true is =
      let same : row ≡ 6 = (Decides-eqb row 6).0 is in
      absurd (let clash : false ≡ true = sym (ap is_gentle same) ∙ gentle in cc)
  of false is = refl

pub shop_row_sound : (x : Firing) (f : ToolFloor) → floor_starts x f ≡ true → is_shop_row x ≡ true → Sound f → Sound (floor_fired x f)
shop_row_sound x f starts kind sound =
    starts_cases (λ (y : Firing). is_shop_row y ≡ true → Sound (floor_fired y f)) f x (record {
      transfer = λ s kind. by_shop 4 x.object x.row.row s (plain 4 kind) (transfer_leaves f.substrates f.shop x.object x.row.row) (transfer_access f.shop x.object x.row.row);
      access = λ s kind. by_shop 5 x.object x.row.row s (plain 5 kind) (mode_leaves f.substrates f.shop x.object x.row.row) (mode_access f.shop x.object x.row.row);
      reservation = λ s kind. by_shop 6 x.object x.row.row s (plain 6 kind) (reservation_leaves f.substrates f.shop x.object x.row.row) (reservation_access f.shop x.object x.row.row);
      association = λ s kind. association x.object x.row.row s (plain 7 kind);
      id = λ s kind. by_shop 8 x.object x.row.row s refl (id_leaves f.substrates f.shop x.object x.row.row) (id_access f.shop x.object x.row.row);
      map = λ s kind. slots x.object x.row.row s (not-true _ (sym (or-false (not (reaches_verified x.row.row))) ∙ kind));
      accessing = λ s kind. accessing_sound f x.object x.row.row (not-true _ kind) s sound;
      location = λ s kind. location_sound f _ sound;
      transport = λ s kind. absurd (cc);
      processing = λ s kind. absurd (cc);
      process_job = λ s kind. absurd (cc);
      control_job = λ s kind. absurd (cc);
      move = λ s kind. absurd (cc);
    }) starts kind where
      plain : (table : ℕ) → is_shop_row (firing table x.object x.row.row) ≡ true → is_plain_row (firing table x.object x.row.row) ≡ true
      plain table e = (and_parts (is_plain_row (firing table x.object x.row.row)) _ e).0

      by_shop : (table object row : ℕ) → shop.floor_starts (firing table object row) f.shop ≡ true → is_plain_row (firing table object row) ≡ true → Leaves f.substrates f.shop (shop.floor_fired (firing table object row) f.shop)
          → SameAccess f.shop.carriers (shop.floor_fired (firing table object row) f.shop).carriers → Sound (with_shop (shop.floor_fired (firing table object row) f.shop) f)
      by_shop table object row s plain leaves same =
          let g = shop.floor_fired (firing table object row) f.shop in
          shop_sound f g leaves (shop_keeps (firing table object row) f.shop s sound.base.shop) (row-at-ports (firing table object row) f.shop s sound.base.shop plain sound.ports)
          (row-unloading (firing table object row) f.shop s sound.base.shop sound.ports sound.unloading)
          (stays_open f g sound.base same sound.valid) sound

      association : (port row : ℕ) → shop.floor_starts (firing 7 port row) f.shop ≡ true → is_gentle row ≡ true → Sound (floor_fired (firing 7 port row) f)
      association port row s gentle =
          subst (λ (g : ToolFloor). Sound (with_shop (shop.floor_fired (firing 7 port row) f.shop) g)) (sym (takes_none row port f gentle))
          (by_shop 7 port row s gentle (association_leaves f.substrates f.shop port row sound.base.shop sound.ports gentle s) (association_access f.shop port row sound.ports gentle s))

      slots : (carrier row : ℕ) → shop.floor_starts (firing 9 carrier row) f.shop ≡ true → reaches_verified row ≡ false → Sound (floor_fired (firing 9 carrier row) f)
      slots carrier row s reaches =
          subst (λ (t : Bool). Sound (with_shop (shop.floor_fired (firing 9 carrier row) f.shop) (if t then registers_found (carrier_numbered carrier f.shop.carriers) f else f))) (sym reaches)
          (by_shop 9 carrier row s refl (map_leaves f.substrates f.shop carrier row reaches) (map_access f.shop carrier row))
