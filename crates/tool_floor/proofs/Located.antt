-- When no row of a location is ready.
use Rattle.std.proofs.Common.{◌≡◌, ℕ, suc, ◌+◌, ◌==◌, ◌≤◌, ◌<◌, Bool, true, false, not, if◌then◌else◌, cond, List, [], ◌∷◌, length, get_or, map, Option, Some, None, is_some, option_map, IfSome, refl, sym, ap, subst, ◌∙◌, arith}
use Rattle.std.specs.List.{AllByRecursion}
use Rattle.std.specs.Option.{option_or}
use Rattle.std.proofs.lemmas.Bool.{true≢false}
use Rattle.std.proofs.lemmas.Bool.Decides.{nat_tests}
use Rattle.gem_tables.specs.Table.{row_of, firing, first_itself}
use Rattle.gem_tables.specs.Machine.{Machine, first_ready, ready_in, fired_in}
use Rattle.gem_tables.specs.declared.firing.Firing.{Firing}
use Rattle.gem_tables.proofs.Machines.{first_ready_cases}
use Rattle.process_job.specs.Tables.{JobRow, JobEffect, job_table}
use Rattle.process_job.specs.Jobs.{job_numbered}
use Rattle.process_job.specs.Tables as effect
use Rattle.process_job.specs.declared.job.ProcessJob.{ProcessJob}
use Rattle.carrier.specs.Carriers.{carrier_numbered}
use Rattle.carrier.specs.declared.carrier.Carrier.{Carrier}
use Rattle.shop_floor.specs.Floor.{Floor, number_of as carrier_number}
use Rattle.shop_floor.specs.Machines.{floor_least as shop_least}
use Rattle.shop_floor.proofs.Shapes.{of_tables}
use Rattle.substrate.specs.Places.{PlaceMap, is_taken_at}
use Rattle.substrate.specs.Tables.{SubstrateRow, occupancy_number, occupancy_table, transport_number, transport_table, processing_number, processing_table}
use Rattle.substrate.specs.declared.record.Occupancy.{Occupancy}
use Rattle.substrate.specs.declared.record.Occupancy.TheVariants.{Unoccupied, Occupied}
use Rattle.substrate.specs.declared.record.LocationRecord.{LocationRecord}
use Rattle.substrate.specs.declared.record.Processing.{Processing}
use Rattle.floor_model.specs.declared.tracked.Substrate.{Substrate}
use Rattle.floor_model.specs.Floor.{ToolFloor, with_shop, location_at, location_numbers, substrate_numbered, number_of}
use Rattle.floor_model.specs.Jobs.{job_does, found_job_does}
use Rattle.floor_model.specs.Substrates.{found_does, reaches_verified}
use Rattle.floor_model.specs.Machines.{accessing_ready, substrate_ready, location_ready, processing_machine, process_machine, floor_machines, floor_fired, floor_least}
use Rattle.floor_model.specs.Wants.{location_wants}
use Rattle.floor_model.proofs.Scans.{got_at}
use Rattle.floor_model.proofs.Tables.{first_accessing, least_floor, first_process, first_control, first_move, first_of_others, fired_location}
use Rattle.tool_floor.specs.Located.{first_location, first_transport, first_processing, NoSubstrates, NoShop, leaves_places, is_of_shop}

-- ---- it is asked of the places and of the states of the locations alone

ready_same : (f g : ToolFloor) → g.places ≡ f.places → (number : ℕ) (o : Option LocationRecord) → location_ready number o g ≡ location_ready number o f
ready_same f g e number None = refl
ready_same f g e number (Some l) = rw e refl

first_same : (f g : ToolFloor) (ls : List LocationRecord) → g.places ≡ f.places → (numbers : List ℕ) → first_ready 11 (λ number. location_ready number (location_at number ls) g) numbers ≡ first_ready 11 (λ number. location_ready number (location_at number ls) f) numbers
first_same f g ls e [] = refl
first_same f g ls e (n ∷ ns) = rw (ready_same f g e n (location_at n ls), first_same f g ls e ns) refl

-- a floor of the same places and locations
pub record HasPlaces (f g : ToolFloor) : Type 0 where
  pub places : g.places ≡ f.places
  pub locations : g.locations ≡ f.locations

pub still_none : {known : Bool} (f g : ToolFloor) → HasPlaces f g → (known ≡ true → first_location f ≡ None) → known ≡ true → first_location g ≡ None
still_none f g same none is =
    ap (λ (ls : List LocationRecord). first_ready 11 (λ number. location_ready number (location_at number ls) g) (location_numbers 1 ls)) same.locations
    ∙ first_same f g f.locations same.places (location_numbers 1 f.locations)
    ∙ none is

-- ---- those of substrates are asked of all but the load ports and the carriers

module _ (f : ToolFloor) (s : Floor) where
  transport_same : (o : Option Substrate) → substrate_ready transport_number transport_table (λ r. r.transport) o (with_shop s f) ≡ substrate_ready transport_number transport_table (λ r. r.transport) o f
  transport_same None = refl
  transport_same (Some t) = refl

  processing_same : (o : Option Substrate) → substrate_ready processing_number processing_table (λ r. r.processing) o (with_shop s f) ≡ substrate_ready processing_number processing_table (λ r. r.processing) o f
  processing_same None = refl
  processing_same (Some t) = refl

  first_transport_same : (numbers : List ℕ) → first_ready 12 (λ n. ready_in floor_machines 12 n (with_shop s f)) numbers ≡ first_ready 12 (λ n. ready_in floor_machines 12 n f) numbers
  first_transport_same [] = refl
  first_transport_same (n ∷ ns) = ap (λ (r : Option ℕ). option_or (option_map (firing 12 n) r) (first_ready 12 (λ m. ready_in floor_machines 12 m (with_shop s f)) ns)) (transport_same (substrate_numbered n f.substrates))
      ∙ ap (λ (r : Option Firing). option_or (option_map (firing 12 n) (ready_in floor_machines 12 n f)) r) (first_transport_same ns)

  first_processing_same : (numbers : List ℕ) → first_ready 13 (λ n. ready_in floor_machines 13 n (with_shop s f)) numbers ≡ first_ready 13 (λ n. ready_in floor_machines 13 n f) numbers
  first_processing_same [] = refl
  first_processing_same (n ∷ ns) = ap (λ (r : Option ℕ). option_or (option_map (firing 13 n) r) (first_ready 13 (λ m. ready_in floor_machines 13 m (with_shop s f)) ns)) (processing_same (substrate_numbered n f.substrates))
      ∙ ap (λ (r : Option Firing). option_or (option_map (firing 13 n) (ready_in floor_machines 13 n f)) r) (first_processing_same ns)

  pub still_no_substrates : NoSubstrates f → NoSubstrates (with_shop s f)
  still_no_substrates none = record {
    transport = first_transport_same (map number_of f.substrates) ∙ none.transport;
    processing = first_processing_same (map number_of f.substrates) ∙ none.processing;
  }

-- ---- those of carriers are asked of all but the states of the locations

module _ (f : ToolFloor) (ls : List LocationRecord) where
  accessing_same : (o : Option Carrier) → accessing_ready o (record f { locations = ls }) ≡ accessing_ready o f
  accessing_same None = refl
  accessing_same (Some c) = refl

  first_accessing_same : (numbers : List ℕ) → first_ready 10 (λ n. ready_in floor_machines 10 n (record f { locations = ls })) numbers ≡ first_ready 10 (λ n. ready_in floor_machines 10 n f) numbers
  first_accessing_same [] = refl
  first_accessing_same (n ∷ ns) = ap (λ (r : Option ℕ). option_or (option_map (firing 10 n) r) (first_ready 10 (λ m. ready_in floor_machines 10 m (record f { locations = ls })) ns)) (accessing_same (carrier_numbered n f.shop.carriers))
      ∙ ap (λ (r : Option Firing). option_or (option_map (firing 10 n) (ready_in floor_machines 10 n f)) r) (first_accessing_same ns)

  pub still_no_shop : NoShop f → NoShop (record f { locations = ls })
  still_no_shop none = record {
    shop = none.shop;
    accessing = first_accessing_same (map carrier_number f.shop.carriers) ∙ none.accessing;
  }

-- ---- what the least row tells of it

-- a row that is ready is of no later table than this
abbrev Below : ℕ → Option Firing → Type 0
Below table o = (x : Firing) → o ≡ Some x → x.row.table ≤ table

-- what is found is of a later table, or nothing is
abbrev pub IsPast : ℕ → Option Firing → Type 0
IsPast table o = IfSome o (λ x. table < x.row.table)

-- of two searches the first found nothing, where what was found is of a later table than its own
none_first : (table : ℕ) (a rest o : Option Firing) → Below table a → option_or a rest ≡ o → IsPast table o → (a ≡ None) × (rest ≡ o)
none_first table (Some y) rest None low e past = absurd (cc)
none_first table (Some y) rest (Some x) low e past = let is = low x e in absurd (omega (arith, is, past))
none_first table None rest o low e past = (refl, e)

ready_below : (most table : ℕ) (ready : ℕ → Option ℕ) (objects : List ℕ) → table ≤ most → Below most (first_ready table ready objects)
ready_below most table ready objects low x e = first_ready_cases (λ y. y.row.table ≤ most) table ready objects x (λ object row r. low) e

shop_below : (most : ℕ) (s : Floor) → 9 ≤ most → Below most (shop_least s)
shop_below most s l x e = of_tables (λ n. n ≤ most) s x (omega (arith, l), (omega (arith, l), (omega (arith, l), (omega (arith, l), (omega (arith, l), tt))))) e

module _ (f : ToolFloor) (most : ℕ) where
  accessing_below : 10 ≤ most → Below most (first_accessing f)
  accessing_below l = ready_below most 10 (λ carrier. accessing_ready (carrier_numbered carrier f.shop.carriers) f) (map carrier_number f.shop.carriers) l

  location_below : 11 ≤ most → Below most (first_location f)
  location_below l = ready_below most 11 (λ number. location_ready number (location_at number f.locations) f) (location_numbers 1 f.locations) l

  transport_below : 12 ≤ most → Below most (first_transport f)
  transport_below l = ready_below most 12 (λ n. ready_in floor_machines 12 n f) (map number_of f.substrates) l

  processing_below : 13 ≤ most → Below most (first_processing f)
  processing_below l = ready_below most 13 (λ n. ready_in floor_machines 13 n f) (map number_of f.substrates) l

-- the rows of tables from 14 on
abbrev first_late : ToolFloor → Option Firing
first_late f = option_or (first_process f) (option_or (first_control f) (first_move f))

module _ (f : ToolFloor) (o : Option Firing) (e : floor_least f ≡ o) where
  past_accessing : (most : ℕ) → 11 ≤ most → IsPast most o → option_or (first_location f) (option_or (first_transport f) (option_or (first_processing f) (first_late f))) ≡ o
  past_accessing most l past =
      let low : 9 ≤ most = omega (arith, l) in
      let lower : 10 ≤ most = omega (arith, l) in
      let shop = none_first most (shop_least f.shop) (first_of_others f) o (shop_below most f.shop low) (sym (least_floor f) ∙ e) past in
      (none_first most (first_accessing f) (option_or (first_location f) (option_or (first_transport f) (option_or (first_processing f) (first_late f)))) o (accessing_below f most lower) shop.1 past).1

  pub least_tells : IsPast 11 o → first_location f ≡ None
  least_tells past =
      let low : 11 ≤ 11 = omega arith in
      (none_first 11 (first_location f) (option_or (first_transport f) (option_or (first_processing f) (first_late f))) o (location_below f 11 low) (past_accessing 11 low past) past).0

  pub shop_told : IsPast 10 o → NoShop f
  shop_told past =
      let low : 9 ≤ 10 = omega arith in
      let lower : 10 ≤ 10 = omega arith in
      let shop = none_first 10 (shop_least f.shop) (first_of_others f) o (shop_below 10 f.shop low) (sym (least_floor f) ∙ e) past in
      let accessing = none_first 10 (first_accessing f) (option_or (first_location f) (option_or (first_transport f) (option_or (first_processing f) (first_late f)))) o (accessing_below f 10 lower) shop.1 past in
      record { shop = shop.0; accessing = accessing.0 }

  pub substrates_told : IsPast 13 o → NoSubstrates f
  substrates_told past =
      let low : 11 ≤ 13 = omega arith in
      let next : 12 ≤ 13 = omega arith in
      let last : 13 ≤ 13 = omega arith in
      let location = none_first 13 (first_location f) (option_or (first_transport f) (option_or (first_processing f) (first_late f))) o (location_below f 13 low) (past_accessing 13 low past) past in
      let transport = none_first 13 (first_transport f) (option_or (first_processing f) (first_late f)) o (transport_below f 13 next) location.1 past in
      let processing = none_first 13 (first_processing f) (first_late f) o (processing_below f 13 last) transport.1 past in
      record { transport = transport.0; processing = processing.0 }

-- where none was found, there is none
pub least_none : (f : ToolFloor) (o : Option Firing) (none : Bool) → o ≡ floor_least f → is_some o ≡ not none → none ≡ true → floor_least f ≡ None
least_none f None none e t is = sym e
least_none f (Some x) none e t is = absurd (true≢false (t ∙ ap not is))

-- ---- the rows that leave the places and the locations

fired_cases : (P : ToolFloor → Type 0) (f : ToolFloor) (x : Firing) (ms : List (Machine ToolFloor)) → P f → AllByRecursion (λ (m : Machine ToolFloor). (x.row.table == m.table) ≡ true → P (m.fired x.row.row x.object f)) ms → P (fired_in ms x f)
fired_cases P f x [] none all = none
fired_cases P f x (m ∷ ms) none all = by_test (x.row.table == m.table) refl (fired_cases P f x ms none all.1) where
  by_test : (b : Bool) → (x.row.table == m.table) ≡ b → P (fired_in ms x f) → P (cond b (m.fired x.row.row x.object f) (fired_in ms x f))
  by_test true t later = all.0 t
  by_test false t later = later

leaves_at : (table t row : ℕ) → (table == t) ≡ true → leaves_places table row ≡ true → leaves_places t row ≡ true
leaves_at table t row is leaves = let same : table ≡ t = grind (arith, nat_tests, is) in subst (λ (n : ℕ). leaves_places n row ≡ true) same leaves

is_not : (b : Bool) → not b ≡ true → b ≡ false
is_not true e = absurd (true≢false (sym e))
is_not false e = refl

job_leaves : (e : JobEffect) (o : Option ProcessJob) (f : ToolFloor) → HasPlaces f (job_does e o f)
job_leaves effect.no_more o f = record { places = refl; locations = refl }
job_leaves effect.makes_members None f = record { places = refl; locations = refl }
job_leaves effect.makes_members (Some j) f = record { places = refl; locations = refl }
job_leaves effect.ends None f = record { places = refl; locations = refl }
job_leaves effect.ends (Some j) f = record { places = refl; locations = refl }
job_leaves effect.ends_stopped None f = record { places = refl; locations = refl }
job_leaves effect.ends_stopped (Some j) f = record { places = refl; locations = refl }

found_job_leaves : (r : Option JobRow) (o : Option ProcessJob) (f : ToolFloor) → HasPlaces f (found_job_does r o f)
found_job_leaves None o f = record { places = refl; locations = refl }
found_job_leaves (Some r) o f = job_leaves r.does o f

-- a line of table 13 that isn't the loss
substrate_leaves : (rows : List (SubstrateRow Processing)) (row : ℕ) (o : Option Substrate) (f : ToolFloor) → AllByRecursion (λ (r : SubstrateRow Processing). (r.number == 8) ≡ false → HasPlaces f (found_does (Some r) o f)) rows → (row == 8) ≡ false → HasPlaces f (found_does (row_of rows row) o f)
substrate_leaves [] row o f all other = record { places = refl; locations = refl }
substrate_leaves (r ∷ rows) row o f all other = by_test (r.number == row) refl (substrate_leaves rows row o f all.1 other) where
  by_test : (b : Bool) → (r.number == row) ≡ b → HasPlaces f (found_does (row_of rows row) o f) → HasPlaces f (found_does (cond b (Some r) (row_of rows row)) o f)
  by_test true t later = let here : (r.number == 8) ≡ false = grind (arith, nat_tests, t, other) in all.0 here
  by_test false t later = later

same_places : (f : ToolFloor) → HasPlaces f f
same_places f = record { places = refl; locations = refl }

-- what is done besides only in another case
beside_leaves : (b : Bool) (f g : ToolFloor) (s : Floor) → b ≡ false → HasPlaces f (with_shop s (if b then g else f))
beside_leaves true f g s e = absurd (true≢false e)
beside_leaves false f g s e = record { places = refl; locations = refl }

-- a row of table 13 but the loss
processing_leaves : (row object : ℕ) (f : ToolFloor) → (row == 8) ≡ false → HasPlaces f (processing_machine.fired row object f)
processing_leaves row object f other =
    let found = substrate_numbered object f.substrates in
    let kept = substrate_leaves processing_table row found f
    ((λ e. same_places f), ((λ e. same_places f), ((λ e. same_places f), ((λ e. same_places f), ((λ e. same_places f), ((λ e. same_places f), ((λ e. same_places f), ((λ e. absurd (true≢false e)), tt)))))))) other in
    record { places = kept.places; locations = kept.locations }

-- one of table 14
process_leaves : (row object : ℕ) (f : ToolFloor) → HasPlaces f (process_machine.fired row object f)
process_leaves row object f =
    let kept = found_job_leaves (row_of job_table row) (job_numbered object f.jobs.process.kept) f in
    record { places = kept.places; locations = kept.locations }

pub row_leaves : (x : Firing) (f : ToolFloor) → leaves_places x.row.table x.row.row ≡ true → HasPlaces f (floor_fired x f)
row_leaves x f leaves =
    fired_cases (HasPlaces f) f x floor_machines (same_places f) (
      (λ t. record { places = refl; locations = refl }),
      (
        (λ t. record { places = refl; locations = refl }),
        (
          (λ t. record { places = refl; locations = refl }),
          (
            (λ t. beside_leaves (x.row.row == 6) f _ _ (is_not (x.row.row == 6) (leaves_at x.row.table 7 x.row.row t leaves))),
            (
              (λ t. record { places = refl; locations = refl }),
              (
                (λ t. beside_leaves (reaches_verified x.row.row) f _ _ (is_not (reaches_verified x.row.row) (leaves_at x.row.table 9 x.row.row t leaves))),
                (
                  (λ t. record { places = refl; locations = refl }),
                  (
                    (λ t. absurd (true≢false (sym (leaves_at x.row.table 11 x.row.row t leaves)))),
                    (
                      (λ t. record { places = refl; locations = refl }),
                      (
                        (λ t. processing_leaves x.row.row x.object f (is_not (x.row.row == 8) (leaves_at x.row.table 13 x.row.row t leaves))),
                        (
                          (λ t. process_leaves x.row.row x.object f),
                          (
                            (λ t. record { places = refl; locations = refl }),
                            ((λ t. absurd (true≢false (sym (leaves_at x.row.table 16 x.row.row t leaves)))), tt),
                          ),
                        ),
                      ),
                    ),
                  ),
                ),
              ),
            ),
          ),
        ),
      ),
    )

-- ---- the rows that change the load ports and the carriers alone

shop_at : (table t row : ℕ) → (table == t) ≡ true → is_of_shop table row ≡ true → is_of_shop t row ≡ true
shop_at table t row is shop = let same : table ≡ t = grind (arith, nat_tests, is) in subst (λ (n : ℕ). is_of_shop n row ≡ true) same shop

-- all but them stays
abbrev pub IsBeside : ToolFloor → ToolFloor → Type 0
IsBeside f g = g ≡ with_shop g.shop f

beside_stays : (b : Bool) (f g : ToolFloor) (s : Floor) → b ≡ false → IsBeside f (with_shop s (if b then g else f))
beside_stays true f g s e = absurd (true≢false e)
beside_stays false f g s e = refl

pub row_of_shop : (x : Firing) (f : ToolFloor) → is_of_shop x.row.table x.row.row ≡ true → IsBeside f (floor_fired x f)
row_of_shop x f shop =
    fired_cases (IsBeside f) f x floor_machines refl (
      (λ t. refl),
      (
        (λ t. refl),
        (
          (λ t. refl),
          (
            (λ t. beside_stays (x.row.row == 6) f _ _ (is_not (x.row.row == 6) (shop_at x.row.table 7 x.row.row t shop))),
            (
              (λ t. refl),
              (
                (λ t. beside_stays (reaches_verified x.row.row) f _ _ (is_not (reaches_verified x.row.row) (shop_at x.row.table 9 x.row.row t shop))),
                (
                  (λ t. refl),
                  (
                    (λ t. absurd (true≢false (sym (shop_at x.row.table 11 x.row.row t shop)))),
                    (
                      (λ t. absurd (true≢false (sym (shop_at x.row.table 12 x.row.row t shop)))),
                      (
                        (λ t. absurd (true≢false (sym (shop_at x.row.table 13 x.row.row t shop)))),
                        (
                          (λ t. absurd (true≢false (sym (shop_at x.row.table 14 x.row.row t shop)))),
                          (
                            (λ t. absurd (true≢false (sym (shop_at x.row.table 15 x.row.row t shop)))),
                            ((λ t. absurd (true≢false (sym (shop_at x.row.table 16 x.row.row t shop)))), tt),
                          ),
                        ),
                      ),
                    ),
                  ),
                ),
              ),
            ),
          ),
        ),
      ),
    )

-- so none of a substrate is ready behind one, where none was
pub still_none_of : {known : Bool} (f g : ToolFloor) → IsBeside f g → (known ≡ true → NoSubstrates f) → known ≡ true → NoSubstrates g
still_none_of f g beside none is = subst NoSubstrates (sym beside) (still_no_substrates f g.shop (none is))

-- ---- a row that changes the states of the locations alone

-- all but them stays
abbrev pub IsLocated : ToolFloor → ToolFloor → Type 0
IsLocated f g = g ≡ record f { locations = g.locations }

pub row_of_location : (x : Firing) (f : ToolFloor) → (x.row.table == 11) ≡ true → IsLocated f (floor_fired x f)
row_of_location x f is =
    let table : x.row.table ≡ 11 = grind (arith, nat_tests, is) in
    let fired = fired_location x f table in
    fired ∙ ap (λ (ls : List LocationRecord). record f { locations = ls }) (sym (ap (λ (g : ToolFloor). g.locations) fired))

-- so none of the load ports and the carriers is ready behind one, where none was
pub still_none_of_shop : {known : Bool} (f g : ToolFloor) → IsLocated f g → (known ≡ true → NoShop f) → known ≡ true → NoShop g
still_none_of_shop f g located none is = subst NoShop (sym located) (still_no_shop f g.locations (none is))

-- ---- a location whose state is what the places tell

not_not : (b : Bool) → not b ≡ false → b ≡ true
not_not true e = refl
not_not false e = absurd (true≢false e)

at_place : (f : ToolFloor) (place : ℕ) (l : LocationRecord) → place < length f.locations → l ≡ get_or f.locations place l → location_at (place + 1) f.locations ≡ Some l
at_place f place l within is =
    let next : place + 1 ≡ suc place = omega arith in
    ap (λ (n : ℕ). location_at n f.locations) next ∙ got_at f.locations place l within is

unoccupied_rests : (number : ℕ) (p : PlaceMap) → is_taken_at number p ≡ false → first_itself occupancy_number (λ want. location_wants want number p) occupancy_table Unoccupied ≡ None
unoccupied_rests number p free = rw free refl

occupied_rests : (number : ℕ) (p : PlaceMap) → is_taken_at number p ≡ true → first_itself occupancy_number (λ want. location_wants want number p) occupancy_table Occupied ≡ None
occupied_rests number p taken = rw taken refl

module _ (f : ToolFloor) (place : ℕ) (l : LocationRecord) (within : place < length f.locations) (is : l ≡ get_or f.locations place l) where
  pub free_rests : l.occupancy ≡ Unoccupied → is_taken_at (place + 1) f.places ≡ false → location_ready (place + 1) (location_at (place + 1) f.locations) f ≡ None
  free_rests state free =
      ap (λ (o : Option LocationRecord). location_ready (place + 1) o f) (at_place f place l within is)
      ∙ ap (λ (o : Occupancy). first_itself occupancy_number (λ want. location_wants want (place + 1) f.places) occupancy_table o) state
      ∙ unoccupied_rests (place + 1) f.places free

  pub taken_rests : l.occupancy ≡ Occupied → not (is_taken_at (place + 1) f.places) ≡ false → location_ready (place + 1) (location_at (place + 1) f.locations) f ≡ None
  taken_rests state taken =
      ap (λ (o : Option LocationRecord). location_ready (place + 1) o f) (at_place f place l within is)
      ∙ ap (λ (o : Occupancy). first_itself occupancy_number (λ want. location_wants want (place + 1) f.places) occupancy_table o) state
      ∙ occupied_rests (place + 1) f.places (not_not (is_taken_at (place + 1) f.places) taken)
