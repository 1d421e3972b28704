-- What holds of the floor at every moment besides what is sound, and the changes that leave it.
use Rattle.std.proofs.Common.{◌≡◌, ℕ, zero, suc, ◌+◌, ◌==◌, Bool, true, false, if◌then◌else◌, List, [], ◌∷◌, ◌++◌, find, map, Option, Some, None, option_map, refl, sym, ◌∙◌, ap, subst, ◌⊎◌, inl, inr, arith}
use Rattle.std.proofs.lemmas.Bool.{true≢false}
use Rattle.std.proofs.lemmas.Bool.Decides.{Decides-eqb}
use Rattle.gem_tables.specs.Table.{after}
use Rattle.gem_ids.specs.declared.numbers.LocId.{LocId}
use Rattle.gem_ids.specs.declared.numbers.LocId.TheVariants.{Slot}
use Rattle.gem_ids.specs.declared.numbers.PortNo.{PortNo}
use Rattle.gem_ids.specs.Names.{name_in_slot}
use Rattle.carrier.specs.declared.carrier.Carrier.{Carrier}
use Rattle.substrate.specs.Tables.{processing_number, processing_table}
use Rattle.substrate.specs.Places.{PlaceMap}
use Rattle.substrate.specs.declared.registered.Registered.{Registered}
use Rattle.substrate.specs.declared.record.Processing.{Processing}
use Rattle.substrate.specs.declared.record.Processing.TheVariants as processing
use Rattle.process_job.specs.declared.job.ProcessJob.{ProcessJob}
use Rattle.tool_jobs.specs.Jobs.{Jobs}
use Rattle.tool_jobs.specs.Together.{AreTogether}
use Rattle.tool_jobs.proofs.Rows.{after_meets}
use Rattle.floor_model.specs.declared.tracked.Substrate.{Substrate}
use Rattle.floor_model.specs.Floor.{ToolFloor, substrate_numbered, change_numbered, number_of}
use Rattle.floor_model.specs.Floor.{RiseTo}
use Rattle.floor_model.specs.Jobs.{job_of}
use Rattle.floor_model.specs.Modules.{stepped}
use Rattle.floor_model.specs.Substrates.{can_register, first_substrate, registers_at, registers_slot, registers_slots, registers_at_port, registers_found}
use Rattle.floor_model.specs.Machines.{substrate_moves}
use Rattle.floor_moves.specs.Floor.{Loc, slot, is_finished}
use Rattle.place_laws.specs.Picture.{loc_of, place_in, of_one}
use Rattle.place_laws.specs.Sound.{Sound}
use Rattle.place_laws.proofs.Holding.{found_among, rising_given}
use Rattle.picture_laws.proofs.Columns.{says_same, found_there, found_else}
use Rattle.floor_laws.proofs.JobChanges.{IsJobAlone, says_map}
use Rattle.floor_laws.proofs.JobSight.{none_some}
use Rattle.floor_laws.proofs.RegMore.{rise_more, found_front}
use Rattle.queue_laws.specs.Started.{AreStarted}
use Rattle.lot_laws.specs.Lot.{InOrder}
use Rattle.lot_laws.proofs.InJobs.{changed-in_jobs}
use Rattle.lot_laws.proofs.Registering.{found_either}

-- ---- by places, substrates and jobs

-- an unfinished substrate in its slot isn't aligned
abbrev pub UnalignedIn : PlaceMap → List Substrate → Type 0
UnalignedIn p ss = (n i k : ℕ) → place_in p n ≡ Some (slot i k) → is_finished (of_one 0 (λ (s : Substrate). processing_number s.states.processing) (substrate_numbered n ss)) ≡ false
    → of_one false (λ (s : Substrate). s.aligned) (substrate_numbered n ss) ≡ false

-- each substrate is in no process job, or in one that is kept
abbrev pub KeptIn : List Substrate → Jobs → Type 0
KeptIn ss w = (n : ℕ) (s : Substrate) → substrate_numbered n ss ≡ Some s → (s.job == 0) ≡ false → (j : ProcessJob) × (job_of s w ≡ Some j)

-- what holds besides what is sound
pub record Ordered (p : PlaceMap) (ss : List Substrate) (w : Jobs) : Type 0 where
  pub together : AreTogether w
  pub started : AreStarted w
  pub unaligned : UnalignedIn p ss
  pub in_jobs : KeptIn ss w

abbrev pub OrderedAt : ToolFloor → Type 0
OrderedAt f = Ordered f.places f.substrates f.jobs

pub to_ordered : (f : ToolFloor) → InOrder f → OrderedAt f
to_ordered f o = record { together = o.together; started = o.started; unaligned = o.unaligned; in_jobs = o.in_jobs }

pub in_order : (f : ToolFloor) → Sound f → OrderedAt f → InOrder f
in_order f sound o = record { sound = sound; together = o.together; started = o.started; unaligned = o.unaligned; in_jobs = o.in_jobs }

-- ---- a substrate changes

-- the change leaves its number, its job, and whether it is aligned; and one that is finished stays so
pub record IsMild (change : Substrate → Substrate) : Type 0 where
  pub number : (s : Substrate) → (change s).number ≡ s.number
  pub job : (s : Substrate) → (change s).job ≡ s.job
  pub aligned : (s : Substrate) → (change s).aligned ≡ s.aligned
  pub finished : (s : Substrate) → is_finished (processing_number s.states.processing) ≡ true → is_finished (processing_number (change s).states.processing) ≡ true

-- so it is behind each row of tables 12 and 13
finished_on : (row : ℕ) (p : Processing) → is_finished (processing_number p) ≡ true → is_finished (processing_number (after processing_number processing_table row p)) ≡ true
finished_on row processing.Processed e = after_meets processing_number (λ (x : Processing). is_finished (processing_number x)) (λ n. false) row processing.Processed processing_table refl refl refl
finished_on row processing.Aborted e = after_meets processing_number (λ (x : Processing). is_finished (processing_number x)) (λ n. false) row processing.Aborted processing_table refl refl refl
finished_on row processing.Stopped e = after_meets processing_number (λ (x : Processing). is_finished (processing_number x)) (λ n. false) row processing.Stopped processing_table refl refl refl
finished_on row processing.Rejected e = after_meets processing_number (λ (x : Processing). is_finished (processing_number x)) (λ n. false) row processing.Rejected processing_table refl refl refl
finished_on row processing.Lost e = after_meets processing_number (λ (x : Processing). is_finished (processing_number x)) (λ n. false) row processing.Lost processing_table refl refl refl
finished_on row processing.Skipped e = after_meets processing_number (λ (x : Processing). is_finished (processing_number x)) (λ n. false) row processing.Skipped processing_table refl refl refl
finished_on row _ e = absurd (true≢false (sym e))

pub transport_mild : (row : ℕ) → IsMild (substrate_moves 12 row)
transport_mild row = record { number = λ s. refl; job = λ s. refl; aligned = λ s. refl; finished = λ s f. f }

pub stepped_mild : IsMild stepped
stepped_mild = record { number = λ s. refl; job = λ s. refl; aligned = λ s. refl; finished = λ s f. f }

pub processing_mild : (row : ℕ) → IsMild (substrate_moves 13 row)
processing_mild row = record { number = λ s. refl; job = λ s. refl; aligned = λ s. refl; finished = λ s f. finished_on row s.states.processing f }

module _ (change : Substrate → Substrate) (mild : IsMild change) (n : ℕ) where
  -- what is unfinished was so
  unfinished_back : (k : ℕ) (ss : List Substrate) → is_finished (of_one 0 (λ (s : Substrate). processing_number s.states.processing) (substrate_numbered k (change_numbered n change ss))) ≡ false
      → is_finished (of_one 0 (λ (s : Substrate). processing_number s.states.processing) (substrate_numbered k ss)) ≡ false
  unfinished_back k ss left = of (k == n) refl where
    back : (o : Option Substrate) → is_finished (of_one 0 (λ (s : Substrate). processing_number s.states.processing) (option_map change o)) ≡ false → is_finished (of_one 0 (λ (s : Substrate). processing_number s.states.processing) o) ≡ false
    back None e = e
    back (Some s) e = by (is_finished (processing_number s.states.processing)) refl where
      by : (b : Bool) → is_finished (processing_number s.states.processing) ≡ b → b ≡ false
      by false q = refl
      by true q = absurd (true≢false (sym (mild.finished s q) ∙ e))

    of : (b : Bool) → (k == n) ≡ b → is_finished (of_one 0 (λ (s : Substrate). processing_number s.states.processing) (substrate_numbered k ss)) ≡ false
    of true q =
        let same : n ≡ k = sym ((Decides-eqb k n).0 q) in
        subst (λ (i : ℕ). is_finished (of_one 0 (λ (s : Substrate). processing_number s.states.processing) (substrate_numbered i ss)) ≡ false) same
        (back (substrate_numbered n ss)
        (sym (ap (λ (o : Option Substrate). is_finished (of_one 0 (λ (s : Substrate). processing_number s.states.processing) o)) (found_there n change mild.number ss))
        ∙ subst (λ (i : ℕ). is_finished (of_one 0 (λ (s : Substrate). processing_number s.states.processing) (substrate_numbered i (change_numbered n change ss))) ≡ false) (sym same) left))
    of false q = sym (ap (λ (o : Option Substrate). is_finished (of_one 0 (λ (s : Substrate). processing_number s.states.processing) o)) (found_else n change mild.number k (λ same. true≢false (sym ((Decides-eqb k n).1 same) ∙ q)) ss)) ∙ left

  pub changed-ordered : (f : ToolFloor) → OrderedAt f → Ordered f.places (change_numbered n change f.substrates) f.jobs
  changed-ordered f o = record {
    together = o.together;
    started = o.started;
    unaligned = λ k i l at left.
        says_same n change mild.number false (λ (s : Substrate). s.aligned) mild.aligned k f.substrates
        ∙ o.unaligned k i l at (unfinished_back k f.substrates left);
    in_jobs = changed-in_jobs f o.in_jobs n change mild.number mild.job;
  }

-- ---- jobs of substrates change

pub mapped-unaligned : (change : Substrate → Substrate) → IsJobAlone change → (p : PlaceMap) (ss : List Substrate) → UnalignedIn p ss → UnalignedIn p (map change ss)
mapped-unaligned change alone p ss u n i k at left =
    says_map change alone false (λ (s : Substrate). s.aligned) (λ s. ap (λ (x : Substrate). x.aligned) (alone s)) n ss
    ∙ u n i k at (sym (ap is_finished (says_map change alone 0 (λ (s : Substrate). processing_number s.states.processing) (λ s. ap (λ (x : Substrate). processing_number x.states.processing) (alone s)) n ss)) ∙ left)

-- ---- substrates are registered

-- the place of a number, with one more
place_either : (n : ℕ) (rs : List Registered) (r : Registered) (l : Loc) → option_map (λ (x : Registered). loc_of x.at) (find (λ (x : Registered). x.number == n) (rs ++ r ∷ [])) ≡ Some l
    → (option_map (λ (x : Registered). loc_of x.at) (find (λ (x : Registered). x.number == n) rs) ≡ Some l) ⊎ (r.number ≡ n)
place_either n [] r l e = of (r.number == n) refl e where
  of : (b : Bool) → (r.number == n) ≡ b → option_map (λ (x : Registered). loc_of x.at) (if b then Some r else None) ≡ Some l → (option_map (λ (x : Registered). loc_of x.at) (find (λ (x : Registered). x.number == n) []) ≡ Some l) ⊎ (r.number ≡ n)
  of true q f = inr ((Decides-eqb r.number n).0 q)
  of false q f = inl f
place_either n (x ∷ xs) r l e = of (x.number == n) e (place_either n xs r l) where
  of : (b : Bool) → option_map (λ (y : Registered). loc_of y.at) (if b then Some x else find (λ (y : Registered). y.number == n) (xs ++ r ∷ [])) ≡ Some l
      → (option_map (λ (y : Registered). loc_of y.at) (find (λ (y : Registered). y.number == n) (xs ++ r ∷ [])) ≡ Some l → (option_map (λ (y : Registered). loc_of y.at) (find (λ (y : Registered). y.number == n) xs) ≡ Some l) ⊎ (r.number ≡ n))
      → (option_map (λ (y : Registered). loc_of y.at) (if b then Some x else find (λ (y : Registered). y.number == n) xs) ≡ Some l) ⊎ (r.number ≡ n)
  of true f later = inl f
  of false f later = later f

-- what holds, where numbers rise
abbrev Rising : ToolFloor → Type 0
Rising f = OrderedAt f × RiseTo 0 f.places.given f.substrates

module _ (sub : List ℕ) (carrier : ℕ) (loc : LocId) (f : ToolFloor) (h : Rising f) where
  abbrev new : Substrate
  new = first_substrate (f.places.given + 1) sub carrier loc

  abbrev place : Registered
  place = record { sub = sub; number = f.places.given + 1; at = loc }

  more-unaligned : UnalignedIn (record f.places { held = f.places.held ++ record { sub = sub; number = f.places.given + 1; at = loc } ∷ []; given = f.places.given + 1 }) (f.substrates ++ first_substrate (f.places.given + 1) sub carrier loc ∷ [])
  more-unaligned n i k at left = of (substrate_numbered n f.substrates) refl where
    was : (s : Substrate) → substrate_numbered n f.substrates ≡ Some s → (place_in f.places n ≡ Some (slot i k)) ⊎ (f.places.given + 1 ≡ n) → of_one false (λ (x : Substrate). x.aligned) (substrate_numbered n (f.substrates ++ first_substrate (f.places.given + 1) sub carrier loc ∷ [])) ≡ false
    was s q (inl before) =
        let there = found_front n f.substrates new s q in
        ap (of_one false (λ (x : Substrate). x.aligned)) (there ∙ sym q)
        ∙ h.0.unaligned n i k before (ap (λ (o : Option Substrate). is_finished (of_one 0 (λ (x : Substrate). processing_number x.states.processing) o)) (q ∙ sym there) ∙ left)
    was s q (inr same) =
        let less = rising_given 0 f.places.given f.substrates n h.1 (found_among number_of n f.substrates s q) in
        absurd (omega (arith, less, same))

    fresh : substrate_numbered n f.substrates ≡ None → (o : Option Substrate) → substrate_numbered n (f.substrates ++ first_substrate (f.places.given + 1) sub carrier loc ∷ []) ≡ o → of_one false (λ (x : Substrate). x.aligned) o ≡ false
    fresh q None g = refl
    fresh q (Some y) g = by (found_either n f.substrates new y g) where
      by : (substrate_numbered n f.substrates ≡ Some y) ⊎ ((new.number ≡ n) × (y ≡ first_substrate (f.places.given + 1) sub carrier loc)) → y.aligned ≡ false
      by (inl r) = none_some y (sym q ∙ r)
      by (inr r) = ap (λ (x : Substrate). x.aligned) r.1

    of : (o : Option Substrate) → substrate_numbered n f.substrates ≡ o → of_one false (λ (x : Substrate). x.aligned) (substrate_numbered n (f.substrates ++ first_substrate (f.places.given + 1) sub carrier loc ∷ [])) ≡ false
    of (Some s) q = was s q (place_either n f.places.held place (slot i k) at)
    of None q = fresh q (substrate_numbered n (f.substrates ++ first_substrate (f.places.given + 1) sub carrier loc ∷ [])) refl

  more-kept : KeptIn (f.substrates ++ first_substrate (f.places.given + 1) sub carrier loc ∷ []) f.jobs
  more-kept n y found some = of (found_either n f.substrates new y found) where
    of : (substrate_numbered n f.substrates ≡ Some y) ⊎ ((new.number ≡ n) × (y ≡ first_substrate (f.places.given + 1) sub carrier loc)) → (j : ProcessJob) × (job_of y f.jobs ≡ Some j)
    of (inl r) = h.0.in_jobs n y r some
    of (inr r) = absurd (true≢false (sym (ap (λ (x : Substrate). x.job == 0) r.1) ∙ some))

  registers_one : Rising (registers_at sub carrier loc f)
  registers_one = of (can_register sub loc f.places) where
    of : (b : Bool) → Rising (if b then record f { places = record f.places { held = f.places.held ++ record { sub = sub; number = f.places.given + 1; at = loc } ∷ []; given = f.places.given + 1 }; substrates = f.substrates ++ first_substrate (f.places.given + 1) sub carrier loc ∷ [] } else f)
    of true = (record { together = h.0.together; started = h.0.started; unaligned = more-unaligned; in_jobs = more-kept }, rise_more 0 f.places.given f.substrates new refl h.1)
    of false = h

registers_in : (c : Carrier) (port : PortNo) (at code : ℕ) (f : ToolFloor) → Rising f → Rising (registers_slot c port at code f)
registers_in c port at code f h = of (code == 3) where
  of : (b : Bool) → Rising (if b then registers_at (name_in_slot c.name at) c.number (Slot port (record { 0 = at })) f else f)
  of true = registers_one (name_in_slot c.name at) c.number (Slot port (record { 0 = at })) f h
  of false = h

registers_all : (c : Carrier) (port : PortNo) (at count : ℕ) (codes : List ℕ) (f : ToolFloor) → Rising f → Rising (registers_slots c port at count codes f)
registers_all c port at zero codes f h = h
registers_all c port at (suc count) [] f h = h
registers_all c port at (suc count) (code ∷ codes) f h = registers_all c port (at + 1) count codes (registers_slot c port at code f) (registers_in c port at code f h)

pub registers-ordered : (o : Option Carrier) (f : ToolFloor) → OrderedAt f → RiseTo 0 f.places.given f.substrates → OrderedAt (registers_found o f)
registers-ordered None f h rising = h
registers-ordered (Some c) f h rising = of c.port where
  of : (p : Option PortNo) → OrderedAt (registers_at_port p c f)
  of None = h
  of (Some port) = (registers_all c port 1 25 c.map f (h, rising)).0
