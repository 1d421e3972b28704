-- A registration does to the floor by numbers what the laws have.
use Rattle.std.proofs.Common.{◌≡◌, ℕ, ◌+◌, ◌==◌, Bool, true, false, if◌then◌else◌, List, [], ◌∷◌, ◌++◌, find, map, Option, Some, None, option_map, refl, sym, ◌∙◌, ap, subst}
use Rattle.std.proofs.lemmas.Bool.Decides.{Decides-eqb}
use Rattle.gem_tables.specs.Table.{is_one_of}
use Rattle.gem_ids.specs.declared.numbers.LocId.TheVariants.{Slot}
use Rattle.gem_ids.specs.declared.numbers.PortNo.{PortNo}
use Rattle.gem_ids.specs.declared.numbers.SlotNo.{SlotNo}
use Rattle.robot_moves.specs.Modules.{module_at}
use Rattle.substrate.specs.Places.{registered as registered_there}
use Rattle.substrate.specs.declared.registered.Registered.{Registered}
use Rattle.floor_model.specs.declared.tracked.Substrate.{Substrate}
use Rattle.floor_model.specs.Floor.{ToolFloor, substrate_numbered, number_of}
use Rattle.floor_model.specs.Substrates.{first_substrate}
use Rattle.floor_moves.specs.Floor.{Loc}
use Rattle.floor_moves.specs.Carriers.{registered}
use Rattle.floor_moves.specs.Agree.{Agree}
use Rattle.process_job.specs.Jobs.{job_numbered, recipe_named}
use Rattle.process_job.specs.declared.job.ProcessJob.{ProcessJob}
use Rattle.floor_model.specs.Jobs.{is_processing, is_stopping, is_aborting}
use Rattle.place_laws.specs.Picture.{picture, loc_of, place_in, module_of, of_one, of_job, is_complete, steps_in}
use Rattle.picture_laws.proofs.Columns.{unknown_none}
use Rattle.place_laws.proofs.Appended.{numbers_on, says_on}

-- a place, where one is given
of_place : (o : Option Registered) → option_map (λ (r : Registered). loc_of r.at) o ≡ of_one None (λ (r : Registered). Some (loc_of r.at)) o
of_place None = refl
of_place (Some r) = refl

module _ (sub : List ℕ) (carrier : ℕ) (port : PortNo) (slot : SlotNo) (f : ToolFloor) where
  -- the floor with the substrate
  abbrev pub behind : ToolFloor
  behind = record f {
    places = registered_there sub (Slot port slot) f.places;
    substrates = f.substrates ++ first_substrate (f.places.given + 1) sub carrier (Slot port slot) ∷ [];
  }

  abbrev new : Substrate
  new = first_substrate (f.places.given + 1) sub carrier (Slot port slot)

  abbrev new_place : Registered
  new_place = record { sub = sub; number = f.places.given + 1; at = Slot port slot }

  pub registering_agrees :
      is_one_of (map number_of f.substrates) (f.places.given + 1) ≡ false
      → is_one_of (map (λ (r : Registered). r.number) f.places.held) (f.places.given + 1) ≡ false
      → job_numbered 0 f.jobs.process.kept ≡ None
      → ((m : ℕ) → module_of (module_at m f.modules) (registered_there sub (Slot port slot) f.places) ≡ module_of (module_at m f.modules) f.places)
      → Agree (registered carrier port.0 slot.0 (picture f)) (picture behind)
  registering_agrees none unplaced no_job modules = record {
    substrates = numbers_on number_of f.substrates new;
    next_substrate = refl;
    carrier_of = λ k _. says_on number_of 0 _ f.substrates new _ refl none k;
    port_of = λ k _. says_on number_of 0 _ f.substrates new _ refl none k;
    slot_of = λ k _. says_on number_of 0 _ f.substrates new _ refl none k;
    place_of = λ k. place k;
    processing = λ k _. says_on number_of 0 _ f.substrates new _ refl none k;
    is_aligned = λ k _. says_on number_of false _ f.substrates new _ refl none k;
    steps_of = λ k _ _. says_on number_of 0 _ f.substrates new _ refl none k;
    carriers = refl;
    present_at = λ c. refl;
    is_verified = λ c _. refl;
    access = λ c _. refl;
    jobs = record {
      is_member = λ k. in_none false (λ j. true) k;
      may_start = λ k. in_none false (λ j. is_processing j.states.state) k;
      is_stopping = λ k. in_none false (λ j. is_stopping j.states.state) k;
      is_aborting = λ k. in_none false (λ j. is_aborting j.states.state) k;
      is_complete = λ k. in_none false (λ j. is_complete j.states.state) k;
      route_of = λ k. in_none [] (λ j. steps_in (recipe_named j.recipe f.jobs.process.recipes)) k;
      names_carrier = λ c p here. refl;
      is_marked = λ c p here. refl;
    };
    chambers = refl;
    equipment = modules;
    next_command = refl;
  } where
    -- the new one is in no job
    in_none : {B : Type 0} (else_ : B) (says : ProcessJob → B) (k : ℕ) → of_one else_ (of_job else_ says f.jobs) (substrate_numbered k (f.substrates ++ new ∷ [])) ≡ of_one else_ (of_job else_ says f.jobs) (substrate_numbered k f.substrates)
    in_none else_ says k = says_on number_of else_ (of_job else_ says f.jobs) f.substrates new _ refl none k ∙ by (k == f.places.given + 1) refl where
      by : (b : Bool) → (k == f.places.given + 1) ≡ b → (if b then of_job else_ says f.jobs new else of_one else_ (of_job else_ says f.jobs) (substrate_numbered k f.substrates)) ≡ of_one else_ (of_job else_ says f.jobs) (substrate_numbered k f.substrates)
      by true e =
          let gone : substrate_numbered k f.substrates ≡ None = subst (λ (m : ℕ). substrate_numbered m f.substrates ≡ None) (sym ((Decides-eqb k (f.places.given + 1)).0 e)) (unknown_none (f.places.given + 1) f.substrates none) in
          ap (of_one else_ says) no_job ∙ sym (ap (of_one else_ (of_job else_ says f.jobs)) gone)
      by false e = refl

    place : (k : ℕ) → place_in (registered_there sub (Slot port slot) f.places) k ≡ (if k == f.places.given + 1 then Some (loc_of (Slot port slot)) else place_in f.places k)
    place k =
        of_place (find (λ (r : Registered). r.number == k) (f.places.held ++ new_place ∷ []))
        ∙ says_on (λ (r : Registered). r.number) None (λ (r : Registered). Some (loc_of r.at)) f.places.held new_place _ refl unplaced k
        ∙ ap (λ (o : Option Loc). if k == f.places.given + 1 then Some (loc_of (Slot port slot)) else o) (sym (of_place (find (λ (r : Registered). r.number == k) f.places.held)))
