-- A substrate that is lost has no place in the floor by numbers, and is LOST.
use Rattle.std.proofs.Common.{◌≡◌, ℕ, ◌==◌, if◌then◌else◌, Option, Some, None, refl, sym, ◌∙◌, ap, subst}
use Rattle.gem_tables.specs.Table.{firing, after}
use Rattle.robot_moves.specs.Modules.{module_at}
use Rattle.substrate.specs.Tables.{processing_number, processing_table}
use Rattle.substrate.specs.Places.{ArePlaces, substrate_named, removed}
use Rattle.substrate.specs.declared.record.Processing.{Processing}
use Rattle.substrate.specs.declared.record.Processing.TheVariants as processing
use Rattle.substrate.specs.declared.registered.Registered.{Registered}
use Rattle.floor_model.specs.declared.tracked.Substrate.{Substrate}
use Rattle.floor_model.specs.Floor.{ToolFloor, substrate_numbered}
use Rattle.floor_model.specs.Machines.{substrate_moves, with_moved, floor_fired}
use Rattle.floor_model.specs.Substrates.{removed_where}
use Rattle.floor_moves.specs.Effects.{lost}
use Rattle.floor_moves.specs.Agree.{Agree}
use Rattle.place_laws.specs.Picture.{picture, module_of, of_one}
use Rattle.picture_laws.proofs.Columns.{says_same}
use Rattle.picture_laws.proofs.Rows.{processing_agrees}
use Rattle.picture_laws.proofs.Moving.{among}
use Rattle.picture_laws.proofs.Losing.{taken_among}

-- row 8 ends in LOST, from each state
is_lost : (x : Processing) → processing_number (after processing_number processing_table 8 x) ≡ 6
is_lost processing.NeedsProcessing = refl
is_lost processing.InProcess = refl
is_lost processing.Processed = refl
is_lost processing.Aborted = refl
is_lost processing.Stopped = refl
is_lost processing.Rejected = refl
is_lost processing.Lost = refl
is_lost processing.Skipped = refl

module _ (n : ℕ) (s : Substrate) (found : Registered) (f : ToolFloor) where
  -- the floor behind it, where the substrate is known
  abbrev behind : ToolFloor
  behind = with_moved 13 8 n (record f { places = removed s.sub f.places })

  behind_agrees : ArePlaces f.places → substrate_numbered n f.substrates ≡ Some s → substrate_named s.sub f.places.held ≡ Some found → found.number ≡ n
      → ((m : ℕ) → module_of (module_at m f.modules) (removed s.sub f.places) ≡ module_of (module_at m f.modules) f.places) → Agree (lost n (picture f)) (picture behind)
  behind_agrees places here there is modules =
      let a = processing_agrees f n 8 s here (λ e. absurd (cc)) in
      record {
        substrates = a.substrates;
        next_substrate = refl;
        carrier_of = a.carrier_of;
        port_of = a.port_of;
        slot_of = a.slot_of;
        place_of = λ k. taken_among s.sub 0 f.places.given f.places.held found places.named_apart places.numbered there k ∙ ap (λ (m : ℕ). if k == m then None else among f.places.held k) is;
        processing = λ k e. a.processing k e ∙ ap (λ (x : ℕ). if k == n then x else of_one 0 (λ (t : Substrate). processing_number t.states.processing) (substrate_numbered k f.substrates)) (is_lost s.states.processing);
        is_aligned = a.is_aligned;
        steps_of = λ k _ _. says_same n (substrate_moves 13 8) (λ s. refl) 0 _ (λ s. refl) k f.substrates;
        carriers = refl;
        present_at = λ c. refl;
        is_verified = λ c _. refl;
        access = λ c _. refl;
        jobs = a.jobs;
        chambers = refl;
        equipment = modules;
        next_command = refl;
      }

  pub losing_agrees : ArePlaces f.places → substrate_numbered n f.substrates ≡ Some s → substrate_named s.sub f.places.held ≡ Some found → found.number ≡ n
      → ((m : ℕ) → module_of (module_at m f.modules) (removed s.sub f.places) ≡ module_of (module_at m f.modules) f.places) → Agree (lost n (picture f)) (picture (floor_fired (firing 13 n 8) f))
  losing_agrees places here there is modules =
      subst (λ (o : Option Substrate). Agree (lost n (picture f)) (picture (with_moved 13 8 n (record f { places = removed_where o f.places })))) (sym here)
      (behind_agrees places here there is modules)
