-- Rows of one substrate or one location keep what holds.
use Rattle.std.proofs.Common.{◌≡◌, ℕ, ◌+◌, ◌==◌, Bool, true, false, if◌then◌else◌, Some, refl, sym, ◌∙◌, ap}
use Rattle.std.proofs.lemmas.Bool.{true≢false}
use Rattle.std.proofs.lemmas.Bool.Decides.{Decides-eqb}
use Rattle.gem_tables.specs.Table.{after}
use Rattle.substrate.specs.Tables.{processing_number, processing_table}
use Rattle.substrate.specs.declared.record.Processing.{Processing}
use Rattle.substrate.specs.declared.record.Processing.TheVariants.{InProcess}
use Rattle.floor_model.specs.declared.tracked.Substrate.{Substrate}
use Rattle.floor_model.specs.Floor.{ToolFloor, substrate_numbered}
use Rattle.floor_model.specs.Machines.{steps_behind, substrate_moves, with_moved}
use Rattle.floor_model.specs.Modules.{one_more}
use Rattle.floor_moves.specs.Floor.{is_finished}
use Rattle.floor_moves.specs.Effects.{worked, processed}
use Rattle.floor_moves.specs.Agree.{Agree}
use Rattle.floor_moves.specs.Valid.{Valid}
use Rattle.floor_moves.proofs.Agreeing.{agree-keeps}
use Rattle.place_laws.specs.Picture.{picture}
use Rattle.place_laws.proofs.Routes.{steps_is}
use Rattle.picture_laws.proofs.JobViews.{substrates_alike}
use Rattle.picture_laws.proofs.Columns.{numbers_same, says_same, says_new}

-- the number of the state of processing behind a row
abbrev state_behind : ℕ → Substrate → ℕ
state_behind row s = processing_number (after processing_number processing_table row s.states.processing)

module _ (f : ToolFloor) (n row : ℕ) where
  -- table 12: nothing that holds looks at transport
  pub transport_agrees : Agree (picture f) (picture (with_moved 12 row n f))
  transport_agrees = record {
    substrates = numbers_same n (substrate_moves 12 row) (λ s. refl) f.substrates;
    next_substrate = refl;
    carrier_of = λ k _. says_same n (substrate_moves 12 row) (λ s. refl) 0 _ (λ s. refl) k f.substrates;
    port_of = λ k _. says_same n (substrate_moves 12 row) (λ s. refl) 0 _ (λ s. refl) k f.substrates;
    slot_of = λ k _. says_same n (substrate_moves 12 row) (λ s. refl) 0 _ (λ s. refl) k f.substrates;
    place_of = λ k. refl;
    processing = λ k _. says_same n (substrate_moves 12 row) (λ s. refl) 0 _ (λ s. refl) k f.substrates;
    is_aligned = λ k _. says_same n (substrate_moves 12 row) (λ s. refl) false _ (λ s. refl) k f.substrates;
    steps_of = λ k _ _. says_same n (substrate_moves 12 row) (λ s. refl) 0 _ (λ s. refl) k f.substrates;
    carriers = refl;
    present_at = λ c. refl;
    is_verified = λ c _. refl;
    access = λ c _. refl;
    jobs = substrates_alike _ f.jobs f.shop.carriers f.substrates _ (λ B else_ says k. says_same n (substrate_moves 12 row) (λ s. refl) else_ (λ s. says s.job) (λ s. refl) k f.substrates);
    chambers = refl;
    equipment = λ m. refl;
    next_command = refl;
  }

  pub transport-keeps : Valid (picture f) → Valid (picture (with_moved 12 row n f))
  transport-keeps v = agree-keeps _ _ transport_agrees v

  -- table 13: the state of processing is that behind the row, where row 3, which counts a step, finishes
  pub processing_agrees : (s : Substrate) → substrate_numbered n f.substrates ≡ Some s → ((row == 3) ≡ true → is_finished (state_behind row s) ≡ true) → Agree (worked n (state_behind row s) (picture f)) (picture (with_moved 13 row n f))
  processing_agrees s found finishes = record {
    substrates = numbers_same n (substrate_moves 13 row) (λ s. refl) f.substrates;
    next_substrate = refl;
    carrier_of = λ k _. says_same n (substrate_moves 13 row) (λ s. refl) 0 _ (λ s. refl) k f.substrates;
    port_of = λ k _. says_same n (substrate_moves 13 row) (λ s. refl) 0 _ (λ s. refl) k f.substrates;
    slot_of = λ k _. says_same n (substrate_moves 13 row) (λ s. refl) 0 _ (λ s. refl) k f.substrates;
    place_of = λ k. refl;
    processing = λ k _. says_new n (substrate_moves 13 row) (λ s. refl) 0 _ s k f.substrates found;
    is_aligned = λ k _. says_same n (substrate_moves 13 row) (λ s. refl) false _ (λ s. refl) k f.substrates;
    steps_of = λ k _ unfinished. says_new n (substrate_moves 13 row) (λ s. refl) 0 _ s k f.substrates found ∙ uncounted k (k == n) refl unfinished;
    carriers = refl;
    present_at = λ c. refl;
    is_verified = λ c _. refl;
    access = λ c _. refl;
    jobs = substrates_alike _ f.jobs f.shop.carriers f.substrates _ (λ B else_ says k. says_same n (substrate_moves 13 row) (λ s. refl) else_ (λ s. says s.job) (λ s. refl) k f.substrates);
    chambers = refl;
    equipment = λ m. refl;
    next_command = refl;
  } where
    -- no step is counted of one that is unfinished
    same_steps : (b : Bool) → (row == 3) ≡ b → is_finished (state_behind row s) ≡ false → steps_behind 13 row s.steps ≡ (picture f).steps_of n
    same_steps true e unfinished = absurd (true≢false (sym (finishes e) ∙ unfinished))
    same_steps false e unfinished = ap (λ (b : Bool). if b then one_more s.steps else s.steps) e ∙ sym (steps_is f n s found)

    uncounted : (k : ℕ) (b : Bool) → (k == n) ≡ b → is_finished (if b then state_behind row s else (picture f).processing k) ≡ false → (if b then steps_behind 13 row s.steps else (picture f).steps_of k) ≡ (picture f).steps_of k
    uncounted k true e unfinished = same_steps (row == 3) refl unfinished ∙ ap (picture f).steps_of (sym ((Decides-eqb k n).0 e))
    uncounted k false e unfinished = refl

-- row 3 of one that is IN PROCESS: the last step is done, and it is PROCESSED
pub last_agrees : (f : ToolFloor) (n : ℕ) (s : Substrate) → substrate_numbered n f.substrates ≡ Some s → s.states.processing ≡ InProcess → Agree (processed n (picture f)) (picture (with_moved 13 3 n f))
last_agrees f n s found running =
    let a = processing_agrees f n 3 s found (λ e. ap is_finished done) in
    record {
      substrates = a.substrates;
      next_substrate = refl;
      carrier_of = a.carrier_of;
      port_of = a.port_of;
      slot_of = a.slot_of;
      place_of = λ k. refl;
      processing = λ k kept. a.processing k kept ∙ ap (λ (i : ℕ). if k == n then i else (picture f).processing k) done;
      is_aligned = a.is_aligned;
      steps_of = λ k kept unfinished. other k (k == n) unfinished (a.steps_of k kept);
      carriers = refl;
      present_at = λ c. refl;
      is_verified = λ c _. refl;
      access = λ c _. refl;
      jobs = a.jobs;
      chambers = refl;
      equipment = λ m. refl;
      next_command = refl;
    }
  where
    done : state_behind 3 s ≡ 2
    done = ap (λ (p : Processing). processing_number (after processing_number processing_table 3 p)) running

    -- another than this one is unfinished
    other : (k : ℕ) (b : Bool) → is_finished (if b then 2 else (picture f).processing k) ≡ false → (is_finished (if b then state_behind 3 s else (picture f).processing k) ≡ false → (picture (with_moved 13 3 n f)).steps_of k ≡ (picture f).steps_of k)
        → (picture (with_moved 13 3 n f)).steps_of k ≡ (if b then (picture f).steps_of n + 1 else (picture f).steps_of k)
    other k true unfinished same = absurd (cc)
    other k false unfinished same = same unfinished
