-- The least row that is ready by itself leaves the control job as it is and as much owed, or it is its completion, where none is owed.
use Rattle.std.proofs.Common.{◌≡◌, ℕ, ◌==◌, Bool, true, false, cond, not, ◌||◌, List, [], ◌∷◌, Option, Some, None, refl, sym, ◌∙◌, ap, subst, ◌⊎◌, inl, inr}
use Rattle.std.proofs.lemmas.Bool.{true≢false, and_parts}
use Rattle.std.proofs.lemmas.Bool.Decides.{Decides-eqb}
use Rattle.gem_tables.specs.Table.{firing, is_one_of}
use Rattle.gem_tables.specs.declared.firing.Firing.{Firing}
use Rattle.gem_tables.proofs.Rows.{ready_row, one_of_cases}
use Rattle.floor_model.proofs.EachTable.{least_cases}
use Rattle.load_port.specs.Tables.{transfer_number, transfer_table, association_number, association_table}
use Rattle.carrier.specs.declared.carrier.Carrier.{Carrier}
use Rattle.carrier.specs.Tables.{access_number, accessing_table}
use Rattle.carrier.specs.Carriers.{carrier_numbered}
use Rattle.shop_floor.proofs.Cases.{ready_at_port}
use Rattle.substrate.specs.Tables.{transport_number, transport_table}
use Rattle.robot_moves.specs.declared.module.Module.{Module}
use Rattle.robot_moves.specs.declared.view.Move.{Move}
use Rattle.robot_moves.specs.Tables.{move_table, state_number}
use Rattle.robot_moves.specs.Modules.{module_at, state_of}
use Rattle.process_job.specs.Jobs.{job_numbered as process_numbered}
use Rattle.process_job.specs.declared.job.ProcessJob.{ProcessJob}
use Rattle.control_job.specs.Jobs.{job_numbered as control_numbered}
use Rattle.control_job.specs.declared.job.ControlJob.{ControlJob}
use Rattle.tool_jobs.specs.Rows.{process_ready, control_ready}
use Rattle.tool_jobs.specs.Together.{AreTogether}
use Rattle.tool_jobs.proofs.Falls.{process_ready_starts}
use Rattle.floor_model.specs.declared.tracked.Substrate.{Substrate}
use Rattle.floor_model.specs.Floor.{ToolFloor, substrate_numbered}
use Rattle.floor_model.specs.Jobs.{sight, found_sight, is_first_here}
use Rattle.floor_model.specs.Views.{planned as plan_of}
use Rattle.floor_model.specs.Modules.{move_wants, move_ready}
use Rattle.floor_model.specs.Substrates.{is_outside, reaches_verified}
use Rattle.floor_model.specs.Wants.{accessing_wants, substrate_wants}
use Rattle.floor_model.specs.Machines.{accessing_ready, substrate_ready, floor_starts, floor_fired, floor_least}
use Rattle.floor_model.proofs.Keeping.{least_starts}
use Rattle.place_laws.specs.Picture.{picture}
use Rattle.place_laws.specs.Sound.{Sound}
use Rattle.floor_laws.proofs.ShopTables.{is_shop_row}
use Rattle.floor_laws.proofs.JobSight.{none_some, some_same}
use Rattle.owed_laws.specs.Owed.{owed_to}
use Rattle.queue_laws.specs.Started.{AreStarted}
use Rattle.queue_laws.specs.Steers.{has_none_left, disturbs_process}
use Rattle.queue_laws.proofs.Steering.{process-ready, control-ready, completes}
use Rattle.lot_laws.specs.Lot.{Executes, is_registration}
use Rattle.lot_laws.proofs.Controls.{completion_owes_none}
use Rattle.lot_laws.proofs.Processes.{process-executes}
use Rattle.lot_laws.proofs.Issuing.{issue-executes}
use Rattle.lot_laws.proofs.Substrates.{transport-executes}
use Rattle.lot_laws.proofs.Working.{processing-executes}
use Rattle.lot_laws.proofs.Shops.{shop_row-executes}
use Rattle.lot_laws.proofs.Registering.{registration-executes}

not_itself : {P : Type 0} → false ≡ true → P
not_itself e = absurd (cc)

module _ (number : ℕ) (planned : ℕ → List (List ℕ)) (counted : ℕ → Bool) (f : ToolFloor) (h : Sound f) (t : AreTogether f.jobs) (s : AreStarted f.jobs) (e : Executes number planned counted f) where
  -- what is so behind a row, or of it
  abbrev pub Goes : Firing → Type 0
  Goes x = (Executes number planned counted (floor_fired x f) × (owed_to planned counted (picture (floor_fired x f)) ≡ owed_to planned counted (picture f))) ⊎ ((x ≡ firing 15 number 8) × (owed_to planned counted (picture f) ≡ 0))

  abbrev Kind : Firing → Type 0
  Kind x = (is_shop_row x ≡ true) ⊎ ((is_registration x ≡ true) ⊎ Goes x)

  slots : (carrier row : ℕ) → Kind (firing 9 carrier row)
  slots carrier row = of (reaches_verified row) refl where
    of : (b : Bool) → reaches_verified row ≡ b → Kind (firing 9 carrier row)
    of true q = inr (inl q)
    of false q = inl (ap (λ (b : Bool). not b || false) q)

  accessing : (object row : ℕ) (o : Option Carrier) → accessing_ready o f ≡ Some row → Kind (firing 10 object row)
  accessing object row None q = absurd (cc)
  accessing object row (Some c) q = ready_row (λ (r : ℕ). Kind (firing 10 object r)) access_number (λ want. accessing_wants want c f) accessing_table row c.states.access ((λ i a w. inl refl), ((λ i a w. inl refl), ((λ i a w. inl refl), ((λ i a w. not_itself i), tt)))) q

  transport : (n row : ℕ) → substrate_ready transport_number transport_table (λ x. x.transport) (substrate_numbered n f.substrates) f ≡ Some row → Kind (firing 12 n row)
  transport n row q = inr (inr (inl (transport-executes number planned counted f h e n row outside))) where
    outside : (x : Substrate) → substrate_numbered n f.substrates ≡ Some x → (row == 2) ≡ true → is_outside x f.places ≡ true
    outside x found =
        ready_row (λ (r : ℕ). (r == 2) ≡ true → is_outside x f.places ≡ true) transport_number (λ want. substrate_wants want x f) transport_table row x.states.transport
        ((λ i a w. not_itself i), ((λ i a w two. w), ((λ i a w two. absurd (true≢false (sym two))), tt)))
        (sym (ap (λ (o : Option Substrate). substrate_ready transport_number transport_table (λ x. x.transport) o f) found) ∙ q)

  process : (n row : ℕ) → process_ready (process_numbered n f.jobs.process.kept) (found_sight (process_numbered n f.jobs.process.kept) f) f.jobs ≡ Some row → Kind (firing 14 n row)
  process n row q = of (process_numbered n f.jobs.process.kept) refl q where
    of : (o : Option ProcessJob) → process_numbered n f.jobs.process.kept ≡ o → process_ready o (found_sight o f) f.jobs ≡ Some row → Kind (firing 14 n row)
    of None known g = absurd (cc)
    of (Some j) known g =
        let is = process-ready number f.jobs t s e.steers row n (sight j f) j known g in
        let calm : disturbs_process number j.id row f.jobs ≡ false = one_of_cases (λ (r : ℕ). disturbs_process number j.id r f.jobs ≡ false) (2 ∷ 4 ∷ 6 ∷ 7 ∷ []) row (refl, (refl, (refl, (refl, tt)))) is.1 in
        inr (inr (inl (process-executes number planned counted f h t s e n j known row (process_ready_starts (process_numbered n f.jobs.process.kept) row (found_sight (process_numbered n f.jobs.process.kept) f) f.jobs q) calm)))

  control : (m row : ℕ) → control_ready (control_numbered m f.jobs.control.jobs) (is_first_here m f) f.jobs ≡ Some row → Kind (firing 15 m row)
  control m row q = of (control_numbered m f.jobs.control.jobs) refl q where
    eight : (b : Bool) → cond b (Some 8) None ≡ Some row → 8 ≡ row
    eight true g = some_same 8 row g
    eight false g = none_some row g

    at : m ≡ number → Kind (firing 15 m row)
    at same =
        let there : control_ready (control_numbered number f.jobs.control.jobs) (is_first_here number f) f.jobs ≡ Some row = subst (λ (k : ℕ). control_ready (control_numbered k f.jobs.control.jobs) (is_first_here k f) f.jobs ≡ Some row) same q in
        let is = eight (has_none_left (control_numbered number f.jobs.control.jobs)) (sym (completes number f.jobs t s e.steers (is_first_here number f)) ∙ there) in
        inr (inr (inr (ap (λ (k : ℕ). firing 15 k row) same ∙ ap (λ (r : ℕ). firing 15 number r) (sym is), completion_owes_none number planned counted f h t s e (is_first_here number f) row there)))

    of : (o : Option ControlJob) → control_numbered m f.jobs.control.jobs ≡ o → control_ready o (is_first_here m f) f.jobs ≡ Some row → Kind (firing 15 m row)
    of None known g = absurd (cc)
    of (Some d) known g = at (control-ready number f.jobs t s e.steers row m (is_first_here m f) d known g)

  commands : (object row : ℕ) (plan : Option Move) (o : Option Module) → move_ready plan o ≡ Some row → is_one_of (1 ∷ 2 ∷ 3 ∷ 4 ∷ []) row ≡ true
  commands object row plan None q = absurd (cc)
  commands object row plan (Some m) q =
      ready_row (λ (r : ℕ). is_one_of (1 ∷ 2 ∷ 3 ∷ 4 ∷ []) r ≡ true) state_number (λ want. move_wants want plan m) move_table row (state_of m)
      ((λ i a w. refl), ((λ i a w. refl), ((λ i a w. refl), ((λ i a w. refl), ((λ i a w. not_itself i), ((λ i a w. not_itself i), ((λ i a w. not_itself i), ((λ i a w. not_itself i), ((λ i a w. not_itself i), ((λ i a w. not_itself i), tt)))))))))) q

  kind : (x : Firing) → floor_least f ≡ Some x → Kind x
  kind x q =
      least_cases Kind f x (record {
        transfer = λ o r s. inl (ready_at_port transfer_number transfer_table (λ s. s.transfer) (λ to s. record s { transfer = to }) (λ (p r : ℕ). is_shop_row (firing 4 p r) ≡ true) f.shop o r (λ place p at. ((λ i a w. not_itself i), ((λ i a w. not_itself i), ((λ i a w. not_itself i), ((λ i a w. refl), ((λ i a w. not_itself i), tt)))))) s);
        access = λ o r s. inl refl;
        reservation = λ o r s. inl refl;
        association = λ o r s. inl (ready_at_port association_number association_table (λ s. s.association) (λ to s. record s { association = to }) (λ (p r : ℕ). is_shop_row (firing 7 p r) ≡ true) f.shop o r (λ place p at. ((λ i a w. not_itself i), ((λ i a w. not_itself i), ((λ i a w. refl), ((λ i a w. refl), ((λ i a w. refl), ((λ i a w. not_itself i), ((λ i a w. refl), tt)))))))) s);
        id = λ o r s. inl refl;
        map = λ o r s. slots o r;
        accessing = λ o r s. accessing o r (carrier_numbered o f.shop.carriers) s;
        location = λ o r s. inl refl;
        transport = λ o r s. transport o r s;
        processing = λ o r s. inr (inr (inl (processing-executes number planned counted f h e o r s)));
        process_job = λ o r s. process o r s;
        control_job = λ o r s. control o r s;
        move = λ o r s. inr (inr (inl (issue-executes number planned counted f h e o r (commands o r (plan_of o f) (module_at o f.modules) s))));
      }) q

  -- a row that registers substrates
  registers : (x : Firing) → floor_starts x f ≡ true → is_registration x ≡ true → Executes number planned counted (floor_fired x f) × (owed_to planned counted (picture (floor_fired x f)) ≡ owed_to planned counted (picture f))
  registers x starts is =
      let parts = and_parts (x.row.table == 9) (reaches_verified x.row.row) is in
      let same : x ≡ firing 9 x.object x.row.row = ap (λ (n : ℕ). firing n x.object x.row.row) ((Decides-eqb x.row.table 9).0 parts.0) in
      subst (λ (y : Firing). Executes number planned counted (floor_fired y f) × (owed_to planned counted (picture (floor_fired y f)) ≡ owed_to planned counted (picture f))) (sym same)
      (registration-executes number planned counted f h e x.object x.row.row parts.1 (subst (λ (y : Firing). floor_starts y f ≡ true) same starts))

  pub least-goes : (x : Firing) → floor_least f ≡ Some x → Goes x
  least-goes x q = of (kind x q) where
    of : Kind x → Goes x
    of (inl shop) = inl (shop_row-executes number planned counted f h e x (least_starts f x q) shop)
    of (inr (inl is)) = inl (registers x (least_starts f x q) is)
    of (inr (inr goes)) = goes
