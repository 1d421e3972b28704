-- What becomes of the places of substrates at each row of the floor of the tool but those that move a substrate or take one away.
use Rattle.std.proofs.Common.{◌≡◌, ℕ, ◌==◌, Bool, true, false, not, ◌&&◌, ◌||◌, if◌then◌else◌, Option, Some, None, refl, ◌∙◌, ap}
use Rattle.gem_tables.specs.Table.{firing, row_of}
use Rattle.gem_tables.specs.declared.firing.Firing.{Firing}
use Rattle.floor_model.proofs.EachTable.{starts_cases}
use Rattle.gem_tables.proofs.Rows.{found_row}
use Rattle.tool_tasks.specs.declared.task.Task.{Task}
use Rattle.tool_tasks.specs.declared.task.Task.TheVariants as task
use Rattle.carrier.specs.Carriers.{carrier_numbered}
use Rattle.process_job.specs.Tables as effect
use Rattle.process_job.specs.Tables.{JobRow, JobEffect}
use Rattle.process_job.specs.declared.job.ProcessJob.{ProcessJob}
use Rattle.robot_moves.specs.Tables.{MoveRow, move_table}
use Rattle.robot_moves.specs.Modules.{module_at}
use Rattle.robot_moves.specs.declared.view.Move.{Move}
use Rattle.shop_floor.specs.Floor.{Floor}
use Rattle.shop_floor.specs.Owning.{owner_number}
use Rattle.shop_floor.specs.Machines as shop
use Rattle.substrate.specs.Tables.{SubstrateRow, processing_table}
use Rattle.substrate.specs.declared.record.Processing.{Processing}
use Rattle.floor_model.specs.declared.tracked.Substrate.{Substrate}
use Rattle.floor_model.specs.Floor.{ToolFloor, with_shop, substrate_numbered}
use Rattle.floor_model.specs.Jobs.{job_does, found_job_does, frees, stops_carriers, gets_members}
use Rattle.floor_model.specs.Modules.{issued, open_task, aligned_by, stepped_by, move_does, found_move}
use Rattle.floor_model.specs.Machines.{floor_starts, floor_fired}
use Rattle.floor_model.specs.Substrates.{reaches_verified, registers_found, without_carrier, substrate_does, found_does}
use Rattle.floor_model.specs.Views.{planned}
use Rattle.place_laws.specs.Sound.{Base}
use Rattle.floor_laws.proofs.GrowPlaces.{Grown, grown_same, as_places, found_grown}
use Rattle.std.proofs.lemmas.Bool.{not-true}

-- it is neither row 6 of table 7, which takes a carrier away with its substrates, nor row 8 of table 13, by which a substrate is lost, nor
-- row 5 of table 16, by which one moves
abbrev pub moves_nothing : Firing → Bool
moves_nothing x = not (((x.row.table == 7) && (x.row.row == 6)) || (((x.row.table == 13) && (x.row.row == 8)) || ((x.row.table == 16) && (x.row.row == 5))))

-- ---- the places behind what rows do

-- a row of table 7 that takes nothing along
association_same : (row port : ℕ) (s : Floor) (f : ToolFloor) → (row == 6) ≡ false → (with_shop s (if row == 6 then without_carrier (owner_number port f.shop) f else f)).places ≡ f.places
association_same row port s f other = ap (λ (b : Bool). (with_shop s (if b then without_carrier (owner_number port f.shop) f else f)).places) other

-- a row of processing but that of `lost`
pub processing_same : (row : ℕ) (o : Option Substrate) (f : ToolFloor) → (row == 8) ≡ false → (found_does (row_of processing_table row) o f).places ≡ f.places
processing_same row o f other = of (row_of processing_table row) refl where
  of : (r : Option (SubstrateRow Processing)) → row_of processing_table row ≡ r → (found_does r o f).places ≡ f.places
  of None is = refl
  of (Some r) is =
      let here = found_row (λ (x : SubstrateRow Processing). (x.number == 8) ≡ false → (substrate_does x.does o f).places ≡ f.places) processing_table row r
      ((λ k. refl), ((λ k. refl), ((λ k. refl), ((λ k. refl), ((λ k. refl), ((λ k. refl), ((λ k. refl), ((λ k. absurd (cc)), tt)))))))) is in
      here.0 (ap (λ (n : ℕ). n == 8) here.1 ∙ other)

-- each row of a process job
frees_same : (o : Option ProcessJob) (f : ToolFloor) → (frees o f).places ≡ f.places
frees_same None f = refl
frees_same (Some j) f = refl

stops_same : (o : Option ProcessJob) (f : ToolFloor) → (stops_carriers o f).places ≡ f.places
stops_same None f = refl
stops_same (Some j) f = refl

gets_same : (o : Option ProcessJob) (f : ToolFloor) → (gets_members o f).places ≡ f.places
gets_same None f = refl
gets_same (Some j) f = refl

does_same : (e : JobEffect) (o : Option ProcessJob) (f : ToolFloor) → (job_does e o f).places ≡ f.places
does_same effect.no_more o f = refl
does_same effect.makes_members o f = gets_same o f
does_same effect.ends o f = frees_same o f
does_same effect.ends_stopped o f = stops_same o (frees o f) ∙ frees_same o f

job_same : (r : Option JobRow) (o : Option ProcessJob) (f : ToolFloor) → (found_job_does r o f).places ≡ f.places
job_same None o f = refl
job_same (Some r) o f = does_same r.does o f

-- a row of a module but that of Done of a Pick or a Place
issued_same : (m : ℕ) (o : Option Move) (f : ToolFloor) → (issued m o f).places ≡ f.places
issued_same m None f = refl
issued_same m (Some move) f = refl

aligned_same : (t : Option Task) (f : ToolFloor) → (aligned_by t f).places ≡ f.places
aligned_same None f = refl
aligned_same (Some (task.Pick sub from)) f = refl
aligned_same (Some (task.Place sub to)) f = refl
aligned_same (Some (task.Align sub)) f = refl
aligned_same (Some (task.Process sub recipe)) f = refl

stepped_same : (t : Option Task) (f : ToolFloor) → (stepped_by t f).places ≡ f.places
stepped_same None f = refl
stepped_same (Some (task.Pick sub from)) f = refl
stepped_same (Some (task.Place sub to)) f = refl
stepped_same (Some (task.Align sub)) f = refl
stepped_same (Some (task.Process sub recipe)) f = refl

pub move_same : (row m : ℕ) (o : Option Move) (f : ToolFloor) → (row == 5) ≡ false → (found_move (row_of move_table row) m o f).places ≡ f.places
move_same row m o f other = of (row_of move_table row) refl where
  of : (r : Option MoveRow) → row_of move_table row ≡ r → (found_move r m o f).places ≡ f.places
  of None is = refl
  of (Some r) is =
      let here = found_row (λ (x : MoveRow). (x.number == 5) ≡ false → (move_does x.does m o f).places ≡ f.places) move_table row r
      ((λ k. issued_same m o f), ((λ k. issued_same m o f), ((λ k. issued_same m o f), ((λ k. issued_same m o f), ((λ k. absurd (cc)), ((λ k. aligned_same (open_task (module_at m f.modules)) f), ((λ k. stepped_same (open_task (module_at m f.modules)) f), ((λ k. refl), ((λ k. refl), ((λ k. refl), tt)))))))))) is in
      here.0 (ap (λ (n : ℕ). n == 5) here.1 ∙ other)

-- ---- each row

module _ (May : ℕ → Type 0) where
  -- a row of the slot map
  slot_row : (carrier row : ℕ) (f : ToolFloor) → Base f → Grown May f (floor_fired (firing 9 carrier row) f)
  slot_row carrier row f b = of (reaches_verified row) where
    s : Floor
    s = shop.floor_fired (firing 9 carrier row) f.shop

    of : (t : Bool) → Grown May f (with_shop s (if t then registers_found (carrier_numbered carrier f.shop.carriers) f else f))
    of true = as_places May f (registers_found (carrier_numbered carrier f.shop.carriers) f) _ refl (found_grown May (carrier_numbered carrier f.shop.carriers) f b.places.numbered)
    of false = grown_same May f (with_shop s f) refl

  pub row_grows : (x : Firing) (f : ToolFloor) → floor_starts x f ≡ true → moves_nothing x ≡ true → Base f → Grown May f (floor_fired x f)
  row_grows x f starts still b =
      starts_cases (λ (y : Firing). moves_nothing y ≡ true → Grown May f (floor_fired y f)) f x (record {
        transfer = λ s kind. grown_same May f _ refl;
        access = λ s kind. grown_same May f _ refl;
        reservation = λ s kind. grown_same May f _ refl;
        association = λ s kind. grown_same May f _ (association_same x.row.row x.object (shop.floor_fired (firing 7 x.object x.row.row) f.shop) f (first (x.row.row == 6) kind));
        id = λ s kind. grown_same May f _ refl;
        map = λ s kind. slot_row x.object x.row.row f b;
        accessing = λ s kind. grown_same May f _ refl;
        location = λ s kind. grown_same May f _ refl;
        transport = λ s kind. grown_same May f _ refl;
        processing = λ s kind. grown_same May f _ (processing_same x.row.row (substrate_numbered x.object f.substrates) f (first (x.row.row == 8) kind));
        process_job = λ s kind. grown_same May f _ (job_same _ _ f);
        control_job = λ s kind. grown_same May f _ refl;
        move = λ s kind. grown_same May f _ (move_same x.row.row x.object (planned x.object f) f (not-true (x.row.row == 5) kind));
      }) starts still where
        first : (t : Bool) → not (t || false) ≡ true → t ≡ false
        first true e = absurd (cc)
        first false e = refl
