-- The rows that are ready by themselves, and those that inputs fire alone, move no substrate.
use Rattle.std.proofs.Common.{◌≡◌, ℕ, ◌==◌, Bool, true, false, not, ◌&&◌, ◌||◌, Option, Some, None, refl, sym, ◌∙◌, subst}
use Rattle.std.proofs.lemmas.Bool.Decides.{Decides-eqb}
use Rattle.gem_tables.specs.Table.{firing}
use Rattle.gem_tables.specs.declared.firing.Firing.{Firing}
use Rattle.gem_tables.proofs.Rows.{ready_row}
use Rattle.floor_model.proofs.EachTable.{least_cases}
use Rattle.load_port.specs.Tables.{association_number, association_table}
use Rattle.shop_floor.proofs.Cases.{ready_at_port}
use Rattle.robot_moves.specs.declared.module.Module.{Module}
use Rattle.robot_moves.specs.declared.view.Move.{Move}
use Rattle.robot_moves.specs.Tables.{move_table, state_number}
use Rattle.robot_moves.specs.Modules.{module_at, state_of}
use Rattle.substrate.specs.Tables.{processing_number, processing_table}
use Rattle.floor_model.specs.declared.tracked.Substrate.{Substrate}
use Rattle.floor_model.specs.Floor.{ToolFloor, substrate_numbered}
use Rattle.floor_model.specs.Views.{planned}
use Rattle.floor_model.specs.Modules.{move_wants, move_ready}
use Rattle.floor_model.specs.Wants.{substrate_wants}
use Rattle.floor_model.specs.Machines.{substrate_ready, floor_least}
use Rattle.floor_laws.specs.Rows.{is_common}
use Rattle.floor_laws.proofs.GrowRows.{moves_nothing}

-- a row that an input fires is not ready by itself
not_itself : {P : Type 0} → false ≡ true → P
not_itself e = absurd (cc)

module _ (f : ToolFloor) where
  abbrev Still : ℕ → ℕ → ℕ → Type 0
  Still table object row = moves_nothing (firing table object row) ≡ true

  processing : (object row : ℕ) (o : Option Substrate) → substrate_ready processing_number processing_table (λ s. s.processing) o f ≡ Some row → Still 13 object row
  processing object row None e = absurd (cc)
  processing object row (Some s) e =
      ready_row (Still 13 object) processing_number (λ want. substrate_wants want s f) processing_table row s.states.processing
      ((λ i a w. refl), ((λ i a w. refl), ((λ i a w. refl), ((λ i a w. refl), ((λ i a w. refl), ((λ i a w. refl), ((λ i a w. refl), ((λ i a w. not_itself i), tt)))))))) e

  moves : (object row : ℕ) (plan : Option Move) (o : Option Module) → move_ready plan o ≡ Some row → Still 16 object row
  moves object row plan None e = absurd (cc)
  moves object row plan (Some m) e =
      ready_row (Still 16 object) state_number (λ want. move_wants want plan m) move_table row (state_of m)
      ((λ i a w. refl), ((λ i a w. refl), ((λ i a w. refl), ((λ i a w. refl), ((λ i a w. not_itself i), ((λ i a w. refl), ((λ i a w. refl), ((λ i a w. refl), ((λ i a w. refl), ((λ i a w. refl), tt)))))))))) e

  pub least_still : (x : Firing) → floor_least f ≡ Some x → moves_nothing x ≡ true
  least_still x e =
      least_cases (λ (y : Firing). moves_nothing y ≡ true) f x (record {
        transfer = λ o r s. refl;
        access = λ o r s. refl;
        reservation = λ o r s. refl;
        association = λ o r s. ready_at_port association_number association_table (λ s. s.association) (λ to s. record s { association = to }) (Still 7) f.shop o r (λ place p at. ((λ i a w. refl), ((λ i a w. refl), ((λ i a w. refl), ((λ i a w. refl), ((λ i a w. refl), ((λ i a w. not_itself i), ((λ i a w. refl), tt)))))))) s;
        id = λ o r s. refl;
        map = λ o r s. refl;
        accessing = λ o r s. refl;
        location = λ o r s. refl;
        transport = λ o r s. refl;
        processing = λ o r s. processing o r (substrate_numbered o f.substrates) s;
        process_job = λ o r s. refl;
        control_job = λ o r s. refl;
        move = λ o r s. moves o r (planned o f) (module_at o f.modules) s;
      }) e

-- none of those that inputs fire alone is one that moves
pub common_still : (x : Firing) → is_common x ≡ true → moves_nothing x ≡ true
common_still x common = of (x.row.table == 7) (x.row.row == 6) (x.row.table == 13) (x.row.row == 8) (x.row.table == 16) (x.row.row == 5) refl refl refl refl refl refl where
  -- it isn't this row of that table
  never : {P : Type 0} (table row : ℕ) → is_common (firing table x.object row) ≡ false → (x.row.table == table) ≡ true → (x.row.row == row) ≡ true → P
  never table row other is at =
      absurd (let here : is_common (firing table x.object row) ≡ true = subst (λ (t : ℕ). is_common (firing t x.object row) ≡ true) ((Decides-eqb x.row.table table).0 is) (subst (λ (r : ℕ). is_common (firing x.row.table x.object r) ≡ true) ((Decides-eqb x.row.row row).0 at) common) in
      let clash : true ≡ false = sym here ∙ other in cc)

  of : (a b c d g h : Bool) → (x.row.table == 7) ≡ a → (x.row.row == 6) ≡ b → (x.row.table == 13) ≡ c → (x.row.row == 8) ≡ d → (x.row.table == 16) ≡ g → (x.row.row == 5) ≡ h → not ((a && b) || ((c && d) || (g && h))) ≡ true
  of true true c d g h e1 e2 e3 e4 e5 e6 = never 7 6 refl e1 e2
  of true false true true g h e1 e2 e3 e4 e5 e6 = never 13 8 refl e3 e4
  of true false true false true true e1 e2 e3 e4 e5 e6 = never 16 5 refl e5 e6
  of true false true false true false e1 e2 e3 e4 e5 e6 = refl
  of true false true false false h e1 e2 e3 e4 e5 e6 = refl
  of true false false d true true e1 e2 e3 e4 e5 e6 = never 16 5 refl e5 e6
  of true false false d true false e1 e2 e3 e4 e5 e6 = refl
  of true false false d false h e1 e2 e3 e4 e5 e6 = refl
  of false b true true g h e1 e2 e3 e4 e5 e6 = never 13 8 refl e3 e4
  of false b true false true true e1 e2 e3 e4 e5 e6 = never 16 5 refl e5 e6
  of false b true false true false e1 e2 e3 e4 e5 e6 = refl
  of false b true false false h e1 e2 e3 e4 e5 e6 = refl
  of false b false d true true e1 e2 e3 e4 e5 e6 = never 16 5 refl e5 e6
  of false b false d true false e1 e2 e3 e4 e5 e6 = refl
  of false b false d false h e1 e2 e3 e4 e5 e6 = refl
