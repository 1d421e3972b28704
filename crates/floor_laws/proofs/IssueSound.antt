-- Rows 1 to 4 of table 16, by which a command is issued, keep what holds of the floor of the tool.
use Rattle.std.proofs.Common.{◌≡◌, ◌≤◌, ℕ, zero, suc, ◌+◌, true, List, [], ◌∷◌, length, Option, Some, None, refl, sym, subst}
use Rattle.gem_tables.specs.Table.{firing, is_one_of}
use Rattle.robot_moves.specs.declared.module.Module.{Module}
use Rattle.robot_moves.specs.Modules.{module_at, change_module, given}
use Rattle.robot_moves.specs.declared.view.Move.{Move}
use Rattle.robot_moves.proofs.Giving.{move_is}
use Rattle.floor_model.specs.Floor.{ToolFloor}
use Rattle.floor_model.specs.Views.{views, planned}
use Rattle.floor_model.specs.Modules.{command, issued as given_to}
use Rattle.floor_model.specs.Machines.{floor_starts, floor_fired}
use Rattle.floor_model.proofs.Moves.{is_idle_module, gives}
use Rattle.floor_moves.proofs.Agreeing.{agree-keeps}
use Rattle.place_laws.specs.Picture.{picture, task_of}
use Rattle.place_laws.specs.Sound.{Sound}
use Rattle.floor_moves.proofs.Issuing.{issued-keeps}
use Rattle.picture_laws.proofs.Issuing.{issuing_agrees}
use Rattle.floor_laws.proofs.IssuePlans.{planned_may}
use Rattle.records.proofs.Apart.{length_update}

-- ---- the modules are as many as before

pub changed_many : (m : ℕ) (change : Module → Module) (ms : List Module) → length (change_module m change ms) ≡ length ms
changed_many zero change ms = refl
changed_many (suc n) change ms = length_update change n ms

-- ---- the row

module _ (f : ToolFloor) (s : Sound f) where
  -- what a module is to do is given to it, and all that holds is kept
  pub given_sound : (m : ℕ) (o : Option Move) → planned m f ≡ o → Sound (given_to m o f)
  given_sound m None e = s
  given_sound m (Some move) e =
      let b = s.base in
      record {
        base = record {
          shop = b.shop;
          carried = b.carried;
          registered = b.registered;
          apart = b.apart;
          rising = b.rising;
          same_ports = b.same_ports;
          modules = subst (λ (n : ℕ). n ≤ 2 + f.places.chambers) (sym (changed_many m (given (command (f.commands + 1) move.task)) f.modules)) b.modules;
          places = b.places;
          held = b.held;
          jobs = record { numbered = b.jobs.numbered; given = b.jobs.given; members = b.jobs.members };
        };
        ports = s.ports;
        unloading = s.unloading;
        valid = agree-keeps _ _ (issuing_agrees m move f (is_idle_module (module_at m f.modules) (move_is m (views f) f.modules move e).idle))
            (issued-keeps (picture f) m (task_of move.task f.places) (planned_may f b s.valid m move e) s.valid);
      }

-- rows 1 to 4 of table 16
pub issue_sound : (f : ToolFloor) (m row : ℕ) → is_one_of (1 ∷ 2 ∷ 3 ∷ 4 ∷ []) row ≡ true → floor_starts (firing 16 m row) f ≡ true → Sound f → Sound (floor_fired (firing 16 m row) f)
issue_sound f m row is starts s = subst Sound (sym (gives row m f is)) (given_sound f s m (planned m f) refl)
