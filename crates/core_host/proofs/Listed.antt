-- The rows of messages, and of answers, are such as inputs list.
use Rattle.std.proofs.Common.{◌≡◌, ℕ, ◌==◌, false, List, [], ◌∷◌, map, refl, sym, ◌∙◌, subst}
use Rattle.std.proofs.lemmas.Bool.{true≢false}
use Rattle.gem_tables.specs.Table.{firing}
use Rattle.gem_tables.specs.declared.firing.Firing.{Firing}
use Rattle.gem_states.specs.Triggers.{comm_rows, control_rows}
use Rattle.gem_states.specs.declared.communication.CommTrigger.{CommTrigger}
use Rattle.gem_states.specs.declared.control.ControlTrigger.{ControlTrigger}
use Rattle.gem_model.specs.State.{State}
use Rattle.gem_model.specs.HostMessages as host
use Rattle.gem_model.specs.HostMessages.{HostMessage}
use Rattle.gem_model.specs.Messages as model
use Rattle.gem_model.specs.Direct.{Are, IsListed}
use Rattle.gem_model.specs.Direct.{by_comm, by_control}
use Rattle.gem_model.proofs.Listed.{listed_message}
use Rattle.host_messages.specs.declared.done.Done.{Done}
use Rattle.host_messages.specs.Dones.{done_view}

-- the rows of a message
pub done_listed : (told : Done) (after : State) (m : HostMessage) (g : State) (rows : List Firing) → done_view told after ≡ model.done g m → rows ≡ told.rows → Are IsListed rows
done_listed told after m g rows is same =
    subst (Are IsListed) (sym same) (subst (λ (d : host.Done). Are IsListed d.rows) (sym is) (listed_message m g))

of_table : (table : ℕ) → (table == 3) ≡ false → (rows : List ℕ) (row : Firing) → map (firing table 0) rows ≡ row ∷ [] → IsListed row
of_table table not_3 [] row is = absurd (cc)
of_table table not_3 (n ∷ ns) row is =
    let same : firing table 0 n ≡ row = cc in
    subst IsListed same (λ is_3. absurd (true≢false (sym is_3 ∙ not_3)))

-- the row of a trigger of communication
pub comm_listed : (t : CommTrigger) (row : Firing) → by_comm t ≡ row ∷ [] → IsListed row
comm_listed t row is = of_table 1 refl (comm_rows t) row is

-- the row of a trigger of control
pub control_listed : (t : ControlTrigger) (g : State) (row : Firing) → by_control t g ≡ row ∷ [] → IsListed row
control_listed t g row is = of_table 2 refl (control_rows t g.switch_local) row is
