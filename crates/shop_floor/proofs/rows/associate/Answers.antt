use Rattle.std.specs.Prelude.{Result, Ok, Err, IfErr}
use Rattle.shop_floor.specs.Floor.{floor_of}
use Rattle.gem_tables.specs.Table.{firing}
use Rattle.std.proofs.Common.{refl, ◌∙◌}
use Rattle.shop_floor.proofs.Fires.{forgets_owner}
use Rattle.shop_floor.proofs.Held.{port_within}
use Rattle.shop_floor.proofs.Comes.{room-arrives, room-forgets, new-replaced}
use Rattle.shop_floor.proofs.rows.associate.Goals as goal

err_follows : {A E : Type 0} (P Q : Type 0) (r : Result A E) → (P → Q) → IfErr r (λ _. P) → IfErr r (λ _. Q)
err_follows P Q (Ok _) follows p = p
err_follows P Q (Err _) follows p = follows p

pub arrive-requires-clause-room : goal.arrive-requires-clause-room
arrive-requires-clause-room c = λ new. room-arrives c.args.row c.args.port (floor_of c.args.ports.now c.args.carriers.now c.args.next.now) c.in-3.is c.requires.starts c.requires.valid new

pub replace-requires-clause-room : goal.replace-requires-clause-room
replace-requires-clause-room c = room-forgets c.args.row c.args.port (floor_of c.args.ports.now c.args.carriers.now c.args.next.now) c.in-4.is c.requires.starts c.requires.valid

pub returns-in-4-clause-needed : goal.returns-in-4-clause-needed
returns-in-4-clause-needed c =
    err_follows _ _ c.replace.result
    (new-replaced c.args.row c.args.port (floor_of c.args.ports.now c.args.carriers.now c.args.next.now) c.in-4.is c.requires.starts)
    c.replace.ensures.needed

pub replace-requires-clause-there : goal.replace-requires-clause-there
replace-requires-clause-there c = port_within (firing 7 c.args.port c.args.row) (floor_of c.args.ports.now c.args.carriers.now c.args.next.now) c.requires.starts refl c.requires.valid

pub returns-in-2-clause-ok : goal.returns-in-2-clause-ok
returns-in-2-clause-ok c =
    c.forget_owner.ensures c.args.next.now ∙ forgets_owner c.args.row c.args.port (floor_of c.args.ports.now c.args.carriers.now c.args.next.now) c.in-2.is
