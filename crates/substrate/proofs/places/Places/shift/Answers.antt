use Rattle.std.proofs.Common.{◌≡◌, ◌∙◌, sym, subst, ap, true, Some, List}
use Rattle.substrate.specs.Locations.{is_location}
use Rattle.substrate.specs.Places.{PlaceMap, moved, can_shift}
use Rattle.substrate.specs.Board.{Spots, with_name}
use Rattle.substrate.specs.Tied.{AreTied}
use Rattle.substrate.specs.declared.registered.Registered.{Registered}
use Rattle.substrate.proofs.Faults.{can_move}
use Rattle.substrate.proofs.Tying.{tied_moved}
use Rattle.substrate.proofs.places.Places.shift.Goals as goal

pub invariant_of-self : goal.invariant_of-self
invariant_of-self c =
    let names = c.self.inside.names in
    let board = c.self.inside.board in
    let start = subst (λ (p : PlaceMap). is_location p.ports p.chambers c.args.from ≡ true) (sym c.self.view_is) c.requires.start in
    let end = subst (λ (p : PlaceMap). is_location p.ports p.chambers c.args.to ≡ true) (sym c.self.view_is) c.requires.end in
    let can = can_move c.args.sub c.args.from c.args.to names (ap (λ (p : PlaceMap). can_shift c.args.sub c.args.from c.args.to p.held) c.self.view_is ∙ sym c.can_shift-can.ensures ∙ c.if-can.true) in
    subst (λ (rs : List Registered). AreTied rs c.put-then-can.new.self c.self.inside.given) (sym c.move_to.ensures)
    (
    subst (λ (b : Spots). AreTied (moved c.args.sub c.args.to names) b c.self.inside.given) (sym (c.put-then-can.ensures ∙ ap (λ (b : Spots). with_name c.args.to (Some c.args.sub) b) c.put.ensures))
    (tied_moved names board c.self.inside.given c.self.invariant c.args.sub c.args.from c.args.to can.found can.named can.at start end can.free)
    )
