use Rattle.std.proofs.Common.{◌≡◌, ◌+◌, ◌++◌, [], ◌∷◌, sym, subst, true, None, List, refl}
use Rattle.substrate.specs.Locations.{is_location}
use Rattle.substrate.specs.Places.{PlaceMap, register_fault}
use Rattle.substrate.specs.Board.{Spots}
use Rattle.substrate.specs.Tied.{AreTied}
use Rattle.substrate.specs.declared.registered.Registered.{Registered}
use Rattle.substrate.proofs.Faults.{is_free}
use Rattle.substrate.proofs.Tying.{tied_more}
use Rattle.substrate.proofs.places.Places.add.Goals as goal

pub invariant_of-self : goal.invariant_of-self
invariant_of-self c =
    let added : Registered = record { sub = c.args.sub; number = c.self.inside.given + 1; at = c.args.loc } in
    let inside = subst (λ (p : PlaceMap). is_location p.ports p.chambers c.args.loc ≡ true) (sym c.self.view_is) c.requires.location in
    let free = is_free c.args.sub c.args.loc c.self.inside.names (subst (λ (p : PlaceMap). register_fault c.args.sub c.args.loc p.held ≡ None) (sym c.self.view_is) c.requires.free) in
    subst (λ (rs : List Registered). AreTied rs c.put.new.self (c.self.inside.given + 1)) (sym c.in-Ok.ensures.added)
    (
    subst (λ (b : Spots). AreTied (c.self.inside.names ++ added ∷ []) b (c.self.inside.given + 1)) (sym c.put.ensures)
    (tied_more c.self.inside.names c.self.inside.board c.self.inside.given c.self.invariant added inside free.place free.name free.room refl)
    )
