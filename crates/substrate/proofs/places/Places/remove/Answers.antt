use Rattle.std.proofs.Common.{◌≡◌, true, None, sym, subst, ap, ◌∙◌, is_some, List}
use Rattle.gem_ids.specs.declared.numbers.LocId.{LocId}
use Rattle.substrate.specs.Locations.{is_location}
use Rattle.substrate.specs.Places.{PlaceMap, name_of, has_name, substrate_named, is_known, without}
use Rattle.substrate.specs.Board.{Spots, with_name}
use Rattle.substrate.specs.Tied.{AreTied}
use Rattle.substrate.specs.declared.registered.Registered.{Registered}
use Rattle.records.proofs.Places.{unknown, known_found}
use Rattle.records.proofs.Apart.{without_none}
use Rattle.substrate.proofs.Found.{found_placed, none_placed, some_placed}
use Rattle.substrate.proofs.Standing.{found_all}
use Rattle.substrate.proofs.Tying.{tied_fewer}
use Rattle.substrate.proofs.places.Places.remove.Goals as goal

pub put-requires : goal.put-requires
put-requires c =
    found_placed (substrate_named c.args.sub c.self.inside.names) c.in-Some.place (λ (l : LocId). is_location c.self.inside.board.ports c.self.inside.board.chambers l ≡ true) (sym c.forget.ensures.found ∙ c.in-Some.is)
    (λ r found. found_all (λ s. is_location c.self.inside.board.ports c.self.inside.board.chambers s.at) c.args.sub c.self.inside.names r c.self.invariant.places.within found)

pub invariant_of-self : goal.invariant_of-self
invariant_of-self c =
    subst (λ (rs : List Registered). AreTied rs c.put.new.self c.self.inside.given) (sym c.forget.ensures.after)
    (
    subst (λ (b : Spots). AreTied (without c.args.sub c.self.inside.names) b c.self.inside.given) (sym c.put.ensures)
    (
    found_placed (substrate_named c.args.sub c.self.inside.names) c.in-Some.place (λ (l : LocId). AreTied (without c.args.sub c.self.inside.names) (with_name l None c.self.inside.board) c.self.inside.given) (sym c.forget.ensures.found ∙ c.in-Some.is)
    (λ r found. tied_fewer c.self.inside.names c.self.inside.board c.self.inside.given c.self.invariant c.args.sub r found)
    )
    )

pub invariant_of-self-in-None : goal.invariant_of-self-in-None
invariant_of-self-in-None c =
    let gone = unknown (has_name c.args.sub) c.self.inside.names (none_placed (substrate_named c.args.sub c.self.inside.names) (sym c.forget.ensures.found ∙ c.in-None.is)) in
    subst (λ (rs : List Registered). AreTied rs c.self.inside.board c.self.inside.given) (sym (c.forget.ensures.after ∙ without_none name_of c.args.sub c.self.inside.names gone)) c.self.invariant

pub returns-in-Some-clause-removes : goal.returns-in-Some-clause-removes
returns-in-Some-clause-removes c =
    ap is_some (sym c.in-Some.is ∙ c.forget.ensures.found) ∙ some_placed (substrate_named c.args.sub c.self.inside.names) ∙ known_found (has_name c.args.sub) c.self.inside.names ∙ ap (λ (p : PlaceMap). is_known c.args.sub p.held) c.self.view_is

pub returns-in-None-clause-removes : goal.returns-in-None-clause-removes
returns-in-None-clause-removes c =
    ap is_some (sym c.in-None.is ∙ c.forget.ensures.found) ∙ some_placed (substrate_named c.args.sub c.self.inside.names) ∙ known_found (has_name c.args.sub) c.self.inside.names ∙ ap (λ (p : PlaceMap). is_known c.args.sub p.held) c.self.view_is
