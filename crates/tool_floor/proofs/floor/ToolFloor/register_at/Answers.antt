use Rattle.std.proofs.Common.{◌+◌, false, List, [], ◌∷◌, ◌++◌, subst, sym, ap, arith}
use Rattle.substrate.specs.Places.{PlaceMap}
use Rattle.floor_model.specs.Floor.{RiseTo}
use Rattle.floor_model.specs.declared.tracked.Substrate.{Substrate}
use Rattle.floor_model.proofs.Scans.{rise_more, rise_given, either_answer}
use Rattle.tool_floor.proofs.floor.ToolFloor.register_at.Goals as goal

pub invariant_of-self : goal.invariant_of-self
invariant_of-self c =
    let new : Substrate = record { number = c.in-Ok.number; sub = c.args.sub; carrier = c.args.carrier; slot = c.args.loc; states = c.new.result; aligned = false; steps = 0; job = 0 } in
    let given = ap (λ (p : PlaceMap). p.given) c.in-Ok.ensures.registered in
    either_answer c.push.result c.push.ensures.ok c.push.ensures.err
    (λ more. subst (λ (ss : List Substrate). RiseTo 0 c.register.new.self.given ss) (sym more)
    (subst (λ n. RiseTo 0 n (c.self.inside.substrates ++ new ∷ [])) (sym given) (rise_more 0 c.self.inside.places.given c.self.inside.substrates new c.self.invariant c.in-Ok.ensures.number)))
    (λ same. subst (λ (ss : List Substrate). RiseTo 0 c.register.new.self.given ss) (sym same)
    (subst (λ n. RiseTo 0 n c.self.inside.substrates) (sym given) (rise_given 0 c.self.inside.places.given (c.self.inside.places.given + 1) c.self.inside.substrates (omega arith) c.self.invariant)))
