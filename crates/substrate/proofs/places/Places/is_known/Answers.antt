use Rattle.std.proofs.Common.{◌∙◌, ap, is_some, ℕ, List}
use Rattle.records.proofs.Places.{known_found}
use Rattle.substrate.specs.Places.{PlaceMap, has_name, is_known}
use Rattle.substrate.proofs.Found.{some_shown}
use Rattle.substrate.proofs.places.Places.is_known.Goals as goal

pub returns : goal.returns
returns c =
    c.is_some.ensures ∙ some_shown c.named.result ∙ ap is_some c.named.ensures.value ∙ known_found (has_name c.text.result) c.self.inside.names ∙ ap (λ (n : List ℕ). is_known n c.self.inside.names) c.text.ensures.value ∙ ap (λ (p : PlaceMap). is_known c.args.sub p.held) c.self.view_is
