use Rattle.std.proofs.Common.{◌≡◌, ◌∙◌, Some, None, ℕ, List, sym, ap, position, option_map}
use Rattle.records.proofs.Places.{place_is, missing_is}
use Rattle.records.proofs.Apart.{removed_at, without_none}
use Rattle.substrate.specs.Places.{name_of, has_name}
use Rattle.substrate.specs.declared.registered.Registered.{Registered}
use Rattle.substrate.proofs.names.forget.Goals as goal

pub returns-in_default-clause-found : goal.returns-in_default-clause-found
returns-in_default-clause-found c =
    let missing : position (has_name c.args.sub) c.args.names.now ≡ None =
    ap (λ (n : List ℕ). position (has_name n) c.args.names.now) (sym c.text.ensures.value) ∙ sym c.place_named.ensures.value ∙ c.in_default.is in
    sym (ap (option_map (λ (r : Registered). r.at)) (missing_is (has_name c.args.sub) c.args.names.now missing).found)

pub returns-in_default-clause-after : goal.returns-in_default-clause-after
returns-in_default-clause-after c =
    let missing : position (has_name c.args.sub) c.args.names.now ≡ None =
    ap (λ (n : List ℕ). position (has_name n) c.args.names.now) (sym c.text.ensures.value) ∙ sym c.place_named.ensures.value ∙ c.in_default.is in
    sym (without_none name_of c.args.sub c.args.names.now (missing_is (has_name c.args.sub) c.args.names.now missing).known)

pub returns-clause-found : goal.returns-clause-found
returns-clause-found c =
    let placed : position (has_name c.args.sub) c.args.names.now ≡ Some c.in-Some.index =
    ap (λ (n : List ℕ). position (has_name n) c.args.names.now) (sym c.text.ensures.value) ∙ sym c.place_named.ensures.value ∙ c.in-Some.is in
    c.place_at-place.ensures ∙ ap (option_map (λ (r : Registered). r.at)) (place_is (has_name c.args.sub) c.args.names.now c.in-Some.index placed).found

pub returns-clause-after : goal.returns-clause-after
returns-clause-after c =
    let placed : position (has_name c.args.sub) c.args.names.now ≡ Some c.in-Some.index =
    ap (λ (n : List ℕ). position (has_name n) c.args.names.now) (sym c.text.ensures.value) ∙ sym c.place_named.ensures.value ∙ c.in-Some.is in
    c.remove_at.ensures ∙ removed_at name_of c.args.sub c.args.names.now c.in-Some.index c.place_named.ensures.apart placed
