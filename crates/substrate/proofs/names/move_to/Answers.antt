use Rattle.std.proofs.Common.{◌≡◌, ◌∙◌, Some, None, ℕ, List, sym, ap, position}
use Rattle.records.proofs.Apart.{changed_at, changed_missing}
use Rattle.substrate.specs.Places.{name_of, has_name, moves_to}
use Rattle.substrate.proofs.names.move_to.Goals as goal

pub returns-in-Some : goal.returns-in-Some
returns-in-Some c =
    let placed : position (has_name c.args.sub) c.args.names.now ≡ Some c.in-Some.place =
    ap (λ (n : List ℕ). position (has_name n) c.args.names.now) (sym c.text.ensures.value) ∙ sym c.place_named.ensures.value ∙ c.in-Some.is in
    c.change_at.ensures ∙ changed_at name_of c.args.sub (moves_to c.args.to) c.args.names.now c.in-Some.place c.place_named.ensures.apart placed

pub returns-in_default : goal.returns-in_default
returns-in_default c =
    let missing : position (has_name c.args.sub) c.args.names.now ≡ None =
    ap (λ (n : List ℕ). position (has_name n) c.args.names.now) (sym c.text.ensures.value) ∙ sym c.place_named.ensures.value ∙ c.in_default.is in
    changed_missing name_of c.args.sub (moves_to c.args.to) c.args.names.now missing
