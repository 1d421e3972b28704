-- Laws of constants with the values that pairs say.
use Rattle.std.proofs.Common.{◌≡◌, ℕ, ◌==◌, Bool, true, false, if◌then◌else◌, List, [], ◌∷◌, Option, Some, None, unwrap_or, refl, sym, ap, ◌∙◌, ◌+◌, ◌<◌, ◌≤◌, length, drop, get_or, add-one, drop-cons}
use Rattle.std.proofs.lemmas.List.{drop_all}
use Rattle.std.specs.Option.{option_or}
use Rattle.data_variables.specs.declared.val.Val.{Val}
use Rattle.data_variables.specs.Setting.{last_said, with_said, with_value}

-- no pair leaves the constants
pub said_nothing : (values : List (ℕ × Val)) → with_said [] values ≡ values
said_nothing [] = refl
said_nothing (p ∷ values) = ap (λ (ps : List (ℕ × Val)). p ∷ ps) (said_nothing values)

-- a later value of one constant counts, else that of the first pair
later_counts : (later : Option Val) (b : Bool) (value had : Val) → unwrap_or (option_or later (if b then Some value else None)) had ≡ unwrap_or later (if b then value else had)
later_counts None true value had = refl
later_counts None false value had = refl
later_counts (Some v) b value had = refl

-- the first pair may be set before the others
pub said_first : (ecid : ℕ) (value : Val) (sets : List (ℕ × Option Val)) (values : List (ℕ × Val)) → with_said ((ecid, Some value) ∷ sets) values ≡ with_said sets (with_value ecid value values)
said_first ecid value sets [] = refl
said_first ecid value sets (p ∷ values) =
    ap (λ (v : Val). (p.0, v) ∷ with_said ((ecid, Some value) ∷ sets) values) (later_counts (last_said p.0 sets) (ecid == p.0) value p.1)
    ∙ ap (λ (ps : List (ℕ × Val)). (p.0, unwrap_or (last_said p.0 sets) (if ecid == p.0 then value else p.1)) ∷ ps) (said_first ecid value sets values)

-- the pair at a place may be set before those behind it
pub said_at : (sets : List (ℕ × Option Val)) (i : ℕ) (d : ℕ × Option Val) (value : Val) (old new target : List (ℕ × Val)) → i < length sets → (get_or sets i d).1 ≡ Some value → new ≡ with_value (get_or sets i d).0 value old → with_said (drop i sets) old ≡ target → with_said (drop (i + 1) sets) new ≡ target
said_at sets i d value old new target l s n e =
    let cut : drop i sets ≡ get_or sets i d ∷ drop (i + 1) sets = rw add-one (drop-cons sets i d l) in
    let pair : get_or sets i d ≡ ((get_or sets i d).0, Some value) = ap (λ (o : Option Val). ((get_or sets i d).0, o)) s in
    let first = said_first (get_or sets i d).0 value (drop (i + 1) sets) old in
    ap (λ (vs : List (ℕ × Val)). with_said (drop (i + 1) sets) vs) n
    ∙ sym first
    ∙ ap (λ (p : ℕ × Option Val). with_said (p ∷ drop (i + 1) sets) old) (sym pair)
    ∙ ap (λ (ps : List (ℕ × Option Val)). with_said ps old) (sym cut)
    ∙ e

-- behind the last pair nothing is left to set
pub said_all : (sets : List (ℕ × Option Val)) (i : ℕ) (values target : List (ℕ × Val)) → length sets ≤ i → with_said (drop i sets) values ≡ target → values ≡ target
said_all sets i values target l e =
    sym (said_nothing values) ∙ ap (λ (ps : List (ℕ × Option Val)). with_said ps values) (sym (drop_all i sets l)) ∙ e
