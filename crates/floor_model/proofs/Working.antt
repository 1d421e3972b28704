-- Where none is at work, no substrate is outside.
use Rattle.std.proofs.Common.{◌≡◌, ℕ, Bool, true, false, ◌&&◌, ◌||◌, if◌then◌else◌, List, [], ◌∷◌, Option, Some, None, find, refl, sym, ◌∙◌}
use Rattle.std.specs.List.{list_any}
use Rattle.substrate.specs.Locations.{is_work_place}
use Rattle.substrate.specs.Places.{PlaceMap, has_name, substrate_named, is_any_at_work}
use Rattle.substrate.specs.declared.registered.Registered.{Registered}
use Rattle.floor_model.specs.declared.tracked.Substrate.{Substrate}
use Rattle.floor_model.specs.Floor.{ToolFloor}
use Rattle.floor_model.specs.Substrates.{is_at_work, is_outside, is_of}
use Rattle.floor_model.specs.Wants.{has_outside}

or_both : (a b : Bool) → (a || b) ≡ false → (a ≡ false) × (b ≡ false)
or_both true b e = absurd (cc)
or_both false b e = (refl, e)

named_at_work : (sub : List ℕ) (rs : List Registered) → list_any (λ r. is_work_place r.at) rs ≡ false → is_at_work (substrate_named sub rs) ≡ false
named_at_work sub [] none = refl
named_at_work sub (r ∷ rs) none =
    let parts = or_both (is_work_place r.at) (list_any (λ (s : Registered). is_work_place s.at) rs) none in
    of (has_name sub r) parts.0 (named_at_work sub rs parts.1)
  where
    of : (b : Bool) → is_work_place r.at ≡ false → is_at_work (substrate_named sub rs) ≡ false → is_at_work (if b then Some r else substrate_named sub rs) ≡ false
    of true here later = here
    of false here later = later

pub none_outside : (s : Substrate) (p : PlaceMap) → is_any_at_work p ≡ false → is_outside s p ≡ false
none_outside s p none = named_at_work s.sub p.held none

and_false : (a b : Bool) → b ≡ false → (a && b) ≡ false
and_false true b e = e
and_false false b e = refl

pub has_none_outside : (carrier : ℕ) (p : PlaceMap) (ss : List Substrate) → is_any_at_work p ≡ false → list_any (λ s. is_of carrier s && is_outside s p) ss ≡ false
has_none_outside carrier p [] none = refl
has_none_outside carrier p (s ∷ ss) none = rw (and_false (is_of carrier s) (is_outside s p) (none_outside s p none)) (has_none_outside carrier p ss none)
