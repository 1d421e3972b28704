use Rattle.std.proofs.Common.{◌≡◌, ℕ, ◌+◌, true, sym, ap, subst, ◌∙◌, arith}
use Rattle.std.specs.List.{list_all}
use Rattle.substrate.specs.Locations.{is_location}
use Rattle.substrate.specs.Places.{PlaceMap, is_taken_at}
use Rattle.substrate.proofs.Numbering.{any_at_work, none_at_work, taken_next}
use Rattle.substrate.proofs.places.Places.is_any_at_work.Goals as goal

abbrev are_within : PlaceMap → Type 0
are_within p = list_all (λ r. is_location p.ports p.chambers r.at) p.held ≡ true

pub loop-spot-init : goal.loop-spot-init
loop-spot-init c =
    let ports = ap (λ (p : PlaceMap). p.ports) c.self.view_is in
    let first = c.slot_count-spot.ensures in
    (omega (arith, ports, first), λ n past within. absurd (omega (arith, ports, first, past, within)))

pub returns-then-is_taken_at : goal.returns-then-is_taken_at
returns-then-is_taken_at c =
    sym (any_at_work c.args.self.now.ports c.args.self.now.chambers (c.loop-spot.spot + 1) c.args.self.now.held (subst are_within c.self.view_is c.self.invariant.places.within) (let past = c.loop-spot.invariant.0 in omega (arith, past))
    (sym c.is_taken_at.ensures ∙ c.if-is_taken_at.true))

pub loop-spot-preserved : goal.loop-spot-preserved
loop-spot-preserved c =
    let past = c.loop-spot.invariant.0 in (
      omega (arith, past),
      λ n over within. taken_next n (c.loop-spot.spot + 1) (λ (k : ℕ). is_taken_at k c.args.self.now) (sym c.is_taken_at.ensures ∙ c.if-is_taken_at.false) (λ less. c.loop-spot.invariant.1 n over less) within,
    )

pub returns : goal.returns
returns c =
    let ports = ap (λ (p : PlaceMap). p.ports) c.self.view_is in
    let chambers = ap (λ (p : PlaceMap). p.chambers) c.self.view_is in
    let count = c.len-spot-end.ensures in
    sym (none_at_work c.args.self.now.ports c.args.self.now.chambers c.args.self.now.held (subst are_within c.self.view_is c.self.invariant.places.within)
    (λ n over within. c.loop-spot.invariant.1 n over (omega (arith, within, count, ports, chambers, c.loop-spot-test.false))))
