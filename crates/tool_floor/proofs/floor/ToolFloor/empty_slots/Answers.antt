use Rattle.std.proofs.Common.{◌≡◌, ◌+◌, ◌-◌, ℕ, suc, List, drop, length, slice_get, refl, sym, ap, ◌∙◌, arith}
use Rattle.substrate.specs.Places.{PlaceMap}
use Rattle.floor_model.specs.Floor.{ToolFloor}
use Rattle.floor_model.specs.Substrates.{emptied, removed_of}
use Rattle.floor_model.specs.declared.tracked.Substrate.{Substrate}
use Rattle.tool_floor.proofs.Emptied.{emptied_before, emptied_none}
use Rattle.tool_floor.proofs.floor.ToolFloor.empty_slots.Goals as goal

pub loop-done-init : goal.loop-done-init
loop-done-init c =
    let now : ToolFloor = c.args.self.now in
    let all : length now.substrates ≡ c.substrate_count-count.result - 0 = omega (arith, c.substrate_count-count.ensures.count) in
    (refl, emptied_none c.args.carrier now.substrates now.places ∙ ap (λ (n : ℕ). removed_of c.args.carrier (drop n now.substrates) now.places) all)

pub loop-done-preserved : goal.loop-done-preserved
loop-done-preserved c =
    let now : ToolFloor = c.args.self.now in
    let count : ℕ = c.substrate_count-count.result in
    let place : ℕ = count - 1 - c.loop-done.done in
    let next : count - c.loop-done.done ≡ suc place = omega (arith, c.loop-done-test.true) in
    let same : place ≡ count - (c.loop-done.done + 1) = omega arith in
    let substrates : c.loop-done.self.substrates ≡ now.substrates = ap (λ (f : ToolFloor). f.substrates) c.loop-done.invariant.0 in
    let places = ap (λ (f : ToolFloor). f.places) c.empty_slot.ensures ∙ ap (λ (ss : List Substrate). emptied c.args.carrier (slice_get ss place) c.loop-done.self.places) substrates in (
      c.empty_slot.ensures ∙ ap (λ (f : ToolFloor). record f { places = emptied c.args.carrier (slice_get c.loop-done.self.substrates place) c.loop-done.self.places }) c.loop-done.invariant.0
          ∙ ap (λ (p : PlaceMap). record now { places = p }) (sym (ap (λ (f : ToolFloor). f.places) c.empty_slot.ensures)),
      places
          ∙ ap (emptied c.args.carrier (slice_get now.substrates place)) c.loop-done.invariant.1
          ∙ ap (λ (n : ℕ). emptied c.args.carrier (slice_get now.substrates place) (removed_of c.args.carrier (drop n now.substrates) now.places)) next
          ∙ emptied_before c.args.carrier now.substrates place now.places
          ∙ ap (λ (n : ℕ). removed_of c.args.carrier (drop n now.substrates) now.places) same,
    )

pub returns : goal.returns
returns c =
    let now : ToolFloor = c.args.self.now in
    let none : c.substrate_count-count.result - c.loop-done.done ≡ 0 = omega (arith, c.loop-done-test.false) in
    c.loop-done.invariant.0
    ∙ ap (λ (p : PlaceMap). record now { places = p }) (c.loop-done.invariant.1 ∙ ap (λ (n : ℕ). removed_of c.args.carrier (drop n now.substrates) now.places) none)
