use Rattle.std.proofs.Common.{◌≡◌, ◌≤◌, nat_lt, true, false, sym, ap, ◌∙◌, arith}
use Rattle.std.proofs.lemmas.Bool.Decides.{nat_tests}
use Rattle.tool_tasks.specs.Chambers.{last_chamber, has_chamber}
use Rattle.configuration.proofs.Steps.{all_fails, all_lacks, all_passes}
use Rattle.configuration.proofs.routes.is_before_each.Goals.{else-has_chamber-via-then-has_chamber+else-other-chamber, else-has_chamber-via-else-has_chamber}
use Rattle.configuration.proofs.routes.is_before_each.Goals as goal

pub returns-then-other-chamber : goal.returns-then-other-chamber
returns-then-other-chamber c =
    let less = c.loop-other-test.true in
    let under = c.if-other-chamber.true in
    let has : has_chamber c.args.set c.loop-other.other ≡ true = ap (λ set. has_chamber set c.loop-other.other) (sym c.bits.ensures) ∙ sym c.has_chamber.ensures ∙ c.if-has_chamber.true in
    sym (c.loop-other.invariant ∙ all_fails (nat_lt c.args.chamber) c.args.set c.loop-other.other (omega (arith, less)) has (grind (arith, nat_tests, under)))

pub loop-other-preserved : goal.loop-other-preserved
loop-other-preserved c =
    let less = c.loop-other-test.true in
    let last : c.loop-other.other ≤ last_chamber = omega (arith, less) in
    elim c.else-has_chamber.branch [
      | else-has_chamber-via-then-has_chamber+else-other-chamber w ↦
          let over = w.if-other-chamber.false in
          c.loop-other.invariant
          ∙ all_passes (nat_lt c.args.chamber) c.args.set c.loop-other.other last
          (ap (λ set. has_chamber set c.loop-other.other) (sym c.bits.ensures) ∙ sym c.has_chamber.ensures ∙ w.if-has_chamber.true) (grind (arith, nat_tests, over))
      | else-has_chamber-via-else-has_chamber w ↦
          c.loop-other.invariant
          ∙ all_lacks (nat_lt c.args.chamber) c.args.set c.loop-other.other last (ap (λ set. has_chamber set c.loop-other.other) (sym c.bits.ensures) ∙ sym c.has_chamber.ensures ∙ w.if-has_chamber.false)
    ]
