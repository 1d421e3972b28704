use Rattle.std.proofs.Common.{◌≡◌, ◌≤◌, ℕ, nat_lt, Bool, true, false, sym, ap, ◌∙◌, arith}
use Rattle.std.specs.List.{list_all}
use Rattle.tool_tasks.specs.Chambers.{last_chamber, has_chamber, chamber_list}
use Rattle.configuration.proofs.Steps.{all_fails, all_lacks, all_passes}
use Rattle.configuration.proofs.routes.is_before.Goals.{else-has_chamber-via-then-has_chamber+else-not-is_before_each, else-has_chamber-via-else-has_chamber}
use Rattle.configuration.proofs.routes.is_before.Goals as goal

-- a chamber is before each of a set
abbrev before_each : ℕ → ℕ → Bool
before_each set c = list_all (nat_lt c) (chamber_list set)

pub returns-then-not-is_before_each : goal.returns-then-not-is_before_each
returns-then-not-is_before_each c =
    let less = c.loop-chamber-test.true in
    let has : has_chamber c.args.earlier c.loop-chamber.chamber ≡ true = ap (λ set. has_chamber set c.loop-chamber.chamber) (sym c.bits.ensures) ∙ sym c.has_chamber.ensures ∙ c.if-has_chamber.true in
    sym (c.loop-chamber.invariant ∙ all_fails (before_each c.args.later) c.args.earlier c.loop-chamber.chamber (omega (arith, less)) has (sym c.is_before_each.ensures ∙ c.if-not-is_before_each.true))

pub loop-chamber-preserved : goal.loop-chamber-preserved
loop-chamber-preserved c =
    let less = c.loop-chamber-test.true in
    let last : c.loop-chamber.chamber ≤ last_chamber = omega (arith, less) in
    elim c.else-has_chamber.branch [
      | else-has_chamber-via-then-has_chamber+else-not-is_before_each w ↦
          c.loop-chamber.invariant
          ∙ all_passes (before_each c.args.later) c.args.earlier c.loop-chamber.chamber last
          (ap (λ set. has_chamber set c.loop-chamber.chamber) (sym c.bits.ensures) ∙ sym c.has_chamber.ensures ∙ w.if-has_chamber.true) (sym w.is_before_each.ensures ∙ w.if-not-is_before_each.false)
      | else-has_chamber-via-else-has_chamber w ↦
          c.loop-chamber.invariant
          ∙ all_lacks (before_each c.args.later) c.args.earlier c.loop-chamber.chamber last (ap (λ set. has_chamber set c.loop-chamber.chamber) (sym c.bits.ensures) ∙ sym c.has_chamber.ensures ∙ w.if-has_chamber.false)
    ]
