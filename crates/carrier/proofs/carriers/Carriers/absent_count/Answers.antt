use Rattle.std.proofs.Common.{◌+◌, ◌∙◌, ap, sym, arith, ℕ}
use Rattle.carrier.proofs.Absent.{absent_next, present_next}
use Rattle.carrier.proofs.carriers.Carriers.absent_count.Goals.{then-is_absent_at, else-is_absent_at}
use Rattle.carrier.proofs.carriers.Carriers.absent_count.Goals as goal

pub loop-place-preserved : goal.loop-place-preserved
loop-place-preserved c = elim c.if-is_absent_at.branch [
  | then-is_absent_at w ↦
      let few = c.loop-place.invariant.few in
      record {
        counted = w.count-is ∙ ap (λ (n : ℕ). n + 1) c.loop-place.invariant.counted ∙ sym (absent_next c.args.self.now c.loop-place.place (sym c.is_absent_at.ensures ∙ w.if-is_absent_at.true));
        few = omega (arith, w.count-is, few);
      }
  | else-is_absent_at w ↦
      let few = c.loop-place.invariant.few in
      record {
        counted = w.count-is ∙ c.loop-place.invariant.counted ∙ sym (present_next c.args.self.now c.loop-place.place (sym c.is_absent_at.ensures ∙ w.if-is_absent_at.false));
        few = omega (arith, w.count-is, few);
      }
]
