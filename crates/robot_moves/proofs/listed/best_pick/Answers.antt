use Rattle.std.proofs.Common.{Option, Some, ◌+◌, drop, filter, sym, ap, ◌∙◌}
use Rattle.robot_moves.specs.Moves.{is_useful, first_among}
use Rattle.robot_moves.specs.declared.view.PlaceView.{PlaceView}
use Rattle.robot_moves.proofs.Joined.{joined, joined_passes, joined_fails}
use Rattle.robot_moves.proofs.listed.best_pick.Goals.{then-is_useful, else-is_useful}
use Rattle.robot_moves.proofs.listed.best_pick.Goals as goal

pub loop-v-preserved : goal.loop-v-preserved
loop-v-preserved c =
    let left = first_among (filter (is_useful c.args.places.now c.args.modules.now) (drop (c.loop-v.v-index + 1) c.args.places.now)) in
    elim c.if-is_useful.branch [
      | then-is_useful w ↦
          ap (λ (o : Option PlaceView). joined o left) (w.best-is ∙ ap (λ (v : PlaceView). Some v) w.better.ensures)
          ∙ joined_passes (is_useful c.args.places.now c.args.modules.now) c.loop-v.best c.args.places.now c.loop-v.v-index c.v-item.result c.loop-v-test.true c.v-item.is (sym c.is_useful.ensures ∙ w.if-is_useful.true)
          ∙ c.loop-v.invariant
      | else-is_useful w ↦
          ap (λ (o : Option PlaceView). joined o left) w.best-is
          ∙ joined_fails (is_useful c.args.places.now c.args.modules.now) c.loop-v.best c.args.places.now c.loop-v.v-index c.v-item.result c.loop-v-test.true c.v-item.is (sym c.is_useful.ensures ∙ w.if-is_useful.false)
          ∙ c.loop-v.invariant
    ]
