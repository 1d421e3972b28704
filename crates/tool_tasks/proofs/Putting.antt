-- One element more in a fixed number of places.
use Rattle.std.proofs.Common.{◌≡◌, ℕ, ◌+◌, ◌-◌, ◌<◌, List, drop, replicate, set, sym, ap, ◌∙◌, arith, length-set}
use Rattle.std.proofs.lemmas.List.{drop-set-lt, drop-drop, drop-replicate}
use Rattle.tool_tasks.specs.Places.{Holds}

-- one blank place fewer stands behind an element that is put behind the others
blanks_fewer : {X : Type 0} (most : ℕ) (blank : X) (places : List X) (count : ℕ) (x : X) → Holds most blank places count → drop (count + 1) (set places count x) ≡ replicate (most - (count + 1)) blank
blanks_fewer {X} most blank places count x h =
    let others = drop-set-lt (count + 1) places count x (omega arith) in
    let behind = ap (drop 1) h.blanks in
    let fewer = drop-replicate {X = X} 1 (most - count) blank in
    let left : most - count - 1 ≡ most - (count + 1) = omega arith in
    others ∙ sym (drop-drop 1 count places) ∙ behind ∙ fewer ∙ ap (λ n. replicate n blank) left

-- the places hold the list with one element more
pub holds_more : {X : Type 0} (most : ℕ) (blank : X) (places : List X) (count : ℕ) (x : X) → Holds most blank places count → count < most → Holds most blank (set places count x) (count + 1)
holds_more most blank places count x h room = record {
  fits = omega arith;
  size = rw length-set h.size;
  blanks = blanks_fewer most blank places count x h;
}
