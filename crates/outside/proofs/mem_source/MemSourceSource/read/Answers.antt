use Rattle.std.proofs.Common.{◌≡◌, ℕ, ◌+◌, List, ◌++◌, take, drop, refl, sym, ap, ◌∙◌}
use Rattle.std.proofs.lemmas.List.{take-append-drop, drop-drop}
use Rattle.outside.proofs.mem_source.MemSourceSource.read.Goals as goal

-- what is left splits into the bytes that are read and those behind them
left_splits : (bytes : List ℕ) (at n : ℕ) (left read : List ℕ) → left ≡ drop at bytes → read ≡ take n (drop at bytes) → left ≡ read ++ drop (at + n) bytes
left_splits bytes at n left read e f =
    e ∙ sym (take-append-drop n (drop at bytes)) ∙ ap (λ front. front ++ drop n (drop at bytes)) (sym f) ∙ ap (λ behind. read ++ behind) (drop-drop n at bytes)

pub returns-clause-taken : goal.returns-clause-taken
returns-clause-taken c =
    let inside = c.self.inside in
    let left = ap (λ source. source.left) (sym c.self.view_is) in
    let rest = c.rest_of.ensures ∙ ap (drop inside.at) c.as_slice.ensures.value in
    let read = c.copy_front-n.ensures.front ∙ ap (take c.copy_front-n.result) rest in
    (_, left_splits inside.bytes.items inside.at c.copy_front-n.result _ _ left read, refl)
