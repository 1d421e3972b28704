use Rattle.std.proofs.Common.{◌≡◌, ℕ, ◌+◌, ◌-◌, ◌<◌, List, length, drop, replicate, set, sym, ap, ◌∙◌, arith, length-set}
use Rattle.std.proofs.lemmas.List.{take_more_set, drop-set-lt, drop-drop, drop-replicate}
use Rattle.std.proofs.lemmas.List.Elements.{All-push}
use Rattle.gem_ids.specs.Texts.{IsPrintable}
use Rattle.gem_ids.specs.Held.{HoldsText, held_length}
use Rattle.gem_ids.proofs.text.Text80.push.Goals as goal

-- one zero fewer stands behind a byte that is put behind the text
zeros_fewer : (bytes : List ℕ) (len byte : ℕ) → HoldsText bytes len → drop (len + 1) (set bytes len byte) ≡ replicate (80 - (len + 1)) 0
zeros_fewer bytes len byte h =
    let others = drop-set-lt (len + 1) bytes len byte (omega arith) in
    let behind = ap (drop 1) h.zeros in
    let fewer = drop-replicate {X = ℕ} 1 (80 - len) 0 in
    let count : 80 - len - 1 ≡ 80 - (len + 1) = omega arith in
    others ∙ sym (drop-drop 1 len bytes) ∙ behind ∙ fewer ∙ ap (λ n. replicate n 0) count

holds_more : (bytes : List ℕ) (len byte : ℕ) → HoldsText bytes len → len < 80 → IsPrintable byte → HoldsText (set bytes len byte) (len + 1)
holds_more bytes len byte h room prints = record {
  fits = omega arith;
  size = rw length-set h.size;
  printable = rw (take_more_set bytes len byte (omega arith)) (All-push IsPrintable _ byte h.printable prints);
  zeros = zeros_fewer bytes len byte h;
}

pub invariant_of-self : goal.invariant_of-self
invariant_of-self c =
    let len = held_length _ _ c.self.invariant in
    let text = ap length c.self.view_is in
    holds_more _ _ _ c.self.invariant (omega arith) c.requires.printable
