-- A text that is one item, in the words of the grammar.
use Rattle.std.proofs.Common.{◌≡◌, ◌≢◌, ◌<◌, ◌≤◌, ◌-◌, ℕ, List, [], ◌∷◌, length, take, drop, Some, None, Ok, Err, refl, ap, sym, ◌∙◌, subst, arith, append-nil, length-drop}
use Rattle.std.proofs.lemmas.List.{take_all}
use Rattle.item_model.specs.Data.{Data}
use Rattle.secs_items.specs.Faults.{IsFirst}
use Rattle.item_model.specs.One.{whole, one_item}
use Rattle.item_model.specs.Reading.{Read, item_at}
use Rattle.item_model.specs.Spelling.{AreBelow, Spells}
use Rattle.item_model.specs.declared.fault.ItemFault.{ItemFault}
use Rattle.secs_items.proofs.Decoding.{spelled_read}
use Rattle.secs_items.proofs.Grammar.{again, found}
use Rattle.secs_items.proofs.Standing.{first_told}

whole_is : (r : Read Data) (d : Data) → whole r ≡ Some d → r ≡ Ok (d, [])
whole_is (Ok (x, [])) d same = cc
whole_is (Ok (x, b ∷ bytes)) d same = absurd (cc)
whole_is (Err e) d same = absurd (cc)

whole_longer : (d : Data) (rest : List ℕ) → 0 < length rest → whole (Ok (d, rest)) ≡ None
whole_longer d [] longer = absurd (omega arith)
whole_longer d (b ∷ bytes) longer = refl

pub one_spelled : (text : List ℕ) (d : Data) → AreBelow 256 text → one_item text ≡ Some d → Spells d 0 text
one_spelled text d below one =
    let read = whole_is (item_at 16 (length text) text) d one in
    let (front, split, spells) = found 16 d 0 text [] (length text) refl below read in
    subst (Spells d 0) (sym (split ∙ append-nil front)) spells

pub spelled_one : (text : List ℕ) (d : Data) → Spells d 0 text → one_item text ≡ Some d
spelled_one text d spells =
    ap whole (ap (item_at 16 (length text)) (sym (append-nil text)) ∙ again 16 d 0 text [] (length text) refl spells)

-- the front that is an item is the whole text
pub front_one : (text : List ℕ) (d : Data) (n : ℕ) → n ≡ length text → Spells d 0 (take n text) → one_item text ≡ Some d
front_one text d n whole_text spells = spelled_one text d (subst (Spells d 0) (take_all n text (omega arith)) spells)

-- bytes stand behind the item
pub longer_none : (text : List ℕ) (d : Data) (n : ℕ) → n < length text → Spells d 0 (take n text) → one_item text ≡ None
longer_none text d n shorter spells =
    let size : length (drop n text) ≡ length text - n = length-drop n text in
    ap whole (spelled_read text d n spells) ∙ whole_longer d (drop n text) (omega arith)

-- no item stands at the front
pub fault_none : (text : List ℕ) (e : ItemFault) → AreBelow 256 text → IsFirst text e → one_item text ≡ None
fault_none text e below first = ap whole (first_told text e below first)
