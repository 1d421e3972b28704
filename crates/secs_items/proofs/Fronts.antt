-- What stands before a fault, and that each input is read or at fault.
use Rattle.std.proofs.Common.{◌≡◌, ◌<◌, ◌≤◌, ◌+◌, ◌-◌, ◌*◌, ◌⊎◌, ℕ, List, [], ◌∷◌, ◌++◌, length, take, drop, Result, Ok, Err, refl, ap, sym, ◌∙◌, subst, inl, inr, arith, append-nil}
use Rattle.std.proofs.lemmas.List.{take-append-drop, take_all}
use Rattle.std.specs.Int.{bytes_high_first}
use Rattle.item_model.specs.Data.{Data}
use Rattle.secs_items.specs.Faults.{Begins, Stands, IsFirst, place_of}
use Rattle.item_model.specs.Format.{code}
use Rattle.item_model.specs.Reading.{item_at}
use Rattle.item_model.specs.Spelling.{AreBelow, IsHead, Spells, Open}
use Rattle.item_model.specs.declared.fault.ItemFault.{ItemFault}
use Rattle.item_model.specs.declared.fault.ItemFault.TheVariants as fault
use Rattle.item_model.specs.declared.format.Format.TheVariants as format
use Rattle.secs_items.proofs.Characters.{position-below}
use Rattle.secs_items.proofs.Cut.{none_cut, leaf_cut}
use Rattle.secs_items.proofs.Decoding.{spelled_front}
use Rattle.secs_items.proofs.Digits.{below_left}
use Rattle.secs_items.proofs.Heads.{head_reads}
use Rattle.secs_items.proofs.Standing.{begins_depth, path, told_stands, told_first}
use Rattle.secs_items.proofs.Stepping.{leaf_item}

-- the bytes before an item
begins_open : (depth : ℕ) (front : List ℕ) → AreBelow 256 front → Begins depth front → Open front
begins_open depth front below begins =
    let total = length front in
    let end : ItemFault = fault.Truncated total in
    let low = begins_depth depth front begins in
    let failed = path depth (16 - depth) total front [] end (omega arith) begins (none_cut (16 - depth) total) in
    (told_stands front end below (ap (item_at 16 total) (sym (append-nil front)) ∙ failed)).0

-- the bytes before a byte of a text
text_open : (depth n : ℕ) (front head text : List ℕ) → AreBelow 256 (front ++ (head ++ text)) → Begins depth front → IsHead format.Ascii n head →
    AreBelow 128 text → length text < n → Open (front ++ (head ++ text))
text_open depth n front head text below begins (k, one, small, fits, head_same) low fewer =
    let bytes = front ++ (head ++ text) in
    let total = length bytes in
    let end : ItemFault = fault.Truncated total in
    let lens = bytes_high_first k n in
    let whole : List ℕ = ((4 * code format.Ascii + k) ∷ lens) ++ text in
    let reads = head_reads format.Ascii n k text total one small fits in
    let cut : item_at (16 - depth) total whole ≡ Err end =
    leaf_item (16 - depth) total k whole (lens ++ text) format.Ascii reads.0 refl
    ∙ leaf_cut total (total - length whole) k n format.Ascii (lens ++ text) text reads.1 (omega arith) fewer (position-below text low) in
    let deep = begins_depth depth front begins in
    let same : bytes ≡ front ++ whole = ap (λ (h : List ℕ). front ++ (h ++ text)) head_same in
    (told_stands bytes end below (ap (item_at 16 total) same ∙ path depth (16 - depth) total front whole end (omega arith) begins cut)).0

take_below : (p : ℕ) (input : List ℕ) → AreBelow 256 input → AreBelow 256 (take p input)
take_below p input below = below_left 256 (take p input) (drop p input) (subst (AreBelow 256) (sym (take-append-drop p input)) below)

pub fault_open : (input : List ℕ) (e : ItemFault) → AreBelow 256 input → Stands input e → Open (take (place_of e) input)
fault_open input (fault.Truncated p) below (open_input, end) = subst Open (sym (take_all p input (omega arith))) open_input
fault_open input (fault.BadLengthBytes p) below (depth, begins, none) = begins_open depth (take p input) (take_below p input below) begins.0
fault_open input (fault.BadCode p c) below (depth, begins, coded, unknown) = begins_open depth (take p input) (take_below p input below) begins.0
fault_open input (fault.BadWidth p) below (depth, f, n, head, behind, begins, is_head, bad, is) = begins_open depth (take p input) (take_below p input below) begins
fault_open input (fault.BadAscii p) below (depth, n, front, head, text, begins, is_head, low, fewer, is, inside, over) =
    subst Open (sym is) (text_open depth n front head text (subst (AreBelow 256) is (take_below p input below)) begins is_head low fewer)
fault_open input (fault.TooDeep p) below (begins, coded) = begins_open 16 (take p input) (take_below p input below) begins.0
fault_open input fault.NoMemory below stands = elim stands [ ]

-- each input is read or at fault
answered : (input : List ℕ) (answer : Result (Data × List ℕ) ItemFault) → AreBelow 256 input → item_at 16 (length input) input ≡ answer →
    ((d : Data) × (n : ℕ) × (n ≤ length input) × Spells d 0 (take n input)) ⊎ ((e : ItemFault) × IsFirst input e)
answered input (Ok r) below read = inl (r.0, length input - length r.1, omega arith, spelled_front input r.1 r.0 below read)
answered input (Err e) below read = inr (e, told_first input e below read)

pub read_or_fault : (input : List ℕ) → AreBelow 256 input →
    ((d : Data) × (n : ℕ) × (n ≤ length input) × Spells d 0 (take n input)) ⊎ ((e : ItemFault) × IsFirst input e)
read_or_fault input below = answered input (item_at 16 (length input) input) below refl
