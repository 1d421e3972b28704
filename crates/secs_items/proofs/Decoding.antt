-- What the reading of the whole input gives, in the words of the grammar.
use Rattle.std.proofs.Common.{◌≡◌, ◌≢◌, ◌≤◌, ◌+◌, ◌-◌, ℕ, List, length, take, drop, get_or, Result, Ok, Err, refl, ap, sym, ◌∙◌, subst, arith, length-append, length-drop, Fits, w8}
use Rattle.std.proofs.lemmas.List.{take_at, take-append-drop}
use Rattle.item_model.specs.Data.{Data}
use Rattle.secs_items.specs.Faults.{IsFirst}
use Rattle.secs_items.specs.Given.{Fails}
use Rattle.item_model.specs.Reading.{item_at}
use Rattle.item_model.specs.Sendable.{IsSendable}
use Rattle.item_model.specs.Spelling.{AreBelow, Spells}
use Rattle.item_model.specs.declared.fault.ItemFault.{ItemFault}
use Rattle.item_model.specs.declared.fault.ItemFault.TheVariants as fault
use Rattle.secs_items.proofs.Digits.{below_from}
use Rattle.secs_items.proofs.Failing.{err_is}
use Rattle.secs_items.proofs.Grammar.{again, found}
use Rattle.secs_items.proofs.Heads.{ok_is}
use Rattle.secs_items.proofs.Sends.{sendable}
use Rattle.secs_items.proofs.Standing.{told_first, first_told}

pub bytes_below : (input : List ℕ) → ((i : ℕ) → Fits w8 (get_or input i 0)) → AreBelow 256 input
bytes_below input fits = below_from 256 input (λ i. let f = fits i in omega (arith, f))

pub spelled_front : (input rest : List ℕ) (x : Data) → AreBelow 256 input → item_at 16 (length input) input ≡ Ok (x, rest) →
    Spells x 0 (take (length input - length rest) input)
spelled_front input rest x below read =
    let (front, split, spells) = found 16 x 0 input rest (length input) refl below read in
    let size : length input ≡ length front + length rest = ap length split ∙ length-append front rest in
    let count : length input - length rest ≡ length front = omega (arith, size) in
    let same : take (length input - length rest) input ≡ front = ap (λ (n : ℕ). take n input) count ∙ ap (take (length front)) split ∙ take_at front rest (length front) refl in
    subst (Spells x 0) (sym same) spells

pub sendable_front : (input rest : List ℕ) (x : Data) → AreBelow 256 input → item_at 16 (length input) input ≡ Ok (x, rest) → IsSendable x
sendable_front input rest x below read = sendable x (take (length input - length rest) input) (spelled_front input rest x below read)

pub spelled_read : (input : List ℕ) (d : Data) (n : ℕ) → Spells d 0 (take n input) → item_at 16 (length input) input ≡ Ok (d, drop n input)
spelled_read input d n spells =
    ap (item_at 16 (length input)) (sym (take-append-drop n input)) ∙ again 16 d 0 (take n input) (drop n input) (length input) refl spells

pub only_ok : (input rest : List ℕ) (x d : Data) (n : ℕ) → item_at 16 (length input) input ≡ Ok (x, rest) → n ≤ length input → Spells d 0 (take n input) →
    Path (Result (Data × ℕ) ItemFault) (Ok (d, n)) (Ok (x, length input - length rest))
only_ok input rest x d n read within spells =
    let parts : (d, drop n input) ≡ (x, rest) = ok_is (sym (spelled_read input d n spells) ∙ read) in
    let data_is : d ≡ x = ap (λ (p : Data × List ℕ). p.0) parts in
    let behind : drop n input ≡ rest = ap (λ (p : Data × List ℕ). p.1) parts in
    let count : n ≡ length input - length rest = omega (arith, ap length behind, length-drop n input) in
    ap (λ (c : Data). Ok (c, n)) data_is ∙ ap (λ (m : ℕ). Ok (x, m)) count

pub no_fault : (input rest : List ℕ) (x : Data) (e : ItemFault) → AreBelow 256 input → item_at 16 (length input) input ≡ Ok (x, rest) → IsFirst input e → ⊥
no_fault input rest x e below read first = let failed = first_told input e below first in cc

pub only_err : (input : List ℕ) (e : ItemFault) (d : Data) (n : ℕ) → Fails e (item_at 16 (length input) input) → Spells d 0 (take n input) → Fails {A = Data × ℕ} e (Ok (d, n))
only_err input fault.NoMemory d n failed spells = tt
only_err input e d n failed spells = absurd (let read = spelled_read input d n spells in cc)

pub fault_first : (input : List ℕ) (e : ItemFault) → AreBelow 256 input → Fails e (item_at 16 (length input) input) → e ≢ fault.NoMemory → IsFirst input e
fault_first input fault.NoMemory below failed other = absurd (other refl)
fault_first input e below failed other = told_first input e below failed

pub first_err : (input : List ℕ) (f e : ItemFault) → AreBelow 256 input → Fails f (item_at 16 (length input) input) → IsFirst input e → Fails {A = Data × ℕ} f (Err e)
first_err input fault.NoMemory e below failed first = tt
first_err input f e below failed first = ap (λ (g : ItemFault). Err g) (err_is (sym (first_told input e below first) ∙ failed))
