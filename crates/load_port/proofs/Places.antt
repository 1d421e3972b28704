-- What a change at one place does to a list.
use Rattle.std.proofs.Common.{◌≡◌, ℕ, zero, suc, ◌+◌, ◌<◌, ◌≤◌, List, [], ◌∷◌, length, set, Option, Some, None, IfSome, slice_get, slice_index_or, refl, ap, ◌∙◌, arith}
use Rattle.std.specs.List.{refill}
use Rattle.std.proofs.lemmas.List.{length-set}
use Rattle.arrayvec.proofs.ArrayVecLemmas.{items-with_items}
use Rattle.gem_tables.specs.Table.{update_at}
use Rattle.load_port.specs.declared.port.Port.{Port}
use Rattle.load_port.specs.Ports.{port_numbered, change_port}

-- what follows from an object that is found holds where one is
pub if_found : {O : Type 0} (found : Option O) (P : Type 0) → ((x : O) → found ≡ Some x → P) → IfSome found (λ _. P)
if_found None P follows = tt
if_found (Some x) P follows = follows x refl

module _ {O : Type 0} where
  -- what the object at the place becomes is all that counts of a change
  pub update_found : (change : O → O) (place : ℕ) (objects : List O) (object : O) → slice_get objects place ≡ Some object → update_at place (λ _. change object) objects ≡ update_at place change objects
  update_found change place [] object s = absurd (cc)
  update_found change zero (x ∷ xs) object s =
      let same : object ≡ x = cc in
      ap (λ y. change y ∷ xs) same
  update_found change (suc place) (x ∷ xs) object s = ap (λ ys. x ∷ ys) (update_found change place xs object s)

  -- a place where there is none changes nothing
  pub update_none : (change : O → O) (place : ℕ) (objects : List O) → length objects ≤ place → update_at place change objects ≡ objects
  update_none change place [] l = refl
  update_none change zero (x ∷ xs) l = absurd (omega arith)
  update_none change (suc place) (x ∷ xs) l = ap (λ ys. x ∷ ys) (update_none change place xs (omega arith))

  pub update_missing : (change : O → O) (place : ℕ) (objects : List O) → slice_get objects place ≡ None → update_at place change objects ≡ objects
  update_missing change place [] s = refl
  update_missing change zero (x ∷ xs) s = absurd (cc)
  update_missing change (suc place) (x ∷ xs) s = ap (λ ys. x ∷ ys) (update_missing change place xs s)

  -- a place that is written
  pub update_set : (place : ℕ) (objects : List O) (object : O) → place < length objects → set objects place object ≡ update_at place (λ _. object) objects
  update_set place [] object l = absurd (omega arith)
  update_set zero (x ∷ xs) object l = refl
  update_set (suc place) (x ∷ xs) object l = ap (λ ys. x ∷ ys) (update_set place xs object (omega arith))

  -- what is at a place that is there
  pub there_is : (place : ℕ) (objects : List O) (other : O) → place < length objects → slice_get objects place ≡ Some (slice_index_or objects place other)
  there_is place [] other l = absurd (omega arith)
  there_is zero (x ∷ xs) other l = refl
  there_is (suc place) (x ∷ xs) other l = there_is place xs other (omega arith)

  -- what is changed where it stands
  update_there : (change : O → O) (place : ℕ) (objects : List O) (other : O) → place < length objects → set objects place (change (slice_index_or objects place other)) ≡ update_at place change objects
  update_there change place [] other l = absurd (omega arith)
  update_there change zero (x ∷ xs) other l = refl
  update_there change (suc place) (x ∷ xs) other l = ap (λ ys. x ∷ ys) (update_there change place xs other (omega arith))

-- ---- the port of a number

module _ (ports : List Port) (number place : ℕ) (other : Port) (within : place < length ports) (counted : number ≡ place + 1) where
  is_next : number ≡ suc place
  is_next = omega (arith, counted)

  pub numbered_there : port_numbered number ports ≡ Some (slice_index_or ports place other)
  numbered_there = rw is_next (there_is place ports other within)

  -- the port is changed where it stands, in a list that keeps its length
  refill_there : (change : Port → Port) → refill (length ports) ports (set ports place (change (slice_index_or ports place other))) ≡ change_port number change ports
  refill_there change =
      items-with_items (record { items = ports }) (set ports place (change (slice_index_or ports place other))) (length-set ports place (change (slice_index_or ports place other)))
      ∙ rw is_next (update_there change place ports other within)

-- the same of the list that is kept, and of the one that is shown
pub changed_there : (kept shown ports : List Port) (number place : ℕ) (other : Port) (change : Port → Port) → shown ≡ kept → kept ≡ ports → place < length ports → number ≡ place + 1 → refill (length kept) kept (set shown place (change (slice_index_or shown place other))) ≡ change_port number change ports
changed_there kept shown ports number place other change s v within counted = rw (s, v) (refill_there ports number place other within counted change)

pub change_missing : (change : Port → Port) (number : ℕ) (ports : List Port) → port_numbered number ports ≡ None → change_port number change ports ≡ ports
change_missing change zero ports s = refl
change_missing change (suc n) ports s = update_missing change n ports s
