-- The modules that have a command that was fetched.
use Rattle.std.proofs.Common.{◌≡◌, ℕ, zero, suc, ◌+◌, ◌<◌, ◌≤◌, List, [], ◌∷◌, ◌++◌, drop, length, slice_get, refl, sym, ◌∙◌, ap, append_assoc, arith}
use Rattle.std.proofs.lemmas.List.{append-nil}
use Rattle.robot_moves.specs.declared.module.Module.{Module}
use Rattle.robot_moves.specs.Modules.{fetched_number}
use Rattle.batch_model.specs.declared.fetched.Fetched.{Fetched}
use Rattle.batch_model.specs.Modules.{fetched_as, fetched_from}

busy_suc : (n : ℕ) (ms : List Module) (i : ℕ) → i < length ms → fetched_from n (drop i ms) ≡ fetched_as n (fetched_number (slice_get ms i)) ++ fetched_from (n + 1) (drop (suc i) ms)
busy_suc n [] i within = absurd (omega (arith, within))
busy_suc n (m ∷ ms) zero within = refl
busy_suc n (m ∷ ms) (suc i) within = busy_suc n ms i (omega (arith, within))

-- the modules from a place on are the one there and those behind it
pub busy-next : (ms : List Module) (i : ℕ) → i < length ms → fetched_from (i + 1) (drop i ms) ≡ fetched_as (i + 1) (fetched_number (slice_get ms i)) ++ fetched_from (i + 1 + 1) (drop (i + 1) ms)
busy-next ms i within =
    let behind : suc i ≡ i + 1 = omega arith in
    busy_suc (i + 1) ms i within
    ∙ ap (λ (n : ℕ). fetched_as (i + 1) (fetched_number (slice_get ms i)) ++ fetched_from (i + 1 + 1) (drop n ms)) behind

-- behind the last there is none
pub busy-end : (ms : List Module) (i n : ℕ) → length ms ≤ i → fetched_from n (drop i ms) ≡ []
busy-end [] zero n past = refl
busy-end [] (suc i) n past = refl
busy-end (m ∷ ms) zero n past = absurd (omega (arith, past))
busy-end (m ∷ ms) (suc i) n past = busy-end ms i n (omega (arith, past))

-- those that were found, with the one at this place, and what is behind it
pub busy-joined : (all : List Fetched) (ms : List Module) (i : ℕ) (found now : List Fetched) → i < length ms → found ++ fetched_from (i + 1) (drop i ms) ≡ all → now ≡ found ++ fetched_as (i + 1) (fetched_number (slice_get ms i)) → now ++ fetched_from (i + 1 + 1) (drop (i + 1) ms) ≡ all
busy-joined all ms i found now within before is =
    let behind : List Fetched = fetched_from (i + 1 + 1) (drop (i + 1) ms) in
    ap (λ (fs : List Fetched). fs ++ behind) is
    ∙ append_assoc found (fetched_as (i + 1) (fetched_number (slice_get ms i))) behind
    ∙ ap (λ (fs : List Fetched). found ++ fs) (sym (busy-next ms i within))
    ∙ before

pub busy-all : (all : List Fetched) (ms : List Module) (i : ℕ) (found : List Fetched) → length ms ≤ i → found ++ fetched_from (i + 1) (drop i ms) ≡ all → found ≡ all
busy-all all ms i found past before =
    sym (append-nil found) ∙ ap (λ (fs : List Fetched). found ++ fs) (sym (busy-end ms i (i + 1) past)) ∙ before
