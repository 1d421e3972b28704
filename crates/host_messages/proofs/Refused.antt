-- What refuses an entry of S2F43 lists no more functions than the entry has.
use Rattle.std.proofs.Common.{◌≡◌, ◌≤◌, ◌==◌, ◌||◌, ℕ, suc, Bool, true, false, not, if◌then◌else◌, List, [], ◌∷◌, length, filter, Some, arith, subst}
use Rattle.message_model.specs.declared.gem_primary.SpooledStream.{SpooledStream}
use Rattle.message_model.specs.declared.gem_reply.StreamRefusal.{StreamRefusal}
use Rattle.gem_model.specs.Spooling.{is_spoolable, faulty_functions, refused, refusal_for, refusal}

fewer : (p : ℕ → Bool) (ns : List ℕ) → length (filter p ns) ≤ length ns
fewer p [] = omega arith
fewer p (n ∷ ns) = by_test (p n) (filter p ns) (fewer p ns)
  where
    by_test : (b : Bool) (rest : List ℕ) → length rest ≤ length ns → length (if b then n ∷ rest else rest) ≤ suc (length ns)
    by_test true rest less = omega (arith, less)
    by_test false rest less = omega (arith, less)

-- the functions are those that were given
listed_so : (entry : SpooledStream) (strack : ℕ) (functions : List ℕ) (r : StreamRefusal) → length functions ≤ length entry.functions → Some (refused entry strack functions) ≡ Some r → length r.functions ≤ length entry.functions
listed_so entry strack functions r less is =
    let same : refused entry strack functions ≡ r = cc in
    subst (λ (q : StreamRefusal). length q.functions ≤ length entry.functions) same less

by_stream : (entry : SpooledStream) (first other : Bool) (faulty : List ℕ) (r : StreamRefusal) → length faulty ≤ length entry.functions →
    (if first then Some (refused entry 1 []) else (if other then Some (refused entry 2 []) else refusal_for entry faulty)) ≡ Some r → length r.functions ≤ length entry.functions
by_stream entry true other faulty r less is = listed_so entry 1 [] r (omega arith) is
by_stream entry false true faulty r less is = listed_so entry 2 [] r (omega arith) is
by_stream entry false false [] r less is = absurd (cc)
by_stream entry false false (function ∷ functions) r less is = listed_so entry _ (function ∷ functions) r less is

pub refuses_fewer : (entry : SpooledStream) (r : StreamRefusal) → refusal entry ≡ Some r → length r.functions ≤ length entry.functions
refuses_fewer entry r is =
    by_stream entry (entry.stream == 1) (not ((entry.stream == 5) || (entry.stream == 6))) (faulty_functions entry) r (fewer (λ function. not (is_spoolable entry.stream function)) entry.functions) is
