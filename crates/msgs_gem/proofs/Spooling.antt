-- The streams that are refused, and their functions.
use Rattle.std.proofs.Common.{◌≡◌, ◌<◌, ◌≤◌, ◌+◌, ◌^◌, ℕ, suc, List, [], ◌∷◌, length, map, Option, Some, None, arith, refl}
use Rattle.std.specs.List.{All, sum_by, filter_map, cons_option}
use Rattle.std.proofs.lemmas.List.{length-map}
use Rattle.std.proofs.lemmas.List.Elements.{All-cons}
use Rattle.std.proofs.lemmas.List.Sums.{sum_by-cons}
use Rattle.item_model.specs.Sendable.{IsLength}
use Rattle.message_model.specs.Functions.{AreFewFunctions}
use Rattle.message_model.specs.declared.gem_primary.SpooledStream.{SpooledStream}
use Rattle.message_model.specs.declared.gem_reply.StreamRefusal.{StreamRefusal}

all_tail : {X : Type 0} (P : X → Type 0) (x : X) (xs : List X) → All P (x ∷ xs) → All P xs
all_tail P x xs all k d less = all (suc k) d (omega arith)

abbrev functions_of : List SpooledStream → List (List ℕ)
functions_of streams = map (λ s. s.functions) streams

abbrev refused : List StreamRefusal → List (List ℕ)
refused refusals = map (λ r. r.functions) refusals

-- a stream is refused with no more functions than it has
abbrev RefusesFewer : (SpooledStream → Option StreamRefusal) → Type 0
RefusesFewer f = (s : SpooledStream) (r : StreamRefusal) → f s ≡ Some r → length r.functions ≤ length s.functions

fewer_streams : (f : SpooledStream → Option StreamRefusal) (ss : List SpooledStream) → length (filter_map f ss) ≤ length ss
fewer_streams f [] = omega arith
fewer_streams f (s ∷ ss) = by_refusal (f s) (filter_map f ss) (fewer_streams f ss)
  where
    by_refusal : (o : Option StreamRefusal) (rs : List StreamRefusal) → length rs ≤ length ss → length (cons_option o rs) ≤ suc (length ss)
    by_refusal None rs fewer = omega arith
    by_refusal (Some r) rs fewer = omega arith

fewer_functions : (f : SpooledStream → Option StreamRefusal) → RefusesFewer f → (ss : List SpooledStream) → sum_by length (refused (filter_map f ss)) ≤ sum_by length (functions_of ss)
fewer_functions f fewer [] = omega arith
fewer_functions f fewer (s ∷ ss) = by_refusal (fewer_functions f fewer ss) (f s) refl
  where
    by_refusal : sum_by length (refused (filter_map f ss)) ≤ sum_by length (functions_of ss) → (o : Option StreamRefusal) → f s ≡ o → sum_by length (refused (cons_option o (filter_map f ss))) ≤ sum_by length (functions_of (s ∷ ss))
    by_refusal others None same = omega (arith, others, sum_by-cons length s.functions (functions_of ss))
    by_refusal others (Some r) same = omega (arith, others, fewer s r same, sum_by-cons length r.functions (refused (filter_map f ss)), sum_by-cons length s.functions (functions_of ss))

shorter_lists : (f : SpooledStream → Option StreamRefusal) → RefusesFewer f → (ss : List SpooledStream) →
    All (λ functions. IsLength (length functions)) (functions_of ss) → All (λ functions. IsLength (length functions)) (refused (filter_map f ss))
shorter_lists f fewer [] short = λ k d less. absurd (omega arith)
shorter_lists f fewer (s ∷ ss) short =
    by_refusal (short 0 s.functions (omega arith)) (shorter_lists f fewer ss (all_tail (λ functions. IsLength (length functions)) s.functions (functions_of ss) short)) (f s) refl
  where
    by_refusal : IsLength (length s.functions) → All (λ functions. IsLength (length functions)) (refused (filter_map f ss)) → (o : Option StreamRefusal) → f s ≡ o →
        All (λ functions. IsLength (length functions)) (refused (cons_option o (filter_map f ss)))
    by_refusal first others None same = others
    by_refusal first others (Some r) same = All-cons (λ functions. IsLength (length functions)) r.functions (refused (filter_map f ss)) (omega (arith, fewer s r same, first)) others

-- what refuses some streams of a message refuses few functions where the message has few
pub few_refused : (f : SpooledStream → Option StreamRefusal) (ss : List SpooledStream) → RefusesFewer f → AreFewFunctions (functions_of ss) → AreFewFunctions (refused (filter_map f ss))
few_refused f ss fewer (few, short, total) = (
  omega (arith, few, fewer_streams f ss, length-map ss (λ s. s.functions), length-map (filter_map f ss) (λ r. r.functions)),
  shorter_lists f fewer ss short,
  omega (arith, total, fewer_functions f fewer ss),
)
