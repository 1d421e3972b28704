-- How long the reply is that refuses streams.
use Rattle.std.proofs.Common.{◌≡◌, ◌<◌, ◌≤◌, ◌+◌, ◌*◌, ◌^◌, ℕ, suc, List, [], ◌∷◌, length, map, arith, refl, ap}
use Rattle.std.specs.List.{All, sum_by}
use Rattle.std.proofs.lemmas.List.{length-map}
use Rattle.std.proofs.lemmas.List.Sums.{sum_by-cons}
use Rattle.item_model.specs.Height.{highest}
use Rattle.item_model.specs.Plain.{count_of}
use Rattle.item_model.specs.Sendable.{IsLength, HaveShortBodies}
use Rattle.item_model.specs.Weight.{weight_all, IsBounded}
use Rattle.message_model.specs.Functions.{AreFewFunctions}
use Rattle.message_model.specs.Printed.{items, U1, code}
use Rattle.message_model.specs.GemReplies.{stream_refusal, spooling}
use Rattle.message_model.specs.declared.gem_reply.StreamRefusal.{StreamRefusal}

all_tail : {X : Type 0} (P : X → Type 0) (x : X) (xs : List X) → All P (x ∷ xs) → All P xs
all_tail P x xs all k d less = all (suc k) d (omega arith)

numbers_depth : (ns : List ℕ) → highest (items (map U1 ns)) ≤ 0
numbers_depth [] = omega arith
numbers_depth (n ∷ ns) = omega (arith, numbers_depth ns)

numbers_weight : (ns : List ℕ) → weight_all (items (map U1 ns)) ≡ 5 * length ns
numbers_weight [] = refl
numbers_weight (n ∷ ns) = omega (arith, numbers_weight ns)

numbers_count : (ns : List ℕ) → count_of (items (map U1 ns)) ≡ length ns
numbers_count [] = refl
numbers_count (n ∷ ns) = ap suc (numbers_count ns)

numbers_bodies : (ns : List ℕ) → HaveShortBodies (items (map U1 ns))
numbers_bodies [] = tt
numbers_bodies (n ∷ ns) = (omega arith, numbers_bodies ns)

abbrev refused : List StreamRefusal → List (List ℕ)
refused refusals = map (λ r. r.functions) refusals

refusals_depth : (rs : List StreamRefusal) → highest (items (map stream_refusal rs)) ≤ 2
refusals_depth [] = omega arith
refusals_depth (r ∷ rs) = omega (arith, numbers_depth r.functions, refusals_depth rs)

refusals_weight : (rs : List StreamRefusal) → weight_all (items (map stream_refusal rs)) ≡ 18 * length rs + 5 * sum_by length (refused rs)
refusals_weight [] = refl
refusals_weight (r ∷ rs) = omega (arith, numbers_weight r.functions, refusals_weight rs, sum_by-cons length r.functions (refused rs))

refusals_count : (rs : List StreamRefusal) → count_of (items (map stream_refusal rs)) ≡ length rs
refusals_count [] = refl
refusals_count (r ∷ rs) = ap suc (refusals_count rs)

refusals_bodies : (rs : List StreamRefusal) → All (λ functions. IsLength (length functions)) (refused rs) → HaveShortBodies (items (map stream_refusal rs))
refusals_bodies [] short = tt
refusals_bodies (r ∷ rs) short =
    let first : IsLength (length r.functions) = short 0 r.functions (omega arith) in
    let names = numbers_count r.functions in (
      (omega arith, (omega arith, (omega arith, ((omega arith, numbers_bodies r.functions), tt)))),
      refusals_bodies rs (all_tail (λ functions. IsLength (length functions)) r.functions (refused rs) short),
    )

-- a reply with few functions is within the bounds of a frame
pub spooling_bounded : (rspack : ℕ) (rs : List StreamRefusal) → AreFewFunctions (map (λ r. r.functions) rs) → IsBounded 5 (2 ^ 31) (spooling rspack rs)
spooling_bounded rspack rs (few, short, total) =
    let count = refusals_count rs in
    let lists = length-map rs (λ r. r.functions) in
    record {
      depth = omega (arith, refusals_depth rs);
      size = omega (arith, refusals_weight rs);
      bodies = (omega arith, (omega arith, ((omega arith, refusals_bodies rs short), tt)));
    }
