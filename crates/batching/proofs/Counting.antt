-- The bytes that a history brings, entry by entry.
use Rattle.std.proofs.Common.{◌≡◌, ℕ, zero, suc, ◌+◌, ◌<◌, List, [], ◌∷◌, take, length, get_or, refl, sym, ◌∙◌, ap, arith}
use Rattle.tool_events.specs.declared.entry.Entry.{Entry}
use Rattle.gem_model.specs.Sizes.{counted}
use Rattle.history_parts.specs.Counts.{count_of}
use Rattle.line_feeding.specs.Reads.{AreCounts}
use Rattle.batch_model.specs.Told.{event_bytes_in, bytes_told}
use Rattle.batching.specs.Counted.{numbered_bytes_in, numbered_bytes}

bytes_next : (es : List Entry) (i : ℕ) (d : Entry) (k : ℕ) → i < length es → bytes_told (take (suc i) es) k ≡ bytes_told (take i es) k + event_bytes_in (get_or es i d).event k
bytes_next [] i d k within = absurd (omega (arith, within))
bytes_next (e ∷ es) zero d k within = omega arith
bytes_next (e ∷ es) (suc i) d k within = let next = bytes_next es i d k (omega (arith, within)) in omega (arith, next)

pub numbered-next : (es : List Entry) (i : ℕ) (e : Entry) (k : ℕ) → i < length es → e ≡ get_or es i e → numbered_bytes (take (i + 1) es) k ≡ numbered_bytes (take i es) k + numbered_bytes_in e.event k
numbered-next es i e zero within is = refl
numbered-next es i e (suc k) within is =
    let next : i + 1 ≡ suc i = omega arith in
    ap (λ (n : ℕ). bytes_told (take n es) (suc k)) next
    ∙ bytes_next es i e (suc k) within
    ∙ ap (λ (x : Entry). bytes_told (take i es) (suc k) + event_bytes_in x.event (suc k)) (sym is)

-- the counts of the entries before an entry, and what it brings
pub AreCounts-next : (es : List Entry) (i : ℕ) (e : Entry) (counts counts' : List ℕ) → i < length es → e ≡ get_or es i e → AreCounts counts (numbered_bytes (take i es)) → ((k n : ℕ) → count_of counts k ≡ counted n → count_of counts' k ≡ counted (n + numbered_bytes_in e.event k)) → AreCounts counts' (numbered_bytes (take (i + 1) es))
AreCounts-next es i e counts counts' within is are adds = λ k.
    adds k (numbered_bytes (take i es) k) (are k) ∙ ap counted (sym (numbered-next es i e k within is))
