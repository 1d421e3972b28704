-- What the cutter of a session has cut.
use Rattle.std.proofs.Common.{◌≡◌, ℕ, Bool, true, false, if◌then◌else◌, List, [], ◌++◌, length, drop, Some, None, refl, sym, ◌∙◌, ap, subst}
use Rattle.std.proofs.Math.Seq.{drop-append_seam}
use Rattle.hsms_frame.specs.declared.frame.Arrival.{Arrival}
use Rattle.hsms_frame.specs.Cut.{Kept, IsCutOf, arrivals_of, behind_of, is_short, short_length}
use Rattle.hsms_frame.proofs.Callers.{IsCutOf-arrivals, IsCutOf-short}
use Rattle.tool_events.specs.Sizes.{text_bytes}
use Rattle.line_feeding.specs.Cuts.{Cuts}

no_length : (b : Bool) (n : ℕ) → (if b then Some n else None) ≡ None → b ≡ false
no_length true n h = cc
no_length false n h = refl

some_length : (b : Bool) (n m : ℕ) → (if b then Some n else None) ≡ Some m → b ≡ true
some_length true n m h = refl
some_length false n m h = cc

-- the arrivals that a piece adds, where none were there before it
cut_more : (bytes stream : List ℕ) (old new : Kept) (had has : List Arrival) → had ≡ [] → new.max ≡ old.max → old.max ≡ text_bytes → IsCutOf (stream ++ bytes) (arrivals_of text_bytes stream ++ drop (length had) has) new
    → (has ≡ drop (length (arrivals_of text_bytes stream)) (arrivals_of text_bytes (stream ++ bytes))) × IsCutOf (stream ++ bytes) (arrivals_of text_bytes (stream ++ bytes)) new
cut_more bytes stream old new had has none same max cut =
    let before : List Arrival = arrivals_of text_bytes stream in
    let all : IsCutOf (stream ++ bytes) (before ++ has) new = subst (λ (xs : List Arrival). IsCutOf (stream ++ bytes) (before ++ drop (length xs) has) new) none cut in
    let is : before ++ has ≡ arrivals_of text_bytes (stream ++ bytes) = IsCutOf-arrivals (stream ++ bytes) (before ++ has) new all ∙ ap (λ (n : ℕ). arrivals_of n (stream ++ bytes)) (same ∙ max) in (
      sym (drop-append_seam before has) ∙ ap (drop (length before)) is,
      subst (λ (xs : List Arrival). IsCutOf (stream ++ bytes) xs new) is all,
    )

pub Cuts-whole : (bytes stream : List ℕ) (old new : Kept) (had has : List Arrival) → had ≡ [] → new.max ≡ old.max → old.max ≡ text_bytes → IsCutOf (stream ++ bytes) (arrivals_of text_bytes stream ++ drop (length had) has) new → short_length new ≡ None → Cuts bytes old new has false stream
Cuts-whole bytes stream old new had has none same max cut whole =
    let more = cut_more bytes stream old new had has none same max cut in
    let short = IsCutOf-short (stream ++ bytes) _ new cut in
    record { arrivals_are = more.0; short_is = sym (no_length (is_short (behind_of (stream ++ bytes))) _ (sym short ∙ whole)); cut = more.1 }

pub Cuts-short : (bytes stream : List ℕ) (old new : Kept) (had has : List Arrival) (n : ℕ) → had ≡ [] → new.max ≡ old.max → old.max ≡ text_bytes → IsCutOf (stream ++ bytes) (arrivals_of text_bytes stream ++ drop (length had) has) new → short_length new ≡ Some n → Cuts bytes old new has true stream
Cuts-short bytes stream old new had has n none same max cut at =
    let more = cut_more bytes stream old new had has none same max cut in
    let short = IsCutOf-short (stream ++ bytes) _ new cut in
    record { arrivals_are = more.0; short_is = sym (some_length (is_short (behind_of (stream ++ bytes))) _ n (sym short ∙ at)); cut = more.1 }
