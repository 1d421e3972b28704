-- What was read, one piece after another, and how the reader stops.
use Rattle.std.proofs.Common.{◌≡◌, ◌≢◌, ℕ, ◌+◌, ◌-◌, ◌^◌, ◌≤◌, min, Bool, true, false, cond, List, [], ◌++◌, length, drop, Option, Some, None, Result, Ok, Err, refl, sym, ap, ◌∙◌, subst, append_assoc, length-append, arith}
use Rattle.outside.specs.Told.{Taken}
use Rattle.hsms_frame.specs.declared.frame.Arrival.{Arrival}
use Rattle.hsms_frame.specs.Cut.{Kept, IsCutOf, arrivals_of, behind_of, is_short, short_length}
use Rattle.hsms_frame.proofs.Callers.{IsCutOf-new, IsCutOf-arrivals, IsCutOf-short, arrivals_of-append}
use Rattle.tool_events.specs.Sizes.{text_bytes}
use Rattle.tool_events.specs.declared.entry.Post.{Post}
use Rattle.tool_events.specs.declared.event.SessionCause.{SessionCause}
use Rattle.tool_events.specs.declared.event.SessionCause.TheVariants as cause
use Rattle.actors.specs.Reads.{ReaderCounts, LinkEnds}
use Rattle.actors.specs.ReaderSteps.{MessagesPosted, IsCut, StreamStands, PieceTaken, LinkStops, MessagesRead}
use Rattle.actors.specs.declared.reader.ReadStop.{ReadStop}
use Rattle.actors.specs.declared.reader.ReadStop.TheVariants as stop
use Rattle.actors.proofs.ReaderPosts.{posted_none, posted_more, posted_down, posted_uncut}

-- ---- what was taken off the link

Taken-nothing : (left : Option (List ℕ)) → Taken left left []
Taken-nothing None = tt
Taken-nothing (Some bytes) = (bytes, refl, refl)

Taken-more : (a b c : Option (List ℕ)) (xs ys : List ℕ) → Taken a b xs → Taken b c ys → Taken a c (xs ++ ys)
Taken-more None b c xs ys first second = tt
Taken-more (Some old) None c xs ys first second = absurd (cc (first.2))
Taken-more (Some old) (Some mid) c xs ys first second =
    let rest : mid ≡ first.0 = cc (first.2) in
    (second.0, first.1 ∙ ap (λ (bs : List ℕ). xs ++ bs) (sym rest ∙ second.1) ∙ sym (append_assoc xs ys second.0), second.2)

-- ---- one piece

no_length : (b : Bool) (n : ℕ) → cond b (Some n) None ≡ None → b ≡ false
no_length true n h = cc
no_length false n h = refl

some_length : (b : Bool) (n m : ℕ) → cond b (Some n) None ≡ Some m → b ≡ true
some_length true n m h = refl
some_length false n m h = cc

-- what a piece adds to a list in which nothing was
cut_more : (stream bytes : List ℕ) (old new : Kept) (had has : List Arrival) → had ≡ [] → new.max ≡ old.max → IsCut stream old
    → ((s : List ℕ) (before : List Arrival) → IsCutOf s before old → IsCutOf (s ++ bytes) (before ++ drop (length had) has) new)
    → (arrivals_of text_bytes (stream ++ bytes) ≡ arrivals_of text_bytes stream ++ has) × IsCut (stream ++ bytes) new
cut_more stream bytes old new had has none same is_cut cut =
    let before : List Arrival = arrivals_of text_bytes stream in
    let max : new.max ≡ text_bytes = same ∙ is_cut.0 in
    let all : IsCutOf (stream ++ bytes) (before ++ has) new = subst (λ (xs : List Arrival). IsCutOf (stream ++ bytes) (before ++ drop (length xs) has) new) none (cut stream before is_cut.1) in
    let is : before ++ has ≡ arrivals_of text_bytes (stream ++ bytes) = IsCutOf-arrivals (stream ++ bytes) (before ++ has) new all ∙ ap (λ (n : ℕ). arrivals_of n (stream ++ bytes)) max in
    (sym is, (max, subst (λ (xs : List Arrival). IsCutOf (stream ++ bytes) xs new) is all))

cut_short : (stream : List ℕ) (kept : Kept) (n : ℕ) → IsCut stream kept → short_length kept ≡ Some n → is_short (behind_of stream) ≡ true
cut_short stream kept n is_cut at = some_length (is_short (behind_of stream)) _ n (sym (IsCutOf-short stream _ kept is_cut.1) ∙ at)

-- what is known behind a piece, however the posting of its messages ended
stands : (stream : List ℕ) (kept : Kept) (how : Result (Unit {0}) ReadStop) → IsCut stream kept → ((why : SessionCause) → how ≢ Err (stop.Down why)) → StreamStands stream kept how
stands stream kept (Ok done) is_cut no_down = is_cut
stands stream kept (Err (stop.Down why)) is_cut no_down = absurd (no_down why refl)
stands stream kept (Err stop.Ended) is_cut no_down = tt
stands stream kept (Err stop.Full) is_cut no_down = tt
stands stream kept (Err stop.NoMemory) is_cut no_down = tt
stands stream kept (Err stop.Uncut) is_cut no_down = tt

module _ (session : ℕ) (stream bytes : List ℕ) (old new : Kept) (had has : List Arrival) (none : had ≡ []) (same : new.max ≡ old.max) (is_cut : IsCut stream old) (cut : (s : List ℕ) (before : List Arrival) → IsCutOf s before old → IsCutOf (s ++ bytes) (before ++ drop (length had) has) new) (fulls fulls' wants wants' : ℕ) (posts posts' : List Post) where
  -- its messages were posted
  pub taken_posted : (how : Result (Unit {0}) ReadStop) → MessagesPosted session has fulls fulls' wants wants' posts posts' how → ((why : SessionCause) → how ≢ Err (stop.Down why))
      → PieceTaken session stream bytes new fulls fulls' wants wants' posts posts' how
  taken_posted how posted no_down =
      let more = cut_more stream bytes old new had has none same is_cut cut in
      record { arrivals = has; more = more.0; posted = posted; stands = stands (stream ++ bytes) new how more.1 no_down }

  -- and a length below 10 follows them
  pub taken_short : (n : ℕ) → short_length new ≡ Some n → MessagesPosted session has fulls fulls' wants wants' posts posts' (Ok tt)
      → PieceTaken session stream bytes new fulls fulls' wants wants' posts posts' (Err (stop.Down cause.ShortLength))
  taken_short n at posted =
      let more = cut_more stream bytes old new had has none same is_cut cut in
      record { arrivals = has; more = more.0; posted = posted_down session has fulls fulls' wants wants' posts posts' cause.ShortLength posted; stands = (refl, cut_short (stream ++ bytes) new n more.1 at) }

pub taken_uncut : (session : ℕ) (stream bytes : List ℕ) (kept : Kept) (fulls wants : ℕ) (posts : List Post) → PieceTaken session stream bytes kept fulls fulls wants wants posts posts (Err stop.Uncut)
taken_uncut session stream bytes kept fulls wants posts = record {
  arrivals = arrivals_of text_bytes (behind_of stream ++ bytes);
  more = arrivals_of-append text_bytes stream bytes;
  posted = posted_uncut session fulls wants posts (arrivals_of text_bytes (behind_of stream ++ bytes));
  stands = tt;
}

-- ---- one piece after another

-- what was read up to now was cut, and all of it that arrived was posted
pub record Reading (session : ℕ) (left left' : Option (List ℕ)) (before after : ReaderCounts) (posts posts' : List Post) (count : ℕ) (kept : Kept) : Type 0 where
  pub bytes : List ℕ
  pub read : Taken left left' bytes
  pub counted : count ≡ min (length bytes) (2 ^ 64 - 1)
  pub is_cut : IsCut bytes kept
  pub posted : MessagesPosted session (arrivals_of text_bytes bytes) before.fulls after.fulls before.wants after.wants posts posts' (Ok tt)
  pub faults : after.faults ≡ before.faults
  pub ends : before.ends ≤ after.ends

pub reading_begins : (session : ℕ) (left : Option (List ℕ)) (counts : ReaderCounts) (posts : List Post) (kept : Kept) → kept ≡ record { max = text_bytes; bytes = []; skipped = 0 } → Reading session left left counts counts posts posts 0 kept
reading_begins session left counts posts kept fresh = record {
  bytes = [];
  read = Taken-nothing left;
  counted = refl;
  is_cut = (ap (λ (k : Kept). k.max) fresh, subst (λ (k : Kept). IsCutOf [] [] k) (sym fresh) (IsCutOf-new text_bytes));
  posted = posted_none session counts.fulls counts.wants posts;
  faults = refl;
  ends = omega arith;
}

count_more : (read count count' n : ℕ) → count ≡ min read (2 ^ 64 - 1) → count' ≡ min (count + n) (2 ^ 64 - 1) → count' ≡ min (read + n) (2 ^ 64 - 1)
count_more read count count' n is more = omega arith

count_piece : (bytes piece : List ℕ) (count count' n : ℕ) → count ≡ min (length bytes) (2 ^ 64 - 1) → length piece ≡ n → count' ≡ min (count + n) (2 ^ 64 - 1) → count' ≡ min (length (bytes ++ piece)) (2 ^ 64 - 1)
count_piece bytes piece count count' n is size more =
    count_more (length bytes) count count' n is more ∙ ap (λ (k : ℕ). min k (2 ^ 64 - 1)) (ap (λ (k : ℕ). length bytes + k) (sym size) ∙ sym (length-append bytes piece))

link_stops : (why : ReadStop) (bytes : List ℕ) (left : Option (List ℕ)) (before after : ReaderCounts) (kept : Kept) → StreamStands bytes kept (Err why) → LinkStops bytes left before after why
link_stops (stop.Down why) bytes left before after kept known = subst (λ (x : SessionCause). LinkEnds x bytes left before after) (sym known.0) known.1
link_stops stop.Ended bytes left before after kept known = tt
link_stops stop.Full bytes left before after kept known = tt
link_stops stop.NoMemory bytes left before after kept known = tt
link_stops stop.Uncut bytes left before after kept known = tt

module _ (session : ℕ) (left mid left' : Option (List ℕ)) (before : ReaderCounts) (fulls wants faults ends fulls' wants' faults' ends' : ℕ) (posts posts₁ posts' : List Post) (count count' n : ℕ) (kept kept' : Kept) (piece : List ℕ) (r : Reading session left mid before (record { fulls = fulls; wants = wants; faults = faults; ends = ends }) posts posts₁ count kept) (read : Taken mid left' piece) (size : length piece ≡ n) (more : count' ≡ min (count + n) (2 ^ 64 - 1)) where
  posted_piece : (how : Result (Unit {0}) ReadStop) → PieceTaken session r.bytes piece kept' fulls fulls' wants wants' posts₁ posts' how
      → MessagesPosted session (arrivals_of text_bytes (r.bytes ++ piece)) before.fulls fulls' before.wants wants' posts posts' how
  posted_piece how taken =
      subst (λ (xs : List Arrival). MessagesPosted session xs before.fulls fulls' before.wants wants' posts posts' how) (sym taken.more)
      (posted_more session (arrivals_of text_bytes r.bytes) taken.arrivals before.fulls fulls fulls' before.wants wants wants' posts posts₁ posts' how r.posted taken.posted)

  pub reading_goes : faults' ≡ faults → ends ≤ ends' → PieceTaken session r.bytes piece kept' fulls fulls' wants wants' posts₁ posts' (Ok tt)
      → Reading session left left' before (record { fulls = fulls'; wants = wants'; faults = faults'; ends = ends' }) posts posts' count' kept'
  reading_goes same le taken = record {
    bytes = r.bytes ++ piece;
    read = Taken-more left mid left' r.bytes piece r.read read;
    counted = count_piece r.bytes piece count count' n r.counted size more;
    is_cut = taken.stands;
    posted = posted_piece (Ok tt) taken;
    faults = same ∙ r.faults;
    ends = omega (arith, r.ends);
  }

  pub reading_stops : (why : ReadStop) → PieceTaken session r.bytes piece kept' fulls fulls' wants wants' posts₁ posts' (Err why)
      → MessagesRead session left left' before (record { fulls = fulls'; wants = wants'; faults = faults'; ends = ends' }) posts posts' count' why
  reading_stops why taken = record {
    bytes = r.bytes ++ piece;
    read = Taken-more left mid left' r.bytes piece r.read read;
    counted = count_piece r.bytes piece count count' n r.counted size more;
    posted = posted_piece (Err why) taken;
    link = link_stops why (r.bytes ++ piece) left before (record { fulls = fulls'; wants = wants'; faults = faults'; ends = ends' }) kept' taken.stands;
  }
