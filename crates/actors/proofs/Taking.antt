-- What the writer of a session has written so far, and how it ends.
use Rattle.std.proofs.Common.{◌≡◌, ◌⊎◌, inl, inr, ℕ, ◌+◌, ◌-◌, ◌^◌, ◌≤◌, min, List, [], ◌∷◌, ◌++◌, length, take, drop, Option, refl, sym, subst, ap, ◌∙◌, append-nil, append_assoc, length-append, arith}
use Rattle.std.proofs.lemmas.List.{length-take-le, take-append-drop}
use Rattle.outside.specs.Counts.{Failed}
use Rattle.outside.specs.Told.{Written}
use Rattle.outside.proofs.Writing.{Written-nothing, Written-more}
use Rattle.tool_events.specs.declared.entry.Post.{Post}
use Rattle.tool_events.specs.declared.event.Event.TheVariants as event
use Rattle.tool_events.specs.declared.answer.Answer.{Answer}
use Rattle.tool_events.specs.declared.answer.Answer.TheVariants as answer
use Rattle.actors.specs.Ends.{NoneEnded, IsRefused}
use Rattle.actors.specs.Writes.{WriterDid, WriterEnds, FaultEnds, FaultPosted, AreTakes, frame_of, frames_of}
use Rattle.actors.specs.declared.end.ActorEnd.{ActorEnd}
use Rattle.actors.specs.declared.end.ActorEnd.TheVariants as end
use Rattle.actors.proofs.Posting.{posts-grow, NoneEnded-append, none-behind, none-behind-last, none-behind-as, last-ended}

-- a take of the session, with its answer
abbrev pub taken : ℕ → Answer → Post
taken session a = record { at = record { 0 = 0 }; event = event.Take session; answer = a }

-- the frames so far were written whole, and no take was answered Ended
pub record Frames (session : ℕ) (held held' : Option (List ℕ)) (posts posts' : List Post) (count : ℕ) : Type 0 where
  pub takes : List Post
  pub grew : posts' ≡ posts ++ takes
  pub are_takes : AreTakes session takes
  pub none : NoneEnded takes
  pub wrote : Written held held' (frames_of takes)
  pub counted : count ≡ min (length (frames_of takes)) (2 ^ 64 - 1)

takes-more : (session : ℕ) (posts : List Post) (a : Answer) → AreTakes session posts → AreTakes session (posts ++ taken session a ∷ [])
takes-more session [] a are = (refl, refl, tt)
takes-more session (p ∷ posts) a are = (are.0, are.1, takes-more session posts a are.2)

frames-more : (session : ℕ) (posts : List Post) (a : Answer) → frames_of (posts ++ taken session a ∷ []) ≡ frames_of posts ++ frame_of a
frames-more session [] a = append-nil (frame_of a)
frames-more session (p ∷ posts) a =
    ap (λ (bytes : List ℕ). frame_of p.answer ++ bytes) (frames-more session posts a) ∙ sym (append_assoc (frame_of p.answer) (frames_of posts) (frame_of a))

-- a count that stands still at a greatest number goes on
count-more : (top a b : ℕ) → min (min a top + b) top ≡ min (a + b) top
count-more top a b = omega arith

counted-more : (count count' top : ℕ) (bytes more : List ℕ) → count ≡ min (length bytes) top → count' ≡ min (count + length more) top → count' ≡ min (length (bytes ++ more)) top
counted-more count count' top bytes more before after =
    after ∙ (ap (λ (c : ℕ). min (c + length more) top) before ∙ (count-more top (length bytes) (length more) ∙ ap (λ (c : ℕ). min c top) (sym (length-append bytes more))))

pub frames-begin : (session : ℕ) (held : Option (List ℕ)) (posts : List Post) → Frames session held held posts posts 0
frames-begin session held posts =
    record { takes = []; grew = sym (append-nil posts); are_takes = tt; none = tt; wrote = Written-nothing held; counted = refl }

pub frames-go : (session : ℕ) (held held' held'' : Option (List ℕ)) (posts posts' posts'' : List Post) (count count' : ℕ) (bytes : List ℕ)
    → Frames session held held' posts posts' count → posts'' ≡ posts' ++ taken session (answer.Frame bytes) ∷ []
    → Written held' held'' bytes → count' ≡ min (count + length bytes) (2 ^ 64 - 1) → Frames session held held'' posts posts'' count'
frames-go session held held' held'' posts posts' posts'' count count' bytes r tells wrote counts =
    let more : frames_of (r.takes ++ taken session (answer.Frame bytes) ∷ []) ≡ frames_of r.takes ++ bytes = frames-more session r.takes (answer.Frame bytes) in
    record {
      takes = r.takes ++ taken session (answer.Frame bytes) ∷ [];
      grew = posts-grow posts posts' posts'' r.takes (taken session (answer.Frame bytes) ∷ []) r.grew tells;
      are_takes = takes-more session r.takes (answer.Frame bytes) r.are_takes;
      none = NoneEnded-append r.takes (taken session (answer.Frame bytes) ∷ []) r.none ((λ (is : answer.Frame bytes ≡ answer.Ended). cc), tt);
      wrote = subst (λ (all : List ℕ). Written held held'' all) (sym more) (Written-more held held' held'' (frames_of r.takes) bytes r.wrote wrote);
      counted = counted-more count count' (2 ^ 64 - 1) (frames_of r.takes) bytes r.counted counts ∙ ap (λ (all : List ℕ). min (length all) (2 ^ 64 - 1)) (sym more);
    }

pub frames-stay : (session : ℕ) (held held' : Option (List ℕ)) (posts posts' posts'' : List Post) (count : ℕ)
    → Frames session held held' posts posts' count → posts'' ≡ posts' → Frames session held held' posts posts'' count
frames-stay session held held' posts posts' posts'' count r same =
    record { takes = r.takes; grew = same ∙ r.grew; are_takes = r.are_takes; none = r.none; wrote = r.wrote; counted = r.counted }

-- a take was answered Ended
pub writer-ends : (session : ℕ) (F : Type 0) (held held' : Option (List ℕ)) (posts posts' posts'' : List Post) (count : ℕ)
    → Frames session held held' posts posts' count → posts'' ≡ posts' ++ taken session answer.Ended ∷ [] → WriterDid session F held held' posts posts'' count end.Quit
writer-ends session F held held' posts posts' posts'' count r tells =
    let takes : List Post = r.takes ++ taken session answer.Ended ∷ [] in
    let same : frames_of takes ≡ frames_of r.takes = frames-more session r.takes answer.Ended ∙ append-nil (frames_of r.takes) in
    record {
      takes = takes;
      downs = [];
      grew = posts-grow posts posts' posts'' r.takes (taken session answer.Ended ∷ []) r.grew tells ∙ sym (append-nil (posts ++ takes));
      are_takes = takes-more session r.takes answer.Ended r.are_takes;
      written = frames_of r.takes;
      lost = [];
      frames = same ∙ sym (append-nil (frames_of r.takes));
      wrote = r.wrote;
      counted = r.counted;
      no_more = none-behind-as takes (takes ++ []) (append-nil takes) (none-behind-last r.takes (taken session answer.Ended) r.none);
      ends = inl (refl, refl, inl (refl, last-ended r.takes (taken session answer.Ended) refl));
    }

-- a take was refused
pub writer-refused : (session : ℕ) (F : Type 0) (held held' : Option (List ℕ)) (posts posts' posts'' : List Post) (count : ℕ) (e : ActorEnd)
    → Frames session held held' posts posts' count → posts'' ≡ posts' → IsRefused e → WriterDid session F held held' posts posts'' count e
writer-refused session F held held' posts posts' posts'' count e r same refused = record {
  takes = r.takes;
  downs = [];
  grew = same ∙ (r.grew ∙ sym (append-nil (posts ++ r.takes)));
  are_takes = r.are_takes;
  written = frames_of r.takes;
  lost = [];
  frames = sym (append-nil (frames_of r.takes));
  wrote = r.wrote;
  counted = r.counted;
  no_more = none-behind-as r.takes (r.takes ++ []) (append-nil r.takes) (none-behind r.takes r.none);
  ends = inl (refl, refl, inr refused);
}

cons-nil : (p : Post) (posts : List Post) → p ∷ posts ≡ [] → ⊥
cons-nil p posts same = cc

-- it tells a fault once at most
downs-few : (session : ℕ) (downs : List Post) (e : ActorEnd) → FaultEnds session downs e → length downs ≤ 1
downs-few session [] e ends = omega arith
downs-few session (p ∷ []) e ends = omega arith
downs-few session (p ∷ q ∷ downs) e (inl posted) = absurd posted.1.2
downs-few session (p ∷ q ∷ downs) e (inr refused) = absurd (cons-nil p (q ∷ downs) refused.0)

-- the link failed in the frame that was taken last, of which so many bytes were written
pub writer-fails : (session n : ℕ) (F : Type 0) (held held' held'' : Option (List ℕ)) (posts posts' posts'' told : List Post) (count count' : ℕ) (bytes : List ℕ) (e : ActorEnd)
    → Frames session held held' posts posts' count → posts'' ≡ posts' ++ taken session (answer.Frame bytes) ∷ []
    → n ≤ length bytes → Written held' held'' (take n bytes) → F → count' ≡ min (count + n) (2 ^ 64 - 1)
    → FaultPosted session posts'' told e → WriterDid session F held held'' posts told count' e
writer-fails session n F held held' held'' posts posts' posts'' told count count' bytes e r tells few wrote failed counts f =
    let last : Post = taken session (answer.Frame bytes) in
    let none : NoneEnded (r.takes ++ last ∷ []) = NoneEnded-append r.takes (last ∷ []) r.none ((λ (is : answer.Frame bytes ≡ answer.Ended). cc), tt) in
    let front : length (take n bytes) ≡ n = length-take-le n bytes few in
    record {
      takes = r.takes ++ last ∷ [];
      downs = f.downs;
      grew = f.grew ∙ ap (λ (before : List Post). before ++ f.downs) (posts-grow posts posts' posts'' r.takes (last ∷ []) r.grew tells);
      are_takes = takes-more session r.takes (answer.Frame bytes) r.are_takes;
      written = frames_of r.takes ++ take n bytes;
      lost = drop n bytes;
      frames = frames-more session r.takes (answer.Frame bytes) ∙ (ap (λ (all : List ℕ). frames_of r.takes ++ all) (sym (take-append-drop n bytes)) ∙ sym (append_assoc (frames_of r.takes) (take n bytes) (drop n bytes)));
      wrote = Written-more held held' held'' (frames_of r.takes) (take n bytes) r.wrote wrote;
      counted = counted-more count count' (2 ^ 64 - 1) (frames_of r.takes) (take n bytes) r.counted (counts ∙ ap (λ (m : ℕ). min (count + m) (2 ^ 64 - 1)) (sym front));
      no_more = record { before = r.takes ++ last ∷ []; last = f.downs; joined = refl; none = none; one = downs-few session f.downs e f.ends };
      ends = inr (failed, f.ends);
    }

-- the link failed where it was to send what it had taken
pub writer-unsent : (session : ℕ) (F : Type 0) (held held' held'' : Option (List ℕ)) (posts posts' posts'' told : List Post) (count : ℕ) (e : ActorEnd)
    → Frames session held held' posts posts' count → posts'' ≡ posts' → held'' ≡ held' → F → FaultPosted session posts'' told e
    → WriterDid session F held held'' posts told count e
writer-unsent session F held held' held'' posts posts' posts'' told count e r same kept failed f = record {
  takes = r.takes;
  downs = f.downs;
  grew = f.grew ∙ ap (λ (before : List Post). before ++ f.downs) (same ∙ r.grew);
  are_takes = r.are_takes;
  written = frames_of r.takes;
  lost = [];
  frames = sym (append-nil (frames_of r.takes));
  wrote = subst (λ (h : Option (List ℕ)). Written held h (frames_of r.takes)) (sym kept) r.wrote;
  counted = r.counted;
  no_more = record { before = r.takes; last = f.downs; joined = refl; none = r.none; one = downs-few session f.downs e f.ends };
  ends = inr (failed, f.ends);
}

-- it shut the link behind all that
pub writer-shuts : (session : ℕ) (F G : Type 0) (held held' held'' : Option (List ℕ)) (posts posts' : List Post) (count : ℕ) (e : ActorEnd)
    → WriterDid session F held held' posts posts' count e → held'' ≡ held' → (F → G) → WriterDid session G held held'' posts posts' count e
writer-shuts session F G held held' held'' posts posts' count e r same goes = record {
  takes = r.takes;
  downs = r.downs;
  grew = r.grew;
  are_takes = r.are_takes;
  written = r.written;
  lost = r.lost;
  frames = r.frames;
  wrote = subst (λ (h : Option (List ℕ)). Written held h r.written) (sym same) r.wrote;
  counted = r.counted;
  no_more = r.no_more;
  ends = ends r.ends;
}
  where
    ends : WriterEnds session F r.takes r.downs r.lost e → WriterEnds session G r.takes r.downs r.lost e
    ends (inl none) = inl none
    ends (inr failed) = inr (goes failed.0, failed.1)

-- counts that are the same as before
pub failed-as : (a a' b c c' d : ℕ) → a ≡ a' → c ≡ c' → Failed a b c d → Failed a' b c' d
failed-as a a' b c c' d faults refusals failed = subst (λ (x : ℕ). Failed a' b x d) refusals (subst (λ (x : ℕ). Failed x b c d) faults failed)

-- a failure, told of counts that stayed since
pub failed-by : (a b b' c d d' : ℕ) → b' ≡ b → d' ≡ d → Failed a b c d → Failed a b' c d'
failed-by a b b' c d d' faults refusals failed = subst (λ (x : ℕ). Failed a b' c x) (sym refusals) (subst (λ (x : ℕ). Failed a x c d) (sym faults) failed)

pub unfailed-by : (a b b' c d d' : ℕ) (T : Type 0) → b' ≡ b → d' ≡ d → ((b ≡ a) × (d ≡ c)) ⊎ T → ((b' ≡ a) × (d' ≡ c)) ⊎ T
unfailed-by a b b' c d d' T faults refusals (inl stay) = inl (faults ∙ stay.0, refusals ∙ stay.1)
unfailed-by a b b' c d d' T faults refusals (inr told) = inr told
