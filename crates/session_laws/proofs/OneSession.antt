-- What the posts of one session of the host tell: its reader brought the messages of its own session alone, and its writer took the
-- frames of that session alone.
use Rattle.std.proofs.Common.{◌≡◌, ◌≢◌, ◌⊎◌, inl, inr, ℕ, ◌==◌, Bool, true, false, if◌then◌else◌, List, [], ◌∷◌, ◌++◌, map, Option, refl, sym, ◌∙◌, ap, subst, append-nil}
use Rattle.std.specs.List.{flat_map}
use Rattle.std.proofs.lemmas.Bool.{eq-eqb, ne_eqb}
use Rattle.hsms_frame.specs.declared.frame.Arrival.{Arrival}
use Rattle.tool_events.specs.declared.entry.Post.{Post}
use Rattle.tool_events.specs.declared.event.Event.{Event}
use Rattle.tool_events.specs.declared.event.Event.TheVariants as event
use Rattle.tool_events.specs.declared.event.SessionCause.{SessionCause}
use Rattle.tool_events.specs.declared.event.SessionCause.TheVariants as cause
use Rattle.tool_events.specs.declared.answer.Answer.{Answer}
use Rattle.tool_events.specs.declared.answer.Answer.TheVariants as answer
use Rattle.gem_model.specs.Sessions.{frame_taken}
use Rattle.actors.specs.declared.end.ActorEnd.{ActorEnd}
use Rattle.actors.specs.declared.end.ActorEnd.TheVariants as end
use Rattle.actors.specs.Ends.{ArePosted, LastEnded}
use Rattle.actors.specs.Reads.{ReaderCounts, ReaderEnds, ReaderDid}
use Rattle.actors.specs.Writes.{AreTakes, WriterEnds, WriterDid, frame_of, frames_of}
use Rattle.session_laws.specs.Kept.{arrival_of}
use Rattle.session_laws.proofs.Telling.{came_by, taken_by, given_by, BringsNone, TakesNone, GivesNone, IsQuiet, AreOf, AreSilent, all_mapped, posted_of, quiet_silent, none_so, quit_or_none, brought_none, took_none, gave_none, with_silent}

-- ---- its reader

-- these messages came in this session, and none in another; no frame was taken, and no link came up
pub record ReadsTell (session : ℕ) (given : List Arrival) (ps : List Post) : Type 0 where
  pub own : (k : ℕ) → session ≡ k → flat_map (came_by k) ps ≡ given
  pub other : (k : ℕ) → session ≢ k → flat_map (came_by k) ps ≡ []
  pub taken : (k : ℕ) → flat_map (taken_by k) ps ≡ []
  pub gave : flat_map given_by ps ≡ []

-- what is posted for these messages
abbrev hosts_of : ℕ → List Arrival → List Event
hosts_of session given = map (λ arrival. event.Host session arrival) given

hosts_own : (session k : ℕ) → (session == k) ≡ true → (given : List Arrival) (ps : List Post) → ArePosted (hosts_of session given) ps → flat_map (came_by k) ps ≡ given
hosts_own session k same [] [] posted = refl
hosts_own session k same [] (p ∷ ps) posted = absurd posted
hosts_own session k same (x ∷ given) [] posted = absurd posted
hosts_own session k same (x ∷ given) (p ∷ ps) posted =
    ap (λ (e : Event). arrival_of k e ++ flat_map (came_by k) ps) posted.0
    ∙ ap (λ (b : Bool). (if b then x ∷ [] else []) ++ flat_map (came_by k) ps) same
    ∙ ap (λ (l : List Arrival). x ∷ l) (hosts_own session k same given ps posted.2)

hosts_other : (session k : ℕ) → (session == k) ≡ false → (given : List Arrival) (ps : List Post) → ArePosted (hosts_of session given) ps → flat_map (came_by k) ps ≡ []
hosts_other session k other [] [] posted = refl
hosts_other session k other [] (p ∷ ps) posted = absurd posted
hosts_other session k other (x ∷ given) [] posted = absurd posted
hosts_other session k other (x ∷ given) (p ∷ ps) posted =
    ap (λ (e : Event). arrival_of k e ++ flat_map (came_by k) ps) posted.0
    ∙ ap (λ (b : Bool). (if b then x ∷ [] else []) ++ flat_map (came_by k) ps) other
    ∙ hosts_other session k other given ps posted.2

hosts_tell : (session : ℕ) (given : List Arrival) (ps : List Post) → ArePosted (hosts_of session given) ps → ReadsTell session given ps
hosts_tell session given ps posted = record {
  own = λ k same. hosts_own session k (eq-eqb session k same) given ps posted;
  other = λ k other. hosts_other session k (ne_eqb session k other) given ps posted;
  taken = λ k. took_none k ps (posted_of TakesNone (hosts_of session given) ps posted (all_mapped TakesNone (λ (arrival : Arrival). event.Host session arrival) (λ (arrival : Arrival). tt) given));
  gave = gave_none ps (posted_of GivesNone (hosts_of session given) ps posted (all_mapped GivesNone (λ (arrival : Arrival). event.Host session arrival) (λ (arrival : Arrival). tt) given));
}

-- ---- what comes behind the messages or the takes

-- that the link was lost was told, or nothing
down_or_none : (session : ℕ) (why : SessionCause) (ps : List Post) (A B : Type 0) → (A × ArePosted (event.LinkDown session why ∷ []) ps) ⊎ ((ps ≡ []) × B) → AreSilent ps
down_or_none session why ps A B (inl down) =
    quiet_silent ps (posted_of IsQuiet (event.LinkDown session why ∷ []) ps down.1 (record { brings = tt; takes = tt; gives = tt }, tt))
down_or_none session why ps A B (inr none) = none_so ps none.0

reader_silent : (session : ℕ) (bytes : List ℕ) (left : Option (List ℕ)) (before after : ReaderCounts) (rest : List Arrival) (hosts behind : List Post) (e : ActorEnd)
    → ReaderEnds session bytes left before after rest hosts behind e → AreSilent behind
reader_silent session bytes left before after rest hosts behind e (inl h) = down_or_none session h.0 behind _ _ h.3
reader_silent session bytes left before after rest hosts behind e (inr (inl h)) = none_so behind h.0
reader_silent session bytes left before after rest hosts behind e (inr (inr (inl h))) = quit_or_none behind _ h.1
reader_silent session bytes left before after rest hosts behind e (inr (inr (inr h))) = quit_or_none behind _ h.1

pub reads_tell : (session : ℕ) (left left' : Option (List ℕ)) (before after : ReaderCounts) (ps : List Post) (count : ℕ) (e : ActorEnd)
    (d : ReaderDid session left left' before after [] ps count e) → ReadsTell session d.given ps
reads_tell session left left' before after ps count e d =
    let hosts = hosts_tell session d.given d.hosts d.are_hosts in
    let silent = reader_silent session d.bytes left before after d.rest d.hosts d.behind e d.ends in
    subst (ReadsTell session d.given) (sym d.grew) (record {
      own = λ k same. with_silent (came_by k) d.hosts d.behind (silent.came k) ∙ hosts.own k same;
      other = λ k other. with_silent (came_by k) d.hosts d.behind (silent.came k) ∙ hosts.other k other;
      taken = λ k. with_silent (taken_by k) d.hosts d.behind (silent.taken k) ∙ hosts.taken k;
      gave = with_silent given_by d.hosts d.behind silent.given ∙ hosts.gave;
    })

-- all messages came, unless one was answered Ended or the reader ended otherwise than with Quit
full_not_quit : (e : ActorEnd) → e ≡ end.Full → e ≢ end.Quit
full_not_quit e full quit = cc

want_not_quit : (e : ActorEnd) → e ≡ end.NoMemory → e ≢ end.Quit
want_not_quit e want quit = cc

pub came_all : (session : ℕ) (bytes : List ℕ) (left : Option (List ℕ)) (before after : ReaderCounts) (rest : List Arrival) (hosts behind ps : List Post) (e : ActorEnd)
    → ps ≡ hosts ++ behind → ReaderEnds session bytes left before after rest hosts behind e → (rest ≡ []) ⊎ LastEnded ps ⊎ (e ≢ end.Quit)
came_all session bytes left before after rest hosts behind ps e grew (inl h) = inl h.1
came_all session bytes left before after rest hosts behind ps e grew (inr (inl h)) =
    inr (inl (subst LastEnded (sym (grew ∙ ap (λ (l : List Post). hosts ++ l) h.0 ∙ append-nil hosts)) h.2))
came_all session bytes left before after rest hosts behind ps e grew (inr (inr (inl h))) = inr (inr (full_not_quit e h.0))
came_all session bytes left before after rest hosts behind ps e grew (inr (inr (inr h))) = inr (inr (want_not_quit e h.0))

-- ---- its writer

-- these bytes of frames were taken in this session, and none in another; no message came, and no link came up
pub record WritesTell (session : ℕ) (frames : List ℕ) (ps : List Post) : Type 0 where
  pub own : (k : ℕ) → session ≡ k → flat_map (taken_by k) ps ≡ frames
  pub other : (k : ℕ) → session ≢ k → flat_map (taken_by k) ps ≡ []
  pub came : (k : ℕ) → flat_map (came_by k) ps ≡ []
  pub gave : flat_map given_by ps ≡ []

take_own : (session k : ℕ) (a : Answer) → (session == k) ≡ true → frame_taken (event.Take session) a k ≡ frame_of a
take_own session k (answer.Frame frame) same = ap (λ (b : Bool). if b then frame else []) same
take_own session k _ same = refl

take_other : (session k : ℕ) (a : Answer) → (session == k) ≡ false → frame_taken (event.Take session) a k ≡ []
take_other session k (answer.Frame frame) other = ap (λ (b : Bool). if b then frame else []) other
take_other session k _ other = refl

takes_own : (session k : ℕ) → (session == k) ≡ true → (ps : List Post) → AreTakes session ps → flat_map (taken_by k) ps ≡ frames_of ps
takes_own session k same [] takes = refl
takes_own session k same (p ∷ ps) takes =
    ap (λ (e : Event). frame_taken e p.answer k ++ flat_map (taken_by k) ps) takes.0
    ∙ ap (λ (l : List ℕ). l ++ flat_map (taken_by k) ps) (take_own session k p.answer same)
    ∙ ap (λ (l : List ℕ). frame_of p.answer ++ l) (takes_own session k same ps takes.2)

takes_other : (session k : ℕ) → (session == k) ≡ false → (ps : List Post) → AreTakes session ps → flat_map (taken_by k) ps ≡ []
takes_other session k other [] takes = refl
takes_other session k other (p ∷ ps) takes =
    ap (λ (e : Event). frame_taken e p.answer k ++ flat_map (taken_by k) ps) takes.0
    ∙ ap (λ (l : List ℕ). l ++ flat_map (taken_by k) ps) (take_other session k p.answer other)
    ∙ takes_other session k other ps takes.2

takes_of : (Is : Event → Type 0) (session : ℕ) → Is (event.Take session) → (ps : List Post) → AreTakes session ps → AreOf Is ps
takes_of Is session is [] takes = tt
takes_of Is session is (p ∷ ps) takes = (subst Is (sym takes.0) is, takes_of Is session is ps takes.2)

takes_tell : (session : ℕ) (ps : List Post) → AreTakes session ps → WritesTell session (frames_of ps) ps
takes_tell session ps takes = record {
  own = λ k same. takes_own session k (eq-eqb session k same) ps takes;
  other = λ k other. takes_other session k (ne_eqb session k other) ps takes;
  came = λ k. brought_none k ps (takes_of BringsNone session tt ps takes);
  gave = gave_none ps (takes_of GivesNone session tt ps takes);
}

writer_silent : (session : ℕ) (Fails : Type 0) (takes downs : List Post) (lost : List ℕ) (e : ActorEnd) → WriterEnds session Fails takes downs lost e → AreSilent downs
writer_silent session Fails takes downs lost e (inl h) = none_so downs h.0
writer_silent session Fails takes downs lost e (inr h) = down_or_none session cause.WriteFault downs _ _ h.1

pub writes_tell : (session : ℕ) (Fails : Type 0) (held held' : Option (List ℕ)) (ps : List Post) (count : ℕ) (e : ActorEnd)
    (d : WriterDid session Fails held held' [] ps count e) → WritesTell session (frames_of d.takes) ps
writes_tell session Fails held held' ps count e d =
    let takes = takes_tell session d.takes d.are_takes in
    let silent = writer_silent session Fails d.takes d.downs d.lost e d.ends in
    subst (WritesTell session (frames_of d.takes)) (sym d.grew) (record {
      own = λ k same. with_silent (taken_by k) d.takes d.downs (silent.taken k) ∙ takes.own k same;
      other = λ k other. with_silent (taken_by k) d.takes d.downs (silent.taken k) ∙ takes.other k other;
      came = λ k. with_silent (came_by k) d.takes d.downs (silent.came k) ∙ takes.came k;
      gave = with_silent given_by d.takes d.downs silent.given ∙ takes.gave;
    })

-- nothing is lost, unless the link failed
pub out_all : (session : ℕ) (Fails : Type 0) (takes downs : List Post) (lost : List ℕ) (e : ActorEnd) → WriterEnds session Fails takes downs lost e → (lost ≡ []) ⊎ Fails
out_all session Fails takes downs lost e (inl h) = inl h.1
out_all session Fails takes downs lost e (inr h) = inr h.0
