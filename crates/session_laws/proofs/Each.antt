-- What the posts of all sessions of the host tell; and so, of each session by its number, what the history has of it.
use Rattle.std.proofs.Common.{◌≡◌, ◌≢◌, inl, inr, ℕ, suc, ◌<◌, ◌≤◌, List, [], ◌∷◌, ◌++◌, map, refl, sym, ◌∙◌, ap, subst, arith, append-nil, append_assoc}
use Rattle.std.specs.List.{flat_map, AllByRecursion}
use Rattle.std.proofs.lemmas.Grind.{flat_map-append}
use Rattle.hsms_frame.specs.declared.frame.Arrival.{Arrival}
use Rattle.tool_events.specs.declared.config.Config.{Config}
use Rattle.tool_events.specs.declared.entry.Entry.{Entry}
use Rattle.tool_events.specs.declared.entry.Post.{Post}
use Rattle.tool_events.specs.declared.event.Event.TheVariants as event
use Rattle.tool_events.specs.declared.answer.Answer.TheVariants as answer
use Rattle.gem_model.specs.State.{opening}
use Rattle.gem_model.specs.Sessions.{session_out}
use Rattle.actors.specs.declared.end.ActorEnd.{ActorEnd}
use Rattle.actors.specs.declared.end.ActorEnd.TheVariants as end
use Rattle.actors.specs.Writes.{frames_of}
use Rattle.host_actor.specs.Links.{LinkTold, DoorTold}
use Rattle.host_actor.specs.Sessions.{Session, IsSession, AreSessions, post_of, all_reads, all_writes}
use Rattle.host_actor.specs.Hosting.{LastLink, NoLink, Unmade, Broke, BrokeWith, HostEnds}
use Rattle.session_laws.specs.Kept.{session_in, KeptSession, EachKept}
use Rattle.session_laws.proofs.Apart.{all_none}
use Rattle.session_laws.proofs.Numbers.{AreFrom}
use Rattle.session_laws.proofs.Telling.{came_by, taken_by, given_by, AreSilent, none_so, quit_or_none, with_silent}
use Rattle.session_laws.proofs.OneSession.{ReadsTell, WritesTell, reads_tell, writes_tell, came_all, out_all}

-- ---- parts of numbered sessions

module _ {S A : Type 0} (number : S → ℕ) (part : ℕ → S → List A) where
  -- a session has a part in its own number alone
  abbrev IsApart : S → Type 0
  IsApart s = (k : ℕ) → number s ≢ k → part k s ≡ []

  -- none of the sessions from a number on has a part in one before
  before_none : (n k : ℕ) (ss : List S) → AreFrom n (map number ss) → AllByRecursion IsApart ss → k < n → flat_map (part k) ss ≡ []
  before_none n k [] numbered apart less = refl
  before_none n k (s ∷ ss) numbered apart less =
      let is : number s ≡ n = numbered.0 in
      ap (λ (l : List A). l ++ flat_map (part k) ss) (apart.0 k (λ same. absurd (omega (arith, same, is))))
      ∙ before_none (suc n) k ss numbered.1 apart.1 (omega arith)

  -- the first alone has one in its own
  first_alone : (n : ℕ) (s : S) (ss : List S) → AreFrom n (map number (s ∷ ss)) → AllByRecursion IsApart (s ∷ ss) → flat_map (part n) (s ∷ ss) ≡ part n s
  first_alone n s ss numbered apart =
      ap (λ (l : List A). part n s ++ l) (before_none (suc n) n ss numbered.1 apart.1 (omega arith)) ∙ append-nil (part n s)

  -- and it has none in those behind
  later_alone : (n k : ℕ) (s : S) (ss : List S) → AreFrom n (map number (s ∷ ss)) → AllByRecursion IsApart (s ∷ ss) → suc n ≤ k
      → flat_map (part k) (s ∷ ss) ≡ flat_map (part k) ss
  later_alone n k s ss numbered apart more =
      let is : number s ≡ n = numbered.0 in
      ap (λ (l : List A). l ++ flat_map (part k) ss) (apart.0 k (λ same. absurd (omega (arith, same, is))))

module _ {L : Type 0} where
  -- that the link of a session came up
  abbrev up_of : Session L → Post
  up_of s = post_of event.LinkUp (answer.Session s.number)

  -- what the posts of all sessions tell is what those of each tell, one after another
  gather_reads : {A : Type 0} (h : Post → List A) (ss : List (Session L)) → flat_map h (all_reads ss) ≡ flat_map (λ (s : Session L). h (up_of s) ++ flat_map h s.reads) ss
  gather_reads h [] = refl
  gather_reads h (s ∷ ss) =
      ap (λ l. h (up_of s) ++ l) (flat_map-append h s.reads (all_reads ss) ∙ ap (λ l. flat_map h s.reads ++ l) (gather_reads h ss))
      ∙ sym (append_assoc (h (up_of s)) (flat_map h s.reads) (flat_map (λ (r : Session L). h (up_of r) ++ flat_map h r.reads) ss))

  pub gather_writes : {A : Type 0} (h : Post → List A) (ss : List (Session L)) → flat_map h (all_writes ss) ≡ flat_map (λ (s : Session L). flat_map h s.writes) ss
  gather_writes h [] = refl
  gather_writes h (s ∷ ss) = flat_map-append h s.writes (all_writes ss) ∙ ap (λ l. flat_map h s.writes ++ l) (gather_writes h ss)

  -- the numbers of sessions
  abbrev pub numbers_of : List (Session L) → List ℕ
  numbers_of ss = map (λ (s : Session L). s.number) ss

  -- the messages that came by the posts of a session, and the frames that were taken by them
  abbrev pub came_in : ℕ → Session L → List Arrival
  came_in k s = flat_map (came_by k) s.reads

  abbrev pub taken_in : ℕ → Session L → List ℕ
  taken_in k s = flat_map (taken_by k) s.writes

  module _ (told : L → LinkTold) where
    reads_of : (s : Session L) (i : IsSession told s) → ReadsTell s.number i.read.given s.reads
    reads_of s i = reads_tell s.number (told s.given).left (told s.back).left i.before i.after s.reads s.read s.reader i.read

    writes_of : (s : Session L) (i : IsSession told s) → WritesTell s.number (frames_of i.wrote.takes) s.writes
    writes_of s i = writes_tell s.number _ (told s.given).held (told s.back).held s.writes s.written s.writer i.wrote

    -- what holds of each of them
    each_of : (Q : Session L → Type 0) → ((s : Session L) → IsSession told s → Q s) → (ss : List (Session L)) → AreSessions told ss → AllByRecursion Q ss
    each_of Q so [] are = tt
    each_of Q so (s ∷ ss) are = (so s are.0, each_of Q so ss are.1)

    reads_apart : (ss : List (Session L)) → AreSessions told ss → AllByRecursion (IsApart (λ (s : Session L). s.number) came_in) ss
    reads_apart ss are = each_of (IsApart (λ (s : Session L). s.number) came_in) (λ s i k other. (reads_of s i).other k other) ss are

    writes_apart : (ss : List (Session L)) → AreSessions told ss → AllByRecursion (IsApart (λ (s : Session L). s.number) taken_in) ss
    writes_apart ss are = each_of (IsApart (λ (s : Session L). s.number) taken_in) (λ s i k other. (writes_of s i).other k other) ss are

    -- ---- what the two desks tell

    -- at the reader's desk no frame was taken, and each session was given its number
    pub reads_taken : (k : ℕ) (ss : List (Session L)) → AreSessions told ss → flat_map (taken_by k) (all_reads ss) ≡ []
    reads_taken k ss are =
        gather_reads (taken_by k) ss
        ∙ all_none (λ (s : Session L). taken_by k (up_of s) ++ flat_map (taken_by k) s.reads) ss
        (each_of (λ (s : Session L). taken_by k (up_of s) ++ flat_map (taken_by k) s.reads ≡ []) (λ s i. (reads_of s i).taken k) ss are)

    pub reads_numbers : (ss : List (Session L)) → AreSessions told ss → flat_map given_by (all_reads ss) ≡ numbers_of ss
    reads_numbers [] are = refl
    reads_numbers (s ∷ ss) are =
        ap (λ (l : List ℕ). s.number ∷ l)
        (flat_map-append given_by s.reads (all_reads ss) ∙ ap (λ (l : List ℕ). l ++ flat_map given_by (all_reads ss)) (reads_of s are.0).gave ∙ reads_numbers ss are.1)

    -- at the writer's desk no message came, and no link
    pub writes_came : (k : ℕ) (ss : List (Session L)) → AreSessions told ss → flat_map (came_by k) (all_writes ss) ≡ []
    writes_came k ss are =
        gather_writes (came_by k) ss
        ∙ all_none (λ (s : Session L). flat_map (came_by k) s.writes) ss (each_of (λ (s : Session L). flat_map (came_by k) s.writes ≡ []) (λ s i. (writes_of s i).came k) ss are)

    pub writes_gave : (ss : List (Session L)) → AreSessions told ss → flat_map given_by (all_writes ss) ≡ []
    writes_gave ss are =
        gather_writes given_by ss
        ∙ all_none (λ (s : Session L). flat_map given_by s.writes) ss (each_of (λ (s : Session L). flat_map given_by s.writes ≡ []) (λ s i. (writes_of s i).gave) ss are)

    -- ---- each session by its number

    module _ (c : Config) (history : List Entry) where
      one_kept : (n : ℕ) (s : Session L) → IsSession told s → s.number ≡ n → session_in history n ≡ came_in n s → session_out (opening c) history n ≡ taken_in n s
          → KeptSession told c history n s
      one_kept n s i number came taken = record {
        numbered = number;
        bytes = i.read.bytes;
        read = i.read.read;
        rest = i.read.rest;
        arrived = i.read.arrived ∙ ap (λ (l : List Arrival). l ++ i.read.rest) (sym (came ∙ (reads_of s i).own n number));
        all_came = came_all s.number i.read.bytes (told s.given).left i.before i.after i.read.rest i.read.hosts i.read.behind s.reads s.reader i.read.grew i.read.ends;
        read_count = i.read.counted;
        written = i.wrote.written;
        lost = i.wrote.lost;
        went_out = taken ∙ (writes_of s i).own n number ∙ i.wrote.frames;
        wrote = i.wrote.wrote;
        all_out = out_all s.number _ i.wrote.takes i.wrote.downs i.wrote.lost s.writer i.wrote.ends;
        written_count = i.wrote.counted;
        shut = i.shut;
      }

      -- where the history has of each number what the sessions posted, it has of each session what its link told
      pub all_kept : (n : ℕ) (ss : List (Session L)) → AreSessions told ss → AreFrom n (numbers_of ss)
          → ((k : ℕ) → n ≤ k → session_in history k ≡ flat_map (came_in k) ss) → ((k : ℕ) → n ≤ k → session_out (opening c) history k ≡ flat_map (taken_in k) ss)
          → EachKept told c history n ss
      all_kept n [] are numbered came taken = tt
      all_kept n (s ∷ ss) are numbered came taken =
          let reads = reads_apart (s ∷ ss) are in
          let writes = writes_apart (s ∷ ss) are in
          let number : Session L → ℕ = λ s. s.number in (
            one_kept n s are.0 numbered.0 (came n (omega arith) ∙ first_alone number came_in n s ss numbered reads)
                (taken n (omega arith) ∙ first_alone number taken_in n s ss numbered writes),
            all_kept (suc n) ss are.1 numbered.1 (λ k more. came k (omega arith) ∙ later_alone number came_in n k s ss numbered reads more)
                (λ k more. taken k (omega arith) ∙ later_alone number taken_in n k s ss numbered writes more),
          )

-- ---- behind the sessions

ended_silent : (posts : List Post) → posts ≡ post_of event.LinkUp answer.Ended ∷ [] → AreSilent posts
ended_silent posts is = subst AreSilent (sym is) (record { came = λ k. refl; taken = λ k. refl; given = refl })

listened_silent : (posts : List Post) → posts ≡ post_of event.Listen answer.Ended ∷ [] → AreSilent posts
listened_silent posts is = subst AreSilent (sym is) (record { came = λ k. refl; taken = λ k. refl; given = refl })

broke_silent : {L : Type 0} (last : LastLink L) (behind : List Post) (e : ActorEnd) → BrokeWith last behind e → AreSilent behind
broke_silent NoLink behind e broke = absurd broke
broke_silent (Unmade link) behind e broke = absurd broke
broke_silent (Broke s) behind e broke = none_so behind broke.0

pub behind_silent : {L : Type 0} (e : ActorEnd) (door door' : DoorTold L) (fulls wants : ℕ) (last : LastLink L) (behind : List Post)
    → HostEnds e door door' fulls wants last behind → AreSilent behind
behind_silent end.Quit door door' fulls wants last behind (inl h) = ended_silent behind h.2
behind_silent end.Quit door door' fulls wants last behind (inr h) = listened_silent behind h.1
behind_silent end.Door door door' fulls wants last behind h = quit_or_none behind _ h.2
behind_silent end.Full door door' fulls wants last behind (inl h) = none_so behind h.1
behind_silent end.Full door door' fulls wants last behind (inr h) = broke_silent last behind end.Full h
behind_silent end.NoMemory door door' fulls wants last behind (inl h) = none_so behind h.1
behind_silent end.NoMemory door door' fulls wants last behind (inr (inl h)) = broke_silent last behind end.NoMemory h
behind_silent end.NoMemory door door' fulls wants last behind (inr (inr h)) = quit_or_none behind _ h.1
behind_silent end.ReadFault door door' fulls wants last behind h = absurd h
behind_silent (end.Line number place) door door' fulls wants last behind h = absurd h

-- ---- the two desks, with what is behind

module _ {L : Type 0} (told : L → LinkTold) (ss : List (Session L)) (are : AreSessions told ss) (behind : List Post) (silent : AreSilent behind) where
  pub desk_came : (k : ℕ) → flat_map (came_by k) (all_reads ss ++ behind) ≡ flat_map (came_in k) ss
  desk_came k = with_silent (came_by k) (all_reads ss) behind (silent.came k) ∙ gather_reads (came_by k) ss

  pub desk_taken : (k : ℕ) → flat_map (taken_by k) (all_reads ss ++ behind) ≡ []
  desk_taken k = with_silent (taken_by k) (all_reads ss) behind (silent.taken k) ∙ reads_taken told k ss are

  pub desk_numbers : flat_map given_by (all_reads ss ++ behind) ≡ numbers_of ss
  desk_numbers = with_silent given_by (all_reads ss) behind silent.given ∙ reads_numbers told ss are
