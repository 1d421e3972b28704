-- The law: the history of a run has of each session of the host what its link told.
use Rattle.std.proofs.Common.{◌≡◌, ◌≢◌, ◌⊎◌, inl, inr, ℕ, zero, suc, ◌+◌, ◌-◌, ◌<◌, ◌≤◌, List, [], ◌∷◌, ◌++◌, length, sym, ◌∙◌, ap, subst, arith}
use Rattle.std.specs.List.{flat_map}
use Rattle.std.proofs.lemmas.Bool.{cases_lt}
use Rattle.std.proofs.lemmas.List.Folds.{flat_map-map}
use Rattle.tool_events.specs.declared.config.Config.{Config}
use Rattle.tool_events.specs.declared.entry.Entry.{Entry}
use Rattle.gem_model.specs.State.{opening}
use Rattle.gem_model.specs.Run.{recorded}
use Rattle.gem_model.specs.Sessions.{frame_taken, session_out}
use Rattle.shared_tool.specs.declared.posted.Posted.{Posted}
use Rattle.shared_tool.specs.Posts.{posted_as, posted_in, entry_of}
use Rattle.shared_tool.specs.Laws.{posted_entries}
use Rattle.shared_tool.specs.Seats.{post_of}
use Rattle.actors.specs.declared.end.ActorEnd.{ActorEnd}
use Rattle.host_actor.specs.declared.bytes.SessionBytes.{SessionBytes}
use Rattle.host_actor.specs.Links.{LinkTold, DoorTold}
use Rattle.host_actor.specs.Sessions.{Session}
use Rattle.host_actor.specs.Hosting.{HostDid, last_session}
use Rattle.tool_crew.specs.declared.ends.Ends.{Ends}
use Rattle.tool_crew.specs.Crews.{Outside}
use Rattle.tool_crew.specs.Ran.{RunDid, AllModules, posts_at, modules_of}
use Rattle.session_laws.specs.Kept.{arrival_of, session_in, EachKept}
use Rattle.session_laws.proofs.Apart.{same_or_other, at_seat}
use Rattle.session_laws.proofs.Numbers.{AreFrom, number_given, given_in, numbered_from_1}
use Rattle.session_laws.proofs.Telling.{AreSilent, none_silent, came_by, taken_by, given_by}
use Rattle.session_laws.proofs.Others.{operator_silent, clock_silent, module_silent}
use Rattle.session_laws.proofs.Each.{came_in, taken_in, numbers_of, gather_writes, writes_came, writes_gave, behind_silent, desk_came, desk_taken, desk_numbers, all_kept}

-- ---- the seats of operator, clock and modules

-- a place among the modules, by its seat
place_below : (seat n k : ℕ) → 4 ≤ seat → seat < 4 + n → k ≡ n → seat - 4 < k
place_below seat n k least below is = omega arith

place_is : (seat : ℕ) → 4 ≤ seat → seat ≡ 3 + (1 + (seat - 4))
place_is seat least = omega arith

modules_silent : (c : Config) (history : List Entry) (m : ℕ) (ends : List ActorEnd) → AllModules c history m ends → (j : ℕ) → j < length ends → (seat : ℕ) → seat ≡ 3 + (m + j)
    → AreSilent (posts_at seat c history)
modules_silent c history m [] all j below seat is = absurd (omega arith)
modules_silent c history m (e ∷ ends) all zero below seat is =
    let same : 3 + m ≡ seat = omega arith in
    subst (λ (s : ℕ). AreSilent (posts_at s c history)) same (module_silent _ all.0.0 (posts_at (3 + m) c history) e all.0.1)
modules_silent c history m (e ∷ ends) all (suc j) below seat is = modules_silent c history (suc m) ends all.1 j (omega arith) seat (omega arith)

module _ {L : Type 0} (told : L → LinkTold) (out out' : Outside L) (c : Config) (history : List Entry) (sessions : List SessionBytes) (count : ℕ) (ends : Ends) (r : RunDid told out out' c history sessions count ends) where
  -- what was posted at a seat tells nothing
  abbrev SeatSilent : ℕ → Type 0
  SeatSilent seat = AreSilent (posts_at seat c history)

  operator_none : SeatSilent 2
  operator_none = operator_silent out.script.left out'.script.left _ _ (posts_at 2 c history) count ends.operator r.operator.4

  clock_none : SeatSilent 3
  clock_none = clock_silent out.moments out'.moments (posts_at 3 c history) ends.clock r.clock

  later_none : (seat : ℕ) → 4 ≤ seat → SeatSilent seat
  later_none seat least = by (cases_lt seat (4 + modules_of c)) where
    by : (seat < 4 + modules_of c) ⊎ (4 + modules_of c ≤ seat) → SeatSilent seat
    by (inl below) =
        modules_silent c history 1 r.modules.ends r.modules.worked (seat - 4) (place_below seat (modules_of c) (length r.modules.ends) least below r.modules.all) seat (place_is seat least)
    by (inr beyond) = subst AreSilent (sym (r.others seat beyond)) none_silent

  four_at_least : (seat : ℕ) → seat ≢ 0 → seat ≢ 1 → seat ≢ 2 → seat ≢ 3 → 4 ≤ seat
  four_at_least seat a b d e = omega arith

  other_none : (seat : ℕ) → seat ≢ 0 → seat ≢ 1 → SeatSilent seat
  other_none seat zeroth first = by (same_or_other seat 2) (same_or_other seat 3) where
    by : (seat ≡ 2) ⊎ (seat ≢ 2) → (seat ≡ 3) ⊎ (seat ≢ 3) → SeatSilent seat
    by (inl second) third = subst SeatSilent (sym second) operator_none
    by (inr second) (inl third) = subst SeatSilent (sym third) clock_none
    by (inr second) (inr third) = later_none seat (four_at_least seat zeroth first second third)

  module _ {door door' : DoorTold L} {fulls wants : ℕ} {bytes bytes' : List SessionBytes} {e : ActorEnd} (d : HostDid told door door' fulls wants [] (posts_at 0 c history) [] (posts_at 1 c history) bytes bytes' e) where
    -- the sessions of the host
    abbrev hosted : List (Session L)
    hosted = d.went ++ last_session d.last

    last_silent : AreSilent d.behind
    last_silent = behind_silent e door door' fulls wants d.last d.behind d.ends

    -- ---- the seats of the host

    came_none : (k seat : ℕ) → seat ≢ 0 → flat_map (came_by k) (posts_at seat c history) ≡ []
    came_none k seat other = by (same_or_other seat 1) where
      by : (seat ≡ 1) ⊎ (seat ≢ 1) → flat_map (came_by k) (posts_at seat c history) ≡ []
      by (inl one) =
          ap (λ (s : ℕ). flat_map (came_by k) (posts_at s c history)) one ∙ ap (flat_map (came_by k)) d.wrote ∙ writes_came told k hosted d.sessions
      by (inr more) = (other_none seat other more).came k

    gave_none : (seat : ℕ) → seat ≢ 0 → flat_map given_by (posts_at seat c history) ≡ []
    gave_none seat other = by (same_or_other seat 1) where
      by : (seat ≡ 1) ⊎ (seat ≢ 1) → flat_map given_by (posts_at seat c history) ≡ []
      by (inl one) = ap (λ (s : ℕ). flat_map given_by (posts_at s c history)) one ∙ ap (flat_map given_by) d.wrote ∙ writes_gave told hosted d.sessions
      by (inr more) = (other_none seat other more).given

    taken_none : (k seat : ℕ) → seat ≢ 1 → flat_map (taken_by k) (posts_at seat c history) ≡ []
    taken_none k seat other = by (same_or_other seat 0) where
      by : (seat ≡ 0) ⊎ (seat ≢ 0) → flat_map (taken_by k) (posts_at seat c history) ≡ []
      by (inl zeroth) =
          ap (λ (s : ℕ). flat_map (taken_by k) (posts_at s c history)) zeroth ∙ ap (flat_map (taken_by k)) d.grew
          ∙ desk_taken told hosted d.sessions d.behind last_silent k
      by (inr more) = (other_none seat more other).taken k

    -- ---- what the history has

    -- the messages that it has of a session are those that came by its posts
    history_came : (k : ℕ) → session_in history k ≡ flat_map (came_in k) hosted
    history_came k =
        ap (flat_map (λ (x : Entry). arrival_of k x.event)) (sym (posted_entries (opening c) history r.state r.recorded.run))
        ∙ flat_map-map (λ (x : Entry). arrival_of k x.event) entry_of (posted_in c history)
        ∙ at_seat (λ (p : Posted). p.seat) post_of (came_by k) 0 (posted_in c history) (λ seat other. came_none k seat other)
        ∙ ap (flat_map (came_by k)) d.grew
        ∙ desk_came told hosted d.sessions d.behind last_silent k

    -- the frames that went out in it are those that were taken by its posts
    history_taken : (k : ℕ) → session_out (opening c) history k ≡ flat_map (taken_in k) hosted
    history_taken k =
        sym (flat_map-map (λ (p : Posted). frame_taken p.event p.answer k) posted_as (recorded (opening c) history))
        ∙ at_seat (λ (p : Posted). p.seat) post_of (taken_by k) 1 (posted_in c history) (λ seat other. taken_none k seat other)
        ∙ ap (flat_map (taken_by k)) d.wrote
        ∙ gather_writes (taken_by k) hosted

    -- the links that came up were those of the host, in order
    history_numbers : flat_map given_in (recorded (opening c) history) ≡ numbers_of hosted
    history_numbers =
        sym (flat_map-map (λ (p : Posted). number_given p.event p.answer) posted_as (recorded (opening c) history))
        ∙ at_seat (λ (p : Posted). p.seat) post_of given_by 0 (posted_in c history) (λ seat other. gave_none seat other)
        ∙ ap (flat_map given_by) d.grew
        ∙ desk_numbers told hosted d.sessions d.behind last_silent

    -- The law, for whatever the host actor did in the seats of reader and writer: its sessions are numbered from 1 on, in order,
    -- and the history has of each what its link told.
    pub each_kept : EachKept told c history 1 (d.went ++ last_session d.last)
    each_kept =
        all_kept told c history 1 hosted d.sessions (subst (AreFrom 1) history_numbers (numbered_from_1 c history r.state r.recorded.run))
        (λ k from. history_came k) (λ k from. history_taken k)

  -- and so for what it did in the run
  pub each_kept_in_run : EachKept told c history 1 (r.host.did.went ++ last_session r.host.did.last)
  each_kept_in_run = each_kept r.host.did
