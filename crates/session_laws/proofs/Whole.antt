-- The sessions of a run as a whole: which links they had, and what was noted of each.
use Rattle.std.proofs.Common.{◌≡◌, ℕ, ◌+◌, ◌≤◌, List, [], ◌∷◌, ◌++◌, length, map, Option, refl, sym, ap, subst, ◌∙◌, append-nil, length-append, arith}
use Rattle.tool_events.specs.declared.config.Config.{Config}
use Rattle.tool_events.specs.declared.entry.Entry.{Entry}
use Rattle.host_actor.specs.declared.bytes.SessionBytes.{SessionBytes}
use Rattle.host_actor.specs.Links.{LinkTold, DoorTold, AllGiven, AllBack, raised}
use Rattle.host_actor.specs.Sessions.{Session, all_bytes}
use Rattle.host_actor.specs.Hosting.{LastLink, NoLink, Unmade, Broke, last_given, last_back, last_session}
use Rattle.host_actor.proofs.SessionLists.{givens-more, backs-more}
use Rattle.tool_crew.specs.declared.ends.Ends.{Ends}
use Rattle.tool_crew.specs.Crews.{Outside}
use Rattle.tool_crew.specs.Ran.{RunDid}
use Rattle.session_laws.specs.Kept.{EachKept, SessionsKept}
use Rattle.session_laws.proofs.Sessions.{each_kept_in_run}

-- the link behind the sessions with which none began
abbrev unmade_of : {L : Type 0} → LastLink L → List L
unmade_of NoLink = []
unmade_of (Unmade link) = link ∷ []
unmade_of (Broke s) = []

-- one more behind so many
one-behind : (n m : ℕ) → m ≡ n + 1 → n + 1 ≡ m + 0
one-behind n m is = omega arith

module _ {L : Type 0} where
  is-few : (last : LastLink L) → length (unmade_of last) ≤ 1
  is-few NoLink = omega arith
  is-few (Unmade link) = omega arith
  is-few (Broke s) = omega arith

  givens : (went : List (Session L)) (last : LastLink L)
      → map (λ (s : Session L). s.given) went ++ last_given last ≡ map (λ (s : Session L). s.given) (went ++ last_session last) ++ unmade_of last
  givens went NoLink = sym (append-nil (map (λ (s : Session L). s.given) (went ++ [])) ∙ givens-more went [])
  givens went (Unmade link) = sym (ap (λ (l : List L). l ++ link ∷ []) (givens-more went [] ∙ append-nil (map (λ (s : Session L). s.given) went)))
  givens went (Broke s) = sym (append-nil (map (λ (s : Session L). s.given) (went ++ s ∷ [])) ∙ givens-more went (s ∷ []))

  backs : (went : List (Session L)) (last : LastLink L)
      → map (λ (s : Session L). s.back) went ++ last_back last ≡ map (λ (s : Session L). s.back) (went ++ last_session last) ++ unmade_of last
  backs went NoLink = sym (append-nil (map (λ (s : Session L). s.back) (went ++ [])) ∙ backs-more went [])
  backs went (Unmade link) = sym (ap (λ (l : List L). l ++ link ∷ []) (backs-more went [] ∙ append-nil (map (λ (s : Session L). s.back) went)))
  backs went (Broke s) = sym (append-nil (map (λ (s : Session L). s.back) (went ++ s ∷ [])) ∙ backs-more went (s ∷ []))

  lengths : (went : List (Session L)) (last : LastLink L)
      → length went + length (last_given last) ≡ length (went ++ last_session last) + length (unmade_of last)
  lengths went NoLink = ap (λ (l : List (Session L)). length l + 0) (sym (append-nil went))
  lengths went (Unmade link) = ap (λ (l : List (Session L)). length l + 1) (sym (append-nil went))
  lengths went (Broke s) = one-behind (length went) (length (went ++ s ∷ [])) (length-append went (s ∷ []))

-- What the history of a run has of the host's sessions.
pub sessions_kept : {L : Type 0} (told : L → LinkTold) (out out' : Outside L) (c : Config) (history : List Entry) (sessions : List SessionBytes) (count : ℕ) (ends : Ends)
    → RunDid told out out' c history sessions count ends → SessionsKept told c history out.door out'.door sessions
sessions_kept {L} told out out' c history sessions count ends r =
    let d = r.host.did in
    record {
      all = d.went ++ last_session d.last;
      unmade = unmade_of d.last;
      few = is-few d.last;
      kept = each_kept_in_run told out out' c history sessions count ends r;
      given = subst (λ (l : List L). AllGiven l out.door.left out'.door.left) (givens d.went d.last) d.given;
      back = subst (λ (l : List L). AllBack l out.door.backs out'.door.backs) (backs d.went d.last) d.back;
      links = d.links ∙ ap (λ (n : ℕ). raised out.door.links n) (lengths d.went d.last);
      are_noted = d.noted;
    }
