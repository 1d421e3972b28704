-- From the chairs that come back to the posts of each seat.
use Rattle.std.proofs.Common.{◌≡◌, ◌≢◌, ◌==◌, ℕ, zero, suc, ◌+◌, ◌<◌, ◌≤◌, Option, Some, None, List, [], ◌∷◌, ◌++◌, length, map, filter, slice_get, refl, sym, ap, ◌∙◌, subst, arith}
use Rattle.gem_ids.specs.declared.moment.Moment.{Moment}
use Rattle.tool_events.specs.declared.config.Config.{Config}
use Rattle.tool_events.specs.declared.entry.Entry.{Entry}
use Rattle.tool_events.specs.declared.entry.Post.{Post}
use Rattle.gem_model.specs.State.{State}
use Rattle.gem_model.specs.Sizes.{bytes_of}
use Rattle.history_laws.specs.Recorded.{Recorded}
use Rattle.history_parts.specs.CoreView.{CoreView}
use Rattle.tool_lock.specs.declared.kept.Kept.{Ghosts}
use Rattle.tool_lock.specs.declared.pass.Pass.{Pass}
use Rattle.tool_lock.specs.Passes.{pass_number, mine, IsPassOf}
use Rattle.tool_lock.specs.Turned.{own}
use Rattle.tool_lock.specs.Ends.{AreNew, AreOf, AreKnown}
use Rattle.shared_tool.specs.declared.posted.Posted.{Posted}
use Rattle.shared_tool.specs.declared.shared.Shared.{Shared}
use Rattle.shared_tool.specs.Posts.{posted_in}
use Rattle.shared_tool.specs.Seats.{posts_of}
use Rattle.actors.specs.declared.end.ActorEnd.{ActorEnd}
use Rattle.actors.specs.declared.end.ActorEnd.TheVariants as end
use Rattle.actors.specs.Times.{TimeDid}
use Rattle.host_actor.specs.declared.bytes.SessionBytes.{SessionBytes}
use Rattle.host_actor.specs.Links.{LinkTold}
use Rattle.tool_crew.specs.declared.seat.Seat.{Seat}
use Rattle.tool_crew.specs.declared.ends.Ends.{Ends}
use Rattle.tool_crew.specs.Doings.{Hosted, Operated, Worked}
use Rattle.tool_crew.specs.Seating.{IsOf, Stays, number_in, posts_in, AllOf, AllWorked}
use Rattle.tool_crew.specs.Crews.{Outside, SeatsDid, CrewDid, first_end, AreEnds}
use Rattle.tool_crew.specs.Ran.{posts_at, modules_of, AllModules, ModulesDid, RunDid}

module _ {V : Type 0} {K : Ghosts V Posted CoreView} where
  abbrev chair : Seat V Posted CoreView K → Option (Pass V Posted CoreView K)
  chair s = s.chair

  -- the seats have new chairs, numbered from k
  abbrev pub NewFrom : Shared V Posted CoreView → ℕ → List (Seat V Posted CoreView K) → Type 0
  NewFrom t k [] = Unit {0}
  NewFrom t k (s ∷ ss) = IsOf t s.chair × (number_in s.chair ≡ k) × (posts_in s.chair ≡ []) × NewFrom t (suc k) ss

  abbrev IsFresh : Shared V Posted CoreView → ℕ → ℕ → Pass V Posted CoreView K → Type 0
  IsFresh t k i p = IsPassOf t.lock p × (pass_number p ≡ i + k) × (mine p ≡ [])

  head : (t : Shared V Posted CoreView) (k : ℕ) (p : Pass V Posted CoreView K) (c : Option (Pass V Posted CoreView K)) → IsFresh t k 0 p → c ≡ Some p → IsOf t c × (number_in c ≡ k) × (posts_in c ≡ [])
  head t k p None f e = absurd (cc e)
  head t k p (Some q) f e =
      let same : p ≡ q = cc in
      let n : pass_number p ≡ k = (let x = f.1 in omega arith) in
      subst (λ (r : Pass V Posted CoreView K). IsPassOf t.lock r × (pass_number r ≡ k) × (posts_of (mine r) ≡ [])) same (f.0, n, ap posts_of f.2)

  new_from : (t : Shared V Posted CoreView) (k : ℕ) (ps : List (Pass V Posted CoreView K)) (ss : List (Seat V Posted CoreView K)) → ((i : ℕ) (p : Pass V Posted CoreView K) → slice_get ps i ≡ Some p → IsFresh t k i p) → map chair ss ≡ map Some ps → NewFrom t k ss
  new_from t k [] [] f e = tt
  new_from t k [] (s ∷ ss) f e = absurd (cc e)
  new_from t k (p ∷ ps) [] f e = absurd (cc e)
  new_from t k (p ∷ ps) (s ∷ ss) f e =
      let first : s.chair ≡ Some p = cc in
      let rest : map chair ss ≡ map Some ps = cc in
      let h = head t k p s.chair (f 0 p refl) first in
      (h.0, h.1, h.2, new_from t (suc k) ps ss (λ i q at. let g = f (suc i) q at in let n = g.1 in (g.0, omega arith, g.2)) rest)

  pub seats_new : (t : Shared V Posted CoreView) (ps : List (Pass V Posted CoreView K)) (ss : List (Seat V Posted CoreView K)) → AreNew t.lock ps → map chair ss ≡ map Some ps → NewFrom t 0 ss
  seats_new t ps ss new e = new_from t 0 ps ss (λ i p at. let g = new i p at in let n = g.1 in (g.0, omega arith, g.3)) e

  pub all_of_new : (t : Shared V Posted CoreView) (k : ℕ) (ss : List (Seat V Posted CoreView K)) → NewFrom t k ss → AllOf t ss
  all_of_new t k [] n = tt
  all_of_new t k (s ∷ ss) n = (n.0, all_of_new t (suc k) ss n.3)

  all_of_worked : (t : Shared V Posted CoreView) (m : ℕ) (ss rs : List (Seat V Posted CoreView K)) → AllWorked t m ss rs → AllOf t rs
  all_of_worked t m [] [] d = tt
  all_of_worked t m [] (r ∷ rs) d = absurd d
  all_of_worked t m (s ∷ ss) [] d = absurd d
  all_of_worked t m (s ∷ ss) (r ∷ rs) d = (d.0.0, all_of_worked t (suc m) ss rs d.2)

  worked_length : (t : Shared V Posted CoreView) (m : ℕ) (ss rs : List (Seat V Posted CoreView K)) → AllWorked t m ss rs → length rs ≡ length ss
  worked_length t m [] [] d = refl
  worked_length t m [] (r ∷ rs) d = absurd d
  worked_length t m (s ∷ ss) [] d = absurd d
  worked_length t m (s ∷ ss) (r ∷ rs) d = ap (λ n. suc n) (worked_length t (suc m) ss rs d.2)

  -- who was known at the end
  abbrev Known : List Posted → Option (Pass V Posted CoreView K) → Type 0
  Known log None = Unit {0}
  Known log (Some p) = own (λ (e : Posted). e.seat) (pass_number p) log ≡ mine p

  abbrev pub AllKnown : List Posted → List (Seat V Posted CoreView K) → Type 0
  AllKnown log [] = Unit {0}
  AllKnown log (s ∷ ss) = Known log s.chair × AllKnown log ss

  known_one : (log : List Posted) (p : Pass V Posted CoreView K) (c : Option (Pass V Posted CoreView K)) → Some p ≡ c → own (λ (e : Posted). e.seat) (pass_number p) log ≡ mine p → Known log c
  known_one log p None e k = tt
  known_one log p (Some q) e k = let same : p ≡ q = cc in subst (λ (r : Pass V Posted CoreView K). own (λ (e : Posted). e.seat) (pass_number r) log ≡ mine r) same k

  pub all_known : (log : List Posted) (qs : List (Pass V Posted CoreView K)) (ss : List (Seat V Posted CoreView K)) → AreKnown (λ (e : Posted). e.seat) log qs → map Some qs ≡ map chair ss → AllKnown log ss
  all_known log [] [] k e = tt
  all_known log [] (s ∷ ss) k e = absurd (cc e)
  all_known log (q ∷ qs) [] k e = absurd (cc e)
  all_known log (q ∷ qs) (s ∷ ss) k e =
      let first : Some q ≡ s.chair = cc in
      let rest : map Some qs ≡ map chair ss = cc in
      (known_one log q s.chair first (k 0 q refl).1, all_known log qs ss (λ i p at. k (suc i) p at) rest)

  of_one : (t : Shared V Posted CoreView) (p : Pass V Posted CoreView K) (c : Option (Pass V Posted CoreView K)) → Some p ≡ c → IsOf t c → IsPassOf t.lock p
  of_one t p None e f = absurd f
  of_one t p (Some q) e f = let same : q ≡ p = cc in subst (λ (r : Pass V Posted CoreView K). IsPassOf t.lock r) same f

  pub are_of : (t : Shared V Posted CoreView) (qs : List (Pass V Posted CoreView K)) (ss : List (Seat V Posted CoreView K)) → AllOf t ss → map Some qs ≡ map chair ss → AreOf t.lock qs
  are_of t [] ss f e i p at = absurd (cc at)
  are_of t (q ∷ qs) [] f e i p at = absurd (cc e)
  are_of t (q ∷ qs) (s ∷ ss) f e zero p at =
      let first : Some q ≡ s.chair = cc in let same : q ≡ p = cc in subst (λ (r : Pass V Posted CoreView K). IsPassOf t.lock r) same (of_one t q s.chair first f.0)
  are_of t (q ∷ qs) (s ∷ ss) f e (suc i) p at = let rest : map Some qs ≡ map chair ss = cc in are_of t qs ss f.1 rest i p at

  pub same_length : (qs : List (Pass V Posted CoreView K)) (ss : List (Seat V Posted CoreView K)) → map Some qs ≡ map chair ss → length qs ≡ length ss
  same_length [] [] e = refl
  same_length [] (s ∷ ss) e = absurd (cc e)
  same_length (q ∷ qs) [] e = absurd (cc e)
  same_length (q ∷ qs) (s ∷ ss) e = let rest : map Some qs ≡ map chair ss = cc in ap (λ n. suc n) (same_length qs ss rest)

  -- ---- the posts of a seat are those that its chair knows

  module _ (t : Shared V Posted CoreView) (c : Config) (history : List Entry) where
    seat_posts : (o : Option (Pass V Posted CoreView K)) (k : ℕ) → IsOf t o → number_in o ≡ k → Known (posted_in c history) o → posts_at k c history ≡ posts_in o
    seat_posts None k f n e = absurd f
    seat_posts (Some p) k f n e = subst (λ i. posts_at i c history ≡ posts_of (mine p)) n (ap posts_of e)

    ended : (P : List Post → List Post → Type 0) (old new : Option (Pass V Posted CoreView K)) (k : ℕ) → number_in old ≡ k → posts_in old ≡ [] → Stays t old new → Known (posted_in c history) new
        → P (posts_in old) (posts_in new) → P [] (posts_at k c history)
    ended P old new k n e stays known p =
        subst (λ l. P [] l) (sym (seat_posts new k stays.0 (stays.1 ∙ n) known)) (subst (λ l. P l (posts_in new)) e p)

    -- the same of two seats
    ended_both : (P : List Post → List Post → List Post → List Post → Type 0) (old new old' new' : Option (Pass V Posted CoreView K)) (k k' : ℕ) → number_in old ≡ k → posts_in old ≡ [] → Stays t old new → Known (posted_in c history) new
        → number_in old' ≡ k' → posts_in old' ≡ [] → Stays t old' new' → Known (posted_in c history) new'
        → P (posts_in old) (posts_in new) (posts_in old') (posts_in new') → P [] (posts_at k c history) [] (posts_at k' c history)
    ended_both P old new old' new' k k' n e stays known n' e' stays' known' p =
        ended (λ x y. P [] (posts_at k c history) x y) old' new' k' n' e' stays' known'
        (ended (λ x y. P x y (posts_in old') (posts_in new')) old new k n e stays known p)

    abbrev ends_at : List (Seat V Posted CoreView K) → List ActorEnd
    ends_at ms = map (λ (s : Seat V Posted CoreView K). s.end) ms

    modules_end : (m k : ℕ) (ms ms' : List (Seat V Posted CoreView K)) → k ≡ 3 + m → NewFrom t k ms → AllWorked t m ms ms' → AllKnown (posted_in c history) ms' → AllModules c history m (ends_at ms')
    modules_end m k [] [] is n d a = tt
    modules_end m k [] (r ∷ rs) is n d a = absurd d
    modules_end m k (s ∷ ss) [] is n d a = absurd d
    modules_end m k (s ∷ ss) (r ∷ rs) is n d a =
        let next : suc k ≡ 3 + suc m = omega (arith, is) in (
          subst (λ i. Worked m [] (posts_at i c history) r.end) is (ended (λ x y. Worked m x y r.end) s.chair r.chair k n.1 n.2 d.0 a.0 d.1),
          modules_end (suc m) (suc k) ss rs next n.3 d.2 a.1,
        )

    ends_length : (ms : List (Seat V Posted CoreView K)) → length (ends_at ms) ≡ length ms
    ends_length [] = refl
    ends_length (s ∷ ss) = ap (λ n. suc n) (ends_length ss)

-- ---- all seats

pub record Served {L : Type 0} (told : L → LinkTold) (out out' : Outside L) (bytes' : List SessionBytes) (count : ℕ) (ends : Ends) (c : Config) (history : List Entry) : Type 0 where
  pub host : Hosted told out.door out'.door [] (posts_at 0 c history) [] (posts_at 1 c history) [] bytes' ends.host
  pub operator : Operated out.script out'.script [] (posts_at 2 c history) count ends.operator
  pub clock : TimeDid out.moments out'.moments [] (posts_at 3 c history) ends.clock
  pub modules : ModulesDid c history ends.modules
  pub door_unfailed : ends.host ≢ end.Door → out'.door.faults ≡ out.door.faults
  pub script_unfailed : ends.operator ≢ end.ReadFault → out'.script.faults ≡ out.script.faults

module _ {V : Type 0} {K : Ghosts V Posted CoreView} where
  module _ {L : Type 0} (told : L → LinkTold) (t : Shared V Posted CoreView) (out out' : Outside L) (bytes bytes' : List SessionBytes) (count : ℕ) where
    pub crew_all : (old new : List (Seat V Posted CoreView K)) → CrewDid told t out out' bytes bytes' count old new → AllOf t new × (length new ≡ length old)
    crew_all (r ∷ w ∷ o ∷ k ∷ ms) (r' ∷ w' ∷ o' ∷ k' ∷ ms') d =
        ((d.hosted.reader.0, (d.hosted.writer.0, (d.operator_same.0, (d.clock_same.0, all_of_worked t 1 ms ms' d.worked)))), ap (λ n. suc (suc (suc (suc n)))) (worked_length t 1 ms ms' d.worked))
    crew_all _ _ d = absurd d

    served_so : (c : Config) (history : List Entry) (r w o k r' w' o' k' : Seat V Posted CoreView K) (ms ms' : List (Seat V Posted CoreView K)) (ends : Ends) → length ms ≡ modules_of c
        → bytes ≡ [] → NewFrom t 0 (r ∷ w ∷ o ∷ k ∷ ms) → SeatsDid told t out out' bytes bytes' count r w o k r' w' o' k' ms ms' → AllKnown (posted_in c history) (r' ∷ w' ∷ o' ∷ k' ∷ ms')
        → AreEnds (r' ∷ w' ∷ o' ∷ k' ∷ ms') ends → Served told out out' bytes' count ends c history
    served_so c history r w o k r' w' o' k' ms ms' ends len none n d a e = record {
      host = subst (λ x. Hosted told out.door out'.door [] (posts_at 0 c history) [] (posts_at 1 c history) [] bytes' x) (sym e.0)
          (ended_both t c history (λ x y x' y'. Hosted told out.door out'.door x y x' y' [] bytes' r'.end) r.chair r'.chair w.chair w'.chair 0 1 n.1 n.2 d.hosted.reader a.0 n.3.1 n.3.2 d.hosted.writer a.1.0
          (subst (λ b. Hosted told out.door out'.door (posts_in r.chair) (posts_in r'.chair) (posts_in w.chair) (posts_in w'.chair) b bytes' r'.end) none d.hosted.did));
      operator = subst (λ x. Operated out.script out'.script [] (posts_at 2 c history) count x) (sym e.1)
          (ended t c history (λ x y. Operated out.script out'.script x y count o'.end) o.chair o'.chair 2 n.3.3.1 n.3.3.2 d.operator_same a.1.1.0 d.operated);
      clock = subst (λ x. TimeDid out.moments out'.moments [] (posts_at 3 c history) x) (sym e.2)
          (ended t c history (λ x y. TimeDid out.moments out'.moments x y k'.end) k.chair k'.chair 3 n.3.3.3.1 n.3.3.3.2 d.clock_same a.1.1.1.0 d.timed);
      modules = record {
        ends = ends_at t c history ms';
        all = ends_length t c history ms' ∙ (worked_length t 1 ms ms' d.worked ∙ len);
        worked = modules_end t c history 1 4 ms ms' refl n.3.3.3.3 d.worked a.1.1.1.1;
        first = e.3;
      };
      door_unfailed = λ not. d.hosted.unfailed (λ is. not (e.0 ∙ is));
      script_unfailed = λ not. d.script_unfailed (λ is. not (e.1 ∙ is));
    }

    pub served : (c : Config) (history : List Entry) (old new : List (Seat V Posted CoreView K)) (ends : Ends) → length old ≡ 4 + modules_of c → bytes ≡ [] → NewFrom t 0 old → CrewDid told t out out' bytes bytes' count old new
        → AllKnown (posted_in c history) new → AreEnds new ends → Served told out out' bytes' count ends c history
    served c history (r ∷ w ∷ o ∷ k ∷ ms) (r' ∷ w' ∷ o' ∷ k' ∷ ms') ends len none n d a e =
        served_so c history r w o k r' w' o' k' ms ms' ends (omega (arith, len)) none n d a e
    served c history _ _ ends len none n d a e = absurd d

-- ---- what a run left

pub run_did : {L : Type 0} (told : L → LinkTold) (out out' : Outside L) (bytes' : List SessionBytes) (count : ℕ) (ends : Ends) (c : Config) (history : List Entry) (state : State)
    → Served told out out' bytes' count ends c history → Recorded c history state → length history ≤ c.max_entries → bytes_of history ≤ c.max_bytes
    → ((seat : ℕ) → 4 + modules_of c ≤ seat → own (λ (e : Posted). e.seat) seat (posted_in c history) ≡ []) → RunDid told out out' c history bytes' count ends
run_did told out out' bytes' count ends c history state s recorded entries bytes others = record {
  state = state;
  recorded = recorded;
  entries_fit = entries;
  bytes_fit = bytes;
  host = s.host;
  operator = s.operator;
  clock = s.clock;
  modules = s.modules;
  others = λ seat above. ap posts_of (others seat above);
  door_unfailed = s.door_unfailed;
  script_unfailed = s.script_unfailed;
}

-- the same, of the seats with their chairs
pub run_left : {V : Type 0} {K : Ghosts V Posted CoreView} {L : Type 0} (told : L → LinkTold) (t : Shared V Posted CoreView) (out out' : Outside L) (bytes bytes' : List SessionBytes) (count : ℕ) (c kept : Config) (history : List Entry) (state : State) (old new : List (Seat V Posted CoreView K)) (ends : Ends)
    → kept ≡ c → length old ≡ 4 + modules_of c → bytes ≡ [] → NewFrom t 0 old → CrewDid told t out out' bytes bytes' count old new → AllKnown (posted_in kept history) new → AreEnds new ends
    → Recorded kept history state → length history ≤ kept.max_entries → bytes_of history ≤ kept.max_bytes
    → ((seat : ℕ) → 4 + modules_of c ≤ seat → own (λ (e : Posted). e.seat) seat (posted_in kept history) ≡ []) → RunDid told out out' c history bytes' count ends
run_left told t out out' bytes bytes' count c kept history state old new ends same len none n d known e recorded entries fit others =
    run_did told out out' bytes' count ends c history state
    (served told t out out' bytes bytes' count c history old new ends len none n d (subst (λ k. AllKnown (posted_in k history) new) same known) e)
    (subst (λ k. Recorded k history state) same recorded)
    (subst (λ (k : Config). length history ≤ k.max_entries) same entries)
    (subst (λ (k : Config). bytes_of history ≤ k.max_bytes) same fit)
    (λ seat above. subst (λ k. own (λ (e : Posted). e.seat) seat (posted_in k history) ≡ []) same (others seat above))
