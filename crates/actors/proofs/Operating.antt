-- How posts are answered.
use Rattle.std.proofs.Common.{◌≡◌, ◌⊎◌, inl, inr, ℕ, ◌+◌, ◌-◌, ◌^◌, min, Bool, true, false, List, [], ◌∷◌, ◌++◌, length, Result, Ok, Err, refl, sym, ◌∙◌, arith}
use Rattle.std.proofs.lemmas.List.{append-nil}
use Rattle.std.proofs.lemmas.Bool.{cases_lt}
use Rattle.outside.specs.Counts.{Rose}
use Rattle.gem_ids.specs.declared.moment.Moment.{Moment}
use Rattle.tool_events.specs.declared.entry.Post.{Post}
use Rattle.tool_events.specs.declared.event.Event.{Event}
use Rattle.tool_events.specs.declared.event.Event.TheVariants as event
use Rattle.tool_events.specs.declared.event.OperCmd.TheVariants as oper
use Rattle.tool_events.specs.declared.answer.Answer.{Answer}
use Rattle.tool_events.specs.declared.answer.Answer.TheVariants as answer
use Rattle.actors.specs.Ends.{ArePosted, NoneBehindEnded}
use Rattle.actors.specs.Operating.{DeskTold, Posted, Posts, PostsAll, GivesUp, Quits, after_answer}
use Rattle.actors.specs.declared.end.ActorEnd.{ActorEnd}
use Rattle.actors.specs.declared.end.ActorEnd.TheVariants as end

-- a count that rises has risen
pub rises : (before after : ℕ) → after ≡ min (before + 1) (2 ^ 64 - 1) → Rose before after
rises before after is = elim (cases_lt before (2 ^ 64 - 1)) [
  | inl low ↦ inl (omega arith)
  | inr top ↦ inr (omega arith)
]

-- one post of this event
posted_one : (e : Event) (old new : DeskTold) (at : Moment) (a : Answer) → at.0 ≡ 0 → new.posts ≡ old.posts ++ record { at = at; event = e; answer = a } ∷ [] → new.fulls ≡ old.fulls → new.wants ≡ old.wants → Posted (e ∷ []) old new
posted_one e old new at a once grew fulls wants = record {
  posts = record { at = at; event = e; answer = a } ∷ [];
  grew = grew;
  are = (refl, once, tt);
  fulls = fulls;
  wants = wants;
}

pub Posts-answered : (e : Event) (old new : DeskTold) (at : Moment) (a : Answer) → at.0 ≡ 0 → new.posts ≡ old.posts ++ record { at = at; event = e; answer = a } ∷ [] → new.fulls ≡ old.fulls → new.wants ≡ old.wants → Posts e old new (after_answer a)
unfolding posted_one
Posts-answered e old new at answer.Done once grew fulls wants = (posted_one e old new at answer.Done once grew fulls wants, (λ ended. cc ended, tt))
Posts-answered e old new at (answer.Session n) once grew fulls wants = (posted_one e old new at (answer.Session n) once grew fulls wants, (λ ended. cc ended, tt))
Posts-answered e old new at (answer.Frame bytes) once grew fulls wants = (posted_one e old new at (answer.Frame bytes) once grew fulls wants, (λ ended. cc ended, tt))
Posts-answered e old new at (answer.Command command) once grew fulls wants = (posted_one e old new at (answer.Command command) once grew fulls wants, (λ ended. cc ended, tt))
Posts-answered e old new at answer.Ended once grew fulls wants = (posted_one e old new at answer.Ended once grew fulls wants, ([], record { at = at; event = e; answer = answer.Ended }, refl, refl))
Posts-answered e old new at (answer.Oper accepted) once grew fulls wants = (posted_one e old new at (answer.Oper accepted) once grew fulls wants, (λ ended. cc ended, tt))

-- of one event there is one post
pub one_post : (e : Event) (posts : List Post) → ArePosted (e ∷ []) posts → length posts ≡ 1
one_post e [] are = absurd are
one_post e (p ∷ []) are = refl
one_post e (p ∷ q ∷ posts) are = absurd are.2

one_behind : (e : Event) (posts : List Post) → ArePosted (e ∷ []) posts → NoneBehindEnded posts
one_behind e posts are = record { before = []; last = posts; joined = refl; none = tt; one = omega (arith, one_post e posts are) }

-- a line of one event
pub PostsAll-one : (e : Event) (old new : DeskTold) (result : Result (Unit {0}) ActorEnd) → Posts e old new result → PostsAll (e ∷ []) false old new result
PostsAll-one e old new (Ok done) (posted, none) = (posted, none, refl)
PostsAll-one e old new (Err end.Quit) (posted, last) = (posted, one_behind e posted.posts posted.are, inr last)
PostsAll-one e old new (Err end.Full) refused = refused
PostsAll-one e old new (Err end.NoMemory) refused = refused
PostsAll-one e old new (Err end.ReadFault) refused = absurd refused
PostsAll-one e old new (Err (end.Line number place)) refused = absurd refused
PostsAll-one e old new (Err end.Door) refused = absurd refused

-- one that doesn't go on, whether or not it is the line that ends the run
pub PostsAll-err : (e : Event) (quits : Bool) (old new : DeskTold) (why : ActorEnd) → Posts e old new (Err why) → PostsAll (e ∷ []) quits old new (Err why)
PostsAll-err e quits old new end.Quit (posted, last) = (posted, one_behind e posted.posts posted.are, inr last)
PostsAll-err e quits old new end.Full refused = refused
PostsAll-err e quits old new end.NoMemory refused = refused
PostsAll-err e quits old new end.ReadFault refused = absurd refused
PostsAll-err e quits old new (end.Line number place) refused = absurd refused
PostsAll-err e quits old new end.Door refused = absurd refused

-- the line that ends the run was answered
pub PostsAll-quit : (e : Event) (quits : Bool) (old new : DeskTold) → quits ≡ true → Posts e old new (Ok tt) → PostsAll (e ∷ []) quits old new (Err end.Quit)
PostsAll-quit e quits old new is (posted, none) = (posted, one_behind e posted.posts posted.are, inl is)

pub PostsAll-on : (e : Event) (quits : Bool) (old new : DeskTold) → quits ≡ false → Posts e old new (Ok tt) → PostsAll (e ∷ []) quits old new (Ok tt)
PostsAll-on e quits old new is (posted, none) = (posted, none, is)

-- nothing is posted
pub PostsAll-nothing : (old : DeskTold) → PostsAll [] false old old (Ok tt)
PostsAll-nothing old = (record { posts = []; grew = sym (append-nil old.posts); are = tt; fulls = refl; wants = refl }, tt, refl)

-- ---- the end of the run

pub Quits-posted : (old new : DeskTold) (at : Moment) (a : Answer) → at.0 ≡ 0 → new.posts ≡ old.posts ++ record { at = at; event = event.Oper oper.Quit; answer = a } ∷ [] → Quits old new end.Quit
Quits-posted old new at a once grew = (record { at = at; event = event.Oper oper.Quit; answer = a } ∷ [], grew, (refl, once, tt))

nothing_posted : (old new : DeskTold) → new.posts ≡ old.posts → (Rose old.fulls new.fulls ⊎ Rose old.wants new.wants) → GivesUp old new
nothing_posted old new same rose = record { behind = []; grew = same ∙ sym (append-nil old.posts); posted = inr (refl, rose) }

pub GivesUp-quits : (old new : DeskTold) (e : ActorEnd) → Quits old new e → GivesUp old new
GivesUp-quits old new end.Quit (behind, grew, posted) = record { behind = behind; grew = grew; posted = inl posted }
GivesUp-quits old new end.Full (same, rose) = nothing_posted old new same (inl rose)
GivesUp-quits old new end.NoMemory (same, rose) = nothing_posted old new same (inr rose)
GivesUp-quits old new end.ReadFault refused = absurd refused
GivesUp-quits old new (end.Line number place) refused = absurd refused
GivesUp-quits old new end.Door refused = absurd refused
