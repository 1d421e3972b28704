-- What the host actor posted itself.
use Rattle.std.proofs.Common.{◌≡◌, inl, inr, ℕ, ◌<◌, List, [], ◌∷◌, ◌++◌, Result, Err, IfOk, OnErr, IsTrue, sym, subst, arith}
use Rattle.outside.specs.Counts.{one_more}
use Rattle.tool_events.specs.Answering.{may_wait}
use Rattle.tool_events.specs.Posts.{Rises, is_full, is_want}
use Rattle.tool_events.specs.declared.answer.Answer.{Answer}
use Rattle.tool_events.specs.declared.answer.PostFault.{PostFault}
use Rattle.tool_events.specs.declared.answer.PostFault.TheVariants as fault
use Rattle.tool_events.specs.declared.entry.Post.{Post}
use Rattle.tool_events.specs.declared.event.Event.TheVariants as event
use Rattle.tool_events.specs.declared.event.OperCmd.TheVariants as oper
use Rattle.actors.specs.ReaderSteps.{QuitEnds}
use Rattle.actors.specs.declared.end.ActorEnd.{ActorEnd}
use Rattle.actors.specs.declared.end.ActorEnd.TheVariants as end
use Rattle.actors.proofs.ReaderPosts.{quit_tried}
use Rattle.host_actor.specs.Hosting.{EndsRun}
use Rattle.host_actor.specs.HostSteps.{ClosedEnds, Listened, RunEnded}

-- a count that rose by one isn't 0
pub some-more : (before after : ℕ) → after ≡ one_more before → 0 < after
some-more before after rises = omega arith

quit-ends : (fulls fulls' wants wants' : ℕ) (behind : List Post) → QuitEnds fulls fulls' wants wants' behind → EndsRun fulls' wants' behind
quit-ends f f' w w' behind (inl (posted, same)) = inl posted
quit-ends f f' w w' behind (inr (inl (none, more))) = inr (none, inl (some-more f f' more))
quit-ends f f' w w' behind (inr (inr (none, same, more))) = inr (none, inr (some-more w w' more))

pub run-ended : (r : Result Answer PostFault) (fulls fulls' wants wants' : ℕ) (posts posts' : List Post) → (r ≡ Err fault.Again → IsTrue (may_wait (event.Oper oper.Quit)))
    → IfOk r (λ a. posts' ≡ posts ++ record { at = record { 0 = 0 }; event = event.Oper oper.Quit; answer = a } ∷ []) → OnErr r (posts' ≡ posts)
    → Rises (is_full r) fulls fulls' → Rises (is_want r) wants wants' → RunEnded fulls' wants' posts posts'
run-ended r f f' w w' posts posts' waits recorded unrecorded fs ws =
    let t = quit_tried r f f' w w' posts posts' waits recorded unrecorded fs ws in
    record { behind = t.behind; grew = t.grew; ends = quit-ends f f' w w' t.behind t.ends }

-- nothing was posted before
pub run-ended-as : (fulls wants : ℕ) (posts posts₁ posts' : List Post) → posts₁ ≡ posts → RunEnded fulls wants posts₁ posts' → RunEnded fulls wants posts posts'
run-ended-as f w posts posts₁ posts' same ended = subst (λ (ps : List Post). RunEnded f w ps posts') same ended

pub closed-ends : (e : ActorEnd) (fulls wants : ℕ) (posts posts' : List Post) → Listened fulls wants posts posts' (Err e) → ClosedEnds fulls wants posts posts' e
closed-ends end.Quit f w posts posts' listened = listened
closed-ends end.Full f w posts posts' listened = listened
closed-ends end.NoMemory f w posts posts' listened = listened
closed-ends end.ReadFault f w posts posts' listened = listened
closed-ends (end.Line number place) f w posts posts' listened = listened
closed-ends end.Door f w posts posts' listened = absurd listened

pub closed-door : (e : ActorEnd) (fulls wants : ℕ) (posts posts' : List Post) → e ≡ end.Door → RunEnded fulls wants posts posts' → ClosedEnds fulls wants posts posts' e
closed-door e f w posts posts' is ended = subst (λ (d : ActorEnd). ClosedEnds f w posts posts' d) (sym is) ended
