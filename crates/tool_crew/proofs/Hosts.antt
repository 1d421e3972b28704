-- What the host actor did, told of chairs.
use Rattle.std.proofs.Common.{◌≡◌, ℕ, List, sym, subst}
use Rattle.shared_tool.specs.declared.posted.Posted.{Posted}
use Rattle.shared_tool.specs.Seats.{posts_of}
use Rattle.actors.specs.declared.end.ActorEnd.{ActorEnd}
use Rattle.host_actor.specs.declared.bytes.SessionBytes.{SessionBytes}
use Rattle.host_actor.specs.Links.{LinkTold, DoorTold}
use Rattle.host_actor.specs.Hosting.{HostDid}
use Rattle.tool_crew.specs.Doings.{Hosted}

-- its posts are those of entries that are known by other names
pub hosted_so : {L : Type 0} (told : L → LinkTold) (door door' : DoorTold L) (fulls wants : ℕ) (a a' b b' c c' d d' : List Posted) (bytes bytes' : List SessionBytes) (e : ActorEnd)
    → a' ≡ a → b' ≡ b → c' ≡ c → d' ≡ d → HostDid told door door' fulls wants (posts_of a) (posts_of b) (posts_of c) (posts_of d) bytes bytes' e
    → Hosted told door door' (posts_of a') (posts_of b') (posts_of c') (posts_of d') bytes bytes' e
hosted_so told door door' fulls wants a a' b b' c c' d d' bytes bytes' e at_a at_b at_c at_d did =
    subst (λ x. Hosted told door door' (posts_of x) (posts_of b') (posts_of c') (posts_of d') bytes bytes' e) (sym at_a)
    (subst (λ x. Hosted told door door' (posts_of a) (posts_of x) (posts_of c') (posts_of d') bytes bytes' e) (sym at_b)
    (subst (λ x. Hosted told door door' (posts_of a) (posts_of b) (posts_of x) (posts_of d') bytes bytes' e) (sym at_c)
    (subst (λ x. Hosted told door door' (posts_of a) (posts_of b) (posts_of c) (posts_of x) bytes bytes' e) (sym at_d) (record { fulls = fulls; wants = wants; did = did }))))
