-- What the posts of an actor are, and how they end.
use Rattle.std.specs.Prelude.{◌≡◌, ◌≢◌, ◌⊎◌, ℕ, ◌+◌, ◌-◌, ◌^◌, ◌<◌, ◌≤◌, ⊤, List, [], ◌∷◌, ◌++◌, length}
use Rattle.outside.specs.Counts.{Rose}
use Rattle.tool_events.specs.declared.entry.Post.{Post}
use Rattle.tool_events.specs.declared.event.Event.{Event}
use Rattle.tool_events.specs.declared.event.Event.TheVariants as event
use Rattle.tool_events.specs.declared.event.OperCmd.TheVariants as oper
use Rattle.tool_events.specs.declared.answer.Answer.TheVariants.{Ended}
use Rattle.actors.specs.declared.end.ActorEnd.{ActorEnd}
use Rattle.actors.specs.declared.end.ActorEnd.TheVariants as end

-- the posts are of these events, in order, each at moment 0, as those post who read no clock (this tool's profile, serving)
abbrev pub ArePosted : List Event → List Post → Type 0
ArePosted [] [] = ⊤
ArePosted [] (p ∷ posts) = ⊥
ArePosted (e ∷ events) [] = ⊥
ArePosted (e ∷ events) (p ∷ posts) = (p.event ≡ e) × (p.at.0 ≡ 0) × ArePosted events posts

-- the last of these posts was answered Ended
abbrev pub LastEnded : List Post → Type 0
LastEnded posts = (before : List Post) × (p : Post) × (posts ≡ before ++ p ∷ []) × (p.answer ≡ Ended)

-- none of these posts was answered Ended
abbrev pub NoneEnded : List Post → Type 0
NoneEnded [] = ⊤
NoneEnded (p ∷ posts) = (p.answer ≢ Ended) × NoneEnded posts

-- no post stands behind one that was answered Ended (this tool's profile, serving)
pub record NoneBehindEnded (posts : List Post) : Type 0 where
  pub before : List Post
  pub last : List Post
  pub joined : posts ≡ before ++ last
  pub none : NoneEnded before
  pub one : length last ≤ 1

-- a post was refused, and not only for now
abbrev pub IsRefused : ActorEnd → Type 0
IsRefused e = (e ≡ end.Full) ⊎ (e ≡ end.NoMemory)

-- the end of the run was posted
abbrev pub QuitPosted : List Post → Type 0
QuitPosted posts = ArePosted (event.Oper oper.Quit ∷ []) posts

-- It was posted, or this post was refused: how often posts were answered Full and NoMemory, each before and after.
abbrev pub QuitPostedOr : ℕ → ℕ → ℕ → ℕ → List Post → Type 0
QuitPostedOr fulls fulls' wants wants' posts = QuitPosted posts ⊎ ((posts ≡ []) × (Rose fulls fulls' ⊎ Rose wants wants'))

-- the count rose by two at least, or it stands at the greatest number that it holds
abbrev pub RoseTwice : ℕ → ℕ → Type 0
RoseTwice before after = (before + 1 < after) ⊎ (after ≡ 2 ^ 64 - 1)
