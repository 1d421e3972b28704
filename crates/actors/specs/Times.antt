-- What the clock posts (this tool's profile, serving).
use Rattle.std.specs.Prelude.{◌≡◌, ◌⊎◌, ⊤, List, [], ◌∷◌, ◌++◌, map, Option, Some, None}
use Rattle.gem_ids.specs.declared.moment.Moment.{Moment}
use Rattle.tool_events.specs.declared.entry.Post.{Post}
use Rattle.tool_events.specs.declared.event.Event.TheVariants as event
use Rattle.tool_events.specs.declared.answer.Answer.{Answer}
use Rattle.tool_events.specs.declared.answer.Answer.TheVariants as answer
use Rattle.outside.specs.Told.{Grew}
use Rattle.actors.specs.Ends.{LastEnded, NoneBehindEnded, IsRefused}
use Rattle.actors.specs.declared.end.ActorEnd.{ActorEnd}
use Rattle.actors.specs.declared.end.ActorEnd.TheVariants as end

-- these moments now stand behind all that the clock had given, where it still tells them
abbrev pub Looked : Option (List Moment) → Option (List Moment) → List Moment → Type 0
Looked given None readings = ⊤
Looked given (Some new) readings = (before : List Moment) × (given ≡ Some before) × (new ≡ before ++ readings)

-- some of a list, each at a place of its own, in the order in which they stand there
abbrev pub IsSomeOf : List Moment → List Moment → Type 0
IsSomeOf [] all = ⊤
IsSomeOf (x ∷ some) [] = ⊥
IsSomeOf (x ∷ some) (y ∷ all) = ((x ≡ y) × IsSomeOf some all) ⊎ IsSomeOf (x ∷ some) all

-- each is a look at the clock
abbrev pub AreTicks : List Post → Type 0
AreTicks [] = ⊤
AreTicks (p ∷ posts) = (p.event ≡ event.Tick) × AreTicks posts

-- the moments that were given with posts
abbrev pub moments_of : List Post → List Moment
moments_of posts = map (λ (p : Post). p.at) posts

-- Its new posts are looks at the clock alone, each at a reading of its own, in the order of the readings. It ends behind one
-- that was answered Ended, or where one was refused.
pub record TimeDid (given given' : Option (List Moment)) (posts posts' : List Post) (e : ActorEnd) : Type 0 where
  pub new : List Post
  pub grew : posts' ≡ posts ++ new
  pub readings : List Moment
  pub looked : Looked given given' readings
  pub ticks : AreTicks new
  pub at : IsSomeOf (moments_of new) readings
  pub no_more : NoneBehindEnded new
  pub ends : ((e ≡ end.Quit) × LastEnded new) ⊎ IsRefused e

-- a look at the clock, at this moment, with its answer
abbrev pub tick : Moment → Answer → Post
tick at a = record { at = at; event = event.Tick; answer = a }

-- What became of one look at this moment, by how it ended the clock, if it did: it was answered Done, or has to wait, and the clock
-- goes on; it was answered Ended; or it was refused.
abbrev pub LookEnds : Moment → List Post → List Post → Option ActorEnd → Type 0
LookEnds at posts posts' None = (posts' ≡ posts ++ tick at answer.Done ∷ []) ⊎ (posts' ≡ posts)
LookEnds at posts posts' (Some e) = ((e ≡ end.Quit) × (posts' ≡ posts ++ tick at answer.Ended ∷ [])) ⊎ (IsRefused e × (posts' ≡ posts))

-- the clock was read once, and looked at once at that reading
abbrev pub TimeLooked : Option (List Moment) → Option (List Moment) → List Post → List Post → Option ActorEnd → Type 0
TimeLooked given given' posts posts' e = (at : Moment) × Grew given given' at × LookEnds at posts posts' e
