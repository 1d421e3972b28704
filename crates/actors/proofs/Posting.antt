-- Posts that are added behind others.
use Rattle.std.proofs.Common.{◌≡◌, ◌⊎◌, inl, inr, ℕ, ◌+◌, ◌-◌, ◌^◌, ◌<◌, ◌≤◌, min, List, [], ◌∷◌, ◌++◌, refl, sym, ap, ◌∙◌, append-nil, append_assoc, arith}
use Rattle.std.proofs.lemmas.Bool.{cases_lt}
use Rattle.outside.specs.Counts.{Rose}
use Rattle.tool_events.specs.declared.entry.Post.{Post}
use Rattle.tool_events.specs.declared.answer.Answer.TheVariants.{Ended}
use Rattle.actors.specs.Ends.{LastEnded, NoneEnded, NoneBehindEnded}

pub posts-grow : (a b c new more : List Post) → b ≡ a ++ new → c ≡ b ++ more → c ≡ a ++ (new ++ more)
posts-grow a b c new more first second = second ∙ (ap (λ (posts : List Post). posts ++ more) first ∙ append_assoc a new more)

pub NoneEnded-append : (posts more : List Post) → NoneEnded posts → NoneEnded more → NoneEnded (posts ++ more)
NoneEnded-append [] more none here = here
NoneEnded-append (p ∷ posts) more none here = (none.0, NoneEnded-append posts more none.1 here)

-- none at all was answered Ended
pub none-behind : (posts : List Post) → NoneEnded posts → NoneBehindEnded posts
none-behind posts none = record { before = posts; last = []; joined = sym (append-nil posts); none = none; one = omega arith }

-- none before the last was answered Ended
pub none-behind-last : (posts : List Post) (p : Post) → NoneEnded posts → NoneBehindEnded (posts ++ p ∷ [])
none-behind-last posts p none = record { before = posts; last = p ∷ []; joined = refl; none = none; one = omega arith }

-- the same, where the posts are told otherwise
pub none-behind-as : (posts posts' : List Post) → posts' ≡ posts → NoneBehindEnded posts → NoneBehindEnded posts'
none-behind-as posts posts' same none =
    record { before = none.before; last = none.last; joined = same ∙ none.joined; none = none.none; one = none.one }

pub last-ended : (posts : List Post) (p : Post) → p.answer ≡ Ended → LastEnded (posts ++ p ∷ [])
last-ended posts p ended = (posts, p, refl, ended)

-- a count that rises by one has risen
pub rises-rose : (before after : ℕ) → after ≡ min (before + 1) (2 ^ 64 - 1) → Rose before after
rises-rose before after rises = by_cases (cases_lt before after)
  where
    by_cases : (before < after) ⊎ (after ≤ before) → Rose before after
    by_cases (inl rose) = inl rose
    by_cases (inr stays) = inr (omega arith)
