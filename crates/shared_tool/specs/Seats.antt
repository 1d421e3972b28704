-- What a chair is to its desk.
use Rattle.std.specs.Prelude.{◌≡◌, ◌⊎◌, ◌+◌, ℕ, Bool, true, ◌||◌, nat_le, nat_lt, List, length, map}
use Rattle.atomic_table.specs.Seated.{TableId}
use Rattle.tool_events.specs.declared.config.Config.{Config}
use Rattle.tool_events.specs.declared.entry.Entry.{Entry}
use Rattle.tool_events.specs.declared.entry.Post.{Post}
use Rattle.tool_lock.specs.declared.kept.Kept.{Ghosts}
use Rattle.tool_lock.specs.declared.pass.Pass.{Pass}
use Rattle.tool_lock.specs.Turned.{Starts}
use Rattle.gem_model.specs.Sizes.{bytes_of}
use Rattle.history_parts.specs.CoreView.{CoreView}
use Rattle.shared_tool.specs.declared.posted.Posted.{Posted}
use Rattle.shared_tool.specs.declared.shared.Shared.{Shared}
use Rattle.shared_tool.specs.Posts.{entries_of, begun}

-- a chair with what was refused to it: how many posts as Full, how many for want of memory, and the bytes of text of the last
-- one that was refused as Full
pub record Seated : Type 0 where
  pub front : List Posted
  pub mine : List Posted
  pub fulls : ℕ
  pub wants : ℕ
  pub full_bytes : ℕ

-- the table of its turnstile, by which the chairs of a tool are known
abbrev pub table_of : {V : Type 0} → Shared V Posted CoreView → TableId
table_of t = t.lock.table.shared.table_id

-- a chair of the tool with this table, whose history began under this configuration
module _ {V : Type 0} {K : Ghosts V Posted CoreView} where
  abbrev pub IsChairAt : TableId → Config → Pass V Posted CoreView K → Type 0
  IsChairAt table c chair = (chair.seat.table_id ≡ table) × Starts chair.seat.me.0.claims (begun c)

-- what was posted, without its seat
abbrev pub post_of : Posted → Post
post_of p = record { at = p.at; event = p.event; answer = p.answer }

abbrev pub posts_of : List Posted → List Post
posts_of posts = map post_of posts

-- a history takes no event with so many bytes of text any more: it has the greatest number of entries, or its text would be
-- too much (this tool's profile, statuses)
abbrev pub is_full_for : Config → List Entry → ℕ → Bool
is_full_for c history bytes = nat_le c.max_entries (length history) || nat_lt c.max_bytes (bytes_of history + bytes)

-- nothing was refused as Full, or the front takes no event with as much text as the last that was
abbrev pub MayBeFull : Config → ℕ → ℕ → List Posted → Type 0
MayBeFull c fulls bytes front = (fulls ≡ 0) ⊎ (is_full_for c (entries_of front) bytes ≡ true)
