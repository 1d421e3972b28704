-- Which open transaction ends (SEMI E5, transaction protocol; this tool's profile, tool primaries and deadlines).
use Rattle.std.specs.Prelude.{ℕ, ◌+◌, Bool, true, false, not, ◌&&◌, ◌||◌, ◌==◌, nat_le, nat_lt, List, [], ◌∷◌, find, Option, Some, None}
use Rattle.std.specs.List.{list_any}
use Rattle.gem_ids.specs.Moments.{last_moment}
use Rattle.transactions.specs.declared.transaction.Open.{Open}
use Rattle.transactions.specs.declared.transaction.What.{What}
use Rattle.transactions.specs.declared.transaction.What.TheVariants.{Establish, Attempt, Note}

-- ---- by an answer

-- a message of these system bytes, this stream and function answers this transaction: its function is the primary's
-- next, or 0, by which the host aborts
abbrev pub answers : ℕ → ℕ → ℕ → Open → Bool
answers system stream function one = ((one.system == system) && (one.stream == stream)) && ((function == 0) || (function == one.function + 1))

-- the open transaction that a message answers
abbrev pub answered : ℕ → ℕ → ℕ → List Open → Option Open
answered system stream function opened = find (answers system stream function) opened

-- ---- by its deadline

-- a deadline comes at its moment, and one past the last moment never
abbrev pub has_come : ℕ → ℕ → Bool
has_come deadline at = nat_le deadline at && nat_le deadline last_moment

-- a transaction's deadline has come
abbrev pub is_expired : ℕ → Open → Bool
is_expired at one = has_come one.deadline at

-- of expired transactions the one of the lesser deadline is first, and of equal deadlines that of the lesser system bytes
abbrev pub is_before : Open → Open → Bool
is_before one other = nat_lt one.deadline other.deadline || ((one.deadline == other.deadline) && nat_lt one.system other.system)

-- expired, and none that has expired is before it
abbrev pub is_first_expired : ℕ → List Open → Open → Bool
is_first_expired at opened one = is_expired at one && not (list_any (λ other. is_expired at other && is_before other one) opened)

-- the first of the expired transactions
abbrev pub first_expired : ℕ → List Open → Option Open
first_expired at opened = find (is_first_expired at opened) opened

-- ---- by its kind, and by its place

-- the same kind: the S1F13 that establishes communication, the S1F1 that attempts to go on-line, or the note of a number
abbrev pub same_kind : What → What → Bool
same_kind Establish Establish = true
same_kind Establish Attempt = false
same_kind Establish (Note n) = false
same_kind Attempt Establish = false
same_kind Attempt Attempt = true
same_kind Attempt (Note n) = false
same_kind (Note m) Establish = false
same_kind (Note m) Attempt = false
same_kind (Note m) (Note n) = m == n

-- the one of this kind that was started first
abbrev pub first_of : What → List Open → Option Open
first_of what opened = find (λ one. same_kind one.what what) opened

-- the one that was started last
abbrev pub latest : List Open → Option Open
latest [] = None
latest (one ∷ []) = Some one
latest (one ∷ (other ∷ others)) = latest (other ∷ others)
