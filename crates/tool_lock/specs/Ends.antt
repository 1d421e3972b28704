-- What opening and closing say of the passes.
use Rattle.std.specs.Prelude.{◌≡◌, ℕ, ◌+◌, ◌⊎◌, List, [], length, slice_get, Some}
use mathlib.Core.List.{IsPrefix}
use mathlib.Core.Option.{some}
use lib.ListN.{get_elem?}
use Rattle.atomic_table.specs.Table.{Me}
use Rattle.tool_lock.specs.declared.kept.Kept.{Ghosts}
use Rattle.tool_lock.specs.declared.pass.Pass.{Pass}
use Rattle.tool_lock.specs.declared.table.Turnstile.{Turnstile}
use Rattle.tool_lock.specs.declared.rule.Claim.{Claim}
use Rattle.tool_lock.specs.declared.rule.View.{View}
use Rattle.tool_lock.specs.declared.rule.Stage.TheVariants.{Idle}
use Rattle.tool_lock.specs.Turned.{own, view, claims_from}
use Rattle.tool_lock.specs.Passes.{pass_number, front, mine, IsPassOf}

-- the seat has the claims of so many numbers, from the first on, and rests
abbrev pub HasClaims : {S E G : Type 0} → G → ℕ → ℕ → Me S (View E G) → Type 0
HasClaims opening first count me = me ≡ (view (claims_from opening first count) Idle, [])

module _ {V E G : Type 0} {K : Ghosts V E G} where
  -- a pass of this number, which knows no entry
  abbrev pub IsNew : Turnstile V E G → ℕ → Pass V E G K → Type 0
  IsNew turnstile number pass = IsPassOf turnstile pass × (pass_number pass ≡ number) × (front pass ≡ []) × (mine pass ≡ [])

  -- the passes are numbered from 0 on, in order, and know no entry
  abbrev pub AreNew : Turnstile V E G → List (Pass V E G K) → Type 0
  AreNew turnstile passes = (i : ℕ) (pass : Pass V E G K) → slice_get passes i ≡ Some pass → IsNew turnstile i pass

  -- each pass's front begins the history, and the entries of its number there are those that it appended
  abbrev pub AreKnown : (E → ℕ) → List E → List (Pass V E G K) → Type 0
  AreKnown number history passes = (i : ℕ) (pass : Pass V E G K) → slice_get passes i ≡ Some pass
      → IsPrefix (front pass) history × (own number (pass_number pass) history ≡ mine pass)

  -- each is a pass of this turnstile
  abbrev pub AreOf : Turnstile V E G → List (Pass V E G K) → Type 0
  AreOf turnstile passes = (i : ℕ) (pass : Pass V E G K) → slice_get passes i ≡ Some pass → IsPassOf turnstile pass

  -- a claim says what a pass knows
  abbrev pub IsClaimOf : Pass V E G K → Claim E G → Type 0
  IsClaimOf pass claim = (claim.number ≡ pass_number pass) × (claim.front ≡ front pass) × (claim.mine ≡ mine pass)

  -- of all passes some are left, and the seat, which rests, has the claims of the others
  abbrev pub Gathers : {S : Type 0} → List (Pass V E G K) → List (Pass V E G K) → Me S (View E G) → Type 0
  Gathers all rest me = (me ≡ (view me.0.claims Idle, [])) × (length me.0.claims + length rest ≡ length all)
      × ((i : ℕ) (pass : Pass V E G K) → slice_get all i ≡ Some pass
      → (slice_get rest i ≡ Some pass) ⊎ ((k : ℕ) × (claim : Claim E G) × (get_elem? me.0.claims k ≡ some claim) × IsClaimOf pass claim))
