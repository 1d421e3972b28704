-- Where work is left, and the floor is at rest if no command is open, a command is open.
use Rattle.std.proofs.Common.{◌≡◌, ◌≤◌, ◌<◌, ℕ, zero, suc, ◌+◌, Bool, true, false, not, ◌&&◌, ◌||◌, List, [], ◌∷◌, length, Option, Some, None, sym, ap, refl, ◌∙◌, ◌⊎◌, inl, inr, arith}
use Rattle.std.specs.List.{list_any}
use Rattle.std.proofs.lemmas.Bool.{or_right, false_from_ne_true, true_from_ne_false, cases_Bool}
use Rattle.std.proofs.lemmas.Bool.Decides.{Decides-eqb}
use Rattle.gem_tables.specs.Table.{is_one_of}
use Rattle.floor_moves.specs.Floor.{Loc, slot, aligner, arm, chamber, Command, Module, idle, busy, down, Floor, modules, is_outside, is_finished, step_at, next_step}
use Rattle.floor_moves.specs.Valid.{Empty, HasRoom, Valid, HaveChambers}
use Rattle.floor_moves.specs.Work.{is_at_work, is_work_left, IsOpen}
use Rattle.floor_moves.specs.Rest.{HasTarget, AtRest}
use Rattle.floor_moves.proofs.Scans.{any_tells, any_none, one_of_tells}
use Rattle.floor_moves.proofs.Facts.{outside_tells}
use Rattle.floor_moves.proofs.Promised.{own_free}

-- nothing is both true and false
both : (b : Bool) → b ≡ true → b ≡ false → ⊥
both b e f = cc

-- a number beyond each of a list
abbrev beyond : List ℕ → ℕ
beyond [] = 0
beyond (n ∷ ns) = n + 1 + beyond ns

is_below : (ns : List ℕ) (n : ℕ) → is_one_of ns n ≡ true → n < beyond ns
is_below [] n e = absurd (cc)
is_below (m ∷ ms) n e = by (one_of_tells m ms n e) (is_below ms n) where
  by : (n ≡ m) ⊎ (is_one_of ms n ≡ true) → (is_one_of ms n ≡ true → n < beyond ms) → n < m + 1 + beyond ms
  by (inl same) rest = omega (arith, same)
  by (inr t) rest = let less = rest t in omega (arith, less)

-- a number that is at most another, and isn't it, is less
is_less : (n m : ℕ) → n ≤ m → (n ≡ m → ⊥) → n < m
is_less n m most other = grind (arith, most, other)

module _ (g : Floor) (v : Valid g) (reach : HaveChambers g) (rest : AtRest g) (none : (m : ℕ) (c : Command) → g.equipment m ≡ busy c → ⊥) where
  -- ---- there is room where it goes next

  home : (n : ℕ) → is_finished (g.processing n) ≡ true → is_outside (g.place_of n) ≡ true → HasTarget n g
  home n f out = ((λ e. own_free g v.places n out), (λ u. absurd (both (is_finished (g.processing n)) f u)))

  roomy : (n : ℕ) → is_finished (g.processing n) ≡ false → HasRoom n g → HasTarget n g
  roomy n f room = ((λ e. absurd (both (is_finished (g.processing n)) e f)), room)

  -- the next step of an unfinished one in a job has a chamber of the tool
  next_chamber : (n : ℕ) → g.jobs.is_member n ≡ true → is_finished (g.processing n) ≡ false → (c : ℕ) × (is_one_of (next_step n g) c ≡ true) × (is_one_of g.chambers c ≡ true)
  next_chamber n is f = reach.reach n (g.steps_of n) is (omega arith) (v.members.left n is f)

  -- ---- nothing is on the arm, in a chamber or at the aligner

  arm_empty : Empty arm g
  arm_empty n at = by (cases_Bool (is_finished (g.processing n))) where
    by : (is_finished (g.processing n) ≡ true) ⊎ (is_finished (g.processing n) ≡ false) → ⊥
    by (inl f) = rest.placed n at (home n f (ap is_outside at))
    by (inr f) = rest.placed n at (roomy n f (v.commands.room n at))

  -- what stands in a chamber that isn't in its next step came there by a step that is done, so its next step goes on from there
  goes_on : (n c d : ℕ) → g.place_of n ≡ Some (chamber c) → is_finished (g.processing n) ≡ false → is_one_of (next_step n g) c ≡ false → is_one_of (next_step n g) d ≡ true → c < d
  goes_on n c d at f not_next next =
      let way = v.steps.on_route n c at f in
      let less = is_less way.0 (g.steps_of n) way.1 (λ same. both (is_one_of (next_step n g) c) (ap (λ (i : ℕ). is_one_of (step_at i (g.jobs.route_of n)) c) (sym same) ∙ way.2) not_next) in
      reach.rise n way.0 (g.steps_of n) c d (v.members.outside n (ap is_outside at)) less way.2 next

  -- a chamber is empty where each greater one is: what stood there could be processed, or could leave
  empty_below : (c : ℕ) → ((d : ℕ) → c < d → Empty (chamber d) g) → Empty (chamber c) g
  empty_below c above n at = by (cases_Bool (is_finished (g.processing n))) (cases_Bool (is_one_of (next_step n g) c)) where
    by : (is_finished (g.processing n) ≡ true) ⊎ (is_finished (g.processing n) ≡ false) → (is_one_of (next_step n g) c ≡ true) ⊎ (is_one_of (next_step n g) c ≡ false) → ⊥
    by (inl f) next = rest.picked n (chamber c) at (λ u. absurd (both (is_finished (g.processing n)) f u)) arm_empty (home n f (ap is_outside at))
    by (inr f) (inl next) = rest.processed n c at f next
    by (inr f) (inr not_next) =
        let d = next_chamber n (v.members.outside n (ap is_outside at)) f in
        rest.picked n (chamber c) at (λ u. not_next) arm_empty (roomy n f (λ u. record {
          at_aligner = λ un. absurd (both (g.is_aligned n) (v.steps.aligned n c at) un);
          in_chamber = λ al. (d.0, d.1, d.2, above d.0 (goes_on n c d.0 at f not_next d.1));
        }))

  -- so each is, from the greatest of the tool down
  empty_from : (k c : ℕ) → beyond g.chambers ≤ c + k → Empty (chamber c) g
  empty_from zero c far = λ n at. let less = is_below g.chambers c (v.places.chambers n c at) in omega (arith, far, less)
  empty_from (suc k) c far = empty_below c (λ d more. empty_from k d (omega (arith, far, more)))

  chamber_empty : (c : ℕ) → Empty (chamber c) g
  chamber_empty c = empty_from (beyond g.chambers) c (omega arith)

  in_chamber : (n : ℕ) → g.jobs.is_member n ≡ true → is_finished (g.processing n) ≡ false → (c : ℕ) × (is_one_of (next_step n g) c ≡ true) × (is_one_of g.chambers c ≡ true) × Empty (chamber c) g
  in_chamber n is f = let c = next_chamber n is f in (c.0, c.1, c.2, chamber_empty c.0)

  aligner_empty : Empty aligner g
  aligner_empty n at = by (cases_Bool (is_finished (g.processing n))) (cases_Bool (g.is_aligned n)) where
    out : is_outside (g.place_of n) ≡ true
    out = ap is_outside at

    by : (is_finished (g.processing n) ≡ true) ⊎ (is_finished (g.processing n) ≡ false) → (g.is_aligned n ≡ true) ⊎ (g.is_aligned n ≡ false) → ⊥
    by (inl f) a = rest.picked n aligner at (ap (λ (b : Bool). b || g.is_aligned n) f) arm_empty (home n f out)
    by (inr f) (inl a) =
        rest.picked n aligner at (or_right (is_finished (g.processing n)) (g.is_aligned n) a) arm_empty
        (roomy n f (λ u. record { at_aligner = λ un. absurd (both (g.is_aligned n) a un); in_chamber = λ al. in_chamber n (v.members.outside n out) f }))
    by (inr f) (inr a) = rest.aligned n at f a

  nothing_outside : (n : ℕ) → is_outside (g.place_of n) ≡ false
  nothing_outside n = false_from_ne_true (is_outside (g.place_of n)) (λ out. let l = outside_tells (g.place_of n) out in by l.0 l.1 out) where
    by : (l : Loc) → g.place_of n ≡ Some l → is_outside (g.place_of n) ≡ true → ⊥
    by (slot p k) e out = let f = ap is_outside e in cc
    by aligner e out = aligner_empty n e
    by arm e out = arm_empty n e
    by (chamber c) e out = chamber_empty c n e

  -- ---- one whose job is at work is finished

  finished_in_slot : (n p k : ℕ) → is_at_work n g ≡ true → g.place_of n ≡ Some (slot p k) → is_finished (g.processing n) ≡ true
  finished_in_slot n p k work at = true_from_ne_false (is_finished (g.processing n)) (λ f. by f (cases_Bool (g.jobs.may_start n))) where
    by : is_finished (g.processing n) ≡ false → (g.jobs.may_start n ≡ true) ⊎ (g.jobs.may_start n ≡ false) → ⊥
    by f (inl s) =
        rest.picked n (slot p k) at (f, s) arm_empty
        (roomy n f (λ u. record { at_aligner = λ un. aligner_empty; in_chamber = λ al. in_chamber n (v.members.starting n s) f }))
    by f (inr s) =
        rest.skipped n (at ∙ ap (λ (l : Loc). Some l) (v.places.home n p k at))
        ((Decides-eqb (g.processing n) 0).1 (v.steps.in_slot n p k at f))
        (sym (ap (λ (b : Bool). b || (g.jobs.is_stopping n || g.jobs.is_aborting n)) s) ∙ work)
        (λ m c e t. none m c e)

  no_work : (n : ℕ) → is_one_of g.substrates n ≡ true → is_work_left n g ≡ true → ⊥
  no_work n kept left = by (g.place_of n) refl (cases_Bool (is_finished (g.processing n))) (cases_Bool (is_at_work n g)) where
    inside : (not (is_finished (g.processing n)) && is_at_work n g) ≡ false → ⊥
    inside nothing = let a : is_work_left n g ≡ (not (is_finished (g.processing n)) && is_at_work n g) = ap (λ (b : Bool). b || (not (is_finished (g.processing n)) && is_at_work n g)) (nothing_outside n) in cc

    finished : is_finished (g.processing n) ≡ true → ⊥
    finished f = inside (ap (λ (b : Bool). not b && is_at_work n g) f)

    by : (p : Option Loc) → g.place_of n ≡ p → (is_finished (g.processing n) ≡ true) ⊎ (is_finished (g.processing n) ≡ false) → (is_at_work n g ≡ true) ⊎ (is_at_work n g ≡ false) → ⊥
    by p at (inl f) w = finished f
    by p at (inr f) (inr w) = inside (ap (λ (b : Bool). not b && is_at_work n g) f ∙ w)
    by None at (inr f) (inl w) = finished (v.removed n kept at)
    by (Some (slot p k)) at (inr f) (inl w) = finished (finished_in_slot n p k w at)
    by (Some aligner) at (inr f) (inl w) = aligner_empty n at
    by (Some arm) at (inr f) (inl w) = arm_empty n at
    by (Some (chamber c)) at (inr f) (inl w) = chamber_empty c n at

-- ---- the promise

abbrev is_busy : Module → Bool
is_busy idle = false
is_busy down = false
is_busy (busy c) = true

pub command_is_open : (g : Floor) (n : ℕ) → Valid g → HaveChambers g → (((m : ℕ) (c : Command) → g.equipment m ≡ busy c → ⊥) → AtRest g) → is_one_of g.substrates n ≡ true → is_work_left n g ≡ true → IsOpen g
command_is_open g n v reach rests kept work = by (cases_Bool (list_any (λ m. is_busy (g.equipment m)) (modules g))) where
  busy_tells : (m : ℕ) (x : Module) → g.equipment m ≡ x → is_busy x ≡ true → IsOpen g
  busy_tells m idle e b = absurd (cc)
  busy_tells m down e b = absurd (cc)
  busy_tells m (busy c) e b = (m, c, e)

  by : (list_any (λ m. is_busy (g.equipment m)) (modules g) ≡ true) ⊎ (list_any (λ m. is_busy (g.equipment m)) (modules g) ≡ false) → IsOpen g
  by (inl t) = let w = any_tells (λ m. is_busy (g.equipment m)) (modules g) t in busy_tells w.0 (g.equipment w.0) refl w.2
  by (inr f) =
      let none : (m : ℕ) (c : Command) → g.equipment m ≡ busy c → ⊥ = λ m c e. both (is_busy (g.equipment m)) (ap is_busy e) (any_none (λ m. is_busy (g.equipment m)) (modules g) f m (v.commands.modules m c e)) in
      absurd (no_work g v reach (rests none) none n kept work)
