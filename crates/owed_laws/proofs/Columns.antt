-- Effects of rows while nobody disturbs: what stands stays, and as much is owed.
use Rattle.std.proofs.Common.{◌≡◌, ◌≤◌, ℕ, Bool, false, List, refl, sym, ap, ◌∙◌, ◌⊎◌, inl, inr, arith}
use Rattle.floor_moves.specs.Floor.{chamber, Task, place, Command, busy, Floor, set, is_finished}
use Rattle.floor_moves.specs.Effects.{transported, worked, issued}
use Rattle.floor_moves.specs.Carriers.{created, arrived, verified}
use Rattle.floor_moves.proofs.Maps.{set_tells, set_both, set_view}
use Rattle.owed_laws.specs.Owed.{owed_by, owed, owed_to}
use Rattle.owed_laws.specs.Undisturbed.{Undisturbed}
use Rattle.owed_laws.proofs.Totals.{sum_same}

-- it is undisturbed, and as much is owed
abbrev pub Stays : (ℕ → List (List ℕ)) → (ℕ → Bool) → Floor → Floor → Type 0
Stays planned counted g h = Undisturbed counted h × (owed_to planned counted h ≡ owed_to planned counted g)

module _ (planned : ℕ → List (List ℕ)) (counted : ℕ → Bool) (g : Floor) (u : Undisturbed counted g) where
  -- ---- table 12

  pub transported-stays : (n state : ℕ) → Stays planned counted g (transported n state g)
  transported-stays n state = (record { jobs = u.jobs; substrates = u.substrates }, refl)

  -- ---- table 13

  -- a substrate goes to a state that is finished where the old one is
  pub worked-stays : (n state : ℕ) → is_finished state ≡ is_finished (g.processing n) → Stays planned counted g (worked n state g)
  worked-stays n state same = (
    record {
      jobs = record {
        members = u.jobs.members;
        not_stopping = u.jobs.not_stopping;
        not_aborting = u.jobs.not_aborting;
        named = λ k kept is f. u.jobs.named k kept is (sym (alike k) ∙ f);
      };
      substrates = record {
        here = λ k kept is f. u.substrates.here k kept is (sym (alike k) ∙ f);
        finished = λ k kept is f. u.substrates.finished k kept is (sym (alike k) ∙ f);
        in_slot = λ k p q at f. u.substrates.in_slot k p q at (sym (alike k) ∙ f);
        to_chamber = λ m k c d e t. alike k ∙ u.substrates.to_chamber m k c d e t;
        not_given = u.substrates.not_given;
      };
    },
    sum_same counted (owed planned (worked n state g)) (owed planned g) g.substrates (λ k _ _. ap (λ (b : Bool). owed_by (planned k) (g.steps_of k) (g.place_of k) b (g.is_aligned k)) (alike k)),
  )
    where
      alike : (k : ℕ) → is_finished (set n state g.processing k) ≡ is_finished (g.processing k)
      alike k = set_view n k state g.processing is_finished same

  -- ---- table 16

  -- a command is issued; a Place to a chamber names an unfinished substrate
  pub issued-stays : (m : ℕ) (task : Task) → ((n c : ℕ) → task ≡ place n (chamber c) → is_finished (g.processing n) ≡ false) → Stays planned counted g (issued m task g)
  issued-stays m task fits = (
    record {
      jobs = u.jobs;
      substrates = record {
        here = u.substrates.here;
        finished = u.substrates.finished;
        in_slot = u.substrates.in_slot;
        to_chamber = λ k n c d e t. by k n c d t (set_tells m k (busy (record { number = g.next_command; task = task })) g.equipment (busy d) e);
        not_given = u.substrates.not_given;
      };
    },
    refl,
  )
    where
      same_task : (a b : Command) → busy a ≡ busy b → a.task ≡ b.task
      same_task a b e = let same : a ≡ b = cc in ap (λ (x : Command). x.task) same

      by : (k n c : ℕ) (d : Command) → d.task ≡ place n (chamber c) → ((k ≡ m) × (busy (record { number = g.next_command; task = task }) ≡ busy d)) ⊎ ((k ≡ m → ⊥) × (g.equipment k ≡ busy d)) → is_finished (g.processing n) ≡ false
      by k n c d t (inl e) = fits n c (same_task (record { number = g.next_command; task = task }) d e.1 ∙ t)
      by k n c d t (inr e) = u.substrates.to_chamber k n c d e.1 t

  -- ---- carriers

  pub created-stays : (c : ℕ) → Stays planned counted g (created c g)
  created-stays c = (
    record {
      jobs = u.jobs;
      substrates = record {
        here = λ n kept is f. set_both c (g.carrier_of n) 0 g.access (λ a. a ≤ 1) (λ same. omega arith) (λ other. u.substrates.here n kept is f);
        finished = u.substrates.finished;
        in_slot = u.substrates.in_slot;
        to_chamber = u.substrates.to_chamber;
        not_given = u.substrates.not_given;
      };
    },
    refl,
  )

  pub arrived-stays : (c p : ℕ) → Stays planned counted g (arrived c p g)
  arrived-stays c p = (record { jobs = u.jobs; substrates = u.substrates }, refl)

  pub verified-stays : (c : ℕ) → Stays planned counted g (verified c g)
  verified-stays c = (record { jobs = u.jobs; substrates = u.substrates }, refl)
