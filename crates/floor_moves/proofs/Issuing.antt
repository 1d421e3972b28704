-- A command is issued.
use Rattle.std.proofs.Common.{◌≡◌, ◌<◌, ℕ, ◌+◌, true, sym, ap, subst, ◌∙◌, ◌⊎◌, inl, inr, arith}
use Rattle.floor_moves.specs.Floor.{Loc, Task, pick, place, align, process, named, Command, Module, idle, busy, Floor, modules}
use Rattle.gem_tables.specs.Table.{is_one_of}
use Rattle.floor_moves.specs.Effects.{issued, turned}
use Rattle.floor_moves.specs.Valid.{PickStands, PlaceStands, AlignStands, ProcessStands, Valid}
use Rattle.floor_moves.proofs.Maps.{set_tells}

-- the module is Idle and the plant's, the substrate is in a job and named by no open command, and the task fits the places
pub record MayIssue (m : ℕ) (task : Task) (g : Floor) : Type 0 where
  pub idles : g.equipment m ≡ idle
  pub is_module : is_one_of (modules g) m ≡ true
  pub member : g.jobs.is_member (named task) ≡ true
  pub unnamed : (k : ℕ) (c : Command) → g.equipment k ≡ busy c → named c.task ≡ named task → ⊥
  pub picks : (n : ℕ) (l : Loc) → task ≡ pick n l → PickStands m n l g
  pub places : (n : ℕ) (l : Loc) → task ≡ place n l → PlaceStands m n l g
  pub aligns : (n : ℕ) → task ≡ align n → AlignStands m n g
  pub processes : (n : ℕ) → task ≡ process n → ProcessStands m n g

module _ (g : Floor) (m : ℕ) (task : Task) where
  -- the command that is issued
  abbrev new : Command
  new = record { number = g.next_command; task = task }

  -- a command that is open then is the new one, or was open
  abbrev Opened : ℕ → Command → Type 0
  Opened k c = ((k ≡ m) × (new ≡ c)) ⊎ ((k ≡ m → ⊥) × (g.equipment k ≡ busy c))

  opened : (k : ℕ) (c : Command) → (issued m task g).equipment k ≡ busy c → Opened k c
  opened k c e = by (set_tells m k (busy new) g.equipment (busy c) e)
    where
      by : ((k ≡ m) × (busy new ≡ busy c)) ⊎ ((k ≡ m → ⊥) × (g.equipment k ≡ busy c)) → Opened k c
      by (inl t) = let e : busy new ≡ busy c = t.1 in inl (t.0, cc)
      by (inr t) = inr t

  pub issued-keeps : MayIssue m task g → Valid g → Valid (issued m task g)
  issued-keeps may v = record {
    places = v.places;
    carriers = v.carriers;
    commands = record {
      picks = λ k n l c e t. a_pick k n l c t (opened k c e);
      places = λ k n l c e t. a_place k n l c t (opened k c e);
      aligns = λ k n c e t. an_align k n c t (opened k c e);
      processes = λ k n c e t. a_process k n c t (opened k c e);
      once = λ k i c d e f same. one k i c d same (opened k c e) (opened i d f);
      numbers = λ k i c d e f same. differ k i c d same (opened k c e) (opened i d f);
      below = λ k c e. lower k c (opened k c e);
      room = v.commands.room;
      modules = λ k c e. plant k c (opened k c e);
    };
    members = record {
      outside = v.members.outside;
      named = λ k c e. its_member k c (opened k c e);
      starting = v.members.starting;
      kept = v.members.kept;
      carrier = v.members.carrier;
      here = v.members.here;
      complete = v.members.complete;
      left = v.members.left;
    };
    steps = v.steps;
    removed = v.removed;
  } where
    a_pick : (k n : ℕ) (l : Loc) (c : Command) → c.task ≡ pick n l → Opened k c → PickStands k n l g
    a_pick k n l c t (inl o) = subst (λ (x : ℕ). PickStands x n l g) (sym o.0) (may.picks n l (ap (λ (x : Command). x.task) o.1 ∙ t))
    a_pick k n l c t (inr o) = v.commands.picks k n l c o.1 t

    a_place : (k n : ℕ) (l : Loc) (c : Command) → c.task ≡ place n l → Opened k c → PlaceStands k n l g
    a_place k n l c t (inl o) = subst (λ (x : ℕ). PlaceStands x n l g) (sym o.0) (may.places n l (ap (λ (x : Command). x.task) o.1 ∙ t))
    a_place k n l c t (inr o) = v.commands.places k n l c o.1 t

    an_align : (k n : ℕ) (c : Command) → c.task ≡ align n → Opened k c → AlignStands k n g
    an_align k n c t (inl o) = subst (λ (x : ℕ). AlignStands x n g) (sym o.0) (may.aligns n (ap (λ (x : Command). x.task) o.1 ∙ t))
    an_align k n c t (inr o) = v.commands.aligns k n c o.1 t

    a_process : (k n : ℕ) (c : Command) → c.task ≡ process n → Opened k c → ProcessStands k n g
    a_process k n c t (inl o) = subst (λ (x : ℕ). ProcessStands x n g) (sym o.0) (may.processes n (ap (λ (x : Command). x.task) o.1 ∙ t))
    a_process k n c t (inr o) = v.commands.processes k n c o.1 t

    one : (k i : ℕ) (c d : Command) → named c.task ≡ named d.task → Opened k c → Opened i d → k ≡ i
    one k i c d same (inl o) (inl p) = o.0 ∙ sym p.0
    one k i c d same (inl o) (inr p) = absurd (may.unnamed i d p.1 (sym same ∙ sym (ap (λ (x : Command). named x.task) o.1)))
    one k i c d same (inr o) (inl p) = absurd (may.unnamed k c o.1 (same ∙ sym (ap (λ (x : Command). named x.task) p.1)))
    one k i c d same (inr o) (inr p) = v.commands.once k i c d o.1 p.1 same

    differ : (k i : ℕ) (c d : Command) → c.number ≡ d.number → Opened k c → Opened i d → k ≡ i
    differ k i c d same (inl o) (inl p) = o.0 ∙ sym p.0
    differ k i c d same (inl o) (inr p) = let less = v.commands.below i d p.1 in let at : g.next_command ≡ c.number = ap (λ (x : Command). x.number) o.1 in absurd (omega (arith, less, at, same))
    differ k i c d same (inr o) (inl p) = let less = v.commands.below k c o.1 in let at : g.next_command ≡ d.number = ap (λ (x : Command). x.number) p.1 in absurd (omega (arith, less, at, same))
    differ k i c d same (inr o) (inr p) = v.commands.numbers k i c d o.1 p.1 same

    lower : (k : ℕ) (c : Command) → Opened k c → c.number < g.next_command + 1
    lower k c (inl o) = let at : g.next_command ≡ c.number = ap (λ (x : Command). x.number) o.1 in omega (arith, at)
    lower k c (inr o) = let less = v.commands.below k c o.1 in omega (arith, less)

    plant : (k : ℕ) (c : Command) → Opened k c → is_one_of (modules g) k ≡ true
    plant k c (inl o) = subst (λ (x : ℕ). is_one_of (modules g) x ≡ true) (sym o.0) may.is_module
    plant k c (inr o) = v.commands.modules k c o.1

    its_member : (k : ℕ) (c : Command) → Opened k c → g.jobs.is_member (named c.task) ≡ true
    its_member k c (inl o) = ap (λ (x : Command). g.jobs.is_member (named x.task)) (sym o.1) ∙ may.member
    its_member k c (inr o) = v.members.named k c o.1

-- ---- a command is closed, and nothing else changes

-- a module to Idle or Down
module _ (g : Floor) (m : ℕ) (state : Module) (not_busy : (c : Command) → state ≡ busy c → ⊥) where
  -- what is open then was open, at another module
  pub left_open : (k : ℕ) (c : Command) → (turned m state g).equipment k ≡ busy c → (k ≡ m → ⊥) × (g.equipment k ≡ busy c)
  left_open k c e = by (set_tells m k state g.equipment (busy c) e)
    where
      by : ((k ≡ m) × (state ≡ busy c)) ⊎ ((k ≡ m → ⊥) × (g.equipment k ≡ busy c)) → (k ≡ m → ⊥) × (g.equipment k ≡ busy c)
      by (inl t) = absurd (not_busy c t.1)
      by (inr t) = t

  pub turned-keeps : Valid g → Valid (turned m state g)
  turned-keeps v = record {
    places = v.places;
    carriers = v.carriers;
    commands = record {
      picks = λ k n l c e t. v.commands.picks k n l c (left_open k c e).1 t;
      places = λ k n l c e t. v.commands.places k n l c (left_open k c e).1 t;
      aligns = λ k n c e t. v.commands.aligns k n c (left_open k c e).1 t;
      processes = λ k n c e t. v.commands.processes k n c (left_open k c e).1 t;
      once = λ k i c d e f same. v.commands.once k i c d (left_open k c e).1 (left_open i d f).1 same;
      numbers = λ k i c d e f same. v.commands.numbers k i c d (left_open k c e).1 (left_open i d f).1 same;
      below = λ k c e. v.commands.below k c (left_open k c e).1;
      room = v.commands.room;
      modules = λ k c e. v.commands.modules k c (left_open k c e).1;
    };
    members = record {
      outside = v.members.outside;
      named = λ k c e. v.members.named k c (left_open k c e).1;
      starting = v.members.starting;
      kept = v.members.kept;
      carrier = v.members.carrier;
      here = v.members.here;
      complete = v.members.complete;
      left = v.members.left;
    };
    steps = v.steps;
    removed = v.removed;
  }
