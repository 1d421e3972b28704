-- What holds of substrates while a control job executes that nobody disturbs (after SEMI E90 and E94; this tool's profile, moves
-- and control jobs). Which substrates are counted is settled as the control job starts.
use Rattle.std.specs.Prelude.{◌≡◌, ◌≤◌, ℕ, ◌+◌, Bool, true, false, List, Some}
use Rattle.gem_tables.specs.Table.{is_one_of}
use Rattle.floor_moves.specs.Floor.{slot, chamber, place, Command, busy, Floor, is_finished}
use Rattle.owed_laws.specs.Owed.{owed_to}

-- ---- at every moment

-- an unfinished substrate in its slot isn't aligned
abbrev pub AreUnaligned : Floor → Type 0
AreUnaligned g = (n p k : ℕ) → g.place_of n ≡ Some (slot p k) → is_finished (g.processing n) ≡ false → g.is_aligned n ≡ false

-- ---- while it executes

-- what process jobs say
abbrev pub JobsStand : (ℕ → Bool) → Floor → Type 0
JobsStand counted g = record {
  -- each substrate in a job is counted
  members : (n : ℕ) → g.jobs.is_member n ≡ true → counted n ≡ true;
  -- no substrate's job is STOPPING or ABORTING
  not_stopping : (n : ℕ) → g.jobs.is_stopping n ≡ false;
  not_aborting : (n : ℕ) → g.jobs.is_aborting n ≡ false;
  -- a job names the carrier of each that is kept, counted and unfinished
  named : (n : ℕ) → is_one_of g.substrates n ≡ true → counted n ≡ true → is_finished (g.processing n) ≡ false
      → g.jobs.names_carrier (g.carrier_of n) ≡ true;
}

-- what holds of the substrates, whatever process jobs say
abbrev pub SubstratesStand : (ℕ → Bool) → Floor → Type 0
SubstratesStand counted g = record {
  -- the carrier of each that is kept, counted and unfinished is NOT ACCESSED or IN ACCESS
  here : (n : ℕ) → is_one_of g.substrates n ≡ true → counted n ≡ true → is_finished (g.processing n) ≡ false
      → g.access (g.carrier_of n) ≤ 1;
  -- one that is kept, counted and finished is aligned
  finished : (n : ℕ) → is_one_of g.substrates n ≡ true → counted n ≡ true → is_finished (g.processing n) ≡ true
      → g.is_aligned n ≡ true;
  -- an unfinished one in its slot isn't
  in_slot : AreUnaligned g;
  -- an open Place to a chamber names an unfinished one
  to_chamber : (m n c : ℕ) (d : Command) → g.equipment m ≡ busy d → d.task ≡ place n (chamber c)
      → is_finished (g.processing n) ≡ false;
  -- a number that was not given yet isn't counted
  not_given : (n : ℕ) → g.next_substrate ≤ n → counted n ≡ false;
}

-- all of it
pub record Undisturbed (counted : ℕ → Bool) (g : Floor) : Type 0 where
  pub jobs : JobsStand counted g
  pub substrates : SubstratesStand counted g

-- the route of each unfinished substrate in a job is the one that is planned for it
abbrev pub ArePlanned : (ℕ → List (List ℕ)) → Floor → Type 0
ArePlanned planned g = (n : ℕ) → g.jobs.is_member n ≡ true → is_finished (g.processing n) ≡ false → g.jobs.route_of n ≡ planned n

-- ---- as it starts

-- No substrate is in a job, and no job is STOPPING or ABORTING. Each that is kept and counted NEEDS PROCESSING, a job names its
-- carrier, and that is NOT ACCESSED or IN ACCESS. A number that was not given yet isn't counted.
pub record Begins (counted : ℕ → Bool) (g : Floor) : Type 0 where
  pub no_member : (n : ℕ) → g.jobs.is_member n ≡ false
  pub not_stopping : (n : ℕ) → g.jobs.is_stopping n ≡ false
  pub not_aborting : (n : ℕ) → g.jobs.is_aborting n ≡ false
  pub needs : (n : ℕ) → is_one_of g.substrates n ≡ true → counted n ≡ true → g.processing n ≡ 0
  pub named : (n : ℕ) → is_one_of g.substrates n ≡ true → counted n ≡ true → g.jobs.names_carrier (g.carrier_of n) ≡ true
  pub here : (n : ℕ) → is_one_of g.substrates n ≡ true → counted n ≡ true → g.access (g.carrier_of n) ≤ 1
  pub not_given : (n : ℕ) → g.next_substrate ≤ n → counted n ≡ false

-- ---- Done

-- it is undisturbed, and one less is owed
abbrev pub OneLess : (ℕ → List (List ℕ)) → (ℕ → Bool) → Floor → Floor → Type 0
OneLess planned counted g h = Undisturbed counted h × (owed_to planned counted h + 1 ≡ owed_to planned counted g)
