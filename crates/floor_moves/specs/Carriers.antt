-- What happens to carriers and their substrates, and when it may (after SEMI E87 and E90; this tool's profile, carriers, and
-- tables 7 and 9).
use Rattle.std.specs.Prelude.{◌≡◌, ◌⊎◌, ◌≤◌, ℕ, ◌+◌, ◌==◌, true, false, not, if◌then◌else◌, [], ◌∷◌, ◌++◌, filter, Some, None}
use Rattle.gem_tables.specs.Table.{is_one_of}
use Rattle.floor_moves.specs.Floor.{slot, JobView, Floor, set}

-- ---- a carrier is created

-- it is known, isn't present, and is NOT ACCESSED
abbrev pub created : ℕ → Floor → Floor
created c g =
    record g {
      carriers = g.carriers ++ c ∷ [];
      present_at = set c None g.present_at;
      is_verified = set c false g.is_verified;
      access = set c 0 g.access;
    }

-- no carrier of its number is known
abbrev pub MayCreate : ℕ → Floor → Type 0
MayCreate c g = is_one_of g.carriers c ≡ false

-- ---- a carrier arrives (rows 3 to 5 of table 7)

-- it is present at a port
abbrev pub arrived : ℕ → ℕ → Floor → Floor
arrived c p g = record g { present_at = set c (Some p) g.present_at }

-- it is known and not present, and no carrier is present at the port
pub record MayArrive (c p : ℕ) (g : Floor) : Type 0 where
  pub is_known : is_one_of g.carriers c ≡ true
  pub is_absent : g.present_at c ≡ None
  pub is_free : (d : ℕ) → g.present_at d ≡ Some p → ⊥

-- ---- its slot map is read (table 9)

-- its slot map is VERIFIED
abbrev pub verified : ℕ → Floor → Floor
verified c g = record g { is_verified = set c true g.is_verified }

-- The substrate in a slot of the carrier at a port is registered, under the next number: it is in its slot, AT SOURCE, NEEDS
-- PROCESSING, and not aligned, and no step of its route is done.
abbrev pub registered : ℕ → ℕ → ℕ → Floor → Floor
registered c p k g =
    record g {
      substrates = g.substrates ++ g.next_substrate ∷ [];
      next_substrate = g.next_substrate + 1;
      carrier_of = set g.next_substrate c g.carrier_of;
      port_of = set g.next_substrate p g.port_of;
      slot_of = set g.next_substrate k g.slot_of;
      place_of = set g.next_substrate (Some (slot p k)) g.place_of;
      transport = set g.next_substrate 0 g.transport;
      processing = set g.next_substrate 0 g.processing;
      is_aligned = set g.next_substrate false g.is_aligned;
      steps_of = set g.next_substrate 0 g.steps_of;
    }

-- the carrier is present at the port with map VERIFIED, and no substrate of that slot of it is registered
pub record MayRegister (c p k : ℕ) (g : Floor) : Type 0 where
  pub is_present : g.present_at c ≡ Some p
  pub is_read : g.is_verified c ≡ true
  pub is_new : (n : ℕ) → is_one_of g.substrates n ≡ true → g.carrier_of n ≡ c → g.slot_of n ≡ k → ⊥

-- the own slots of the substrates that are kept are slots 1 to 25 of ports from 1 to so many
abbrev pub AreWithin : ℕ → Floor → Type 0
AreWithin ports g =
    (n : ℕ) → is_one_of g.substrates n ≡ true → (1 ≤ g.port_of n) × (g.port_of n ≤ ports) × (1 ≤ g.slot_of n) × (g.slot_of n ≤ 25)

-- ---- a carrier is forgotten (row 6 of table 7, and where one that isn't present goes)

-- its substrates are Removed, and it and they are forgotten
abbrev pub forgotten : ℕ → Floor → Floor
forgotten c g =
    record g {
      substrates = filter (λ n. not (g.carrier_of n == c)) g.substrates;
      place_of = λ n. if g.carrier_of n == c then None else g.place_of n;
      carriers = filter (λ d. not (d == c)) g.carriers;
      present_at = set c None g.present_at;
    }

-- it is CARRIER COMPLETE or CARRIER STOPPED, or its slot map isn't VERIFIED, as where a verification FAILED
abbrev pub HasEnded : ℕ → Floor → Type 0
HasEnded c g = (2 ≤ g.access c) ⊎ (g.is_verified c ≡ false)

-- ---- process jobs go on (after SEMI E40)

-- this is what process jobs say now
abbrev pub with_jobs : JobView → Floor → Floor
with_jobs view g = record g { jobs = view }
