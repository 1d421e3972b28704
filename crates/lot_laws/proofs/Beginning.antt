-- As a control job starts with its material in place, it executes undisturbed, and a Done is owed for each command of each counted substrate.
use Rattle.std.proofs.Common.{◌≡◌, ◌≤◌, ℕ, ◌==◌, Bool, true, false, if◌then◌else◌, not, ◌&&◌, List, [], ◌∷◌, find, Option, Some, None, is_some, refl, sym, ◌∙◌, ap, subst, inr, arith}
use Rattle.std.proofs.lemmas.Bool.{true≢false, and_parts}
use Rattle.gem_tables.specs.Table.{is_one_of, firing}
use Rattle.gem_tables.proofs.Rows.{both, one_of_cases}
use Rattle.carrier.specs.declared.carrier.Carrier.{Carrier}
use Rattle.carrier.specs.Tables.{access_number}
use Rattle.substrate.specs.Tables.{processing_number}
use Rattle.substrate.specs.Record.{is_at_source, is_needing}
use Rattle.substrate.specs.declared.record.Processing.{Processing}
use Rattle.substrate.specs.declared.record.Processing.TheVariants as processing
use Rattle.records.proofs.Texts.{same_name}
use Rattle.process_job.specs.Jobs.{has_name, job_named, job_numbered}
use Rattle.process_job.specs.declared.job.ProcessJob.{ProcessJob}
use Rattle.control_job.specs.Names.{is_in}
use Rattle.control_job.specs.Jobs.{job_numbered as control_numbered, is_open, fires_row, fires_at, left_behind}
use Rattle.control_job.proofs.Keeping.{fires_number}
use Rattle.control_job.specs.declared.job.ControlJob.{ControlJob}
use Rattle.tool_jobs.specs.Wants.{control_wants}
use Rattle.tool_jobs.specs.Rows.{control_starts, control_fired}
use Rattle.tool_jobs.specs.Together.{AreTogether}
use Rattle.floor_model.specs.declared.tracked.Substrate.{Substrate}
use Rattle.floor_model.specs.Floor.{ToolFloor, with_jobs, substrate_numbered, number_of}
use Rattle.floor_model.specs.Jobs.{job_of, is_stopping, is_aborting, is_first_here, can_join}
use Rattle.floor_model.specs.Machines.{floor_fired}
use Rattle.place_laws.specs.Picture.{picture, of_one}
use Rattle.place_laws.specs.Sound.{Sound}
use Rattle.place_laws.proofs.Holding.{found_among, rising_given}
use Rattle.floor_laws.proofs.JobSays.{member_tells, any_found}
use Rattle.owed_laws.specs.Owed.{owed_to}
use Rattle.owed_laws.specs.Undisturbed.{AreUnaligned, Begins}
use Rattle.owed_laws.proofs.Beginning.{begins_undisturbed, begins_owed}
use Rattle.queue_laws.specs.Started.{is_queued, is_left_in, AreStarted}
use Rattle.queue_laws.specs.Steers.{AreAutomatic}
use Rattle.queue_laws.proofs.Lists.{find_meets, number_is, changed_on}
use Rattle.queue_laws.proofs.Rows.{starting}
use Rattle.queue_laws.proofs.Owners.{is_same}
use Rattle.queue_laws.proofs.Steering.{left_owned, owned_left, started_queued, begin-steers, started_left, left_started}
use Rattle.lot_laws.specs.Lot.{is_in_named_slot, is_in_found_slot, names_slot, names_left, first_naming, route_by, route_found, route_named, is_wanted, counted_of, planned_of, total, IsMaterialHere, AreInKeptJobs, Waits, Executes}
use Rattle.lot_laws.proofs.First.{find_in, some_first, by_name as by_its_name}
use Rattle.lot_laws.proofs.Naming.{any_numbered, slot_names_carrier, slot_in_use}
use Rattle.lot_laws.proofs.Standing.{on_base, not_so, Joins, joins_tell, member_begun, carried, named_by}

-- ---- states

needing_number : (p : Processing) → is_needing p ≡ true → processing_number p ≡ 0
needing_number processing.NeedsProcessing e = refl
needing_number _ e = absurd (true≢false (sym e))

module _ (number row : ℕ) (f : ToolFloor) (h : Sound f) (t : AreTogether f.jobs) (s : AreStarted f.jobs) (unaligned : AreUnaligned (picture f)) (kept : AreInKeptJobs f)
    (c : ControlJob) (at : control_numbered number f.jobs.control.jobs ≡ Some c) (starts : control_starts row (Some c) (is_first_here number f) f.jobs ≡ true) (its_row : is_one_of (4 ∷ 5 ∷ []) row ≡ true)
    (auto : AreAutomatic number f.jobs) (here : IsMaterialHere number f)
  where
    abbrev pub counted : ℕ → Bool
    counted = counted_of number f

    abbrev pub planned : ℕ → List (List ℕ)
    planned = planned_of number f

    -- each process job is QUEUED, so no substrate is in one
    queued : (n : ℕ) (j : ProcessJob) → job_numbered n f.jobs.process.kept ≡ Some j → is_queued j.states.state ≡ true
    queued n j e = started_queued number f.jobs t s row (is_first_here number f) c at starts its_row n j e

    in_none : (n : ℕ) (x : Substrate) (j : ProcessJob) → substrate_numbered n f.substrates ≡ Some x → job_of x f.jobs ≡ Some j → ⊥
    in_none n x j found its = true≢false (sym (queued x.job j its) ∙ member_begun f (on_base f h.base) n x j found its)

    -- ---- who is counted

    record Wanted (n : ℕ) : Type 0 where
      one : Substrate
      found : substrate_numbered n f.substrates ≡ Some one
      source : is_at_source one.states.transport ≡ true
      needs : is_needing one.states.processing ≡ true
      job : ProcessJob
      its : job_numbered job.number f.jobs.process.kept ≡ Some job
      first : first_naming number f one ≡ Some job.id
      left : is_left_in number job.id f.jobs ≡ true
      named : is_in_named_slot job f.shop one ≡ true

    -- it isn't COMPLETED
    open_now : is_open c ≡ true
    open_now = ap not (starting (λ want. control_wants want c (is_first_here number f) f.jobs.control) row c.states its_row starts).open_now

    wanted : (n : ℕ) → counted n ≡ true → Wanted n
    wanted n e = of (substrate_numbered n f.substrates) refl e where
      of : (o : Option Substrate) → substrate_numbered n f.substrates ≡ o → of_one false (is_wanted number f) o ≡ true → Wanted n
      of None q g = absurd (true≢false (sym g))
      of (Some x) q g =
          let outer = and_parts (is_at_source x.states.transport && is_needing x.states.processing) (is_some (first_naming number f x)) g in
          let states = and_parts (is_at_source x.states.transport) (is_needing x.states.processing) outer.0 in
          by_name (first_naming number f x) refl outer.1 states.0 states.1
        where
          -- the job of the name that was found
          by_job : (name : List ℕ) → first_naming number f x ≡ Some name → is_at_source x.states.transport ≡ true → is_needing x.states.processing ≡ true → (j : Option ProcessJob) → job_named name f.jobs.process.kept ≡ j → is_in_found_slot j f.shop x ≡ true → Wanted n
          by_job name r source needs None u p = absurd (true≢false (sym p))
          by_job name r source needs (Some j) u p =
              let both_so = both (has_name name j) (is_in_named_slot j f.shop x) (find_meets (has_name name) f.jobs.process.kept j u) p in
              let w = any_numbered (λ i. has_name name i && is_in_named_slot i f.shop x) 0 f.jobs.process.given f.jobs.process.kept h.base.jobs.numbered (any_found (has_name name) (λ i. has_name name i && is_in_named_slot i f.shop x) f.jobs.process.kept j u both_so) in
              let parts = and_parts (has_name name w.0) (is_in_named_slot w.0 f.shop x) w.2 in
              let same : w.0.id ≡ name = same_name w.0.id name parts.0 in
              let among : is_in name c.left ≡ true = subst (λ (k : Option ControlJob). is_in name (names_left k) ≡ true) at (find_in (names_slot f x) (names_left (control_numbered number f.jobs.control.jobs)) name r) in
              let left : is_left_in number w.0.id f.jobs ≡ true = owned_left number w.0.id f.jobs c at (both (is_open c) (is_in w.0.id c.left) open_now (ap (λ (m : List ℕ). is_in m c.left) same ∙ among)) in
              record { one = x; found = q; source = source; needs = needs; job = w.0; its = w.1; first = r ∙ ap (λ (m : List ℕ). Some m) (sym same); left = left; named = parts.1 }

          by_name : (k : Option (List ℕ)) → first_naming number f x ≡ k → is_some k ≡ true → is_at_source x.states.transport ≡ true → is_needing x.states.processing ≡ true → Wanted n
          by_name None r some source needs = absurd (true≢false (sym some))
          by_name (Some name) r some source needs =
              by_job name r source needs (job_named name f.jobs.process.kept) refl (find_meets (names_slot f x) (names_left (control_numbered number f.jobs.control.jobs)) name r)

    -- what is planned for a counted one is the route of the first job that names its slot
    plans : (n : ℕ) (w : Wanted n) → planned n ≡ route_by f.jobs.process w.job
    plans n w =
        ap (of_one [] (λ (x : Substrate). route_named f.jobs.process (first_naming number f x))) w.found
        ∙ ap (route_named f.jobs.process) w.first
        ∙ ap (route_found f.jobs.process) (by_its_name w.job.number f.jobs.process.kept w.job t.process.apart w.its)

    pub begins : Begins counted (picture f)
    begins = record {
      no_member = λ n. not_so ((picture f).jobs.is_member n) (λ is. let m = member_tells f.substrates f.jobs n (λ j. true) is in in_none n m.one m.job m.found m.its);
      not_stopping = λ n. not_so ((picture f).jobs.is_stopping n) (λ is. let m = member_tells f.substrates f.jobs n (λ j. is_stopping j.states.state) is in in_none n m.one m.job m.found m.its);
      not_aborting = λ n. not_so ((picture f).jobs.is_aborting n) (λ is. let m = member_tells f.substrates f.jobs n (λ j. is_aborting j.states.state) is in in_none n m.one m.job m.found m.its);
      needs = λ n _ is. let w = wanted n is in ap (of_one 0 (λ (x : Substrate). processing_number x.states.processing)) w.found ∙ needing_number w.one.states.processing w.needs;
      named = λ n _ is.
          let w = wanted n is in
          let d = carried f (on_base f h.base) n w.one w.found in
          named_by f (on_base f h.base) n w.job.number w.one w.job d.0 w.found w.its d.1 (slot_names_carrier w.job f.shop w.one d.0 h.base.shop d.1 w.named);
      here = λ n _ is.
          let w = wanted n is in
          let d = carried f (on_base f h.base) n w.one w.found in
          let which : (picture f).carrier_of n ≡ w.one.carrier = ap (of_one 0 (λ (x : Substrate). x.carrier)) w.found in
          let access : (picture f).access ((picture f).carrier_of n) ≡ access_number d.0.states.access = ap (picture f).access which ∙ ap (of_one 0 (λ (x : Carrier). access_number x.states.access)) d.1 in
          subst (λ (a : ℕ). a ≤ 1) (sym access) (slot_in_use w.job f.shop w.one d.0 h.base.shop d.1 w.named (here w.job.number w.job w.its w.left));
      not_given = λ n less. not_so (counted n) (λ is.
          let w = wanted n is in
          let most = rising_given 0 f.places.given f.substrates n h.base.rising (found_among number_of n f.substrates w.one w.found) in
          omega (arith, less, most));
    }

    -- ---- it executes

    abbrev pub behind : ToolFloor
    behind = with_jobs (control_fired row number f.jobs) f

    left_then : (job : List ℕ) → is_left_in number job f.jobs ≡ true → is_left_in number job behind.jobs ≡ true
    left_then job left = left_started number f.jobs t s row (is_first_here number f) c at starts its_row job left

    -- the same names are left in it, in their order
    names_then : names_left (control_numbered number behind.jobs.control.jobs) ≡ names_left (control_numbered number f.jobs.control.jobs)
    names_then =
        ap names_left (changed_on (fires_at number row) number f.jobs.control.jobs c (fires_number number row) at ∙ ap (λ (b : Bool). Some (if b then fires_row row c else c)) (is_same c.number number (number_is number f.jobs.control.jobs c at)))
        ∙ one_of_cases (λ (r : ℕ). left_behind r c ≡ c.left) (4 ∷ 5 ∷ []) row (refl, (refl, tt)) its_row
        ∙ sym (ap names_left at)

    first_then : (x : Substrate) → first_naming number behind x ≡ first_naming number f x
    first_then x = ap (find (names_slot f x)) names_then

    left_now : (job : List ℕ) → is_left_in number job behind.jobs ≡ true → is_left_in number job f.jobs ≡ true
    left_now job left = started_left number f.jobs t s row (is_first_here number f) c at starts its_row job left

    pub executes_then : Executes number planned counted (floor_fired (firing 15 number row) f)
    executes_then = record {
      steers = begin-steers number f.jobs t s row (is_first_here number f) c at starts its_row auto;
      here = λ k j e left. here k j e (left_now j.id left);
      members = λ n is. let m = member_tells f.substrates f.jobs n (λ j. true) is in absurd (in_none n m.one m.job m.found m.its);
      stands = λ n x found is. inr (inr (waits n x found (wanted n is)));
      all = λ n k x j found its left joins. takes n k x j found its (left_now j.id left) (joins_tell j f x joins);
      substrates = (begins_undisturbed counted (picture f) h.valid begins unaligned).substrates;
    } where
      waits : (n : ℕ) (x : Substrate) → substrate_numbered n f.substrates ≡ Some x → Wanted n → Waits number (planned n) x behind
      waits n x found w = record {
        at = w.job.number;
        job = w.job;
        kept = w.its;
        left = left_then w.job.id w.left;
        first = first_then x ∙ ap (first_naming number f) (sym same) ∙ w.first;
        goes_by = sym (plans n w);
        queued = queued w.job.number w.job w.its;
        joins = subst (λ (y : Substrate). can_join w.job f.shop y ≡ true) same
            (both (is_at_source w.one.states.transport && is_needing w.one.states.processing) ((w.one.job == 0) && is_in_named_slot w.job f.shop w.one)
            (both (is_at_source w.one.states.transport) (is_needing w.one.states.processing) w.source w.needs)
            (both (w.one.job == 0) (is_in_named_slot w.job f.shop w.one) free w.named));
      } where
        same : w.one ≡ x
        same = let one : Some w.one ≡ Some x = sym w.found ∙ found in cc

        free : (w.one.job == 0) ≡ true
        free = of (w.one.job == 0) refl where
          of : (b : Bool) → (w.one.job == 0) ≡ b → b ≡ true
          of true q = refl
          of false q = let j = kept n w.one w.found q in absurd (in_none n w.one j.0 w.found j.1)

      takes : (n k : ℕ) (x : Substrate) (j : ProcessJob) → substrate_numbered n f.substrates ≡ Some x → job_numbered k f.jobs.process.kept ≡ Some j → is_left_in number j.id f.jobs ≡ true → Joins j f x → counted n ≡ true
      takes n k x j found its left joins =
          ap (of_one false (is_wanted number f)) found
          ∙ both (is_at_source x.states.transport && is_needing x.states.processing) (is_some (first_naming number f x))
          (both (is_at_source x.states.transport) (is_needing x.states.processing) joins.source joins.needs)
          (some_first number f x k j t.process.apart its among joins.named)
        where
          among : is_in j.id (names_left (control_numbered number f.jobs.control.jobs)) ≡ true
          among = ap (λ (d : Option ControlJob). is_in j.id (names_left d)) at ∙ (and_parts (is_open c) (is_in j.id c.left) (left_owned number j.id f.jobs c at left)).1

    -- ---- what is owed

    pub owed_then : owed_to planned counted (picture (floor_fired (firing 15 number row) f)) ≡ total number f
    owed_then =
        begins_owed counted (picture f) h.valid begins planned
