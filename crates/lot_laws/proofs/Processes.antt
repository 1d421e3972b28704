-- A control job stays at work where the state of a process job changes, where one gets its members, and where one ends. So it executes on
-- behind each row of a process job that starts and doesn't disturb it, and as much is owed.
use Rattle.std.proofs.Common.{◌≡◌, ◌≤◌, ◌<◌, ℕ, ◌==◌, Bool, true, false, if◌then◌else◌, not, ◌&&◌, List, [], ◌∷◌, Option, Some, option_map, refl, sym, ◌∙◌, ap, subst, ◌⊎◌, inl, inr, arith}
use Rattle.std.proofs.lemmas.Bool.{true≢false, and_parts}
use Rattle.std.proofs.lemmas.Bool.Decides.{Decides-eqb}
use Rattle.gem_tables.specs.Table.{is_among, firing, after}
use Rattle.substrate.specs.Record.{is_needing, is_finished}
use Rattle.substrate.specs.declared.record.Processing.{Processing}
use Rattle.substrate.specs.declared.record.Processing.TheVariants as processing
use Rattle.process_job.specs.Tables.{job_number, job_table}
use Rattle.process_job.specs.Jobs.{job_numbered, change_numbered, without_numbered, fires_row}
use Rattle.process_job.specs.declared.record.JobState.{JobState}
use Rattle.process_job.specs.declared.record.JobState.TheVariants as state
use Rattle.process_job.specs.declared.job.ProcessJob.{ProcessJob}
use Rattle.control_job.specs.Tables.{state_number}
use Rattle.control_job.specs.Jobs.{job_numbered as control_numbered}
use Rattle.control_job.specs.declared.job.ControlJob.{ControlJob}
use Rattle.tool_jobs.specs.Jobs.{Jobs, owner}
use Rattle.tool_jobs.specs.Wants.{is_ending, is_first, is_first_left}
use Rattle.tool_jobs.specs.Rows.{ended, process_starts, process_fired}
use Rattle.tool_jobs.specs.Together.{AreTogether}
use Rattle.tool_jobs.proofs.Ending.{fired_ends}
use Rattle.floor_model.specs.declared.tracked.Substrate.{Substrate}
use Rattle.floor_model.specs.Floor.{ToolFloor, with_jobs, substrate_numbered}
use Rattle.floor_model.specs.Jobs.{job_of, joined, freed, with_members, without_members, can_join, is_here, sight, found_sight, gets_members, frees}
use Rattle.floor_model.specs.Machines.{floor_starts, floor_fired}
use Rattle.floor_moves.specs.Floor as law
use Rattle.floor_moves.specs.Floor.{is_done}
use Rattle.place_laws.specs.Picture.{picture, is_complete}
use Rattle.place_laws.specs.Sound.{Sound}
use Rattle.floor_laws.proofs.JobSight.{none_some, some_same}
use Rattle.floor_laws.proofs.JobWork.{finished_same}
use Rattle.floor_laws.proofs.JobSays.{said_there}
use Rattle.floor_laws.proofs.JobLists.{job_number_is, none_first, fired_there, fired_else, fired_was, numbered_without, without_else}
use Rattle.floor_laws.proofs.JobStates.{complete_tells}
use Rattle.floor_laws.proofs.JobChanges.{map_same}
use Rattle.floor_laws.proofs.JobFires.{over_before, fired_jobs, stays_alone}
use Rattle.floor_laws.proofs.JobJoins.{joined_alone}
use Rattle.floor_laws.proofs.JobEnds.{freed_alone}
use Rattle.owed_laws.specs.Owed.{owed_to}
use Rattle.queue_laws.specs.Started.{is_queued, is_left_in, AreStarted}
use Rattle.queue_laws.specs.Steers.{Steers, disturbs_process}
use Rattle.queue_laws.proofs.Lists.{gone_back, names_differ}
use Rattle.queue_laws.proofs.Rows.{stays_queued}
use Rattle.queue_laws.proofs.Owners.{owner_is}
use Rattle.queue_laws.proofs.Steering.{left_owned, process-goes, process-steers, ended-steers}
use Rattle.lot_laws.specs.Lot.{names_left, first_naming, IsInJob, Waits, Executes, IsAtWork, AtWork}
use Rattle.lot_laws.proofs.First.{named_on, first_alone, first_fired, first_ended, first_is}
use Rattle.lot_laws.proofs.Planned.{route_same, first_route}
use Rattle.lot_laws.proofs.AtWork.{going_whole, at_work_of, executes_by}
use Rattle.lot_laws.proofs.Standing.{on_base, joins_tell, member_begun}
use Rattle.lot_laws.proofs.Steering.{found as its_control, state-works, ended_back, ended_on, ended_names, ended-works}
use Rattle.lot_laws.proofs.Going.{behind, behind_owed, Stands, GoesOn, works_on}

-- ---- numbers

differs : (a b : ℕ) → (a ≡ b → ⊥) → (a == b) ≡ false
differs a b other = of (a == b) refl where
  of : (c : Bool) → (a == b) ≡ c → c ≡ false
  of false q = refl
  of true q = absurd (other ((Decides-eqb a b).0 q))

apart_from : (a b : ℕ) → (a == b) ≡ false → a ≡ b → ⊥
apart_from a b q same = true≢false (sym ((Decides-eqb a b).1 same) ∙ q)

-- one that NEEDS PROCESSING isn't finished
needing_unfinished : (p : Processing) → is_needing p ≡ true → is_finished p ≡ false
needing_unfinished processing.NeedsProcessing e = refl
needing_unfinished _ e = absurd (true≢false (sym e))

module _ (number : ℕ) (planned : ℕ → List (List ℕ)) (counted : ℕ → Bool) (f : ToolFloor) (h : Sound f) (t : AreTogether f.jobs) (s : AreStarted f.jobs) {before : Jobs} (e : AtWork number planned counted before f)
    (n : ℕ) (j : ProcessJob) (known : job_numbered n f.jobs.process.kept ≡ Some j)
  where
    number_is : (j.number ≡ n) × (0 < n) × (n ≤ f.jobs.process.given)
    number_is = job_number_is n 0 f.jobs.process.given f.jobs.process.kept j h.base.jobs.numbered known

    -- the one of the number is that one
    that : (k : ℕ) (i : ProcessJob) → job_numbered k f.jobs.process.kept ≡ Some i → k ≡ n → i ≡ j
    that k i q same = some_same i j (sym q ∙ ap (λ (m : ℕ). job_numbered m f.jobs.process.kept) same ∙ known)

    -- one that is in a job is counted
    in_job_counted : (k : ℕ) (x : Substrate) (i : ProcessJob) → substrate_numbered k f.substrates ≡ Some x → job_of x f.jobs ≡ Some i → counted k ≡ true
    in_job_counted k x i found its = e.members k (said_there f.substrates f.jobs k false (λ i. true) x i found its)

    -- ---- a row that changes the state alone, and one that makes members

    -- what is left in it behind a row was, of the same material
    fired_left : (row k : ℕ) (i : ProcessJob) → job_numbered k (fired_jobs n row f.jobs).process.kept ≡ Some i → is_left_in number i.id f.jobs ≡ true
        → (m : ℕ) × (b : ProcessJob) × (job_numbered m f.jobs.process.kept ≡ Some b) × (is_left_in number b.id f.jobs ≡ true) × (i.material ≡ b.material)
    fired_left row k i q left = let was = fired_was n row k f.jobs.process.kept i q in of was.job was.found was.is where
      of : (b : ProcessJob) → job_numbered k f.jobs.process.kept ≡ Some b → (i ≡ b) ⊎ ((k ≡ n) × (i ≡ fires_row row b))
          → (m : ℕ) × (b : ProcessJob) × (job_numbered m f.jobs.process.kept ≡ Some b) × (is_left_in number b.id f.jobs ≡ true) × (i.material ≡ b.material)
      of b g (inl same) = (k, b, g, subst (λ (x : ProcessJob). is_left_in number x.id f.jobs ≡ true) same left, ap (λ (x : ProcessJob). x.material) same)
      of b g (inr u) = (k, b, g, subst (λ (x : ProcessJob). is_left_in number x.id f.jobs ≡ true) u.1 left, ap (λ (x : ProcessJob). x.material) u.1)

    -- what a job can take behind a row that leaves the substrate, it could before
    fired_joins : (row m k : ℕ) (x : Substrate) (i : ProcessJob) → substrate_numbered m f.substrates ≡ Some x → job_numbered k (fired_jobs n row f.jobs).process.kept ≡ Some i
        → is_left_in number i.id f.jobs ≡ true → can_join i f.shop x ≡ true → counted m ≡ true
    fired_joins row m k x i found q left can = let was = fired_was n row k f.jobs.process.kept i q in of was.job was.found was.is where
      of : (b : ProcessJob) → job_numbered k f.jobs.process.kept ≡ Some b → (i ≡ b) ⊎ ((k ≡ n) × (i ≡ fires_row row b)) → counted m ≡ true
      of b g (inl same) = e.all m k x b found g (subst (λ (y : ProcessJob). is_left_in number y.id f.jobs ≡ true) same left) (subst (λ (y : ProcessJob). can_join y f.shop x ≡ true) same can)
      of b g (inr u) = e.all m k x b found g (subst (λ (y : ProcessJob). is_left_in number y.id f.jobs ≡ true) u.1 left) (subst (λ (y : ProcessJob). can_join y f.shop x ≡ true) u.1 can)

    -- and who is in a job behind it was in one
    fired_member : (row m : ℕ) (x : Substrate) (i : ProcessJob) → substrate_numbered m f.substrates ≡ Some x → job_of x (fired_jobs n row f.jobs) ≡ Some i → counted m ≡ true
    fired_member row m x i found q = let was = fired_was n row x.job f.jobs.process.kept i q in in_job_counted m x was.job found was.found

    -- one that waits, where it isn't for the job of the row
    waits_else : (row : ℕ) (route : List (List ℕ)) (x : Substrate) (v : Waits number route x f) → (v.at ≡ n → ⊥) → Waits number route x (with_jobs (fired_jobs n row f.jobs) f)
    waits_else row route x v other = record { at = v.at; job = v.job; kept = fired_else n row v.at other f.jobs.process.kept ∙ v.kept; left = v.left; first = first_fired number f x n row ∙ v.first; goes_by = v.goes_by; queued = v.queued; joins = v.joins }

    -- ---- rows 1, 4 and 6

    pub state-work : (row : ℕ) → (row == 2) ≡ false → IsAtWork number before (fired_jobs n row f.jobs) → AtWork number planned counted before (with_jobs (fired_jobs n row f.jobs) f)
    state-work row two steers =
        subst (λ (ss : List Substrate). AtWork number planned counted before (record f { substrates = ss; jobs = fired_jobs n row f.jobs })) (map_same f.substrates)
        (works_on f (λ (x : Substrate). x) stays_alone (fired_jobs n row f.jobs) number planned counted before h e goes)
      where
        waits : (route : List (List ℕ)) (x : Substrate) (v : Waits number route x f) → (b : Bool) → (v.at == n) ≡ b → Waits number route x (with_jobs (fired_jobs n row f.jobs) f)
        waits route x v false q = waits_else row route x v (apart_from v.at n q)
        waits route x v true q = record {
          at = n;
          job = fires_row row v.job;
          kept = fired_there n row f.jobs.process.kept ∙ ap (option_map (fires_row row)) (subst (λ (m : ℕ). job_numbered m f.jobs.process.kept ≡ Some v.job) ((Decides-eqb v.at n).0 q) v.kept);
          left = v.left;
          first = first_fired number f x n row ∙ v.first;
          goes_by = v.goes_by;
          queued = stays_queued row v.job.states.state two v.queued;
          joins = v.joins;
        }

        stands : (m : ℕ) (x : Substrate) → Stands f (λ (x : Substrate). x) stays_alone (fired_jobs n row f.jobs) number planned counted before m x f → Stands f (λ (x : Substrate). x) stays_alone (fired_jobs n row f.jobs) number planned counted before m x (behind f (λ (x : Substrate). x) stays_alone (fired_jobs n row f.jobs))
        stands m x (inl done) = inl done
        stands m x (inr (inl its)) = let on = named_on n row x.job f.jobs.process.kept its.0 its.1 in inr (inl (on.0, on.1, first_fired number f x n row ∙ its.2 ∙ ap (λ (name : List ℕ). Some name) (sym on.2), route_same f.jobs.process on.0 its.0 on.3 ∙ its.3))
        stands m x (inr (inr v)) = let u = waits (planned m) x v (v.at == n) refl in inr (inr (record { at = u.at; job = u.job; kept = u.kept; left = u.left; first = u.first; goes_by = u.goes_by; queued = u.queued; joins = u.joins }))

        goes : GoesOn f (λ (x : Substrate). x) stays_alone (fired_jobs n row f.jobs) number planned counted before
        goes = record {
          steers = steers;
          left = λ k i q left. fired_left row k i q left;
          members = λ m x i found q. fired_member row m x i found q;
          stands = λ m x found is how. stands m x how;
          joins = λ m k x i found q left can. fired_joins row m k x i found q left can;
        }

    -- ---- row 2

    joined_same : (x : Substrate) → can_join j f.shop x ≡ false → joined j f.shop x ≡ x
    joined_same x q = ap (λ (b : Bool). if b then record x { job = j.number } else x) q

    joined_job : (x : Substrate) → can_join j f.shop x ≡ true → (joined j f.shop x).job ≡ n
    joined_job x q = ap (λ (b : Bool). (if b then record x { job = j.number } else x).job) q ∙ number_is.0

    -- the job is the first that is left in it
    abbrev pub IsFirstLeft : Type 0
    IsFirstLeft = is_first j.id (names_left (control_numbered number f.jobs.control.jobs)) ≡ true

    pub joined-work : is_left_in number j.id f.jobs ≡ true → IsFirstLeft → IsAtWork number before (fired_jobs n 2 f.jobs) → AtWork number planned counted before (with_jobs (fired_jobs n 2 f.jobs) (with_members j f))
    joined-work left_in head steers = works_on f (joined j f.shop) (joined_alone f j) (fired_jobs n 2 f.jobs) number planned counted before h e goes where
      -- the first that names a slot is as it was
      alone_on : (x : Substrate) → first_naming number (behind f (joined j f.shop) (joined_alone f j) (fired_jobs n 2 f.jobs)) (joined j f.shop x) ≡ first_naming number (with_jobs (fired_jobs n 2 f.jobs) f) x
      alone_on x = first_alone number (behind f (joined j f.shop) (joined_alone f j) (fired_jobs n 2 f.jobs)) x (joined j f.shop x) (ap (λ (y : Substrate). y.carrier) (joined_alone f j x)) (ap (λ (y : Substrate). y.slot) (joined_alone f j x))

      first_on : (x : Substrate) → first_naming number (behind f (joined j f.shop) (joined_alone f j) (fired_jobs n 2 f.jobs)) (joined j f.shop x) ≡ first_naming number f x
      first_on x = alone_on x ∙ first_fired number f x n 2

      then_in : (route : List (List ℕ)) (x : Substrate) → IsInJob number route x f ⊎ Waits number route x f → can_join j f.shop x ≡ true → IsInJob number route (joined j f.shop x) (behind f (joined j f.shop) (joined_alone f j) (fired_jobs n 2 f.jobs))
      then_in route x how q = (
        fires_row 2 j,
        ap (λ (k : ℕ). job_numbered k (change_numbered n (fires_row 2) f.jobs.process.kept)) (joined_job x q) ∙ fired_there n 2 f.jobs.process.kept ∙ ap (option_map (fires_row 2)) known,
        first_on x ∙ first,
        first_route number f t route x how n j known first,
      ) where
        first : first_naming number f x ≡ Some j.id
        first = first_is number f x n j t.process.apart known head (joins_tell j f x q).named

      stands : (m : ℕ) (x : Substrate) → substrate_numbered m f.substrates ≡ Some x → Stands f (joined j f.shop) (joined_alone f j) (fired_jobs n 2 f.jobs) number planned counted before m x f → (b : Bool) → can_join j f.shop x ≡ b
          → Stands f (joined j f.shop) (joined_alone f j) (fired_jobs n 2 f.jobs) number planned counted before m (joined j f.shop x) (behind f (joined j f.shop) (joined_alone f j) (fired_jobs n 2 f.jobs))
      stands m x found (inl done) b q = inl done
      stands m x found (inr how) true q = inr (inl (then_in (planned m) x how q))
      stands m x found (inr (inl its)) false q =
          let on = named_on n 2 x.job f.jobs.process.kept its.0 its.1 in
          inr (inl (on.0, ap (λ (y : Substrate). job_of y (fired_jobs n 2 f.jobs)) (joined_same x q) ∙ on.1, first_on x ∙ its.2 ∙ ap (λ (name : List ℕ). Some name) (sym on.2), route_same f.jobs.process on.0 its.0 on.3 ∙ its.3))
      stands m x found (inr (inr v)) false q =
          let other : v.at ≡ n → ⊥ = λ same. true≢false (sym v.joins ∙ ap (λ (i : ProcessJob). can_join i f.shop x) (that v.at v.job v.kept same) ∙ q) in
          let u = waits_else 2 (planned m) x v other in
          inr (inr (record { at = u.at; job = u.job; kept = u.kept; left = u.left; first = alone_on x ∙ u.first; goes_by = u.goes_by; queued = u.queued; joins = ap (can_join u.job f.shop) (joined_same x q) ∙ u.joins }))

      members : (m : ℕ) (x : Substrate) (i : ProcessJob) → substrate_numbered m f.substrates ≡ Some x → job_of (joined j f.shop x) (fired_jobs n 2 f.jobs) ≡ Some i → (b : Bool) → can_join j f.shop x ≡ b → counted m ≡ true
      members m x i found its true q = e.all m n x j found known left_in q
      members m x i found its false q = fired_member 2 m x i found (sym (ap (λ (y : Substrate). job_of y (fired_jobs n 2 f.jobs)) (joined_same x q)) ∙ its)

      joins : (m k : ℕ) (x : Substrate) (i : ProcessJob) → substrate_numbered m f.substrates ≡ Some x → job_numbered k (fired_jobs n 2 f.jobs).process.kept ≡ Some i → is_left_in number i.id f.jobs ≡ true
          → can_join i f.shop (joined j f.shop x) ≡ true → (b : Bool) → can_join j f.shop x ≡ b → counted m ≡ true
      joins m k x i found q left can true g = e.all m n x j found known left_in g
      joins m k x i found q left can false g = fired_joins 2 m k x i found q left (sym (ap (can_join i f.shop) (joined_same x g)) ∙ can)

      goes : GoesOn f (joined j f.shop) (joined_alone f j) (fired_jobs n 2 f.jobs) number planned counted before
      goes = record {
        steers = steers;
        left = λ k i q left. fired_left 2 k i q left;
        members = λ m x i found its. members m x i found its (can_join j f.shop x) refl;
        stands = λ m x found is how. stands m x found how (can_join j f.shop x) refl;
        joins = λ m k x i found q left can. joins m k x i found q left can (can_join j f.shop x) refl;
      }

    -- ---- a row that ends it

    freed_same : (x : Substrate) → (x.job == n) ≡ false → freed n x ≡ x
    freed_same x q = ap (λ (b : Bool). if b then record x { job = 0 } else x) q

    freed_job : (x : Substrate) → (x.job == n) ≡ true → (freed n x).job ≡ 0
    freed_job x q = ap (λ (b : Bool). (if b then record x { job = 0 } else x).job) q

    module _ (done : (k : ℕ) (x : Substrate) → substrate_numbered k f.substrates ≡ Some x → x.job ≡ n → is_done k (picture f) ≡ true)
        (apart : is_queued j.states.state ≡ true → is_left_in number j.id f.jobs ≡ true → ⊥)
      where
        -- who is in a job behind is as it was, and was in that job
        was_in : (x : Substrate) (i : ProcessJob) → job_of (freed n x) (ended n f.jobs) ≡ Some i → (b : Bool) → (x.job == n) ≡ b → (freed n x ≡ x) × (job_of x f.jobs ≡ Some i)
        was_in x i its true q =
            none_some i
            (sym (none_first f.jobs.process.given (without_numbered n f.jobs.process.kept) (numbered_without n 0 f.jobs.process.given f.jobs.process.kept h.base.jobs.numbered))
            ∙ sym (ap (λ (k : ℕ). job_numbered k (without_numbered n f.jobs.process.kept)) (freed_job x q)) ∙ its)
        was_in x i its false q =
            let same = freed_same x q in
            (same, sym (without_else n x.job (apart_from x.job n q) f.jobs.process.kept) ∙ sym (ap (λ (y : Substrate). job_numbered y.job (without_numbered n f.jobs.process.kept)) same) ∙ its)

        -- one that can join a job is in none
        free_apart : (i : ProcessJob) (x : Substrate) → can_join i f.shop x ≡ true → (x.job == n) ≡ false
        free_apart i x can =
            differs x.job n (λ same.
            let zero = (Decides-eqb x.job 0).0 (joins_tell i f x can).free in
            let less : 0 < n = number_is.1 in
            omega (arith, same, zero, less))

        -- the first that names a slot is as it was, where it is another one
        first_on : (x : Substrate) (k : ℕ) (i : ProcessJob) → job_numbered k f.jobs.process.kept ≡ Some i → (k ≡ n → ⊥) → first_naming number f x ≡ Some i.id
            → first_naming number (behind f (freed n) (freed_alone n) (ended n f.jobs)) (freed n x) ≡ Some i.id
        first_on x k i its other is =
            first_alone number (behind f (freed n) (freed_alone n) (ended n f.jobs)) x (freed n x) (ap (λ (y : Substrate). y.carrier) (freed_alone n x)) (ap (λ (y : Substrate). y.slot) (freed_alone n x))
            ∙ first_ended number f x n j known (names_left (control_numbered number (ended n f.jobs).control.jobs)) (ended_names number before f.jobs t s e.steers n j known) i.id
            (names_differ k n f.jobs.process.kept i j t.process.apart its known (differs k n other)) is

        stands : (m : ℕ) (x : Substrate) → substrate_numbered m f.substrates ≡ Some x → Stands f (freed n) (freed_alone n) (ended n f.jobs) number planned counted before m x f
            → Stands f (freed n) (freed_alone n) (ended n f.jobs) number planned counted before m (freed n x) (behind f (freed n) (freed_alone n) (ended n f.jobs))
        stands m x found (inl is) = inl is
        stands m x found (inr (inl its)) = of (x.job == n) refl where
          of : (b : Bool) → (x.job == n) ≡ b → Stands f (freed n) (freed_alone n) (ended n f.jobs) number planned counted before m (freed n x) (behind f (freed n) (freed_alone n) (ended n f.jobs))
          of true q = inl (done m x found ((Decides-eqb x.job n).0 q))
          of false q = inr (inl (
            its.0,
            ap (λ (y : Substrate). job_numbered y.job (without_numbered n f.jobs.process.kept)) (freed_same x q) ∙ without_else n x.job (apart_from x.job n q) f.jobs.process.kept ∙ its.1,
            first_on x x.job its.0 its.1 (apart_from x.job n q) its.2,
            its.3,
          ))
        stands m x found (inr (inr v)) =
            let other : v.at ≡ n → ⊥ = λ same. let one = that v.at v.job v.kept same in apart (subst (λ (i : ProcessJob). is_queued i.states.state ≡ true) one v.queued) (subst (λ (i : ProcessJob). is_left_in number i.id f.jobs ≡ true) one v.left) in
            inr (inr (record {
              at = v.at;
              job = v.job;
              kept = without_else n v.at other f.jobs.process.kept ∙ v.kept;
              left = ended_on number before f.jobs t s e.steers n j v.job.id known (names_differ v.at n f.jobs.process.kept v.job j t.process.apart v.kept known (differs v.at n other)) v.left;
              first = first_on x v.at v.job v.kept other v.first;
              goes_by = v.goes_by;
              queued = v.queued;
              joins = ap (can_join v.job f.shop) (freed_same x (free_apart v.job x v.joins)) ∙ v.joins;
            }))

        joins : (m k : ℕ) (x : Substrate) (i : ProcessJob) → substrate_numbered m f.substrates ≡ Some x → job_numbered k (without_numbered n f.jobs.process.kept) ≡ Some i → is_left_in number i.id (ended n f.jobs) ≡ true
            → can_join i f.shop (freed n x) ≡ true → (b : Bool) → (x.job == n) ≡ b → counted m ≡ true
        joins m k x i found q left can true g =
            let needs = (joins_tell i f (freed n x) can).needs in
            let states : is_needing x.states.processing ≡ true = sym (ap (λ (y : Substrate). is_needing y.states.processing) (freed_alone n x)) ∙ needs in
            let is = done m x found ((Decides-eqb x.job n).0 g) in
            let finished = (and_parts (law.is_finished ((picture f).processing m)) (not (law.is_outside ((picture f).place_of m))) is).0 in
            absurd (true≢false (sym finished ∙ finished_same f h.base m x found ∙ needing_unfinished x.states.processing states))
        joins m k x i found q left can false g =
            let back = gone_back n k 0 f.jobs.process.given f.jobs.process.kept i h.base.jobs.numbered q in
            e.all m k x i found back.0 (ended_back number before f.jobs t s e.steers n i.id left) (sym (ap (can_join i f.shop) (freed_same x g)) ∙ can)

        goes : GoesOn f (freed n) (freed_alone n) (ended n f.jobs) number planned counted before
        goes = record {
          steers = ended-works number before f.jobs t s e.steers n;
          left = λ k i q left. let back = gone_back n k 0 f.jobs.process.given f.jobs.process.kept i h.base.jobs.numbered q in (k, i, back.0, ended_back number before f.jobs t s e.steers n i.id left, refl);
          members = λ m x i found its. in_job_counted m x i found (was_in x i its (x.job == n) refl).1;
          stands = λ m x found is how. stands m x found how;
          joins = λ m k x i found q left can. joins m k x i found q left can (x.job == n) refl;
        }

        pub ended-work : AtWork number planned counted before (with_jobs (ended n f.jobs) (without_members j.number f))
        ended-work = subst (λ (k : ℕ). AtWork number planned counted before (with_jobs (ended n f.jobs) (without_members k f))) (sym number_is.0) (works_on f (freed n) (freed_alone n) (ended n f.jobs) number planned counted before h e goes)

-- ---- what the floor is behind the rows

module _ (f : ToolFloor) (n : ℕ) (j : ProcessJob) (known : job_numbered n f.jobs.process.kept ≡ Some j) where
  two_is : floor_fired (firing 14 n 2) f ≡ with_jobs (fired_jobs n 2 f.jobs) (with_members j f)
  two_is = ap (λ (o : Option ProcessJob). with_jobs (fired_jobs n 2 f.jobs) (gets_members o f)) known

  seven_is : floor_fired (firing 14 n 7) f ≡ with_jobs (ended n f.jobs) (without_members j.number f)
  seven_is = ap (λ (o : Option ProcessJob). with_jobs (process_fired 7 n f.jobs) (frees o f)) known ∙ ap (λ (x : Jobs). with_jobs x (without_members j.number f)) (sym (fired_ends n 7 f.jobs refl))

  pub fifteen_is : floor_fired (firing 14 n 15) f ≡ with_jobs (ended n f.jobs) (without_members j.number f)
  fifteen_is = ap (λ (o : Option ProcessJob). with_jobs (process_fired 15 n f.jobs) (frees o f)) known ∙ ap (λ (x : Jobs). with_jobs x (without_members j.number f)) (sym (fired_ends n 15 f.jobs refl))

  module _ (h : Sound f) where
    -- the members of one that is PROCESS COMPLETE are done
    complete_done : is_complete j.states.state ≡ true → (k : ℕ) (x : Substrate) → substrate_numbered k f.substrates ≡ Some x → x.job ≡ n → is_done k (picture f) ≡ true
    complete_done is k x found its = over_before f h.valid k x j found (subst (λ (m : ℕ). job_numbered m f.jobs.process.kept ≡ Some j) (sym its) known) is

    -- one that is QUEUED has none
    pub queued_done : is_queued j.states.state ≡ true → (k : ℕ) (x : Substrate) → substrate_numbered k f.substrates ≡ Some x → x.job ≡ n → is_done k (picture f) ≡ true
    queued_done is k x found its =
        absurd (true≢false (sym is ∙ member_begun f (on_base f h.base) k x j found (subst (λ (m : ℕ). job_numbered m f.jobs.process.kept ≡ Some j) (sym its) known)))

-- one that is PROCESS COMPLETE isn't QUEUED
complete_not_queued : (x : JobState) → is_complete x ≡ true → is_queued x ≡ true → ⊥
complete_not_queued state.Complete p q = true≢false (sym q)
complete_not_queued state.Queued p q = true≢false (sym p)
complete_not_queued state.SettingUp p q = true≢false (sym q)
complete_not_queued state.WaitingForStart p q = true≢false (sym q)
complete_not_queued state.Processing p q = true≢false (sym q)
complete_not_queued state.Pausing p q = true≢false (sym q)
complete_not_queued state.Paused p q = true≢false (sym q)
complete_not_queued state.Stopping p q = true≢false (sym q)
complete_not_queued state.Aborting p q = true≢false (sym q)

-- ---- while it executes

module _ (number : ℕ) (planned : ℕ → List (List ℕ)) (counted : ℕ → Bool) (f : ToolFloor) (h : Sound f) (t : AreTogether f.jobs) (s : AreStarted f.jobs) (e : Executes number planned counted f)
    (n : ℕ) (j : ProcessJob) (known : job_numbered n f.jobs.process.kept ≡ Some j)
  where
    at_work : AtWork number planned counted f.jobs f
    at_work = at_work_of number planned counted f e

    -- where it steers behind a row that changes the state, it is at work there
    works_so : (row : ℕ) → Steers number (fired_jobs n row f.jobs) → IsAtWork number f.jobs (fired_jobs n row f.jobs)
    works_so row v =
        state-works number f.jobs f.jobs t s at_work.steers row n j known (λ left. going_whole (after job_number job_table row j.states.state) (v.going n (fires_row row j) found_then left))
        (λ q. v.started n (fires_row row j) found_then q)
      where
        found_then : job_numbered n (fired_jobs n row f.jobs).process.kept ≡ Some (fires_row row j)
        found_then = fired_there n row f.jobs.process.kept ∙ ap (option_map (fires_row row)) known

    state-executes : (row : ℕ) → (row == 2) ≡ false → Steers number (fired_jobs n row f.jobs) → Executes number planned counted (with_jobs (fired_jobs n row f.jobs) f)
    state-executes row two v = executes_by number planned counted (with_jobs (fired_jobs n row f.jobs) f) (state-work number planned counted f h t s at_work n j known row two (works_so row v)) v

    joined-executes : is_left_in number j.id f.jobs ≡ true → is_first j.id (names_left (control_numbered number f.jobs.control.jobs)) ≡ true → Steers number (fired_jobs n 2 f.jobs)
        → Executes number planned counted (with_jobs (fired_jobs n 2 f.jobs) (with_members j f))
    joined-executes left head v = executes_by number planned counted (with_jobs (fired_jobs n 2 f.jobs) (with_members j f)) (joined-work number planned counted f h t s at_work n j known left head (works_so 2 v)) v

    -- what row 2 starts at is the first that is left in its control job
    first_left : is_left_in number j.id f.jobs ≡ true → process_starts 2 (Some j) (sight j f) f.jobs ≡ true → is_first j.id (names_left (control_numbered number f.jobs.control.jobs)) ≡ true
    first_left left st =
        let c = its_control number f.jobs f.jobs t s at_work.steers in
        let wanted = (and_parts (is_among job_number (state.Queued ∷ []) j.states.state) (is_first_left j.id (owner j.id f.jobs) && is_here j f.shop) st).1 in
        let first = (and_parts (is_first_left j.id (owner j.id f.jobs)) (is_here j f.shop) wanted).0 in
        let own : is_first_left j.id (Some c.job) ≡ true = subst (λ (o : Option ControlJob). is_first_left j.id o ≡ true) (owner_is j.id number f.jobs c.job t c.at (left_owned number j.id f.jobs c.job c.at left)) first in
        ap (λ (o : Option ControlJob). is_first j.id (names_left o)) c.at
        ∙ (and_parts ((state_number c.job.states.state == 3) && not (is_ending c.job.states.ending)) (is_first j.id c.job.left) own).1

    ended-executes : ((k : ℕ) (x : Substrate) → substrate_numbered k f.substrates ≡ Some x → x.job ≡ n → is_done k (picture f) ≡ true)
        → (is_queued j.states.state ≡ true → is_left_in number j.id f.jobs ≡ true → ⊥) → Executes number planned counted (with_jobs (ended n f.jobs) (without_members j.number f))
    ended-executes done apart =
        executes_by number planned counted (with_jobs (ended n f.jobs) (without_members j.number f)) (ended-work number planned counted f h t s at_work n j known done apart) (ended-steers number f.jobs t s e.steers n)

    -- a row of the process job leaves it as it is, and as much is owed
    abbrev Keeps : ℕ → Type 0
    Keeps r = Executes number planned counted (floor_fired (firing 14 n r) f) × (owed_to planned counted (picture (floor_fired (firing 14 n r) f)) ≡ owed_to planned counted (picture f))

    abbrev Starts : ℕ → Type 0
    Starts r = process_starts r (Some j) (sight j f) f.jobs ≡ true

    abbrev Calm : ℕ → Type 0
    Calm r = disturbs_process number j.id r f.jobs ≡ false

    pub process-executes : (row : ℕ) → floor_starts (firing 14 n row) f ≡ true → disturbs_process number j.id row f.jobs ≡ false
        → Executes number planned counted (floor_fired (firing 14 n row) f) × (owed_to planned counted (picture (floor_fired (firing 14 n row) f)) ≡ owed_to planned counted (picture f))
    process-executes row starts calm =
        process-goes number f.jobs t s e.steers (λ (r : ℕ). Starts r → Calm r → Keeps r) row n (sight j f) j known its calm
        (λ left. (
          (λ st c. (state-executes 1 refl (steers 1 st c), refl)),
          (joins left, ((λ st c. (state-executes 4 refl (steers 4 st c), refl)), ((λ st c. (state-executes 6 refl (steers 6 st c), refl)), (ends left, tt)))),
        ))
        (λ out queued. ((λ st c. (state-executes 1 refl (steers 1 st c), refl)), (fifteen out queued, tt)))
        its calm
      where
        its : process_starts row (Some j) (sight j f) f.jobs ≡ true
        its = subst (λ (o : Option ProcessJob). process_starts row o (found_sight o f) f.jobs ≡ true) known starts

        steers : (r : ℕ) → Starts r → Calm r → Steers number (process_fired r n f.jobs)
        steers r st c = process-steers number f.jobs t s e.steers r n (sight j f) j known st c

        joins : is_left_in number j.id f.jobs ≡ true → Starts 2 → Calm 2 → Keeps 2
        joins left st c =
            subst (λ (g : ToolFloor). Executes number planned counted g × (owed_to planned counted (picture g) ≡ owed_to planned counted (picture f))) (sym (two_is f n j known))
            (joined-executes left (first_left left st) (steers 2 st c), behind_owed f (joined j f.shop) (joined_alone f j) (fired_jobs n 2 f.jobs) planned counted)

        owed_ended : owed_to planned counted (picture (with_jobs (ended n f.jobs) (without_members j.number f))) ≡ owed_to planned counted (picture f)
        owed_ended = behind_owed f (freed j.number) (freed_alone j.number) (ended n f.jobs) planned counted

        ends : is_left_in number j.id f.jobs ≡ true → Starts 7 → Calm 7 → Keeps 7
        ends left st c =
            let complete = complete_tells j.states.state (and_parts (is_among job_number (state.Complete ∷ []) j.states.state) true st).0 in
            subst (λ (g : ToolFloor). Executes number planned counted g × (owed_to planned counted (picture g) ≡ owed_to planned counted (picture f))) (sym (seven_is f n j known))
            (ended-executes (complete_done f n j known h complete) (λ q l. complete_not_queued j.states.state complete q), owed_ended)

        fifteen : is_left_in number j.id f.jobs ≡ false → is_queued j.states.state ≡ true → Starts 15 → Calm 15 → Keeps 15
        fifteen out queued st c =
            subst (λ (g : ToolFloor). Executes number planned counted g × (owed_to planned counted (picture g) ≡ owed_to planned counted (picture f))) (sym (fifteen_is f n j known))
            (ended-executes (queued_done f n j known h queued) (λ q l. true≢false (sym l ∙ out)), owed_ended)
