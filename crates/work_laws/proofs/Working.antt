-- Where no row of the floor is ready by itself, no module is Down and work is left, a command is open.
use Rattle.std.proofs.Common.{◌≡◌, length, suc, zero, ◌≤◌, ℕ, ◌==◌, Bool, true, false, not, ◌||◌, ◌&&◌, if◌then◌else◌, List, [], ◌∷◌, map, Option, Some, None, refl, sym, ◌∙◌, ap, subst, arith}
use Rattle.std.specs.List.{list_any}
use Rattle.std.proofs.lemmas.Bool.{true≢false, and_parts, and_from, or_parts, or_right, not-true, not-false, false_from_ne_true}
use Rattle.std.proofs.lemmas.Bool.Decides.{Decides-eqb}
use Rattle.gem_tables.specs.Table.{is_one_of}
use Rattle.shop_floor.proofs.AtRest.{mapped_none}
use Rattle.process_job.specs.Jobs.{AreNumbered, job_numbered}
use Rattle.process_job.specs.declared.job.ProcessJob.{ProcessJob}
use Rattle.process_job.specs.declared.record.JobState.{JobState}
use Rattle.robot_moves.specs.Modules.{module_at, is_idle}
use Rattle.robot_moves.specs.Moves.{next_move}
use Rattle.robot_moves.specs.declared.module.Module.{Module as ToolModule}
use Rattle.robot_moves.specs.declared.module.Module.TheVariants.{Idle, Busy, Down}
use Rattle.substrate.specs.Record.{is_in_process, is_finished}
use Rattle.substrate.specs.declared.record.Processing.{Processing}
use Rattle.substrate.specs.declared.record.Processing.TheVariants as processing
use Rattle.floor_model.specs.declared.tracked.Substrate.{Substrate}
use Rattle.floor_model.specs.Floor.{ToolFloor, substrate_numbered, number_of}
use Rattle.floor_model.specs.Floor.{RiseTo}
use Rattle.floor_model.specs.Jobs.{is_member, is_done_with, is_settled, job_of, is_processing, is_stopping, is_aborting, is_ending}
use Rattle.floor_model.specs.Machines.{floor_least, substrate_ready}
use Rattle.floor_model.specs.Substrates.{is_outside, is_in_slot, is_removed}
use Rattle.floor_model.specs.Views.{views}
use Rattle.floor_model.proofs.AtRest.{rests, none_ready}
use Rattle.floor_model.proofs.Moves.{firing_of, first_move_is}
use Rattle.substrate.specs.Tables.{processing_number, processing_table}
use Rattle.floor_moves.specs.Floor as law
use Rattle.floor_moves.specs.Floor.{Floor, Loc, slot, aligner, arm, chamber, Command, busy, modules}
use Rattle.floor_moves.specs.Work as law_work
use Rattle.floor_moves.specs.Work.{IsOpen}
use Rattle.floor_moves.specs.Rest.{AtRest}
use Rattle.floor_moves.proofs.Waiting.{command_is_open}
use Rattle.place_laws.specs.Picture.{picture, module_of, of_one, of_job}
use Rattle.place_laws.specs.Sound.{Sound}
use Rattle.place_laws.proofs.Holding.{found_among}
use Rattle.floor_laws.proofs.JobLists.{job_number_is}
use Rattle.floor_laws.proofs.JobSight.{any_at, kept_here, outside_same, removed_from, in_slot_from}
use Rattle.floor_laws.proofs.JobWork.{finished_same}
use Rattle.floor_laws.proofs.RegFound.{risen}
use Rattle.work_laws.specs.Equipped.{Equipped}
use Rattle.work_laws.specs.Work.{is_pausing, is_member_outside, has_work, is_work_left, is_down, is_any_down, has_open, is_any_open}
use Rattle.work_laws.proofs.Lists.{not_all}
use Rattle.work_laws.proofs.Resting.{none_planned, at_rest}
use Rattle.work_laws.proofs.Standing.{there}
use Rattle.work_laws.proofs.Chambers.{have_chambers}

-- ---- what passes a test is found by its number

-- a process job that passes one
record IsSome (test : ProcessJob → Bool) (js : List ProcessJob) : Type 0 where
  job : ProcessJob
  found : job_numbered job.number js ≡ Some job
  passes : test job ≡ true

some_job : (test : ProcessJob → Bool) (last given : ℕ) (js : List ProcessJob) → AreNumbered last given js → list_any test js ≡ true → IsSome test js
some_job test last given [] rising e = absurd (cc)
some_job test last given (j ∷ js) rising e = of (test j) refl e (some_job test j.number given js rising.1) where
  later : (k : ProcessJob) → job_numbered k.number js ≡ Some k → (b : Bool) → (j.number == k.number) ≡ b → (if b then Some j else job_numbered k.number js) ≡ Some k
  later k found true q = let same = (Decides-eqb j.number k.number).0 q in let less = (job_number_is k.number j.number given js k rising.1 found).1 in absurd (omega (arith, same, less))
  later k found false q = found

  of : (b : Bool) → test j ≡ b → (b || list_any test js) ≡ true → (list_any test js ≡ true → IsSome test js) → IsSome test (j ∷ js)
  of true q e rest = record { job = j; found = ap (λ (b : Bool). if b then Some j else job_numbered j.number js) ((Decides-eqb j.number j.number).1 refl); passes = q }
  of false q e rest = let one = rest e in record { job = one.job; found = later one.job one.found (j.number == one.job.number) refl; passes = one.passes }

-- a substrate that does
record IsKept (test : Substrate → Bool) (ss : List Substrate) : Type 0 where
  one : Substrate
  found : substrate_numbered one.number ss ≡ Some one
  passes : test one ≡ true

some_kept : (test : Substrate → Bool) (last given : ℕ) (ss : List Substrate) → RiseTo last given ss → list_any test ss ≡ true → IsKept test ss
some_kept test last given [] rising e = absurd (cc)
some_kept test last given (s ∷ ss) rising e = of (test s) refl e (some_kept test s.number given ss rising.1) where
  later : (t : Substrate) → substrate_numbered t.number ss ≡ Some t → (b : Bool) → (s.number == t.number) ≡ b → (if b then Some s else substrate_numbered t.number ss) ≡ Some t
  later t found true q =
      let same = (Decides-eqb s.number t.number).0 q in
      let less = risen s.number given ss t.number rising.1 (found_among number_of t.number ss t found) in
      absurd (omega (arith, same, less))
  later t found false q = found

  of : (b : Bool) → test s ≡ b → (b || list_any test ss) ≡ true → (list_any test ss ≡ true → IsKept test ss) → IsKept test (s ∷ ss)
  of true q e rest = record { one = s; found = ap (λ (b : Bool). if b then Some s else substrate_numbered s.number ss) ((Decides-eqb s.number s.number).1 refl); passes = q }
  of false q e rest = let t = rest e in record { one = t.one; found = later t.one t.found (s.number == t.one.number) refl; passes = t.passes }

-- ---- work by numbers

-- a substrate that is kept has work left by numbers
record HasWork (g : Floor) : Type 0 where
  n : ℕ
  kept : is_one_of g.substrates n ≡ true
  left : law_work.is_work_left n g ≡ true

module _ (f : ToolFloor) (sound : Sound f) where
  -- what the process job of a substrate says by numbers
  said : (n : ℕ) (s : Substrate) (j : ProcessJob) (test : JobState → Bool) → substrate_numbered n f.substrates ≡ Some s → job_of s f.jobs ≡ Some j → of_one false (of_job false (λ j. test j.states.state) f.jobs) (substrate_numbered n f.substrates) ≡ test j.states.state
  said n s j test found its = ap (of_one false (of_job false (λ j. test j.states.state) f.jobs)) found ∙ ap (of_one false (λ (j : ProcessJob). test j.states.state)) its

  -- a member of a process job is in it
  its_job : (s : Substrate) (j : ProcessJob) → job_numbered j.number f.jobs.process.kept ≡ Some j → is_member j.number s ≡ true → job_of s f.jobs ≡ Some j
  its_job s j found member = subst (λ (k : ℕ). job_numbered k f.jobs.process.kept ≡ Some j) (sym ((Decides-eqb s.job j.number).0 member)) found

  -- who is neither in its slot nor removed is outside
  outside_from : (n : ℕ) (s : Substrate) → substrate_numbered n f.substrates ≡ Some s → (is_in_slot s f.places || is_removed s f.places) ≡ false → law.is_outside ((picture f).place_of n) ≡ true
  outside_from n s found e = of ((picture f).place_of n) refl where
    neither : (is_in_slot s f.places ≡ false) × (is_removed s f.places ≡ false)
    neither = or_parts (is_in_slot s f.places) (is_removed s f.places) e

    of : (o : Option Loc) → (picture f).place_of n ≡ o → law.is_outside ((picture f).place_of n) ≡ true
    of None q = let gone = removed_from f sound.base n s found q in let stays = neither.1 in absurd (cc)
    of (Some (slot p k)) q =
        let home = in_slot_from f sound.base n s found (q ∙ ap (λ (l : Loc). Some l) (sound.valid.places.home n p k q)) in
        let away = neither.0 in
        absurd (cc)
    of (Some aligner) q = ap law.is_outside q
    of (Some arm) q = ap law.is_outside q
    of (Some (chamber c)) q = ap law.is_outside q

  -- one that is outside has work left
  outside_left : (n : ℕ) → law.is_outside ((picture f).place_of n) ≡ true → law_work.is_work_left n (picture f) ≡ true
  outside_left n out = ap (λ (x : Bool). x || (not (law.is_finished ((picture f).processing n)) && law_work.is_at_work n (picture f))) out

  -- so has one that isn't finished, where its job is at work
  unfinished_left : (n : ℕ) → law.is_finished ((picture f).processing n) ≡ false → law_work.is_at_work n (picture f) ≡ true → law_work.is_work_left n (picture f) ≡ true
  unfinished_left n unfinished works =
      or_right (law.is_outside ((picture f).place_of n)) (not (law.is_finished ((picture f).processing n)) && law_work.is_at_work n (picture f))
      (and_from (not (law.is_finished ((picture f).processing n))) (law_work.is_at_work n (picture f)) (ap (λ (x : Bool). not x) unfinished) works)

  -- a member with which its job isn't done has work left, where the job is PROCESSING, STOPPING or ABORTING
  member_left : (s : Substrate) (j : ProcessJob) → substrate_numbered s.number f.substrates ≡ Some s → job_numbered j.number f.jobs.process.kept ≡ Some j → (is_processing j.states.state || is_ending j) ≡ true → not (is_done_with j.number f.places s) ≡ true → law_work.is_work_left s.number (picture f) ≡ true
  member_left s j found known works undone = of (is_finished s.states.processing) refl where
    parts : (not (is_member j.number s) ≡ false) × ((is_finished s.states.processing && (is_in_slot s f.places || is_removed s f.places)) ≡ false)
    parts = or_parts (not (is_member j.number s)) (is_finished s.states.processing && (is_in_slot s f.places || is_removed s f.places)) (not-true (is_done_with j.number f.places s) undone)

    its : job_of s f.jobs ≡ Some j
    its = its_job s j known (not-false (is_member j.number s) parts.0)

    at_work : law_work.is_at_work s.number (picture f) ≡ true
    at_work =
        ap (λ (x : Bool). x || ((picture f).jobs.is_stopping s.number || (picture f).jobs.is_aborting s.number)) (said s.number s j is_processing found its)
        ∙ ap (λ (x : Bool). is_processing j.states.state || (x || (picture f).jobs.is_aborting s.number)) (said s.number s j is_stopping found its)
        ∙ ap (λ (x : Bool). is_processing j.states.state || (is_stopping j.states.state || x)) (said s.number s j is_aborting found its)
        ∙ works

    of : (b : Bool) → is_finished s.states.processing ≡ b → law_work.is_work_left s.number (picture f) ≡ true
    of true q = outside_left s.number (outside_from s.number s found (sym (ap (λ (x : Bool). x && (is_in_slot s f.places || is_removed s f.places)) q) ∙ parts.1))
    of false q = unfinished_left s.number (finished_same f sound.base s.number s found ∙ q) at_work

  kept_is : (s : Substrate) → substrate_numbered s.number f.substrates ≡ Some s → is_one_of (map number_of f.substrates) s.number ≡ true
  kept_is s found = kept_here f sound.base s.number s found

  -- a process job that isn't settled has a member with work left
  unsettled_left : (j : ProcessJob) → job_numbered j.number f.jobs.process.kept ≡ Some j → (is_processing j.states.state || is_ending j) ≡ true → is_settled j.number f ≡ false → HasWork (picture f)
  unsettled_left j known works unsettled =
      let s = some_kept (λ (s : Substrate). not (is_done_with j.number f.places s)) 0 f.places.given f.substrates sound.base.rising (not_all (is_done_with j.number f.places) f.substrates unsettled) in
      record { n = s.one.number; kept = kept_is s.one s.found; left = member_left s.one j s.found known works s.passes }

  -- so has one with a member outside
  outside_member_left : (j : ProcessJob) → list_any (is_member_outside j.number f.places) f.substrates ≡ true → HasWork (picture f)
  outside_member_left j e =
      let s = some_kept (is_member_outside j.number f.places) 0 f.places.given f.substrates sound.base.rising e in
      let out = (and_parts (is_member j.number s.one) (is_outside s.one f.places) s.passes).1 in
      record { n = s.one.number; kept = kept_is s.one s.found; left = outside_left s.one.number (sym (outside_same f sound.base s.one.number s.one s.found) ∙ out) }

  -- so where work is left, some is by numbers
  work_left : is_work_left f ≡ true → HasWork (picture f)
  work_left e =
      let j = some_job (has_work f) 0 f.jobs.process.given f.jobs.process.kept sound.base.jobs.numbered e in
      of j.job j.found ((is_processing j.job.states.state || is_ending j.job) && not (is_settled j.job.number f)) refl j.passes
    where
      of : (j : ProcessJob) → job_numbered j.number f.jobs.process.kept ≡ Some j → (b : Bool) → ((is_processing j.states.state || is_ending j) && not (is_settled j.number f)) ≡ b
          → (b || is_pausing j.states.state && list_any (is_member_outside j.number f.places) f.substrates) ≡ true → HasWork (picture f)
      of j found true q e =
          let parts = and_parts (is_processing j.states.state || is_ending j) (not (is_settled j.number f)) q in
          unsettled_left j found parts.0 (not-true (is_settled j.number f) parts.1)
      of j found false q e = outside_member_left j (and_parts (is_pausing j.states.state) (list_any (is_member_outside j.number f.places) f.substrates) e).1

-- ---- the floor by numbers is at rest

module _ (f : ToolFloor) (sound : Sound f) (equipped : Equipped f) (rest : floor_least f ≡ None) where
  -- so it is at rest, where each module is Idle and no command is open
  still : ((m : ℕ) → 1 ≤ m → m ≤ length f.modules → is_idle (module_at m f.modules) ≡ true) → ((m : ℕ) (c : Command) → (picture f).equipment m ≡ busy c → ⊥) → AtRest (picture f)
  still idles none =
      let nothing : next_move (views f) f.modules ≡ None = mapped_none (firing_of (views f) f.modules) (next_move (views f) f.modules) (sym (first_move_is f) ∙ (rests f rest).move) in
      at_rest f sound.base sound.valid equipped.modules idles (none_planned f nothing)
      (λ n s found. sym (ap (λ (o : Option Substrate). substrate_ready processing_number processing_table (λ s. s.processing) o f) found)
      ∙ (none_ready f rest).processing n (found_among number_of n f.substrates s found))

-- ---- modules

-- where none is Down and none has a command, each is Idle
all_idle : (f : ToolFloor) → is_any_down f.modules ≡ false → ((m : ℕ) (c : Command) → (picture f).equipment m ≡ busy c → ⊥) → (m : ℕ) → 1 ≤ m → m ≤ length f.modules → is_idle (module_at m f.modules) ≡ true
all_idle f up none zero least most = absurd (omega (arith, least))
all_idle f up none (suc k) least most = let w = there k f.modules (omega (arith, most)) in of w.0 w.1 where
  of : (x : ToolModule) → module_at (suc k) f.modules ≡ Some x → is_idle (module_at (suc k) f.modules) ≡ true
  of Idle q = ap is_idle q
  of (Busy c fetched) q = absurd (none (suc k) _ (ap (λ (o : Option ToolModule). module_of o f.places) q))
  of Down q = absurd (let some = any_at is_down f.modules (suc k) Down q refl in cc)

-- a command that is open by numbers is open
open_there : (f : ToolFloor) → IsOpen (picture f) → is_any_open f.modules ≡ true
open_there f is = of is.0 is.1 (module_at is.0 f.modules) refl is.2 where
  of : (m : ℕ) (c : Command) (o : Option ToolModule) → module_at m f.modules ≡ o → module_of o f.places ≡ busy c → is_any_open f.modules ≡ true
  of m c None q e = absurd (cc)
  of m c (Some Idle) q e = absurd (cc)
  of m c (Some Down) q e = absurd (cc)
  of m c (Some (Busy d fetched)) q e = any_at has_open f.modules m (Busy d fetched) q refl

-- ---- the law

pub open_while_work : (f : ToolFloor) → Sound f → Equipped f → floor_least f ≡ None → is_any_down f.modules ≡ false → is_work_left f ≡ true → is_any_open f.modules ≡ true
open_while_work f sound equipped rests up work =
    let w = work_left f sound work in
    open_there f (command_is_open (picture f) w.n sound.valid (have_chambers f equipped) (λ none. still f sound equipped rests (all_idle f up none) none) w.kept w.left)
