-- What holds goes on where the process jobs, the jobs of substrates and the marks of carriers change.
use Rattle.std.proofs.Common.{◌≡◌, ◌≤◌, ◌<◌, ℕ, Bool, true, false, not, ◌&&◌, ◌||◌, if◌then◌else◌, List, [], ◌∷◌, map, find, length, Option, Some, None, option_map, refl, sym, ◌∙◌, ap, subst}
use Rattle.std.specs.List.{list_any}
use Rattle.std.proofs.lemmas.Bool.{true≢false, or_left, or_right}
use Rattle.tool_tasks.specs.declared.recipes.Recipe.{Recipe}
use Rattle.carrier.specs.declared.carrier.Carrier.{Carrier}
use Rattle.carrier.specs.Record.{is_map_verified}
use Rattle.carrier.specs.Tables.{access_number}
use Rattle.substrate.specs.Tables.{processing_number}
use Rattle.process_job.specs.Jobs.{recipe_named}
use Rattle.process_job.specs.declared.job.Material.{Material}
use Rattle.process_job.specs.declared.job.ProcessJob.{ProcessJob}
use Rattle.tool_jobs.specs.Jobs.{Jobs}
use Rattle.floor_model.specs.declared.tracked.Substrate.{Substrate}
use Rattle.floor_model.specs.Floor.{ToolFloor, substrate_numbered, number_of}
use Rattle.floor_model.specs.Jobs.{all_marked, job_of, names_carrier, is_any_of_carrier, is_processing}
use Rattle.floor_model.proofs.Marks.{marked_valid}
use Rattle.floor_moves.specs.Floor as law
use Rattle.floor_moves.specs.Floor.{Task, pick, place, align, process, named, Command, busy, JobView, is_done}
use Rattle.floor_moves.specs.Agree.{Agree}
use Rattle.floor_moves.specs.Carriers.{with_jobs}
use Rattle.floor_moves.specs.Valid.{Members, Valid, MaySay}
use Rattle.floor_moves.proofs.Agreeing.{alike_same, agree-keeps}
use Rattle.floor_moves.proofs.Carrying.{jobs_say-keeps}
use Rattle.floor_moves.proofs.Facts.{outside_not_done, picked_not_done}
use Rattle.place_laws.specs.Picture.{picture, of_one, of_job, is_complete, steps_in, job_view, port_in, slot_in, where_present}
use Rattle.place_laws.specs.Sound.{IsOfJob, IsInItsJob, JobsSound, Base, Sound}
use Rattle.place_laws.proofs.Holding.{found_among, true_of_found}
use Rattle.place_laws.proofs.Leaving.{Leaves}
use Rattle.place_laws.proofs.Routes.{some_left}
use Rattle.place_laws.proofs.Stays.{stay-carried}
use Rattle.floor_laws.proofs.UnloadMarked.{all_marked-unloading}
use Rattle.floor_laws.proofs.JobSight.{some_same, none_some}
use Rattle.floor_laws.proofs.JobSteps.{none_done}
use Rattle.floor_laws.proofs.JobChanges.{IsJobAlone, numbers_map, found_map, says_map, carried_map, registered_map, apart_map, rising_map, held_map, marked_leaves, marked_at_ports, marked_numbers, marked_says}

-- ---- what jobs say of a substrate

-- one of which it is said is in a job
pub record IsMember (ts : List Substrate) (w : Jobs) (says : ProcessJob → Bool) (n : ℕ) : Type 0 where
  pub one : Substrate
  pub found : substrate_numbered n ts ≡ Some one
  pub job : ProcessJob
  pub its : job_of one w ≡ Some job
  pub so : says job ≡ true

module _ (ts : List Substrate) (w : Jobs) (n : ℕ) where
  -- there is such a one
  pub member_tells : (says : ProcessJob → Bool) → of_one false (of_job false says w) (substrate_numbered n ts) ≡ true → IsMember ts w says n
  member_tells says e = of (substrate_numbered n ts) refl e where
    in_job : (s : Substrate) → substrate_numbered n ts ≡ Some s → (o : Option ProcessJob) → job_of s w ≡ o → of_one false says o ≡ true → IsMember ts w says n
    in_job s q None p e = absurd (true≢false (sym e))
    in_job s q (Some j) p e = record { one = s; found = q; job = j; its = p; so = e }

    of : (o : Option Substrate) → substrate_numbered n ts ≡ o → of_one false (of_job false says w) o ≡ true → IsMember ts w says n
    of None q e = absurd (true≢false (sym e))
    of (Some s) q e = in_job s q (job_of s w) refl e

  -- what is said of it
  pub said_there : {B : Type 0} (else_ : B) (says : ProcessJob → B) (s : Substrate) (j : ProcessJob) → substrate_numbered n ts ≡ Some s → job_of s w ≡ Some j → of_one else_ (of_job else_ says w) (substrate_numbered n ts) ≡ says j
  said_there else_ says s j found its = ap (of_one else_ (of_job else_ says w)) found ∙ ap (of_one else_ says) its

-- what one that is found passes, some pass
pub any_found : {A : Type 0} (t u : A → Bool) (xs : List A) (x : A) → find t xs ≡ Some x → u x ≡ true → list_any u xs ≡ true
any_found t u [] x e is = none_some x e
any_found t u (y ∷ ys) x e is = of (t y) e (any_found t u ys x) where
  of : (b : Bool) → (if b then Some y else find t ys) ≡ Some x → (find t ys ≡ Some x → u x ≡ true → list_any u ys ≡ true) → (u y || list_any u ys) ≡ true
  of true e rest = or_left (u y) (list_any u ys) (ap u (some_same y x e) ∙ is)
  of false e rest = or_right (u y) (list_any u ys) (rest e is)

module _ (f : ToolFloor) (ms : List Material) (change : Substrate → Substrate) (alone : IsJobAlone change) (w : Jobs) where
  -- the floor behind the change
  abbrev pub behind : ToolFloor
  behind = record f { shop = all_marked ms f.shop; substrates = map change f.substrates; jobs = w }

  -- what its jobs say
  abbrev pub view : JobView
  view = job_view (map change f.substrates) (all_marked ms f.shop).carriers w

  -- what holds besides the floor by numbers
  pub base_on : Base f → JobsSound behind → Base behind
  base_on b jobs = record {
    shop = marked_valid ms f.shop b.shop;
    carried = carried_map change alone (all_marked ms f.shop).carriers f.substrates (stay-carried f.shop.carriers (all_marked ms f.shop).carriers leaves.stay f.substrates b.carried);
    registered = registered_map change alone f.substrates (all_marked ms f.shop).carriers (leaves.registered b.registered);
    apart = apart_map change alone f.substrates b.apart;
    rising = rising_map change alone 0 f.places.given f.substrates b.rising;
    same_ports = b.same_ports ∙ sym leaves.ports;
    modules = b.modules;
    places = b.places;
    held = held_map change alone f.substrates f.places.held b.held;
    jobs = jobs;
  } where
    leaves : Leaves f.substrates f.shop (all_marked ms f.shop)
    leaves = marked_leaves f.substrates ms f.shop

  -- the floor by numbers is as it was, and its jobs say this
  agree_on : Agree (with_jobs view (picture f)) (picture behind)
  agree_on = record {
    substrates = numbers_map change alone f.substrates;
    next_substrate = refl;
    carrier_of = λ n _. says_map change alone 0 (λ (s : Substrate). s.carrier) (λ s. ap (λ (x : Substrate). x.carrier) (alone s)) n f.substrates;
    port_of = λ n _. says_map change alone 0 (λ (s : Substrate). port_in s.slot) (λ s. ap (λ (x : Substrate). port_in x.slot) (alone s)) n f.substrates;
    slot_of = λ n _. says_map change alone 0 (λ (s : Substrate). slot_in s.slot) (λ s. ap (λ (x : Substrate). slot_in x.slot) (alone s)) n f.substrates;
    place_of = λ n. refl;
    processing = λ n _. processing_same n;
    is_aligned = λ n _. says_map change alone false (λ (s : Substrate). s.aligned) (λ s. ap (λ (x : Substrate). x.aligned) (alone s)) n f.substrates;
    steps_of = λ n _ _. says_map change alone 0 (λ (s : Substrate). s.steps) (λ s. ap (λ (x : Substrate). x.steps) (alone s)) n f.substrates;
    carriers = marked_numbers ms f.shop;
    present_at = λ c. marked_says None where_present (λ x. refl) ms f.shop c;
    is_verified = λ c _. marked_says false (λ (x : Carrier). is_map_verified x.states.map) (λ x. refl) ms f.shop c;
    access = λ c _. marked_says 0 (λ (x : Carrier). access_number x.states.access) (λ x. refl) ms f.shop c;
    jobs = alike_same _ _;
    chambers = refl;
    equipment = λ m. refl;
    next_command = refl;
  } where
    processing_same : (n : ℕ) → of_one 0 (λ (s : Substrate). processing_number s.states.processing) (substrate_numbered n (map change f.substrates)) ≡ of_one 0 (λ (s : Substrate). processing_number s.states.processing) (substrate_numbered n f.substrates)
    processing_same n = says_map change alone 0 (λ (s : Substrate). processing_number s.states.processing) (λ s. ap (λ (x : Substrate). processing_number x.states.processing) (alone s)) n f.substrates

  -- ---- when it may be so

  -- recipes stay; one that isn't done stays in its job, of the recipe that it had; the carrier of a member is NOT ACCESSED or IN ACCESS;
  -- a member of one that is PROCESS COMPLETE is done
  pub record GoesOn : Type 0 where
    pub recipes : w.process.recipes ≡ f.jobs.process.recipes
    pub stays : (n : ℕ) (s : Substrate) (j : ProcessJob) → substrate_numbered n f.substrates ≡ Some s → is_done n (picture f) ≡ false → job_of s f.jobs ≡ Some j → (k : ProcessJob) × (job_of (change s) w ≡ Some k) × (k.recipe ≡ j.recipe)
    pub here : (n : ℕ) (s : Substrate) (j : ProcessJob) → substrate_numbered n f.substrates ≡ Some s → job_of (change s) w ≡ Some j → (picture f).access s.carrier ≤ 1
    pub over : (n : ℕ) (s : Substrate) (j : ProcessJob) → substrate_numbered n f.substrates ≡ Some s → job_of (change s) w ≡ Some j → is_complete j.states.state ≡ true → is_done n (picture f) ≡ true

  module _ (v : Valid (picture f)) (jobs : JobsSound behind) (goes : GoesOn) where
    -- a member behind the change
    before : (n : ℕ) (t : Substrate) → substrate_numbered n (map change f.substrates) ≡ Some t → (s : Substrate) × (substrate_numbered n f.substrates ≡ Some s) × (change s ≡ t)
    before n t e = of (substrate_numbered n f.substrates) refl (sym (found_map change alone n f.substrates) ∙ e) where
      of : (o : Option Substrate) → substrate_numbered n f.substrates ≡ o → option_map change o ≡ Some t → (s : Substrate) × (substrate_numbered n f.substrates ≡ Some s) × (change s ≡ t)
      of None q e = none_some t e
      of (Some s) q e = (s, q, some_same (change s) t e)

    -- one that is kept is found behind the change
    found_behind : (n : ℕ) (s : Substrate) → substrate_numbered n f.substrates ≡ Some s → substrate_numbered n (map change f.substrates) ≡ Some (change s)
    found_behind n s e = found_map change alone n f.substrates ∙ ap (option_map change) e

    -- a member that isn't done stays one
    member_on : (n : ℕ) → is_done n (picture f) ≡ false → (picture f).jobs.is_member n ≡ true → view.is_member n ≡ true
    member_on n left is =
        let m = member_tells f.substrates f.jobs n (λ j. true) is in
        let k = goes.stays n m.one m.job m.found left m.its in
        said_there (map change f.substrates) w n false (λ j. true) (change m.one) k.0 (found_behind n m.one m.found) k.1

    -- and has the route that it had
    route_on : (n : ℕ) → is_done n (picture f) ≡ false → (picture f).jobs.is_member n ≡ true → view.route_of n ≡ (picture f).jobs.route_of n
    route_on n left is =
        let m = member_tells f.substrates f.jobs n (λ j. true) is in
        let k = goes.stays n m.one m.job m.found left m.its in
        said_there (map change f.substrates) w n [] (λ j. steps_in (recipe_named j.recipe w.process.recipes)) (change m.one) k.0 (found_behind n m.one m.found) k.1
        ∙ ap (λ (r : List ℕ). steps_in (recipe_named r w.process.recipes)) k.2
        ∙ ap (λ (rs : List Recipe). steps_in (recipe_named m.job.recipe rs)) goes.recipes
        ∙ sym (said_there f.substrates f.jobs n [] (λ j. steps_in (recipe_named j.recipe f.jobs.process.recipes)) m.one m.job m.found m.its)

    -- one that an open command names isn't done
    named_left : (m : ℕ) (c : Command) → (picture f).equipment m ≡ busy c → is_done (named c.task) (picture f) ≡ false
    named_left m c e = of c.task refl where
      of : (t : Task) → c.task ≡ t → is_done (named t) (picture f) ≡ false
      of (pick n l) is = picked_not_done (picture f) m n l (v.commands.picks m n l c e is)
      of (place n l) is = outside_not_done (picture f) n (ap law.is_outside (v.commands.places m n l c e is).stands)
      of (align n) is = outside_not_done (picture f) n (ap law.is_outside (v.commands.aligns m n c e is).stands)
      of (process n) is = outside_not_done (picture f) n (ap law.is_outside (v.commands.processes m n c e is).2)

    -- what the jobs say is right
    right : Members (with_jobs view (picture f))
    right = record {
      outside = λ n out. member_on n (outside_not_done (picture f) n out) (v.members.outside n out);
      named = λ m c e. member_on (named c.task) (named_left m c e) (v.members.named m c e);
      starting = λ n e. let m = member_tells (map change f.substrates) w n (λ j. is_processing j.states.state) e in said_there (map change f.substrates) w n false (λ j. true) m.one m.job m.found m.its;
      kept = λ n e. let m = member_tells (map change f.substrates) w n (λ j. true) e in let s = before n m.one m.found in found_among number_of n f.substrates s.0 s.1;
      carrier = λ n e. carrier n (member_tells (map change f.substrates) w n (λ j. true) e);
      here = λ n e. here n (member_tells (map change f.substrates) w n (λ j. true) e);
      complete = λ n e done. over n (member_tells (map change f.substrates) w n (λ j. is_complete j.states.state) done);
      left = λ n e unfinished. step_left n (member_tells (map change f.substrates) w n (λ j. true) e) unfinished ((picture f).jobs.is_member n) refl;
    } where
      carrier_is : (n : ℕ) (s : Substrate) → substrate_numbered n f.substrates ≡ Some s → (picture f).carrier_of n ≡ s.carrier
      carrier_is n s e = ap (of_one 0 (λ (s : Substrate). s.carrier)) e

      carrier : (n : ℕ) → IsMember (map change f.substrates) w (λ j. true) n → view.names_carrier ((picture f).carrier_of n) ≡ true
      carrier n m =
          let s = before n m.one m.found in
          let is : IsOfJob (all_marked ms f.shop).carriers m.one m.job = true_of_found number_of n (IsInItsJob (all_marked ms f.shop).carriers w) (map change f.substrates) m.one jobs.members m.found m.job m.its in
          let number : (picture f).carrier_of n ≡ m.one.carrier = carrier_is n s.0 s.1 ∙ sym (ap (λ (x : Substrate). x.carrier) (alone s.0)) ∙ ap (λ (x : Substrate). x.carrier) s.2 in
          ap view.names_carrier number
          ∙ ap (of_one false (λ (x : Carrier). is_any_of_carrier x.name w)) is.its
          ∙ any_found _ (names_carrier is.carrier.name) w.process.kept m.job m.its is.named

      here : (n : ℕ) → IsMember (map change f.substrates) w (λ j. true) n → (picture f).access ((picture f).carrier_of n) ≤ 1
      here n m =
          let s = before n m.one m.found in
          subst (λ (c : ℕ). (picture f).access c ≤ 1) (sym (carrier_is n s.0 s.1))
          (goes.here n s.0 m.job s.1 (ap (λ (x : Substrate). job_of x w) s.2 ∙ m.its))

      over : (n : ℕ) → IsMember (map change f.substrates) w (λ j. is_complete j.states.state) n → is_done n (picture f) ≡ true
      over n m = let s = before n m.one m.found in goes.over n s.0 m.job s.1 (ap (λ (x : Substrate). job_of x w) s.2 ∙ m.its) m.so

      -- an unfinished one has a step that isn't done: the one that it had, or the first, where it is a new member
      step_left : (n : ℕ) → IsMember (map change f.substrates) w (λ j. true) n → law.is_finished ((picture f).processing n) ≡ false → (b : Bool) → (picture f).jobs.is_member n ≡ b → (picture f).steps_of n < length (view.route_of n)
      step_left n m unfinished true was =
          let same = route_on n (ap (λ (b : Bool). b && not (law.is_outside ((picture f).place_of n))) unfinished) was in
          subst (λ (route : List (List ℕ)). (picture f).steps_of n < length route) (sym same) (v.members.left n was unfinished)
      step_left n m unfinished false out =
          let s = before n m.one m.found in
          let none = none_done (picture f) v n (found_among number_of n f.substrates s.0 s.1) unfinished out in
          let route = said_there (map change f.substrates) w n [] (λ j. steps_in (recipe_named j.recipe w.process.recipes)) m.one m.job m.found m.its in
          subst (λ (i : ℕ). i < length (view.route_of n)) (sym none)
          (subst (λ (steps : List (List ℕ)). 0 < length steps) (sym route) (some_left (recipe_named m.job.recipe w.process.recipes)))

    -- and the routes of those outside or named stay
    may_say : MaySay view (picture f)
    may_say = record {
      right = right;
      outside_same = λ n out. route_on n (outside_not_done (picture f) n out) (v.members.outside n out);
      named_same = λ m c e. route_on (named c.task) (named_left m c e) (v.members.named m c e);
    }

    -- so it holds by numbers
    valid_on : Valid (picture behind)
    valid_on = agree-keeps (with_jobs view (picture f)) (picture behind) agree_on (jobs_say-keeps (picture f) view may_say v)

  -- and all holds
  pub sound_on : Sound f → JobsSound behind → GoesOn → Sound behind
  sound_on s jobs goes = record { base = base_on s.base jobs; ports = marked_at_ports ms f.shop s.ports; unloading = all_marked-unloading ms f.shop s.unloading; valid = valid_on s.valid jobs goes }
