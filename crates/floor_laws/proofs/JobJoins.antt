-- What holds goes on where a process job that is set up gets its members.
use Rattle.std.proofs.Common.{◌≡◌, ◌≤◌, ℕ, ◌+◌, ◌==◌, Bool, true, false, ◌&&◌, ◌||◌, if◌then◌else◌, List, [], ◌∷◌, Option, Some, None, option_map, refl, sym, ◌∙◌, ap, subst, ◌⊎◌, inl, inr, arith}
use Rattle.std.specs.List.{list_any, list_all}
use Rattle.std.specs.Str.{bytes_eq}
use Rattle.std.proofs.lemmas.Bool.{true≢false, and_parts, or_left, or_right}
use Rattle.std.proofs.lemmas.Bool.Decides.{Decides-eqb}
use Rattle.std.proofs.lemmas.Slice.Eq.{bytes_eq-Decides}
use Rattle.gem_tables.specs.Table.{is_among}
use Rattle.carrier.specs.declared.carrier.Carrier.{Carrier}
use Rattle.carrier.specs.declared.record.Accessing.{Accessing}
use Rattle.carrier.specs.declared.record.Accessing.TheVariants as accessing
use Rattle.carrier.specs.Tables.{access_number}
use Rattle.carrier.specs.Record.{is_map_verified}
use Rattle.carrier.specs.Carriers.{has_name, carrier_named, carrier_numbered}
use Rattle.shop_floor.specs.Valid.{RiseFrom}
use Rattle.shop_floor.proofs.Apart.{all_both, IsOnly, found_only, found_passes, has_its_name, named_so}
use Rattle.process_job.specs.Tables.{job_number}
use Rattle.process_job.specs.Jobs.{job_numbered, change_numbered, fires_row}
use Rattle.process_job.specs.declared.job.ProcessJob.{ProcessJob}
use Rattle.process_job.specs.declared.record.JobState.TheVariants.{Queued, SettingUp}
use Rattle.substrate.specs.Record.{is_at_source, is_needing}
use Rattle.floor_model.specs.declared.tracked.Substrate.{Substrate}
use Rattle.floor_model.specs.Floor.{ToolFloor, substrate_numbered, number_of}
use Rattle.floor_model.specs.Jobs.{is_carrier_of, is_slot_named, names_slot_of, can_join, joined, is_in_use, is_carrier_here, is_material_here, is_here, job_of, names_carrier}
use Rattle.floor_moves.specs.Floor.{is_done}
use Rattle.place_laws.specs.Picture.{picture, of_one, is_complete}
use Rattle.place_laws.specs.Standing.{IsCarried}
use Rattle.place_laws.specs.Sound.{is_queued, IsOfJob, IsInItsJob, JobsSound, Sound}
use Rattle.place_laws.proofs.Holding.{true_of_found}
use Rattle.floor_laws.proofs.JobSight.{none_some, some_same}
use Rattle.floor_laws.proofs.JobChanges.{IsJobAlone}
use Rattle.floor_laws.proofs.JobSays.{behind, GoesOn, sound_on}
use Rattle.floor_laws.proofs.JobLists.{job_number_is, numbered_fired, fired_there, fired_was, fired_on, none_first}
use Rattle.floor_laws.proofs.JobStates.{after_set_up}
use Rattle.floor_laws.proofs.JobFires.{here_before, over_before, fired_jobs, fired_member}
use Rattle.floor_laws.proofs.JobEnds.{each_mapped}
use Rattle.place_laws.proofs.Names.{each_found}

-- ---- lists

-- one passes a test and all pass another: one passes both, so that some pass what it passes
pub record Both {A : Type 0} (t u : A → Bool) (xs : List A) : Type 0 where
  pub one : A
  pub first : t one ≡ true
  pub second : u one ≡ true
  pub some : (r : A → Bool) → r one ≡ true → list_any r xs ≡ true

-- there is such a one
pub both_pass : {A : Type 0} (t u : A → Bool) (xs : List A) → list_any t xs ≡ true → list_all u xs ≡ true → Both t u xs
both_pass t u [] e all = absurd (true≢false (sym e))
both_pass t u (x ∷ xs) e all = let parts = and_parts (u x) (list_all u xs) all in of (t x) refl e parts.0 (λ q. both_pass t u xs q parts.1) where
  of : (b : Bool) → t x ≡ b → (b || list_any t xs) ≡ true → u x ≡ true → (list_any t xs ≡ true → Both t u xs) → Both t u (x ∷ xs)
  of true q e here rest = record { one = x; first = q; second = here; some = λ r is. or_left (r x) (list_any r xs) is }
  of false q e here rest = let w = rest e in record { one = w.one; first = w.first; second = w.second; some = λ r is. or_right (r x) (list_any r xs) (w.some r is) }

-- a carrier of a number among those whose numbers rise is not below the first
not_below : (name : List ℕ) (k first next : ℕ) (cs : List Carrier) → RiseFrom first next cs → list_any (is_carrier_of name k) cs ≡ true → first ≤ k
not_below name k first next [] rising e = absurd (true≢false (sym e))
not_below name k first next (c ∷ cs) rising e = of (c.number == k) (bytes_eq c.name name) refl e (not_below name k (c.number + 1) next cs rising.1) where
  of : (b d : Bool) → (c.number == k) ≡ b → ((b && d) || list_any (is_carrier_of name k) cs) ≡ true → (list_any (is_carrier_of name k) cs ≡ true → c.number + 1 ≤ k) → first ≤ k
  of true d q e rest = let same = (Decides-eqb c.number k).0 q in let less = rising.0 in omega (arith, same, less)
  of false d q e rest = let more = rest e in let less = rising.0 in omega (arith, more, less)

-- the carrier of the number has the name
pub name_there : (name : List ℕ) (k first next : ℕ) (cs : List Carrier) (x : Carrier) → RiseFrom first next cs → list_any (is_carrier_of name k) cs ≡ true → carrier_numbered k cs ≡ Some x → x.name ≡ name
name_there name k first next [] x rising e found = none_some x found
name_there name k first next (c ∷ cs) x rising e found = of (c.number == k) (bytes_eq c.name name) refl refl e found (name_there name k (c.number + 1) next cs x rising.1) where
  of : (b d : Bool) → (c.number == k) ≡ b → bytes_eq c.name name ≡ d → ((b && d) || list_any (is_carrier_of name k) cs) ≡ true → (if b then Some c else carrier_numbered k cs) ≡ Some x → (list_any (is_carrier_of name k) cs ≡ true → carrier_numbered k cs ≡ Some x → x.name ≡ name) → x.name ≡ name
  of true true q r e found rest = ap (λ (y : Carrier). y.name) (sym (some_same c x found)) ∙ (bytes_eq-Decides c.name name).0 r
  of true false q r e found rest =
      let same : c.number ≡ k = (Decides-eqb c.number k).0 q in
      let less = not_below name k (c.number + 1) next cs rising.1 e in
      absurd (omega (arith, same, less))
  of false d q r e found rest = rest e found

-- ---- the members

-- a carrier that is here is NOT ACCESSED or IN ACCESS
pub use_number : (a : Accessing) → is_in_use a ≡ true → access_number a ≤ 1
use_number accessing.NotAccessed e = omega arith
use_number accessing.InAccess e = omega arith
use_number _ e = absurd (true≢false (sym e))

-- a substrate that joins the job: it was in none, and its carrier, which the job names, is NOT ACCESSED or IN ACCESS
record IsNew (f : ToolFloor) (j : ProcessJob) (s : Substrate) : Type 0 where
  free : s.job ≡ 0
  carrier : Carrier
  its : carrier_numbered s.carrier f.shop.carriers ≡ Some carrier
  named : names_carrier carrier.name j ≡ true
  here : access_number carrier.states.access ≤ 1

-- no more than the job of a substrate changes
pub joined_alone : (f : ToolFloor) (j : ProcessJob) → IsJobAlone (joined j f.shop)
joined_alone f j s = of (can_join j f.shop s) where
  of : (b : Bool) → record (if b then record s { job = j.number } else s) { job = s.job } ≡ s
  of true = refl
  of false = refl

module _ (f : ToolFloor) (n : ℕ) (j : ProcessJob) (h : Sound f) (known : job_numbered n f.jobs.process.kept ≡ Some j) (is_queued_ : is_among job_number (Queued ∷ []) j.states.state ≡ true) (present : is_here j f.shop ≡ true) where
  -- the number of the job, which was given
  number_is : (j.number ≡ n) × (0 + 1 ≤ n) × (n ≤ f.jobs.process.given)
  number_is = let r = job_number_is n 0 f.jobs.process.given f.jobs.process.kept j h.base.jobs.numbered known in (r.0, r.1, r.2)

  -- one that can join is new
  new_tells : (s : Substrate) → IsCarried f.shop.carriers s → can_join j f.shop s ≡ true → IsNew f j s
  new_tells s of e =
      let outer = and_parts (is_at_source s.states.transport && is_needing s.states.processing) ((s.job == 0) && list_any (names_slot_of f.shop s) j.material) e in
      let inner = and_parts (s.job == 0) (list_any (names_slot_of f.shop s) j.material) outer.1 in
      let w = both_pass (names_slot_of f.shop s) (is_material_here f.shop) j.material inner.1 present in
      let named = name_there w.one.carrier s.carrier 1 f.shop.next_carrier f.shop.carriers of.0 h.base.shop.rising (and_parts (list_any (is_carrier_of w.one.carrier s.carrier) f.shop.carriers) (is_slot_named w.one.slots s.slot) w.first).0 of.1 in
      record {
        free = (Decides-eqb s.job 0).0 inner.0;
        carrier = of.0;
        its = of.1;
        named = w.some (λ m. bytes_eq m.carrier of.0.name) ((bytes_eq-Decides w.one.carrier of.0.name).1 (sym named));
        here = at_use w.one.carrier named (carrier_named w.one.carrier f.shop.carriers) refl w.second;
      }
    where
      at_use : (name : List ℕ) → of.0.name ≡ name → (o : Option Carrier) → carrier_named name f.shop.carriers ≡ o → is_carrier_here o ≡ true → access_number of.0.states.access ≤ 1
      at_use name is None q e = absurd (true≢false (sym e))
      at_use name is (Some d) q e =
          let its : d.name ≡ of.0.name = named_so name d (found_passes (has_name name) f.shop.carriers d q) ∙ sym is in
          let same : d ≡ of.0 = each_found (IsOnly of.0) (has_name name) f.shop.carriers d (found_only (λ (x : Carrier). x.number == s.carrier) f.shop.carriers of.0 h.base.shop.apart of.1) q (has_its_name of.0.name d its) in
          let uses = and_parts (is_map_verified d.states.map) (is_in_use d.states.access) (and_parts d.present (is_map_verified d.states.map && is_in_use d.states.access) e).1 in
          subst (λ (x : Carrier). access_number x.states.access ≤ 1) same (use_number d.states.access uses.1)

  -- a substrate joins, or is as it was
  abbrev Cases : Substrate → Type 0
  Cases s = (IsNew f j s × ((joined j f.shop s).job ≡ n)) ⊎ (joined j f.shop s ≡ s)

  -- one of the two is so
  joined_cases : (s : Substrate) → IsCarried f.shop.carriers s → Cases s
  joined_cases s of = by (can_join j f.shop s) refl where
    by : (b : Bool) → can_join j f.shop s ≡ b → Cases s
    by true e = inl (new_tells s of e, ap (λ (b : Bool). (if b then record s { job = j.number } else s).job) e ∙ number_is.0)
    by false e = inr (ap (λ (b : Bool). if b then record s { job = j.number } else s) e)

  -- one that is kept has its carrier
  carried_at : (k : ℕ) (s : Substrate) → substrate_numbered k f.substrates ≡ Some s → IsCarried f.shop.carriers s
  carried_at k s found = true_of_found number_of k (IsCarried f.shop.carriers) f.substrates s h.base.carried found

  -- the job of one that joins
  new_job : (s : Substrate) (i : ProcessJob) → (joined j f.shop s).job ≡ n → job_of (joined j f.shop s) (fired_jobs n 2 f.jobs) ≡ Some i → i ≡ fires_row 2 j
  new_job s i its e =
      some_same i (fires_row 2 j)
      (sym e ∙ ap (λ (k : ℕ). job_numbered k (change_numbered n (fires_row 2) f.jobs.process.kept)) its ∙ fired_there n 2 f.jobs.process.kept ∙ ap (option_map (fires_row 2)) known)

  -- the job is SETTING UP behind the row
  state_is : (fires_row 2 j).states.state ≡ SettingUp
  state_is = after_set_up j.states.state is_queued_

  -- so it isn't PROCESS COMPLETE
  not_complete : (i : ProcessJob) → i ≡ fires_row 2 j → is_complete i.states.state ≡ true → ⊥
  not_complete i same e = true≢false (sym e ∙ ap (λ (x : ProcessJob). is_complete x.states.state) same ∙ ap is_complete state_is)

  -- ---- what holds behind

  -- each member is in its job
  member : (s : Substrate) → IsCarried f.shop.carriers s × IsInItsJob f.shop.carriers f.jobs s → IsInItsJob f.shop.carriers (fired_jobs n 2 f.jobs) (joined j f.shop s)
  member s both i e = by (joined_cases s both.0) where
    new : IsNew f j s → i ≡ fires_row 2 j → IsOfJob f.shop.carriers (joined j f.shop s) i
    new w same = record {
      begun = ap (λ (x : ProcessJob). is_queued x.states.state) same ∙ ap is_queued state_is;
      carrier = w.carrier;
      its = ap (λ (x : Substrate). carrier_numbered x.carrier f.shop.carriers) (joined_alone f j s) ∙ w.its;
      named = ap (names_carrier w.carrier.name) same ∙ w.named;
    }

    by : Cases s → IsOfJob f.shop.carriers (joined j f.shop s) i
    by (inl t) = new t.0 (new_job s i t.1 e)
    by (inr same) = subst (λ (x : Substrate). IsOfJob f.shop.carriers x i) (sym same) (fired_member f n 2 s both.1 i (sym (ap (λ (x : Substrate). job_of x (fired_jobs n 2 f.jobs)) same) ∙ e))

  -- and its job was given
  given_on : (s : Substrate) → s.job ≤ f.jobs.process.given → (joined j f.shop s).job ≤ f.jobs.process.given
  given_on s less = by (can_join j f.shop s) where
    by : (b : Bool) → (if b then record s { job = j.number } else s).job ≤ f.jobs.process.given
    by true = subst (λ (k : ℕ). k ≤ f.jobs.process.given) (sym number_is.0) number_is.2
    by false = less

  -- what holds of jobs
  jobs_joined : JobsSound (behind f [] (joined j f.shop) (joined_alone f j) (fired_jobs n 2 f.jobs))
  jobs_joined = record {
    numbered = numbered_fired n 2 0 f.jobs.process.given f.jobs.process.kept h.base.jobs.numbered;
    given = each_mapped (λ (s : Substrate). s.job ≤ f.jobs.process.given) (λ (s : Substrate). s.job ≤ f.jobs.process.given) (joined j f.shop) f.substrates given_on h.base.jobs.given;
    members = each_mapped (λ (s : Substrate). IsCarried f.shop.carriers s × IsInItsJob f.shop.carriers f.jobs s) (IsInItsJob f.shop.carriers (fired_jobs n 2 f.jobs)) (joined j f.shop) f.substrates member (all_both (IsCarried f.shop.carriers) (IsInItsJob f.shop.carriers f.jobs) f.substrates h.base.carried h.base.jobs.members);
  }

  -- members stay in their jobs
  goes_joined : GoesOn f [] (joined j f.shop) (joined_alone f j) (fired_jobs n 2 f.jobs)
  goes_joined = record {
    recipes = refl;
    stays = λ k s i found left its. stays s i its (joined_cases s (carried_at k s found));
    here = λ k s i found its. here k s i found its (joined_cases s (carried_at k s found));
    over = λ k s i found its done. over k s i found its done (joined_cases s (carried_at k s found));
  } where
    stays : (s : Substrate) (i : ProcessJob) → job_of s f.jobs ≡ Some i → Cases s → (k : ProcessJob) × (job_of (joined j f.shop s) (fired_jobs n 2 f.jobs) ≡ Some k) × (k.recipe ≡ i.recipe)
    stays s i its (inl t) = none_some i (sym (none_first f.jobs.process.given f.jobs.process.kept h.base.jobs.numbered) ∙ sym (ap (λ (k : ℕ). job_numbered k f.jobs.process.kept) t.0.free) ∙ its)
    stays s i its (inr same) = let w = fired_on n 2 s.job f.jobs.process.kept i its in (w.0, ap (λ (x : Substrate). job_of x (fired_jobs n 2 f.jobs)) same ∙ w.1, w.2)

    here : (k : ℕ) (s : Substrate) (i : ProcessJob) → substrate_numbered k f.substrates ≡ Some s → job_of (joined j f.shop s) (fired_jobs n 2 f.jobs) ≡ Some i → Cases s → (picture f).access s.carrier ≤ 1
    here k s i found its (inl t) = subst (λ (a : ℕ). a ≤ 1) (sym (ap (of_one 0 (λ (c : Carrier). access_number c.states.access)) t.0.its)) t.0.here
    here k s i found its (inr same) = let w = fired_was n 2 s.job f.jobs.process.kept i (sym (ap (λ (x : Substrate). job_of x (fired_jobs n 2 f.jobs)) same) ∙ its) in here_before f h.valid k s w.job found w.found

    old : (k : ℕ) (s : Substrate) (i b : ProcessJob) → substrate_numbered k f.substrates ≡ Some s → job_of s f.jobs ≡ Some b → is_complete i.states.state ≡ true → (i ≡ b) ⊎ ((s.job ≡ n) × (i ≡ fires_row 2 b)) → is_done k (picture f) ≡ true
    old k s i b found its done (inl same) = over_before f h.valid k s b found its (ap (λ (x : ProcessJob). is_complete x.states.state) (sym same) ∙ done)
    old k s i b found its done (inr t) =
        let one : b ≡ j = some_same b j (sym its ∙ ap (λ (m : ℕ). job_numbered m f.jobs.process.kept) t.0 ∙ known) in
        absurd (not_complete i (t.1 ∙ ap (fires_row 2) one) done)

    over : (k : ℕ) (s : Substrate) (i : ProcessJob) → substrate_numbered k f.substrates ≡ Some s → job_of (joined j f.shop s) (fired_jobs n 2 f.jobs) ≡ Some i → is_complete i.states.state ≡ true → Cases s → is_done k (picture f) ≡ true
    over k s i found its done (inl t) = absurd (not_complete i (new_job s i t.1 its) done)
    over k s i found its done (inr same) = let w = fired_was n 2 s.job f.jobs.process.kept i (sym (ap (λ (x : Substrate). job_of x (fired_jobs n 2 f.jobs)) same) ∙ its) in old k s i w.job found w.found done w.is

  -- the job of a number gets its members, by row 2
  pub joined_sound : Sound (behind f [] (joined j f.shop) (joined_alone f j) (fired_jobs n 2 f.jobs))
  joined_sound = sound_on f [] (joined j f.shop) (joined_alone f j) (fired_jobs n 2 f.jobs) h jobs_joined goes_joined
