-- What holds of a disk, step by step.
use Rattle.std.proofs.Common.{◌≡◌, ◌⊎◌, inl, inr, ℕ, ◌≤◌, Bool, true, false, List, [], Option, Result, Ok, Err, refl, sym, ◌∙◌, ap, subst, arith}
use Rattle.std.specs.Prelude.{OnOk, OnErr, IfErr, slice_get}
use Rattle.outside.specs.Counts.{Rose}
use Rattle.outside.specs.Disk.{Each}
use Rattle.outside.specs.Told.{Written, WrittenFront}
use Rattle.outside.proofs.Writing.{Rose-wider, Written-nothing}
use Rattle.spool.specs.declared.note.Note.{Note}
use Rattle.spool_format.specs.Faults.{Told}
use Rattle.spool_format.specs.Format.{Sizes, StandsFor}
use Rattle.spool_format.specs.Unread.{IsUnread}
use Rattle.spool_format.specs.declared.fault.NvFault.{NvFault}
use Rattle.spool_format.specs.declared.fault.NvFault.TheVariants as fault
use Rattle.spool_format.proofs.Alone.{one_spool}
use Rattle.spool_format.proofs.Unreading.{unread_is_nothing}
use Rattle.nv_spool.specs.Nv.{Nv}
use Rattle.nv_spool.specs.Writing.{BeforeOrAfter}
use Rattle.spool_format.specs.Runs.{LeavesOnly, Quiet}
use Rattle.notes_lines.specs.declared.line.SpoolLine.{SpoolLine}
use Rattle.notes_lines.specs.declared.line.SpoolLine.TheVariants as line
use Rattle.notes_lines.specs.Printed.{listed, taken_line}
use Rattle.notes_lines.specs.Reading.{spool_line_of}
use Rattle.notes_top.specs.Stages.{Stage, AsFound, Formatted, Open, is_open, Opens, behind, Holds}
use Rattle.notes_top.specs.Stops.{stop_of, stopped}
use Rattle.notes_top.specs.Keeping.{disk_of, DiskAt, KeptAt, OpenedAt, Broken, Refuses, TakesLine}
use Rattle.notes_top.specs.declared.kept.Kept.{Kept}
use Rattle.notes_top.specs.declared.kept.Kept.TheVariants as kept
use Rattle.notes_top.specs.declared.stop.Stop.{Stop}
use Rattle.notes_top.specs.declared.stop.Stop.TheVariants as stop

-- what a line says is what it says at the stage
pub said : (b : Bool) (stage : Stage) (text : List ℕ) (r : Result SpoolLine ℕ) → b ≡ is_open stage → spool_line_of b text ≡ r → spool_line_of (is_open stage) text ≡ r
said b stage text r is says = subst (λ (o : Bool). spool_line_of o text ≡ r) is says

abbrev pub refused : {T : Type 0} → NvFault → Result T NvFault
refused e = Err e

pub err_of : {T : Type 0} {e f : NvFault} → e ≡ f → refused {T = T} e ≡ refused {T = T} f
err_of {T = T} same = ap (λ (x : NvFault). refused {T = T} x) same

-- lines that are the same
abbrev pub line_said : SpoolLine → Result SpoolLine ℕ
line_said says = Ok says

pub ok_line : {a b : SpoolLine} → a ≡ b → line_said a ≡ line_said b
ok_line same = ap line_said same

-- no fault of the spool is one of writing
pub not_write : (e : NvFault) → stop_of e ≡ stop.Write → ⊥
not_write fault.Disk same = cc
not_write fault.Closed same = cc
not_write (fault.Unread place) same = cc
not_write fault.NoMemory same = cc

abbrev pub failing : Stop → Result (Unit {0}) Stop
failing why = Err why

pub stopped_write : {A : Type 0} (r : Result A NvFault) → stopped r ≡ failing stop.Write → ⊥
stopped_write (Ok x) same = cc
stopped_write (Err fault.Disk) same = cc
stopped_write (Err fault.Closed) same = cc
stopped_write (Err (fault.Unread place)) same = cc
stopped_write (Err fault.NoMemory) same = cc

-- ---- a disk, and a spool over it

module _ {D : Type 0} (tells : D → Bool) (reads : D → List ℕ) (leaves : D → List ℕ → Type 0) (faults : D → ℕ) where
  -- nothing was done
  pub DiskAt-first : (first : D) → DiskAt tells reads leaves faults first AsFound first
  DiskAt-first first = record { tells_same = refl; faults_stay = omega arith; holds = λ told. (refl, λ image left. left) }

  pub KeptAt-disk : (first : D) (stage : Stage) (k : Kept D) → KeptAt tells reads leaves faults first stage k → DiskAt tells reads leaves faults first stage (disk_of k)
  KeptAt-disk first stage (kept.Disk disk) at = at.1
  KeptAt-disk first stage (kept.Spool nv) at = at.2

  pub KeptAt-open : (first : D) (stage : Stage) (k : Kept D) (nv : Nv D) → k ≡ kept.Spool nv → KeptAt tells reads leaves faults first stage k → OpenedAt tells reads leaves faults first stage nv
  KeptAt-open first stage k nv same at = opened stage (subst (KeptAt tells reads leaves faults first stage) same at)
    where
      opened : (stage : Stage) → KeptAt tells reads leaves faults first stage (kept.Spool nv) → OpenedAt tells reads leaves faults first stage nv
      opened stage (is, closed, at) = subst (λ (s : Stage). OpenedAt tells reads leaves faults first s nv) (sym is) (record {
        opens = (refl, refl);
        opened = closed;
        as_before = subst (λ (s : Stage). DiskAt tells reads leaves faults first s nv.disk) is at;
        now = subst (λ (s : Stage). DiskAt tells reads leaves faults first s nv.disk) is at;
      })

  -- a spool that is open, and its disk at that stage
  pub OpenedAt-kept : (first : D) (nv : Nv D) (s : Sizes) (notes : List Note) → s ≡ nv.sizes → notes ≡ nv.notes → nv.is_closed ≡ false → DiskAt tells reads leaves faults first (Open s notes) nv.disk
      → KeptAt tells reads leaves faults first (Open s notes) (kept.Spool nv)
  OpenedAt-kept first nv s notes sizes_are notes_are opened at = (ap (λ (z : Sizes). Open z notes) sizes_are ∙ ap (λ (ns : List Note). Open nv.sizes ns) notes_are, opened, at)

  -- each image has these notes now
  pub DiskAt-open : (first old new : D) (stage : Stage) (s : Sizes) (notes : List Note) → DiskAt tells reads leaves faults first stage old → tells new ≡ tells old → faults old ≤ faults new
      → (tells old ≡ true → Each (leaves new) (StandsFor s notes)) → DiskAt tells reads leaves faults first (Open s notes) new
  DiskAt-open first old new stage s notes at tells_are stays has = record {
    tells_same = tells_are ∙ at.tells_same;
    faults_stay = omega (arith, at.faults_stay);
    holds = λ told. has (at.tells_same ∙ told);
  }

  pub DiskAt-formatted : (first old new : D) (stage : Stage) (s : Sizes) → DiskAt tells reads leaves faults first stage old → tells new ≡ tells old → faults old ≤ faults new
      → (tells old ≡ true → Each (leaves new) (StandsFor s [])) → DiskAt tells reads leaves faults first (Formatted s) new
  DiskAt-formatted first old new stage s at tells_are stays has = record {
    tells_same = tells_are ∙ at.tells_same;
    faults_stay = omega (arith, at.faults_stay);
    holds = λ told. has (at.tells_same ∙ told);
  }

  -- calls that write nothing leave the disk at its stage
  holds_still : (stage : Stage) (found now now' : List ℕ) (images left left' : List ℕ → Type 0) → now' ≡ now → Each left' left → Holds found images stage now left → Holds found images stage now' left'
  holds_still AsFound found now now' images left left' same fewer holds = (same ∙ holds.0, λ image is. holds.1 image (fewer image is))
  holds_still (Formatted s) found now now' images left left' same fewer holds = λ image is. holds image (fewer image is)
  holds_still (Open s notes) found now now' images left left' same fewer holds = λ image is. holds image (fewer image is)

  module _ (moment : D → ℕ) (left_since : D → ℕ → List ℕ → Type 0) where
    pub DiskAt-quiet : (first old new : D) (stage : Stage) → DiskAt tells reads leaves faults first stage old → tells new ≡ tells old → faults old ≤ faults new
        → (tells old ≡ true → Quiet reads leaves moment left_since old new) → DiskAt tells reads leaves faults first stage new
    DiskAt-quiet first old new stage at tells_are stays quiet = record {
      tells_same = tells_are ∙ at.tells_same;
      faults_stay = omega (arith, at.faults_stay);
      holds = λ told.
          let q = quiet (at.tells_same ∙ told) in
          holds_still stage (reads first) (reads old) (reads new) (leaves first) (leaves old) (leaves new) q.same q.follows (at.holds told);
    }

    module _ (reads_so : (disk : D) → tells disk ≡ true → leaves disk (reads disk)) where
      -- what the bytes of a disk stand for that was opened
      stood : (disk : D) (nv : Nv D) → tells nv.disk ≡ tells disk → (tells disk ≡ true → Quiet reads leaves moment left_since disk nv.disk)
          → (tells disk ≡ true → Each (leaves nv.disk) (StandsFor nv.sizes nv.notes)) → tells disk ≡ true → StandsFor nv.sizes nv.notes (reads disk)
      stood disk nv tells_are quiet notes told =
          subst (StandsFor nv.sizes nv.notes) ((quiet told).same) (notes told (reads nv.disk) (reads_so nv.disk (tells_are ∙ told)))

      opens_so : (first disk : D) (stage : Stage) (nv : Nv D) → is_open stage ≡ false → DiskAt tells reads leaves faults first stage disk → (tells disk ≡ true → StandsFor nv.sizes nv.notes (reads disk))
          → Opens (tells first ≡ true) (reads first) stage nv.sizes nv.notes
      opens_so first disk AsFound nv fresh at stands = λ told. subst (StandsFor nv.sizes nv.notes) ((at.holds told).0) (stands (at.tells_same ∙ told))
      opens_so first disk (Formatted z) nv fresh at stands = λ told.
          one_spool (reads disk) nv.sizes z nv.notes [] (stands (at.tells_same ∙ told)) (at.holds told (reads disk) (reads_so disk (at.tells_same ∙ told)))
      opens_so first disk (Open z held) nv fresh at stands = absurd cc

      -- a disk that is opened
      pub OpenedAt-fresh : (first disk : D) (stage : Stage) (nv : Nv D) → KeptAt tells reads leaves faults first stage (kept.Disk disk) → tells nv.disk ≡ tells disk → faults disk ≤ faults nv.disk → nv.is_closed ≡ false
          → (tells disk ≡ true → Quiet reads leaves moment left_since disk nv.disk) → (tells disk ≡ true → Each (leaves nv.disk) (StandsFor nv.sizes nv.notes))
          → OpenedAt tells reads leaves faults first stage nv
      OpenedAt-fresh first disk stage nv (fresh, at) tells_are stays opened quiet notes = record {
        opens = opens_so first disk stage nv fresh at (stood disk nv tells_are quiet notes);
        opened = opened;
        as_before = DiskAt-quiet first disk nv.disk stage at tells_are stays quiet;
        now = DiskAt-open first disk nv.disk stage nv.sizes nv.notes at tells_are stays notes;
      }

      unread_so : (first disk : D) (stage : Stage) (place : ℕ) → is_open stage ≡ false → DiskAt tells reads leaves faults first stage disk → (tells disk ≡ true → IsUnread (reads disk) place)
          → tells first ≡ true → IsUnread (reads first) place
      unread_so first disk AsFound place fresh at unread told = subst (λ (bytes : List ℕ). IsUnread bytes place) ((at.holds told).0) (unread (at.tells_same ∙ told))
      unread_so first disk (Formatted z) place fresh at unread told =
          absurd (unread_is_nothing (reads disk) place z [] (unread (at.tells_same ∙ told)) (at.holds told (reads disk) (reads_so disk (at.tells_same ∙ told))))
      unread_so first disk (Open z held) place fresh at unread told = absurd cc

      broken_still : (first new : D) (stage : Stage) (says : SpoolLine) → DiskAt tells reads leaves faults first stage new → Broken tells reads leaves faults first stage says new
      broken_still first new stage line.Skip at = inl at
      broken_still first new stage (line.Format capacity half) at = tt
      broken_still first new stage (line.Push overwrite note) at = inl at
      broken_still first new stage line.Take at = inl at
      broken_still first new stage line.List at = inl at

      -- a disk that is refused
      pub Refuses-fresh : (first disk new : D) (stage : Stage) (says : SpoolLine) (e : NvFault) → KeptAt tells reads leaves faults first stage (kept.Disk disk) → tells new ≡ tells disk → faults disk ≤ faults new
          → (tells disk ≡ true → Quiet reads leaves moment left_since disk new) → Told (Rose (faults disk) (faults new)) (λ place. tells disk ≡ true → IsUnread (reads disk) place) e
          → Refuses tells reads leaves faults first stage (Ok says) new (stop_of e)
      Refuses-fresh first disk new stage says fault.Disk (fresh, at) tells_are stays quiet rose =
          let still = DiskAt-quiet first disk new stage at tells_are stays quiet in
          (says, refl, Rose-wider (faults first) (faults disk) (faults new) (faults new) at.faults_stay stays rose (omega arith), broken_still first new stage says still)
      Refuses-fresh first disk new stage says fault.Closed (fresh, at) tells_are stays quiet never = absurd never
      Refuses-fresh first disk new stage says (fault.Unread place) (fresh, at) tells_are stays quiet unread =
          (says, refl, fresh, DiskAt-quiet first disk new stage at tells_are stays quiet, unread_so first disk stage place fresh at unread)
      Refuses-fresh first disk new stage says fault.NoMemory (fresh, at) tells_are stays quiet done = DiskAt-quiet first disk new stage at tells_are stays quiet

  -- ---- a change of a spool that is open

  -- it was made
  pub Changed : (first : D) (stage : Stage) (old new : Nv D) (notes : List Note) → OpenedAt tells reads leaves faults first stage old → new.sizes ≡ old.sizes → new.notes ≡ notes → new.is_closed ≡ false
      → tells new.disk ≡ tells old.disk → faults old.disk ≤ faults new.disk → (tells old.disk ≡ true → Each (leaves new.disk) (StandsFor new.sizes new.notes))
      → KeptAt tells reads leaves faults first (Open old.sizes notes) (kept.Spool new)
  Changed first stage old new notes opened sizes_are notes_are closed tells_are stays has = (
    ap (λ (z : Sizes). Open z notes) (sym sizes_are) ∙ ap (λ (ns : List Note). Open new.sizes ns) (sym notes_are),
    closed,
    DiskAt-open first old.disk new.disk stage old.sizes notes opened.as_before tells_are stays
        (λ told. subst (λ (z : Sizes). Each (leaves new.disk) (StandsFor z notes)) sizes_are (subst (λ (ns : List Note). Each (leaves new.disk) (StandsFor new.sizes ns)) notes_are (has told))),
  )

  module _ (moment : D → ℕ) (left_since : D → ℕ → List ℕ → Type 0) (counts_now : (disk : D) (t : ℕ) (image : List ℕ) → tells disk ≡ true → t ≤ moment disk → leaves disk image → left_since disk t image) where
    -- what a fault leaves in it
    broken_images : (old new : D) (s : Sizes) (before after : List Note) → tells new ≡ tells old → (tells old ≡ true → LeavesOnly moment left_since old new (BeforeOrAfter s before after)) → tells old ≡ true
        → Each (leaves new) (BeforeOrAfter s before after)
    broken_images old new s before after tells_are any told image left =
        let run = any told in
        run.each image (counts_now new (moment old) image (tells_are ∙ told) run.later left)

    -- it was not made, or it is open whether it was
    pub Change-refused : (first : D) (stage : Stage) (old new : Nv D) (says : SpoolLine) (e : NvFault) (held : Option (List ℕ)) → OpenedAt tells reads leaves faults first stage old
        → ((DiskAt tells reads leaves faults first stage new.disk
        ⊎ ((s : Sizes) × (notes : List Note) × Opens (tells first ≡ true) (reads first) stage s notes
        × (tells first ≡ true → Each (leaves new.disk) (BeforeOrAfter s notes (behind s.capacity says notes))))) → Broken tells reads leaves faults first stage says new.disk)
        → tells new.disk ≡ tells old.disk → faults old.disk ≤ faults new.disk
        → (tells old.disk ≡ true → LeavesOnly moment left_since old.disk new.disk (BeforeOrAfter old.sizes old.notes (behind old.sizes.capacity says old.notes)))
        → Told (Rose (faults old.disk) (faults new.disk)) (λ place. ⊥) e → (e ≡ fault.NoMemory → new ≡ old)
        → TakesLine tells reads leaves faults first stage (Ok says) (kept.Spool new) (Err (stop_of e)) held held
    Change-refused first stage old new says fault.Disk held opened broken tells_are stays any rose memory = (
      (
        says,
        refl,
        Rose-wider (faults first) (faults old.disk) (faults new.disk) (faults new.disk) opened.as_before.faults_stay stays rose (omega arith),
        broken (inr (old.sizes, old.notes, opened.opens, λ told. broken_images old.disk new.disk old.sizes old.notes (behind old.sizes.capacity says old.notes) tells_are any (opened.as_before.tells_same ∙ told))),
      ),
      refl,
    )
    Change-refused first stage old new says fault.Closed held opened broken tells_are stays any never memory = absurd never
    Change-refused first stage old new says (fault.Unread place) held opened broken tells_are stays any never memory = absurd never
    Change-refused first stage old new says fault.NoMemory held opened broken tells_are stays any done memory =
        (subst (λ (nv : Nv D). DiskAt tells reads leaves faults first stage nv.disk) (sym (memory refl)) opened.as_before, inl refl)

    -- a note came, or not
    pub Pushed-kept : {A : Type 0} (first : D) (stage : Stage) (old new : Nv D) (overwrite : Bool) (note : Note) (r : Result A NvFault) (held : Option (List ℕ)) → OpenedAt tells reads leaves faults first stage old
        → new.sizes ≡ old.sizes → OnOk r (new.notes ≡ behind old.sizes.capacity (line.Push overwrite note) old.notes) → OnOk r (new.is_closed ≡ false) → tells new.disk ≡ tells old.disk → faults old.disk ≤ faults new.disk
        → OnOk r (tells old.disk ≡ true → Each (leaves new.disk) (StandsFor new.sizes new.notes))
        → (tells old.disk ≡ true → LeavesOnly moment left_since old.disk new.disk (BeforeOrAfter old.sizes old.notes (behind old.sizes.capacity (line.Push overwrite note) old.notes)))
        → IfErr r (Told (Rose (faults old.disk) (faults new.disk)) (λ place. ⊥)) → (r ≡ Err fault.NoMemory → new ≡ old)
        → TakesLine tells reads leaves faults first stage (Ok (line.Push overwrite note)) (kept.Spool new) (stopped r) held held
    Pushed-kept first stage old new overwrite note (Ok x) held opened sizes_are notes_are closed tells_are stays has any told memory = (
      line.Push overwrite note,
      [],
      Open old.sizes (behind old.sizes.capacity (line.Push overwrite note) old.notes),
      refl,
      record { sizes = old.sizes; notes = old.notes; opens = opened.opens; prints_so = refl; next_is = refl },
      Changed first stage old new (behind old.sizes.capacity (line.Push overwrite note) old.notes) opened sizes_are notes_are closed tells_are stays has,
      Written-nothing held,
    )
    Pushed-kept first stage old new overwrite note (Err e) held opened sizes_are notes_are closed tells_are stays has any told memory =
        Change-refused first stage old new (line.Push overwrite note) e held opened (λ x. x) tells_are stays any told (λ same. memory (err_of same))

    -- no note was taken
    pub Taken-refused : {A : Type 0} (first : D) (stage : Stage) (old new : Nv D) (r : Result A NvFault) (why : Stop) (held : Option (List ℕ)) → stopped r ≡ failing why → OpenedAt tells reads leaves faults first stage old
        → tells new.disk ≡ tells old.disk → faults old.disk ≤ faults new.disk
        → (tells old.disk ≡ true → LeavesOnly moment left_since old.disk new.disk (BeforeOrAfter old.sizes old.notes (behind old.sizes.capacity line.Take old.notes)))
        → IfErr r (Told (Rose (faults old.disk) (faults new.disk)) (λ place. ⊥)) → (r ≡ Err fault.NoMemory → ⊥)
        → TakesLine tells reads leaves faults first stage (Ok line.Take) (kept.Spool new) (Err why) held held
    Taken-refused first stage old new (Ok x) why held same opened tells_are stays any told memory = absurd cc
    Taken-refused first stage old new (Err e) why held same opened tells_are stays any told memory =
        let is : stop_of e ≡ why = cc in
        subst (λ (w : Stop). TakesLine tells reads leaves faults first stage (Ok line.Take) (kept.Spool new) (Err w) held held) is
        (Change-refused first stage old new line.Take e held opened (λ x. x) tells_are stays any told (λ none. absurd (memory (err_of none))))

  -- a note was taken
  pub Taken-kept : {A : Type 0} (first : D) (stage : Stage) (old new : Nv D) (r : Result A NvFault) → stopped r ≡ Ok tt → OpenedAt tells reads leaves faults first stage old
      → new.sizes ≡ old.sizes → OnOk r (new.notes ≡ behind old.sizes.capacity line.Take old.notes) → OnOk r (new.is_closed ≡ false) → tells new.disk ≡ tells old.disk → faults old.disk ≤ faults new.disk
      → OnOk r (tells old.disk ≡ true → Each (leaves new.disk) (StandsFor new.sizes new.notes)) → KeptAt tells reads leaves faults first (Open old.sizes (behind old.sizes.capacity line.Take old.notes)) (kept.Spool new)
  Taken-kept first stage old new (Ok x) same opened sizes_are notes_are closed tells_are stays has =
      Changed first stage old new (behind old.sizes.capacity line.Take old.notes) opened sizes_are notes_are closed tells_are stays has
  Taken-kept first stage old new (Err e) same opened sizes_are notes_are closed tells_are stays has = absurd cc

  -- and its line was written, or a front of it
  pub Taken-written : (first : D) (stage : Stage) (old new : Nv D) (w : Result (Unit {0}) Stop) (held held' : Option (List ℕ)) → OpenedAt tells reads leaves faults first stage old
      → KeptAt tells reads leaves faults first (Open old.sizes (behind old.sizes.capacity line.Take old.notes)) (kept.Spool new)
      → OnOk w (Written held held' (taken_line (slice_get old.notes 0))) → OnErr w (WrittenFront held held' (taken_line (slice_get old.notes 0))) → IfErr w (λ why. why ≡ stop.Write)
      → TakesLine tells reads leaves faults first stage (Ok line.Take) (kept.Spool new) w held held'
  Taken-written first stage old new (Ok done) held held' opened at written front why =
      (line.Take, taken_line (slice_get old.notes 0), Open old.sizes (behind old.sizes.capacity line.Take old.notes), refl, record { sizes = old.sizes; notes = old.notes; opens = opened.opens; prints_so = refl; next_is = refl }, at, written)
  Taken-written first stage old new (Err stop.Write) held held' opened at written front why =
      (line.Take, taken_line (slice_get old.notes 0), Open old.sizes (behind old.sizes.capacity line.Take old.notes), refl, record { sizes = old.sizes; notes = old.notes; opens = opened.opens; prints_so = refl; next_is = refl }, at.2, front)
  Taken-written first stage old new (Err stop.NoMemory) held held' opened at written front why = absurd cc
  Taken-written first stage old new (Err (stop.Line place)) held held' opened at written front why = absurd cc
  Taken-written first stage old new (Err stop.Disk) held held' opened at written front why = absurd cc
  Taken-written first stage old new (Err (stop.Unread place)) held held' opened at written front why = absurd cc

  -- the spool was not opened
  pub Refused-kept : (first : D) (stage : Stage) (says : SpoolLine) (disk : D) (why : Stop) (held : Option (List ℕ)) → Refuses tells reads leaves faults first stage (Ok says) disk why
      → TakesLine tells reads leaves faults first stage (Ok says) (kept.Disk disk) (Err why) held held
  Refused-kept first stage says disk stop.Write held refused = absurd refused
  Refused-kept first stage says disk stop.NoMemory held refused = (refused, inl refl)
  Refused-kept first stage says disk (stop.Line place) held refused = (refused, refl)
  Refused-kept first stage says disk stop.Disk held refused = (refused, refl)
  Refused-kept first stage says disk (stop.Unread place) held refused = (refused, refl)

  -- the notes were listed
  pub Listed-kept : (first : D) (stage : Stage) (nv : Nv D) (result : Result (Unit {0}) Stop) (held held' : Option (List ℕ)) → OpenedAt tells reads leaves faults first stage nv
      → OnOk result (Written held held' (listed nv.notes)) → OnErr result (WrittenFront held held' (listed nv.notes)) → IfErr result (λ why. (why ≡ stop.Write) ⊎ (why ≡ stop.NoMemory))
      → TakesLine tells reads leaves faults first stage (Ok line.List) (kept.Spool nv) result held held'
  Listed-kept first stage nv (Ok done) held held' opened written front why =
      (line.List, listed nv.notes, Open nv.sizes nv.notes, refl, record { sizes = nv.sizes; notes = nv.notes; opens = opened.opens; prints_so = refl; next_is = refl }, (refl, opened.opened, opened.now), written)
  Listed-kept first stage nv (Err stop.Write) held held' opened written front why =
      (line.List, listed nv.notes, Open nv.sizes nv.notes, refl, record { sizes = nv.sizes; notes = nv.notes; opens = opened.opens; prints_so = refl; next_is = refl }, opened.now, front)
  Listed-kept first stage nv (Err stop.NoMemory) held held' opened written front why =
      (opened.as_before, inr (line.List, listed nv.notes, Open nv.sizes nv.notes, refl, record { sizes = nv.sizes; notes = nv.notes; opens = opened.opens; prints_so = refl; next_is = refl }, front))
  Listed-kept first stage nv (Err (stop.Line place)) held held' opened written front (inl is) = absurd cc
  Listed-kept first stage nv (Err (stop.Line place)) held held' opened written front (inr is) = absurd cc
  Listed-kept first stage nv (Err stop.Disk) held held' opened written front (inl is) = absurd cc
  Listed-kept first stage nv (Err stop.Disk) held held' opened written front (inr is) = absurd cc
  Listed-kept first stage nv (Err (stop.Unread place)) held held' opened written front (inl is) = absurd cc
  Listed-kept first stage nv (Err (stop.Unread place)) held held' opened written front (inr is) = absurd cc
