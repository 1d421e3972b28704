-- The faulty parameters, one after another, and what is decided of a command to a process job.
use Rattle.std.proofs.Common.{◌≡◌, ℕ, zero, suc, ◌+◌, ◌<◌, ◌≤◌, ◌==◌, ◌||◌, Bool, true, false, if◌then◌else◌, List, [], ◌∷◌, ◌++◌, length, take, drop, get_or, Result, Ok, Err, refl, sym, ◌∙◌, ap, arith, add-one, drop-cons, append_assoc}
use Rattle.std.specs.Prelude.{codes}
use Rattle.std.proofs.lemmas.List.Folds.{list_any_more}
use Rattle.std.proofs.lemmas.Slice.Eq.{bytes_eq-Decides}
use Rattle.tool_tasks.specs.declared.words.JobWord.{JobWord}
use Rattle.event_reports.specs.declared.alarms.AlarmLine.{AlarmLine}
use Rattle.message_model.specs.declared.gem_reply.ParameterAcknowledge.{ParameterAcknowledge}
use Rattle.request_model.specs.declared.error.JobError.TheVariants.{UnknownObject, UnknownCommand, NotNow as error_NotNow}
use Rattle.request_model.specs.Errors.{of_answer}
use Rattle.gem_model.specs.Remote.{RemoteCommand, GoLocal, ClearAlarm, ToJob, Parameter, takes, was_given, cpack, faulty, refused, NoObject, NotNow, answered_so}
use Rattle.host_messages.specs.Remotes.{was_taken, hcack_of, decided_so}

take_more : {A : Type 0} (xs : List A) (i : ℕ) (x : A) → i < length xs → take (suc i) xs ≡ take i xs ++ get_or xs i x ∷ []
take_more [] i x within = absurd (omega arith)
take_more (y ∷ xs) zero x within = refl
take_more (y ∷ xs) (suc i) x within = ap (λ ys. y ∷ ys) (take_more xs i x (omega arith))

-- the parameter at a place, and those behind it
at_place : (command : RemoteCommand) (alarms : List AlarmLine) (ps : List Parameter) (i : ℕ) (p : Parameter) → i < length ps →
    faulty command alarms (take i ps) (drop i ps)
    ≡ (if cpack command alarms (take i ps) (get_or ps i p) == 0 then faulty command alarms (take (i + 1) ps) (drop (i + 1) ps)
    else record { name = (get_or ps i p).0; cpack = cpack command alarms (take i ps) (get_or ps i p) } ∷ faulty command alarms (take (i + 1) ps) (drop (i + 1) ps))
at_place command alarms ps i p within =
    ap (faulty command alarms (take i ps)) (drop-cons ps i p within)
    ∙ rw add-one (ap (λ (earlier : List Parameter). if cpack command alarms (take i ps) (get_or ps i p) == 0 then faulty command alarms earlier (drop (suc i) ps)
    else record { name = (get_or ps i p).0; cpack = cpack command alarms (take i ps) (get_or ps i p) } ∷ faulty command alarms earlier (drop (suc i) ps)) (sym (take_more ps i p within)))

-- one that is not faulty
pub sound_more : (command : RemoteCommand) (alarms : List AlarmLine) (ps : List Parameter) (i : ℕ) (p : Parameter) (all found : List ParameterAcknowledge) → i < length ps →
    (cpack command alarms (take i ps) (get_or ps i p) == 0) ≡ true → all ≡ found ++ faulty command alarms (take i ps) (drop i ps) →
    all ≡ found ++ faulty command alarms (take (i + 1) ps) (drop (i + 1) ps)
sound_more command alarms ps i p all found within is before =
    before ∙ ap (λ fs. found ++ fs) (at_place command alarms ps i p within
    ∙ ap (λ (b : Bool). if b then faulty command alarms (take (i + 1) ps) (drop (i + 1) ps)
    else record { name = (get_or ps i p).0; cpack = cpack command alarms (take i ps) (get_or ps i p) } ∷ faulty command alarms (take (i + 1) ps) (drop (i + 1) ps)) is)

-- one that is
pub faulty_more : (command : RemoteCommand) (alarms : List AlarmLine) (ps : List Parameter) (i : ℕ) (p : Parameter) (all found : List ParameterAcknowledge) → i < length ps →
    (cpack command alarms (take i ps) (get_or ps i p) == 0) ≡ false → all ≡ found ++ faulty command alarms (take i ps) (drop i ps) →
    all ≡ (found ++ record { name = (get_or ps i p).0; cpack = cpack command alarms (take i ps) (get_or ps i p) } ∷ []) ++ faulty command alarms (take (i + 1) ps) (drop (i + 1) ps)
faulty_more command alarms ps i p all found within is before =
    before ∙ ap (λ fs. found ++ fs) (at_place command alarms ps i p within
    ∙ ap (λ (b : Bool). if b then faulty command alarms (take (i + 1) ps) (drop (i + 1) ps)
    else record { name = (get_or ps i p).0; cpack = cpack command alarms (take i ps) (get_or ps i p) } ∷ faulty command alarms (take (i + 1) ps) (drop (i + 1) ps)) is)
    ∙ sym (append_assoc found (record { name = (get_or ps i p).0; cpack = cpack command alarms (take i ps) (get_or ps i p) } ∷ []) (faulty command alarms (take (i + 1) ps) (drop (i + 1) ps)))

-- ---- what was given before

-- a command takes parameters of one name at most
pub given_as_taken : (command : RemoteCommand) (name : List ℕ) (earlier : List Parameter) → takes command name ≡ true → was_given earlier name ≡ was_taken command earlier
given_as_taken GoLocal name earlier is = absurd (cc)
given_as_taken ClearAlarm name earlier is = ap (was_given earlier) ((bytes_eq-Decides name (codes "ALID")).0 is)
given_as_taken (ToJob word) name earlier is = ap (was_given earlier) ((bytes_eq-Decides name (codes "PRJOBID")).0 is)

-- with the parameter at a place
pub taken_more : (command : RemoteCommand) (ps : List Parameter) (i : ℕ) (p : Parameter) → i < length ps → was_taken command (take (i + 1) ps) ≡ (was_taken command (take i ps) || takes command (get_or ps i p).0)
taken_more command ps i p within = list_any_more (λ q. takes command q.0) ps i p within

-- ---- how many there are

either_few : (b : Bool) (fs : List ParameterAcknowledge) (f : ParameterAcknowledge) (n : ℕ) → length fs ≤ n → length (if b then fs else f ∷ fs) ≤ suc n
either_few true fs f n few = omega (arith, few)
either_few false fs f n few = omega (arith, few)

-- no more are faulty than were given
pub few_faults : (command : RemoteCommand) (alarms : List AlarmLine) (earlier ps : List Parameter) → length (faulty command alarms earlier ps) ≤ length ps
few_faults command alarms earlier [] = omega arith
few_faults command alarms earlier (p ∷ ps) =
    either_few (cpack command alarms earlier p == 0) (faulty command alarms (earlier ++ p ∷ []) ps) (record { name = p.0; cpack = cpack command alarms earlier p }) (length ps) (few_faults command alarms (earlier ++ p ∷ []) ps)

-- ---- a command to a process job

-- it is decided by its answer
pub answered_by_error : (job : List ℕ) (word : JobWord) (answer : Result ℕ ℕ) → decided_so job word (of_answer answer) ≡ answered_so job word answer
answered_by_error job word (Ok row) = refl
answered_by_error job word (Err code) = by_code (code == 1) (code == 7)
  where
    by_code : (first second : Bool) → refused (hcack_of (if first then UnknownObject else (if second then UnknownCommand else error_NotNow))) [] ≡ refused (if first then NoObject else NotNow) []
    by_code true second = refl
    by_code false true = refl
    by_code false false = refl
