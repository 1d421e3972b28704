-- The values of variables are small, and so are the texts of notes.
use Rattle.std.proofs.Common.{◌≡◌, ℕ, zero, suc, ◌≤◌, ◌==◌, nat_le, Bool, true, false, if◌then◌else◌, List, [], ◌∷◌, length, slice_get, Option, Some, None, IfSome, option_map, unwrap_or, refl, subst, arith}
use Rattle.std.proofs.lemmas.Bool.Decides.{nat_tests}
use Rattle.gem_ids.specs.Texts.{IsText}
use Rattle.civil_time.specs.Civil.{time_digits}
use Rattle.gem_ids.specs.declared.numbers.LocId.TheVariants as loc
use Rattle.item_model.specs.Data.{Data, ascii, u1, u2, u4}
use Rattle.item_model.specs.Weight.{IsBounded}
use Rattle.item_model.proofs.Weights.{bounded-text}
use Rattle.data_variables.specs.declared.val.Val.{Val}
use Rattle.data_variables.specs.declared.val.Val.TheVariants.{Number, Truth}
use Rattle.data_variables.specs.Bodies.{value_item}
use Rattle.data_variables.specs.Values as constants
use Rattle.event_reports.specs.Values.{AreSmallValues}
use Rattle.event_reports.specs.Limits.{most_alarms}
use Rattle.spool.specs.Spool.{load_number, unload_number}
use Rattle.event_reports.specs.declared.alarms.AlarmLine.{AlarmLine}
use Rattle.event_reports.specs.Alarms.{set_alids}
use Rattle.gem_states.specs.Communication.{comm_number}
use Rattle.gem_states.specs.Control.{control_number}
use Rattle.gem_model.specs.State.{State, clock_now}
use Rattle.plant_values.proofs.MomentTexts.{clock_text}
use Rattle.gem_rows.specs.Variables.{status_variable}
use Rattle.gem_rows.specs.declared.variables.StatusVariable.{StatusVariable}
use Rattle.gem_rows.specs.declared.variables.StatusVariable.TheVariants as status
use Rattle.gem_model.specs.Values.{Occasion, no_firing, port_value, substrate_text, place_value, variable_value, value_by, event_value, status_value, constant_value, or_else, value_of}
use Rattle.load_port.specs.declared.port.Port.{Port}
use Rattle.load_port.specs.Tables.{transfer_number, access_number}
use Rattle.substrate.specs.Locations.{is_location}
use Rattle.records.proofs.Truth.{and_true}
use Rattle.plant_values.specs.Named.{AreNamed}

-- a value within the bounds of a variable
abbrev Small : Data → Type 0
Small d = IsBounded 1 84 d

set_few : (alarms : List AlarmLine) → length (set_alids alarms) ≤ length alarms
set_few [] = omega arith
set_few (a ∷ alarms) = by_test a.is_set refl (set_few alarms)
  where
    by_test : (b : Bool) → a.is_set ≡ b → length (set_alids alarms) ≤ length alarms → length (set_alids (a ∷ alarms)) ≤ length (a ∷ alarms)
    by_test true is rest = rw is (omega (arith, rest))
    by_test false is rest = rw is (omega (arith, rest))

text_small : (text : List ℕ) → IsText text → Small (ascii text)
text_small text is = let b = bounded-text text is in record { depth = omega (arith, b.depth); size = b.size; bodies = b.bodies }

alarms_small : (alarms : List AlarmLine) → length alarms ≤ most_alarms → Small (u4 (set_alids alarms))
alarms_small alarms few = let less = set_few alarms in record { depth = omega arith; size = omega arith; bodies = omega arith }

number_small : (n : ℕ) → Small (u1 (n ∷ []))
number_small n = record { depth = omega arith; size = omega arith; bodies = omega arith }

count_small : (n : ℕ) → Small (u4 (n ∷ []))
count_small n = record { depth = omega arith; size = omega arith; bodies = omega arith }

row_small : (n : ℕ) → Small (u2 (n ∷ []))
row_small n = record { depth = omega arith; size = omega arith; bodies = omega arith }

constant_small : (v : Val) → Small (value_item v)
constant_small (Number n) = record { depth = omega arith; size = omega arith; bodies = omega arith }
constant_small (Truth t) = record { depth = omega arith; size = omega arith; bodies = omega arith }

-- what a port shows
port_small : (g : State) (number : ℕ) (value : Port → Data) → ((place : ℕ) (p : Port) → slice_get g.floor.shop.ports place ≡ Some p → Small (value p)) → IfSome (port_value g number value) Small
port_small g zero value each = tt
port_small g (suc place) value each = by_port (slice_get g.floor.shop.ports place) refl
  where
    by_port : (o : Option Port) → slice_get g.floor.shop.ports place ≡ o → IfSome (option_map value o) Small
    by_port None is = tt
    by_port (Some p) is = each place p is

-- what a chamber shows
chamber_small : (g : State) → AreNamed g → (number : ℕ) → IfSome (place_value g (loc.Chamber number)) Small
chamber_small g named zero = tt
chamber_small g named (suc place) = by_test (is_location g.config.ports g.config.chambers (loc.Chamber (suc place))) refl
  where
    text : List ℕ
    text = substrate_text g (loc.Chamber (suc place))

    below : is_location g.config.ports g.config.chambers (loc.Chamber (suc place)) ≡ true → suc place ≤ g.config.chambers
    below is = let within = (and_true (nat_le 1 (suc place)) (nat_le (suc place) g.config.chambers) is).1 in grind (arith, nat_tests)

    by_test : (b : Bool) → is_location g.config.ports g.config.chambers (loc.Chamber (suc place)) ≡ b → IfSome (if b then Some (ascii text) else None) Small
    by_test false is = tt
    by_test true is = text_small text (subst (λ (n : ℕ). IsText (substrate_text g (loc.Chamber n))) (omega arith) (named.chambers place (below is)))

-- each variable has a small value, or none
variable_small : (g : State) → length g.alarms ≤ most_alarms → AreNamed g → (variable : StatusVariable) → IfSome (variable_value g variable) Small
variable_small g few named status.Clock = text_small (time_digits (clock_now g)) (clock_text g)
variable_small g few named status.CommState = number_small (comm_number g.comm)
variable_small g few named status.ControlState = number_small (control_number g.control)
variable_small g few named status.SpoolCountActual = count_small (length g.line.spool.notes)
variable_small g few named status.SpoolCountTotal = count_small g.line.spool.total
variable_small g few named status.SpoolLoad = number_small (load_number g.line.spool.load)
variable_small g few named status.SpoolUnload = number_small (unload_number g.line.spool.unload)
variable_small g few named status.AlarmsSet = alarms_small g.alarms few
variable_small g few named (status.PortTransfer n) = port_small g n (λ p. u1 (transfer_number p.states.transfer ∷ [])) (λ i p there. number_small (transfer_number p.states.transfer))
variable_small g few named (status.PortAccess n) = port_small g n (λ p. u1 (access_number p.states.access ∷ [])) (λ i p there. number_small (access_number p.states.access))
variable_small g few named (status.PortCarrier n) = port_small g n (λ p. ascii (unwrap_or p.carrier [])) (λ i p there. text_small (unwrap_or p.carrier []) (named.carriers i p there))
variable_small g few named status.ProcessJobCount = row_small (length g.floor.jobs.process.kept)
variable_small g few named status.ControlJobCount = row_small (length g.floor.jobs.control.jobs)
variable_small g few named status.ArmSubstrate = text_small (substrate_text g loc.Arm) named.arm
variable_small g few named status.AlignerSubstrate = text_small (substrate_text g loc.Aligner) named.aligner
variable_small g few named (status.ChamberSubstrate n) = chamber_small g named n

-- a value that is there is small
small_there : (o : Option Data) (d : Data) → IfSome o Small → o ≡ Some d → Small d
small_there None d small here = absurd (cc)
small_there (Some e) d small here = let same : e ≡ d = cc in subst (λ (x : Data). Small x) same small

event_small : (o : Occasion) (vid : ℕ) → IsText o.object → IfSome (event_value o vid) Small
event_small o vid is = by_test (vid == 100) (vid == 101)
  where
    by_test : (object row : Bool) → IfSome (if object then Some (ascii o.object) else (if row then Some (u2 (o.row ∷ [])) else None)) Small
    by_test true row = text_small o.object is
    by_test false true = row_small o.row
    by_test false false = tt

pub constants_small : (g : State) → AreSmallValues (constant_value g)
constants_small g vid d is = by_value (constants.value_of vid g.constants) is
  where
    by_value : (o : Option Val) → option_map value_item o ≡ Some d → Small d
    by_value None here = absurd (cc)
    by_value (Some v) here = let same : value_item v ≡ d = cc in subst (λ (e : Data). Small e) same (constant_small v)

either_small : (x y : Option Data) (d : Data) → (x ≡ Some d → Small d) → (y ≡ Some d → Small d) → or_else x y ≡ Some d → Small d
either_small None y d first next is = next is
either_small (Some e) y d first next is = first is

pub status_small : (g : State) → length g.alarms ≤ most_alarms → AreNamed g → AreSmallValues (status_value g)
status_small g few named vid d is = by_variable (status_variable vid) is
  where
    by_variable : (o : Option StatusVariable) → value_by g o ≡ Some d → Small d
    by_variable None here = absurd (cc)
    by_variable (Some variable) here = small_there (variable_value g variable) d (variable_small g few named variable) here

-- each variable has a small value
pub all_small : (o : Occasion) (g : State) → IsText o.object → length g.alarms ≤ most_alarms → AreNamed g → AreSmallValues (value_of o g)
all_small o g object few named vid d is =
    either_small (status_value g vid) (or_else (event_value o vid) (constant_value g vid)) d
    (status_small g few named vid d)
    (either_small (event_value o vid) (constant_value g vid) d
    (small_there (event_value o vid) d (event_small o vid object))
    (constants_small g vid d))
    is

-- outside a firing
pub quiet_small : (g : State) → IsText [] → length g.alarms ≤ most_alarms → AreNamed g → AreSmallValues (value_of no_firing g)
quiet_small g none alarms named = all_small no_firing g none alarms named
