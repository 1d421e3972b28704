-- Bounds of what the host of a batch asks.
use Rattle.std.proofs.Common.{◌≡◌, ◌<◌, ◌≤◌, ◌+◌, ◌-◌, ◌/◌, ◌%◌, ◌^◌, ◌&&◌, ℕ, nat_le, true, List, [], ◌∷◌, ◌++◌, length, refl, arith, length-append}
use Rattle.std.specs.Prelude.{codes}
use Rattle.std.specs.List.{All, list_all}
use Rattle.std.proofs.lemmas.Bool.Decides.{nat_tests}
use Rattle.std.proofs.lemmas.List.Elements.{All-nil, All-cons, All-append}
use Rattle.gem_ids.specs.Names.{two_digits}
use Rattle.gem_ids.specs.Texts.{IsPrintable, IsText}
use Rattle.item_model.specs.Data.{Data}
use Rattle.item_model.specs.Sendable.{IsSendable}
use Rattle.item_model.specs.Weight.{IsBounded}
use Rattle.item_model.proofs.Weights.{bounded-sendable, bounded-text}
use Rattle.sim_modules.specs.Lot.{carrier_name, control_job_asked, control_job_name, lot_number, proceed_asked, process_job_asked, process_job_name}

-- bytes that print, one by one
all_print : (bytes : List ℕ) → list_all (λ b. nat_le 32 b && nat_le b 126) bytes ≡ true → All IsPrintable bytes
all_print [] p = All-nil IsPrintable
all_print (b ∷ bytes) p =
    let here : IsPrintable b = (grind (arith, nat_tests), grind (arith, nat_tests)) in
    let rest : list_all (λ c. nat_le 32 c && nat_le c 126) bytes ≡ true = grind (arith, nat_tests) in
    All-cons IsPrintable b bytes here (all_print bytes rest)

digits_print : (n : ℕ) → n ≤ 16 → All IsPrintable (two_digits n)
digits_print n few =
    let tens : IsPrintable (48 + n / 10) = (omega arith, omega arith) in
    let ones : IsPrintable (48 + n % 10) = (omega arith, omega arith) in
    All-cons IsPrintable (48 + n / 10) ((48 + n % 10) ∷ []) tens (All-cons IsPrintable (48 + n % 10) [] ones (All-nil IsPrintable))

-- a word that prints and the two digits of a carrier are a text
named : (word : List ℕ) (k : ℕ) → length word ≤ 30 → list_all (λ b. nat_le 32 b && nat_le b 126) word ≡ true → IsText (word ++ two_digits (lot_number k))
named word k short p =
    let few : (k - 1) % 16 < 16 = omega arith in
    let size = length-append word (two_digits (lot_number k)) in
    (omega arith, All-append IsPrintable word (two_digits (lot_number k)) (all_print word p) (digits_print (lot_number k) (omega arith)))

-- an item within the bounds of a frame can be sent
pub can_be_sent : (d : Data) → IsBounded 5 (2 ^ 31) d → IsSendable d
can_be_sent d is = bounded-sendable 5 (2 ^ 31) d (omega arith) is

proceed_of : (carrier : List ℕ) (port : ℕ) → IsText carrier → IsBounded 5 (2 ^ 31) (proceed_asked carrier port)
proceed_of carrier port is =
    let word = bounded-text (codes "ProceedWithCarrier") (omega arith, all_print (codes "ProceedWithCarrier") refl) in
    let name = bounded-text carrier is in
    record {
      depth = omega arith;
      size = omega (arith, name.size);
      bodies = (omega arith, (omega arith, (word.bodies, (name.bodies, (omega arith, ((omega arith, tt), tt))))));
    }

pub proceed_bounded : (k port : ℕ) → IsBounded 5 (2 ^ 31) (proceed_asked (carrier_name k) port)
proceed_bounded k port = proceed_of (carrier_name k) port (named (codes "LOT") k (omega arith) refl)

process_job_of : (job carrier recipe : List ℕ) → IsText job → IsText carrier → IsText recipe → IsBounded 5 (2 ^ 31) (process_job_asked job carrier recipe)
process_job_of job carrier recipe is_job is_carrier is_recipe =
    let job_name = bounded-text job is_job in
    let carrier_name = bounded-text carrier is_carrier in
    let recipe_name = bounded-text recipe is_recipe in
    let job_short = job_name.size in
    let carrier_short = carrier_name.size in
    let recipe_short = recipe_name.size in
    record {
      depth = omega arith;
      size = omega arith;
      bodies = (omega arith, (omega arith, (job_name.bodies, (omega arith, ((omega arith, ((omega arith, (carrier_name.bodies, ((omega arith, tt), tt))), tt)), ((omega arith, (omega arith, (recipe_name.bodies, ((omega arith, tt), tt)))), (omega arith, ((omega arith, tt), tt))))))));
    }

pub process_job_bounded : (k : ℕ) (recipe : List ℕ) → IsText recipe → IsBounded 5 (2 ^ 31) (process_job_asked (process_job_name k) (carrier_name k) recipe)
process_job_bounded k recipe is =
    process_job_of (process_job_name k) (carrier_name k) recipe (named (codes "PJ") k (omega arith) refl) (named (codes "LOT") k (omega arith) refl) is

control_job_of : (control job : List ℕ) → IsText control → IsText job → IsBounded 5 (2 ^ 31) (control_job_asked control job)
control_job_of control job is_control is_job =
    let control_name = bounded-text control is_control in
    let job_name = bounded-text job is_job in
    let control_short = control_name.size in
    let job_short = job_name.size in
    let none = bounded-text [] (omega arith, All-nil IsPrintable) in
    let object = bounded-text (codes "ControlJob") (omega arith, all_print (codes "ControlJob") refl) in
    let id = bounded-text (codes "ObjID") (omega arith, all_print (codes "ObjID") refl) in
    let jobs = bounded-text (codes "ProcessingCtrlSpec") (omega arith, all_print (codes "ProcessingCtrlSpec") refl) in
    let start = bounded-text (codes "StartMethod") (omega arith, all_print (codes "StartMethod") refl) in
    record {
      depth = omega arith;
      size = omega arith;
      bodies = (omega arith, (none.bodies, (object.bodies, ((omega arith, ((omega arith, (id.bodies, (control_name.bodies, tt))), ((omega arith, (jobs.bodies, ((omega arith, (job_name.bodies, tt)), tt))), ((omega arith, (start.bodies, (omega arith, tt))), tt)))), tt))));
    }

pub control_job_bounded : (k : ℕ) → IsBounded 5 (2 ^ 31) (control_job_asked (control_job_name k) (process_job_name k))
control_job_bounded k =
    control_job_of (control_job_name k) (process_job_name k) (named (codes "CJ") k (omega arith) refl) (named (codes "PJ") k (omega arith) refl)
