-- The digits of a moment are a text.
use Rattle.std.proofs.Common.{◌≡◌, ℕ, ◌≤◌, ◌<◌, Bool, true, false, ◌&&◌, ◌==◌, List, length, Some, None, sym, ◌∙◌, arith, refl, if◌then◌else◌, get_or}
use Rattle.std.proofs.lemmas.Bool.Decides.{nat_tests}
use Rattle.std.proofs.lemmas.List.Folds.{list_all_at}
use Rattle.std.specs.List.{list_all}
use Rattle.gem_ids.specs.Texts.{IsText, IsPrintable}
use Rattle.gem_ids.specs.Moments.{last_moment}
use Rattle.civil_time.specs.Civil.{time_digits, is_digit, civil_in, is_civil, moment_at}
use Rattle.civil_time.proofs.MomentTexts.{say_it}
use Rattle.gem_model.specs.State.{State, clock_now}

all_digits : (a b v : Bool) (z moment : ℕ) → (if (a && b && v) then Some z else None) ≡ Some moment → b ≡ true
all_digits true true v z moment e = refl
all_digits true false v z moment e = absurd (cc)
all_digits false b v z moment e = absurd (cc)

printable : (byte : ℕ) (digit : Bool) → is_digit byte ≡ digit → digit ≡ true → IsPrintable byte
printable byte true is e =
    let low : 48 ≤ byte = grind (arith, nat_tests) in
    let high : byte ≤ 57 = grind (arith, nat_tests) in
    (omega (arith, low), omega (arith, high))
printable byte false is e = absurd (cc)

each : (text : List ℕ) (k d : ℕ) → k < length text → list_all is_digit text ≡ true → (digit : Bool) → is_digit (get_or text k d) ≡ digit → digit ≡ true
each text k d less all true is = refl
each text k d less all false is = absurd (let e : true ≡ false = sym all ∙ list_all_at is_digit text k d less is in cc e)

pub digits_text : (moment : ℕ) → moment ≤ last_moment → IsText (time_digits moment)
digits_text moment h =
    let text = time_digits moment in
    let c = civil_in text in
    let all = all_digits (length text == 16) (list_all is_digit text) (is_civil c) (moment_at c) moment (say_it moment h) in
    (omega arith, λ k d less. printable (get_or text k d) (is_digit (get_or text k d)) refl (each text k d less all (is_digit (get_or text k d)) refl))

pub clock_text : (g : State) → IsText (time_digits (clock_now g))
clock_text g = digits_text (clock_now g) (omega arith)
