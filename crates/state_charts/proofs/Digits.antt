-- The names of arrows can stand between quotes.
use Rattle.std.proofs.Common.{◌≡◌, ℕ, ◌+◌, ◌%◌, ◌<◌, ◌^◌, ◌==◌, true, false, List, [], ◌∷◌, ◌++◌, refl, ◌∙◌, sym, subst, arith, Result, Ok, Err, is_ok, OnOk}
use Rattle.std.specs.Prelude.{if◌then◌else◌}
use Rattle.std.specs.declared.alloc.AllocError.{AllocError}
use Rattle.std.specs.Fmt.{decimal}
use Rattle.std.proofs.lemmas.Bool.{and_from}
use Rattle.std.proofs.lemmas.Bool.Decides.{nat_tests}
use Rattle.std.proofs.lemmas.Fmt.{decimal_by_steps}
use Rattle.std.proofs.lemmas.List.Folds.{list_all-append}
use Rattle.picture_svg.specs.Arrows.{is_name}

-- two names, one behind the other
pub append_named : (a b : List ℕ) → is_name a ≡ true → is_name b ≡ true → is_name (a ++ b) ≡ true
append_named a b p q = list_all-append _ a b ∙ and_from _ _ p q

-- a digit
digit_named : (d : ℕ) → d < 10 → is_name ((48 + d) ∷ []) ≡ true
digit_named d small =
    let no_quote : ((48 + d) == 34) ≡ false = grind (arith, nat_tests) in
    let no_tag : ((48 + d) == 60) ≡ false = grind (arith, nat_tests) in
    rw (no_quote, no_tag) refl

-- a number
decimal_named : (n : ℕ) → n < 2 ^ 64 → is_name (decimal n) ≡ true
decimal_named = decimal_by_steps (λ n digits. is_name digits ≡ true) digit_named
    (λ n digits large front. append_named digits _ front (digit_named (n % 10) (omega arith)))

-- a name behind which a number is written, where there is room
pub number_named : (room : Result (Unit {0}) AllocError) (old new digits : List ℕ) (n : ℕ) → n < 2 ^ 64 → digits ≡ decimal n → new ≡ (if is_ok room then old ++ digits else old) →
    OnOk room (is_name old ≡ true → is_name new ≡ true)
number_named (Ok done) old new digits n small d e = λ named. subst (λ l. is_name l ≡ true) (sym e) (append_named old digits named (subst (λ l. is_name l ≡ true) (sym d) (decimal_named n small)))
number_named (Err fault) old new digits n small d e = tt
