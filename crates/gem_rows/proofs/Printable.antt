-- Laws of bytes that print.
use Rattle.std.proofs.Common.{ℕ, ◌≤◌, List, [], ◌∷◌, ◌++◌, length, IsTrue, arith, length-append}
use Rattle.std.proofs.lemmas.Bool.Decides.{nat_tests}
use Rattle.std.proofs.lemmas.List.Elements.{All-nil, All-cons, All-append}
use Rattle.std.specs.List.{All}
use Rattle.gem_ids.specs.Texts.{IsPrintable, IsText}
use Rattle.gem_rows.specs.Lines.{are_printable, digits}

-- bytes that print, one by one
pub all_print : (bytes : List ℕ) → IsTrue (are_printable bytes) → All IsPrintable bytes
all_print [] p = All-nil IsPrintable
all_print (b ∷ bytes) p =
    let here : IsPrintable b = (grind (arith, nat_tests), grind (arith, nat_tests)) in
    let rest : IsTrue (are_printable bytes) = grind (arith, nat_tests) in
    All-cons IsPrintable b bytes here (all_print bytes rest)

-- one or two digits, which print
digits_print : (number : ℕ) → number ≤ 10 → IsTrue (are_printable (digits number))
digits_print number n = grind (arith, nat_tests)

few_digits : (number : ℕ) → length (digits number) ≤ 2
few_digits number = grind (arith, nat_tests)

-- a number between texts that print makes a text
pub text_with_number : (before behind : List ℕ) (number : ℕ) → number ≤ 10 → length before ≤ 30 → length behind ≤ 30 → IsTrue (are_printable before) → IsTrue (are_printable behind) → IsText (before ++ digits number ++ behind)
text_with_number before behind number n f g p q =
    let long = length-append (before ++ digits number) behind in
    let short = length-append before (digits number) in
    let few = few_digits number in (
      omega arith,
      All-append IsPrintable (before ++ digits number) behind
          (All-append IsPrintable before (digits number) (all_print before p) (all_print (digits number) (digits_print number n)))
          (all_print behind q),
    )
