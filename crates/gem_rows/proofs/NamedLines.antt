-- Laws of the names that lines give.
use Rattle.std.proofs.Common.{◌≡◌, ℕ, ◌+◌, ◌-◌, ◌≤◌, ◌==◌, Bool, true, false, nat_le, ◌&&◌, List, [], ◌∷◌, ◌++◌, length, Option, Some, None, IfSome, refl, arith, cond}
use Rattle.std.specs.List.{list_all}
use Rattle.std.specs.Option.{option_or}
use Rattle.std.proofs.lemmas.Bool.Decides.{nat_tests}
use Rattle.gem_ids.specs.Texts.{IsText}
use Rattle.gem_rows.specs.Lines.{Line, one, each, are_printable, is_behind, digits, line_name, name_in}
use Rattle.gem_rows.proofs.Printable.{all_print, text_with_number}

-- the line's names are short and print
abbrev is_named : Line → Bool
is_named (one n name) = nat_le (length name) 80 && are_printable name
is_named (each base count before behind) =
    nat_le count 10 && nat_le (length before) 30 && nat_le (length behind) 30 && are_printable before && are_printable behind

-- what a line gives is a text
line_text : (l : Line) (number : ℕ) → is_named l ≡ true → IfSome (line_name number l) IsText
line_text (one n name) number h = by_test (number == n) where
  fits : length name ≤ 80
  fits = grind (arith, nat_tests)

  prints : are_printable name ≡ true
  prints = grind (arith, nat_tests)

  by_test : (b : Bool) → IfSome (cond b (Some name) None) IsText
  by_test true = (fits, all_print name prints)
  by_test false = tt
line_text (each base count before behind) number h = by_test (is_behind base count number) refl where
  few : count ≤ 10
  few = grind (arith, nat_tests)

  short : length before ≤ 30
  short = grind (arith, nat_tests)

  short_behind : length behind ≤ 30
  short_behind = grind (arith, nat_tests)

  prints : are_printable before ≡ true
  prints = grind (arith, nat_tests)

  prints_behind : are_printable behind ≡ true
  prints_behind = grind (arith, nat_tests)

  by_test : (b : Bool) → is_behind base count number ≡ b → IfSome (cond b (Some (before ++ digits (number - base) ++ behind)) None) IsText
  by_test true q =
      let below : number ≤ base + count = grind (arith, nat_tests) in
      let most = few in
      text_with_number before behind (number - base) (omega arith) short short_behind prints prints_behind
  by_test false q = tt

-- what lines give is a text
pub name_text : (lines : List Line) (number : ℕ) → list_all is_named lines ≡ true → IfSome (name_in lines number) IsText
name_text [] number h = tt
name_text (l ∷ lines) number h = by_name (line_name number l) (line_text l number here) (name_text lines number rest) where
  here : is_named l ≡ true
  here = grind (arith, nat_tests)

  rest : list_all is_named lines ≡ true
  rest = grind (arith, nat_tests)

  by_name : (o : Option (List ℕ)) → IfSome o IsText → IfSome (name_in lines number) IsText → IfSome (option_or o (name_in lines number)) IsText
  by_name None t later = later
  by_name (Some name) t later = t
