-- The set of the numbers that were read has a chamber exactly where it was among them.
use Rattle.std.proofs.Common.{◌≡◌, ◌≤◌, ℕ, nat_eq, ◌||◌, List, [], ◌∷◌, ◌++◌, refl, sym, ap, ◌∙◌, arith}
use Rattle.std.specs.List.{list_any}
use Rattle.std.proofs.Math.Bool.{or-false}
use Rattle.std.proofs.lemmas.List.Folds.{list_any-append}
use Rattle.std.proofs.lemmas.List.Sums.{fold_push}
use Rattle.tool_tasks.specs.Chambers.{has_chamber, with_chamber, chamber_set}
use Rattle.tool_tasks.proofs.Sets.{has_with}
use Rattle.configuration.specs.Values.{has}

-- a set is that of some numbers, and has a chamber where they have it
pub record IsSetOf (seen : List ℕ) (set : ℕ) : Type 0 where
  pub is : set ≡ chamber_set seen
  pub same : (c : ℕ) → 1 ≤ c → has_chamber set c ≡ has c seen

pub set_of_none : IsSetOf [] 0
set_of_none = record { is = refl; same = λ c least. grind arith }

-- one more
pub set_of_more : (seen : List ℕ) (set n : ℕ) → 1 ≤ n → IsSetOf seen set → IsSetOf (seen ++ n ∷ []) (with_chamber set n)
set_of_more seen set n first s = record {
  is = ap (λ (m : ℕ). with_chamber m n) s.is ∙ sym (fold_push with_chamber 0 seen n);
  same = λ c least.
      has_with set n c first least ∙ ap (λ b. b || nat_eq c n) (s.same c least)
      ∙ sym (list_any-append (nat_eq c) seen (n ∷ []) ∙ ap (λ b. has c seen || b) (or-false (nat_eq c n)));
}
