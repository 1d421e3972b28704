-- What is left to read of a literal.
use Rattle.std.proofs.Common.{◌≡◌, ℕ, ◌-◌, ◌<◌, List, [], ◌∷◌, length, drop, Err, refl, drop-cons, arith}
use Rattle.std.proofs.Math.Nat.{sub-zero}
use Rattle.line_grammar.specs.Reading.{literal_at}

pub literal_short : (t : List ℕ) (i total : ℕ) (rest : List ℕ) → i < length t → length rest < 1 → literal_at (drop i t) total rest ≡ Err (total - length rest)
unfolding literal_at
literal_short t i total [] low short = rw (drop-cons t i 0) (rw sub-zero refl)
literal_short t i total (b ∷ bs) low short = absurd (omega arith)
