-- Ports as they begin.
use Rattle.std.proofs.Common.{◌≡◌, ℕ, zero, suc, ◌≤◌, ◌∷◌, take, replicate, refl, ap, arith}
use Rattle.load_port.specs.Ports.{first_port, first_ports}

-- so many of more
pub first_taken : (count most : ℕ) → count ≤ most → take count (replicate most first_port) ≡ first_ports count
first_taken zero most l = refl
first_taken (suc count) zero l = absurd (omega arith)
first_taken (suc count) (suc most) l = ap (λ ps. first_port ∷ ps) (first_taken count most (omega arith))
