-- What the load ports show.
use Rattle.std.proofs.Common.{◌≡◌, ℕ, zero, suc, ◌-◌, List, Option, Some, None, is_some, option_map, slice_get, refl, ap, arith}
use Rattle.load_port.specs.declared.port.Port.{Port}
use Rattle.load_port.specs.Ports.{port_numbered}

-- the port of a number that isn't 0
pub numbered_at : (n : ℕ) (ports : List Port) → (n ≡ 0 → ⊥) → slice_get ports (n - 1) ≡ port_numbered n ports
numbered_at zero ports other = absurd (other refl)
numbered_at (suc n) ports other = ap (slice_get ports) (omega arith)

-- what is shown is there where the port is
pub some_shown : {A B : Type 0} (shows : A → B) (o : Option A) → is_some o ≡ is_some (option_map shows o)
some_shown shows None = refl
some_shown shows (Some x) = refl
