-- What is so where a call was answered so.
use Rattle.std.proofs.Common.{◌≡◌, inl, inr, ℕ, ◌≤◌, arith}
use Rattle.std.specs.Prelude.{false, Result, Ok, Err, OnOk, is_err, is_ok, if◌then◌else◌}
use Rattle.outside.specs.Counts.{Rose}
use Rattle.spool_format.specs.Faults.{Told}
use Rattle.spool_format.specs.declared.fault.NvFault.{NvFault}
use Rattle.spool_format.specs.declared.fault.NvFault.TheVariants.{Disk, Closed, Unread, NoMemory}

pub ok_given : {T E : Type 0} {P : Type 0} (r : Result T E) → is_err r ≡ false → OnOk r P → P
ok_given (Ok x) good p = p
ok_given (Err e) good p = absurd cc

pub chosen_given : {T E A : Type 0} (r : Result T E) (x y z : A) → is_err r ≡ false → z ≡ (if is_ok r then x else y) → z ≡ x
chosen_given (Ok v) x y z good is = is
chosen_given (Err e) x y z good is = absurd cc

pub told_weaker : (d d' : Type 0) (u u' : ℕ → Type 0) → (d → d') → ((place : ℕ) → u place → u' place) → (e : NvFault) → Told d u e → Told d' u' e
told_weaker d d' u u' f h Disk told = f told
told_weaker d d' u u' f h Closed told = told
told_weaker d d' u u' f h (Unread place) told = h place told
told_weaker d d' u u' f h NoMemory told = tt

pub rose_earlier : (a b c : ℕ) → a ≤ b → Rose b c → Rose a c
rose_earlier a b c le (inl more) = inl (omega arith)
rose_earlier a b c le (inr stands) = inr stands
