-- Jobs that can be created.
use Rattle.std.proofs.Common.{◌≡◌, ◌<◌, nat_lt, Bool, true, false, not, length, Some, None, refl, arith}
use Rattle.std.specs.Prelude.{if◌then◌else◌}
use Rattle.std.proofs.lemmas.Bool.Decides.{nat_tests}
use Rattle.process_job.specs.Jobs.{JobBook, is_known, most_jobs}
use Rattle.process_job.specs.Creating.{is_recipe, is_some_material, create_fault}
use Rattle.process_job.specs.declared.job.JobSpec.{JobSpec}
use Rattle.process_job.specs.declared.fault.JobFault.TheVariants.{NameTaken, NoRecipe, NoMaterial, NoSpace}

-- no job of its name is kept, and fewer than 64 are
pub record IsFree (j : JobSpec) (b : JobBook) : Type 0 where
  pub unknown : is_known j.id b.kept ≡ false
  pub few : length b.kept < most_jobs

pub is_free : (j : JobSpec) (b : JobBook) → create_fault j b ≡ None → IsFree j b
is_free j b e =
    let parts = of (is_known j.id b.kept) (is_recipe j.recipe b.recipes) (is_some_material j.material) (nat_lt (length b.kept) most_jobs) e in
    let room = parts.1 in
    record { unknown = parts.0; few = grind (arith, nat_tests, room) }
  where
    of : (known recipe material room : Bool) → (if known then Some NameTaken else (if not recipe then Some NoRecipe else (if not material then Some NoMaterial else (if room then None else Some (NoSpace most_jobs))))) ≡ None → (known ≡ false) × (room ≡ true)
    of true recipe material room f = absurd (cc)
    of false false material room f = absurd (cc)
    of false true false room f = absurd (cc)
    of false true true true f = (refl, refl)
    of false true true false f = absurd (cc)
