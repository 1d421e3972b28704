-- Why a process job isn't created, test by test.
use Rattle.std.proofs.Common.{◌≡◌, nat_lt, Bool, true, false, not, [], ◌∷◌, length, Option, Some, None, refl}
use Rattle.process_job.specs.Jobs.{JobBook, is_known, most_jobs}
use Rattle.process_job.specs.Creating.{is_recipe, is_some_material, create_fault}
use Rattle.process_job.specs.declared.job.JobSpec.{JobSpec}
use Rattle.request_model.specs.Errors.{first_error, or_else, of_process_fault}
use Rattle.request_model.specs.declared.error.JobError.{JobError}
use Rattle.request_model.specs.declared.error.JobError.TheVariants.{NameTaken, NoRecipe, NoMaterial, NoSpace}

pub by_name : (j : JobSpec) (b : JobBook) → is_known j.id b.kept ≡ true → Some NameTaken ≡ of_process_fault (create_fault j b)
by_name j b k = rw k refl

pub by_recipe : (j : JobSpec) (b : JobBook) → is_known j.id b.kept ≡ false → is_recipe j.recipe b.recipes ≡ false → Some NoRecipe ≡ of_process_fault (create_fault j b)
by_recipe j b k r = rw (k, r) refl

pub by_material : (j : JobSpec) (b : JobBook) → is_known j.id b.kept ≡ false → is_recipe j.recipe b.recipes ≡ true → is_some_material j.material ≡ false → Some NoMaterial ≡ of_process_fault (create_fault j b)
by_material j b k r m = rw (k, r, m) refl

pub by_room : (j : JobSpec) (b : JobBook) → is_known j.id b.kept ≡ false → is_recipe j.recipe b.recipes ≡ true → is_some_material j.material ≡ true → nat_lt (length b.kept) most_jobs ≡ false → Some NoSpace ≡ of_process_fault (create_fault j b)
by_room j b k r m f = rw (k, r, m, f) refl

pub by_none : (j : JobSpec) (b : JobBook) → is_known j.id b.kept ≡ false → is_recipe j.recipe b.recipes ≡ true → is_some_material j.material ≡ true → nat_lt (length b.kept) most_jobs ≡ true → None ≡ of_process_fault (create_fault j b)
by_none j b k r m f = rw (k, r, m, f) refl

-- ---- the tests before

pub past_tests : (local offered named : Bool) (a b c : JobError) (later : Option JobError) → local ≡ false → offered ≡ true → named ≡ true →
    or_else (first_error ((local, a) ∷ (not offered, b) ∷ (not named, c) ∷ [])) later ≡ later
past_tests local offered named a b c later l o n = rw (l, o, n) refl
