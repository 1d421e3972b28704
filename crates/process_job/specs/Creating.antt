-- Whether a process job can be created (this tool's profile, S16F11, names, limits).
use Rattle.std.specs.Prelude.{ℕ, nat_lt, nat_le, Bool, true, false, not, ◌&&◌, if◌then◌else◌, List, [], ◌∷◌, length, Option, Some, None}
use Rattle.std.specs.List.{list_any, list_all}
use Rattle.std.specs.Str.{bytes_eq}
use Rattle.tool_tasks.specs.declared.recipes.Recipe.{Recipe}
use Rattle.process_job.specs.Jobs.{JobBook, is_known, most_jobs}
use Rattle.process_job.specs.declared.job.JobSpec.{JobSpec}
use Rattle.process_job.specs.declared.job.Material.{Material}
use Rattle.process_job.specs.declared.fault.JobFault.{JobFault}
use Rattle.process_job.specs.declared.fault.JobFault.TheVariants.{NameTaken, NoRecipe, NoMaterial, NoSpace}

-- a recipe of the tool has this name
abbrev pub is_recipe : List ℕ → List Recipe → Bool
is_recipe name recipes = list_any (λ r. bytes_eq r.name name) recipes

-- a number is that of a slot: 1 to 25
abbrev pub is_slot : ℕ → Bool
is_slot slot = nat_le 1 slot && nat_le slot 25

-- each of these is
abbrev pub are_slots : List ℕ → Bool
are_slots slots = list_all is_slot slots

-- the name of a carrier has 1 to 64 bytes (this tool's profile, names)
abbrev pub is_carrier_name : List ℕ → Bool
is_carrier_name name = nat_le 1 (length name) && nat_le (length name) 64

-- the name of the carrier and the slots are such
abbrev pub is_material : Material → Bool
is_material m = is_carrier_name m.carrier && are_slots m.slots

-- all of these are
abbrev pub are_materials : List Material → Bool
are_materials materials = list_all is_material materials

-- no carrier is named
abbrev pub is_empty : List Material → Bool
is_empty [] = true
is_empty (m ∷ ms) = false

-- a job can have this material: a carrier is named, and all that is named can be
abbrev pub is_some_material : List Material → Bool
is_some_material materials = not (is_empty materials) && are_materials materials

-- why a job can't be created, whatever memory there is: a job of its name is kept, its recipe is none of the tool's, its material is
-- none, or 64 jobs are kept
abbrev pub create_fault : JobSpec → JobBook → Option JobFault
create_fault j b =
    if is_known j.id b.kept then Some NameTaken
    else (if not (is_recipe j.recipe b.recipes) then Some NoRecipe
    else (if not (is_some_material j.material) then Some NoMaterial
    else (if nat_lt (length b.kept) most_jobs then None else Some (NoSpace most_jobs))))
