-- Carriers that are marked stopped, and what else rows of jobs leave.
use Rattle.std.proofs.Common.{◌≡◌, ℕ, Bool, true, false, if◌then◌else◌, List, [], ◌∷◌, Option, Some, None, refl, ◌∙◌}
use Rattle.shop_floor.specs.Floor.{Floor, with_marked}
use Rattle.shop_floor.specs.Left.{floor_left as shop_left}
use Rattle.shop_floor.specs.Valid.{IsFloor}
use Rattle.shop_floor.proofs.Marked.{marked-keeps, marked-left}
use Rattle.process_job.specs.Tables as effect
use Rattle.process_job.specs.Tables.{JobRow, JobEffect}
use Rattle.process_job.specs.declared.job.Material.{Material}
use Rattle.process_job.specs.declared.job.ProcessJob.{ProcessJob}
use Rattle.floor_model.specs.Floor.{ToolFloor}
use Rattle.floor_model.specs.declared.tracked.Substrate.{Substrate}
use Rattle.floor_model.specs.Jobs.{can_join, joined, is_member, freed, all_marked, job_does, found_job_does}

-- ---- carriers

pub marked_left : (ms : List Material) (s : Floor) → shop_left (all_marked ms s) ≡ shop_left s
marked_left [] s = refl
marked_left (m ∷ ms) s = marked_left ms (with_marked m.carrier s) ∙ marked-left m.carrier s

pub marked_valid : (ms : List Material) (s : Floor) → IsFloor s → IsFloor (all_marked ms s)
marked_valid [] s valid = valid
marked_valid (m ∷ ms) s valid = marked_valid ms (with_marked m.carrier s) (marked-keeps m.carrier s valid)

-- ---- members

-- a substrate that becomes a member keeps its number, and so does one that is in no job any more
pub joined_number : (j : ProcessJob) (shop : Floor) (s : Substrate) → (joined j shop s).number ≡ s.number
joined_number j shop s = of (can_join j shop s) where
  of : (b : Bool) → (if b then record s { job = j.number } else s).number ≡ s.number
  of true = refl
  of false = refl

pub freed_number : (number : ℕ) (s : Substrate) → (freed number s).number ≡ s.number
freed_number number s = of (is_member number s) where
  of : (b : Bool) → (if b then record s { job = 0 } else s).number ≡ s.number
  of true = refl
  of false = refl

-- ---- what rows do to the floor

pub does_valid : (e : JobEffect) (o : Option ProcessJob) (f : ToolFloor) → IsFloor f.shop → IsFloor (job_does e o f).shop
does_valid effect.no_more o f valid = valid
does_valid effect.makes_members None f valid = valid
does_valid effect.makes_members (Some j) f valid = valid
does_valid effect.ends None f valid = valid
does_valid effect.ends (Some j) f valid = valid
does_valid effect.ends_stopped None f valid = valid
does_valid effect.ends_stopped (Some j) f valid = marked_valid j.material f.shop valid

pub found_valid : (r : Option JobRow) (o : Option ProcessJob) (f : ToolFloor) → IsFloor f.shop → IsFloor (found_job_does r o f).shop
found_valid None o f valid = valid
found_valid (Some r) o f valid = does_valid r.does o f valid
