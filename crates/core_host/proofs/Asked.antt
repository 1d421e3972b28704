-- What is asked of jobs, where something stands against it and where nothing does.
use Rattle.std.proofs.Common.{◌≡◌, Bool, true, false, not, nat_lt, cond, List, [], length, Option, Some, None, refl, sym}
use Rattle.item_model.specs.Data.{Data}
use Rattle.gem_tables.specs.declared.firing.Firing.{Firing}
use Rattle.process_job.specs.Jobs.{is_known, most_jobs}
use Rattle.process_job.specs.Creating.{is_recipe, is_some_material, create_fault}
use Rattle.process_job.specs.declared.job.JobSpec.{JobSpec}
use Rattle.process_job.specs.declared.fault.JobFault.TheVariants as process
use Rattle.tool_jobs.specs.Jobs.{Jobs}
use Rattle.message_model.specs.declared.shop_reply.ShopReply.{ShopReply}
use Rattle.request_model.specs.declared.error.JobError.{JobError}
use Rattle.request_model.specs.Errors.{or_else, of_process_fault}
use Rattle.request_model.specs.Requests.{process_error}
use Rattle.gem_model.specs.State.{State}
use Rattle.gem_model.specs.JobMessages.{asked_of_jobs, with_jobs_now}
use Rattle.host_messages.specs.declared.done.HostReply.TheVariants as code
use Rattle.host_messages.specs.declared.done.Done.{Done}
use Rattle.host_messages.specs.Dones.{done_view}

-- an error stands against it
pub refused : (g after : State) (reply : Option JobError → ShopReply) (e is : Option JobError) (x : JobError) (w : Jobs) (rows : List Firing) (told : Done)
    → e ≡ Some x → e ≡ is → told.reply ≡ code.Shop (reply e) → after ≡ g → told.rows ≡ []
    → done_view told after ≡ asked_of_jobs g (reply is) is w rows
refused g after reply e is x w rows told some same r a none = rw (sym same, r, a, none, some) refl

-- none does
pub taken : (g after : State) (reply : Option JobError → ShopReply) (e is : Option JobError) (w : Jobs) (rows : List Firing) (told : Done)
    → e ≡ None → e ≡ is → told.reply ≡ code.Shop (reply e) → after ≡ with_jobs_now w g → told.rows ≡ rows
    → done_view told after ≡ asked_of_jobs g (reply is) is w rows
taken g after reply e is w rows told none same r a all = rw (sym same, r, a, all, none) refl

-- ---- creations

-- nothing comes behind an error
later_none : (a b : Option JobError) → or_else a b ≡ None → b ≡ None
later_none None b e = e
later_none (Some x) b e = absurd (cc)

-- a process job can be created whose message has no error
pub process_free : (local : Bool) (spec : JobSpec) (events : Data) (w : Jobs) → process_error local spec events w ≡ None → create_fault spec w.process ≡ None
process_free local spec events w e = by_tests (is_known spec.id w.process.kept) (is_recipe spec.recipe w.process.recipes) (is_some_material spec.material) (nat_lt (length w.process.kept) most_jobs) (later_none _ (of_process_fault (create_fault spec w.process)) e) where
  by_tests : (k r m l : Bool)
      → of_process_fault (cond k (Some process.NameTaken) (cond (not r) (Some process.NoRecipe) (cond (not m) (Some process.NoMaterial) (cond l None (Some (process.NoSpace most_jobs)))))) ≡ None
      → cond k (Some process.NameTaken) (cond (not r) (Some process.NoRecipe) (cond (not m) (Some process.NoMaterial) (cond l None (Some (process.NoSpace most_jobs))))) ≡ None
  by_tests true r m l e = absurd (cc)
  by_tests false false m l e = absurd (cc)
  by_tests false true false l e = absurd (cc)
  by_tests false true true true e = refl
  by_tests false true true false e = absurd (cc)
