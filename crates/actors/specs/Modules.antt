-- What a module does with its commands (this tool's profile, serving and simulated modules).
use Rattle.std.specs.Prelude.{◌≡◌, ◌⊎◌, ℕ, zero, suc, ◌+◌, List, [], ◌∷◌, ◌++◌, length}
use Rattle.gem_ids.specs.declared.numbers.ModuleId.{ModuleId}
use Rattle.tool_events.specs.declared.entry.Post.{Post}
use Rattle.tool_events.specs.declared.event.Event.TheVariants as event
use Rattle.tool_events.specs.declared.event.Signal.{Signal}
use Rattle.tool_events.specs.declared.answer.Answer.{Answer}
use Rattle.tool_events.specs.declared.answer.Answer.TheVariants as answer
use Rattle.tool_tasks.specs.declared.task.Command.{Command}
use Rattle.sim_modules.specs.Acting.{Acting, answered, one_more}
use Rattle.actors.specs.Ends.{LastEnded, NoneBehindEnded, IsRefused}
use Rattle.actors.specs.declared.end.ActorEnd.{ActorEnd}
use Rattle.actors.specs.declared.end.ActorEnd.TheVariants as end

-- a fetch of the module of this number, with its answer
abbrev pub fetched : ModuleId → Answer → Post
fetched m answer = record { at = record { 0 = 0 }; event = event.Fetch m; answer = answer }

-- what a module tells, with its answer
abbrev pub told : Signal → Answer → Post
told signal answer = record { at = record { 0 = 0 }; event = event.Signal signal; answer = answer }

-- Commands that were fetched, one after another: behind each fetch stands what the module told when it acted on the command.
-- Each command comes with what its signal was answered.
abbrev pub acted_posts : Acting → List (Command × Answer) → List Post
acted_posts m [] = []
acted_posts m (x ∷ more) = fetched m.number (answer.Command x.0) ∷ told (answered m x.0) x.1 ∷ acted_posts (one_more m) more

-- the module after so many acts
abbrev pub after_acts : ℕ → Acting → Acting
after_acts zero m = m
after_acts (suc n) m = after_acts n (one_more m)

-- How it ended: behind a signal that was answered Ended, or where a fetch was refused; behind a fetch that was answered
-- Ended; or where the signal of its last command was refused.
abbrev pub ModuleEnds : Acting → Acting → List (Command × Answer) → List Post → ActorEnd → Type 0
ModuleEnds m m' done last e =
    ((last ≡ []) × (m' ≡ after_acts (length done) m) × (((e ≡ end.Quit) × LastEnded (acted_posts m done)) ⊎ IsRefused e))
    ⊎ ((last ≡ fetched m.number answer.Ended ∷ []) × (m' ≡ after_acts (length done) m) × (e ≡ end.Quit))
    ⊎ ((c : Command) × (last ≡ fetched m.number (answer.Command c) ∷ []) × (m' ≡ after_acts (length done + 1) m) × IsRefused e)

-- Its new posts are fetches, and behind each that was answered a command one signal, by which it acted on that command; there
-- are no others (this tool's profile, serving).
pub record ModuleDid (m m' : Acting) (posts posts' : List Post) (e : ActorEnd) : Type 0 where
  pub done : List (Command × Answer)
  pub last : List Post
  pub grew : posts' ≡ posts ++ acted_posts m done ++ last
  pub no_more : NoneBehindEnded (acted_posts m done ++ last)
  pub ends : ModuleEnds m m' done last e
