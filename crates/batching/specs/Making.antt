-- What a part of a batch does.
use Rattle.std.specs.Prelude.{◌≡◌, ◌++◌, ℕ, List, Result, Ok, Err}
use Rattle.line_grammar.specs.Texts.{IsFront}
use Rattle.history_parts.specs.CoreView.{CoreView}
use Rattle.driving.specs.Limits.{IsFullAt}
use Rattle.batch_model.specs.declared.primary.Primary.{Primary}
use Rattle.batch_model.specs.Batch.{Standing, Made}
use Rattle.batching.specs.declared.batch.Batch.{Batch}
use Rattle.batching.specs.declared.batch.Stop.{Stop}
use Rattle.batching.specs.declared.batch.Stop.TheVariants as stop

-- What contracts see of a batch, whichever core it drives: the core, the messages that are not answered, and the number drawn last.
pub record BatchView : Type 0 where
  pub core : CoreView
  pub asked : List Primary
  pub drawn : ℕ

abbrev pub batch_seen : {C : Type 0} → (C → CoreView) → Batch C → BatchView
batch_seen view b = record { core = view b.core; asked = b.asked.items; drawn = b.drawn }

-- where a batch stands
abbrev pub standing : BatchView → Standing
standing b = record { state = b.core.state; asked = b.asked; drawn_last = b.drawn }

-- The history went on by all that is made, and the batch stands behind it; or up to an entry that doesn't fit the limits; or, after
-- want of memory, by a front of it.
abbrev pub MadeOn : CoreView → BatchView → Made → Result (Unit {0}) Stop → Type 0
MadeOn core b made (Ok done) = (b.core.history ≡ core.history ++ made.entries) × (standing b ≡ made.standing)
MadeOn core b made (Err stop.Full) = IsFullAt core.config b.core.history (core.history ++ made.entries)
MadeOn core b made (Err stop.NoMemory) = IsFront b.core.history (core.history ++ made.entries)

-- From a core, a part of a batch is done, or the batch stops.
pub record Makes (core : CoreView) (b : BatchView) (made : Made) (result : Result (Unit {0}) Stop) : Type 0 where
  pub config : b.core.config ≡ core.config
  pub on : MadeOn core b made result
