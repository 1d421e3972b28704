use Rattle.std.proofs.Common.{◌≡◌, ℕ, sym}
use Rattle.top_calls.proofs.commands.feed.Goals as goal

-- words that spell one command spell no other
pub returns-in-Ok-Feed-clause-batched : goal.returns-in-Ok-Feed-clause-batched
returns-in-Ok-Feed-clause-batched g c = λ seed carriers name spells.
    let asked = c.in-Ok-Feed.ensures.batch seed carriers name spells in
    let is = c.in-Ok-Feed.field-0-is in
    absurd (cc)

pub returns-in-Ok-Feed-clause-batch_reads_none : goal.returns-in-Ok-Feed-clause-batch_reads_none
returns-in-Ok-Feed-clause-batch_reads_none g c = λ seed carriers name spells.
    let asked = c.in-Ok-Feed.ensures.batch seed carriers name spells in
    let is = c.in-Ok-Feed.field-0-is in
    absurd (cc)

-- the seed and the number of carriers are those that the words spell
pub returns-in-Ok-Batch-clause-batched : goal.returns-in-Ok-Batch-clause-batched
returns-in-Ok-Batch-clause-batched g c = λ seed carriers name spells.
    let asked = c.in-Ok-Batch.ensures.batch seed carriers name spells in
    let is = c.in-Ok-Batch.field-0-is in
    let same_seed : seed ≡ c.in-Ok-Batch.seed = cc in
    let same_carriers : carriers ≡ c.in-Ok-Batch.carriers = cc in
    rw (same_seed, same_carriers) c.run_batch.ensures.ran
