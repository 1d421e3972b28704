use Rattle.batching.proofs.turns.answer.Goals as goal

pub enter-requires-clause-input : goal.enter-requires-clause-input
enter-requires-clause-input g c = rw c.told.ensures tt
