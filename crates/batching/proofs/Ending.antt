-- What a batch did, by how it ended.
use Rattle.std.proofs.Common.{◌≡◌, ◌≤◌, ℕ, true, List, [], ◌∷◌, length, Option, Result, Ok, Err, inl, inr, refl, sym, ap, subst, ◌∙◌, arith}
use Rattle.std.proofs.lemmas.List.{append-nil}
use Rattle.outside.proofs.Writing.{Written-nothing}
use Rattle.tool_events.specs.declared.config.Config.{Config}
use Rattle.tool_events.specs.declared.entry.Entry.{Entry}
use Rattle.tool_events.specs.Configs.{IsConfig}
use Rattle.gem_model.specs.State.{opening}
use Rattle.gem_model.specs.Sizes.{bytes_of}
use Rattle.history_parts.specs.CoreView.{CoreView}
use Rattle.history_laws.specs.Recorded.{Recorded}
use Rattle.history_laws.proofs.Recording.{recorded-none, recorded-after}
use Rattle.run_causes.specs.declared.cause.Cause.{Cause}
use Rattle.run_causes.specs.declared.cause.Cause.TheVariants as cause
use Rattle.line_feeding.specs.declared.ended.SessionNote.{SessionNote}
use Rattle.line_feeding.specs.Notes.{AreNotes}
use Rattle.driving.proofs.Fronts.{IsFront-same}
use Rattle.batch_model.specs.declared.primary.Primary.{Primary}
use Rattle.batch_model.specs.Batch.{Standing, Made, answers, begun, carriers_made, then_made, first_standing, batch_made, batch_entries}
use Rattle.batch_model.specs.Summary.{summary}
use Rattle.batch_model.specs.Told.{bytes_told}
use Rattle.batching.specs.declared.batch.Stop.{Stop}
use Rattle.batching.specs.declared.batch.Stop.TheVariants as stop
use Rattle.batching.specs.Making.{BatchView, standing, Makes}
use Rattle.batching.specs.Ending.{EndsAs}
use Rattle.batching.specs.Batched.{BatchedUnder, MadeBy, Summed}

-- the core in its first state
abbrev pub opened : Config → CoreView
opened c = record { config = c; state = opening c; history = []; is_whole = true }

-- what a batch makes from where it stands first
abbrev pub batch_from : Config → ℕ → Standing → Made
batch_from c carriers s = then_made (begun c s) (λ t. then_made (carriers_made carriers c 1 t) (answers c))

-- it made what a batch makes
pub Makes-batch : (c : Config) (seed carriers : ℕ) (a b : BatchView) (ran : Result (Unit {0}) Stop) → a.core ≡ opened c → a.asked ≡ [] → a.drawn ≡ seed → Makes a.core b (batch_from c carriers (standing a)) ran → Makes (opened c) b (batch_made c seed carriers) ran
Makes-batch c seed carriers a b ran core asked drawn h =
    let first : standing a ≡ first_standing c seed =
    ap (λ (k : CoreView). record { state = k.state; asked = a.asked; drawn_last = a.drawn }) core
    ∙ ap (λ (ps : List Primary). record { state = opening c; asked = ps; drawn_last = a.drawn }) asked
    ∙ ap (λ (n : ℕ). record { state = opening c; asked = []; drawn_last = n }) drawn in
    subst (λ (s : Standing). Makes (opened c) b (batch_from c carriers s) ran) first
    (subst (λ (k : CoreView). Makes k b (batch_from c carriers (standing a)) ran) core h)

-- however it ran, its history is a front of what a batch makes
pub front_of : (c : Config) (seed carriers : ℕ) (b : BatchView) (ran : Result (Unit {0}) Stop) → Makes (opened c) b (batch_made c seed carriers) ran → MadeBy c seed carriers cause.NoMemory b.core.history
front_of c seed carriers b (Ok done) h = IsFront-same b.core.history (batch_entries c seed carriers) (sym h.on.0)
front_of c seed carriers b (Err stop.Full) h = record { behind = h.on.next ∷ h.on.behind; joined = h.on.joined }
front_of c seed carriers b (Err stop.NoMemory) h = h.on

-- the history of a batch, by why it ended
pub MadeBy-end : (c : Config) (seed carriers : ℕ) (b : BatchView) (ran : Result (Unit {0}) Stop) (why : Cause) → Makes (opened c) b (batch_made c seed carriers) ran → EndsAs ran why b.core.history → MadeBy c seed carriers why b.core.history
MadeBy-end c seed carriers b (Ok done) cause.Done h ends = h.on.0
MadeBy-end c seed carriers b (Ok done) cause.WriteFault h ends = h.on.0
MadeBy-end c seed carriers b ran cause.NoMemory h ends = front_of c seed carriers b ran h
MadeBy-end c seed carriers b (Err stop.Full) (cause.Full entries bytes input) h ends = (h.on, ends.0, ends.1, ends.2)
MadeBy-end c seed carriers b ran _ h ends = absurd ends

-- of its summary a front is out
pub Summed-front : (c : Config) (carriers : ℕ) (why : Cause) (held held' : Option (List ℕ)) (history : List Entry) → Summed c carriers why held held' history → Summed c carriers cause.NoMemory held held' history
Summed-front c carriers cause.Done held held' history h = (summary c carriers history, ([], sym (append-nil (summary c carriers history))), h)
Summed-front c carriers cause.WriteFault held held' history h = h
Summed-front c carriers cause.NoMemory held held' history h = h
Summed-front c carriers (cause.Full entries bytes input) held held' history h = ([], (summary c carriers history, refl), h)
Summed-front c carriers _ held held' history h = absurd h

-- nothing of it is out
pub Summed-nothing : (c : Config) (carriers : ℕ) (held : Option (List ℕ)) (history : List Entry) → Summed c carriers cause.NoMemory held held history
Summed-nothing c carriers held history = ([], (summary c carriers history, refl), Written-nothing held)

-- what a batch did of which all is told
pub batched : (c : Config) (seed carriers : ℕ) (b : BatchView) (ran : Result (Unit {0}) Stop) (why : Cause) (held held' : Option (List ℕ)) (notes : List SessionNote) → Makes (opened c) b (batch_made c seed carriers) ran → EndsAs ran why b.core.history
    → Summed b.core.config carriers why held held' b.core.history → Recorded b.core.config b.core.history b.core.state → length b.core.history ≤ b.core.config.max_entries → bytes_of b.core.history ≤ b.core.config.max_bytes
    → AreNotes b.core.config b.core.history (bytes_told b.core.history) notes → BatchedUnder c seed carriers why held held' b.core.history notes
batched c seed carriers b ran why held held' notes made ends summed recorded entries bytes are = record {
  recorded = recorded-after b.core.config c b.core.history b.core.state made.config recorded;
  entries_fit = subst (λ (k : Config). length b.core.history ≤ k.max_entries) made.config entries;
  bytes_fit = subst (λ (k : Config). bytes_of b.core.history ≤ k.max_bytes) made.config bytes;
  made = MadeBy-end c seed carriers b ran why made ends;
  summed = subst (λ (k : Config). Summed k carriers why held held' b.core.history) made.config summed;
  noted = inl (subst (λ (k : Config). AreNotes k b.core.history (bytes_told b.core.history) notes) made.config are);
}

-- the same where there was no memory for the notes
pub batched-unnoted : (c : Config) (seed carriers : ℕ) (b : BatchView) (ran : Result (Unit {0}) Stop) (why : Cause) (held held' : Option (List ℕ)) → Makes (opened c) b (batch_made c seed carriers) ran
    → Summed b.core.config carriers why held held' b.core.history → Recorded b.core.config b.core.history b.core.state → length b.core.history ≤ b.core.config.max_entries → bytes_of b.core.history ≤ b.core.config.max_bytes
    → BatchedUnder c seed carriers cause.NoMemory held held' b.core.history []
batched-unnoted c seed carriers b ran why held held' made summed recorded entries bytes = record {
  recorded = recorded-after b.core.config c b.core.history b.core.state made.config recorded;
  entries_fit = subst (λ (k : Config). length b.core.history ≤ k.max_entries) made.config entries;
  bytes_fit = subst (λ (k : Config). bytes_of b.core.history ≤ k.max_bytes) made.config bytes;
  made = front_of c seed carriers b ran made;
  summed = subst (λ (k : Config). Summed k carriers cause.NoMemory held held' b.core.history) made.config (Summed-front b.core.config carriers why held held' b.core.history summed);
  noted = inr (refl, refl);
}

-- and where there was no memory for the core
pub batched-nothing : (c : Config) (seed carriers : ℕ) (held : Option (List ℕ)) → IsConfig c → BatchedUnder c seed carriers cause.NoMemory held held [] []
batched-nothing c seed carriers held bounds = record {
  recorded = recorded-none c [] bounds refl;
  entries_fit = omega arith;
  bytes_fit = omega arith;
  made = record { behind = batch_entries c seed carriers; joined = refl };
  summed = Summed-nothing c carriers held [];
  noted = inr (refl, refl);
}
