-- One part of a batch after another.
use Rattle.std.proofs.Common.{◌≡◌, List, ◌∷◌, ◌++◌, Result, Ok, Err, refl, sym, ◌∙◌, ap, subst, append_assoc}
use Rattle.std.proofs.lemmas.List.{append-nil}
use Rattle.tool_events.specs.declared.entry.Entry.{Entry}
use Rattle.history_parts.specs.CoreView.{CoreView}
use Rattle.driving.proofs.Fronts.{IsFront-append, IsFront-wider}
use Rattle.batch_model.specs.Batch.{Standing, Made, nothing_made, then_made}
use Rattle.batching.specs.declared.batch.Stop.{Stop}
use Rattle.batching.specs.declared.batch.Stop.TheVariants as stop
use Rattle.batching.specs.Making.{BatchView, standing, MadeOn, Makes}

-- ---- parts, joined

-- nothing is made
pub Makes-nothing : (b : BatchView) → Makes b.core b (nothing_made (standing b)) (Ok tt)
Makes-nothing b = record { config = refl; on = (sym (append-nil b.core.history), refl) }

-- of nothing that was made, a batch stops for want of memory
pub Makes-unmade : (a : CoreView) (b : BatchView) (made : Made) → b.core ≡ a → Makes a b made (Err stop.NoMemory)
Makes-unmade a b made same = rw (← same) (record { config = refl; on = IsFront-append b.core.history made.entries })

-- the entries of two parts, behind a history
joined : (a b first more : List Entry) → b ≡ a ++ first → b ++ more ≡ a ++ (first ++ more)
joined a b first more is = ap (λ (es : List Entry). es ++ more) is ∙ append_assoc a first more

on_then : (a : CoreView) (b c : BatchView) (first more : Made) (result : Result (Unit {0}) Stop) → b.core.config ≡ a.config → b.core.history ≡ a.history ++ first.entries → MadeOn b.core c more result → MadeOn a c (record more { entries = first.entries ++ more.entries }) result
on_then a b c first more (Ok done) config history h = (h.0 ∙ joined a.history b.core.history first.entries more.entries history, h.1)
on_then a b c first more (Err stop.Full) config history h = record {
  next = h.next;
  behind = h.behind;
  joined = sym (joined a.history b.core.history first.entries more.entries history) ∙ h.joined;
  full = rw (← config) h.full;
}
on_then a b c first more (Err stop.NoMemory) config history h =
    record { behind = h.behind; joined = sym (joined a.history b.core.history first.entries more.entries history) ∙ h.joined }

-- one part, and then another
pub Makes-then : (a : CoreView) (b c : BatchView) (first : Made) (more : Standing → Made) (result : Result (Unit {0}) Stop) → Makes a b first (Ok tt) → Makes b.core c (more (standing b)) result → Makes a c (then_made first more) result
Makes-then a b c first more result h i =
    let next : Makes b.core c (more first.standing) result = subst (λ (s : Standing). Makes b.core c (more s) result) h.on.1 i in
    record { config = next.config ∙ h.config; on = on_then a b c first (more first.standing) result h.config h.on.0 next.on }

-- one part stops, and the other isn't begun
pub Makes-stops : (a : CoreView) (b : BatchView) (first : Made) (more : Standing → Made) (why : Stop) → Makes a b first (Err why) → Makes a b (then_made first more) (Err why)
Makes-stops a b first more stop.Full h =
    let rest : List Entry = (more first.standing).entries in
    record {
      config = h.config;
      on = record {
        next = h.on.next;
        behind = h.on.behind ++ rest;
        joined = sym (append_assoc a.history first.entries rest) ∙ ap (λ (es : List Entry). es ++ rest) h.on.joined ∙ append_assoc b.core.history (h.on.next ∷ h.on.behind) rest;
        full = h.on.full;
      };
    }
Makes-stops a b first more stop.NoMemory h =
    let rest : List Entry = (more first.standing).entries in
    record {
      config = h.config;
      on = rw (← append_assoc a.history first.entries rest) (IsFront-wider b.core.history (a.history ++ first.entries) rest h.on);
    }
