-- One part of feed after another.
use Rattle.std.proofs.Common.{◌≡◌, ℕ, ◌≤◌, inl, inr, List, ◌∷◌, ◌++◌, Option, Result, Ok, Err, refl, sym, ◌∙◌, ap, append_assoc, arith}
use Rattle.std.proofs.lemmas.List.{append-nil}
use Rattle.outside.specs.Counts.{Failed}
use Rattle.tool_events.specs.declared.entry.Entry.{Entry}
use Rattle.gem_model.specs.State.{opening}
use Rattle.gem_model.specs.Feed.{Given, behind, nothing}
use Rattle.gem_model.specs.Printed.{printed}
use Rattle.history_parts.specs.CoreView.{CoreView}
use Rattle.driving.proofs.Fronts.{IsFront-append, IsFront-wider, IsFront-same, IsFront-then, IsFront-length}
use Rattle.line_feeding.specs.declared.halt.Halt.{Halt}
use Rattle.line_feeding.specs.declared.halt.Halt.TheVariants as halt
use Rattle.line_feeding.specs.Going.{SinkView, WentOn, Shows, Goes}
use Rattle.outside.proofs.Writing.{WrittenFront-all, Rose-wider}

-- nothing was added to the history
pub record Unmoved (core core' : CoreView) : Type 0 where
  pub config : core'.config ≡ core.config
  pub history : core'.history ≡ core.history

shows_unmoved : (start : Option (List ℕ)) (core core' : CoreView) (out : SinkView) → Unmoved core core' → Shows start out core → Shows start out core'
shows_unmoved start core core' out same shows = rw (same.config, same.history) shows

-- want of memory before anything was done
pub Goes-unmoved : (core core' : CoreView) (out : SinkView) (given : Given) → Unmoved core core' → Goes core core' out out given (Err halt.NoMemory)
Goes-unmoved core core' out given same = record {
  config = same.config;
  went = rw same.history (IsFront-append core.history given.entries);
  grows = IsFront-same core.history core'.history same.history;
  wrote = λ e. absurd (cc);
  shows = λ start shows. WrittenFront-all start out.held (printed (opening core'.config) core'.history) (shows_unmoved start core core' out same shows);
  cause = λ e. absurd (cc);
  unfailed = λ other. (refl, refl);
  faults_stay = omega arith;
  refusals_stay = omega arith;
}

pub Failed-wider : (f1 f2 f3 r1 r2 r3 : ℕ) → f1 ≤ f2 → f2 ≤ f3 → r1 ≤ r2 → r2 ≤ r3 → Failed f2 f3 r2 r3 → Failed f1 f3 r1 r3
Failed-wider f1 f2 f3 r1 r2 r3 h i j k (inl faults) = inl (Rose-wider f1 f2 f3 f3 h i faults (omega arith))
Failed-wider f1 f2 f3 r1 r2 r3 h i j k (inr refusals) = inr (Rose-wider r1 r2 r3 r3 j k refusals (omega arith))

went_then : (a b c : CoreView) (first more : Given) (result : Result (Unit {0}) Halt) → b.config ≡ a.config → WentOn a b first (Ok tt) → WentOn b c more result → WentOn a c (behind first.entries more) result
went_then a b c first more (Ok done) b_c h i = (joined_history a b c first more h i.0, i.1)
  where
    joined_history : (a b c : CoreView) (first more : Given) → WentOn a b first (Ok tt) → c.history ≡ b.history ++ more.entries → c.history ≡ a.history ++ (first.entries ++ more.entries)
    joined_history a b c first more h i = i ∙ ap (λ (es : List Entry). es ++ more.entries) h.0 ∙ append_assoc a.history first.entries more.entries
went_then a b c first more (Err halt.Full) b_c h i = record {
  next = i.next;
  behind = i.behind;
  joined = sym (append_assoc a.history first.entries more.entries) ∙ ap (λ (es : List Entry). es ++ more.entries) (sym h.0) ∙ i.joined;
  full = rw (← b_c) i.full;
}
went_then a b c first more (Err (halt.Line place)) b_c h i = absurd i
went_then a b c first more (Err halt.Quit) b_c h i = absurd i
went_then a b c first more (Err halt.Write) b_c h i = record { behind = i.behind; joined = sym (append_assoc a.history first.entries more.entries) ∙ ap (λ (es : List Entry). es ++ more.entries) (sym h.0) ∙ i.joined }
went_then a b c first more (Err halt.NoMemory) b_c h i = record { behind = i.behind; joined = sym (append_assoc a.history first.entries more.entries) ∙ ap (λ (es : List Entry). es ++ more.entries) (sym h.0) ∙ i.joined }

-- no write failed in the one and in the other
pub stay_then : (o1 o2 o3 : SinkView) → (o2.faults ≡ o1.faults) × (o2.refusals ≡ o1.refusals) → (o3.faults ≡ o2.faults) × (o3.refusals ≡ o2.refusals) → (o3.faults ≡ o1.faults) × (o3.refusals ≡ o1.refusals)
stay_then o1 o2 o3 h i = (i.0 ∙ h.0, i.1 ∙ h.1)

-- one part, and then another
pub Goes-then : (a b c : CoreView) (o1 o2 o3 : SinkView) (first more : Given) (result : Result (Unit {0}) Halt) → Goes a b o1 o2 first (Ok tt) → Goes b c o2 o3 more result → Goes a c o1 o3 (behind first.entries more) result
Goes-then a b c o1 o2 o3 first more result h i = record {
  config = i.config ∙ h.config;
  went = went_then a b c first more result h.config h.went i.went;
  grows = IsFront-then a.history b.history c.history h.grows i.grows;
  wrote = λ e. omega (arith, IsFront-length a.history b.history h.grows, i.wrote e);
  shows = λ start shows. i.shows start (h.shows start shows);
  cause = λ e. Failed-wider o1.faults o2.faults o3.faults o1.refusals o2.refusals o3.refusals h.faults_stay i.faults_stay h.refusals_stay i.refusals_stay (i.cause e);
  unfailed = λ other. stay_then o1 o2 o3 (h.unfailed (λ e. cc)) (i.unfailed other);
  faults_stay = omega (arith, h.faults_stay, i.faults_stay);
  refusals_stay = omega (arith, h.refusals_stay, i.refusals_stay);
}

went_halts : (a b : CoreView) (first more : Given) (why : Halt) → WentOn a b first (Err why) → WentOn a b (behind first.entries more) (Err why)
went_halts a b first more halt.Full h = record {
  next = h.next;
  behind = h.behind ++ more.entries;
  joined = sym (append_assoc a.history first.entries more.entries) ∙ ap (λ (es : List Entry). es ++ more.entries) h.joined ∙ append_assoc b.history (h.next ∷ h.behind) more.entries;
  full = h.full;
}
went_halts a b first more (halt.Line place) h = absurd h
went_halts a b first more halt.Quit h = absurd h
went_halts a b first more halt.Write h = rw (← append_assoc a.history first.entries more.entries) (IsFront-wider b.history (a.history ++ first.entries) more.entries h)
went_halts a b first more halt.NoMemory h = rw (← append_assoc a.history first.entries more.entries) (IsFront-wider b.history (a.history ++ first.entries) more.entries h)

-- one part halts, and the other isn't begun
pub Goes-halts : (a b : CoreView) (o1 o2 : SinkView) (first more : Given) (why : Halt) → Goes a b o1 o2 first (Err why) → Goes a b o1 o2 (behind first.entries more) (Err why)
Goes-halts a b o1 o2 first more why h = record {
  config = h.config;
  went = went_halts a b first more why h.went;
  grows = h.grows;
  wrote = h.wrote;
  shows = h.shows;
  cause = h.cause;
  unfailed = h.unfailed;
  faults_stay = h.faults_stay;
  refusals_stay = h.refusals_stay;
}

-- nothing is given
pub Goes-nothing : (core : CoreView) (out : SinkView) → Goes core core out out (nothing core.state) (Ok tt)
Goes-nothing core out = record {
  config = refl;
  went = (sym (append-nil core.history), refl);
  grows = IsFront-same core.history core.history refl;
  wrote = λ e. absurd (cc);
  shows = λ start shows. shows;
  cause = λ e. absurd (cc);
  unfailed = λ other. (refl, refl);
  faults_stay = omega arith;
  refusals_stay = omega arith;
}
