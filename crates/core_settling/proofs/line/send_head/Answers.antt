use Rattle.std.proofs.Common.{◌≡◌, ℕ, List, OnOk, slice_get, sym, ap, subst, ◌∙◌}
use Rattle.transactions.specs.declared.transaction.What.TheVariants as what
use Rattle.note_line.specs.Line.{Line}
use Rattle.gem_model.specs.State.{State}
use Rattle.gem_model.specs.Sending.{asks}
use Rattle.gem_model.specs.Effects.{stream_of_kind, function_of_kind}
use Rattle.core_settling.proofs.Sendings.{first_asks, none_asks}
use Rattle.core_settling.proofs.line.send_head.Goals as goal

pub returns : goal.returns
returns c =
    let now : State = c.args.plant.now in
    let found = ap (λ (l : Line). slice_get l.waiting 0) (sym c.notes.ensures) ∙ sym c.in-Some.ensures.note in
    let same =
    ap (λ (numbers : ℕ × ℕ). asks numbers.0 numbers.1 (what.Note c.in-Some.note.now.number) c.in_ok-text.text now) c.message_of-stream.ensures
    ∙ ap (λ (text : List ℕ). asks (stream_of_kind c.in-Some.note.now.kind) (function_of_kind c.in-Some.note.now.kind) (what.Note c.in-Some.note.now.number) text now) c.in_ok-text.ensures
    ∙ first_asks now.line.waiting now c.in-Some.note.now found in
    subst (λ (g : State). OnOk c.ask.result (c.ask.new.self ≡ g)) same c.ask.ensures

pub returns-in_default : goal.returns-in_default
returns-in_default c =
    let now : State = c.args.plant.now in
    none_asks now.line.waiting now (c.in_default.ensures.note ∙ ap (λ (l : Line). slice_get l.waiting 0) c.notes.ensures)
