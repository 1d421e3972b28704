use Rattle.std.proofs.Common.{◌≡◌, ℕ, Bool, List, Result, Ok, Err, refl, sym, ◌∙◌, ap, subst}
use Rattle.line_grammar.specs.Words.{hex}
use Rattle.line_grammar.specs.Grammar.{Grammar, last}
use Rattle.line_grammar.specs.Reading.{Gives, hex_at, ◌>>=◌}
use Rattle.line_grammar.specs.declared.line.LineFault.{LineFault}
use Rattle.line_grammar.specs.declared.line.LineFault.TheVariants as fault
use Rattle.notes_lines.specs.declared.line.SpoolLine.{SpoolLine}
use Rattle.notes_lines.specs.declared.line.SpoolLine.TheVariants as line
use Rattle.spool.specs.declared.note.Kind.{Kind}
use Rattle.notes_lines.specs.Lines.{id_words}
use Rattle.notes_lines.proofs.read.id_behind.Goals as goal

-- the push of a text behind an id, and its grammar
abbrev pushed : Bool → ℕ → Kind → ℕ → List ℕ → SpoolLine
pushed overwrite n kind id text = line.Push overwrite (record { number = n; kind = kind; id = id; text = text })

abbrev rest : Bool → ℕ → Kind → ℕ → Grammar SpoolLine
rest overwrite n kind id = last hex (λ text. pushed overwrite n kind id text)

-- a fault stays what it is, whatever is made of the text
gives_fault : (e : LineFault) (r : Result (List ℕ) ℕ) (f : List ℕ → SpoolLine) → Gives (Err e) r → Gives (Err e) (r >>= λ text. Ok (f text))
gives_fault (fault.Place place) (Ok text) f gives = absurd cc
gives_fault (fault.Place place) (Err p) f gives = let same : p ≡ place = cc in ap (λ (n : ℕ). Err n) same
gives_fault fault.NoMemory r f gives = tt

made : (r : Result (List ℕ) ℕ) (text : List ℕ) (f : List ℕ → SpoolLine) → r ≡ Ok text → (r >>= λ v. Ok (f v)) ≡ Ok (f text)
made (Ok t) text f same = let is : t ≡ text = cc in ap (λ (u : List ℕ). Ok (f u)) is
made (Err p) text f same = absurd cc

pub returns-in-Err : goal.returns-in-Err
unfolding id_words
returns-in-Err c = c.in-Err.ensures.read (rest c.args.overwrite c.args.number c.args.kind)

pub returns-in-Ok-hex : goal.returns-in-Ok-hex
unfolding id_words
returns-in-Ok-hex c =
    let f : List ℕ → SpoolLine = pushed c.args.overwrite c.args.number c.args.kind c.in-Ok.id in
    c.in-Ok.ensures.read (rest c.args.overwrite c.args.number c.args.kind)
    ∙ made (hex_at c.number_behind.new.text.total c.number_behind.new.text.rest.now) c.hex.new.bytes.items f c.in-Ok-hex.ensures
    ∙ ap (λ (t : List ℕ). Ok (f t)) (sym c.from_vec.ensures)

pub returns-in-Err-hex : goal.returns-in-Err-hex
unfolding id_words
returns-in-Err-hex c =
    let f : List ℕ → SpoolLine = pushed c.args.overwrite c.args.number c.args.kind c.in-Ok.id in
    subst (λ (r : Result SpoolLine ℕ). Gives (Err c.in-Err-hex.fault) r) (sym (c.in-Ok.ensures.read (rest c.args.overwrite c.args.number c.args.kind)))
    (gives_fault c.in-Err-hex.fault (hex_at c.number_behind.new.text.total c.number_behind.new.text.rest.now) f c.in-Err-hex.ensures)
