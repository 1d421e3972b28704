use Rattle.std.proofs.Common.{◌≡◌, ℕ, Some, sym, ap, ◌∙◌}
use Rattle.tool_texts.proofs.Letters.{of_bytes, of_operator, of_signal}
use Rattle.tool_texts.proofs.read.feed.Goals as goal

pub returns-in-Some-eq72 : goal.returns-in-Some-eq72
returns-in-Some-eq72 c = rw (of_bytes c.args.text.total c.args.text.rest.now (sym c.first.ensures ∙ c.in-Some-eq72.is ∙ ap (λ (n : ℕ). Some n) (let letter : c.in-Some-eq72.field-0 ≡ 72 = search in letter))) c.host_bytes.ensures

pub returns-in-Some-eq79 : goal.returns-in-Some-eq79
returns-in-Some-eq79 c = rw (of_operator c.args.text.total c.args.text.rest.now (sym c.first.ensures ∙ c.in-Some-eq79.is ∙ ap (λ (n : ℕ). Some n) (let letter : c.in-Some-eq79.field-0 ≡ 79 = search in letter)), sym c.said.ensures) c.behind_letter.ensures

pub returns-in-Some-eq83 : goal.returns-in-Some-eq83
returns-in-Some-eq83 c = rw (of_signal c.args.text.total c.args.text.rest.now (sym c.first.ensures ∙ c.in-Some-eq83.is ∙ ap (λ (n : ℕ). Some n) (let letter : c.in-Some-eq83.field-0 ≡ 83 = search in letter)), sym c.told.ensures) c.behind_letter-in-Some-eq83.ensures
