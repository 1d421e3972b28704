-- What a refusal as Full tells, as the chair's front goes on.
use Rattle.std.proofs.Common.{◌≡◌, inl, inr, ℕ, ◌+◌, ◌≤◌, true, ◌||◌, nat_le, nat_lt, List, length, length-append, sym, ap, ◌∙◌, arith}
use Rattle.std.proofs.lemmas.Bool.Decides.{nat_tests}
use Rattle.std.proofs.lemmas.List.{map-append}
use Rattle.std.proofs.lemmas.List.Sums.{sum_by-append}
use mathlib.Core.List.{IsPrefix}
use Rattle.tool_events.specs.declared.config.Config.{Config}
use Rattle.tool_events.specs.declared.entry.Entry.{Entry}
use Rattle.tool_events.specs.declared.event.Event.{Event}
use Rattle.tool_events.specs.Sizes.{event_bytes}
use Rattle.gem_model.specs.Sizes.{bytes_of, is_full}
use Rattle.shared_tool.specs.declared.posted.Posted.{Posted}
use Rattle.shared_tool.specs.Posts.{entry_of, entries_of}
use Rattle.shared_tool.specs.Seats.{is_full_for, MayBeFull}

-- more entries and more bytes leave no more room
full_numbers : (most n n' most_bytes b b' x : ℕ) → n ≤ n' → b ≤ b' → (nat_le most n || nat_lt most_bytes (b + x)) ≡ true → (nat_le most n' || nat_lt most_bytes (b' + x)) ≡ true
full_numbers most n n' most_bytes b b' x more wider full = grind (arith, nat_tests)

-- a history that takes no event with so much text stays so as it goes on
full_on : (c : Config) (front front' : List Posted) (bytes : ℕ) → IsPrefix front front' → is_full_for c (entries_of front) bytes ≡ true → is_full_for c (entries_of front') bytes ≡ true
full_on c front front' bytes p full =
    let grown = ap entries_of (sym p.1) ∙ map-append entry_of front p.0 in
    let long = ap length grown ∙ length-append (entries_of front) (entries_of p.0) in
    let wide = ap bytes_of grown ∙ sum_by-append (λ (e : Entry). event_bytes e.event) (entries_of front) (entries_of p.0) in
    full_numbers c.max_entries (length (entries_of front)) (length (entries_of front')) c.max_bytes (bytes_of (entries_of front)) (bytes_of (entries_of front')) bytes (omega arith) (omega arith) full

pub may_be_on : (c : Config) (fulls bytes : ℕ) (front front' : List Posted) → IsPrefix front front' → MayBeFull c fulls bytes front → MayBeFull c fulls bytes front'
may_be_on c fulls bytes front front' p (inl none) = inl none
may_be_on c fulls bytes front front' p (inr full) = inr (full_on c front front' bytes p full)

-- a refusal as Full says so
pub may_be_now : (from c : Config) (fulls bytes : ℕ) (front : List Posted) (e : Event) → from ≡ c → bytes ≡ event_bytes e → is_full from (entries_of front) e ≡ true → MayBeFull c fulls bytes front
may_be_now from c fulls bytes front e same size full =
    inr (ap (is_full_for c (entries_of front)) size ∙ ap (λ (k : Config). is_full k (entries_of front) e) (sym same) ∙ full)
