-- Laws of lines.
use Rattle.std.proofs.Common.{◌≡◌, ◌≢◌, ℕ, zero, suc, ◌+◌, ◌<◌, ◌≤◌, ◌==◌, Bool, true, false, ◌||◌, if◌then◌else◌, List, [], ◌∷◌, ◌++◌, length, take, drop, get_or, slice_index, refl, sym, ap, subst, ◌∙◌, arith, take-append-drop, take_all, drop-cons, add-one, Option, Some, None, IfSome, IfNone}
use Rattle.std.specs.List.{list_any}
use Rattle.std.proofs.lemmas.Bool.{true≢false}
use Rattle.std.proofs.lemmas.Bool.Decides.{nat_tests}
use Rattle.memchr.specs.Find.{IsFirstByte, is_byte}
use Rattle.text_lines.specs.Lines.{IsOneLine, lines_of, onto_first, whole_lines}

-- ---- where a line ends

-- two parts without a line feed have none together
pub IsOneLine-both : (front part : List ℕ) → IsOneLine front → IsOneLine part → IsOneLine (front ++ part)
IsOneLine-both [] part none one = one
IsOneLine-both (b ∷ front) part none one =
    let here : (b == 10) ≡ false = grind (arith, nat_tests) in
    let others : IsOneLine front = grind (arith, nat_tests) in
    rw here (IsOneLine-both front part others one)

-- where no byte of a front is a line feed, it is one line
front_line : (bytes : List ℕ) (end : ℕ) → end ≤ length bytes → ((k : ℕ) → k < end → (slice_index bytes k == 10) ≡ true → ⊥) → IsOneLine (take end bytes)
front_line bytes zero within none = refl
front_line [] (suc end) within none = absurd (omega arith)
front_line (b ∷ bytes) (suc end) within none =
    let here : (b == 10) ≡ false = grind (arith, nat_tests, none 0 (omega arith)) in
    rw here (front_line bytes end (omega arith) (λ k less. none (suc k) (omega arith)))

-- the bytes around a line feed
around_feed : (bytes : List ℕ) (end : ℕ) → end < length bytes → (slice_index bytes end == 10) ≡ true → bytes ≡ take end bytes ++ 10 ∷ drop (end + 1) bytes
around_feed bytes end within feed =
    let here : get_or bytes end 0 ≡ 10 = grind (arith, nat_tests) in
    sym (take-append-drop end bytes)
    ∙ ap (λ (more : List ℕ). take end bytes ++ more) (drop-cons bytes end 0 within ∙ rw (here, add-one end) refl)

-- what a search for a line feed says of the line that it ends
pub ends : (bytes : List ℕ) (found : Option ℕ) → IsFirstByte (is_byte 10) bytes found → record {
  feed : IfSome found (λ end. bytes ≡ take end bytes ++ 10 ∷ drop (end + 1) bytes);
  line : IfSome found (λ end. IsOneLine (take end bytes));
  none : IfNone found (IsOneLine bytes);
}
ends bytes None nowhere = record {
  feed = tt;
  line = tt;
  none = subst IsOneLine (take_all (length bytes) bytes (omega arith)) (front_line bytes (length bytes) (omega arith) (λ k less. nowhere k (omega arith) less));
}
ends bytes (Some end) first = record {
  feed = around_feed bytes end first.0.high first.1;
  line = front_line bytes end (omega (arith, first.0.high)) (λ k less. first.0.before k (omega arith) less);
  none = tt;
}

-- ---- the lines of a text

abbrev is_feed : ℕ → Bool
is_feed b = b == 10

or_parts : (a b : Bool) → (a || b) ≡ false → (a ≡ false) × (b ≡ false)
or_parts true b h = absurd (true≢false h)
or_parts false b h = (refl, h)

one_line : (b : ℕ) (bytes : List ℕ) → IsOneLine (b ∷ bytes) → (is_feed b ≡ false) × IsOneLine bytes
one_line b bytes h = or_parts (is_feed b) (list_any (λ b. b == 10) bytes) h

lines-cons : (b : ℕ) (text : List ℕ) → is_feed b ≡ false → lines_of (b ∷ text) ≡ onto_first b (lines_of text)
lines-cons b text h = ap (λ (t : Bool). if t then [] ∷ lines_of text else onto_first b (lines_of text)) h

-- a line that is whole is the first
pub lines-line : (line text : List ℕ) → IsOneLine line → lines_of (line ++ 10 ∷ text) ≡ line ∷ lines_of text
lines-line [] text h = refl
lines-line (b ∷ line) text h =
    let parts = one_line b line h in
    lines-cons b (line ++ 10 ∷ text) parts.0 ∙ ap (onto_first b) (lines-line line text parts.1)

-- what is left at the end is the last line
lines-last : (b : ℕ) (line : List ℕ) → IsOneLine (b ∷ line) → lines_of (b ∷ line) ≡ (b ∷ line) ∷ []
lines-last b [] h = lines-cons b [] (one_line b [] h).0
lines-last b (c ∷ line) h =
    let parts = one_line b (c ∷ line) h in
    lines-cons b (c ∷ line) parts.0 ∙ ap (onto_first b) (lines-last c line parts.1)

-- what has no line feed and isn't empty is one line
pub last_line : (line : List ℕ) → IsOneLine line → line ≢ [] → lines_of line ≡ line ∷ []
last_line [] one some = absurd (some refl)
last_line (b ∷ line) one some = lines-last b line one

any-feed : (front text : List ℕ) → list_any (λ b. b == 10) (front ++ 10 ∷ text) ≡ true
any-feed [] text = refl
any-feed (b ∷ front) text = grind (arith, any-feed front text)

-- up to a line feed all is whole
pub whole-feed : (front text : List ℕ) → whole_lines (front ++ 10 ∷ text) ≡ front ++ 10 ∷ whole_lines text
whole-feed [] text = refl
whole-feed (b ∷ front) text =
    ap (λ (t : Bool). if t then b ∷ whole_lines (front ++ 10 ∷ text) else []) (any-feed (b ∷ front) text)
    ∙ ap (λ (bs : List ℕ). b ∷ bs) (whole-feed front text)

pub whole-none : (part : List ℕ) → IsOneLine part → whole_lines part ≡ []
whole-none [] h = refl
whole-none (b ∷ part) h = ap (λ (t : Bool). if t then b ∷ whole_lines part else []) h

-- the first line of a text begins with what comes before any line feed
pub record LongFirst (front text : List ℕ) : Type 0 where
  pub first : List ℕ
  pub rest : List (List ℕ)
  pub lines : lines_of (front ++ text) ≡ first ∷ rest
  pub long : length front ≤ length first

onto : (b : ℕ) (lines : List (List ℕ)) → (first : List ℕ) × (rest : List (List ℕ)) × (onto_first b lines ≡ first ∷ rest) × (1 ≤ length first)
onto b [] = (b ∷ [], [], refl, omega arith)
onto b (line ∷ lines) = (b ∷ line, lines, refl, omega arith)

pub first-long : (b : ℕ) (front text : List ℕ) → IsOneLine (b ∷ front) → LongFirst (b ∷ front) text
first-long b [] text h =
    let o = onto b (lines_of text) in
    record { first = o.0; rest = o.1; lines = lines-cons b text (one_line b [] h).0 ∙ o.2; long = o.3 }
first-long b (c ∷ front) text h =
    let parts = one_line b (c ∷ front) h in
    let next = first-long c front text parts.1 in
    record {
      first = b ∷ next.first;
      rest = next.rest;
      lines = lines-cons b ((c ∷ front) ++ text) parts.0 ∙ ap (onto_first b) next.lines;
      long = omega (arith, next.long);
    }
