-- Pieces of a text, and the arrows that are read off it.
use Rattle.std.proofs.Common.{◌≡◌, ℕ, ◌==◌, Bool, true, false, not, ◌&&◌, ◌||◌, List, [], ◌∷◌, ◌++◌, refl, ap, sym, subst, ◌∙◌, append_assoc, append-nil, codes, Result, Ok, Err, is_ok, OnOk}
use Rattle.std.specs.Prelude.{if◌then◌else◌}
use Rattle.std.specs.declared.alloc.AllocError.{AllocError}
use Rattle.std.proofs.lemmas.Bool.{true≢false, and_parts}
use Rattle.picture_svg.specs.Arrows.{begins, before_quote, arrows_in, is_name}
use Rattle.picture_svg.specs.Written.{differs, has_no_arrow, IsClosed, tag_of}

-- a pair of tests of which one fails
fails : (e d b : Bool) → (not e || d) ≡ true → (d ≡ true → b ≡ false) → (e && b) ≡ false
fails true d b either next = next either
fails false d b either next = refl

-- a text that differs from a word doesn't begin with it, whatever follows
differs-begins : (word text rest : List ℕ) → differs word text ≡ true → begins word (text ++ rest) ≡ false
differs-begins [] text rest h = absurd (true≢false (sym h))
differs-begins (w ∷ word) [] rest h = absurd (true≢false (sym h))
differs-begins (w ∷ word) (b ∷ text) rest h = fails (w == b) (differs word text) (begins word (text ++ rest)) h (differs-begins word text rest)

-- no arrow is read in a piece in which none begins
pub no_arrow-reads : (text rest : List ℕ) → has_no_arrow text ≡ true → arrows_in (text ++ rest) ≡ arrows_in rest
no_arrow-reads [] rest none = refl
no_arrow-reads (b ∷ text) rest none =
    let parts = and_parts (not (b == 60) || differs (codes "path") text) (has_no_arrow text) none in
    rw (fails (b == 60) (differs (codes "path") text) (begins (codes "path") (text ++ rest)) parts.0 (differs-begins (codes "path") text rest))
    (no_arrow-reads text rest parts.1)

-- the two tests of a byte of a name
is_neither : (q t : Bool) → (not q && not t) ≡ true → ((q || t) ≡ false) × (t ≡ false)
is_neither true t h = absurd cc
is_neither false true h = absurd cc
is_neither false false h = (refl, refl)

-- a name is read as far as its quote
name-before : (name rest : List ℕ) → is_name name ≡ true → before_quote (name ++ 34 ∷ rest) ≡ name
name-before [] rest named = refl
name-before (b ∷ name) rest named =
    let parts = and_parts (not (b == 34) && not (b == 60)) (is_name name) named in
    rw ((is_neither (b == 34) (b == 60) parts.0).0) (ap (λ l. b ∷ l) (name-before name rest parts.1))

-- no arrow is read in a name
name-reads : (name rest : List ℕ) → is_name name ≡ true → arrows_in (name ++ 34 ∷ rest) ≡ arrows_in rest
name-reads [] rest named = refl
name-reads (b ∷ name) rest named =
    let parts = and_parts (not (b == 34) && not (b == 60)) (is_name name) named in
    rw ((is_neither (b == 34) (b == 60) parts.0).1) (name-reads name rest parts.1)

-- the beginning of an arrow's tag, and what follows it
pub head-reads : (name rest : List ℕ) → is_name name ≡ true → arrows_in (codes "<path data-arrow=\"" ++ (name ++ 34 ∷ rest)) ≡ name ∷ arrows_in rest
head-reads name rest named = rw (name-before name rest named, name-reads name rest named)

-- a piece without an arrow, behind a text
pub no_arrow-behind : (text piece : List ℕ) → IsClosed text → has_no_arrow piece ≡ true → arrows_in (text ++ piece) ≡ arrows_in text
no_arrow-behind text piece closed none =
    closed piece ∙ ap (λ l. arrows_in text ++ l) (ap arrows_in (sym (append-nil piece)) ∙ no_arrow-reads piece [] none) ∙ append-nil (arrows_in text)

pub no_arrow-closed : (text piece : List ℕ) → IsClosed text → has_no_arrow piece ≡ true → IsClosed (text ++ piece)
no_arrow-closed text piece closed none rest =
    ap arrows_in (append_assoc text piece rest) ∙ closed (piece ++ rest)
    ∙ ap (λ l. arrows_in text ++ l) (no_arrow-reads piece rest none)
    ∙ ap (λ l. l ++ arrows_in rest) (sym (no_arrow-behind text piece closed none))

-- ---- what is written at a text, where there is room

pub put-closed : (room : Bool) (text piece new : List ℕ) → IsClosed text → has_no_arrow piece ≡ true → new ≡ (if room then text ++ piece else text) → IsClosed new
put-closed true text piece new closed none e = subst IsClosed (sym e) (no_arrow-closed text piece closed none)
put-closed false text piece new closed none e = subst IsClosed (sym e) closed

pub put-arrows : (room : Bool) (text piece new : List ℕ) → IsClosed text → has_no_arrow piece ≡ true → new ≡ (if room then text ++ piece else text) → arrows_in new ≡ arrows_in text
put-arrows true text piece new closed none e = ap arrows_in e ∙ no_arrow-behind text piece closed none
put-arrows false text piece new closed none e = ap arrows_in e

tag-reads : (name rest : List ℕ) → is_name name ≡ true → arrows_in (tag_of name ++ rest) ≡ name ∷ arrows_in rest
tag-reads name rest named =
    ap arrows_in (append_assoc (codes "<path data-arrow=\"") (name ++ codes "\"") rest ∙ ap (λ l. codes "<path data-arrow=\"" ++ l) (append_assoc name (codes "\"") rest))
    ∙ head-reads name rest named

-- a text with such a tag behind it
tag-behind : (text name rest : List ℕ) → IsClosed text → is_name name ≡ true → arrows_in ((text ++ tag_of name) ++ rest) ≡ arrows_in text ++ (name ∷ arrows_in rest)
tag-behind text name rest closed named =
    ap arrows_in (append_assoc text (tag_of name) rest) ∙ closed (tag_of name ++ rest) ∙ ap (λ l. arrows_in text ++ l) (tag-reads name rest named)

tag-arrows : (text name : List ℕ) → IsClosed text → is_name name ≡ true → arrows_in (text ++ tag_of name) ≡ arrows_in text ++ name ∷ []
tag-arrows text name closed named = ap arrows_in (sym (append-nil (text ++ tag_of name))) ∙ tag-behind text name [] closed named

tag-closed : (text name : List ℕ) → IsClosed text → is_name name ≡ true → IsClosed (text ++ tag_of name)
tag-closed text name closed named rest =
    tag-behind text name rest closed named
    ∙ sym (append_assoc (arrows_in text) (name ∷ []) (arrows_in rest))
    ∙ ap (λ l. l ++ arrows_in rest) (sym (tag-arrows text name closed named))

pub begun-closed : (room : Bool) (text name tag new : List ℕ) → IsClosed text → is_name name ≡ true → tag ≡ tag_of name → new ≡ (if room then text ++ tag else text) → IsClosed new
begun-closed true text name tag new closed named t e = subst IsClosed (sym (e ∙ ap (λ l. text ++ l) t)) (tag-closed text name closed named)
begun-closed false text name tag new closed named t e = subst IsClosed (sym e) closed

pub begun-arrows : (room : Result (Unit {0}) AllocError) (text name tag new : List ℕ) (old : List (List ℕ)) → IsClosed text → is_name name ≡ true → tag ≡ tag_of name → arrows_in text ≡ old →
    new ≡ (if is_ok room then text ++ tag else text) → OnOk room (arrows_in new ≡ old ++ name ∷ [])
begun-arrows (Ok done) text name tag new old closed named t before e = ap arrows_in (e ∙ ap (λ l. text ++ l) t) ∙ tag-arrows text name closed named ∙ ap (λ l. l ++ name ∷ []) before
begun-arrows (Err fault) text name tag new old closed named t before e = tt
