-- Grammars of lines: which text says which value, and at which byte a text that says none leaves the grammar (this tool's
-- profile, input lines).
use Rattle.std.specs.Prelude.{◌≡◌, ℕ, ◌+◌, ◌<◌, ◌≤◌, ◌⊎◌, List, [], ◌∷◌, ◌++◌, length, take, Result, Ok, Err}
use Rattle.line_grammar.specs.declared.line.LineFault.{LineFault}
use Rattle.line_grammar.specs.declared.line.LineFault.TheVariants as fault
use Rattle.line_grammar.specs.Words.{Word, Value, IsWord}

-- what stands before the rest of a line: these very bytes, or a word and one space behind it (this tool's profile, input
-- lines)
pub data Part : Type 0 where
  literal : List ℕ → Part
  word : Word → Part

-- what a part stands for: bytes that are always the same say nothing
abbrev pub PartValue : Part → Type 0
PartValue (literal t) = Unit {0}
PartValue (word w) = Value w

-- the lines that say values: the end of the line, with its value; whatever bytes are left; one last word; a part and what
-- follows it; one line or the other
pub data Grammar (V : Type 0) : Type 0 where
  gives : V → Grammar V
  anything : V → Grammar V
  last : (w : Word) → (Value w → V) → Grammar V
  part : (p : Part) → (PartValue p → Grammar V) → Grammar V
  either : Grammar V → Grammar V → Grammar V

-- a part, and the lines behind it by what it stands for
infixl 10 ◌>>=◌
abbrev pub ◌>>=◌ : {V : Type 0} → (p : Part) → (PartValue p → Grammar V) → Grammar V
p >>= rest = part p rest

-- one line or the other
infixl 4 ◌or◌
abbrev pub ◌or◌ : {V : Type 0} → Grammar V → Grammar V → Grammar V
a or b = either a b

-- these very bytes, and no more
abbrev pub says : {V : Type 0} → List ℕ → V → Grammar V
says t v = part (literal t) (λ done. gives v)

-- the same lines, with other values
abbrev pub mapped : {U V : Type 0} → (U → V) → Grammar U → Grammar V
mapped f (gives v) = gives (f v)
mapped f (anything v) = anything (f v)
mapped f (last w g) = last w (λ x. f (g x))
mapped f (part p k) = part p (λ x. mapped f (k x))
mapped f (either a b) = either (mapped f a) (mapped f b)

-- a part, and the same lines behind it whatever it stands for
infixl 10 ◌>>◌
abbrev pub ◌>>◌ : {V : Type 0} → Part → Grammar V → Grammar V
p >> rest = part p (λ v. rest)

-- the text says this value: the one meaning of a grammar
abbrev pub Says : {V : Type 0} → Grammar V → List ℕ → V → Type 0
Says (gives v) text x = (text ≡ []) × (x ≡ v)
Says (anything v) text x = x ≡ v
Says (last w f) text x = (v : Value w) × IsWord w text v × (x ≡ f v)
Says (part (literal t) k) text x = (back : List ℕ) × (text ≡ t ++ back) × Says (k tt) back x
Says (part (word w) k) text x =
    (v : Value w) × (front : List ℕ) × (back : List ℕ) × (text ≡ front ++ 32 ∷ back) × IsWord w front v × Says (k v) back x
Says (either a b) text x = Says a text x ⊎ Says b text x

-- some text that begins so says a value
abbrev pub CanGoOn : {V : Type 0} → (List ℕ → V → Type 0) → List ℕ → Type 0
CanGoOn {V} L front = (more : List ℕ) × (v : V) × L (front ++ more) v

-- The text says nothing, and leaves the grammar at this place: some line of the grammar begins with the bytes before it, and
-- none with one byte more. Where only more was wanted it is the length of the text (this tool's profile, refused lines).
pub record LeavesAt {V : Type 0} (L : List ℕ → V → Type 0) (text : List ℕ) (place : ℕ) : Type 0 where
  pub within : place ≤ length text
  pub begins : CanGoOn L (take place text)
  pub ends : place < length text → CanGoOn L (take (place + 1) text) → ⊥
  pub outside : (v : V) → L text v → ⊥

-- the value is said by the text, and no other is; or the place is where the text leaves the grammar
abbrev pub ReadAs : {V : Type 0} → Grammar V → List ℕ → Result V ℕ → Type 0
ReadAs {V = V} g text (Ok x) = Says g text x × ((y : V) → Says g text y → y ≡ x)
ReadAs g text (Err place) = LeavesAt (Says g) text place

-- the answer of a reader: the value or the place, unless memory ran out
abbrev pub Reads : {V : Type 0} → Grammar V → List ℕ → Result V LineFault → Type 0
Reads g text (Ok x) = ReadAs g text (Ok x)
Reads g text (Err (fault.Place place)) = ReadAs g text (Err place)
Reads g text (Err fault.NoMemory) = Unit {0}
