-- The lines of a carrier, and carriers, one after another.
use Rattle.std.proofs.Common.{◌≡◌, ℕ, zero, suc, ◌+◌, ◌-◌, ◌<◌, ◌≤◌, List, [], ◌∷◌, ◌++◌, drop, length, map, Result, Ok, Err, refl, sym, ◌∙◌, ap, subst, append_assoc, add-one, arith}
use Rattle.std.proofs.lemmas.List.{append-nil}
use Rattle.std.specs.List.{AllByRecursion}
use Rattle.hsms_frame.specs.declared.frame.Arrival.{Arrival}
use Rattle.hsms_frame.specs.Cut.{arrivals_of}
use Rattle.tool_events.specs.Sizes.{text_bytes}
use Rattle.tool_events.specs.declared.event.Event.TheVariants as event
use Rattle.tool_events.specs.declared.config.Config.{Config}
use Rattle.tool_events.specs.declared.event.Event.{Event}
use Rattle.line_grammar.specs.declared.line.Line.{Line}
use Rattle.line_grammar.specs.declared.line.Line.TheVariants as line
use Rattle.batch_model.specs.Batch.{Standing, Made, nothing_made, then_made, inputs_of, lot_turn, lot_turns, carrier_made, carriers_made}
use Rattle.batching.specs.declared.batch.Stop.{Stop}
use Rattle.batching.specs.Making.{BatchView, standing, Makes}
use Rattle.batching.specs.Parts.{IsInput}
use Rattle.batching.proofs.Making.{Makes-nothing, Makes-then, Makes-stops}

-- the lines that come before the modules work
abbrev pub first_lines : List ℕ
first_lines = 1 ∷ 2 ∷ 3 ∷ 4 ∷ 5 ∷ []

-- those from the i-th on
abbrev pub lines_from : ℕ → List ℕ
lines_from i = drop (i - 1) first_lines

pub lines-next : (i : ℕ) → 1 ≤ i → i < 6 → lines_from i ≡ i ∷ lines_from (i + 1)
lines-next zero least most = absurd (omega (arith, least))
lines-next (suc zero) least most = refl
lines-next (suc (suc zero)) least most = refl
lines-next (suc (suc (suc zero))) least most = refl
lines-next (suc (suc (suc (suc zero)))) least most = refl
lines-next (suc (suc (suc (suc (suc zero))))) least most = refl
lines-next (suc (suc (suc (suc (suc (suc i)))))) least most = absurd (omega (arith, most))

pub lines-end : (i : ℕ) → 6 ≤ i → i ≤ 6 → lines_from i ≡ []
lines-end i least most = let is : i ≡ 6 = omega (arith, least, most) in ap lines_from is

-- one line, and then the others
pub Makes-lines : (config : Config) (k : ℕ) (a b c : BatchView) (lines : List ℕ) (i : ℕ) (is : List ℕ) (result : Result (Unit {0}) Stop) → lines ≡ i ∷ is → Makes a.core b (lot_turn config k i (standing a)) (Ok tt) → Makes b.core c (lot_turns config k is (standing b)) result → Makes a.core c (lot_turns config k lines (standing a)) result
Makes-lines config k a b c lines i is result same first rest =
    subst (λ (ns : List ℕ). Makes a.core c (lot_turns config k ns (standing a)) result) (sym same)
    (Makes-then a.core b c (lot_turn config k i (standing a)) (lot_turns config k is) result first rest)

pub Makes-lines-stops : (config : Config) (k : ℕ) (a b : BatchView) (lines : List ℕ) (i : ℕ) (is : List ℕ) (why : Stop) → lines ≡ i ∷ is → Makes a.core b (lot_turn config k i (standing a)) (Err why) → Makes a.core b (lot_turns config k lines (standing a)) (Err why)
Makes-lines-stops config k a b lines i is why same first =
    subst (λ (ns : List ℕ). Makes a.core b (lot_turns config k ns (standing a)) (Err why)) (sym same)
    (Makes-stops a.core b (lot_turn config k i (standing a)) (lot_turns config k is) why first)

pub Makes-lines-none : (config : Config) (k : ℕ) (a : BatchView) (lines : List ℕ) → lines ≡ [] → Makes a.core a (lot_turns config k lines (standing a)) (Ok tt)
Makes-lines-none config k a lines none =
    subst (λ (ns : List ℕ). Makes a.core a (lot_turns config k ns (standing a)) (Ok tt)) (sym none) (Makes-nothing a)

-- ---- carriers

-- one carrier, and then the others
pub Makes-carrier : (config : Config) (a b c : BatchView) (left next k : ℕ) (result : Result (Unit {0}) Stop) → left ≡ suc next → Makes a.core b (carrier_made config k (standing a)) (Ok tt) → Makes b.core c (carriers_made next config (k + 1) (standing b)) result → Makes a.core c (carriers_made left config k (standing a)) result
Makes-carrier config a b c left next k result left_is first rest =
    subst (λ (n : ℕ). Makes a.core c (carriers_made n config k (standing a)) result) (sym left_is)
    (Makes-then a.core b c (carrier_made config k (standing a)) (carriers_made next config (k + 1)) result first rest)

pub Makes-carrier-stops : (config : Config) (a b : BatchView) (left next k : ℕ) (why : Stop) → left ≡ suc next → Makes a.core b (carrier_made config k (standing a)) (Err why) → Makes a.core b (carriers_made left config k (standing a)) (Err why)
Makes-carrier-stops config a b left next k why left_is first =
    subst (λ (n : ℕ). Makes a.core b (carriers_made n config k (standing a)) (Err why)) (sym left_is)
    (Makes-stops a.core b (carrier_made config k (standing a)) (carriers_made next config (k + 1)) why first)

pub Makes-carriers-end : (config : Config) (a : BatchView) (left k : ℕ) → left ≡ 0 → Makes a.core a (carriers_made left config k (standing a)) (Ok tt)
Makes-carriers-end config a left k end =
    subst (λ (n : ℕ). Makes a.core a (carriers_made n config k (standing a)) (Ok tt)) (sym end) (Makes-nothing a)

-- before the first carrier all are left
pub Makes-carriers-all : (config : Config) (a b : BatchView) (carriers : ℕ) (result : Result (Unit {0}) Stop) → Makes a.core b (carriers_made (carriers - 0) config (0 + 1) (standing a)) result → Makes a.core b (carriers_made carriers config 1 (standing a)) result
Makes-carriers-all config a b carriers result h =
    let all : carriers - 0 ≡ carriers = omega arith in
    subst (λ (n : ℕ). Makes a.core b (carriers_made n config 1 (standing a)) result) all h

-- ---- the frames of a line

-- the events so far, one more, and those of the frames behind it
pub told-next : (f : Arrival → Event) (all events now : List Event) (arrivals : List Arrival) (x : Arrival) (xs : List Arrival) → arrivals ≡ x ∷ xs → events ++ map f arrivals ≡ all → now ≡ events ++ f x ∷ [] → now ++ map f xs ≡ all
told-next f all events now arrivals x xs is before added =
    ap (λ (es : List Event). es ++ map f xs) added
    ∙ append_assoc events (f x ∷ []) (map f xs)
    ∙ ap (λ (xs : List Arrival). events ++ map f xs) (sym is)
    ∙ before

pub told-all : (f : Arrival → Event) (all events : List Event) (arrivals : List Arrival) → arrivals ≡ [] → events ++ map f arrivals ≡ all → events ≡ all
told-all f all events arrivals none before =
    sym (append-nil events) ∙ ap (λ (xs : List Arrival). events ++ map f xs) (sym none) ∙ before

-- they are inputs
told_inputs : (arrivals : List Arrival) → AllByRecursion IsInput (map (event.Host 1) arrivals)
told_inputs [] = tt
told_inputs (arrival ∷ arrivals) = (tt, told_inputs arrivals)

pub line_inputs : (says : Result Line ℕ) → AllByRecursion IsInput (inputs_of says)
line_inputs (Ok (line.Signal signal)) = (tt, tt)
line_inputs (Ok (line.Bytes bytes)) = told_inputs (arrivals_of text_bytes bytes)
line_inputs _ = tt
