-- One change more.
use Rattle.std.proofs.Common.{true, ◌≡◌, inl, inr, ℕ, ◌+◌, ◌<◌, List, [], ◌∷◌, ◌++◌, length, sym, ◌∙◌, ap, subst, arith, length-append}
use Rattle.spool.specs.declared.note.Note.{Note}
use Rattle.nv_spool.specs.Writing.{WithOrWithout, BeforeOrAfter}
use Rattle.spool_format.proofs.Moments.{then, weaker}
use Rattle.spool_format.specs.Runs.{LeavesOnly}
use Rattle.outside.specs.Disk.{Each}
use Rattle.spool_format.proofs.Replayed.{replayed-push, stand-push}
use Rattle.spool_format.proofs.Spelled.{spelled-push}
use Rattle.spool_format.specs.Format.{Sizes, IsSize, CanStand, may_follow, Stand, StandsFor, replayed, changed, body, record_bytes, spelled, Shows, Settled}
use Rattle.spool_format.specs.declared.change.Change.{Change}

module _ (s : Sizes) (selector end : ℕ) (notes : List Note) (change : Change) (can : CanStand change) (may : may_follow change notes ≡ true) (images : List ℕ → Type 0) (settled : Settled s selector end notes images) where
  more_stand : (gate : ℕ) → 0 < gate → Stand s.capacity [] (settled.records ++ (gate, change) ∷ [])
  more_stand gate opened = stand-push s.capacity [] settled.records (gate, change) settled.stand opened can (sym (ap (λ (ns : List Note). may_follow change ns) settled.notes_are) ∙ may)

  more_notes : (gate : ℕ) → changed s.capacity change notes ≡ replayed s.capacity [] (settled.records ++ (gate, change) ∷ [])
  more_notes gate = ap (λ (ns : List Note). changed s.capacity change ns) settled.notes_are ∙ sym (replayed-push s.capacity [] settled.records (gate, change))

  -- the records with this one or without it stand for the notes behind the change or before it
  pub either : IsSize s → (c : List ℕ) → WithOrWithout s selector settled.records change c → BeforeOrAfter s notes (changed s.capacity change notes) c
  either size c (inl without) = inl (record { size = size; selector = selector; records = settled.records; shows = without; stand = settled.stand; notes_are = settled.notes_are })
  either size c (inr more) = inr (record {
    size = size;
    selector = selector;
    records = settled.records ++ (more.0, change) ∷ [];
    shows = more.2;
    stand = more_stand more.0 more.1;
    notes_are = more_notes more.0;
  })

  pub settled_more : (new : List ℕ → Type 0) → Each new (Shows s selector (settled.records ++ (1, change) ∷ [])) → Settled s selector (end + (1 + length (body change))) (changed s.capacity change notes) new
  settled_more new shows = record {
    records = settled.records ++ (1, change) ∷ [];
    stand = more_stand 1 (omega arith);
    notes_are = more_notes 1;
    end_is = omega (arith, settled.end_is, ap length (spelled-push settled.records (1, change)), length-append (spelled settled.records) (record_bytes (1, change)));
    shows = shows;
  }

-- a record of so many bytes behind its gate fits
pub fits_behind : (change : Change) (text : List ℕ) (end n half : ℕ) → text ≡ body change ++ 0 ∷ [] → end ≡ n → end + length text < half → n + 1 + length (body change) < half
fits_behind change text end n half is end_is room = omega (arith, ap length is, length-append (body change) (0 ∷ []), end_is, room)

-- room was made, by whatever sizes are the same, and a record appended
pub put_moments : {D : Type 0} (moment : D → ℕ) (left_since : D → ℕ → List ℕ → Type 0) (old mid new : D) (s z : Sizes) → z ≡ s → IsSize s → (selector end : ℕ) (notes : List Note) (change : Change) → CanStand change → may_follow change notes ≡ true
    → (images : List ℕ → Type 0) → (settled : Settled z selector end notes images) → LeavesOnly moment left_since old mid (StandsFor s notes) → LeavesOnly moment left_since mid new (WithOrWithout z selector settled.records change)
    → LeavesOnly moment left_since old new (BeforeOrAfter s notes (changed s.capacity change notes))
put_moments moment left_since old mid new s z same size selector end notes change can may images settled room appended =
    let P = BeforeOrAfter s notes (changed s.capacity change notes) in
    then moment left_since old mid new P (WithOrWithout z selector settled.records change)
    (weaker moment left_since old mid (StandsFor s notes) P room (λ image stands. inl stands))
    appended
    (λ image both. subst (λ (x : Sizes). BeforeOrAfter x notes (changed x.capacity change notes) image) same (either z selector end notes change can may images settled (subst IsSize (sym same) size) image both))
