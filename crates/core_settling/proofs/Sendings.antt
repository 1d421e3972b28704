-- The first of some notes is sent.
use Rattle.std.proofs.Common.{◌≡◌, List, [], ◌∷◌, Some, None, slice_get, refl, ap}
use Rattle.spool.specs.declared.note.Note.{Note}
use Rattle.transactions.specs.declared.transaction.What.TheVariants as what
use Rattle.gem_model.specs.State.{State}
use Rattle.gem_model.specs.Sending.{asks}
use Rattle.gem_model.specs.Effects.{stream_of_kind, function_of_kind, asks_first}

pub first_asks : (notes : List Note) (g : State) (note : Note) → slice_get notes 0 ≡ Some note → asks (stream_of_kind note.kind) (function_of_kind note.kind) (what.Note note.number) note.text g ≡ asks_first notes g
first_asks [] g note e = absurd (cc)
first_asks (n ∷ ns) g note e =
    let same : note ≡ n = cc in
    ap (λ (x : Note). asks (stream_of_kind x.kind) (function_of_kind x.kind) (what.Note x.number) x.text g) same

-- none is sent where there is none
pub none_asks : (notes : List Note) (g : State) → None ≡ slice_get notes 0 → g ≡ asks_first notes g
none_asks [] g e = refl
none_asks (n ∷ ns) g e = absurd (cc)
