use Rattle.std.proofs.Common.{◌∷◌, [], ◌++◌, ℕ, List, refl, sym, ◌∙◌, subst, arith}
use Rattle.std.proofs.lemmas.Result.{on_ok_weaker}
use Rattle.outside.specs.Disk.{HasAt}
use Rattle.spool_format.proofs.Pieces.{left_part, right_part}
use Rattle.spool_format.specs.Format.{Sizes, Shows, StandsFor, head_bytes}
use Rattle.nv_spool.proofs.formatting.format_disk.Goals as goal

pub returns-clause-stands : goal.returns-clause-stands
returns-clause-stands g c =
    on_ok_weaker c.sync.result
    (λ durable t f left.
    let s : Sizes = record { capacity = c.args.capacity; half = c.args.half } in
    let R = g.D.Disk.reads c.write_at.new.self in
    let there : HasAt R 0 (head_bytes s 0 ++ 0 ∷ []) = subst (λ (l : List ℕ). HasAt R 0 l) c.empty_bytes.ensures (c.in_ok-write_at.ensures.written t).there in
    let shows : Shows s 0 [] R = record { head = left_part R 0 (head_bytes s 0) (0 ∷ []) there; text = right_part R 0 13 (head_bytes s 0) (0 ∷ []) refl there; within = omega (arith, c.requires.enough) } in
    let stands : StandsFor s [] R = record { size = c.requires; selector = 0; records = []; shows = shows; stand = tt; notes_are = refl } in
    subst (StandsFor s []) (sym (durable (c.write_at.ensures.tells ∙ t) f left)) stands)
    c.sync.ensures.durable
