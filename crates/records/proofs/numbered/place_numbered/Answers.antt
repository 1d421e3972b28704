use Rattle.std.proofs.Common.{rules, ◌≡◌, ◌==◌, ◌∙◌, ltb, ltb-true, ltb-false, false, Some, None, slice_get, refl, sym, arith}
use Rattle.std.proofs.lemmas.Option.{slice_get_read, slice_get_past}
use Rattle.std.proofs.lemmas.Bool.Decides.{nat_tests}
use Rattle.std.proofs.lemmas.List.Sorted.{IsPartitionPoint-from_clause, IsPartitionedBy-ltb}
use Rattle.records.proofs.Rising.{non_decreasing, searched_here, searched_other, searched_none}
use Rattle.records.proofs.numbered.place_numbered.Goals as goal

pub returns-then-number : goal.returns-then-number
returns-then-number g c =
    let number = g.R.Numbered.number in
    let parted = IsPartitionedBy-ltb number _ c.args.number (non_decreasing number 0 c.requires.rising.0 c.args.records.now c.requires.rising.1) in
    let point = IsPartitionPoint-from_clause (λ y. ltb (number y) c.args.number) _ _ c.partition_point-place.ensures.partitioned parted (λ a r q k. search rules) in
    let there : slice_get c.args.records.now c.partition_point-place.result ≡ Some c.in-Some.record.now =
    slice_get_read c.args.records.now _ c.partition_point-place.result c.in-Some.record.now refl (ltb-true _ _ (sym c.in-Some.ensures.lookup.0)) c.in-Some.ensures.lookup.1 in
    let same : number c.in-Some.record.now ≡ c.args.number = sym c.number.ensures ∙ c.if-number.true in
    searched_here number c.args.number c.requires.rising.0 c.partition_point-place.result c.args.records.now c.requires.rising.1
    (λ i d l m. ltb-true _ _ (point.0 i d (omega arith) l)) (λ i d l m. ltb-false _ _ (point.1 i d l m)) c.in-Some.record.now there same

pub returns-else-number : goal.returns-else-number
returns-else-number g c =
    let number = g.R.Numbered.number in
    let parted = IsPartitionedBy-ltb number _ c.args.number (non_decreasing number 0 c.requires.rising.0 c.args.records.now c.requires.rising.1) in
    let point = IsPartitionPoint-from_clause (λ y. ltb (number y) c.args.number) _ _ c.partition_point-place.ensures.partitioned parted (λ a r q k. search rules) in
    let there : slice_get c.args.records.now c.partition_point-place.result ≡ Some c.in-Some.record.now =
    slice_get_read c.args.records.now _ c.partition_point-place.result c.in-Some.record.now refl (ltb-true _ _ (sym c.in-Some.ensures.lookup.0)) c.in-Some.ensures.lookup.1 in
    let other : (number c.in-Some.record.now == c.args.number) ≡ false = grind (arith, nat_tests, c.number.ensures, c.if-number.false) in
    searched_other number c.args.number c.requires.rising.0 c.partition_point-place.result c.args.records.now c.requires.rising.1
    (λ i d l m. ltb-true _ _ (point.0 i d (omega arith) l)) (λ i d l m. ltb-false _ _ (point.1 i d l m)) c.in-Some.record.now there other

pub returns-in-None : goal.returns-in-None
returns-in-None g c =
    let number = g.R.Numbered.number in
    let parted = IsPartitionedBy-ltb number _ c.args.number (non_decreasing number 0 c.requires.rising.0 c.args.records.now c.requires.rising.1) in
    let point = IsPartitionPoint-from_clause (λ y. ltb (number y) c.args.number) _ _ c.partition_point-place.ensures.partitioned parted (λ a r q k. search rules) in
    let there : slice_get c.args.records.now c.partition_point-place.result ≡ None =
    slice_get_past c.args.records.now c.partition_point-place.result (ltb-false _ _ (sym c.in-None.ensures.lookup.0)) in
    searched_none number c.args.number c.requires.rising.0 c.partition_point-place.result c.args.records.now c.requires.rising.1
    (λ i d l m. ltb-true _ _ (point.0 i d (omega arith) l)) (λ i d l m. ltb-false _ _ (point.1 i d l m)) there
