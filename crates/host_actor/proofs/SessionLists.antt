-- Sessions behind sessions.
use Rattle.std.proofs.Common.{◌≡◌, List, [], ◌∷◌, ◌++◌, map, refl, sym, ap, ◌∙◌, append_assoc}
use Rattle.std.proofs.lemmas.List.{map-append}
use Rattle.tool_events.specs.declared.entry.Post.{Post}
use Rattle.tool_events.specs.declared.event.Event.TheVariants as event
use Rattle.tool_events.specs.declared.answer.Answer.TheVariants as answer
use Rattle.host_actor.specs.Links.{LinkTold}
use Rattle.host_actor.specs.Sessions.{Session, AreSessions, AllGoOn, post_of, all_reads, all_writes, all_bytes}

module _ {L : Type 0} where
  pub are-more : (told : L → LinkTold) (xs ys : List (Session L)) → AreSessions told xs → AreSessions told ys → AreSessions told (xs ++ ys)
  are-more told [] ys a b = b
  are-more told (x ∷ xs) ys a b = (a.0, are-more told xs ys a.1 b)

  pub go-more : (xs ys : List (Session L)) → AllGoOn xs → AllGoOn ys → AllGoOn (xs ++ ys)
  go-more [] ys a b = b
  go-more (x ∷ xs) ys a b = (a.0, go-more xs ys a.1 b)

  pub reads-more : (xs ys : List (Session L)) → all_reads (xs ++ ys) ≡ all_reads xs ++ all_reads ys
  reads-more [] ys = refl
  reads-more (s ∷ xs) ys =
      let up : Post = post_of event.LinkUp (answer.Session s.number) in
      ap (λ (l : List Post). up ∷ (s.reads ++ l)) (reads-more xs ys) ∙ ap (λ (l : List Post). up ∷ l) (sym (append_assoc s.reads (all_reads xs) (all_reads ys)))

  pub writes-more : (xs ys : List (Session L)) → all_writes (xs ++ ys) ≡ all_writes xs ++ all_writes ys
  writes-more [] ys = refl
  writes-more (s ∷ xs) ys =
      ap (λ (l : List Post). s.writes ++ l) (writes-more xs ys) ∙ sym (append_assoc s.writes (all_writes xs) (all_writes ys))

  pub bytes-more : (xs ys : List (Session L)) → all_bytes (xs ++ ys) ≡ all_bytes xs ++ all_bytes ys
  bytes-more xs ys = map-append _ xs ys

  pub givens-more : (xs ys : List (Session L)) → map (λ (s : Session L). s.given) (xs ++ ys) ≡ map (λ (s : Session L). s.given) xs ++ map (λ (s : Session L). s.given) ys
  givens-more xs ys = map-append (λ (s : Session L). s.given) xs ys

  pub backs-more : (xs ys : List (Session L)) → map (λ (s : Session L). s.back) (xs ++ ys) ≡ map (λ (s : Session L). s.back) xs ++ map (λ (s : Session L). s.back) ys
  backs-more xs ys = map-append (λ (s : Session L). s.back) xs ys
