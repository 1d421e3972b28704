-- Links that a door gave and took back, one call after another.
use Rattle.std.proofs.Common.{◌≡◌, List, [], ◌∷◌, ◌++◌, Option, Some, None, refl, sym, ap, subst, ◌∙◌, append-nil, append_assoc}
use Rattle.outside.specs.Told.{Given, Grew}
use Rattle.host_actor.specs.Links.{AllGiven, AllBack}

module _ {L : Type 0} where
  given-none : (left : Option (List L)) → AllGiven [] left left
  given-none None = tt
  given-none (Some links) = (links, refl, refl)

  -- none was given
  pub given-as : (left left' : Option (List L)) → left' ≡ left → AllGiven [] left left'
  given-as left left' same = subst (λ (l : Option (List L)). AllGiven [] left l) (sym same) (given-none left)

  pub given-one : (link : L) (left left' : Option (List L)) → Given (Some link) left left' → AllGiven (link ∷ []) left left'
  given-one link None left' gave = tt
  given-one link (Some links) left' gave = gave

  pub given-more : (xs ys : List L) (a b c : Option (List L)) → AllGiven xs a b → AllGiven ys b c → AllGiven (xs ++ ys) a c
  given-more xs ys None b c first second = tt
  given-more xs ys (Some links) b c first second =
      let more : AllGiven ys (Some first.0) c = subst (λ (l : Option (List L)). AllGiven ys l c) first.2 second in
      (more.0, first.1 ∙ (ap (λ (l : List L). xs ++ l) more.1 ∙ sym (append_assoc xs ys more.0)), more.2)

  same-list : (xs ys : List L) → Some xs ≡ Some ys → xs ≡ ys
  same-list xs ys same = cc

  back-none : (backs : Option (List L)) → AllBack [] backs backs
  back-none None = tt
  back-none (Some links) = (links, refl, sym (append-nil links))

  -- none was handed back
  pub back-as : (backs backs' : Option (List L)) → backs' ≡ backs → AllBack [] backs backs'
  back-as backs backs' same = subst (λ (l : Option (List L)). AllBack [] backs l) (sym same) (back-none backs)

  pub back-one : (link : L) (backs backs' : Option (List L)) → Grew backs backs' link → AllBack (link ∷ []) backs backs'
  back-one link backs None grew = tt
  back-one link backs (Some links) grew = grew

  pub back-more : (xs ys : List L) (a b c : Option (List L)) → AllBack xs a b → AllBack ys b c → AllBack (xs ++ ys) a c
  back-more xs ys a b None first second = tt
  back-more xs ys a None (Some links) first second = cc
  back-more xs ys a (Some mid) (Some links) first second =
      let same : mid ≡ second.0 = same-list mid second.0 second.1 in (
        first.0,
        first.1,
        second.2 ∙ (ap (λ (l : List L). l ++ ys) (sym same ∙ first.2) ∙ append_assoc first.0 xs ys),
      )
