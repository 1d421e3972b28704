-- What the clock has posted so far, and how it ends.
use Rattle.std.proofs.Common.{◌≡◌, ◌≢◌, ◌⊎◌, inl, inr, List, [], ◌∷◌, ◌++◌, Option, Some, None, refl, sym, subst, ap, ◌∙◌, append-nil, append_assoc}
use Rattle.std.proofs.lemmas.List.{map-append}
use Rattle.gem_ids.specs.declared.moment.Moment.{Moment}
use Rattle.outside.specs.Told.{Grew}
use Rattle.tool_events.specs.declared.entry.Post.{Post}
use Rattle.tool_events.specs.declared.event.Event.TheVariants as event
use Rattle.tool_events.specs.declared.answer.Answer.{Answer}
use Rattle.tool_events.specs.declared.answer.Answer.TheVariants as answer
use Rattle.actors.specs.Ends.{LastEnded, NoneBehindEnded, NoneEnded, IsRefused}
use Rattle.actors.specs.Times.{TimeDid, TimeLooked, Looked, IsSomeOf, AreTicks, moments_of, tick}
use Rattle.actors.specs.declared.end.ActorEnd.{ActorEnd}
use Rattle.actors.specs.declared.end.ActorEnd.TheVariants as end
use Rattle.actors.proofs.Posting.{posts-grow, NoneEnded-append, none-behind, none-behind-last, last-ended}

-- the looks so far, none of which was answered Ended
pub record Ticks (given given' : Option (List Moment)) (posts posts' : List Post) : Type 0 where
  pub new : List Post
  pub grew : posts' ≡ posts ++ new
  pub readings : List Moment
  pub looked : Looked given given' readings
  pub ticks : AreTicks new
  pub at : IsSomeOf (moments_of new) readings
  pub none : NoneEnded new

looked-none : (given : Option (List Moment)) → Looked given given []
looked-none None = tt
looked-none (Some moments) = (moments, refl, sym (append-nil moments))

same-moments : (xs ys : List Moment) → Some xs ≡ Some ys → xs ≡ ys
same-moments xs ys same = cc

-- one reading more
looked-more : (a b c : Option (List Moment)) (readings : List Moment) (at : Moment) → Looked a b readings → Grew b c at → Looked a c (readings ++ at ∷ [])
looked-more a b None readings at looked grew = tt
looked-more a None (Some now) readings at looked grew = cc
looked-more a (Some then_) (Some now) readings at looked grew =
    let same : then_ ≡ grew.0 = same-moments then_ grew.0 grew.1 in (
      looked.0,
      looked.1,
      grew.2 ∙ (ap (λ (moments : List Moment). moments ++ at ∷ []) (sym same ∙ looked.2) ∙ append_assoc looked.0 readings (at ∷ [])),
    )

some-more : (some all : List Moment) (at : Moment) → IsSomeOf some all → IsSomeOf some (all ++ at ∷ [])
some-more [] all at is = tt
some-more (x ∷ some) [] at is = absurd is
some-more (x ∷ some) (y ∷ all) at (inl is) = inl (is.0, some-more some all at is.1)
some-more (x ∷ some) (y ∷ all) at (inr is) = inr (some-more (x ∷ some) all at is)

some-both : (some all : List Moment) (at : Moment) → IsSomeOf some all → IsSomeOf (some ++ at ∷ []) (all ++ at ∷ [])
some-both [] [] at is = inl (refl, tt)
some-both [] (y ∷ all) at is = inr (some-both [] all at tt)
some-both (x ∷ some) [] at is = absurd is
some-both (x ∷ some) (y ∷ all) at (inl is) = inl (is.0, some-both some all at is.1)
some-both (x ∷ some) (y ∷ all) at (inr is) = inr (some-both (x ∷ some) all at is)

ticks-more : (posts : List Post) (at : Moment) (a : Answer) → AreTicks posts → AreTicks (posts ++ tick at a ∷ [])
ticks-more [] at a are = (refl, tt)
ticks-more (p ∷ posts) at a are = (are.0, ticks-more posts at a are.1)

moments-more : (posts : List Post) (all : List Moment) (at : Moment) (a : Answer) → IsSomeOf (moments_of posts) all → IsSomeOf (moments_of (posts ++ tick at a ∷ [])) (all ++ at ∷ [])
moments-more posts all at a is =
    subst (λ (moments : List Moment). IsSomeOf moments (all ++ at ∷ [])) (sym (map-append (λ (p : Post). p.at) posts (tick at a ∷ [])))
    (some-both (moments_of posts) all at is)

pub ticks-begin : (given : Option (List Moment)) (posts : List Post) → Ticks given given posts posts
ticks-begin given posts = record { new = []; grew = sym (append-nil posts); readings = []; looked = looked-none given; ticks = tt; at = tt; none = tt }

-- a look that was answered Done
pub ticks-go : (a b c : Option (List Moment)) (posts posts' posts'' : List Post) (at : Moment) → Ticks a b posts posts' → Grew b c at → posts'' ≡ posts' ++ tick at answer.Done ∷ [] → Ticks a c posts posts''
ticks-go a b c posts posts' posts'' at r grew tells = record {
  new = r.new ++ tick at answer.Done ∷ [];
  grew = posts-grow posts posts' posts'' r.new (tick at answer.Done ∷ []) r.grew tells;
  readings = r.readings ++ at ∷ [];
  looked = looked-more a b c r.readings at r.looked grew;
  ticks = ticks-more r.new at answer.Done r.ticks;
  at = moments-more r.new r.readings at answer.Done r.at;
  none = NoneEnded-append r.new (tick at answer.Done ∷ []) r.none ((λ (is : answer.Done ≡ answer.Ended). cc), tt);
}

-- a look that has to wait
pub ticks-wait : (a b c : Option (List Moment)) (posts posts' posts'' : List Post) (at : Moment) → Ticks a b posts posts' → Grew b c at → posts'' ≡ posts' → Ticks a c posts posts''
ticks-wait a b c posts posts' posts'' at r grew same = record {
  new = r.new;
  grew = same ∙ r.grew;
  readings = r.readings ++ at ∷ [];
  looked = looked-more a b c r.readings at r.looked grew;
  ticks = r.ticks;
  at = some-more (moments_of r.new) r.readings at r.at;
  none = r.none;
}

-- the clock waited, and told nothing
pub ticks-waited : (a b c : Option (List Moment)) (posts posts' : List Post) → Ticks a b posts posts' → c ≡ b → Ticks a c posts posts'
ticks-waited a b c posts posts' r same = record {
  new = r.new;
  grew = r.grew;
  readings = r.readings;
  looked = subst (λ (given : Option (List Moment)). Looked a given r.readings) (sym same) r.looked;
  ticks = r.ticks;
  at = r.at;
  none = r.none;
}

-- a look that was answered Ended
pub time-ends : (a b c : Option (List Moment)) (posts posts' posts'' : List Post) (at : Moment) → Ticks a b posts posts' → Grew b c at → posts'' ≡ posts' ++ tick at answer.Ended ∷ [] → TimeDid a c posts posts'' end.Quit
time-ends a b c posts posts' posts'' at r grew tells = record {
  new = r.new ++ tick at answer.Ended ∷ [];
  grew = posts-grow posts posts' posts'' r.new (tick at answer.Ended ∷ []) r.grew tells;
  readings = r.readings ++ at ∷ [];
  looked = looked-more a b c r.readings at r.looked grew;
  ticks = ticks-more r.new at answer.Ended r.ticks;
  at = moments-more r.new r.readings at answer.Ended r.at;
  no_more = none-behind-last r.new (tick at answer.Ended) r.none;
  ends = inl (refl, last-ended r.new (tick at answer.Ended) refl);
}

-- a look that was refused
pub time-refused : (a b c : Option (List Moment)) (posts posts' posts'' : List Post) (at : Moment) (e : ActorEnd) → Ticks a b posts posts' → Grew b c at → posts'' ≡ posts' → IsRefused e → TimeDid a c posts posts'' e
time-refused a b c posts posts' posts'' at e r grew same refused = record {
  new = r.new;
  grew = same ∙ r.grew;
  readings = r.readings ++ at ∷ [];
  looked = looked-more a b c r.readings at r.looked grew;
  ticks = r.ticks;
  at = some-more (moments_of r.new) r.readings at r.at;
  no_more = none-behind r.new r.none;
  ends = inr refused;
}

-- a look behind which the clock goes on
pub ticks-look : (a b c : Option (List Moment)) (posts posts' posts'' : List Post) → Ticks a b posts posts' → TimeLooked b c posts' posts'' None → Ticks a c posts posts''
ticks-look a b c posts posts' posts'' r (at, grew, inl done) = ticks-go a b c posts posts' posts'' at r grew done
ticks-look a b c posts posts' posts'' r (at, grew, inr same) = ticks-wait a b c posts posts' posts'' at r grew same

-- a look that ended the clock
pub look-ends : (a b c : Option (List Moment)) (posts posts' posts'' : List Post) (e : ActorEnd) → Ticks a b posts posts' → TimeLooked b c posts' posts'' (Some e) → TimeDid a c posts posts'' e
look-ends a b c posts posts' posts'' e r (at, grew, inl (is, tells)) =
    subst (TimeDid a c posts posts'') (sym is) (time-ends a b c posts posts' posts'' at r grew tells)
look-ends a b c posts posts' posts'' e r (at, grew, inr (refused, same)) = time-refused a b c posts posts' posts'' at e r grew same refused

-- one reading, and those behind it
looked-first : (a b c : Option (List Moment)) (at : Moment) (readings : List Moment) → Grew a b at → Looked b c readings → Looked a c (at ∷ readings)
looked-first a b None at readings grew looked = tt
looked-first a None (Some now) at readings grew looked = cc
looked-first a (Some then_) (Some now) at readings grew looked =
    let same : then_ ≡ looked.0 = same-moments then_ looked.0 looked.1 in (
      grew.0,
      grew.1,
      looked.2 ∙ (ap (λ (moments : List Moment). moments ++ readings) (sym same ∙ grew.2) ∙ append_assoc grew.0 (at ∷ []) readings),
    )

some-skip : (some all : List Moment) (at : Moment) → IsSomeOf some all → IsSomeOf some (at ∷ all)
some-skip [] all at is = tt
some-skip (x ∷ some) all at is = inr is

none-behind-first : (p : Post) (posts : List Post) → p.answer ≢ answer.Ended → NoneBehindEnded posts → NoneBehindEnded (p ∷ posts)
none-behind-first p posts not none =
    record { before = p ∷ none.before; last = none.last; joined = ap (λ (x : List Post). p ∷ x) none.joined; none = (not, none.none); one = none.one }

ends-first : (p : Post) (posts : List Post) (e : ActorEnd) → ((e ≡ end.Quit) × LastEnded posts) ⊎ IsRefused e → ((e ≡ end.Quit) × LastEnded (p ∷ posts)) ⊎ IsRefused e
ends-first p posts e (inl (is, (before, last, same, ended))) = inl (is, (p ∷ before, last, ap (λ (x : List Post). p ∷ x) same, ended))
ends-first p posts e (inr refused) = inr refused

-- A first look behind which the clock goes on, and what it did behind that.
pub time-joined : (a b c : Option (List Moment)) (posts posts' posts'' : List Post) (e : ActorEnd) → TimeLooked a b posts posts' None → TimeDid b c posts' posts'' e → TimeDid a c posts posts'' e
time-joined a b c posts posts' posts'' e (at, grew, inl done) r =
    let first : Post = tick at answer.Done in record {
      new = first ∷ r.new;
      grew = posts-grow posts posts' posts'' (first ∷ []) r.new done r.grew;
      readings = at ∷ r.readings;
      looked = looked-first a b c at r.readings grew r.looked;
      ticks = (refl, r.ticks);
      at = inl (refl, r.at);
      no_more = none-behind-first first r.new (λ (is : answer.Done ≡ answer.Ended). cc) r.no_more;
      ends = ends-first first r.new e r.ends;
    }
time-joined a b c posts posts' posts'' e (at, grew, inr same) r = record {
  new = r.new;
  grew = r.grew ∙ ap (λ (x : List Post). x ++ r.new) same;
  readings = at ∷ r.readings;
  looked = looked-first a b c at r.readings grew r.looked;
  ticks = r.ticks;
  at = some-skip (moments_of r.new) r.readings at r.at;
  no_more = r.no_more;
  ends = r.ends;
}

-- the same of a first look that ended it
pub time-looked : (a b : Option (List Moment)) (posts posts' : List Post) (e : ActorEnd) → TimeLooked a b posts posts' (Some e) → TimeDid a b posts posts' e
time-looked a b posts posts' e looked = look-ends a a b posts posts posts' e (ticks-begin a posts) looked
