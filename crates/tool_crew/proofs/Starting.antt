-- The first look at the clock, and what the clock did behind it.
use Rattle.std.proofs.Common.{sym, subst, List, Option, Some, None}
use Rattle.gem_ids.specs.declared.moment.Moment.{Moment}
use Rattle.tool_events.specs.declared.entry.Post.{Post}
use Rattle.actors.specs.declared.end.ActorEnd.{ActorEnd}
use Rattle.actors.specs.Times.{TimeLooked, TimeDid}
use Rattle.actors.proofs.Ticking.{time-joined, time-looked}
use Rattle.tool_crew.specs.Doings.{TimeWent}

pub time_whole : (ended : Option ActorEnd) (a b c : Option (List Moment)) (posts posts' posts'' : List Post) (e : ActorEnd) → TimeLooked a b posts posts' ended → TimeWent ended b c posts' posts'' e → TimeDid a c posts posts'' e
time_whole None a b c posts posts' posts'' e looked went = time-joined a b c posts posts' posts'' e looked went
time_whole (Some end) a b c posts posts' posts'' e looked went =
    subst (λ x. TimeDid a x posts posts'' e) (sym went.0)
    (subst (λ x. TimeDid a b posts x e) (sym went.1)
    (subst (TimeDid a b posts posts') (sym went.2) (time-looked a b posts posts' end looked)))
