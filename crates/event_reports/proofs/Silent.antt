-- Where no event is enabled.
use Rattle.std.proofs.Common.{◌≡◌, ◌==◌, ◌&&◌, ◌||◌, ◌<◌, ℕ, zero, suc, Bool, true, false, if◌then◌else◌, List, [], ◌∷◌, length, map, get_or, set, refl, arith}
use Rattle.std.specs.List.{list_any}
use Rattle.event_reports.specs.Reports.{EventLine, silent, with_link}

-- one of these events is enabled
abbrev pub any_enabled : List EventLine → Bool
any_enabled events = list_any (λ (e : EventLine). e.enabled) events

-- where none is enabled, that of a CEID is not
pub none_of : (ceid : ℕ) (events : List EventLine) → any_enabled events ≡ false → list_any (λ (e : EventLine). (e.ceid == ceid) && e.enabled) events ≡ false
none_of ceid [] none = refl
none_of ceid (e ∷ events) none = by_line (e.ceid == ceid) e.enabled none (none_of ceid events) where
  by_line : (same on : Bool) → (on || any_enabled events) ≡ false → (any_enabled events ≡ false → list_any (λ (x : EventLine). (x.ceid == ceid) && x.enabled) events ≡ false)
      → ((same && on) || list_any (λ (x : EventLine). (x.ceid == ceid) && x.enabled) events) ≡ false
  by_line same true none rest = absurd (cc)
  by_line true false none rest = rest none
  by_line false false none rest = rest none

-- at first none is enabled
pub silent-none : (ids : List ℕ) → any_enabled (map silent ids) ≡ false
silent-none [] = refl
silent-none (id ∷ ids) = silent-none ids

-- events that stay enabled or not
pub map-enabled : (f : EventLine → EventLine) → ((e : EventLine) → (f e).enabled ≡ e.enabled) → (events : List EventLine) → any_enabled (map f events) ≡ any_enabled events
map-enabled f same [] = refl
map-enabled f same (e ∷ events) = rw (same e, map-enabled f same events) refl

-- another event at a place, which is enabled where that was
pub set-enabled : (events : List EventLine) (i : ℕ) (e d : EventLine) → i < length events → e.enabled ≡ (get_or events i d).enabled → any_enabled (set events i e) ≡ any_enabled events
set-enabled [] i e d less same = absurd (omega arith)
set-enabled (x ∷ events) zero e d less same = rw same refl
set-enabled (x ∷ events) (suc i) e d less same = rw (set-enabled events i e d (omega arith) same) refl

-- a link changes no event's being enabled
pub link-enabled : (ceid : ℕ) (rptids : List ℕ) (e : EventLine) → (with_link ceid rptids e).enabled ≡ e.enabled
link-enabled ceid rptids e = by_name (e.ceid == ceid) where
  by_name : (b : Bool) → (if b then record e { reports = rptids } else e).enabled ≡ e.enabled
  by_name true = refl
  by_name false = refl
