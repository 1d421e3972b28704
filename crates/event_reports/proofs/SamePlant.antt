-- No message changes the plant.
use Rattle.std.proofs.Common.{◌≡◌, ◌==◌, ◌<◌, ℕ, zero, suc, Bool, true, false, if◌then◌else◌, List, [], ◌∷◌, length, map, get_or, set, refl, ◌∙◌, arith}
use Rattle.event_reports.specs.Reports.{EventLine, Reports, silent, link_without, unlinked, with_link, is_named, with_enabled, without_report, after_report, after_link, after_all, drack, defined, lrack, linked, erack, enabled}
use Rattle.event_reports.specs.Sound.{IsSamePlant}

-- events that keep their CEIDs
pub map-ceids : (f : EventLine → EventLine) → ((e : EventLine) → (f e).ceid ≡ e.ceid) → (events : List EventLine) → map (λ (e : EventLine). e.ceid) (map f events) ≡ map (λ (e : EventLine). e.ceid) events
map-ceids f same [] = refl
map-ceids f same (e ∷ events) = rw (same e, map-ceids f same events) refl

-- events that are made of CEIDs have these
pub silent-ceids : (ids : List ℕ) → map (λ (e : EventLine). e.ceid) (map silent ids) ≡ ids
silent-ceids [] = refl
silent-ceids (id ∷ ids) = rw (silent-ceids ids) refl

-- an event of the same CEID at its place
pub set-ceids : (events : List EventLine) (i : ℕ) (e d : EventLine) → i < length events → e.ceid ≡ (get_or events i d).ceid → map (λ (x : EventLine). x.ceid) (set events i e) ≡ map (λ (x : EventLine). x.ceid) events
set-ceids [] i e d less same = absurd (omega arith)
set-ceids (x ∷ events) zero e d less same = rw same refl
set-ceids (x ∷ events) (suc i) e d less same = rw (set-ceids events i e d (omega arith) same) refl

same-plant : (r : Reports) → IsSamePlant r r
same-plant r = record { ports = refl; chambers = refl; events = refl }

same-both : (r s t : Reports) → IsSamePlant r s → IsSamePlant s t → IsSamePlant r t
same-both r s t one two = record { ports = two.ports ∙ one.ports; chambers = two.chambers ∙ one.chambers; events = two.events ∙ one.events }

pub link-ceid : (ceid : ℕ) (rptids : List ℕ) (e : EventLine) → (with_link ceid rptids e).ceid ≡ e.ceid
link-ceid ceid rptids e = by_name (e.ceid == ceid) where
  by_name : (b : Bool) → (if b then record e { reports = rptids } else e).ceid ≡ e.ceid
  by_name true = refl
  by_name false = refl

pub enabled-ceid : (on : Bool) (ceids : List ℕ) (e : EventLine) → (with_enabled on ceids e).ceid ≡ e.ceid
enabled-ceid on ceids e = by_name (is_named ceids e.ceid) where
  by_name : (b : Bool) → (if b then record e { enabled = on } else e).ceid ≡ e.ceid
  by_name true = refl
  by_name false = refl

both-same : (b : Bool) (r s t : Reports) → IsSamePlant r s → IsSamePlant r t → IsSamePlant r (if b then s else t)
both-same true r s t one two = one
both-same false r s t one two = two

same-report : (report : ℕ × List ℕ) (r : Reports) → IsSamePlant r (after_report report r)
same-report (rptid, vids) r =
    both-same (length vids == 0) r (without_report rptid r) _ (record { ports = refl; chambers = refl; events = map-ceids (link_without rptid) (λ e. refl) r.events }) (record { ports = refl; chambers = refl; events = refl })

same-link : (link : ℕ × List ℕ) (r : Reports) → IsSamePlant r (after_link link r)
same-link (ceid, rptids) r = record { ports = refl; chambers = refl; events = map-ceids (with_link ceid rptids) (link-ceid ceid rptids) r.events }

same-all : {E : Type 0} (after : E → Reports → Reports) → ((entry : E) (r : Reports) → IsSamePlant r (after entry r)) → (entries : List E) (r : Reports) → IsSamePlant r (after_all after entries r)
same-all after same [] r = same-plant r
same-all after same (entry ∷ entries) r = same-both r (after entry r) (after_all after entries (after entry r)) (same entry r) (same-all after same entries (after entry r))

pub same-defined : (reports : List (ℕ × List ℕ)) (r : Reports) → IsSamePlant r (defined reports r)
same-defined [] r = record { ports = refl; chambers = refl; events = map-ceids unlinked (λ e. refl) r.events }
same-defined (report ∷ reports) r = both-same (drack (report ∷ reports) r == 0) r _ r (same-all after_report same-report (report ∷ reports) r) (same-plant r)

pub same-linked : (links : List (ℕ × List ℕ)) (r : Reports) → IsSamePlant r (linked links r)
same-linked links r = both-same (lrack links r == 0) r _ r (same-all after_link same-link links r) (same-plant r)

pub same-enabled : (on : Bool) (ceids : List ℕ) (r : Reports) → IsSamePlant r (enabled on ceids r)
same-enabled on ceids r =
    both-same (erack ceids r == 0) r _ r (record { ports = refl; chambers = refl; events = map-ceids (with_enabled on ceids) (enabled-ceid on ceids) r.events }) (same-plant r)
