-- No two reports have one RPTID, and links name defined reports alone.
use Rattle.std.proofs.Common.{◌≡◌, ◌==◌, ℕ, suc, Bool, true, false, not, cond, ◌&&◌, ◌||◌, if◌then◌else◌, List, [], ◌∷◌, ◌++◌, length, map, refl, arith}
use Rattle.std.specs.List.{filter, list_any, list_all, AllByRecursion}
use Rattle.std.proofs.lemmas.Bool.Decides.{nat_tests}
use Rattle.gem_rows.specs.Events.{ceids}
use Rattle.event_reports.specs.Reports.{Report, EventLine, Reports, silent, no_reports, is_event, is_report, has_link, first_refusal, after_all, link_without, unlinked, with_link, is_named, with_enabled, report_code, after_report, link_code, after_link, drack, defined, lrack, linked, erack, enabled}
use Rattle.event_reports.specs.Sound.{AreDifferent, IsLinkedTo, IsSound}

-- ---- RPTIDs

-- an RPTID that no report has is that of none of them
none-filter : (reports : List Report) (test : Report → Bool) (id : ℕ) → list_any (λ (q : Report). q.id == id) reports ≡ false → list_any (λ (q : Report). q.id == id) (filter test reports) ≡ false
none-filter [] test id none = refl
none-filter (p ∷ reports) test id none =
    let here : (p.id == id) ≡ false = grind (arith, nat_tests) in
    let others : list_any (λ (q : Report). q.id == id) reports ≡ false = grind (arith, nat_tests) in
    by_test (test p) here (none-filter reports test id others) where
      by_test : (b : Bool) → (p.id == id) ≡ false → list_any (λ (q : Report). q.id == id) (filter test reports) ≡ false → list_any (λ (q : Report). q.id == id) (cond b (p ∷ filter test reports) (filter test reports)) ≡ false
      by_test true here rest = rw (here, rest) refl
      by_test false here rest = rest

different-filter : (reports : List Report) (test : Report → Bool) → AreDifferent reports → AreDifferent (filter test reports)
different-filter [] test different = tt
different-filter (p ∷ reports) test different = by_test (test p) (none-filter reports test p.id different.0) (different-filter reports test different.1) where
  by_test : (b : Bool) → list_any (λ (q : Report). q.id == p.id) (filter test reports) ≡ false → AreDifferent (filter test reports) → AreDifferent (cond b (p ∷ filter test reports) (filter test reports))
  by_test true none rest = (none, rest)
  by_test false none rest = rest

none-push : (reports : List Report) (p : Report) (id : ℕ) → list_any (λ (q : Report). q.id == id) reports ≡ false → (p.id == id) ≡ false → list_any (λ (q : Report). q.id == id) (reports ++ p ∷ []) ≡ false
none-push [] p id none other = rw other refl
none-push (q ∷ reports) p id none other =
    let here : (q.id == id) ≡ false = grind (arith, nat_tests) in
    let others : list_any (λ (q : Report). q.id == id) reports ≡ false = grind (arith, nat_tests) in
    rw (here, none-push reports p id others other) refl

different-push : (reports : List Report) (p : Report) → AreDifferent reports → list_any (λ (q : Report). q.id == p.id) reports ≡ false → AreDifferent (reports ++ p ∷ [])
different-push [] p different none = (refl, tt)
different-push (q ∷ reports) p different none =
    let here : (p.id == q.id) ≡ false = grind (arith, nat_tests) in
    let others : list_any (λ (q : Report). q.id == p.id) reports ≡ false = grind (arith, nat_tests) in
    (none-push reports p q.id different.0 here, different-push reports p different.1 others)

-- ---- defined reports

-- a report is still defined where another one is
still-push : (reports : List Report) (p : Report) (id : ℕ) → list_any (λ (q : Report). q.id == id) reports ≡ true → list_any (λ (q : Report). q.id == id) (reports ++ p ∷ []) ≡ true
still-push [] p id there = absurd (cc)
still-push (q ∷ reports) p id there = by_test (q.id == id) there (still-push reports p id) where
  by_test : (b : Bool) → (b || list_any (λ (x : Report). x.id == id) reports) ≡ true → (list_any (λ (x : Report). x.id == id) reports ≡ true → list_any (λ (x : Report). x.id == id) (reports ++ p ∷ []) ≡ true) →
      (b || list_any (λ (x : Report). x.id == id) (reports ++ p ∷ [])) ≡ true
  by_test true there rest = refl
  by_test false there rest = rest there

-- a report is still defined where another one is deleted
still-filter : (reports : List Report) (rptid id : ℕ) → (id == rptid) ≡ false → list_any (λ (q : Report). q.id == id) reports ≡ true → list_any (λ (q : Report). q.id == id) (filter (λ (p : Report). not (p.id == rptid)) reports) ≡ true
still-filter [] rptid id other there = absurd (cc)
still-filter (p ∷ reports) rptid id other there = by_test (p.id == rptid) (p.id == id) refl refl there (still-filter reports rptid id other) where
  by_test : (b c : Bool) → (p.id == rptid) ≡ b → (p.id == id) ≡ c → (c || list_any (λ (q : Report). q.id == id) reports) ≡ true →
      (list_any (λ (q : Report). q.id == id) reports ≡ true → list_any (λ (q : Report). q.id == id) (filter (λ (q : Report). not (q.id == rptid)) reports) ≡ true) →
      list_any (λ (q : Report). q.id == id) (cond (not b) (p ∷ filter (λ (q : Report). not (q.id == rptid)) reports) (filter (λ (q : Report). not (q.id == rptid)) reports)) ≡ true
  by_test true true is here there rest = absurd (grind (arith, nat_tests))
  by_test true false is here there rest = rest there
  by_test false true is here there rest = rw here refl
  by_test false false is here there rest = rw here (rest there)

-- what passes one test passes another
all-weaker : (p q : ℕ → Bool) → ((n : ℕ) → p n ≡ true → q n ≡ true) → (ns : List ℕ) → list_all p ns ≡ true → list_all q ns ≡ true
all-weaker p q weaker [] all = refl
all-weaker p q weaker (n ∷ ns) all = by_test (p n) refl all (all-weaker p q weaker ns) where
  by_test : (b : Bool) → p n ≡ b → (b && list_all p ns) ≡ true → (list_all p ns ≡ true → list_all q ns ≡ true) → (q n && list_all q ns) ≡ true
  by_test true here all rest = rw (weaker n here, rest all) refl
  by_test false here all rest = absurd (cc)

-- the same without one number, of which the other test need not hold
all-without : (p q : ℕ → Bool) (id : ℕ) → ((n : ℕ) → (n == id) ≡ false → p n ≡ true → q n ≡ true) → (ns : List ℕ) → list_all p ns ≡ true → list_all q (filter (λ n. not (n == id)) ns) ≡ true
all-without p q id weaker [] all = refl
all-without p q id weaker (n ∷ ns) all = by_test (n == id) (p n) refl refl all (all-without p q id weaker ns) where
  by_test : (b c : Bool) → (n == id) ≡ b → p n ≡ c → (c && list_all p ns) ≡ true → (list_all p ns ≡ true → list_all q (filter (λ m. not (m == id)) ns) ≡ true) →
      list_all q (cond (not b) (n ∷ filter (λ m. not (m == id)) ns) (filter (λ m. not (m == id)) ns)) ≡ true
  by_test true true is here all rest = rest all
  by_test false true is here all rest = rw (weaker n is here, rest all) refl
  by_test b false is here all rest = absurd (cc)

-- ---- links

links-map : (r s : Reports) (f : EventLine → EventLine) → ((e : EventLine) → IsLinkedTo r e → IsLinkedTo s (f e)) → (events : List EventLine) → AllByRecursion (IsLinkedTo r) events → AllByRecursion (IsLinkedTo s) (map f events)
links-map r s f kept [] links = tt
links-map r s f kept (e ∷ events) links = (kept e links.0, links-map r s f kept events links.1)

links-weaker : (r s : Reports) → ((id : ℕ) → is_report id r ≡ true → is_report id s ≡ true) → (events : List EventLine) → AllByRecursion (IsLinkedTo r) events → AllByRecursion (IsLinkedTo s) events
links-weaker r s weaker [] links = tt
links-weaker r s weaker (e ∷ events) links = (all-weaker (λ id. is_report id r) (λ id. is_report id s) weaker e.reports links.0, links-weaker r s weaker events links.1)

silent-linked : (r : Reports) (ids : List ℕ) → AllByRecursion (IsLinkedTo r) (map silent ids)
silent-linked r [] = tt
silent-linked r (id ∷ ids) = (refl, silent-linked r ids)

unlinked-linked : (r : Reports) (events : List EventLine) → AllByRecursion (IsLinkedTo r) (map unlinked events)
unlinked-linked r [] = tt
unlinked-linked r (e ∷ events) = (refl, unlinked-linked r events)

-- ---- messages

not_empty : (n : ℕ) → (suc n == 0) ≡ false
not_empty n = grind (arith, nat_tests)

free : (b : Bool) (more : ℕ) → (if b then 3 else more) ≡ 0 → b ≡ false
free true more none = absurd (cc)
free false more none = refl

sound-report : (report : ℕ × List ℕ) (r : Reports) → report_code report r ≡ 0 → IsSound r → IsSound (after_report report r)
sound-report (rptid, []) r none sound = record {
  different = different-filter r.reports (λ p. not (p.id == rptid)) sound.different;
  linked = links-map r (after_report (rptid, []) r) (link_without rptid)
      (λ e links. all-without (λ id. is_report id r) (λ id. is_report id (after_report (rptid, []) r)) rptid (λ id other there. still-filter r.reports rptid id other there) e.reports links) r.events sound.linked;
}
sound-report (rptid, vid ∷ vids) r none sound =
    let taken = free (is_report rptid r) _ (rw (not_empty (length vids)) at none) in
    let added : Report = record { id = rptid; vids = vid ∷ vids } in
    rw (not_empty (length vids)) (record {
      different = different-push r.reports added sound.different taken;
      linked = links-weaker r (record r { reports = r.reports ++ added ∷ [] }) (λ id there. still-push r.reports added id there) r.events sound.linked;
    })

all_defined : (known has every : Bool) (more : ℕ) → (if not known then 4 else (if has then 3 else (if not every then 5 else more))) ≡ 0 → every ≡ true
all_defined true true every more none = absurd (cc)
all_defined true false true more none = refl
all_defined true false false more none = absurd (cc)
all_defined false has every more none = absurd (cc)

links_defined : (ceid : ℕ) (rptids : List ℕ) (r : Reports) → link_code (ceid, rptids) r ≡ 0 → list_all (λ id. is_report id r) rptids ≡ true
links_defined ceid [] r none = refl
links_defined ceid (rptid ∷ rptids) r none =
    all_defined (is_event ceid r) (has_link ceid r) (list_all (λ id. is_report id r) (rptid ∷ rptids)) _ (rw (not_empty (length rptids)) at none)

link-linked : (ceid : ℕ) (rptids : List ℕ) (r : Reports) → list_all (λ id. is_report id r) rptids ≡ true → (e : EventLine) → IsLinkedTo r e → IsLinkedTo (after_link (ceid, rptids) r) (with_link ceid rptids e)
link-linked ceid rptids r every e links = by_name (e.ceid == ceid) where
  by_name : (b : Bool) → IsLinkedTo (after_link (ceid, rptids) r) (if b then record e { reports = rptids } else e)
  by_name true = every
  by_name false = links

sound-link : (link : ℕ × List ℕ) (r : Reports) → link_code link r ≡ 0 → IsSound r → IsSound (after_link link r)
sound-link (ceid, rptids) r none sound =
    let every = links_defined ceid rptids r none in
    record {
      different = sound.different;
      linked = links-map r (after_link (ceid, rptids) r) (with_link ceid rptids) (link-linked ceid rptids r every) r.events sound.linked;
    }

sound-all : {E : Type 0} (code : E → Reports → ℕ) (after : E → Reports → Reports) → ((entry : E) (r : Reports) → code entry r ≡ 0 → IsSound r → IsSound (after entry r)) →
    (entries : List E) (r : Reports) → first_refusal code after entries r ≡ 0 → IsSound r → IsSound (after_all after entries r)
sound-all code after kept [] r none sound = sound
sound-all code after kept (entry ∷ entries) r none sound = by_test (code entry r == 0) refl none (λ more one. sound-all code after kept entries (after entry r) more one) where
  by_test : (b : Bool) → (code entry r == 0) ≡ b → (if b then first_refusal code after entries (after entry r) else code entry r) ≡ 0 →
      (first_refusal code after entries (after entry r) ≡ 0 → IsSound (after entry r) → IsSound (after_all after entries (after entry r))) → IsSound (after_all after entries (after entry r))
  by_test true is none rest = let fine : code entry r ≡ 0 = grind (arith, nat_tests) in rest none (kept entry r fine sound)
  by_test false is none rest = absurd (grind (arith, nat_tests))

unless_refused : (code : ℕ) (r s : Reports) → IsSound r → (code ≡ 0 → IsSound s) → IsSound (if code == 0 then s else r)
unless_refused code r s sound after = by_test (code == 0) refl where
  by_test : (b : Bool) → (code == 0) ≡ b → IsSound (if b then s else r)
  by_test true is = let fine : code ≡ 0 = grind (arith, nat_tests) in after fine
  by_test false is = sound

pub sound-none : (ports chambers : ℕ) → IsSound (no_reports ports chambers)
sound-none ports chambers = record { different = tt; linked = silent-linked (no_reports ports chambers) ceids }

pub sound-defined : (reports : List (ℕ × List ℕ)) (r : Reports) → IsSound r → IsSound (defined reports r)
sound-defined [] r sound = record { different = tt; linked = unlinked-linked (defined [] r) r.events }
sound-defined (report ∷ reports) r sound =
    unless_refused (drack (report ∷ reports) r) r _ sound (λ none. sound-all report_code after_report sound-report (report ∷ reports) r none sound)

pub sound-linked : (links : List (ℕ × List ℕ)) (r : Reports) → IsSound r → IsSound (linked links r)
sound-linked links r sound = unless_refused (lrack links r) r _ sound (λ none. sound-all link_code after_link sound-link links r none sound)

enabled-linked : (on : Bool) (ids : List ℕ) (r s : Reports) (e : EventLine) → (IsLinkedTo r e → IsLinkedTo s e) → IsLinkedTo r e → IsLinkedTo s (with_enabled on ids e)
enabled-linked on ids r s e same links = by_name (is_named ids e.ceid) where
  by_name : (b : Bool) → IsLinkedTo s (if b then record e { enabled = on } else e)
  by_name true = same links
  by_name false = same links

pub sound-enabled : (on : Bool) (ids : List ℕ) (r : Reports) → IsSound r → IsSound (enabled on ids r)
sound-enabled on ids r sound =
    let s = record r { events = map (with_enabled on ids) r.events } in
    unless_refused (erack ids r) r s sound (λ none. record { different = sound.different; linked = links-map r s (with_enabled on ids) (λ e links. enabled-linked on ids r s e (λ l. l) links) r.events sound.linked })
