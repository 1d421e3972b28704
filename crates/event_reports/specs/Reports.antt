-- Reports, their links to collection events, and which events are enabled (SEMI E30, event data collection; this tool's
-- profile, reports).
use Rattle.std.specs.Prelude.{ℕ, ◌==◌, Bool, false, not, ◌&&◌, ◌||◌, nat_lt, nat_le, if◌then◌else◌, List, [], ◌∷◌, ◌++◌, length, map, Option}
use Rattle.std.specs.List.{filter, find, list_any, list_all}
use Rattle.std.specs.Option.{option_map, unwrap_or}
use Rattle.item_model.specs.Data.{Data, DataList, list, u4, no_items, item}
use Rattle.gem_rows.specs.Events.{ceids}
use Rattle.gem_rows.specs.Variables.{is_vid}
use Rattle.event_reports.specs.Limits.{most_reports, most_vids, most_linked}
pub use Rattle.event_reports.specs.declared.lines.Report.{Report}
pub use Rattle.event_reports.specs.declared.lines.EventLine.{EventLine}

-- a plant of so many ports and chambers: its reports in the order of their definition, and a line for each of its
-- collection events, rising by CEID
pub record Reports : Type 0 where
  pub ports : ℕ
  pub chambers : ℕ
  pub reports : List Report
  pub events : List EventLine

-- an event that is not enabled and has no link
abbrev pub silent : ℕ → EventLine
silent ceid = record { ceid = ceid; enabled = false; reports = [] }

-- at first no report is defined, no event has a link, and none is enabled
abbrev pub no_reports : ℕ → ℕ → Reports
no_reports ports chambers = record { ports = ports; chambers = chambers; reports = []; events = map silent ceids }

-- the tool has the event
abbrev pub is_event : ℕ → Reports → Bool
is_event ceid r = list_any (λ e. e.ceid == ceid) r.events

-- the report is defined
abbrev pub is_report : ℕ → Reports → Bool
is_report rptid r = list_any (λ p. p.id == rptid) r.reports

-- the event is enabled; another number is not
abbrev pub is_enabled : ℕ → Reports → Bool
is_enabled ceid r = list_any (λ e. (e.ceid == ceid) && e.enabled) r.events

-- the event is linked to a report
abbrev pub has_link : ℕ → Reports → Bool
has_link ceid r = list_any (λ e. (e.ceid == ceid) && not (length e.reports == 0)) r.events

-- ---- answers, of faults and of entries

-- the code of the first fault that there is, and 0 where there is none
abbrev pub first_fault : List (Bool × ℕ) → ℕ
first_fault [] = 0
first_fault (fault ∷ faults) = if fault.0 then fault.1 else first_fault faults

-- The code of a message: that of the first of its entries whose code is not 0, and 0 where there is none. The entries are
-- taken in order, and each is judged after those before it.
abbrev pub first_refusal : {E : Type 0} → (E → Reports → ℕ) → (E → Reports → Reports) → List E → Reports → ℕ
first_refusal code after [] r = 0
first_refusal code after (entry ∷ entries) r =
    if code entry r == 0 then first_refusal code after entries (after entry r) else code entry r

-- what the entries of a message leave, taken in order
abbrev pub after_all : {E : Type 0} → (E → Reports → Reports) → List E → Reports → Reports
after_all after [] r = r
after_all after (entry ∷ entries) r = after_all after entries (after entry r)

-- ---- S2F33, reports

-- a link without a report, at all its places
abbrev pub link_without : ℕ → EventLine → EventLine
link_without rptid e = record e { reports = filter (λ linked_id. not (linked_id == rptid)) e.reports }

-- an event without a link
abbrev pub unlinked : EventLine → EventLine
unlinked e = record e { reports = [] }

-- a report is no longer defined, and stands in no link
abbrev pub without_report : ℕ → Reports → Reports
without_report rptid r = record r {
  reports = filter (λ p. not (p.id == rptid)) r.reports;
  events = map (link_without rptid) r.events;
}

-- no report is defined and none is linked
abbrev pub without_reports : Reports → Reports
without_reports r = record r { reports = []; events = map unlinked r.events }

-- the code of one report, an RPTID with its VIDs (SEMI E5, DRACK; this tool's profile, S2F33)
abbrev pub report_code : ℕ × List ℕ → Reports → ℕ
report_code (rptid, vids) r =
    if length vids == 0 then 0 else first_fault (
    (is_report rptid r, 3)
    ∷ (not (list_all (is_vid r.ports r.chambers) vids), 4)
    ∷ (nat_le most_reports (length r.reports) || nat_lt most_vids (length vids), 1)
    ∷ [])

-- a report without VIDs is deleted, and another one is defined, as the last
abbrev pub after_report : ℕ × List ℕ → Reports → Reports
after_report (rptid, vids) r =
    if length vids == 0 then without_report rptid r
    else record r { reports = r.reports ++ (record { id = rptid; vids = vids }) ∷ [] }

-- the code of a list of reports
abbrev pub drack : List (ℕ × List ℕ) → Reports → ℕ
drack reports r = first_refusal report_code after_report reports r

-- An empty list deletes all reports and links. Another one that is not refused deletes and defines its reports in order.
abbrev pub defined : List (ℕ × List ℕ) → Reports → Reports
defined [] r = without_reports r
defined (report ∷ reports) r =
    if drack (report ∷ reports) r == 0 then after_all after_report (report ∷ reports) r else r

-- ---- S2F35, links

-- the code of one link, a CEID with its RPTIDs (SEMI E5, LRACK; this tool's profile, S2F35)
abbrev pub link_code : ℕ × List ℕ → Reports → ℕ
link_code (ceid, rptids) r =
    if not (is_event ceid r) then 4 else (
    if length rptids == 0 then 0 else first_fault (
    (has_link ceid r, 3)
    ∷ (not (list_all (λ rptid. is_report rptid r) rptids), 5)
    ∷ (nat_lt most_linked (length rptids), 1)
    ∷ []))

-- a line of the event gets these reports
abbrev pub with_link : ℕ → List ℕ → EventLine → EventLine
with_link ceid rptids e = if e.ceid == ceid then record e { reports = rptids } else e

-- the event is linked to these reports, and to none where there are none
abbrev pub after_link : ℕ × List ℕ → Reports → Reports
after_link (ceid, rptids) r = record r { events = map (with_link ceid rptids) r.events }

-- the code of a list of links
abbrev pub lrack : List (ℕ × List ℕ) → Reports → ℕ
lrack links r = first_refusal link_code after_link links r

-- a list of links that is not refused is made in order
abbrev pub linked : List (ℕ × List ℕ) → Reports → Reports
linked links r = if lrack links r == 0 then after_all after_link links r else r

-- ---- S2F37, enabled events

-- the code of a list of events: 1 where one is unknown, else 0 (SEMI E5, ERACK; this tool's profile, S2F37)
abbrev pub erack : List ℕ → Reports → ℕ
erack ceids r = if list_all (λ ceid. is_event ceid r) ceids then 0 else 1

-- an event is among these; the empty list names all
abbrev pub is_named : List ℕ → ℕ → Bool
is_named ceids ceid = (length ceids == 0) || list_any (λ c. c == ceid) ceids

-- a line of a named event is enabled or disabled
abbrev pub with_enabled : Bool → List ℕ → EventLine → EventLine
with_enabled on ceids e = if is_named ceids e.ceid then record e { enabled = on } else e

-- the named events are enabled or disabled, unless one is unknown
abbrev pub enabled : Bool → List ℕ → Reports → Reports
enabled on ceids r =
    if erack ceids r == 0 then record r { events = map (with_enabled on ceids) r.events } else r

-- ---- S6F11, S6F15 and S6F19: what reports say

-- the VIDs of a report; an unknown one has none
abbrev pub vids_of : ℕ → Reports → List ℕ
vids_of rptid r = unwrap_or (option_map (λ p. p.vids) (find (λ p. p.id == rptid) r.reports)) []

-- the reports that an event is linked to, in order; an unknown event has none
abbrev pub link_of : ℕ → Reports → List ℕ
link_of ceid r = unwrap_or (option_map (λ e. e.reports) (find (λ e. e.ceid == ceid) r.events)) []

-- the values of variables; one without a value stands as an empty list
abbrev pub value_items : (ℕ → Option Data) → List ℕ → DataList
value_items value [] = no_items
value_items value (vid ∷ vids) = item (unwrap_or (value vid) (list no_items)) (value_items value vids)

-- the values of a report; an unknown one has none
abbrev pub one_items : (ℕ → Option Data) → ℕ → Reports → DataList
one_items value rptid r = value_items value (vids_of rptid r)

-- a report with its RPTID and its values
abbrev pub report_item : (ℕ → Option Data) → ℕ → Reports → Data
report_item value rptid r = list (item (u4 (rptid ∷ [])) (item (list (one_items value rptid r)) no_items))

-- these reports, in order
abbrev pub items_of_reports : (ℕ → Option Data) → List ℕ → Reports → DataList
items_of_reports value [] r = no_items
items_of_reports value (rptid ∷ rptids) r = item (report_item value rptid r) (items_of_reports value rptids r)

-- the reports of an event in the order of its link; an event without a link and an unknown one have none
abbrev pub report_items : (ℕ → Option Data) → ℕ → Reports → DataList
report_items value ceid r = items_of_reports value (link_of ceid r) r
