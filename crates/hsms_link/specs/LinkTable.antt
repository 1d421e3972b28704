-- What a header does on a link (SEMI E37, message exchange procedures; this tool's profile, what a header does).
use Rattle.std.specs.Prelude.{ℕ, Bool, true, not, ◌&&◌, ◌==◌, if◌then◌else◌, List, [], ◌∷◌}
use Rattle.hsms_frame.specs.declared.frame.Header.{Header}
use Rattle.hsms_link.specs.declared.state.LinkState.{LinkState}
use Rattle.hsms_link.specs.declared.state.Phase.TheVariants.{Selected}
use Rattle.hsms_link.specs.declared.state.Ping.TheVariants.{Quiet}
use Rattle.hsms_link.specs.declared.table.LinkAct.{LinkAct}
use Rattle.hsms_link.specs.declared.table.LinkAct.TheVariants.{Reply, Data, Ended, Nothing}
use Rattle.hsms_link.specs.Links.{is_selected, is_asked}

-- a row of the table: where it fits, what is done, and from the header's moment and the state the state after it
pub record LinkRow : Type 0 where
  pub fits : Header → LinkState → Bool
  pub act : Header → LinkAct
  pub next : ℕ → LinkState → LinkState

-- a row, as the table writes it
abbrev pub row : (Header → LinkState → Bool) → (Header → LinkAct) → (ℕ → LinkState → LinkState) → LinkRow
row fits act next = record { fits = fits; act = act; next = next }

-- ---- where a row fits

-- a presentation type other than SECS-II
abbrev pub other_ptype : Header → LinkState → Bool
other_ptype h link = not (h.ptype == 0)

-- this session type
abbrev pub stype : ℕ → Header → LinkState → Bool
stype n h link = h.stype == n

-- this session type on a link that isn't selected
abbrev pub stype_unselected : ℕ → Header → LinkState → Bool
stype_unselected n h link = (h.stype == n) && not (is_selected link.phase)

-- this session type on a selected link
abbrev pub stype_selected : ℕ → Header → LinkState → Bool
stype_selected n h link = (h.stype == n) && is_selected link.phase

-- a linktest response with the system bytes of the open linktest
abbrev pub answers_linktest : Header → LinkState → Bool
answers_linktest h link = (h.stype == 6) && is_asked h.system link.ping

-- every header
abbrev pub any : Header → LinkState → Bool
any h link = true

-- ---- what is done

-- a response to a select or linktest request, with its session type and status
abbrev pub response : ℕ → ℕ → Header → LinkAct
response stype status h = Reply (record { session = 65535; byte2 = 0; byte3 = status; ptype = 0; stype = stype; system = h.system })

-- a reject, with its reason and the type that is rejected
abbrev pub reject : ℕ → ℕ → Header → LinkAct
reject reason type h = Reply (record { session = h.session; byte2 = type; byte3 = reason; ptype = 0; stype = 7; system = h.system })

-- this act, whatever the header is
abbrev pub does : LinkAct → Header → LinkAct
does act h = act

-- ---- the state after it

-- the same state
abbrev pub stays : ℕ → LinkState → LinkState
stays at link = link

-- the link is selected, and the linktest period begins
abbrev pub selects : ℕ → LinkState → LinkState
selects at link = record link { phase = Selected; ping = Quiet (record { 0 = at }) }

-- the linktest is closed, and the period begins again
abbrev pub closes_linktest : ℕ → LinkState → LinkState
closes_linktest at link = record link { ping = Quiet (record { 0 = at }) }

-- The table, of which the first row that fits is taken. Session types: 0 data, 1 select request, 2 select response,
-- 5 linktest request, 6 linktest response, 7 reject, 9 separate. Reasons of a reject: 1 session type, 2 presentation
-- type, 3 no open transaction, 4 not selected.
abbrev pub link_table : List LinkRow
link_table =
    row other_ptype (λ h. reject 2 h.ptype h) stays
    ∷ row (stype_unselected 0) (reject 4 0) stays
    ∷ row (stype_selected 0) (does Data) stays
    ∷ row (stype_unselected 1) (response 2 0) selects
    ∷ row (stype_selected 1) (response 2 1) stays
    ∷ row (stype 5) (response 6 0) stays
    ∷ row answers_linktest (does Nothing) closes_linktest
    ∷ row (stype 2) (reject 3 2) stays
    ∷ row (stype 6) (reject 3 6) stays
    ∷ row (stype 7) (does Nothing) stays
    ∷ row (stype_selected 9) (does Ended) stays
    ∷ row (stype_unselected 9) (does Nothing) stays
    ∷ row any (λ h. reject 1 h.stype h) stays
    ∷ []

-- what the first row that fits does
abbrev pub first_act : List LinkRow → Header → LinkState → LinkAct
first_act [] h link = Nothing
first_act (r ∷ rows) h link = if r.fits h link then r.act h else first_act rows h link

-- the state after the first row that fits
abbrev pub first_next : List LinkRow → Header → ℕ → LinkState → LinkState
first_next [] h at link = link
first_next (r ∷ rows) h at link = if r.fits h link then r.next at link else first_next rows h at link

-- what a header does on a link
abbrev pub link_act : Header → LinkState → LinkAct
link_act h link = first_act link_table h link

-- the link after a header came at a moment
abbrev pub link_after : Header → ℕ → LinkState → LinkState
link_after h at link = first_next link_table h at link
