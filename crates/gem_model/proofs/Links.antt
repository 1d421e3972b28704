-- What a header leaves of a link.
use Rattle.std.proofs.Common.{◌≡◌, ℕ, Bool, true, false, if◌then◌else◌, List, [], ◌∷◌, None, refl}
use Rattle.hsms_frame.specs.declared.frame.Header.{Header}
use Rattle.hsms_link.specs.declared.state.LinkState.{LinkState}
use Rattle.hsms_link.specs.Links.{is_up, is_selected}
use Rattle.hsms_link.specs.LinkTable.{LinkRow, stays, selects, closes_linktest, link_table, first_next, link_after}
use Rattle.hsms_link.specs.declared.state.Phase.{Phase}
use Rattle.hsms_link.specs.declared.state.Phase.TheVariants.{Down, NotSelected, Selected}
use Rattle.hsms_link.specs.declared.state.Ping.{Ping}
use Rattle.hsms_link.specs.declared.deadlines.LinkTimes.{LinkTimes}
use Rattle.hsms_link.specs.Deadlines.{due_at}

-- the link is of the same session, still up, and still selected
pub record Keeps (before after : LinkState) : Type 0 where
  pub session : after.session ≡ before.session
  pub up : is_up before.phase ≡ true → is_up after.phase ≡ true
  pub selected : is_selected before.phase ≡ true → is_selected after.phase ≡ true

keeps_stays : (at : ℕ) (link : LinkState) → Keeps link (stays at link)
keeps_stays at link = record { session = refl; up = λ up. up; selected = λ is. is }

keeps_selects : (at : ℕ) (link : LinkState) → Keeps link (selects at link)
keeps_selects at link = record { session = refl; up = λ up. refl; selected = λ is. refl }

keeps_closes : (at : ℕ) (link : LinkState) → Keeps link (closes_linktest at link)
keeps_closes at link = record { session = refl; up = λ up. up; selected = λ is. is }

one_of : (b : Bool) (link x y : LinkState) → Keeps link x → Keeps link y → Keeps link (if b then x else y)
one_of true link x y at_x at_y = at_x
one_of false link x y at_x at_y = at_y

-- each row of a table keeps the session
abbrev AllKeep : List LinkRow → Type 0
AllKeep [] = Unit {0}
AllKeep (l ∷ lines) = ((at : ℕ) (link : LinkState) → Keeps link (l.next at link)) × AllKeep lines

first_next-keeps : (lines : List LinkRow) → AllKeep lines → (h : Header) (at : ℕ) (link : LinkState) → Keeps link (first_next lines h at link)
first_next-keeps [] all h at link = keeps_stays at link
first_next-keeps (l ∷ lines) all h at link = one_of (l.fits h link) link (l.next at link) (first_next lines h at link) (all.0 at link) (first_next-keeps lines all.1 h at link)

pub link_after-keeps : (h : Header) (at : ℕ) (link : LinkState) → Keeps link (link_after h at link)
link_after-keeps h at link =
    first_next-keeps link_table
    (keeps_stays, (keeps_stays, (keeps_stays, (keeps_selects, (keeps_stays, (keeps_stays, (keeps_closes, (keeps_stays, (keeps_stays, (keeps_stays, (keeps_stays, (keeps_stays, (keeps_stays, tt))))))))))))) h at link

-- nothing is due on a link that is down
pub due-down : (times : LinkTimes) (session : ℕ) (phase : Phase) (ping : Ping) (at : ℕ) → is_up phase ≡ false → due_at times (record { session = session; phase = phase; ping = ping }) at ≡ None
due-down times session Down ping at down = refl
due-down times session (NotSelected since) ping at down = absurd (cc)
due-down times session Selected ping at down = absurd (cc)
