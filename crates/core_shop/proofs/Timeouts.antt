-- T3 of one transaction after another.
use Rattle.std.proofs.Common.{◌≡◌, ℕ, zero, suc, ◌<◌, ◌≤◌, true, false, List, [], ◌∷◌, length, map, Option, Some, None, refl, sym, ◌∙◌, ap, arith}
use Rattle.gem_tables.specs.Table.{firing}
use Rattle.hsms_link.specs.declared.state.Phase.{Phase}
use Rattle.hsms_link.specs.declared.state.Phase.TheVariants.{Down, NotSelected, Selected}
use Rattle.hsms_link.specs.declared.state.Ping.{Ping}
use Rattle.hsms_link.specs.declared.state.Ping.TheVariants.{Off, Quiet, Asked}
use Rattle.hsms_link.specs.declared.state.LinkState.{LinkState}
use Rattle.hsms_link.specs.declared.deadlines.LinkTimes.{LinkTimes}
use Rattle.hsms_link.specs.declared.deadlines.LinkDue.TheVariants.{AskLinktest}
use Rattle.hsms_link.specs.Deadlines.{due_at}
use Rattle.hsms_link.specs.Links as links
use Rattle.transactions.specs.declared.transaction.Open.{Open}
use Rattle.transactions.specs.declared.transaction.What.{What}
use Rattle.transactions.specs.declared.transaction.What.TheVariants as what
use Rattle.transactions.specs.Table.{without, taken_out}
use Rattle.transactions.specs.Endings.{first_expired, is_first_expired}
use Rattle.transactions.proofs.Laws.{found-shorter}
use Rattle.gem_model.specs.State.{State}
use Rattle.gem_model.specs.Fire.{fire, fires}
use Rattle.gem_model.specs.Machines.{row_starts}
use Rattle.gem_model.specs.Direct.{timeout_rows}
use Rattle.gem_model.specs.Sending.{data_header, sends_stream9}
use Rattle.gem_model.specs.Due.{Due, Timeout, expired, expired_from, timeouts, timed_out, all_done}
use Rattle.gem_model.proofs.Tests.{either_way}

-- more places than there are expired ones give no more
expired_more : (n m at : ℕ) (opened : List Open) (first : Option Open) → first_expired at opened ≡ first → length opened ≤ n → n ≤ m → expired_from m at opened first ≡ expired_from n at opened first
expired_more zero zero at opened first is fits less = refl
expired_more zero (suc m) at opened None is fits less = refl
expired_more zero (suc m) at opened (Some one) is fits less = absurd (omega (arith, found-shorter (is_first_expired at opened) opened one is))
expired_more (suc n) zero at opened first is fits less = absurd (omega arith)
expired_more (suc n) (suc m) at opened None is fits less = refl
expired_more (suc n) (suc m) at opened (Some one) is fits less =
    ap (λ ones. one ∷ ones)
    (expired_more n m at (without one.system opened) (first_expired at (without one.system opened)) refl (omega (arith, found-shorter (is_first_expired at opened) opened one is)) (omega arith))

expired_by : (n at : ℕ) (opened : List Open) (one : Open) → length opened ≡ n → first_expired at opened ≡ Some one → expired_from n at opened (Some one) ≡ one ∷ expired_from (length (without one.system opened)) at (without one.system opened) (first_expired at (without one.system opened))
expired_by zero at opened one size is = absurd (omega (arith, found-shorter (is_first_expired at opened) opened one is))
expired_by (suc n) at opened one size is =
    ap (λ ones. one ∷ ones)
    (expired_more (length (without one.system opened)) n at (without one.system opened) (first_expired at (without one.system opened)) refl (omega arith) (omega (arith, found-shorter (is_first_expired at opened) opened one is)))

-- neither the moment nor the open transactions change
record Timeless (g h : State) : Type 0 where
  pub moment : h.moment ≡ g.moment
  pub opened : h.transactions.opened ≡ g.transactions.opened

rows_timeless : (kind : What) (g : State) → Timeless g (fires (timeout_rows kind) g)
rows_timeless what.Establish g = either_way (Timeless g) (row_starts g (firing 1 0 5)) (fire g (firing 1 0 5)) g (record { moment = refl; opened = refl }) (record { moment = refl; opened = refl })
rows_timeless what.Attempt g = either_way (Timeless g) (row_starts g (firing 2 0 3)) (fire g (firing 2 0 3)) g (record { moment = refl; opened = refl }) (record { moment = refl; opened = refl })
rows_timeless (what.Note n) g = either_way (Timeless g) (row_starts g (firing 3 n 14)) (fire g (firing 3 n 14)) g (record { moment = refl; opened = refl }) (record { moment = refl; opened = refl })

abbrev all_of : List Open → List Due
all_of ones = map (λ one. Timeout one) ones

-- where one is expired, it is done first, and then those that are expired then
pub timeouts_next : (g : State) (one : Open) → first_expired g.moment g.transactions.opened ≡ Some one → all_done (timeouts g) g ≡ all_done (timeouts (timed_out one g)) (timed_out one g)
timeouts_next g one is =
    let first = ap (λ (f : Option Open). expired_from (length g.transactions.opened) g.moment g.transactions.opened f) is
    ∙ expired_by (length g.transactions.opened) g.moment g.transactions.opened one refl is in
    let told : State = sends_stream9 9 (data_header g.config.device true one.stream one.function one.system) (record g { transactions = taken_out (Some one) g.transactions }) in
    let same = rows_timeless one.what told in
    let rest : expired_from (length (without one.system g.transactions.opened)) g.moment (without one.system g.transactions.opened) (first_expired g.moment (without one.system g.transactions.opened)) ≡ expired (timed_out one g) =
    ap (λ (opened : List Open). expired_from (length opened) g.moment opened (first_expired g.moment opened)) (sym same.opened)
    ∙ ap (λ (at : ℕ). expired_from (length (timed_out one g).transactions.opened) at (timed_out one g).transactions.opened (first_expired at (timed_out one g).transactions.opened)) (sym same.moment) in
    ap (λ (ones : List Open). all_done (all_of ones) g) first
    ∙ ap (λ (ones : List Open). all_done (all_of ones) (timed_out one g)) rest

pub timeouts_none : (g : State) → first_expired g.moment g.transactions.opened ≡ None → all_done (timeouts g) g ≡ g
timeouts_none g none = ap (λ (ones : List Open). all_done (all_of ones) g) (ap (expired_from (length g.transactions.opened) g.moment g.transactions.opened) none ∙ by_count (length g.transactions.opened))
  where
    by_count : (n : ℕ) → expired_from n g.moment g.transactions.opened None ≡ []
    by_count zero = refl
    by_count (suc n) = refl

pub timeouts_fewer : (g : State) (one : Open) → first_expired g.moment g.transactions.opened ≡ Some one → length (timed_out one g).transactions.opened < length g.transactions.opened
timeouts_fewer g one is =
    let told : State = sends_stream9 9 (data_header g.config.device true one.stream one.function one.system) (record g { transactions = taken_out (Some one) g.transactions }) in
    let same = ap length (rows_timeless one.what told).opened in
    omega (arith, same, found-shorter (is_first_expired g.moment g.transactions.opened) g.transactions.opened one is)

-- ---- a linktest is due only on a selected link on which none is open

asks_selected : (times : LinkTimes) (session : ℕ) (phase : Phase) (ping : Ping) (at : ℕ) → due_at times (record { session = session; phase = phase; ping = ping }) at ≡ Some AskLinktest → (links.is_selected phase ≡ true) × (links.is_open ping ≡ false)
asks_selected times session Down ping at due = absurd (cc)
asks_selected times session (NotSelected since) ping at due = absurd (grind (arith, due))
asks_selected times session Selected Off at due = absurd (cc)
asks_selected times session Selected (Asked system since) at due = absurd (grind (arith, due))
asks_selected times session Selected (Quiet since) at due = (refl, refl)

pub linktest_selected : (times : LinkTimes) (link : LinkState) (at : ℕ) → due_at times link at ≡ Some AskLinktest → links.is_selected link.phase ≡ true
linktest_selected times link at due = (asks_selected times link.session link.phase link.ping at due).0

pub linktest_closed : (times : LinkTimes) (link : LinkState) (at : ℕ) → due_at times link at ≡ Some AskLinktest → links.is_open link.ping ≡ false
linktest_closed times link at due = (asks_selected times link.session link.phase link.ping at due).1
