use Rattle.std.proofs.Common.{◌≡◌, ◌∙◌, ◌+◌, ◌*◌, length, arith, sym}
use Rattle.civil_time.specs.Civil.{two_at}
use Rattle.civil_time.proofs.MomentTexts.{no_date, no_time, a_moment}
use Rattle.civil_time.proofs.civil.moment_of.Goals as goal

pub returns-in_err-days : goal.returns-in_err-days
returns-in_err-days c =
    let t = c.args.t.now in
    let year : c.two.result * 100 + c.two-2.result ≡ 100 * two_at t 0 + two_at t 2 = omega (arith, c.two.ensures.value, c.two-2.ensures.value) in
    rw c.from_residual.ensures (no_date t (c.two.result * 100 + c.two-2.result) c.two-3.result c.two-4.result year c.two-3.ensures.value c.two-4.ensures.value c.in_err-days.ensures.value)

pub returns-in_err-clock : goal.returns-in_err-clock
returns-in_err-clock c =
    rw c.from_residual-in_err-clock.ensures (no_time c.args.t.now c.two-5.result c.two-6.result c.two-7.result c.two-8.result c.two-5.ensures.value c.two-6.ensures.value c.two-7.ensures.value c.two-8.ensures.value c.in_err-clock.ensures.value)

pub returns : goal.returns
returns c =
    let t = c.args.t.now in
    let size : length t ≡ 16 = omega arith in
    let year : c.two.result * 100 + c.two-2.result ≡ 100 * two_at t 0 + two_at t 2 = omega (arith, c.two.ensures.value, c.two-2.ensures.value) in
    a_moment t (c.two.result * 100 + c.two-2.result) c.two-3.result c.two-4.result c.two-5.result c.two-6.result c.two-7.result c.two-8.result c.in_ok-days.days c.in_ok-clock.clock size (sym c.are_digits.ensures ∙ c.if-not-are_digits.false)
    year c.two-3.ensures.value c.two-4.ensures.value c.two-5.ensures.value c.two-6.ensures.value c.two-7.ensures.value c.two-8.ensures.value c.in_ok-days.ensures.value c.in_ok-clock.ensures.value
