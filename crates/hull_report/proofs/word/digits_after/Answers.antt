use Rattle.std.proofs.Common.{◌≡◌, ◌∙◌, sym, ap, Some, None, drop, get_or, ◌+◌}
use Rattle.hull_report.specs.Reading.{◌>>=◌, digits_after, digit_after}
use Rattle.hull_report.proofs.Digits.{digits_step, digits_end}
use Rattle.hull_report.proofs.word.digits_after.Goals as goal

pub returns-in_err-number : goal.returns-in_err-number
returns-in_err-number c =
    let step = digits_step c.loop-digit.number c.loop-digit.digit-index c.args.digits.now c.loop-digit-test.true in
    let none : digit_after c.loop-digit.number (get_or c.args.digits.now c.loop-digit.digit-index 0) ≡ None = sym c.in_err-number.ensures in
    c.from_residual.ensures ∙ sym (sym c.loop-digit.invariant ∙ step ∙ ap (λ n. n >>= λ next. digits_after next (drop (c.loop-digit.digit-index + 1) c.args.digits.now)) none)

pub loop-digit-preserved : goal.loop-digit-preserved
loop-digit-preserved c =
    let step = digits_step c.loop-digit.number c.loop-digit.digit-index c.args.digits.now c.loop-digit-test.true in
    let some : digit_after c.loop-digit.number (get_or c.args.digits.now c.loop-digit.digit-index 0) ≡ Some c.in_ok-number.number = sym c.in_ok-number.ensures in
    sym (sym c.loop-digit.invariant ∙ step ∙ ap (λ n. n >>= λ next. digits_after next (drop (c.loop-digit.digit-index + 1) c.args.digits.now)) some)

pub returns : goal.returns
returns c = sym (sym c.loop-digit.invariant ∙ digits_end c.loop-digit.number c.loop-digit.digit-index c.args.digits.now c.loop-digit-test.false)
