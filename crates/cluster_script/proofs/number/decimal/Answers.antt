use Rattle.std.proofs.Common.{◌+◌, ◌-◌, ◌*◌, ◌≤◌, ◌^◌, take, get_or, ◌∙◌, arith}
use Rattle.cluster_script.specs.Numbers.{digits_value}
use Rattle.cluster_script.proofs.DigitLemmas.{too_great}
use Rattle.cluster_script.proofs.number.decimal.Goals as goal

pub returns-in_err-checked_mul : goal.returns-in_err-checked_mul
returns-in_err-checked_mul c =
    let great : 2 ^ 64 ≤ digits_value (take c.loop-digit.digit-index c.args.digits.now) * 10 + (get_or c.args.digits.now c.loop-digit.digit-index 0 - 48) =
    omega (arith, c.in_err-checked_mul.ensures, c.loop-digit.invariant.value) in
    c.from_residual.ensures ∙ too_great c.args.digits.now c.loop-digit.digit-index c.loop-digit-test.true great

pub returns-in_err-value : goal.returns-in_err-value
returns-in_err-value c =
    let great : 2 ^ 64 ≤ digits_value (take c.loop-digit.digit-index c.args.digits.now) * 10 + (get_or c.args.digits.now c.loop-digit.digit-index 0 - 48) =
    omega (arith, c.in_err-value.ensures, c.in_ok-checked_mul.ensures, c.loop-digit.invariant.value) in
    c.from_residual-in_err-value.ensures ∙ too_great c.args.digits.now c.loop-digit.digit-index c.loop-digit-test.true great
