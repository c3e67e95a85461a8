use Rattle.std.proofs.Common.{◌≤◌, ◌^◌, ◌∙◌, sym, arith, rules}
use Rattle.std.proofs.lemmas.Grind.{common_steps}
use Rattle.offset_reader.proofs.NumberFacts.{few_digits, not_none, not_many, not_digits, all_digits, one_bad}
use Rattle.offset_reader.proofs.field.digits_number.Goals as goal
use Rattle.offset_reader.proofs.field.digits_number.Goals.{then-is_empty-via-then-is_empty, then-is_empty-via-else-is_empty+then-digits-gt-MOST_DIGITS}

pub overflow_mul-number : goal.overflow_mul-number
overflow_mul-number c =
    let few : 10 ^ c.loop-digit.digit-index ≤ 10 ^ 8 = few_digits _ (omega arith) in
    omega arith

pub overflow_add-number : goal.overflow_add-number
overflow_add-number c =
    let few : 10 ^ c.loop-digit.digit-index ≤ 10 ^ 8 = few_digits _ (omega arith) in
    omega arith

pub returns-then-is_empty-clause-same : goal.returns-then-is_empty-clause-same
returns-then-is_empty-clause-same c =
    elim c.then-is_empty.branch [
      | then-is_empty-via-then-is_empty w ↦ sym (not_none c.args.digits.now (search rules))
      | then-is_empty-via-else-is_empty+then-digits-gt-MOST_DIGITS w ↦ sym (not_many c.args.digits.now (omega arith))
    ]

pub returns-then-not-is_ascii_digit-clause-same : goal.returns-then-not-is_ascii_digit-clause-same
returns-then-not-is_ascii_digit-clause-same c =
    sym (not_digits c.args.digits.now (sym c.loop-digit.invariant.digits ∙ one_bad c.args.digits.now c.loop-digit.digit-index (omega arith) (search rules)))

pub returns-clause-same : goal.returns-clause-same
returns-clause-same c = grind (arith, common_steps, all_digits)
