use Rattle.std.proofs.Common.{◌≡◌, ◌∙◌, ◌-◌, sym, ap, take, drop, length, Some, None, rules}
use Rattle.offset_reader.specs.Numbers.{digits_number}
use Rattle.offset_reader.proofs.NumberFacts.{no_text, after_minus, no_minus, negated, as_signed}
use Rattle.offset_reader.proofs.field.signed_number.Goals as goal

pub returns-in_default : goal.returns-in_default
returns-in_default c = sym (no_text c.args.text.now c.in_default.len_below)

pub returns-in_err-digits_number : goal.returns-in_err-digits_number
returns-in_err-digits_number c =
    let all = after_minus c.args.text.now c.in-len1-up.len_at_least (search rules) in
    let none : digits_number (take (length c.args.text.now - 1) (drop 1 c.args.text.now)) ≡ None = sym c.digits_number.ensures.same ∙ c.in_err-digits_number.was in
    rw (all, none) c.from_residual.ensures

pub returns-in_err-digits_number-2 : goal.returns-in_err-digits_number-2
returns-in_err-digits_number-2 c =
    let all = no_minus c.args.text.now c.in-len1-up.len_at_least (search rules) in
    let none : digits_number c.args.text.now ≡ None = sym c.digits_number-else-first-eq45.ensures.same ∙ c.in_err-digits_number-2.was in
    rw (all, none) c.from_residual-in_err-digits_number-2.ensures

pub returns-in_ok-digits_number : goal.returns-in_ok-digits_number
returns-in_ok-digits_number c =
    let n = c.in_ok-digits_number.field-0 in
    let all = after_minus c.args.text.now c.in-len1-up.len_at_least (search rules) in
    let some : digits_number (take (length c.args.text.now - 1) (drop 1 c.args.text.now)) ≡ Some n = sym c.digits_number.ensures.same ∙ c.in_ok-digits_number.was in
    rw (all, some) (ap Some (negated n c.in_ok-digits_number.ensures.small))

pub returns-in_ok-digits_number-2 : goal.returns-in_ok-digits_number-2
returns-in_ok-digits_number-2 c =
    let n = c.in_ok-digits_number-2.field-0 in
    let all = no_minus c.args.text.now c.in-len1-up.len_at_least (search rules) in
    let some : digits_number c.args.text.now ≡ Some n = sym c.digits_number-else-first-eq45.ensures.same ∙ c.in_ok-digits_number-2.was in
    rw (all, some) (ap Some (as_signed n c.in_ok-digits_number-2.ensures.small))
