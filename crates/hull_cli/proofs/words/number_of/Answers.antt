use Rattle.std.proofs.Common.{◌≡◌, true, rules}
use Rattle.hull_cli.specs.Words.{is_number_word}
use Rattle.hull_cli.proofs.Numbers.{number-is_read}
use Rattle.hull_cli.proofs.words.number_of.Goals as goal

pub returns-in-Err-clause-value : goal.returns-in-Err-clause-value
returns-in-Err-clause-value c =
    let number : is_number_word c.args.digits c.args.word.now ≡ true = search rules in
    absurd (number-is_read c.args.digits c.args.word.now c.in-Err.field-0 c.in-Err.ensures.value.0 c.requires number)
