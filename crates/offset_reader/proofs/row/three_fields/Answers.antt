use Rattle.std.proofs.Common.{rules}
use Rattle.csv.specs.Records.{fields_of}
use Rattle.offset_reader.proofs.RowFacts.{no_field, three}
use Rattle.offset_reader.proofs.row.three_fields.Goals as goal

pub returns-in_err-get : goal.returns-in_err-get
returns-in_err-get c = absurd (no_field (fields_of c.args.fields.now) 0 (search rules) c.in_err-get.ensures.value)

pub returns-in_err-get-2 : goal.returns-in_err-get-2
returns-in_err-get-2 c = absurd (no_field (fields_of c.args.fields.now) 1 (search rules) c.in_err-get-2.ensures.value)

pub returns-in_err-get-3 : goal.returns-in_err-get-3
returns-in_err-get-3 c = absurd (no_field (fields_of c.args.fields.now) 2 (search rules) c.in_err-get-3.ensures.value)

pub returns : goal.returns
returns c = three (fields_of c.args.fields.now) c.in_ok-get.field-0.now c.in_ok-get-2.field-0.now c.in_ok-get-3.field-0.now (search rules) c.in_ok-get.ensures.value c.in_ok-get-2.ensures.value c.in_ok-get-3.ensures.value
