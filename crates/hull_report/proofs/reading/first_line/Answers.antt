use Rattle.std.proofs.Common.{◌≡◌, ◌∙◌, sym, rules}
use Rattle.std.proofs.lemmas.Bool.Decides.{Decides-eqb}
use Rattle.std.proofs.lemmas.Slice.Eq.{slice_eq-Decides}
use Rattle.hull_report.specs.Spelling.{joined, line_words}
use Rattle.hull_report.proofs.Texts.{no_feed, no_line, other_text, this_text, not_both}
use Rattle.hull_report.proofs.reading.first_line.Goals as goal

pub returns-in_default : goal.returns-in_default
returns-in_default c = no_feed c.args.bytes.now c.in_default.ensures

pub returns-in_default-line_of : goal.returns-in_default-line_of
returns-in_default-line_of c =
    no_line c.args.bytes.now c.in-Some.text.now c.in-Some.after.now c.in-Some.ensures c.in_default-line_of.ensures.value

pub returns-then-eq : goal.returns-then-eq
returns-then-eq c =
    let equal = (slice_eq-Decides Decides-eqb c.as_slice.result.now c.in-Some.text.now c.eq.result c.eq.ensures).0 c.if-eq.true in
    let spelled : c.as_slice.result.now ≡ joined (line_words c.in-Some-line_of.line) = search rules in
    (c.in-Some-line_of.ensures.fits, this_text c.args.bytes.now c.in-Some.text.now c.in-Some.after.now c.in-Some-line_of.line c.in-Some.ensures (sym spelled ∙ equal))

pub returns : goal.returns
returns c =
    let unequal = (slice_eq-Decides Decides-eqb c.as_slice.result.now c.in-Some.text.now c.eq.result c.eq.ensures).1 in
    let spelled : c.as_slice.result.now ≡ joined (line_words c.in-Some-line_of.line) = search rules in
    other_text c.args.bytes.now c.in-Some.text.now c.in-Some.after.now c.in-Some-line_of.line c.in-Some.ensures c.in-Some-line_of.ensures.value
    (λ e. not_both c.eq.result (unequal (spelled ∙ e)) c.if-eq.false)
