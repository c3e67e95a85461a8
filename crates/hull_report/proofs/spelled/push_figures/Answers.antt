use Rattle.std.proofs.Common.{◌∷◌, ◌++◌, ◌+◌, true, drop, append_assoc, sym, ap, ◌∙◌, arith}
use Rattle.std.proofs.lemmas.List.{append-nil}
use Rattle.hull_report.specs.Spelling.{spaced, figure_words, figure_or_absent, word_text, may_be_absent}
use Rattle.hull_report.proofs.Hydro.{next_figure, no_figure}
use Rattle.hull_report.proofs.spelled.push_figures.Goals as goal

pub loop-figure-preserved : goal.loop-figure-preserved
loop-figure-preserved c =
    let i = c.loop-figure.figure-index in
    let figures = c.args.figures.now in
    let step = next_figure may_be_absent figures i _ c.figure-item.result (omega (arith, c.requires, c.loop-figure-test.true)) c.loop-figure-test.true c.figure-item.is in
    let rest = spaced (figure_words (drop (i + 1) may_be_absent) (drop (i + 1) figures)) in
    record {
      all = c.requires;
      parts = ap (λ t. t ++ rest) (c.in_ok-push_figure_or_absent.ensures) ∙ append_assoc c.loop-figure.text.items (32 ∷ word_text (figure_or_absent true c.figure-item.result)) rest ∙ ap (λ t. c.loop-figure.text.items ++ t) (sym step) ∙ c.loop-figure.invariant.parts;
    }

pub returns : goal.returns
returns c =
    let done = no_figure may_be_absent c.args.figures.now c.loop-figure.figure-index (omega (arith, c.requires, c.loop-figure-test.false)) c.loop-figure-test.false in
    sym (append-nil c.loop-figure.text.items) ∙ ap (λ t. c.loop-figure.text.items ++ t) (sym done) ∙ c.loop-figure.invariant.parts
