use Rattle.angle_bounds.proofs.Order.{cosine_falls, sine_rises}
use Rattle.angle_bounds.proofs.bracket.between.Goals as goal

pub least_span_over-requires-clause-order : goal.least_span_over-requires-clause-order
least_span_over-requires-clause-order c =
    let low = c.args.low in
    let high = c.args.high in
    rw (c.from.ensures, c.from-2.ensures, c.from-3.ensures, c.from-4.ensures) (cosine_falls low.c low.s low.r high.c high.s high.r low.direction.direction high.direction.direction c.requires.order)

pub least_span_over-requires-2-clause-order : goal.least_span_over-requires-2-clause-order
least_span_over-requires-2-clause-order c =
    let low = c.args.low in
    let high = c.args.high in
    rw (c.from-5.ensures, c.from-6.ensures, c.from-7.ensures, c.from-8.ensures) (sine_rises low.c low.s low.r high.c high.s high.r low.direction.direction high.direction.direction c.requires.order)
