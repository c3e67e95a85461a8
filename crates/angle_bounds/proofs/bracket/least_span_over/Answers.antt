use Rattle.std.proofs.lemmas.Bool.{false≢true}
use Rattle.angle_bounds.proofs.Quotients.{quotients-are_span}
use Rattle.angle_bounds.proofs.bracket.least_span_over.Goals as goal

pub unreachable-requires : goal.unreachable-requires
unreachable-requires c =
    let kept = quotients-are_span c.args.n c.args.d c.args.m c.args.e c.requires.some.0 c.requires.some.1 c.requires.bounds.2 c.requires.bounds.3 c.requires.order in
    false≢true (c.in-None.ensures.some.1 kept)
