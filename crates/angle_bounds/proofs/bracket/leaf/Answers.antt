use Rattle.std.proofs.Common.{arith}
use Rattle.angle_bounds.proofs.NumberedDirections.{numbers_rise}
use Rattle.angle_bounds.proofs.bracket.leaf.Goals as goal

pub between-requires : goal.between-requires
between-requires c =
    let low = c.direction_of.ensures in
    let high = c.direction_of-2.ensures in
    record { order = rw (low.cosine, low.sine, high.cosine, high.sine) (numbers_rise c.args.q c.args.q2 (omega (arith, c.requires.order)) c.requires.last).1 }
