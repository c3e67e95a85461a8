use Rattle.std.proofs.Common.{pos, ◌+ℤ◌, ◌*ℤ◌}
use Rattle.outward_interval.proofs.Widths.{two_differences}
use Rattle.outward_interval.proofs.residual.excess.Goals as goal

pub returns-clause-width : goal.returns-clause-width
returns-clause-width g c =
    let width = g.E.Encloses.width in
    let size = g.E.Encloses.size in
    let less_moment = c.requires.less_moment c.mul.result c.mul.ensures in
    let less_owed = c.requires.less_owed c.mul.result c.sub.result c.mul.ensures c.sub.ensures in
    two_differences g.E.Encloses.one
    (pos (size c.args.x_end) *ℤ width c.args.volume +ℤ pos (size c.args.volume) *ℤ width c.args.x_end)
    (width c.mul.result) (width c.args.moment) (width c.args.owed) (width c.sub.result) (width c.sub-2.result)
    (g.met.E.Encloses.product_widths c.args.x_end c.args.volume c.mul.result c.requires.product c.mul.ensures)
    (g.met.E.Encloses.difference_widths c.mul.result c.args.moment c.sub.result less_moment c.sub.ensures)
    (g.met.E.Encloses.difference_widths c.sub.result c.args.owed c.sub-2.result less_owed c.sub-2.ensures)
