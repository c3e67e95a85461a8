use Rattle.std.proofs.Math.Facts.{to_z-of_z}
use Rattle.hull_report.proofs.Figures.{is_ordered}
use Rattle.hull_report.proofs.word.ordered.Goals as goal

pub returns-then-lo-hi : goal.returns-then-lo-hi
returns-then-lo-hi c = is_ordered _ c.args.lo c.args.hi (to_z-of_z c.ranges.lo) (to_z-of_z c.ranges.hi)
