use Rattle.std.proofs.Common.{arith}
use Rattle.std.proofs.lemmas.Bool.{false≢true}
use Rattle.angle_bounds.proofs.Squares.{legs}
use Rattle.angle_bounds.proofs.triple.is_right.Goals as goal
use Rattle.angle_bounds.proofs.triple.is_right.Goals.{then-r-c-via-then-r-c, then-r-c-via-else-r-c+then-r-s}

pub returns-then-r-c : goal.returns-then-r-c
returns-then-r-c c = (
  λ t. absurd (false≢true t),
  λ e. let short = legs c.args.c c.args.s c.args.r e in
      absurd (elim c.then-r-c.branch [ then-r-c-via-then-r-c w ↦ omega (arith, short.0, w.if-r-c) | then-r-c-via-else-r-c+then-r-s w ↦ omega (arith, short.1, w.if-r-s) ]),
)
