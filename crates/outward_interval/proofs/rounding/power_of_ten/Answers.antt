use Rattle.std.proofs.Common.{arith}
use Rattle.std.proofs.Math.Nat.{one-le-pow}
use Rattle.outward_interval.proofs.rounding.power_of_ten.Goals as goal

pub returns-clause-positive : goal.returns-clause-positive
returns-clause-positive c = omega (arith, c.pow.ensures, one-le-pow c.args.exponent 10 (omega arith))
