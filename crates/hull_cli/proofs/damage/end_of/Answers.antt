use Rattle.std.proofs.Common.{arith}
use Rattle.hull_cli.proofs.damage.end_of.Goals as goal

pub figure-requires : goal.figure-requires
figure-requires c =
    let sunk = rw c.in-Err-Sinks.field-0-is at c.in-Err-Sinks.ensures.fault c.requires.0 c.requires.1 in
    (omega arith, (omega arith, (omega arith, (sunk.ends.low, sunk.ends.high))))

pub returns-in-Ok-clause-ends : goal.returns-in-Ok-clause-ends
returns-in-Ok-clause-ends c hull is = record {
  box = c.in-Ok.levels;
  sharp = c.in-Ok.ensures.ok hull is;
  same = c.sides_of.ensures.sides;
}

pub returns-in-Err-Sinks-clause-ends : goal.returns-in-Err-Sinks-clause-ends
returns-in-Err-Sinks-clause-ends c hull is = record {
  span = c.in-Err-Sinks.left;
  encloses = rw c.in-Err-Sinks.field-0-is at c.in-Err-Sinks.ensures.fault hull is;
  printed = c.figure.ensures;
}
