use Rattle.std.proofs.Common.{◌∙◌, sym, false, rules}
use Rattle.offset_reader.proofs.HeightFacts.{climb_short, climb_level, climb_start, height_climb}
use Rattle.offset_reader.proofs.heights.check_heights.Goals as goal

pub loop-rest-init : goal.loop-rest-init
loop-rest-init c = rw c.above_bottom-rest.ensures (sym (climb_start c.args.station.now) ∙ sym (height_climb c.args.station.now))

pub returns-then-is_level-clause-ok : goal.returns-then-is_level-clause-ok
returns-then-is_level-clause-ok c = sym c.loop-rest.invariant ∙ climb_level false c.loop-rest.rest.now (search rules)

pub returns-clause-ok : goal.returns-clause-ok
returns-clause-ok c = sym c.loop-rest.invariant ∙ climb_short false c.loop-rest.rest.now c.in_default.len_below
