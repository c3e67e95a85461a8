use Rattle.std.proofs.Common.{rules, ◌+◌}
use Rattle.std.proofs.lemmas.List.{take_rest}
use Rattle.hull_report.proofs.Cuts.{cut_here, cut_on, cut_end}
use Rattle.hull_report.proofs.word.cut.Goals as goal

pub returns-then-byte-separator : goal.returns-then-byte-separator
returns-then-byte-separator c = rw (take_rest c.args.bytes.now (c.loop-at.at + 1)) (cut_here c.args.separator c.loop-at.at c.args.bytes.now _ (search rules) (search rules) c.loop-at.invariant)

pub loop-at-preserved : goal.loop-at-preserved
loop-at-preserved c = cut_on c.args.separator c.loop-at.at c.args.bytes.now _ (search rules) (search rules) c.loop-at.invariant

pub returns : goal.returns
returns c = cut_end c.args.separator c.loop-at.at c.args.bytes.now _ (search rules) c.loop-at.invariant
