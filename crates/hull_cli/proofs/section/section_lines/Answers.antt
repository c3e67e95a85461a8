use Rattle.std.proofs.Common.{arith}
use Rattle.hull_report.specs.Spelling.{IsLine}
use Rattle.hull_cli.specs.Sections.{IsSectionLine}
use Rattle.hull_cli.proofs.Listed.{all_more, numbered_more}
use Rattle.hull_cli.proofs.section.section_lines.Goals as goal

pub loop-station-preserved : goal.loop-station-preserved
loop-station-preserved c =
    let inv = c.loop-station.invariant in
    let items = c.in_ok-push.ensures.items in
    record {
      count = omega (arith, inv.count, c.in_ok-push.ensures.len);
      grammar = rw items (all_more IsLine _ _ inv.grammar (c.section_line.ensures.grammar, tt));
      rows = rw items (numbered_more (IsSectionLine c.args.hull.now c.args.draft) 0 _ c.loop-station.station _ inv.rows (omega (arith, inv.count)) c.section_line.ensures.line);
    }
