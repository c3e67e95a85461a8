use Rattle.std.proofs.Common.{[], ◌∷◌, arith}
use Rattle.intact_criteria.proofs.Rows.{rows_suffice}
use Rattle.hull_cli.proofs.StabilityLines.{all_joined, judged_is, names_one}
use Rattle.hull_cli.proofs.stability.finding_lines.Goals as goal

pub judge-findings-requires-clause-arms : goal.judge-findings-requires-clause-arms
judge-findings-requires-clause-arms c = rows_suffice.small_arms c.args.faces.now c.args.loading.now c.args.job.now.water c.args.standing.now.arms c.args.standing.now.upright c.requires.rows

pub verdict_line-requires-clause-named : goal.verdict_line-requires-clause-named
verdict_line-requires-clause-named c =
    let found = c.judge-findings.ensures.findings.2 in
    rw found.verdict (names_one (found.c1 ∷ found.c2 ∷ found.c3 ∷ found.c4 ∷ found.c5 ∷ found.c6 ∷ []) (omega arith))

pub returns-clause-lines : goal.returns-clause-lines
returns-clause-lines c hull is are =
    let standing = c.args.standing.now in
    let rules = rw c.as_slice.ensures at c.judge-findings.ensures.findings in
    let marks = rw c.as_slice.ensures at c.judge-findings.ensures.marks in
    let verdict = rw c.as_slice.ensures at c.judge-findings.ensures.verdict in
    let undecided = rw c.as_slice.ensures at c.judge-findings.ensures.undecided in
    let narrow = rw c.as_slice.ensures at c.judge-findings.ensures.stated c.args.faces.now c.args.loading.now c.args.job.now.water in
    let count = c.judge-findings.ensures.count in
    let first = rw c.new-lines.ensures.items at c.in_ok-push.ensures.items in
    let third = rw c.deref.ensures.value at c.in_ok-extend_from_slice-2.ensures.items in
    record {
      upright = standing.upright;
      findings = c.judge-findings.result;
      judged = judged_is hull is c.args.faces.now are c.args.job.now c.args.loading.now standing.arms standing.upright c.requires.rows c.judge-findings.result count c.requires.loaded rules marks verdict undecided narrow;
      row = c.upright_line.result;
      upright_line = c.upright_line.ensures.line;
      marks = c.in_ok-mark_lines.field-0.items;
      mark_lines = c.in_ok-mark_lines.ensures.lines;
      last = c.verdict_line.result;
      verdict_line = c.verdict_line.ensures.line;
      whole = all_joined c.upright_line.result c.verdict_line.result c.args.levers.now c.in_ok-mark_lines.field-0.items _ _ _ _
          first c.in_ok-extend_from_slice.ensures.items third c.in_ok-push-2.ensures.items;
    }
