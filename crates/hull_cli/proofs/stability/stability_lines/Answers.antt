use Rattle.std.proofs.lemmas.Result.{err_from_is_err_and}
use Rattle.hull_cli.proofs.StabilityLines.{load_stops}
use Rattle.hull_cli.proofs.stability.stability_lines.Goals as goal

pub returns-in_err-loading-clause-stops : goal.returns-in_err-loading-clause-stops
returns-in_err-loading-clause-stops c =
    let p = err_from_is_err_and c.from_residual.result c.from_residual.ensures.1 in
    rw (p.1, p.2) (λ hull is are. load_stops hull c.args.job.now.water c.args.job.now.items _ (rw c.as_slice.ensures at c.in_err-loading.ensures.stops))

pub returns-clause-lines : goal.returns-clause-lines
returns-clause-lines c hull is are = record {
  loading = c.in_ok-loading.loading;
  loaded = rw c.as_slice.ensures at c.in_ok-loading.ensures.loading;
  under = c.in_ok-judged.judged.items;
  related = c.in_ok-judged.ensures.lines hull is are;
  first = rw c.deref.ensures.value at c.in_ok-load_first.ensures.lines;
}
