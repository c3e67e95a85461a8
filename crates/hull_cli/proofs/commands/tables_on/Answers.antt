use Rattle.std.proofs.lemmas.Result.{err_from_is_err_and}
use Rattle.hull_cli.proofs.Listed.{of_each_ok, of_each_err}
use Rattle.report_run.proofs.Calls.{is_first, is_second, job_read, both_read}
use Rattle.hull_cli.proofs.Parts.{hull_stops, tables_stop}
use Rattle.hull_cli.proofs.commands.tables_on.Goals as goal

pub returns-in_err-hull-clause-stops : goal.returns-in_err-hull-clause-stops
returns-in_err-hull-clause-stops g c =
    let job = c.read_job_file.ensures in
    let hull = c.read_hull.ensures in
    let first = is_first g.S.Shelf.held g.S.Shelf.faults g.S.Shelf.taken c.args.shelf.now c.read_job_file.new.shelf c.read_hull.new.shelf hull.faults_later hull.taken_later in
    let second = is_second g.S.Shelf.held g.S.Shelf.faults g.S.Shelf.taken c.args.shelf.now c.read_job_file.new.shelf c.read_hull.new.shelf job.same job.faults_later job.taken_later in
    let read = job_read first c.args.job.now c.in_ok-job.job c.in_ok-job.ensures.read in
    let p = err_from_is_err_and c.from_residual-in_err-hull.result c.from_residual-in_err-hull.ensures.1 in
    rw (p.1, p.2) (hull_stops second c.args.command c.args.job.now c.args.offsets.now c.in_ok-job.job c.in_err-hull.field-0.0 read c.in_err-hull.ensures.stop)

pub returns-clause-reports : goal.returns-clause-reports
returns-clause-reports g c =
    let job = c.read_job_file.ensures in
    let hull = c.read_hull.ensures in
    let first = is_first g.S.Shelf.held g.S.Shelf.faults g.S.Shelf.taken c.args.shelf.now c.read_job_file.new.shelf c.read_hull.new.shelf hull.faults_later hull.taken_later in
    let second = is_second g.S.Shelf.held g.S.Shelf.faults g.S.Shelf.taken c.args.shelf.now c.read_job_file.new.shelf c.read_hull.new.shelf job.same job.faults_later job.taken_later in
    let read = c.in_ok-hull.ensures.read in
    let both = both_read first second c.args.job.now c.args.offsets.now c.in_ok-job.job read.0 c.in_ok-job.ensures.read read.1 in
    of_each_ok _ _ (λ lines report. record {
      job = c.in_ok-job.job;
      bytes = read.0;
      read = both;
      report = rw read.2 at report;
    }) c.tables_report.result c.tables_report.ensures.reports

pub returns-clause-stops : goal.returns-clause-stops
returns-clause-stops g c =
    let job = c.read_job_file.ensures in
    let hull = c.read_hull.ensures in
    let first = is_first g.S.Shelf.held g.S.Shelf.faults g.S.Shelf.taken c.args.shelf.now c.read_job_file.new.shelf c.read_hull.new.shelf hull.faults_later hull.taken_later in
    let second = is_second g.S.Shelf.held g.S.Shelf.faults g.S.Shelf.taken c.args.shelf.now c.read_job_file.new.shelf c.read_hull.new.shelf job.same job.faults_later job.taken_later in
    let read = c.in_ok-hull.ensures.read in
    let both = both_read first second c.args.job.now c.args.offsets.now c.in_ok-job.job read.0 c.in_ok-job.ensures.read read.1 in
    of_each_err _ _ (λ why stops. tables_stop _ c.args.command c.args.job.now c.args.offsets.now c.in_ok-job.job read.0 why both (rw read.2 at stops)) c.tables_report.result c.tables_report.ensures.stops
