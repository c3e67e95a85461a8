use Rattle.std.proofs.Common.{ap, ◌+◌, map}
use Rattle.std.proofs.lemmas.Result.{err_from_is_err_and}
use Rattle.job_reader.specs.Checks.{flooded_fault}
use Rattle.job_reader.proofs.Firsts.{goes_on, stops, ends}
use Rattle.job_reader.proofs.check.check_cases.Goals as goal

pub returns-in_err-check_case-clause-err : goal.returns-in_err-check_case-clause-err
returns-in_err-check_case-clause-err c =
    let some = rw (c.as_slice.ensures, c.case-item.is, c.loop-case.invariant.count) at c.in_err-check_case.ensures.err in
    let p = err_from_is_err_and c.from_residual.result c.from_residual.ensures.1 in
    rw (p.1, p.2) (stops (λ x. x.value) (λ entry before names. flooded_fault (map (λ x. x.0) c.args.compartments.now) entry names) c.args.cases.now c.loop-case.case-index _ _ _ c.loop-case-test.true some c.loop-case.invariant.sound)

pub loop-case-preserved : goal.loop-case-preserved
loop-case-preserved c =
    let none = rw (c.as_slice.ensures, c.case-item.is, c.loop-case.invariant.count) at c.in_ok-check_case.ensures.ok in
    record {
      count = ap (λ n. n + 1) c.loop-case.invariant.count;
      sound = goes_on (λ x. x.value) (λ entry before names. flooded_fault (map (λ x. x.0) c.args.compartments.now) entry names) c.args.cases.now c.loop-case.case-index _ _ c.loop-case-test.true none c.loop-case.invariant.sound;
    }

pub returns-clause-ok : goal.returns-clause-ok
returns-clause-ok c = ends (λ x. x.value) (λ entry before names. flooded_fault (map (λ x. x.0) c.args.compartments.now) entry names) c.args.cases.now c.loop-case.case-index _ c.loop-case-test.false c.loop-case.invariant.sound
