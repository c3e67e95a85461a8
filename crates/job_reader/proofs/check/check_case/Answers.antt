use Rattle.std.proofs.Common.{true, false, not, map, take, refl, sym, ap, ◌∙◌, ◌+◌}
use Rattle.job_reader.specs.Checks.{flooded_by}
use Rattle.job_reader.proofs.CheckFacts.{flooded_is}
use Rattle.job_reader.proofs.Firsts.{goes_on, stops, ends}
use Rattle.job_reader.proofs.check.check_case.Goals as goal

pub returns-then-is_none-clause-err : goal.returns-then-is_none-clause-err
returns-then-is_none-clause-err c =
    let known = rw (c.get.ensures, c.name-item.is) at (c.is_none.ensures ∙ ap not c.if-is_none.true) in
    let i = c.loop-name.name-index in
    stops (λ n. n) (flooded_by (map (λ x. x.0) c.args.compartments.now) c.args.entry) c.args.names.now i _ _ _ c.loop-name-test.true
    (flooded_is c.args.compartments.now c.args.entry (i + 1) (take i c.args.names.now) _ false _ known refl) c.loop-name.invariant.sound

pub returns-then-is_among-clause-err : goal.returns-then-is_among-clause-err
returns-then-is_among-clause-err c =
    let known = rw (c.get.ensures, c.name-item.is) at (c.is_none.ensures ∙ ap not c.if-is_none.false) in
    let again = rw (c.loop-name.invariant.count, c.name-item.is) at (sym c.is_among.ensures ∙ c.if-is_among.true) in
    let i = c.loop-name.name-index in
    stops (λ n. n) (flooded_by (map (λ x. x.0) c.args.compartments.now) c.args.entry) c.args.names.now i _ _ _ c.loop-name-test.true
    (flooded_is c.args.compartments.now c.args.entry (i + 1) (take i c.args.names.now) _ true true known again) c.loop-name.invariant.sound

pub loop-name-preserved : goal.loop-name-preserved
loop-name-preserved c =
    let known = rw (c.get.ensures, c.name-item.is) at (c.is_none.ensures ∙ ap not c.if-is_none.false) in
    let again = rw (c.loop-name.invariant.count, c.name-item.is) at (sym c.is_among.ensures ∙ c.if-is_among.false) in
    let i = c.loop-name.name-index in
    record {
      count = ap (λ n. n + 1) c.loop-name.invariant.count;
      sound = goes_on (λ n. n) (flooded_by (map (λ x. x.0) c.args.compartments.now) c.args.entry) c.args.names.now i _ _ c.loop-name-test.true
          (flooded_is c.args.compartments.now c.args.entry (i + 1) (take i c.args.names.now) _ true false known again) c.loop-name.invariant.sound;
    }

pub returns-clause-ok : goal.returns-clause-ok
returns-clause-ok c = ends (λ n. n) (flooded_by (map (λ x. x.0) c.args.compartments.now) c.args.entry) c.args.names.now c.loop-name.name-index _ c.loop-name-test.false c.loop-name.invariant.sound
