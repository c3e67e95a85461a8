use Rattle.std.proofs.Common.{refl}
use Rattle.intact_criteria.specs.declared.finding.Side.{Side}
use Rattle.intact_criteria.specs.Figures.{figures_of}
use Rattle.intact_criteria.specs.Finding.{mark_of}
use Rattle.intact_criteria.specs.Readings.{readings_of}
use Rattle.intact_criteria.proofs.Sizes.{depths_small}
use Rattle.intact_criteria.proofs.NarrowLaws.{open_is_narrow}
use Rattle.intact_criteria.proofs.SmallArms.{gz_small, separation_small}
use Rattle.intact_criteria.proofs.Soundness.{AreSmall}
use Rattle.intact_criteria.proofs.StatedWidths.{as_stated}
use Rattle.intact_criteria.proofs.MarksLaws.{found_right}
use Rattle.intact_criteria.proofs.VerdictLaws.{findings_right, findings_open, findings_bounded}
use Rattle.intact_criteria.proofs.judgement.judge.Goals as goal

pub returns-clause-marks : goal.returns-clause-marks
returns-clause-marks c hull loading water hold choice is =
    found_right c.degree_brackets-brackets.result c.args.arms.now c.args.upright.now c.args.openings.now c.degree_brackets-brackets.ensures c.arm_at-upright.ensures.count hull loading water hold choice is
    c.first-c1.result c.second-c2.result c.third-c3.result c.fourth-c4.result c.fifth-c5.result c.sixth-c6.result
    c.mark_of.result c.mark_of-2.result c.mark_of-3.result c.mark_of-4.result c.mark_of-5.result c.mark_of-6.result
    (record { first = c.first-c1.ensures; second = c.second-c2.ensures; third = c.third-c3.ensures; fourth = c.fourth-c4.ensures; fifth = c.fifth-c5.ensures; sixth = c.sixth-c6.ensures })
    c.mark_of.ensures c.mark_of-2.ensures c.mark_of-3.ensures c.mark_of-4.ensures c.mark_of-5.ensures c.mark_of-6.ensures

pub returns-clause-verdict : goal.returns-clause-verdict
returns-clause-verdict c hull loading water hold choice is =
    rw c.verdict_of.ensures (findings_right (figures_of hull loading water c.args.openings.now choice) c.first-c1.result c.second-c2.result c.third-c3.result c.fourth-c4.result c.fifth-c5.result c.sixth-c6.result
    (found_right c.degree_brackets-brackets.result c.args.arms.now c.args.upright.now c.args.openings.now c.degree_brackets-brackets.ensures c.arm_at-upright.ensures.count hull loading water hold choice is
    c.first-c1.result c.second-c2.result c.third-c3.result c.fourth-c4.result c.fifth-c5.result c.sixth-c6.result
    (mark_of c.first-c1.result) (mark_of c.second-c2.result) (mark_of c.third-c3.result) (mark_of c.fourth-c4.result) (mark_of c.fifth-c5.result) (mark_of c.sixth-c6.result)
    (record { first = c.first-c1.ensures; second = c.second-c2.ensures; third = c.third-c3.ensures; fourth = c.fourth-c4.ensures; fifth = c.fifth-c5.ensures; sixth = c.sixth-c6.ensures })
    refl refl refl refl refl refl))

pub returns-clause-undecided : goal.returns-clause-undecided
returns-clause-undecided c = (
  c.degree_brackets-brackets.result,
  c.degree_brackets-brackets.ensures,
  rw c.verdict_of.ensures (findings_open (readings_of c.degree_brackets-brackets.result c.args.arms.now c.args.upright.now c.args.openings.now)
      c.first-c1.result c.second-c2.result c.third-c3.result c.fourth-c4.result c.fifth-c5.result c.sixth-c6.result
      (record { first = c.first-c1.ensures; second = c.second-c2.ensures; third = c.third-c3.ensures; fourth = c.fourth-c4.ensures; fifth = c.fifth-c5.ensures; sixth = c.sixth-c6.ensures })),
)

pub returns-clause-bounded : goal.returns-clause-bounded
returns-clause-bounded c =
    let small : (side : Side) → AreSmall (readings_of c.degree_brackets-brackets.result c.args.arms.now c.args.upright.now c.args.openings.now side) = λ side. record {
      gz = gz_small c.args.arms.now c.arm_at-upright.ensures.count c.requires.arms side;
      separation = separation_small c.args.arms.now c.arm_at-upright.ensures.count c.requires.arms side;
      gm = c.requires.upright;
      depth = depths_small c.degree_brackets-brackets.result c.args.arms.now c.args.openings.now;
    } in
    rw c.verdict_of.ensures (findings_bounded (readings_of c.degree_brackets-brackets.result c.args.arms.now c.args.upright.now c.args.openings.now)
    c.first-c1.result c.second-c2.result c.third-c3.result c.fourth-c4.result c.fifth-c5.result c.sixth-c6.result
    (record { first = c.first-c1.ensures; second = c.second-c2.ensures; third = c.third-c3.ensures; fourth = c.fourth-c4.ensures; fifth = c.fifth-c5.ensures; sixth = c.sixth-c6.ensures }) small)

pub returns-clause-narrow : goal.returns-clause-narrow
returns-clause-narrow c =
    let open_so = returns-clause-undecided c in
    (open_so.0, open_so.1, open_is_narrow (readings_of open_so.0 c.args.arms.now c.args.upright.now c.args.openings.now) c.verdict_of.result open_so.2)

pub returns-clause-stated : goal.returns-clause-stated
returns-clause-stated c faces loading water =
    as_stated faces loading water c.args.arms.now c.args.upright.now c.args.openings.now c.arm_at-upright.ensures.count c.verdict_of.result (returns-clause-narrow c)
