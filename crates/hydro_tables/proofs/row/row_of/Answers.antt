use Rattle.std.proofs.Common.{◌^◌, subst, arith}
use Rattle.exact_algebra.proofs.Fraction.{Fraction}
use Rattle.hydro_tables.specs.Figures as figure
use Rattle.hydro_tables.specs.Row.{Holds}
use Rattle.hydro_tables.proofs.FigureLaws.{displacement_is, tpc_is}
use Rattle.hydro_tables.proofs.RowInertia.{inertia_holds, bml_holds, mct_holds}
use Rattle.hydro_tables.proofs.RowNarrow.{aboard_ends, aboard_bounded, below_within, centre_holds, quotient_within, lcf_narrow, shown_narrow, bml_narrow, mct_narrow}
use Rattle.hydro_tables.proofs.RowQuotients.{IsAboveNought, bounded_if_there, divisor_holds, divisor_above, first_of_both, quotient_holds, sum_holds, through, either, either_same}
use Rattle.hydro_tables.proofs.VolumeMove.{kept_narrow}
use Rattle.hydro_tables.proofs.row.row_of.Goals as goal

pub longitudinal-inertia-requires-clause-lcf : goal.longitudinal-inertia-requires-clause-lcf
longitudinal-inertia-requires-clause-lcf c = aboard_ends c.centre-lcf.result c.centre-lcf.ensures.aboard

pub returns-clause-holds : goal.returns-clause-holds
returns-clause-holds c i at h =
    let below = c.args.below.now in
    let lid = c.args.lid.now in
    let water = c.args.water.now in
    let volume = c.divisor_for-volume.result in
    let area = c.above_nought-area.result in
    let volume_is = divisor_holds below.volume volume c.divisor_for-volume.ensures.same i.volume h.volume in
    let volume_above = divisor_above below.volume volume c.divisor_for-volume.ensures.same in
    let area_is = divisor_holds lid.area area c.above_nought-area.ensures.same i.area h.area in
    let area_above = divisor_above lid.area area c.above_nought-area.ensures.same in
    let shown_volume = c.shown-shown_volume.ensures.contains i.volume h.volume in
    let lcf = centre_holds area c.centre-lcf.result lid.sx i.sx i.area c.centre-lcf.ensures.contains at h.sx area_is in
    let kb = quotient_holds volume c.quotient-kb.result below.mu i.mu i.volume c.quotient-kb.ensures.contains h.mu volume_is in
    let bmt = quotient_holds volume c.quotient-bmt.result lid.syy i.syy i.volume c.quotient-bmt.ensures.contains h.syy volume_is in
    let inertia = inertia_holds i area c.centre-lcf.result lid.sx lid.sxx c.longitudinal-inertia.result c.centre-lcf.ensures.none area_above area_is
    c.longitudinal-inertia.ensures.contains lcf h.sx h.sxx in
    record {
      volume = shown_volume;
      displacement = subst (λ (q : Fraction). Holds c.displacement_of.result q) (displacement_is i water) (c.displacement_of.ensures.contains i.volume shown_volume);
      lcb = quotient_holds volume c.quotient-lcb.result below.mx i.mx i.volume c.quotient-lcb.ensures.contains h.mx volume_is;
      kb = kb;
      area = h.area;
      lcf = lcf;
      bmt = bmt;
      bml = bml_holds i volume area c.both.result c.quotient-bml.result c.longitudinal-inertia.result c.both.ensures.none c.quotient-bml.ensures.none volume_above volume_is inertia
          c.both.ensures.same c.quotient-bml.ensures.contains;
      kmt = sum_holds c.quotient-kb.result c.quotient-bmt.result c.sum_of.result (figure.kb i) (figure.bmt i) c.sum_of.ensures.contains kb bmt;
      tpc = subst (λ (q : Fraction). Holds c.tpc_of.result q) (tpc_is i water) (c.tpc_of.ensures.contains i.area h.area);
      mct = mct_holds i volume area c.both.result c.quotient-bml.result c.longitudinal-inertia.result c.both.ensures.none c.quotient-bml.ensures.none volume_above volume_is inertia
          water c.mct_of.result c.mct_of.ensures.none c.mct_of.ensures.contains;
    }

pub returns-clause-ends : goal.returns-clause-ends
returns-clause-ends c = record {
  volume = c.shown-shown_volume.ensures.ends;
  displacement = c.displacement_of.ensures.ends;
  lcb = bounded_if_there (2 ^ 94) c.quotient-lcb.result (omega arith) c.quotient-lcb.ensures.ends;
  kb = bounded_if_there (2 ^ 94) c.quotient-kb.result (omega arith) c.quotient-kb.ensures.ends;
  area = below_within c.args.lid.now.area.lo c.args.lid.now.area.hi c.requires.lid.area;
  lcf = aboard_bounded c.centre-lcf.result c.centre-lcf.ensures.aboard;
  bmt = bounded_if_there (2 ^ 94) c.quotient-bmt.result (omega arith) c.quotient-bmt.ensures.ends;
  bml = bounded_if_there (2 ^ 94) c.quotient-bml.result (omega arith) c.quotient-bml.ensures.ends;
  kmt = c.sum_of.ensures.ends;
  tpc = c.tpc_of.ensures.ends;
  mct = c.mct_of.ensures.ends;
}

pub returns-clause-absent : goal.returns-clause-absent
returns-clause-absent c =
    let volume = c.shown-shown_volume.ensures.none in
    let area = c.above_nought-area.ensures.none in
    let kb = through c.quotient-kb.ensures.none volume in
    let bmt = through c.quotient-bmt.ensures.none volume in
    let bml = through c.quotient-bml.ensures.none (through c.both.ensures.none (either volume area)) in
    record {
      lcb = through c.quotient-lcb.ensures.none volume;
      kb = kb;
      lcf = through c.centre-lcf.ensures.none area;
      bmt = bmt;
      bml = bml;
      kmt = through c.sum_of.ensures.none (either_same kb bmt);
      mct = through c.mct_of.ensures.none bml;
    }

pub returns-clause-widths : goal.returns-clause-widths
returns-clause-widths c w i limits h m =
    let below = c.args.below.now in
    let lid = c.args.lid.now in
    let water = c.args.water.now in
    let volume = c.divisor_for-volume.result in
    let area = c.above_nought-area.result in
    let lcf = c.centre-lcf.result in
    let inertia = c.longitudinal-inertia.result in
    let shown_volume = c.shown-shown_volume.result in
    let volume_same = c.divisor_for-volume.ensures.same in
    let volume_is = divisor_holds below.volume volume volume_same i.volume h.volume in
    let volume_above = divisor_above below.volume volume volume_same in
    let area_same = c.above_nought-area.ensures.same in
    let area_is = divisor_holds lid.area area area_same i.area h.area in
    let area_above = divisor_above lid.area area area_same in
    let kept = c.shown-shown_volume.ensures.kept in
    let both = c.both.result in
    let both_same = first_of_both _ volume both c.both.ensures.same volume_same in
    let both_kept = first_of_both _ volume both c.both.ensures.same kept in
    let both_above = first_of_both IsAboveNought volume both c.both.ensures.same volume_above in
    let both_is = first_of_both (λ d. Holds d i.volume) volume both c.both.ensures.same volume_is in
    let lcf_is = centre_holds area lcf lid.sx i.sx i.area c.centre-lcf.ensures.contains limits.sx h.sx area_is in
    let about = inertia_holds i area lcf lid.sx lid.sxx inertia c.centre-lcf.ensures.none area_above area_is c.longitudinal-inertia.ensures.contains lcf_is h.sx h.sxx in
    let wide = kept_narrow w i limits below.volume m.volume h.volume in
    record {
      volume = shown_narrow w i limits below lid h m area lcf inertia area_same c.centre-lcf.ensures.none c.centre-lcf.ensures.aboard lcf_is c.centre-lcf.ensures.narrow about
          c.longitudinal-inertia.ensures.narrow c.longitudinal-inertia.ensures.none below.volume m.volume h.volume volume shown_volume c.shown-shown_volume.ensures.moved kept c.divisor_for-volume.ensures.some;
      displacement = c.displacement_of.ensures.narrow;
      lcb = quotient_within volume c.quotient-lcb.result below.mx below.volume shown_volume w.mx w.volume i.mx i.volume c.quotient-lcb.ensures.narrow c.quotient-lcb.ensures.none volume_same kept m.mx wide h.mx h.volume;
      kb = quotient_within volume c.quotient-kb.result below.mu below.volume shown_volume w.mu w.volume i.mu i.volume c.quotient-kb.ensures.narrow c.quotient-kb.ensures.none volume_same kept m.mu wide h.mu h.volume;
      area = m.area;
      lcf = lcf_narrow w i limits below lid h m area lcf inertia area_same c.centre-lcf.ensures.none c.centre-lcf.ensures.aboard lcf_is c.centre-lcf.ensures.narrow about
          c.longitudinal-inertia.ensures.narrow c.longitudinal-inertia.ensures.none;
      bmt = quotient_within volume c.quotient-bmt.result lid.syy below.volume shown_volume w.syy w.volume i.syy i.volume c.quotient-bmt.ensures.narrow c.quotient-bmt.ensures.none volume_same kept m.syy wide h.syy h.volume;
      bml = bml_narrow w i limits below lid h m area lcf inertia area_same c.centre-lcf.ensures.none c.centre-lcf.ensures.aboard lcf_is c.centre-lcf.ensures.narrow about
          c.longitudinal-inertia.ensures.narrow c.longitudinal-inertia.ensures.none both c.quotient-bml.result below.volume shown_volume c.quotient-bml.ensures.narrow c.quotient-bml.ensures.none both_same both_kept wide h.volume;
      kmt = c.sum_of.ensures.narrow;
      tpc = c.tpc_of.ensures.narrow;
      mct = mct_narrow both c.quotient-bml.result c.mct_of.result c.displacement_of.result inertia i.volume water.density water.length_bp water.limits.some_length c.quotient-bml.ensures.none both_above both_is
          (c.displacement_of.ensures.contains i.volume (c.shown-shown_volume.ensures.contains i.volume h.volume)) c.quotient-bml.ensures.contains c.mct_of.ensures.narrow;
    }
