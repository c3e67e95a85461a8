use Rattle.std.proofs.Common.{rules, refl}
use Rattle.bonjean_curves.proofs.Passed.{AtHead, Rises-tail, limits-tail, area_passed-start, moment_passed-start, area_passed-step, moment_passed-step, area-quotient, moment-quotient, IsAbove, area-quotient_above, moment-quotient_above, short, dry}
use Rattle.bonjean_curves.proofs.curve.integrals_below.Goals.{in_default, in-len2-up+then-draft-strip}
use Rattle.bonjean_curves.proofs.curve.integrals_below.Goals as goal

pub loop-rest-init : goal.loop-rest-init
loop-rest-init c = record {
  few = search rules;
  heights_rise = search rules;
  limits = search rules;
  area = search rules;
  moment = search rules;
  area_passed = area_passed-start c.args.points.now c.args.draft;
  moment_passed = moment_passed-start c.args.points.now c.args.draft;
}

pub loop-rest-preserved : goal.loop-rest-preserved
loop-rest-preserved c =
    let strip = c.between-strip.result in
    let points : AtHead c.loop-rest.rest.now strip.foot strip.head strip.lower strip.upper = record { heights = c.between-strip.ensures.heights; breadths = c.between-strip.ensures.breadths } in
    record {
      few = search rules;
      heights_rise = Rises-tail c.loop-rest.rest.now _ refl c.loop-rest.invariant.heights_rise;
      limits = limits-tail c.loop-rest.rest.now _ refl c.loop-rest.invariant.limits;
      area = search rules;
      moment = search rules;
      area_passed = area_passed-step c.args.points.now c.loop-rest.rest.now _ c.args.draft strip.foot strip.head strip.lower strip.upper c.loop-rest.area c.area-area.result
          c.loop-rest.invariant.area_passed c.area-area.ensures.value c.in-len2-up.len_at_least refl points strip.rises c.if-draft-strip-2.false;
      moment_passed = moment_passed-step c.args.points.now c.loop-rest.rest.now _ c.args.draft strip.foot strip.head strip.lower strip.upper c.loop-rest.moment c.moment-moment.result
          c.loop-rest.invariant.moment_passed c.moment-moment.ensures.value c.in-len2-up.len_at_least refl points strip.rises c.if-draft-strip-2.false;
    }

pub returns-then-draft-strip-2-clause-area : goal.returns-then-draft-strip-2-clause-area
returns-then-draft-strip-2-clause-area c =
    let strip = c.between-strip.result in
    let points : AtHead c.loop-rest.rest.now strip.foot strip.head strip.lower strip.upper = record { heights = c.between-strip.ensures.heights; breadths = c.between-strip.ensures.breadths } in
    rw c.above.ensures.rise (area-quotient c.args.points.now c.loop-rest.rest.now c.args.draft strip.foot strip.head strip.lower strip.upper c.loop-rest.area c.below.result.area c.above.result.area c.below.result.rise
    c.loop-rest.invariant.area_passed c.below.ensures.rise c.below.ensures.area c.above.ensures.area c.in-len2-up.len_at_least c.loop-rest.invariant.heights_rise points c.if-draft-strip.false c.if-draft-strip-2.true)

pub returns-then-draft-strip-2-clause-moment : goal.returns-then-draft-strip-2-clause-moment
returns-then-draft-strip-2-clause-moment c =
    let strip = c.between-strip.result in
    let points : AtHead c.loop-rest.rest.now strip.foot strip.head strip.lower strip.upper = record { heights = c.between-strip.ensures.heights; breadths = c.between-strip.ensures.breadths } in
    moment-quotient c.args.points.now c.loop-rest.rest.now c.args.draft strip.foot strip.head strip.lower strip.upper c.loop-rest.moment c.below.result.moment c.above.result.moment c.below.result.rise c.above.result.rise
    c.loop-rest.invariant.moment_passed c.below.ensures.rise c.below.ensures.moment c.above.ensures.moment c.above.ensures.rise c.in-len2-up.len_at_least c.loop-rest.invariant.heights_rise points c.if-draft-strip.false c.if-draft-strip-2.true

pub returns-clause-area : goal.returns-clause-area
returns-clause-area c =
    let above : IsAbove c.loop-rest.rest.now c.args.draft = elim c.if-rest-lt2.branch [
      | in_default w ↦ short w.in_default.len_below
      | in-len2-up+then-draft-strip w ↦ dry w.between-strip.result.foot w.in-len2-up.len_at_least w.between-strip.ensures.heights.0 w.if-draft-strip.true
    ] in
    rw c.above-2.ensures.rise (area-quotient_above c.args.points.now c.loop-rest.rest.now c.args.draft c.loop-rest.area 0 c.above-2.result.area 1
    c.loop-rest.invariant.area_passed refl c.above-2.ensures.area c.loop-rest.invariant.heights_rise above)

pub returns-clause-moment : goal.returns-clause-moment
returns-clause-moment c =
    let above : IsAbove c.loop-rest.rest.now c.args.draft = elim c.if-rest-lt2.branch [
      | in_default w ↦ short w.in_default.len_below
      | in-len2-up+then-draft-strip w ↦ dry w.between-strip.result.foot w.in-len2-up.len_at_least w.between-strip.ensures.heights.0 w.if-draft-strip.true
    ] in
    rw c.above-2.ensures.rise (moment-quotient_above c.args.points.now c.loop-rest.rest.now c.args.draft c.loop-rest.moment 0 c.above-2.result.moment 1
    c.loop-rest.invariant.moment_passed refl c.above-2.ensures.moment c.loop-rest.invariant.heights_rise above)
