use Rattle.std.proofs.Common.{pos, ◌+◌, ◌∙◌, sym, ap, subst, w64}
use Rattle.std.proofs.lemmas.Int.{to_z-of_z}
use mir.Val.{SFits}
use Rattle.exact_algebra.proofs.Fraction.{Fraction}
use Rattle.exact_algebra.proofs.Span.{ContainsFraction}
use Rattle.exact_algebra.proofs.Whole.{whole}
use Rattle.outward_interval.specs.Laws.{sum_contains, difference_contains}
use Rattle.hull_model.specs.Waterplane.{height, level_at}
use Rattle.outward_interval.specs.Widths.{units}
use Rattle.flux_moments.specs.Sizes.{spread}
use Rattle.flux_moments.proofs.BoxWidths.{corner_size}
use Rattle.flux_moments.proofs.PartWidths.{corner-wide}
use Rattle.flux_moments.proofs.part_columns.corner_of.Goals as goal

pub returns-clause-depth : goal.returns-clause-depth
returns-clause-depth c plane p is h =
    let level = c.levels_at-level in
    let high = c.height_of-height in
    let x : SFits w64 c.place_of-x.result = record { sfits = c.place_of-x.type_inv } in
    let same = ap whole (c.place_of-x.ensures) ∙ sym h.x in
    let at = simp to_z-of_z at (level.ensures.contains plane is) in
    difference_contains 20 level.result.lo level.result.hi high.result.lo high.result.hi c.sub.result.lo c.sub.result.hi (level_at plane c.args.way.first c.args.way.last p.x) (height plane p) c.sub.ensures
    (subst (λ (y : Fraction). ContainsFraction 20 level.result.lo level.result.hi (level_at plane c.args.way.first c.args.way.last y)) same at) (high.ensures.contains plane p is.direction h)

pub returns-clause-side : goal.returns-clause-side
returns-clause-side c plane p is h = c.side_of.ensures.contains plane p is.direction h

pub returns-clause-middle : goal.returns-clause-middle
returns-clause-middle c plane p is h =
    let level = c.levels_at-level in
    let high = c.height_of-height in
    let x : SFits w64 c.place_of-x.result = record { sfits = c.place_of-x.type_inv } in
    let same = ap whole (c.place_of-x.ensures) ∙ sym h.x in
    let at = simp to_z-of_z at (level.ensures.contains plane is) in
    sum_contains 20 level.result.lo level.result.hi high.result.lo high.result.hi c.add.result.lo c.add.result.hi (level_at plane c.args.way.first c.args.way.last p.x) (height plane p) c.add.ensures
    (subst (λ (y : Fraction). ContainsFraction 20 level.result.lo level.result.hi (level_at plane c.args.way.first c.args.way.last y)) same at) (high.ensures.contains plane p is.direction h)

pub returns-clause-size : goal.returns-clause-size
returns-clause-size c b h s y z is reached extent wide =
    let level = c.levels_at-level in
    let high = c.height_of-height in
    corner_size c.args.planes.now b is h (whole (pos (z + y))) reached (units 20 10) s (corner-wide (spread b h) s wide) level.result high.result c.sub.result c.side_of.result c.add.result
    (level.ensures.narrow b.rise is.aft is.fore) (level.ensures.near b.level is.aft_level is.fore_level)
    (high.ensures.narrow b.turn y z is.cosine is.sine extent) (high.ensures.near y z extent)
    c.sub.ensures c.add.ensures (c.side_of.ensures.narrow b.turn y z is.cosine is.sine extent) (c.side_of.ensures.near y z extent)
