use Rattle.std.proofs.Common.{pos, ◌-ℤ◌, ◌^◌, ◌*◌, arith}
use Rattle.std.proofs.lemmas.Int.{ints, to_z-of_z}
use Rattle.std.specs.Int.{w64}
use mir.Val.{SFits}
use Rattle.exact_algebra.proofs.Fraction.{one, negative}
use Rattle.hull_model.proofs.Magnitudes.{fits_64}
use Rattle.outward_interval.specs.Laws.{difference_contains}
use Rattle.dynamic_lever.proofs.CentreLaws.{towards_port, towards_starboard}
use Rattle.dynamic_lever.proofs.Ends.{at_most_wider, below_at_most, difference_below, difference_at_most, opposite_size}
use Rattle.dynamic_lever.proofs.Widths.{gz_narrow, separation_narrow}
use Rattle.dynamic_lever.proofs.levers.levers_of.Goals as goal

pub sub-requires : goal.sub-requires
sub-requires c = (omega arith, difference_below (2 ^ 105) (2 ^ 77) 126 (omega arith) (c.over_volume-kn.ensures.ends (2 ^ 105) (at_most_wider (2 ^ 113) (2 ^ 105 * 500000) (omega arith) (below_at_most 113 c.requires.mv))) c.side_of_centre.ensures.ends)

pub side_of_centre-requires-2 : goal.side_of_centre-requires-2
side_of_centre-requires-2 c =
    let my = c.args.loading.now.my in
    let straight : SFits w64 my = fits_64 _ (omega (arith, c.args.loading.now.limits.across, c.args.loading.now.limits.most)) in
    let turned : SFits w64 (pos 0 -ℤ my) = fits_64 _ (omega (arith, ints, c.args.loading.now.limits.across, c.args.loading.now.limits.most)) in
    record { across = simp to_z-of_z (opposite_size my) }

pub sub-requires-2 : goal.sub-requires-2
sub-requires-2 c = (omega arith, difference_below (2 ^ 105) (2 ^ 77) 126 (omega arith) (c.over_volume-kn.ensures.ends (2 ^ 105) (at_most_wider (2 ^ 113) (2 ^ 105 * 500000) (omega arith) (below_at_most 113 c.requires.mv))) c.side_of_centre-2.ensures.ends)

pub sub-requires-3 : goal.sub-requires-3
sub-requires-3 c = (omega arith, difference_below (2 ^ 77) (2 ^ 105) 126 (omega arith) c.height_of_centre.ensures.ends (c.over_volume-kb.ensures.ends (2 ^ 105) (at_most_wider (2 ^ 113) (2 ^ 105 * 500000) (omega arith) (below_at_most 113 c.requires.mu))))

pub height_of_centre-requires-2 : goal.height_of_centre-requires-2
height_of_centre-requires-2 c =
    let my = c.args.loading.now.my in
    let straight : SFits w64 my = fits_64 _ (omega (arith, c.args.loading.now.limits.across, c.args.loading.now.limits.most)) in
    let turned : SFits w64 (pos 0 -ℤ my) = fits_64 _ (omega (arith, ints, c.args.loading.now.limits.across, c.args.loading.now.limits.most)) in
    record { across = simp to_z-of_z (opposite_size my) }

pub sub-requires-4 : goal.sub-requires-4
sub-requires-4 c = (omega arith, difference_below (2 ^ 77) (2 ^ 105) 126 (omega arith) c.height_of_centre-2.ensures.ends (c.over_volume-kb.ensures.ends (2 ^ 105) (at_most_wider (2 ^ 113) (2 ^ 105 * 500000) (omega arith) (below_at_most 113 c.requires.mu))))

pub returns-clause-gz : goal.returns-clause-gz
returns-clause-gz c plane mv direction h =
    let my = c.args.loading.now.my in
    let straight : SFits w64 my = fits_64 _ (omega (arith, c.args.loading.now.limits.across, c.args.loading.now.limits.most)) in
    let turned : SFits w64 (pos 0 -ℤ my) = fits_64 _ (omega (arith, ints, c.args.loading.now.limits.across, c.args.loading.now.limits.most)) in
    let port = simp to_z-of_z at (c.side_of_centre.ensures.contains plane one direction) in
    let starboard = simp to_z-of_z at (c.side_of_centre-2.ensures.contains plane (negative one) direction) in
    let kn = c.over_volume-kn.ensures.contains mv h in
    (difference_contains 20 _ _ _ _ _ _ _ _ c.sub.ensures kn (port (towards_port my)), difference_contains 20 _ _ _ _ _ _ _ _ c.sub-2.ensures kn (starboard (towards_starboard my)))

pub returns-clause-sep : goal.returns-clause-sep
returns-clause-sep c plane mu direction h =
    let my = c.args.loading.now.my in
    let straight : SFits w64 my = fits_64 _ (omega (arith, c.args.loading.now.limits.across, c.args.loading.now.limits.most)) in
    let turned : SFits w64 (pos 0 -ℤ my) = fits_64 _ (omega (arith, ints, c.args.loading.now.limits.across, c.args.loading.now.limits.most)) in
    let port = simp to_z-of_z at (c.height_of_centre.ensures.contains plane one direction) in
    let starboard = simp to_z-of_z at (c.height_of_centre-2.ensures.contains plane (negative one) direction) in
    let kb = c.over_volume-kb.ensures.contains mu h in
    (difference_contains 20 _ _ _ _ _ _ _ _ c.sub-3.ensures (port (towards_port my)) kb, difference_contains 20 _ _ _ _ _ _ _ _ c.sub-4.ensures (starboard (towards_starboard my)) kb)

pub returns-clause-gz_ends : goal.returns-clause-gz_ends
returns-clause-gz_ends c most h =
    let kn = c.over_volume-kn.ensures.ends most h in
    (difference_at_most most (2 ^ 77) kn c.side_of_centre.ensures.ends c.sub.ensures, difference_at_most most (2 ^ 77) kn c.side_of_centre-2.ensures.ends c.sub-2.ensures)

pub returns-clause-sep_ends : goal.returns-clause-sep_ends
returns-clause-sep_ends c most h =
    let kb = c.over_volume-kb.ensures.ends most h in
    (difference_at_most (2 ^ 77) most c.height_of_centre.ensures.ends kb c.sub-3.ensures, difference_at_most (2 ^ 77) most c.height_of_centre-2.ensures.ends kb c.sub-4.ensures)

pub returns-clause-gz_width : goal.returns-clause-gz_width
returns-clause-gz_width c w e h cosine sine =
    let kn = c.over_volume-kn.ensures.narrow w h in (
      gz_narrow c.args.loading.now c.args.water.now w e c.sub.ensures kn (c.side_of_centre.ensures.narrow e cosine sine),
      gz_narrow c.args.loading.now c.args.water.now w e c.sub-2.ensures kn (c.side_of_centre-2.ensures.narrow e cosine sine),
    )

pub returns-clause-sep_width : goal.returns-clause-sep_width
returns-clause-sep_width c w e h cosine sine =
    let kb = c.over_volume-kb.ensures.narrow w h in (
      separation_narrow c.args.loading.now c.args.water.now w e c.sub-3.ensures (c.height_of_centre.ensures.narrow e cosine sine) kb,
      separation_narrow c.args.loading.now c.args.water.now w e c.sub-4.ensures (c.height_of_centre-2.ensures.narrow e cosine sine) kb,
    )
