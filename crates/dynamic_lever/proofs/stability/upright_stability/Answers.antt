use Rattle.std.proofs.Common.{w64, ◌+◌, ◌*◌, ◌^◌, arith}
use Rattle.std.proofs.lemmas.Int.{to_z-of_z}
use mir.Val.{SFits}
use Rattle.hull_model.specs.Waterplane.{upright}
use Rattle.flux_moments.proofs.Levels.{level_fits}
use Rattle.flux_moments.proofs.ProductEnds.{at_most_below}
use Rattle.dynamic_lever.proofs.Ends.{at_most_wider, below_at_most}
use Rattle.dynamic_lever.proofs.stability.upright_stability.Goals as goal

pub returns-clause-kb : goal.returns-clause-kb
returns-clause-kb c stations hull are at is = c.upright_of.ensures.kb _ (c.measure-below.ensures.mu stations hull are (upright at) is)

pub returns-clause-bm : goal.returns-clause-bm
returns-clause-bm c stations hull are at is =
    let a1 : SFits w64 c.args.planes.now.a1 = level_fits _ c.args.planes.now.levels.first in
    let a2 : SFits w64 c.args.planes.now.a2 = level_fits _ c.args.planes.now.levels.second in
    let syy = simp to_z-of_z at c.lid-lid.ensures.syy in
    c.upright_of.ensures.bm _ (syy stations hull are at is.aft)

pub returns-clause-gm : goal.returns-clause-gm
returns-clause-gm c stations hull are at is =
    let a1 : SFits w64 c.args.planes.now.a1 = level_fits _ c.args.planes.now.levels.first in
    let a2 : SFits w64 c.args.planes.now.a2 = level_fits _ c.args.planes.now.levels.second in
    let syy = simp to_z-of_z at c.lid-lid.ensures.syy in
    c.upright_of.ensures.gm _ _ (c.measure-below.ensures.mu stations hull are (upright at) is) (syy stations hull are at is.aft)

pub returns-clause-kb_width : goal.returns-clause-kb_width
returns-clause-kb_width c = c.upright_of.ensures.kb_width _ c.measure-below.ensures.mu_width

pub returns-clause-bm_width : goal.returns-clause-bm_width
returns-clause-bm_width c =
    let a1 : SFits w64 c.args.planes.now.a1 = level_fits _ c.args.planes.now.levels.first in
    let a2 : SFits w64 c.args.planes.now.a2 = level_fits _ c.args.planes.now.levels.second in
    let syy = simp to_z-of_z at c.lid-lid.ensures.syy_width in
    c.upright_of.ensures.bm_width _ syy

pub returns-clause-gm_width : goal.returns-clause-gm_width
returns-clause-gm_width c =
    let a1 : SFits w64 c.args.planes.now.a1 = level_fits _ c.args.planes.now.levels.first in
    let a2 : SFits w64 c.args.planes.now.a2 = level_fits _ c.args.planes.now.levels.second in
    let syy = simp to_z-of_z at c.lid-lid.ensures.syy_width in
    c.upright_of.ensures.gm_width _ _ c.measure-below.ensures.mu_width syy

pub returns-clause-ends : goal.returns-clause-ends
returns-clause-ends c =
    let mu = at_most_wider (3 * 2 ^ 111) (13 * 2 ^ 90 * 500000) (omega arith) c.measure-below.ensures.mu_ends in
    let syy = at_most_wider (2 ^ 113) (18 * 2 ^ 90 * 500000) (omega arith) (below_at_most 113 c.lid-lid.ensures.syy_ends) in (
      at_most_below (13 * 2 ^ 90) 95 (omega arith) (c.upright_of.ensures.kb_ends (13 * 2 ^ 90) mu),
      at_most_below (18 * 2 ^ 90) 95 (omega arith) (c.upright_of.ensures.bm_ends (18 * 2 ^ 90) syy),
      at_most_below ((13 * 2 ^ 90 + 18 * 2 ^ 90) + 2 ^ 75) 95 (omega arith) (c.upright_of.ensures.gm_ends (13 * 2 ^ 90) (18 * 2 ^ 90) mu syy),
    )
