use Rattle.std.proofs.Common.{◌≡◌, ◌*ℤ◌, w64, rules}
use Rattle.std.proofs.lemmas.Int.{to_z-of_z}
use mir.Val.{SFits}
use Rattle.floodable_length.proofs.Levels.{place-fits}
use Rattle.floodable_length.proofs.Steps.{half-fits, is_slab, is_slab_of}
use Rattle.floodable_length.proofs.lengths.Lengths.slab.Goals as goal

half_is : (c : goal.After-slab_about-arg-1) → c.product-half.result ≡ c.args.steps *ℤ c.args.self.now.half_step
half_is c =
    let s = c.args.self.now in
    let steps : SFits w64 c.args.steps = c.ranges.steps in
    let half_step : SFits w64 s.half_step = half-fits s.half_step s.limits.some s.limits.most in
    simp to_z-of_z at c.product-half.ensures.value

pub slab_about-requires : goal.slab_about-requires
slab_about-requires c =
    let s = c.args.self.now in
    let centre : SFits w64 s.centre = place-fits s.centre s.limits.middle in
    let half : SFits w64 c.product-half.result = search rules in
    simp to_z-of_z (record { slab = is_slab s.first s.last s.centre s.half_step c.args.steps c.product-half.result s.permeability s.limits c.requires.some c.requires.within (half_is c) })

pub returns : goal.returns
returns c =
    let s = c.args.self.now in
    let centre : SFits w64 s.centre = place-fits s.centre s.limits.middle in
    let half : SFits w64 c.product-half.result = search rules in
    let aft = simp to_z-of_z at c.slab_about.ensures.aft in
    let fore = simp to_z-of_z at c.slab_about.ensures.fore in
    is_slab_of s.first s.last s.centre s.half_step c.args.steps c.product-half.result s.permeability s.limits c.requires.some c.requires.within (half_is c.before) c.slab_about.result aft fore c.slab_about.ensures.share
