use Rattle.std.proofs.Common.{◌∙◌, ap, ℤ, pos, ◌*◌, ◌^◌, ◌*ℤ◌, arith}
use Rattle.std.specs.Int.{w128}
use Rattle.std.proofs.lemmas.Int.{ints, to_z-of_z}
use mir.Val.{SFits}
use Rattle.hull_model.proofs.Magnitudes.{fits_128}
use Rattle.loading_sheet.proofs.Ratios.{ratio_is}
use Rattle.loading_sheet.proofs.volume.volume_displaced.Goals as goal

pub returns-clause-same : goal.returns-clause-same
returns-clause-same c =
    let mass : SFits w128 c.from-kilograms.result = record { sfits = c.from-kilograms.type_inv } in
    let density : SFits w128 c.from.result = record { sfits = c.from.type_inv } in
    let times : SFits w128 (c.from-kilograms.result *ℤ pos 1000000000) = fits_128 _ (omega (arith, ints, c.from-kilograms.ensures, c.requires)) in
    let parts = simp to_z-of_z at c.in-Some.ensures.parts in
    ratio_is c.in-Some.volume (pos (c.args.mass * 10 ^ 9)) c.args.water.now.density (parts.0 ∙ ap (λ (z : ℤ). z *ℤ pos 1000000000) c.from-kilograms.ensures) (parts.1 ∙ c.from.ensures)
