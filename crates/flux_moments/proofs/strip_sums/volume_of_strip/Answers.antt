use Rattle.flux_moments.specs.Widths.{size_of, reach_of}
use Rattle.flux_moments.proofs.TotalWidths.{size_is}
use Rattle.std.proofs.Common.{rules, ◌^◌, arith}
use Rattle.std.proofs.lemmas.Int.{to_z-of_z}
use Rattle.std.specs.Int.{w128}
use mir.Val.{SFits}
use Rattle.flux_moments.specs.Columns.{columns_volume}
use Rattle.flux_moments.proofs.StripLaws.{volume_in_strip}
use Rattle.flux_moments.proofs.StripSums.{far_nodes, three_at_most, nothing_narrow, holds_nothing, holds_columns, nothing_held, whole_volume, whole_end, cut_end, dry_volume, whole_volume_width, cut_volume_width}
use Rattle.flux_moments.proofs.strip_sums.volume_of_strip.Goals as goal

pub returns-in-Wet-clause-ends : goal.returns-in-Wet-clause-ends
returns-in-Wet-clause-ends c =
    let six : SFits w128 c.total.result.six = search rules in
    whole_end _ (c.quotient.ensures.ends (2 ^ 83) (simp to_z-of_z (omega (arith, c.total.ensures.six))))

pub returns-in-Wet-clause-volume : goal.returns-in-Wet-clause-volume
returns-in-Wet-clause-volume c stations hull are plane is =
    let six : SFits w128 c.total.result.six = search rules in
    whole_volume stations hull c.args.faces.now are c.args.n c.requires.strip plane c.args.planes.now is c.requires.first c.requires.last c.strip_nodes.ensures.same
    (c.water_of.ensures.wet c.in-Wet.is) c.total.result c.total.ensures.same (simp to_z-of_z at c.quotient.ensures.contains)

pub returns-in-Wet-clause-width : goal.returns-in-Wet-clause-width
returns-in-Wet-clause-width c = whole_volume_width c.args.faces.now c.args.planes.now c.args.n c.quotient.ensures.width

pub returns-in-Dry-clause-volume : goal.returns-in-Dry-clause-volume
returns-in-Dry-clause-volume c stations hull are plane is = holds_nothing 2 c.nothing.ensures
    (nothing_held stations hull c.args.faces.now are c.args.n c.requires.strip plane c.args.planes.now is c.requires.first c.requires.last c.strip_nodes.ensures.same
    (c.water_of.ensures.dry c.in-Dry.is)).volume

pub returns-in-Dry-clause-width : goal.returns-in-Dry-clause-width
returns-in-Dry-clause-width c = dry_volume c.args.faces.now c.args.planes.now c.args.n c.nothing.ensures

pub returns-in-Cut-clause-volume : goal.returns-in-Cut-clause-volume
returns-in-Cut-clause-volume c stations hull are plane is = holds_columns 2 (columns_volume plane) c.requires.first c.requires.last c.strip_faces-strip.ensures.same
    (volume_in_strip stations hull c.args.faces.now are c.args.n c.requires.strip plane) (c.volume_sum.ensures.volume plane is)

pub returns-in-Cut-clause-ends : goal.returns-in-Cut-clause-ends
returns-in-Cut-clause-ends c = rw c.strip_faces-strip.ensures.same at (cut_end _ c.volume_sum.ensures.ends)

pub returns-in-Cut-clause-width : goal.returns-in-Cut-clause-width
returns-in-Cut-clause-width c = cut_volume_width c.args.faces.now c.args.planes.now c.args.n c.strip_faces-strip.ensures.same c.strip_faces-strip.ensures.limits
    c.strip_faces-strip.ensures.inside c.volume_sum.ensures.narrow

pub returns-in-Wet-clause-clear : goal.returns-in-Wet-clause-clear
returns-in-Wet-clause-clear c clear = three_at_most c.quotient.ensures.width

pub returns-in-Dry-clause-clear : goal.returns-in-Dry-clause-clear
returns-in-Dry-clause-clear c clear = nothing_narrow c.nothing.ensures

pub returns-in-Cut-clause-clear : goal.returns-in-Cut-clause-clear
returns-in-Cut-clause-clear c clear =
    absurd (c.water_of.ensures.clear (size_of c.args.planes.now) (reach_of c.args.faces.now c.args.planes.now) (size_is c.args.planes.now)
    (far_nodes c.args.faces.now c.args.planes.now c.args.n c.requires.first c.requires.last c.strip_nodes.ensures.same c.strip_nodes.ensures.limits c.strip_nodes.ensures.inside clear) c.in-Cut.is)
