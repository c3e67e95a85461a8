use Rattle.flux_moments.specs.Widths.{size_of, reach_of}
use Rattle.std.proofs.Common.{refl}
use Rattle.flux_moments.specs.Columns.{columns_volume, columns_mx, columns_mv, columns_mu}
use Rattle.flux_moments.proofs.StripLaws.{volume_in_strip, mx_in_strip, mv_in_strip, mu_in_strip}
use Rattle.flux_moments.proofs.StripSums.{far_nodes, three_at_most, nothing_narrow, holds_nothing, holds_columns, nothing_held, whole_volume, whole_mx, whole_mv, whole_mu, most_of, strip_most_small, whole_ends, cut_ends, dry_widths, whole_volume_width, whole_mx_width, whole_mv_width, whole_mu_width, cut_widths}
use Rattle.flux_moments.proofs.TotalWidths.{size_is}
use Rattle.std.specs.List.{AllByRecursion}
use Rattle.hull_model.specs.Faces.{IsFace}
use Rattle.hull_polyhedron.specs.StripsOf.{strip_faces}
use Rattle.flux_moments.proofs.strip_sums.strip_sum.Goals as goal

pub returns-in-Wet-clause-volume : goal.returns-in-Wet-clause-volume
returns-in-Wet-clause-volume c stations hull are plane is = whole_volume stations hull c.args.faces.now are c.args.n c.requires.strip plane c.args.planes.now is c.requires.first c.requires.last c.strip_nodes.ensures.same
    (c.water_of.ensures.wet c.in-Wet.is) c.total.result c.total.ensures.same c.whole_strip.ensures.volume

pub returns-in-Wet-clause-mx : goal.returns-in-Wet-clause-mx
returns-in-Wet-clause-mx c stations hull are plane is = whole_mx stations hull c.args.faces.now are c.args.n c.requires.strip plane c.args.planes.now is c.requires.first c.requires.last c.strip_nodes.ensures.same
    (c.water_of.ensures.wet c.in-Wet.is) c.total.result c.total.ensures.same c.whole_strip.ensures.mx

pub returns-in-Wet-clause-mv : goal.returns-in-Wet-clause-mv
returns-in-Wet-clause-mv c stations hull are plane is = whole_mv stations hull c.args.faces.now are c.args.n c.requires.strip plane c.args.planes.now is c.requires.first c.requires.last c.strip_nodes.ensures.same
    (c.water_of.ensures.wet c.in-Wet.is) c.total.result c.total.ensures.same (c.whole_strip.ensures.mv plane is.direction)

pub returns-in-Wet-clause-mu : goal.returns-in-Wet-clause-mu
returns-in-Wet-clause-mu c stations hull are plane is = whole_mu stations hull c.args.faces.now are c.args.n c.requires.strip plane c.args.planes.now is c.requires.first c.requires.last c.strip_nodes.ensures.same
    (c.water_of.ensures.wet c.in-Wet.is) c.total.result c.total.ensures.same (c.whole_strip.ensures.mu plane is.direction)

pub returns-in-Wet-clause-ends : goal.returns-in-Wet-clause-ends
returns-in-Wet-clause-ends c =
    let limits : AllByRecursion IsFace (strip_faces c.args.faces.now c.args.n) = rw c.strip_faces-strip.ensures.same at c.strip_faces-strip.ensures.limits in
    whole_ends (most_of c.args.faces.now c.args.n) _ c.whole_strip.result (strip_most_small c.args.faces.now c.args.n limits)
    (c.whole_strip.ensures.ends (most_of c.args.faces.now c.args.n) (c.total.ensures.reach refl))

pub returns-in-Wet-clause-widths : goal.returns-in-Wet-clause-widths
returns-in-Wet-clause-widths c =
    let faces = c.args.faces.now in
    let planes = c.args.planes.now in
    record {
      volume = whole_volume_width faces planes c.args.n c.whole_strip.ensures.volume_width;
      mx = whole_mx_width faces planes c.args.n c.whole_strip.ensures.mx_width;
      mv = whole_mv_width faces planes c.args.n (c.whole_strip.ensures.mv_width _ (most_of faces c.args.n) (size_is planes).sine (c.total.ensures.reach refl));
      mu = whole_mu_width faces planes c.args.n (c.whole_strip.ensures.mu_width _ (most_of faces c.args.n) (size_is planes).cosine (c.total.ensures.reach refl));
    }

pub returns-in-Dry-clause-volume : goal.returns-in-Dry-clause-volume
returns-in-Dry-clause-volume c stations hull are plane is = holds_nothing 2 c.nothing.ensures.0
    (nothing_held stations hull c.args.faces.now are c.args.n c.requires.strip plane c.args.planes.now is c.requires.first c.requires.last c.strip_nodes.ensures.same
    (c.water_of.ensures.dry c.in-Dry.is)).volume

pub returns-in-Dry-clause-mx : goal.returns-in-Dry-clause-mx
returns-in-Dry-clause-mx c stations hull are plane is = holds_nothing 2 c.nothing.ensures.1
    (nothing_held stations hull c.args.faces.now are c.args.n c.requires.strip plane c.args.planes.now is c.requires.first c.requires.last c.strip_nodes.ensures.same
    (c.water_of.ensures.dry c.in-Dry.is)).mx

pub returns-in-Dry-clause-mv : goal.returns-in-Dry-clause-mv
returns-in-Dry-clause-mv c stations hull are plane is = holds_nothing 2 c.nothing.ensures.2
    (nothing_held stations hull c.args.faces.now are c.args.n c.requires.strip plane c.args.planes.now is c.requires.first c.requires.last c.strip_nodes.ensures.same
    (c.water_of.ensures.dry c.in-Dry.is)).mv

pub returns-in-Dry-clause-mu : goal.returns-in-Dry-clause-mu
returns-in-Dry-clause-mu c stations hull are plane is = holds_nothing 4 c.nothing.ensures.3
    (nothing_held stations hull c.args.faces.now are c.args.n c.requires.strip plane c.args.planes.now is c.requires.first c.requires.last c.strip_nodes.ensures.same
    (c.water_of.ensures.dry c.in-Dry.is)).mu

pub returns-in-Dry-clause-widths : goal.returns-in-Dry-clause-widths
returns-in-Dry-clause-widths c = dry_widths c.args.faces.now c.args.planes.now c.args.n c.nothing.result c.nothing.ensures

pub returns-in-Cut-clause-volume : goal.returns-in-Cut-clause-volume
returns-in-Cut-clause-volume c stations hull are plane is = holds_columns 2 (columns_volume plane) c.requires.first c.requires.last c.strip_faces-strip.ensures.same
    (volume_in_strip stations hull c.args.faces.now are c.args.n c.requires.strip plane) (c.column_sums.ensures.volume plane is)

pub returns-in-Cut-clause-mx : goal.returns-in-Cut-clause-mx
returns-in-Cut-clause-mx c stations hull are plane is = holds_columns 2 (columns_mx plane) c.requires.first c.requires.last c.strip_faces-strip.ensures.same
    (mx_in_strip stations hull c.args.faces.now are c.args.n c.requires.strip plane) (c.column_sums.ensures.mx plane is)

pub returns-in-Cut-clause-mv : goal.returns-in-Cut-clause-mv
returns-in-Cut-clause-mv c stations hull are plane is = holds_columns 2 (columns_mv plane) c.requires.first c.requires.last c.strip_faces-strip.ensures.same
    (mv_in_strip stations hull c.args.faces.now are c.args.n c.requires.strip plane) (c.column_sums.ensures.mv plane is)

pub returns-in-Cut-clause-mu : goal.returns-in-Cut-clause-mu
returns-in-Cut-clause-mu c stations hull are plane is = holds_columns 4 (columns_mu plane) c.requires.first c.requires.last c.strip_faces-strip.ensures.same
    (mu_in_strip stations hull c.args.faces.now are c.args.n c.requires.strip plane) (c.column_sums.ensures.mu plane is)

pub returns-in-Cut-clause-ends : goal.returns-in-Cut-clause-ends
returns-in-Cut-clause-ends c = rw c.strip_faces-strip.ensures.same at (cut_ends _ c.column_sums.result c.column_sums.ensures.ends)

pub returns-in-Cut-clause-widths : goal.returns-in-Cut-clause-widths
returns-in-Cut-clause-widths c = cut_widths c.args.faces.now c.args.planes.now c.args.n c.strip_faces-strip.ensures.same c.strip_faces-strip.ensures.limits
    c.strip_faces-strip.ensures.inside c.column_sums.result c.requires.last c.column_sums.ensures.widths

pub returns-in-Wet-clause-clear : goal.returns-in-Wet-clause-clear
returns-in-Wet-clause-clear c clear = (three_at_most c.whole_strip.ensures.volume_width, three_at_most c.whole_strip.ensures.mx_width)

pub returns-in-Dry-clause-clear : goal.returns-in-Dry-clause-clear
returns-in-Dry-clause-clear c clear = (nothing_narrow c.nothing.ensures.0, nothing_narrow c.nothing.ensures.1)

pub returns-in-Cut-clause-clear : goal.returns-in-Cut-clause-clear
returns-in-Cut-clause-clear c clear =
    absurd (c.water_of.ensures.clear (size_of c.args.planes.now) (reach_of c.args.faces.now c.args.planes.now) (size_is c.args.planes.now)
    (far_nodes c.args.faces.now c.args.planes.now c.args.n c.requires.first c.requires.last c.strip_nodes.ensures.same c.strip_nodes.ensures.limits c.strip_nodes.ensures.inside clear) c.in-Cut.is)
