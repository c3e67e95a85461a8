use Rattle.exact_algebra.proofs.Fraction.{one}
use Rattle.flux_moments.specs.Columns.{lid_parts}
use Rattle.flux_moments.proofs.StripSums.{holds_nothing, holds_columns}
use Rattle.flux_moments.proofs.StripLids.{area_in_strip, x_in_strip, yy_in_strip, xx_in_strip, no_lid_above, no_lid_under, no_lid_widths, cut_lid_widths}
use Rattle.flux_moments.proofs.lid_sums.lid_of_strip.Goals as goal

pub returns-in-Wet-clause-area : goal.returns-in-Wet-clause-area
returns-in-Wet-clause-area c stations hull are at is = holds_nothing 2 c.nothing.ensures.0
    (no_lid_under stations hull c.args.faces.now are c.args.n c.requires.strip at c.args.planes.now is c.requires.first c.requires.last c.strip_nodes.ensures.same (c.water_of.ensures.wet c.in-Wet.is)).area

pub returns-in-Wet-clause-sx : goal.returns-in-Wet-clause-sx
returns-in-Wet-clause-sx c stations hull are at is = holds_nothing 2 c.nothing.ensures.1
    (no_lid_under stations hull c.args.faces.now are c.args.n c.requires.strip at c.args.planes.now is c.requires.first c.requires.last c.strip_nodes.ensures.same (c.water_of.ensures.wet c.in-Wet.is)).x

pub returns-in-Wet-clause-syy : goal.returns-in-Wet-clause-syy
returns-in-Wet-clause-syy c stations hull are at is = holds_nothing 2 c.nothing.ensures.2
    (no_lid_under stations hull c.args.faces.now are c.args.n c.requires.strip at c.args.planes.now is c.requires.first c.requires.last c.strip_nodes.ensures.same (c.water_of.ensures.wet c.in-Wet.is)).yy

pub returns-in-Wet-clause-sxx : goal.returns-in-Wet-clause-sxx
returns-in-Wet-clause-sxx c stations hull are at is = holds_nothing 2 c.nothing.ensures.3
    (no_lid_under stations hull c.args.faces.now are c.args.n c.requires.strip at c.args.planes.now is c.requires.first c.requires.last c.strip_nodes.ensures.same (c.water_of.ensures.wet c.in-Wet.is)).xx

pub returns-in-Wet-clause-widths : goal.returns-in-Wet-clause-widths
returns-in-Wet-clause-widths c d1 d2 order level = no_lid_widths c.args.faces.now d1 d2 order _ c.nothing.result c.nothing.ensures

pub returns-in-Dry-clause-area : goal.returns-in-Dry-clause-area
returns-in-Dry-clause-area c stations hull are at is = holds_nothing 2 c.nothing-in-Dry.ensures.0
    (no_lid_above stations hull c.args.faces.now are c.args.n c.requires.strip at c.args.planes.now is c.requires.first c.requires.last c.strip_nodes.ensures.same (c.water_of.ensures.dry c.in-Dry.is)).area

pub returns-in-Dry-clause-sx : goal.returns-in-Dry-clause-sx
returns-in-Dry-clause-sx c stations hull are at is = holds_nothing 2 c.nothing-in-Dry.ensures.1
    (no_lid_above stations hull c.args.faces.now are c.args.n c.requires.strip at c.args.planes.now is c.requires.first c.requires.last c.strip_nodes.ensures.same (c.water_of.ensures.dry c.in-Dry.is)).x

pub returns-in-Dry-clause-syy : goal.returns-in-Dry-clause-syy
returns-in-Dry-clause-syy c stations hull are at is = holds_nothing 2 c.nothing-in-Dry.ensures.2
    (no_lid_above stations hull c.args.faces.now are c.args.n c.requires.strip at c.args.planes.now is c.requires.first c.requires.last c.strip_nodes.ensures.same (c.water_of.ensures.dry c.in-Dry.is)).yy

pub returns-in-Dry-clause-sxx : goal.returns-in-Dry-clause-sxx
returns-in-Dry-clause-sxx c stations hull are at is = holds_nothing 2 c.nothing-in-Dry.ensures.3
    (no_lid_above stations hull c.args.faces.now are c.args.n c.requires.strip at c.args.planes.now is c.requires.first c.requires.last c.strip_nodes.ensures.same (c.water_of.ensures.dry c.in-Dry.is)).xx

pub returns-in-Dry-clause-widths : goal.returns-in-Dry-clause-widths
returns-in-Dry-clause-widths c d1 d2 order level = no_lid_widths c.args.faces.now d1 d2 order _ c.nothing-in-Dry.result c.nothing-in-Dry.ensures

pub returns-in-Cut-clause-area : goal.returns-in-Cut-clause-area
returns-in-Cut-clause-area c stations hull are at is = holds_columns 2 (λ first last faces. lid_parts at first last (λ p. one) (λ p. one) faces) c.requires.first c.requires.last c.strip_faces-strip.ensures.same
    (area_in_strip stations hull c.args.faces.now are c.args.n c.requires.strip at) (c.seen_sums.ensures.area at is)

pub returns-in-Cut-clause-sx : goal.returns-in-Cut-clause-sx
returns-in-Cut-clause-sx c stations hull are at is = holds_columns 2 (λ first last faces. lid_parts at first last (λ p. p.x) (λ p. one) faces) c.requires.first c.requires.last c.strip_faces-strip.ensures.same
    (x_in_strip stations hull c.args.faces.now are c.args.n c.requires.strip at) (c.seen_sums.ensures.sx at is)

pub returns-in-Cut-clause-syy : goal.returns-in-Cut-clause-syy
returns-in-Cut-clause-syy c stations hull are at is = holds_columns 2 (λ first last faces. lid_parts at first last (λ p. p.y) (λ p. p.y) faces) c.requires.first c.requires.last c.strip_faces-strip.ensures.same
    (yy_in_strip stations hull c.args.faces.now are c.args.n c.requires.strip at) (c.seen_sums.ensures.syy at is)

pub returns-in-Cut-clause-sxx : goal.returns-in-Cut-clause-sxx
returns-in-Cut-clause-sxx c stations hull are at is = holds_columns 2 (λ first last faces. lid_parts at first last (λ p. p.x) (λ p. p.x) faces) c.requires.first c.requires.last c.strip_faces-strip.ensures.same
    (xx_in_strip stations hull c.args.faces.now are c.args.n c.requires.strip at) (c.seen_sums.ensures.sxx at is)

pub returns-in-Cut-clause-widths : goal.returns-in-Cut-clause-widths
returns-in-Cut-clause-widths c d1 d2 order level = cut_lid_widths c.args.faces.now c.args.planes.now d1 d2 c.seen_sums.result c.strip_faces-strip.ensures.same
    c.strip_faces-strip.ensures.inside c.requires.first c.requires.last level c.seen_sums.ensures.widths
