use Rattle.std.proofs.Common.{◌∙◌, sym, ◌+◌, ◌^◌, arith}
use Rattle.std.proofs.lemmas.Bool.{false≢true}
use Rattle.flux_moments.proofs.ProductEnds.{products_fit, product_ends, at_most_less, less}
use Rattle.hydro_tables.proofs.CoarseEnds.{coarse_ends}
use Rattle.hydro_tables.proofs.ProductWidths.{fine_narrow, coarse_narrow}
use Rattle.hydro_tables.proofs.figures.product.Goals as goal

pub scaled_by-requires : goal.scaled_by-requires
scaled_by-requires c = (omega arith, (omega arith, products_fit (2 ^ 40 + 1) (2 ^ 83) (omega arith) (at_most_less (2 ^ 40) c.requires.length) (less 83 (c.has_room.ensures.0 c.if-has_room.true))))

pub returns-then-has_room-clause-ends : goal.returns-then-has_room-clause-ends
returns-then-has_room-clause-ends c =
    product_ends (2 ^ 40 + 1) (2 ^ 83) (2 ^ 114) (2 ^ 20) (omega arith) (at_most_less (2 ^ 40) c.requires.length) (less 83 (c.has_room.ensures.0 c.if-has_room.true)) c.scaled_by.ensures.ends

pub scaled_by-requires-2 : goal.scaled_by-requires-2
scaled_by-requires-2 c =
    let coarse = coarse_ends c.args.sx.lo c.args.sx.hi c.rescale-coarse.result.lo c.rescale-coarse.result.hi c.requires.sx c.rescale-coarse.ensures.ends in
    (omega arith, (omega arith, products_fit (2 ^ 40 + 1) (2 ^ 83 + 1) (omega arith) (at_most_less (2 ^ 40) c.requires.length) (at_most_less (2 ^ 83) coarse)))

pub returns-clause-ends : goal.returns-clause-ends
returns-clause-ends c =
    let coarse = coarse_ends c.args.sx.lo c.args.sx.hi c.rescale-coarse.result.lo c.rescale-coarse.result.hi c.requires.sx c.rescale-coarse.ensures.ends in
    product_ends (2 ^ 40 + 1) (2 ^ 83 + 1) (2 ^ 114) (2 ^ 10) (omega arith) (at_most_less (2 ^ 40) c.requires.length) (at_most_less (2 ^ 83) coarse) c.scaled_by-2.ensures.ends

pub returns-then-has_room-clause-narrow : goal.returns-then-has_room-clause-narrow
returns-then-has_room-clause-narrow c m n w v near near_sx wide wide_sx = fine_narrow c.args.length c.args.sx m n w v c.scaled_by.ensures.width near near_sx wide wide_sx

pub returns-clause-narrow : goal.returns-clause-narrow
returns-clause-narrow c m n w v near near_sx wide wide_sx = coarse_narrow c.args.length c.args.sx m n w v c.rescale-coarse.ensures.ends c.rescale-coarse.ensures.width c.rescale-coarse.result.ordered c.scaled_by-2.ensures.width
    (λ room. false≢true (sym c.if-has_room.false ∙ c.has_room.ensures.1 room)) near near_sx wide wide_sx
