use Rattle.std.proofs.Common.{◌<◌, ◌^◌, pos, unsigned_abs, ◌∙◌, refl, sym, arith}
use Rattle.hull_cli.proofs.StabilityLines.{centre_ends, load_line_is}
use Rattle.hull_cli.proofs.levers.load_line.Goals as goal

pub figure-lcg-requires : goal.figure-lcg-requires
figure-lcg-requires c =
    let loading = c.args.loading.now in
    let small : loading.mx < 2 ^ 56 = omega (arith, loading.limits.along, loading.limits.most) in
    let ends = centre_ends (pos loading.mx) loading.mass loading.limits.some small c.lcg.ensures in
    (omega arith, (omega arith, (omega arith, (ends.low, ends.high))))

pub figure-tcg-requires : goal.figure-tcg-requires
figure-tcg-requires c =
    let loading = c.args.loading.now in
    let small : unsigned_abs loading.my < 2 ^ 56 = omega (arith, loading.limits.across, loading.limits.most) in
    let ends = centre_ends loading.my loading.mass loading.limits.some small c.tcg.ensures in
    (omega arith, (omega arith, (omega arith, (ends.low, ends.high))))

pub figure-kg-requires : goal.figure-kg-requires
figure-kg-requires c =
    let loading = c.args.loading.now in
    let small : loading.mz < 2 ^ 56 = omega (arith, loading.limits.height) in
    let ends = centre_ends (pos loading.mz) loading.mass loading.limits.some small c.kg.ensures in
    (omega arith, (omega arith, (omega arith, (ends.low, ends.high))))

pub returns-then-tells_sides-clause-line : goal.returns-then-tells_sides-clause-line
returns-then-tells_sides-clause-line c =
    load_line_is c.args.version c.args.loading.now c.lcg.result c.tcg.result c.kg.result c.lcg.ensures c.tcg.ensures c.kg.ensures
    c.figure-lcg.result c.figure-tcg.result c.figure-kg.result c.figure-lcg.ensures c.figure-tcg.ensures c.figure-kg.ensures _ (rw (sym c.tells_sides.ensures ∙ c.if-tells_sides.true) refl)

pub returns-else-tells_sides-clause-line : goal.returns-else-tells_sides-clause-line
returns-else-tells_sides-clause-line c =
    load_line_is c.args.version c.args.loading.now c.lcg.result c.tcg.result c.kg.result c.lcg.ensures c.tcg.ensures c.kg.ensures
    c.figure-lcg.result c.figure-tcg.result c.figure-kg.result c.figure-lcg.ensures c.figure-tcg.ensures c.figure-kg.ensures _ (rw (sym c.tells_sides.ensures ∙ c.if-tells_sides.false) refl)
