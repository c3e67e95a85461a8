use Rattle.std.proofs.Common.{arith, sym, ◌-◌, ◌*◌, ◌^◌, ◌≤◌, ◌<◌, length, unsigned_abs}
use mathlib.Core.Path.{subst}
use Rattle.hull_polyhedron.specs.declared.totals.Totals.{Totals}
use Rattle.hull_polyhedron.proofs.RunningTotals.{difference_at, total_small}
use Rattle.hull_polyhedron.proofs.strips.Strips.total.Goals as goal

pub returns-clause-six : goal.returns-clause-six
returns-clause-six c =
    let within : c.args.to < length c.args.self.now.totals.items = omega (arith, c.args.self.now.counted, c.requires.within) in
    let same = difference_at c.args.self.now.totals.items c.args.from c.args.to c.requires.ordered within c.without.ensures c.index.ensures c.index-2.ensures in
    subst (λ (t : Totals). unsigned_abs t.six ≤ (c.args.to - c.args.from) * 2 ^ 64) (sym same)
    (total_small c.args.self.now.totals.items c.args.self.now.steps c.args.from c.args.to c.requires.ordered within).0

pub returns-clause-mx24 : goal.returns-clause-mx24
returns-clause-mx24 c =
    let within : c.args.to < length c.args.self.now.totals.items = omega (arith, c.args.self.now.counted, c.requires.within) in
    let same = difference_at c.args.self.now.totals.items c.args.from c.args.to c.requires.ordered within c.without.ensures c.index.ensures c.index-2.ensures in
    subst (λ (t : Totals). unsigned_abs t.mx24 ≤ (c.args.to - c.args.from) * 2 ^ 85) (sym same)
    (total_small c.args.self.now.totals.items c.args.self.now.steps c.args.from c.args.to c.requires.ordered within).1.0

pub returns-clause-mz24 : goal.returns-clause-mz24
returns-clause-mz24 c =
    let within : c.args.to < length c.args.self.now.totals.items = omega (arith, c.args.self.now.counted, c.requires.within) in
    let same = difference_at c.args.self.now.totals.items c.args.from c.args.to c.requires.ordered within c.without.ensures c.index.ensures c.index-2.ensures in
    subst (λ (t : Totals). unsigned_abs t.mz24 ≤ (c.args.to - c.args.from) * 2 ^ 82) (sym same)
    (total_small c.args.self.now.totals.items c.args.self.now.steps c.args.from c.args.to c.requires.ordered within).1.1
