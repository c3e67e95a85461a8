use Rattle.std.proofs.Common.{arith}
use Rattle.std.proofs.lemmas.Int.{to_z-of_z, ints}
use mir.Syntax.{w64}
use mir.Val.{SFits}
use Rattle.damage_box.proofs.Moves as Moves
use Rattle.damage_box.proofs.inwards.columns.Goals as goal

pub loop-passed-init : goal.loop-passed-init
loop-passed-init g c =
    let lim = c.requires.limits in
    let la = Moves.level_fits c.args.limit.a lim.most_level in
    let lf = Moves.level_fits c.args.limit.f lim.least_level in
    let lp = Moves.above_fits c.args.limit.a lim.most_level in
    let fa = Moves.level_fits c.args.from.a lim.a_level in
    let ff = Moves.level_fits c.args.from.f lim.f_level in
    simp (to_z-of_z, la, lp, lf, fa, ff) (record { inward = Moves.begin lim c.requires.signs; order = omega (arith, ints, lim.a_to); to = omega (arith, ints) })

pub between-next-requires-clause-low_level : goal.between-next-requires-clause-low_level
between-next-requires-clause-low_level g c =
    Moves.far (Moves.level_a c.requires.limits c.loop-passed.invariant.inward)

pub between-next-requires-clause-room : goal.between-next-requires-clause-room
between-next-requires-clause-room g c =
    let inv = c.loop-passed.invariant in
    let e = Moves.gap_fits _ _ c.requires.limits inv.inward inv.order inv.to in
    let t = simp (to_z-of_z, e) at c.loop-passed-test.true in
    omega (arith, ints, t)

pub column-requires-clause-a_level : goal.column-requires-clause-a_level
column-requires-clause-a_level g c =
    let lim = c.requires.limits in
    let la = Moves.level_fits c.args.limit.a lim.most_level in
    let lf = Moves.level_fits c.args.limit.f lim.least_level in
    let lp = Moves.above_fits c.args.limit.a lim.most_level in
    let nb : SFits w64 c.between-next.result = record { sfits = c.between-next.type_inv } in
    let inv = c.loop-passed.invariant in
    let to = inv.to in
    simp (to_z-of_z, nb) (Moves.level_next lim inv.inward c.between-next.ensures.above c.between-next.ensures.below to)

pub column-requires-clause-from_level : goal.column-requires-clause-from_level
column-requires-clause-from_level g c =
    Moves.level_f c.requires.limits c.loop-passed.invariant.inward

pub column-requires-clause-order : goal.column-requires-clause-order
column-requires-clause-order g c =
    let lim = c.requires.limits in
    let la = Moves.level_fits c.args.limit.a lim.most_level in
    let lf = Moves.level_fits c.args.limit.f lim.least_level in
    let lp = Moves.above_fits c.args.limit.a lim.most_level in
    simp (to_z-of_z, lf) c.loop-passed.invariant.inward.f_from

pub column-requires-clause-kept : goal.column-requires-clause-kept
column-requires-clause-kept g c =
    let lim = c.requires.limits in
    let la = Moves.level_fits c.args.limit.a lim.most_level in
    let lf = Moves.level_fits c.args.limit.f lim.least_level in
    let lp = Moves.above_fits c.args.limit.a lim.most_level in
    let nb : SFits w64 c.between-next.result = record { sfits = c.between-next.type_inv } in
    let inv = c.loop-passed.invariant in
    let to = inv.to in
    simp (to_z-of_z, nb) (Moves.first_later (g.met.F.Floats.rises c.args.floats.now) (Moves.weak c.between-next.ensures.above) inv.inward.signs.first)

pub loop-passed-preserved-in-Some : goal.loop-passed-preserved-in-Some
loop-passed-preserved-in-Some g c =
    let lim = c.requires.limits in
    let la = Moves.level_fits c.args.limit.a lim.most_level in
    let lf = Moves.level_fits c.args.limit.f lim.least_level in
    let nb : SFits w64 c.between-next.result = record { sfits = c.between-next.type_inv } in
    let inv = c.loop-passed.invariant in
    let least = simp (to_z-of_z, lf) at c.in-Some.ensures.least in
    let row = Moves.level_fits c.in-Some.row (Moves.level_row lim inv.inward least c.in-Some.ensures.most) in
    let signs = simp (to_z-of_z, nb) at c.in-Some.ensures.signs in
    simp (to_z-of_z, nb, row) (record {
      inward = Moves.farther inv.inward c.between-next.ensures.above c.between-next.ensures.below inv.to signs least c.in-Some.ensures.most;
      order = c.between-next.ensures.below;
      to = inv.to;
    })

pub loop-passed-preserved : goal.loop-passed-preserved
loop-passed-preserved g c =
    let lim = c.requires.limits in
    let la = Moves.level_fits c.args.limit.a lim.most_level in
    let lf = Moves.level_fits c.args.limit.f lim.least_level in
    let nb : SFits w64 c.between-next.result = record { sfits = c.between-next.type_inv } in
    let inv = c.loop-passed.invariant in
    simp (to_z-of_z, nb) (record { inward = inv.inward; order = c.between-next.ensures.above; to = Moves.short_of c.between-next.result _ c.args.limit.a c.between-next.ensures.below inv.to })

pub returns : goal.returns
returns g c =
    c.loop-passed.invariant.inward

pub overflow_sub-passed : goal.overflow_sub-passed
overflow_sub-passed g c =
    let inv = c.loop-passed.invariant in
    Moves.gap_fits _ _ c.requires.limits inv.inward inv.order inv.to
