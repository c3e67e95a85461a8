use Rattle.std.proofs.Common.{pos, ◌+ℤ◌, ◌-ℤ◌}
use Rattle.std.proofs.lemmas.Int.{to_z-of_z}
use mir.Syntax.{w64}
use mir.Val.{SFits}
use Rattle.damage_box.proofs.Moves as Moves
use Rattle.damage_box.proofs.Slopes as Slopes
use Rattle.damage_box.proofs.starts.candidate.Goals as goal

pub crossing-requires-clause-order : goal.crossing-requires-clause-order
crossing-requires-clause-order g c =
    let low = Moves.far_fits c.low.result (Slopes.far_height c.low.ensures.height) in
    let high = Moves.far_fits c.high.result (Slopes.far_height c.high.ensures.height) in
    let first = Moves.far_fits (c.low.result -ℤ c.args.half) (Slopes.first_far c.low.ensures.height c.requires.half) in
    let before = Moves.far_fits ((c.low.result -ℤ c.args.half) -ℤ pos 1) (Slopes.before_far c.low.ensures.height c.requires.half) in
    let last = Moves.far_fits (c.high.result +ℤ c.args.half) (Slopes.last_far c.high.ensures.height c.requires.half) in
    simp (to_z-of_z, c.ranges.half, low, high, first, before, last) (Slopes.order (g.F.Floats.balance c.args.floats.now) c.low.ensures.value c.high.ensures.value (g.met.F.Floats.ordered c.args.floats.now) c.requires.half)

pub crossing-requires-clause-can : goal.crossing-requires-clause-can
crossing-requires-clause-can g c =
    let low = Moves.far_fits c.low.result (Slopes.far_height c.low.ensures.height) in
    let high = Moves.far_fits c.high.result (Slopes.far_height c.high.ensures.height) in
    let first = Moves.far_fits (c.low.result -ℤ c.args.half) (Slopes.first_far c.low.ensures.height c.requires.half) in
    let before = Moves.far_fits ((c.low.result -ℤ c.args.half) -ℤ pos 1) (Slopes.before_far c.low.ensures.height c.requires.half) in
    let last = Moves.far_fits (c.high.result +ℤ c.args.half) (Slopes.last_far c.high.ensures.height c.requires.half) in
    simp (to_z-of_z, c.ranges.half, low, high, first, before, last) (λ x from to. Slopes.on_slope x c.low.ensures.height c.high.ensures.height c.requires.half from (Slopes.weak to))

pub returns-clause-candidate : goal.returns-clause-candidate
returns-clause-candidate g c =
    let low = Moves.far_fits c.low.result (Slopes.far_height c.low.ensures.height) in
    let high = Moves.far_fits c.high.result (Slopes.far_height c.high.ensures.height) in
    let first = Moves.far_fits (c.low.result -ℤ c.args.half) (Slopes.first_far c.low.ensures.height c.requires.half) in
    let before = Moves.far_fits ((c.low.result -ℤ c.args.half) -ℤ pos 1) (Slopes.before_far c.low.ensures.height c.requires.half) in
    let last = Moves.far_fits (c.high.result +ℤ c.args.half) (Slopes.last_far c.high.ensures.height c.requires.half) in
    let r : SFits w64 c.crossing.result = record { sfits = c.crossing.type_inv } in
    let from = simp (to_z-of_z, c.ranges.half, low, high, first, before, last) at c.crossing.ensures.from in
    let to = simp (to_z-of_z, c.ranges.half, low, high, first, before, last) at c.crossing.ensures.to in
    let lower = simp (to_z-of_z, c.ranges.half, low, high, first, before, last) at c.crossing.ensures.lower in
    let upper = simp (to_z-of_z, c.ranges.half, low, high, first, before, last) at c.crossing.ensures.upper in
    simp (to_z-of_z, r) (Slopes.made c.low.ensures.value c.high.ensures.value from to lower upper)

pub returns-clause-levels : goal.returns-clause-levels
returns-clause-levels g c =
    let low = Moves.far_fits c.low.result (Slopes.far_height c.low.ensures.height) in
    let high = Moves.far_fits c.high.result (Slopes.far_height c.high.ensures.height) in
    let first = Moves.far_fits (c.low.result -ℤ c.args.half) (Slopes.first_far c.low.ensures.height c.requires.half) in
    let before = Moves.far_fits ((c.low.result -ℤ c.args.half) -ℤ pos 1) (Slopes.before_far c.low.ensures.height c.requires.half) in
    let last = Moves.far_fits (c.high.result +ℤ c.args.half) (Slopes.last_far c.high.ensures.height c.requires.half) in
    let r : SFits w64 c.crossing.result = record { sfits = c.crossing.type_inv } in
    let from = simp (to_z-of_z, c.ranges.half, low, high, first, before, last) at c.crossing.ensures.from in
    let to = simp (to_z-of_z, c.ranges.half, low, high, first, before, last) at c.crossing.ensures.to in
    simp (to_z-of_z, r) (Slopes.on_slope c.crossing.result c.low.ensures.height c.high.ensures.height c.requires.half from to)
