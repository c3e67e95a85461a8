use Rattle.std.proofs.Common.{◌≡◌, ◌+ℤ◌, ◌≤ℤ◌, pos, w64, rules, unsigned_abs}
use Rattle.std.proofs.lemmas.Int.{to_z-of_z}
use Rattle.std.specs.Int.{int_max}
use mir.Val.{SFits}
use Rattle.exact_algebra.specs.Span.{IsFloor}
use Rattle.floodable_length.proofs.Steps.{is_past, is_within, least_past, most_past, step-fits, half-fits}
use Rattle.floodable_length.proofs.lengths.Lengths.past.Goals as goal

max_is : (c : goal.After-max) → c.max.result ≡ int_max (c.floor_div.result +ℤ pos 1) (pos 1)
max_is c =
    let quotient : SFits w64 c.floor_div.result = search rules in
    let next : SFits w64 (c.floor_div.result +ℤ pos 1) = step-fits c.floor_div.result c.floor_div.ensures.size in
    simp to_z-of_z at c.max.ensures.value

floor_is : (c : goal.After-max) → IsFloor c.room.result (unsigned_abs c.args.self.now.half_step) c.floor_div.result
floor_is c =
    let s = c.args.self.now in
    let room : SFits w64 c.room.result = search rules in
    let half : SFits w64 s.half_step = half-fits s.half_step s.limits.some s.limits.most in
    simp to_z-of_z at c.floor_div.ensures.floor

pub returns-clause-most : goal.returns-clause-most
returns-clause-most c =
    let past : SFits w64 c.max.result = search rules in
    simp to_z-of_z (most_past c.floor_div.result c.max.result (max_is c) c.floor_div.ensures.size)

pub returns-clause-past : goal.returns-clause-past
returns-clause-past c =
    let s = c.args.self.now in
    let past : SFits w64 c.max.result = search rules in
    let quotient : SFits w64 c.floor_div.result = search rules in
    let next : SFits w64 (c.floor_div.result +ℤ pos 1) = step-fits c.floor_div.result c.floor_div.ensures.size in
    let over : (c.floor_div.result +ℤ pos 1) ≤ℤ c.max.result = simp to_z-of_z at c.max.ensures.self_bound in
    simp to_z-of_z (is_past s.first s.last s.centre s.half_step c.room.result c.floor_div.result c.max.result s.limits.some (floor_is c) c.room.ensures.met c.max.ensures.other_bound over)

pub returns-clause-before : goal.returns-clause-before
returns-clause-before c =
    let s = c.args.self.now in
    let past : SFits w64 c.max.result = search rules in
    simp to_z-of_z (λ n some few. is_within s.first s.last s.centre s.half_step c.room.result c.floor_div.result n s.limits.some (floor_is c) c.room.ensures.aft c.room.ensures.fore
    (least_past c.floor_div.result c.max.result (max_is c) n some few))
