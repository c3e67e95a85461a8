use Rattle.std.proofs.Common.{◌+ℤ◌, ◌-ℤ◌}
use Rattle.std.proofs.lemmas.Int.{to_z-of_z}
use mir.Syntax.{w64}
use mir.Val.{SFits}
use Rattle.damage_box.proofs.Moves as Moves
use Rattle.std.proofs.Common.{refl}
use Rattle.damage_box.proofs.starts.tried_at.Goals as goal

pub overflow_sub-a : goal.overflow_sub-a
overflow_sub-a g c =
    let r : SFits w64 c.candidate-level.result = record { sfits = c.candidate-level.type_inv } in
    let s = simp (to_z-of_z, c.ranges.half) at c.candidate-level.ensures.levels in
    let a = Moves.level_fits (c.candidate-level.result -ℤ c.args.half) s.a_level in
    let f = Moves.level_fits (c.candidate-level.result +ℤ c.args.half) s.f_level in
    simp (to_z-of_z, c.ranges.half, r) a

pub overflow_add-f : goal.overflow_add-f
overflow_add-f g c =
    let r : SFits w64 c.candidate-level.result = record { sfits = c.candidate-level.type_inv } in
    let s = simp (to_z-of_z, c.ranges.half) at c.candidate-level.ensures.levels in
    let a = Moves.level_fits (c.candidate-level.result -ℤ c.args.half) s.a_level in
    let f = Moves.level_fits (c.candidate-level.result +ℤ c.args.half) s.f_level in
    simp (to_z-of_z, c.ranges.half, r) f

pub read-reading-requires-clause-a_level : goal.read-reading-requires-clause-a_level
read-reading-requires-clause-a_level g c =
    let r : SFits w64 c.candidate-level.result = record { sfits = c.candidate-level.type_inv } in
    let s = simp (to_z-of_z, c.ranges.half) at c.candidate-level.ensures.levels in
    let a = Moves.level_fits (c.candidate-level.result -ℤ c.args.half) s.a_level in
    let f = Moves.level_fits (c.candidate-level.result +ℤ c.args.half) s.f_level in
    simp (to_z-of_z, c.ranges.half, r, a) s.a_level

pub read-reading-requires-clause-f_level : goal.read-reading-requires-clause-f_level
read-reading-requires-clause-f_level g c =
    let r : SFits w64 c.candidate-level.result = record { sfits = c.candidate-level.type_inv } in
    let s = simp (to_z-of_z, c.ranges.half) at c.candidate-level.ensures.levels in
    let a = Moves.level_fits (c.candidate-level.result -ℤ c.args.half) s.a_level in
    let f = Moves.level_fits (c.candidate-level.result +ℤ c.args.half) s.f_level in
    simp (to_z-of_z, c.ranges.half, r, f) s.f_level

pub returns-clause-a_level : goal.returns-clause-a_level
returns-clause-a_level g c =
    let r : SFits w64 c.candidate-level.result = record { sfits = c.candidate-level.type_inv } in
    let s = simp (to_z-of_z, c.ranges.half) at c.candidate-level.ensures.levels in
    let a = Moves.level_fits (c.candidate-level.result -ℤ c.args.half) s.a_level in
    let f = Moves.level_fits (c.candidate-level.result +ℤ c.args.half) s.f_level in
    simp (to_z-of_z, c.ranges.half, r, a) s.a_level

pub returns-clause-f_level : goal.returns-clause-f_level
returns-clause-f_level g c =
    let r : SFits w64 c.candidate-level.result = record { sfits = c.candidate-level.type_inv } in
    let s = simp (to_z-of_z, c.ranges.half) at c.candidate-level.ensures.levels in
    let a = Moves.level_fits (c.candidate-level.result -ℤ c.args.half) s.a_level in
    let f = Moves.level_fits (c.candidate-level.result +ℤ c.args.half) s.f_level in
    simp (to_z-of_z, c.ranges.half, r, f) s.f_level

pub returns-clause-tried : goal.returns-clause-tried
returns-clause-tried g c =
    let r : SFits w64 c.candidate-level.result = record { sfits = c.candidate-level.type_inv } in
    let s = simp (to_z-of_z, c.ranges.half) at c.candidate-level.ensures.levels in
    let a = Moves.level_fits (c.candidate-level.result -ℤ c.args.half) s.a_level in
    let f = Moves.level_fits (c.candidate-level.result +ℤ c.args.half) s.f_level in
    let n = simp (to_z-of_z, c.ranges.half, r, a, f) at c.read-reading.ensures in
    let k = simp (to_z-of_z, c.ranges.half) at c.candidate-level.ensures.candidate in
    simp (to_z-of_z, c.ranges.half, r, a, f) (record { level = c.candidate-level.result; a = refl; f = refl; candidate = k; r1 = n.from_last; r2 = n.from_first })
