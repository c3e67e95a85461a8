use Rattle.std.proofs.lemmas.Int.{to_z-of_z}
use Rattle.damage_box.proofs.Moves as Moves
use Rattle.std.proofs.Common.{◌-ℤ◌, ◌+ℤ◌}
use Rattle.damage_box.proofs.looks.OnSlopeTest.look.Goals as goal

pub returns-clause-pass : goal.returns-clause-pass
returns-clause-pass g c =
    let half = Moves.level_fits c.args.self.now.half c.requires.half_level in
    let a = Moves.level_fits (c.args.level -ℤ c.args.self.now.half) c.requires.a_level in
    let f = Moves.level_fits (c.args.level +ℤ c.args.self.now.half) c.requires.f_level in
    simp (to_z-of_z, c.ranges.level, half, a, f) at c.enough.ensures.pass

pub returns-clause-fail : goal.returns-clause-fail
returns-clause-fail g c =
    let half = Moves.level_fits c.args.self.now.half c.requires.half_level in
    let a = Moves.level_fits (c.args.level -ℤ c.args.self.now.half) c.requires.a_level in
    let f = Moves.level_fits (c.args.level +ℤ c.args.self.now.half) c.requires.f_level in
    simp (to_z-of_z, c.ranges.level, half, a, f) at c.enough.ensures.fail
