use Rattle.std.proofs.Common.{◌≡◌, ap₂, w64, rules}
use Rattle.std.proofs.lemmas.Int.{to_z-of_z}
use Rattle.std.specs.Prelude.{int_lt}
use mir.Val.{SFits}
use Rattle.floodable_length.specs.MarginLine.{level_along}
use Rattle.floodable_length.proofs.ship.Ship.is_under.Goals as goal

pub returns : goal.returns
returns c =
    let a : SFits w64 c.args.a = c.ranges.a in
    let f : SFits w64 c.args.f = c.ranges.f in
    let point : SFits w64 c.heights-heights.result.point = search rules in
    let level : SFits w64 c.heights-heights.result.level = search rules in
    let faces = c.args.self.now.faces.now in
    let level_is : c.heights-heights.result.level ≡ level_along c.args.self.now.margin faces.first_x faces.last_x c.args.a c.args.f c.args.station.now = simp to_z-of_z at c.heights-heights.ensures.level in
    simp to_z-of_z (ap₂ int_lt c.heights-heights.ensures.point level_is)
