use Rattle.std.proofs.Common.{◌≡◌, ap₂, ◌∙◌, ◌+ℤ◌, ◌-ℤ◌, ◌*ℤ◌, w64, rules}
use Rattle.std.proofs.lemmas.Int.{to_z-of_z}
use mir.Val.{SFits}
use Rattle.floodable_length.specs.MarginLine.{margin_point, level_along}
use Rattle.floodable_length.proofs.Levels.{place-fits}
use Rattle.floodable_length.proofs.ship.Ship.heights.Goals as goal

pub returns-clause-point : goal.returns-clause-point
returns-clause-point c =
    let station = c.args.station.now in
    let x : SFits w64 station.x = place-fits station.x c.requires.station.place in
    let first : SFits w64 c.first_x-first.result = search rules in
    let last : SFits w64 c.last_x-last.result = search rules in
    let point : SFits w64 c.margin_point-point.result = search rules in
    let length : SFits w64 c.distance.result = search rules in
    let product : SFits w64 c.product.result = search rules in
    let length_is : c.distance.result ≡ c.last_x-last.result -ℤ c.first_x-first.result = simp to_z-of_z at c.distance.ensures.value in
    let product_is : c.product.result ≡ c.margin_point-point.result *ℤ c.distance.result = simp to_z-of_z at c.product.ensures.value in
    simp to_z-of_z (product_is ∙ ap₂ ◌*ℤ◌ c.margin_point-point.ensures.value length_is ∙ ap₂ (λ s e. margin_point c.args.self.now.margin station *ℤ (e -ℤ s)) c.first_x-first.ensures.same c.last_x-last.ensures.same)

pub returns-clause-level : goal.returns-clause-level
returns-clause-level c =
    let station = c.args.station.now in
    let a : SFits w64 c.args.a = c.ranges.a in
    let f : SFits w64 c.args.f = c.ranges.f in
    let x : SFits w64 station.x = place-fits station.x c.requires.station.place in
    let first : SFits w64 c.first_x-first.result = search rules in
    let last : SFits w64 c.last_x-last.result = search rules in
    let aft : SFits w64 c.distance-2.result = search rules in
    let fore : SFits w64 c.distance-3.result = search rules in
    let level : SFits w64 c.level_along.result = search rules in
    let aft_is : c.distance-2.result ≡ station.x -ℤ c.first_x-first.result = simp to_z-of_z at c.distance-2.ensures.value in
    let fore_is : c.distance-3.result ≡ c.last_x-last.result -ℤ station.x = simp to_z-of_z at c.distance-3.ensures.value in
    let level_is : c.level_along.result ≡ (c.args.a *ℤ c.distance-3.result) +ℤ (c.args.f *ℤ c.distance-2.result) = simp to_z-of_z at c.level_along.ensures in
    simp to_z-of_z (level_is ∙ ap₂ (λ l g. (c.args.a *ℤ l) +ℤ (c.args.f *ℤ g)) fore_is aft_is ∙ ap₂ (λ s e. level_along c.args.self.now.margin s e c.args.a c.args.f station) c.first_x-first.ensures.same c.last_x-last.ensures.same)
