use Rattle.std.proofs.Common.{◌≡◌, w64, rules, IfOk}
use Rattle.std.proofs.lemmas.Int.{to_z-of_z}
use mir.Val.{SFits}
use Rattle.floodable_length.specs.Lengths.{twice}
use Rattle.floodable_length.specs.LoadedShip.{LoadedShip, IsShip}
use Rattle.floodable_length.specs.Reach.{IsReach, HasSmallLengths}
use Rattle.floodable_length.proofs.SmallLengths.{small_lengths, each_ok}
use Rattle.floodable_length.proofs.search.floodable.Goals as goal

abbrev ship_at : goal.After-longest → LoadedShip
ship_at c = record { stations = c.args.hull.now; faces = c.args.faces.now; loading = c.args.loading.now; water = c.args.water.now; margin = c.args.margin }

reached : (c : goal.After-longest) → IfOk c.longest.result (IsReach (ship_at c) c.args.centre c.args.permeability c.args.step)
reached c =
    let centre : SFits w64 c.args.centre = c.ranges.centre in
    let half : SFits w64 c.half_of.result = search rules in
    let step : SFits w64 c.args.step = c.ranges.step in
    let whole : twice c.half_of.result ≡ c.args.step = simp to_z-of_z at c.half_of.ensures.half in
    let longest = simp to_z-of_z at c.longest.ensures in
    rw (whole, c.stations.ensures.same) at longest

pub returns-in-Safe-clause-reach : goal.returns-in-Safe-clause-reach
returns-in-Safe-clause-reach c = reached c

pub returns-in-Safe-clause-lengths : goal.returns-in-Safe-clause-lengths
returns-in-Safe-clause-lengths c =
    let is : IsShip (ship_at c) = record { hull = c.stations.ensures.kept; faces = c.requires.faces; margin = c.requires.margin.1 } in
    let small = small_lengths (ship_at c) is c.args.centre c.args.permeability c.args.step c.requires.step.0 c.requires.step.1 in
    each_ok (IsReach (ship_at c) c.args.centre c.args.permeability c.args.step) HasSmallLengths small c.longest.result (reached c)
