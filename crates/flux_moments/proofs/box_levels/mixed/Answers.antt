use Rattle.std.proofs.Common.{rules, ap₂, pos, ◌+ℤ◌, ◌*ℤ◌}
use Rattle.std.proofs.lemmas.Int.{to_z-of_z}
use Rattle.std.specs.Int.{w64}
use mir.Val.{SFits}
use Rattle.flux_moments.proofs.Levels.{mixed-small, sum-fits, mixed-fits}
use Rattle.flux_moments.proofs.box_levels.mixed.Goals as goal

pub overflow_add-result : goal.overflow_add-result
overflow_add-result c =
    let aft : SFits w64 c.args.aft = c.ranges.aft in
    let fore : SFits w64 c.args.fore = c.ranges.fore in
    let before : SFits w64 c.args.before = c.ranges.before in
    let behind : SFits w64 c.args.behind = c.ranges.behind in
    let p : SFits w64 c.weighed.result = search rules in
    let q : SFits w64 c.weighed-2.result = search rules in
    let first = simp to_z-of_z at c.weighed.ensures.value in
    let second = simp to_z-of_z at c.weighed-2.ensures.value in
    simp to_z-of_z (rw (first, second) (sum-fits c.args.aft c.args.fore c.args.before c.args.behind c.requires.levels.0 c.requires.levels.1 c.requires.places.0 c.requires.places.1))

pub overflow_mul-result : goal.overflow_mul-result
overflow_mul-result c =
    let aft : SFits w64 c.args.aft = c.ranges.aft in
    let fore : SFits w64 c.args.fore = c.ranges.fore in
    let before : SFits w64 c.args.before = c.ranges.before in
    let behind : SFits w64 c.args.behind = c.ranges.behind in
    let p : SFits w64 c.weighed.result = search rules in
    let q : SFits w64 c.weighed-2.result = search rules in
    let first = simp to_z-of_z at c.weighed.ensures.value in
    let second = simp to_z-of_z at c.weighed-2.ensures.value in
    let sum : SFits w64 (c.weighed.result +ℤ c.weighed-2.result) = rw (first, second) (sum-fits c.args.aft c.args.fore c.args.before c.args.behind c.requires.levels.0 c.requires.levels.1 c.requires.places.0 c.requires.places.1) in
    simp to_z-of_z (rw (first, second) (mixed-fits c.args.aft c.args.fore c.args.before c.args.behind c.requires.levels.0 c.requires.levels.1 c.requires.places.0 c.requires.places.1))

pub returns-clause-value : goal.returns-clause-value
returns-clause-value c =
    let aft : SFits w64 c.args.aft = c.ranges.aft in
    let fore : SFits w64 c.args.fore = c.ranges.fore in
    let before : SFits w64 c.args.before = c.ranges.before in
    let behind : SFits w64 c.args.behind = c.ranges.behind in
    let p : SFits w64 c.weighed.result = search rules in
    let q : SFits w64 c.weighed-2.result = search rules in
    let first = simp to_z-of_z at c.weighed.ensures.value in
    let second = simp to_z-of_z at c.weighed-2.ensures.value in
    let sum : SFits w64 (c.weighed.result +ℤ c.weighed-2.result) = rw (first, second) (sum-fits c.args.aft c.args.fore c.args.before c.args.behind c.requires.levels.0 c.requires.levels.1 c.requires.places.0 c.requires.places.1) in
    let all : SFits w64 ((c.weighed.result +ℤ c.weighed-2.result) *ℤ pos 1024) = rw (first, second) (mixed-fits c.args.aft c.args.fore c.args.before c.args.behind c.requires.levels.0 c.requires.levels.1 c.requires.places.0 c.requires.places.1) in
    simp to_z-of_z (ap₂ (λ x y. (x +ℤ y) *ℤ pos 1024) first second)

pub returns-clause-small : goal.returns-clause-small
returns-clause-small c =
    let aft : SFits w64 c.args.aft = c.ranges.aft in
    let fore : SFits w64 c.args.fore = c.ranges.fore in
    let before : SFits w64 c.args.before = c.ranges.before in
    let behind : SFits w64 c.args.behind = c.ranges.behind in
    let p : SFits w64 c.weighed.result = search rules in
    let q : SFits w64 c.weighed-2.result = search rules in
    let first = simp to_z-of_z at c.weighed.ensures.value in
    let second = simp to_z-of_z at c.weighed-2.ensures.value in
    let sum : SFits w64 (c.weighed.result +ℤ c.weighed-2.result) = rw (first, second) (sum-fits c.args.aft c.args.fore c.args.before c.args.behind c.requires.levels.0 c.requires.levels.1 c.requires.places.0 c.requires.places.1) in
    let all : SFits w64 ((c.weighed.result +ℤ c.weighed-2.result) *ℤ pos 1024) = rw (first, second) (mixed-fits c.args.aft c.args.fore c.args.before c.args.behind c.requires.levels.0 c.requires.levels.1 c.requires.places.0 c.requires.places.1) in
    simp to_z-of_z (rw (first, second) (mixed-small c.args.aft c.args.fore c.args.before c.args.behind c.requires.levels.0 c.requires.levels.1 c.requires.places.0 c.requires.places.1))
