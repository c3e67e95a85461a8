-- The made hull has more volume than the made job's load displaces, whatever the draws.
use Rattle.std.proofs.Common.{◌≡◌, refl, sym, ◌∙◌, ap, ap₂, subst, ℕ, ◌*◌, ◌^◌, List, [], ◌∷◌, map, ℤ, pos, ◌+ℤ◌, ◌*ℤ◌, ◌≤ℤ◌, arith}
use Rattle.std.proofs.lemmas.Int.{ints}
use Rattle.exact_algebra.specs.Expression.{var, ◌:*◌}
use Rattle.exact_algebra.proofs.Fraction.{◌⊗◌, ◌≺◌, inverse, over, fraction_ring}
use Rattle.exact_algebra.proofs.Ring.{ring}
use Rattle.exact_algebra.proofs.Whole.{whole, whole-mul, over_is, over-den, positive-whole, ≺_scaled_out}
use Rattle.hull_model.specs.declared.node.Node.{Node}
use Rattle.hull_model.specs.declared.station.Station.{Station}
use Rattle.hull_model.specs.Boundary.{sum_of}
use Rattle.hull_model.specs.Nodes.{mirrored}
use Rattle.hull_model.specs.Tetrahedra.{to_centreplane, starboard_half}
use Rattle.hull_model.specs.TetrahedronCut.{Tetrahedron, with_corners}
use Rattle.hull_model.specs.Zipper.{strip_triangles}
use Rattle.hull_polyhedron.proofs.Sums.{sum-append, sum-flat_map}
use Rattle.draft_bracket.specs.DraftBracket.{six_of}
use Rattle.loading_sheet.specs.Sums.{total_mass}
use Rattle.hull_maker.specs.MadeHull.{stations_from, stations_of}
use Rattle.hull_maker.specs.MadeShip.{MadeShipFloats}
use Rattle.hull_maker.proofs.Columns.{six}
use Rattle.hull_maker.proofs.Strips.{columns, strips_least, least_of_hull}

-- six times the volume of a hull is at least that under its strip triangles on one side
some_volume : (ts : List (Tetrahedron Node)) → pos 0 ≤ℤ sum_of six ts
some_volume [] = omega (arith, ints)
some_volume (t ∷ ts) = omega (arith, ints, some_volume ts)

hull_least : (stations : List Station) (m : ℕ) → pos m ≤ℤ columns (strip_triangles stations) → pos m ≤ℤ six_of stations
hull_least stations m least =
    let half = sum-flat_map six to_centreplane (strip_triangles stations) in
    let images = map (with_corners mirrored) (starboard_half stations) in
    at_least _ _ _ half (sum-append six (starboard_half stations) images) (some_volume images) least
  where
    at_least : {m : ℕ} {under : ℤ} (all starboard port : ℤ) → starboard ≡ under → all ≡ starboard +ℤ port → pos 0 ≤ℤ port → pos m ≤ℤ under → pos m ≤ℤ all
    at_least all starboard port e f h k = omega (arith, ints, e, f, h, k)

made_hull_least : (seed : ℕ) → pos 29223000000000 ≤ℤ six_of (stations_of seed)
unfolding stations_of
made_hull_least seed = hull_least (stations_from 0 41 seed) 29223000000000
    (subst (λ n. pos (1500000 * n) ≤ℤ columns (strip_triangles (stations_from 0 41 seed))) least_of_hull (strips_least 40 0 seed))

-- six times the need, in mm³, times the density
in_parts : (whole (pos 6) ⊗ (whole (pos 4000000000000000) ⊗ inverse (whole (pos 1025)))) ⊗ whole (pos 1025) ≡ whole (pos 24000000000000000)
in_parts = ap (λ x. (whole (pos 6) ⊗ x) ⊗ whole (pos 1025)) (sym (over_is (pos 4000000000000000) 1025 (omega arith)))
    ∙ ring fraction_ring (whole (pos 6) ∷ over (pos 4000000000000000) 1025 (omega arith) ∷ whole (pos 1025) ∷ []) ((var 0 :* var 1) :* var 2) (var 0 :* (var 1 :* var 2)) refl
    ∙ ap (λ x. whole (pos 6) ⊗ x) (over-den (pos 4000000000000000) 1025 (omega arith))
    ∙ sym (whole-mul (pos 6) (pos 4000000000000000))

light : (volume : ℤ) → pos 29223000000000 ≤ℤ volume → ¬ (whole volume ≺ whole (pos 6) ⊗ (whole (pos 4000000000000000) ⊗ inverse (whole (pos 1025))))
light volume enough heavy =
    let less = ≺_scaled_out (whole volume) _ (whole (pos 1025)) (volume *ℤ pos 1025) (pos 24000000000000000) (positive-whole 1025 (omega arith)) (sym (whole-mul volume (pos 1025))) in_parts heavy in
    omega (arith, ints, enough, less)

pub made_ship_floats : MadeShipFloats
made_ship_floats seed job loading made load heavy =
    let mass : loading.mass ≡ 4000000 = load.mass ∙ ap total_mass made.items in
    light (six_of (stations_of seed)) (made_hull_least seed)
    (subst (λ need. whole (six_of (stations_of seed)) ≺ whole (pos 6) ⊗ need) (ap₂ (λ mass density. whole (pos (mass * 10 ^ 9)) ⊗ inverse (whole (pos density))) mass made.density) heavy)
