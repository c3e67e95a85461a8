-- Worked values of the definitions, found by computing.
use native.Mathlib.Omega.{arith}
use mathlib.Core.Path.{◌≡◌, refl, sym, ◌∙◌, ap, ap₂}
use mathlib.Core.List.{List, [], ◌∷◌, ◌++◌}
use Rattle.std.specs.Prelude.{pos, ◌^◌, ◌*◌, map, take, drop}
use Rattle.std.proofs.lemmas.List.{take-append-drop}
use Rattle.std.specs.List.{flat_map}
use Rattle.std.proofs.lemmas.Int.{ints}
use Rattle.std.proofs.lemmas.Grind.{flat_map-append}
use Rattle.exact_algebra.specs.Expression.{var, unit, number, ◌:+◌, ◌:-◌, ◌:*◌, opposite}
use Rattle.exact_algebra.specs.OrderedField.{level}
use Rattle.exact_algebra.proofs.Ring.{ring_from, none, given}
use Rattle.exact_algebra.proofs.Fraction.{Fraction, nought, one, ◌⊕◌, ◌⊗◌, ◌⊖◌, negative, inverse, sign, fractions, fraction_ring}
use Rattle.exact_algebra.proofs.Whole.{whole, positive-whole}
use Rattle.exact_algebra.proofs.Bounds as Bounds
use Rattle.hull_model.specs.declared.node.Node.{Node}
use Rattle.hull_model.specs.Nodes.{mirrored}
use Rattle.hull_model.specs.Tetrahedra.{starboard_half}
use Rattle.hull_model.proofs.Section.{sum_over-append}
use Rattle.hull_model.specs.Fractions.{magnitude, sum_over}
use Rattle.hull_model.specs.TriangleCut.{crossing}
use Rattle.hull_model.specs.TetrahedronCut.{Tetrahedron, with_corners, pieces, kept_pieces}
use Rattle.hull_model.specs.Waterplane.{Position, position_of, upright, under, height, side_distance, level_at}
use Rattle.hull_model.specs.Submerged.{submerged_pieces, submerged_body, submerged_volume, mx, mv, mu, determinant, volume_of, mean_of, integral}
use Rattle.hull_model.specs.Lid.{lid, lid_area, lid_x, lid_yy, lid_xx, level_area}
use Rattle.hull_model.specs.Flooded.{pieces_between, all_between, submerged_between, what_is_left, volume_left, mx_left}
use Rattle.hull_model.specs.Worked.{barge, wedge, heeled, natural, quotient, IsForeTenth, fore_tenth, WorkedBargeHalf, WorkedBargeAtDeck, WorkedBargeAtBottom, WorkedWedge, WorkedHeeled, WorkedFlooded}

-- fractions are the same where the sign of their difference is level, which is found by computing
by_sign : (x y : Fraction) → sign (x ⊖ y) ≡ level → x ≡ y
by_sign x y e = ring_from fraction_ring (x ∷ y ∷ []) ((unit, var 0 :- var 1, number 0) ∷ []) (given (fractions.laws.nought_from_sign (x ⊖ y) e) none) (var 0) (var 1) refl

barge_half_volume : submerged_volume (upright (natural 5000)) barge ≡ natural (10 ^ 13)
unfolding submerged_volume mx mv mu lid lid_area lid_x lid_yy lid_xx level_area sum_over submerged_pieces kept_pieces pieces crossing height side_distance level_at determinant magnitude whole ◌⊕◌ ◌⊗◌ negative inverse sign
barge_half_volume = by_sign (submerged_volume (upright (natural 5000)) barge) (natural (10 ^ 13)) refl

barge_half_mx : mx (upright (natural 5000)) barge ≡ natural (5 * 10 ^ 17)
unfolding submerged_volume mx mv mu lid lid_area lid_x lid_yy lid_xx level_area sum_over submerged_pieces kept_pieces pieces crossing height side_distance level_at determinant magnitude whole ◌⊕◌ ◌⊗◌ negative inverse sign
barge_half_mx = by_sign (mx (upright (natural 5000)) barge) (natural (5 * 10 ^ 17)) refl

barge_half_mv : mv (upright (natural 5000)) barge ≡ nought
unfolding submerged_volume mx mv mu lid lid_area lid_x lid_yy lid_xx level_area sum_over submerged_pieces kept_pieces pieces crossing height side_distance level_at determinant magnitude whole ◌⊕◌ ◌⊗◌ negative inverse sign
barge_half_mv = by_sign (mv (upright (natural 5000)) barge) (nought) refl

barge_half_mu : mu (upright (natural 5000)) barge ≡ natural (25 * 10 ^ 15)
unfolding submerged_volume mx mv mu lid lid_area lid_x lid_yy lid_xx level_area sum_over submerged_pieces kept_pieces pieces crossing height side_distance level_at determinant magnitude whole ◌⊕◌ ◌⊗◌ negative inverse sign
barge_half_mu = by_sign (mu (upright (natural 5000)) barge) (natural (25 * 10 ^ 15)) refl

barge_half_area : lid_area (natural 5000) barge ≡ natural (2 * 10 ^ 9)
unfolding submerged_volume mx mv mu lid lid_area lid_x lid_yy lid_xx level_area sum_over submerged_pieces kept_pieces pieces crossing height side_distance level_at determinant magnitude whole ◌⊕◌ ◌⊗◌ negative inverse sign
barge_half_area = by_sign (lid_area (natural 5000) barge) (natural (2 * 10 ^ 9)) refl

barge_half_lx : lid_x (natural 5000) barge ≡ natural (10 ^ 14)
unfolding submerged_volume mx mv mu lid lid_area lid_x lid_yy lid_xx level_area sum_over submerged_pieces kept_pieces pieces crossing height side_distance level_at determinant magnitude whole ◌⊕◌ ◌⊗◌ negative inverse sign
barge_half_lx = by_sign (lid_x (natural 5000) barge) (natural (10 ^ 14)) refl

barge_half_lyy : lid_yy (natural 5000) barge ≡ quotient (2 * 10 ^ 17) 3
unfolding submerged_volume mx mv mu lid lid_area lid_x lid_yy lid_xx level_area sum_over submerged_pieces kept_pieces pieces crossing height side_distance level_at determinant magnitude whole ◌⊕◌ ◌⊗◌ negative inverse sign
barge_half_lyy = by_sign (lid_yy (natural 5000) barge) (quotient (2 * 10 ^ 17) 3) refl

barge_half_lxx : lid_xx (natural 5000) barge ≡ quotient (2 * 10 ^ 19) 3
unfolding submerged_volume mx mv mu lid lid_area lid_x lid_yy lid_xx level_area sum_over submerged_pieces kept_pieces pieces crossing height side_distance level_at determinant magnitude whole ◌⊕◌ ◌⊗◌ negative inverse sign
barge_half_lxx = by_sign (lid_xx (natural 5000) barge) (quotient (2 * 10 ^ 19) 3) refl

pub barge_half : WorkedBargeHalf
barge_half = record { volume = barge_half_volume; mx = barge_half_mx; mv = barge_half_mv; mu = barge_half_mu; area = barge_half_area; lx = barge_half_lx; lyy = barge_half_lyy; lxx = barge_half_lxx }

barge_at_deck_volume : submerged_volume (upright (natural 10000)) barge ≡ natural (2 * 10 ^ 13)
unfolding submerged_volume mx mv mu lid lid_area lid_x lid_yy lid_xx level_area sum_over submerged_pieces kept_pieces pieces crossing height side_distance level_at determinant magnitude whole ◌⊕◌ ◌⊗◌ negative inverse sign
barge_at_deck_volume = by_sign (submerged_volume (upright (natural 10000)) barge) (natural (2 * 10 ^ 13)) refl

barge_at_deck_area : lid_area (natural 10000) barge ≡ natural (2 * 10 ^ 9)
unfolding submerged_volume mx mv mu lid lid_area lid_x lid_yy lid_xx level_area sum_over submerged_pieces kept_pieces pieces crossing height side_distance level_at determinant magnitude whole ◌⊕◌ ◌⊗◌ negative inverse sign
barge_at_deck_area = by_sign (lid_area (natural 10000) barge) (natural (2 * 10 ^ 9)) refl

pub barge_at_deck : WorkedBargeAtDeck
barge_at_deck = record { volume = barge_at_deck_volume; area = barge_at_deck_area }

barge_at_bottom_volume : submerged_volume (upright nought) barge ≡ nought
unfolding submerged_volume mx mv mu lid lid_area lid_x lid_yy lid_xx level_area sum_over submerged_pieces kept_pieces pieces crossing height side_distance level_at determinant magnitude whole ◌⊕◌ ◌⊗◌ negative inverse sign
barge_at_bottom_volume = by_sign (submerged_volume (upright nought) barge) (nought) refl

barge_at_bottom_area : lid_area nought barge ≡ nought
unfolding submerged_volume mx mv mu lid lid_area lid_x lid_yy lid_xx level_area sum_over submerged_pieces kept_pieces pieces crossing height side_distance level_at determinant magnitude whole ◌⊕◌ ◌⊗◌ negative inverse sign
barge_at_bottom_area = by_sign (lid_area nought barge) (nought) refl

pub barge_at_bottom : WorkedBargeAtBottom
barge_at_bottom = record { volume = barge_at_bottom_volume; area = barge_at_bottom_area }

wedge_half_volume : submerged_volume (upright (natural 5000)) wedge ≡ natural (25 * 10 ^ 11)
unfolding submerged_volume mx mv mu lid lid_area lid_x lid_yy lid_xx level_area sum_over submerged_pieces kept_pieces pieces crossing height side_distance level_at determinant magnitude whole ◌⊕◌ ◌⊗◌ negative inverse sign
wedge_half_volume = by_sign (submerged_volume (upright (natural 5000)) wedge) (natural (25 * 10 ^ 11)) refl

pub wedge_half : WorkedWedge
wedge_half = record { volume = wedge_half_volume }

barge_heeled_volume : submerged_volume heeled barge ≡ natural (10 ^ 13)
unfolding submerged_volume mx mv mu lid lid_area lid_x lid_yy lid_xx level_area sum_over submerged_pieces kept_pieces pieces crossing height side_distance level_at determinant magnitude whole ◌⊕◌ ◌⊗◌ negative inverse sign
barge_heeled_volume = by_sign (submerged_volume heeled barge) (natural (10 ^ 13)) refl

-- the two halves of the barge one by one
half_mv : List (Tetrahedron Node) → Fraction
half_mv tets = integral (side_distance heeled) (submerged_pieces heeled (pos 0) (pos 100000) tets)

starboard_mv : half_mv (starboard_half barge) ≡ negative (quotient (2928125 * 10 ^ 12) 351)
unfolding half_mv submerged_volume mx mv mu lid lid_area lid_x lid_yy lid_xx level_area sum_over submerged_pieces kept_pieces pieces crossing height side_distance level_at determinant magnitude whole ◌⊕◌ ◌⊗◌ negative inverse sign
starboard_mv = by_sign (half_mv (starboard_half barge)) (negative (quotient (2928125 * 10 ^ 12) 351)) refl

port_mv : half_mv (map (with_corners mirrored) (starboard_half barge)) ≡ quotient (16084375 * 10 ^ 12) 351
unfolding half_mv submerged_volume mx mv mu lid lid_area lid_x lid_yy lid_xx level_area sum_over submerged_pieces kept_pieces pieces crossing height side_distance level_at determinant magnitude whole ◌⊕◌ ◌⊗◌ negative inverse sign
port_mv = by_sign (half_mv (map (with_corners mirrored) (starboard_half barge))) (quotient (16084375 * 10 ^ 12) 351) refl

both_mv : negative (quotient (2928125 * 10 ^ 12) 351) ⊕ quotient (16084375 * 10 ^ 12) 351 ≡ quotient (10525 * 10 ^ 16) 2808
unfolding submerged_volume mx mv mu lid lid_area lid_x lid_yy lid_xx level_area sum_over submerged_pieces kept_pieces pieces crossing height side_distance level_at determinant magnitude whole ◌⊕◌ ◌⊗◌ negative inverse sign
both_mv = by_sign (negative (quotient (2928125 * 10 ^ 12) 351) ⊕ quotient (16084375 * 10 ^ 12) 351) (quotient (10525 * 10 ^ 16) 2808) refl

barge_heeled_mv : mv heeled barge ≡ quotient (10525 * 10 ^ 16) 2808
unfolding mv half_mv submerged_pieces
barge_heeled_mv =
    let piece : Tetrahedron Node → List (Tetrahedron Position) = λ t. kept_pieces (under heeled (pos 0) (pos 100000)) (with_corners position_of t) in
    let counted : Tetrahedron Position → Fraction = λ t. volume_of t ⊗ mean_of (side_distance heeled) t in
    ap (sum_over counted) (flat_map-append piece (starboard_half barge) (map (with_corners mirrored) (starboard_half barge)))
    ∙ sum_over-append counted (flat_map piece (starboard_half barge)) (flat_map piece (map (with_corners mirrored) (starboard_half barge)))
    ∙ ap₂ ◌⊕◌ starboard_mv port_mv ∙ both_mv

pub barge_heeled : WorkedHeeled
barge_heeled = record { volume = barge_heeled_volume; mv = barge_heeled_mv }

is_fore_tenth : IsForeTenth
is_fore_tenth = record { aft_end = omega (arith, ints); order = omega (arith, ints); fore_end = omega (arith, ints); share = omega arith }

-- the slab's part of the two halves of the barge one by one
slab_sum : (Tetrahedron Position → Fraction) → List (Tetrahedron Node) → Fraction
slab_sum counted tets = sum_over counted (flat_map (kept_pieces (under (upright (natural 5000)) (pos 0) (pos 100000))) (all_between (pos 90000) (pos 100000) tets))

x_moment : Tetrahedron Position → Fraction
x_moment t = volume_of t ⊗ mean_of (λ p. p.x) t

starboard_slab : slab_sum volume_of (starboard_half barge) ≡ natural (5 * 10 ^ 11)
unfolding slab_sum x_moment sum_over submerged_pieces all_between pieces_between kept_pieces pieces crossing height side_distance level_at determinant magnitude whole ◌⊕◌ ◌⊗◌ negative inverse sign
starboard_slab = by_sign (slab_sum volume_of (starboard_half barge)) (natural (5 * 10 ^ 11)) refl

port_slab : slab_sum volume_of (map (with_corners mirrored) (starboard_half barge)) ≡ natural (5 * 10 ^ 11)
unfolding slab_sum x_moment sum_over submerged_pieces all_between pieces_between kept_pieces pieces crossing height side_distance level_at determinant magnitude whole ◌⊕◌ ◌⊗◌ negative inverse sign
port_slab = by_sign (slab_sum volume_of (map (with_corners mirrored) (starboard_half barge))) (natural (5 * 10 ^ 11)) refl

starboard_first_mx : slab_sum x_moment (take 10 (starboard_half barge)) ≡ quotient (51475 * 10 ^ 12) 3
unfolding slab_sum x_moment sum_over submerged_pieces all_between pieces_between kept_pieces pieces crossing height side_distance level_at determinant magnitude whole ◌⊕◌ ◌⊗◌ negative inverse sign
starboard_first_mx = by_sign (slab_sum x_moment (take 10 (starboard_half barge))) (quotient (51475 * 10 ^ 12) 3) refl

starboard_last_mx : slab_sum x_moment (drop 10 (starboard_half barge)) ≡ quotient (91025 * 10 ^ 12) 3
unfolding slab_sum x_moment sum_over submerged_pieces all_between pieces_between kept_pieces pieces crossing height side_distance level_at determinant magnitude whole ◌⊕◌ ◌⊗◌ negative inverse sign
starboard_last_mx = by_sign (slab_sum x_moment (drop 10 (starboard_half barge))) (quotient (91025 * 10 ^ 12) 3) refl

port_first_mx : slab_sum x_moment (take 10 (map (with_corners mirrored) (starboard_half barge))) ≡ quotient (51475 * 10 ^ 12) 3
unfolding slab_sum x_moment sum_over submerged_pieces all_between pieces_between kept_pieces pieces crossing height side_distance level_at determinant magnitude whole ◌⊕◌ ◌⊗◌ negative inverse sign
port_first_mx = by_sign (slab_sum x_moment (take 10 (map (with_corners mirrored) (starboard_half barge)))) (quotient (51475 * 10 ^ 12) 3) refl

port_last_mx : slab_sum x_moment (drop 10 (map (with_corners mirrored) (starboard_half barge))) ≡ quotient (91025 * 10 ^ 12) 3
unfolding slab_sum x_moment sum_over submerged_pieces all_between pieces_between kept_pieces pieces crossing height side_distance level_at determinant magnitude whole ◌⊕◌ ◌⊗◌ negative inverse sign
port_last_mx = by_sign (slab_sum x_moment (drop 10 (map (with_corners mirrored) (starboard_half barge)))) (quotient (91025 * 10 ^ 12) 3) refl

slab_sum-append : (counted : Tetrahedron Position → Fraction) (xs ys : List (Tetrahedron Node)) → slab_sum counted (xs ++ ys) ≡ slab_sum counted xs ⊕ slab_sum counted ys
unfolding slab_sum all_between
slab_sum-append counted xs ys =
    let parts : Tetrahedron Node → List (Tetrahedron Position) = λ t. pieces_between (pos 90000) (pos 100000) (with_corners position_of t) in
    let wet : Tetrahedron Position → List (Tetrahedron Position) = kept_pieces (under (upright (natural 5000)) (pos 0) (pos 100000)) in
    ap (λ ps. sum_over counted (flat_map wet ps)) (flat_map-append parts xs ys)
    ∙ ap (sum_over counted) (flat_map-append wet (flat_map parts xs) (flat_map parts ys))
    ∙ sum_over-append counted (flat_map wet (flat_map parts xs)) (flat_map wet (flat_map parts ys))

both_parts : quotient (51475 * 10 ^ 12) 3 ⊕ quotient (91025 * 10 ^ 12) 3 ≡ natural (475 * 10 ^ 14)
unfolding whole ◌⊕◌ ◌⊗◌ negative inverse sign
both_parts = by_sign (quotient (51475 * 10 ^ 12) 3 ⊕ quotient (91025 * 10 ^ 12) 3) (natural (475 * 10 ^ 14)) refl

half_slab_mx : (tets : List (Tetrahedron Node)) → slab_sum x_moment (take 10 tets) ≡ quotient (51475 * 10 ^ 12) 3 → slab_sum x_moment (drop 10 tets) ≡ quotient (91025 * 10 ^ 12) 3 → slab_sum x_moment tets ≡ natural (475 * 10 ^ 14)
half_slab_mx tets e f = ap (slab_sum x_moment) (sym (take-append-drop 10 tets)) ∙ slab_sum-append x_moment (take 10 tets) (drop 10 tets) ∙ ap₂ ◌⊕◌ e f ∙ both_parts

slab_halves : (counted : Tetrahedron Position → Fraction) → sum_over counted (submerged_between (upright (natural 5000)) barge (pos 90000) (pos 100000))
    ≡ slab_sum counted (starboard_half barge) ⊕ slab_sum counted (map (with_corners mirrored) (starboard_half barge))
unfolding slab_sum submerged_between
slab_halves counted = slab_sum-append counted (starboard_half barge) (map (with_corners mirrored) (starboard_half barge))

-- what is left of a sum, where the slab floods whole
slab_left : (x y z : Fraction) → x ⊖ (quotient 1000 1000 ⊗ (y ⊕ z) ⊕ nought) ≡ x ⊖ (y ⊕ z)
slab_left x y z = ring_from fraction_ring (x ∷ y ∷ z ∷ quotient 1000 1000 ∷ []) ((opposite (var 1 :+ var 2), var 3, unit) ∷ []) (given whole_share none) (var 0 :- (var 3 :* (var 1 :+ var 2) :+ number 0)) (var 0 :- (var 1 :+ var 2)) refl
  where
    whole_share : quotient 1000 1000 ≡ one
    whole_share = Bounds.mul-inverse_positive fractions (positive-whole 1000 (omega arith))

flooded_by : (counted : Tetrahedron Position → Fraction) (x y z : Fraction) → sum_over counted (submerged_body (upright (natural 5000)) barge) ≡ x
    → slab_sum counted (starboard_half barge) ≡ y → slab_sum counted (map (with_corners mirrored) (starboard_half barge)) ≡ z → what_is_left (upright (natural 5000)) barge (fore_tenth is_fore_tenth ∷ []) counted ≡ x ⊖ (y ⊕ z)
unfolding sum_over
flooded_by counted x y z e f g = ap₂ (λ u v. u ⊖ (quotient 1000 1000 ⊗ v ⊕ nought)) e (slab_halves counted ∙ ap₂ ◌⊕◌ f g) ∙ slab_left x y z

barge_flooded_volume : volume_left (upright (natural 5000)) barge (fore_tenth is_fore_tenth ∷ []) ≡ natural (9 * 10 ^ 12)
unfolding volume_left submerged_volume whole ◌⊕◌ ◌⊗◌ negative inverse sign
barge_flooded_volume = flooded_by volume_of (natural (10 ^ 13)) (natural (5 * 10 ^ 11)) (natural (5 * 10 ^ 11)) barge_half_volume starboard_slab port_slab ∙ by_sign (natural (10 ^ 13) ⊖ (natural (5 * 10 ^ 11) ⊕ natural (5 * 10 ^ 11))) (natural (9 * 10 ^ 12)) refl

barge_flooded_mx : mx_left (upright (natural 5000)) barge (fore_tenth is_fore_tenth ∷ []) ≡ natural (405 * 10 ^ 15)
unfolding mx_left mx x_moment whole ◌⊕◌ ◌⊗◌ negative inverse sign
barge_flooded_mx = flooded_by x_moment (natural (5 * 10 ^ 17)) (natural (475 * 10 ^ 14)) (natural (475 * 10 ^ 14)) barge_half_mx
    (half_slab_mx (starboard_half barge) starboard_first_mx starboard_last_mx) (half_slab_mx (map (with_corners mirrored) (starboard_half barge)) port_first_mx port_last_mx) ∙ by_sign (natural (5 * 10 ^ 17) ⊖ (natural (475 * 10 ^ 14) ⊕ natural (475 * 10 ^ 14))) (natural (405 * 10 ^ 15)) refl

pub barge_flooded : WorkedFlooded
barge_flooded = record { limits = is_fore_tenth; volume = barge_flooded_volume; mx = barge_flooded_mx }
