use Rattle.std.proofs.Common.{rules, inl, inr, pos, ◌≡◌, ◌^◌, refl, [], ◌∷◌, get_or, arith}
use Rattle.std.proofs.lemmas.Int.{ints, to_z-of_z}
use Rattle.std.specs.Int.{w64}
use mir.Val.{SFits}
use Rattle.hull_model.proofs.Magnitudes.{fits_64}
use Rattle.hull_model.specs.Faces.{origin}
use Rattle.hull_model.specs.Waterplane.{upright}
use Rattle.flux_moments.proofs.FaceAreas.{corner_x, corner_y}
use Rattle.flux_moments.proofs.ProductEnds.{less}
use Rattle.flux_moments.proofs.SeenMeans.{lid_depths, area_within, linear_within, square_within}
use Rattle.exact_algebra.proofs.Fraction.{one, ◌⊗◌, fractions}
use Rattle.exact_algebra.proofs.Order as Order
use Rattle.exact_algebra.proofs.Whole.{whole}
use Rattle.hull_polyhedron.specs.Between.{IsBetween, IsInside}
use Rattle.outward_interval.specs.Widths.{units}
use Rattle.plane_clip.proofs.FaceSizes.{three_corners}
use Rattle.flux_moments.proofs.BoxWidths.{far_at_most}
use Rattle.flux_moments.proofs.SeenWidths.{share_is, seen-area, seen-bound, fewer_units, across_at_most, nonnegative_far}
use Rattle.flux_moments.proofs.DryFaces.{dry_within}
use Rattle.flux_moments.proofs.DryLids.{no_area, no_lever, no_second, no_lid_narrow}
use Rattle.flux_moments.proofs.PartWidths.{nonnegative_last}
use Rattle.flux_moments.proofs.lid_sums.seen_part.Goals as goal

pub square_mean-requires-clause-u : goal.square_mean-requires-clause-u
square_mean-requires-clause-u c =
    let u : SFits w64 (get_or c.args.face.now.p 0 origin).y = fits_64 _ (omega (arith, corner_y c.args.face.now c.requires.face 0)) in
    simp to_z-of_z (corner_y c.args.face.now c.requires.face 0)

pub square_mean-requires-clause-v : goal.square_mean-requires-clause-v
square_mean-requires-clause-v c =
    let v : SFits w64 (get_or c.args.face.now.p 1 origin).y = fits_64 _ (omega (arith, corner_y c.args.face.now c.requires.face 1)) in
    simp to_z-of_z (corner_y c.args.face.now c.requires.face 1)

pub square_mean-requires-clause-w : goal.square_mean-requires-clause-w
square_mean-requires-clause-w c =
    let w : SFits w64 (get_or c.args.face.now.p 2 origin).y = fits_64 _ (omega (arith, corner_y c.args.face.now c.requires.face 2)) in
    simp to_z-of_z (corner_y c.args.face.now c.requires.face 2)

pub returns-clause-area : goal.returns-clause-area
returns-clause-area c at is =
    let depths = lid_depths at c.args.way.first c.args.way.last c.args.face.now c.requires.face in
    let first = c.depth_of-first.ensures.contains (upright at) is in
    let second = c.depth_of-second.ensures.contains (upright at) is in
    let third = c.depth_of-third.ensures.contains (upright at) is in
    let area : SFits w64 c.area_from_above-area.result = record { sfits = c.area_from_above-area.type_inv } in
    let contains = simp to_z-of_z at c.seen.ensures.contains in
    area_within at c.args.way.first c.args.way.last c.args.face.now c.requires.face c.area_from_above-area.ensures.value
    (contains _ (c.wet-means.ensures.share depths (first, second, third)))

pub returns-clause-sx : goal.returns-clause-sx
returns-clause-sx c at is =
    let depths = lid_depths at c.args.way.first c.args.way.last c.args.face.now c.requires.face in
    let first = c.depth_of-first.ensures.contains (upright at) is in
    let second = c.depth_of-second.ensures.contains (upright at) is in
    let third = c.depth_of-third.ensures.contains (upright at) is in
    let area : SFits w64 c.area_from_above-area.result = record { sfits = c.area_from_above-area.type_inv } in
    let contains = simp to_z-of_z at c.seen-2.ensures.contains in
    let u : SFits w64 (get_or c.args.face.now.p 0 origin).x = fits_64 _ (omega (arith, corner_x c.args.face.now c.requires.face 0)) in
    let v : SFits w64 (get_or c.args.face.now.p 1 origin).x = fits_64 _ (omega (arith, corner_x c.args.face.now c.requires.face 1)) in
    let w : SFits w64 (get_or c.args.face.now.p 2 origin).x = fits_64 _ (omega (arith, corner_x c.args.face.now c.requires.face 2)) in
    let mean = simp to_z-of_z at c.linear_mean.ensures.contains in
    linear_within at c.args.way.first c.args.way.last c.args.face.now c.requires.face (λ p. p.x) c.area_from_above-area.ensures.value
    (contains _ (mean (c.depth_of-first.result ∷ c.depth_of-second.result ∷ c.depth_of-third.result ∷ []) depths c.wet-means.ensures.corner
    (first, second, third)))

pub returns-clause-syy : goal.returns-clause-syy
returns-clause-syy c at is =
    let depths = lid_depths at c.args.way.first c.args.way.last c.args.face.now c.requires.face in
    let first = c.depth_of-first.ensures.contains (upright at) is in
    let second = c.depth_of-second.ensures.contains (upright at) is in
    let third = c.depth_of-third.ensures.contains (upright at) is in
    let area : SFits w64 c.area_from_above-area.result = record { sfits = c.area_from_above-area.type_inv } in
    let contains = simp to_z-of_z at c.seen-3.ensures.contains in
    let u : SFits w64 (get_or c.args.face.now.p 0 origin).y = fits_64 _ (omega (arith, corner_y c.args.face.now c.requires.face 0)) in
    let v : SFits w64 (get_or c.args.face.now.p 1 origin).y = fits_64 _ (omega (arith, corner_y c.args.face.now c.requires.face 1)) in
    let w : SFits w64 (get_or c.args.face.now.p 2 origin).y = fits_64 _ (omega (arith, corner_y c.args.face.now c.requires.face 2)) in
    let mean = simp to_z-of_z at c.square_mean.ensures.contains in
    square_within at c.args.way.first c.args.way.last c.args.face.now c.requires.face (λ p. p.y) c.area_from_above-area.ensures.value
    (contains _ (mean (c.depth_of-first.result ∷ c.depth_of-second.result ∷ c.depth_of-third.result ∷ []) depths c.wet-means.ensures.pair
    (first, second, third)))

pub returns-clause-sxx : goal.returns-clause-sxx
returns-clause-sxx c at is =
    let depths = lid_depths at c.args.way.first c.args.way.last c.args.face.now c.requires.face in
    let first = c.depth_of-first.ensures.contains (upright at) is in
    let second = c.depth_of-second.ensures.contains (upright at) is in
    let third = c.depth_of-third.ensures.contains (upright at) is in
    let area : SFits w64 c.area_from_above-area.result = record { sfits = c.area_from_above-area.type_inv } in
    let contains = simp to_z-of_z at c.seen-4.ensures.contains in
    let u : SFits w64 (get_or c.args.face.now.p 0 origin).x = fits_64 _ (omega (arith, corner_x c.args.face.now c.requires.face 0)) in
    let v : SFits w64 (get_or c.args.face.now.p 1 origin).x = fits_64 _ (omega (arith, corner_x c.args.face.now c.requires.face 1)) in
    let w : SFits w64 (get_or c.args.face.now.p 2 origin).x = fits_64 _ (omega (arith, corner_x c.args.face.now c.requires.face 2)) in
    let mean = simp to_z-of_z at c.square_mean-2.ensures.contains in
    square_within at c.args.way.first c.args.way.last c.args.face.now c.requires.face (λ p. p.x) c.area_from_above-area.ensures.value
    (contains _ (mean (c.depth_of-first.result ∷ c.depth_of-second.result ∷ c.depth_of-third.result ∷ []) depths c.wet-means.ensures.pair
    (first, second, third)))

pub returns-clause-area_ends : goal.returns-clause-area_ends
returns-clause-area_ends c = c.seen.ensures.ends (2 ^ 41) (less 41 c.wet-means.ensures.share_bounded)

pub returns-clause-sx_ends : goal.returns-clause-sx_ends
returns-clause-sx_ends c = c.seen-2.ensures.ends (2 ^ 62) c.linear_mean.ensures.ends

pub returns-clause-syy_ends : goal.returns-clause-syy_ends
returns-clause-syy_ends c = c.seen-3.ensures.ends (2 ^ 83) c.square_mean.ensures.ends

pub returns-clause-sxx_ends : goal.returns-clause-sxx_ends
returns-clause-sxx_ends c = c.seen-4.ensures.ends (2 ^ 83) c.square_mean-2.ensures.ends

pub returns-clause-widths : goal.returns-clause-widths
returns-clause-widths c d1 d2 half_breadth height is inside =
    let face = c.args.face.now in
    let first = c.args.way.first in
    let last = c.args.way.last in
    let x = c.depth_of-first.result in
    let y = c.depth_of-second.result in
    let z = c.depth_of-third.result in
    let placed = three_corners (IsBetween first last) face c.requires.face c.requires.between in
    let broad = three_corners (IsInside half_breadth height) face c.requires.face inside in
    let area : SFits w64 c.area_from_above-area.result = record { sfits = c.area_from_above-area.type_inv } in
    let rise = share_is x y z first last d1 d2 face (c.depth_of-first.ensures.level d1 d2 is) (c.depth_of-second.ensures.level d1 d2 is)
    (c.depth_of-third.ensures.level d1 d2 is) in
    let u : SFits w64 (get_or c.args.face.now.p 0 origin).x = fits_64 _ (omega (arith, corner_x c.args.face.now c.requires.face 0)) in
    let v : SFits w64 (get_or c.args.face.now.p 1 origin).x = fits_64 _ (omega (arith, corner_x c.args.face.now c.requires.face 1)) in
    let w : SFits w64 (get_or c.args.face.now.p 2 origin).x = fits_64 _ (omega (arith, corner_x c.args.face.now c.requires.face 2)) in
    let u' : SFits w64 (get_or c.args.face.now.p 0 origin).y = fits_64 _ (omega (arith, corner_y c.args.face.now c.requires.face 0)) in
    let v' : SFits w64 (get_or c.args.face.now.p 1 origin).y = fits_64 _ (omega (arith, corner_y c.args.face.now c.requires.face 1)) in
    let w' : SFits w64 (get_or c.args.face.now.p 2 origin).y = fits_64 _ (omega (arith, corner_y c.args.face.now c.requires.face 2)) in
    let far1 = far_at_most first last _ _ c.args.way.start.0 placed.0 refl in
    let far2 = far_at_most first last _ _ c.args.way.start.0 placed.1 refl in
    let far3 = far_at_most first last _ _ c.args.way.start.0 placed.2 refl in
    let across1 = across_at_most half_breadth height _ broad.0 in
    let across2 = across_at_most half_breadth height _ broad.1 in
    let across3 = across_at_most half_breadth height _ broad.2 in
    let linear = simp to_z-of_z at c.linear_mean.ensures.narrow in
    let square_y = simp to_z-of_z at c.square_mean.ensures.narrow in
    let square_x = simp to_z-of_z at c.square_mean-2.ensures.narrow in
    let value = c.area_from_above-area.ensures.value in
    record {
      area = seen-bound x y z first last d1 d2 face 16 one rise (Order.nonnegative-one fractions) value (fewer_units 16 144 (omega (arith, ints)))
          (simp to_z-of_z at (c.seen.ensures.narrow _ (seen-area x y z c.wet-means.result.share c.wet-means.ensures.share_width)));
      sx = seen-bound x y z first last d1 d2 face 48 (whole last) rise (nonnegative_far _ (whole last) far1) value (fewer_units 48 144 (omega (arith, ints)))
          (simp to_z-of_z at (c.seen-2.ensures.narrow _ (linear x y z (whole last) c.wet-means.ensures.corner_width far1 far2 far3)));
      syy = seen-bound x y z first last d1 d2 face 144 (whole half_breadth ⊗ whole half_breadth) rise
          (Order.nonnegative_square fractions (whole half_breadth)) value (Order.≼_refl fractions (units 40 144))
          (simp to_z-of_z at (c.seen-3.ensures.narrow _ (square_y x y z (whole half_breadth) c.wet-means.ensures.pair_width across1 across2 across3)));
      sxx = seen-bound x y z first last d1 d2 face 144 (whole last ⊗ whole last) rise (Order.nonnegative_square fractions (whole last)) value
          (Order.≼_refl fractions (units 40 144))
          (simp to_z-of_z at (c.seen-4.ensures.narrow _ (square_x x y z (whole last) c.wet-means.ensures.pair_width far1 far2 far3)));
    }

pub returns-then-face-eq0-clause-area : goal.returns-then-face-eq0-clause-area
returns-then-face-eq0-clause-area c at is =
    let first = c.args.way.first in
    let last = c.args.way.last in
    let face = c.args.face.now in
    let none : face.az ≡ pos 0 = search rules in
    no_area at first last face c.requires.face (inr none) c.nothing.ensures.0

pub returns-then-face-eq0-clause-sx : goal.returns-then-face-eq0-clause-sx
returns-then-face-eq0-clause-sx c at is =
    let first = c.args.way.first in
    let last = c.args.way.last in
    let face = c.args.face.now in
    let none : face.az ≡ pos 0 = search rules in
    no_lever at first last face c.requires.face (λ p. p.x) (inr none) c.nothing.ensures.1

pub returns-then-face-eq0-clause-syy : goal.returns-then-face-eq0-clause-syy
returns-then-face-eq0-clause-syy c at is =
    let first = c.args.way.first in
    let last = c.args.way.last in
    let face = c.args.face.now in
    let none : face.az ≡ pos 0 = search rules in
    no_second at first last face c.requires.face (λ p. p.y) (inr none) c.nothing.ensures.2

pub returns-then-face-eq0-clause-sxx : goal.returns-then-face-eq0-clause-sxx
returns-then-face-eq0-clause-sxx c at is =
    let first = c.args.way.first in
    let last = c.args.way.last in
    let face = c.args.face.now in
    let none : face.az ≡ pos 0 = search rules in
    no_second at first last face c.requires.face (λ p. p.x) (inr none) c.nothing.ensures.3

pub returns-then-face-eq0-clause-widths : goal.returns-then-face-eq0-clause-widths
returns-then-face-eq0-clause-widths c d1 d2 half_breadth height is inside =
    let way = c.args.way in
    no_lid_narrow way.first way.last d1 d2 (rw (is.aft.0, is.aft.1) at c.args.planes.now.levels.aft) c.args.face.now (whole way.last) (whole half_breadth)
    (nonnegative_last way.first way.last way.start.0 way.forwards) c.nothing.result c.nothing.ensures

pub returns-then-are_dry-clause-area : goal.returns-then-are_dry-clause-area
returns-then-are_dry-clause-area c at is =
    let first = c.args.way.first in
    let last = c.args.way.last in
    let face = c.args.face.now in
    no_area at first last face c.requires.face (inl (dry_within (c.depth_of-first.result ∷ c.depth_of-second.result ∷ c.depth_of-third.result ∷ []) (lid_depths at first last face c.requires.face) (c.are_dry.ensures.0 c.if-are_dry.true)
    (c.depth_of-first.ensures.contains (upright at) is, c.depth_of-second.ensures.contains (upright at) is, c.depth_of-third.ensures.contains (upright at) is))) c.nothing-then-are_dry.ensures.0

pub returns-then-are_dry-clause-sx : goal.returns-then-are_dry-clause-sx
returns-then-are_dry-clause-sx c at is =
    let first = c.args.way.first in
    let last = c.args.way.last in
    let face = c.args.face.now in
    no_lever at first last face c.requires.face (λ p. p.x) (inl (dry_within (c.depth_of-first.result ∷ c.depth_of-second.result ∷ c.depth_of-third.result ∷ []) (lid_depths at first last face c.requires.face) (c.are_dry.ensures.0 c.if-are_dry.true)
    (c.depth_of-first.ensures.contains (upright at) is, c.depth_of-second.ensures.contains (upright at) is, c.depth_of-third.ensures.contains (upright at) is))) c.nothing-then-are_dry.ensures.1

pub returns-then-are_dry-clause-syy : goal.returns-then-are_dry-clause-syy
returns-then-are_dry-clause-syy c at is =
    let first = c.args.way.first in
    let last = c.args.way.last in
    let face = c.args.face.now in
    no_second at first last face c.requires.face (λ p. p.y) (inl (dry_within (c.depth_of-first.result ∷ c.depth_of-second.result ∷ c.depth_of-third.result ∷ []) (lid_depths at first last face c.requires.face) (c.are_dry.ensures.0 c.if-are_dry.true)
    (c.depth_of-first.ensures.contains (upright at) is, c.depth_of-second.ensures.contains (upright at) is, c.depth_of-third.ensures.contains (upright at) is))) c.nothing-then-are_dry.ensures.2

pub returns-then-are_dry-clause-sxx : goal.returns-then-are_dry-clause-sxx
returns-then-are_dry-clause-sxx c at is =
    let first = c.args.way.first in
    let last = c.args.way.last in
    let face = c.args.face.now in
    no_second at first last face c.requires.face (λ p. p.x) (inl (dry_within (c.depth_of-first.result ∷ c.depth_of-second.result ∷ c.depth_of-third.result ∷ []) (lid_depths at first last face c.requires.face) (c.are_dry.ensures.0 c.if-are_dry.true)
    (c.depth_of-first.ensures.contains (upright at) is, c.depth_of-second.ensures.contains (upright at) is, c.depth_of-third.ensures.contains (upright at) is))) c.nothing-then-are_dry.ensures.3

pub returns-then-are_dry-clause-widths : goal.returns-then-are_dry-clause-widths
returns-then-are_dry-clause-widths c d1 d2 half_breadth height is inside =
    let way = c.args.way in
    no_lid_narrow way.first way.last d1 d2 (rw (is.aft.0, is.aft.1) at c.args.planes.now.levels.aft) c.args.face.now (whole way.last) (whole half_breadth)
    (nonnegative_last way.first way.last way.start.0 way.forwards) c.nothing-then-are_dry.result c.nothing-then-are_dry.ensures
