-- The lids of strips: by the wet parts of their faces, and strips that have none; how wide the sums over them are.
use Rattle.std.proofs.Common.{◌≡◌, ◌≢◌, sym, ◌∙◌, subst, List, map, ℕ, ◌<◌, ℤ, ◌≤ℤ◌}
use Rattle.std.specs.List.{AllByRecursion}
use Rattle.exact_algebra.specs.OrderedField.{below}
use Rattle.exact_algebra.proofs.Fraction.{Fraction, one, ◌⊗◌, sign, fractions}
use Rattle.exact_algebra.proofs.Order as Order
use Rattle.exact_algebra.proofs.Whole.{whole, whole-nought, whole-≼}
use Rattle.hull_model.specs.declared.face.Face.{Face}
use Rattle.hull_model.specs.declared.node.Node.{Node}
use Rattle.hull_model.specs.declared.station.Station.{Station}
use Rattle.hull_model.specs.Body.{IsHull}
use Rattle.hull_model.specs.Faces.{triangle_of}
use Rattle.hull_model.specs.Fractions.{sum_over}
use Rattle.hull_model.specs.Lid.{level_area, first_moment, second_moment}
use Rattle.hull_model.specs.Submerged.{first_x, last_x}
use Rattle.hull_model.specs.Waterplane.{Position, upright}
use Rattle.hull_polyhedron.specs.Between.{LieInside}
use Rattle.hull_polyhedron.specs.Columns.{triangle_at, seen_part}
use Rattle.hull_polyhedron.specs.FacesOf.{AreFacesOf}
use Rattle.hull_polyhedron.specs.LidLaw.{AreLidSums}
use Rattle.hull_polyhedron.specs.StripLaw.{strip_pieces, strip_lid, HasNoLid}
use Rattle.hull_polyhedron.specs.Strips.{strip_at, triangles_in}
use Rattle.hull_polyhedron.specs.StripsOf.{strip_count, strip_faces, strip_nodes}
use Rattle.hull_polyhedron.specs.declared.faces.Faces.{Faces}
use Rattle.hull_polyhedron.proofs.StripColumns.{lids_of_strips}
use Rattle.hull_polyhedron.proofs.StripWhole.{dry_lids, deep_lids}
use Rattle.flux_moments.specs.Columns.{lid_parts}
use Rattle.flux_moments.specs.LidWidths.{IsNoLid, AreLidWidths, seen_part_bound}
use Rattle.flux_moments.specs.Planes.{IsIn}
use Rattle.flux_moments.specs.Sizes.{IsLevelBox}
use Rattle.flux_moments.specs.Water.{IsUnder, IsOut}
use Rattle.flux_moments.specs.declared.lid_sums.LidSums.{LidSums}
use Rattle.flux_moments.specs.declared.plane_box.PlaneBox.{PlaneBox}
use Rattle.flux_moments.proofs.DryFaces.{none_narrow}
use Rattle.flux_moments.proofs.DryLids.{nonnegative_seen}
use Rattle.flux_moments.proofs.Measured.{placed}
use Rattle.flux_moments.proofs.StripLaws.{within, summed, out_of_water, deep_in_water}
use Rattle.flux_moments.proofs.StripSums.{same_place}
use Rattle.flux_moments.proofs.StripWidths.{nonnegative_sum}

module _ (stations : List Station) (hull : IsHull stations) (faces : Faces) (are : AreFacesOf stations faces) (n : ℕ) (less : n < strip_count faces) (at : Fraction) where
  abbrev strip : List Station
  strip = strip_at stations n

  law : AreLidSums at (first_x stations) (last_x stations) (strip_pieces (upright at) stations strip) (map triangle_at (triangles_in strip (map triangle_of faces.list)))
  law = lids_of_strips at stations hull (map triangle_of faces.list) are.boundary.balanced n (within stations hull faces are n less)

  seen : (f g : Position → Fraction) → lid_parts at faces.first_x faces.last_x f g (strip_faces faces n)
      ≡ sum_over (seen_part (upright at) (first_x stations) (last_x stations) f g) (map triangle_at (triangles_in strip (map triangle_of faces.list)))
  seen f g = placed (upright at) stations hull faces are (λ first last. lid_parts at first last f g (strip_faces faces n))
      ∙ summed stations hull faces are n less (upright at) (seen_part (upright at) (first_x stations) (last_x stations) f g)

  pub area_in_strip : lid_parts at faces.first_x faces.last_x (λ p. one) (λ p. one) (strip_faces faces n) ≡ strip_lid at stations level_area strip
  area_in_strip = seen (λ p. one) (λ p. one) ∙ sym law.area

  pub x_in_strip : lid_parts at faces.first_x faces.last_x (λ p. p.x) (λ p. one) (strip_faces faces n) ≡ strip_lid at stations (first_moment (λ p. p.x)) strip
  x_in_strip = seen (λ p. p.x) (λ p. one) ∙ sym law.x

  pub yy_in_strip : lid_parts at faces.first_x faces.last_x (λ p. p.y) (λ p. p.y) (strip_faces faces n) ≡ strip_lid at stations (second_moment (λ p. p.y)) strip
  yy_in_strip = seen (λ p. p.y) (λ p. p.y) ∙ sym law.yy

  pub xx_in_strip : lid_parts at faces.first_x faces.last_x (λ p. p.x) (λ p. p.x) (strip_faces faces n) ≡ strip_lid at stations (second_moment (λ p. p.x)) strip
  xx_in_strip = seen (λ p. p.x) (λ p. p.x) ∙ sym law.xx

  module _ (planes : PlaneBox) (is : IsIn planes (upright at)) {first last : ℤ} {nodes : List Node} (e : first ≡ faces.first_x) (f : last ≡ faces.last_x) (same : nodes ≡ strip_nodes faces n) where
    pub no_lid_above : AllByRecursion (IsOut planes first last) nodes → HasNoLid at stations strip
    no_lid_above out = dry_lids at stations strip (out_of_water stations hull faces are n less (upright at) planes is
        (same_place (λ first last nodes. AllByRecursion (IsOut planes first last) nodes) e f same out))

    pub no_lid_under : AllByRecursion (IsUnder planes first last) nodes → HasNoLid at stations strip
    no_lid_under under = deep_lids at stations strip (deep_in_water stations hull faces are n less (upright at) planes is
        (same_place (λ first last nodes. AllByRecursion (IsUnder planes first last) nodes) e f same under))

-- ---- how wide: no lid, and by the strip's faces
module _ (faces : Faces) (d1 d2 : ℤ) (order : d1 ≤ℤ d2) where
  abbrev bound : Fraction → Face → Fraction
  bound = seen_part_bound faces.first_x faces.last_x d1 d2

  abbrev AreWidths : List Face → LidSums → Type 0
  AreWidths = AreLidWidths faces.first_x faces.last_x d1 d2 (whole faces.last_x) (whole faces.half_breadth)

  pub far : sign (whole faces.last_x) ≢ below
  far = Order.nonnegative_from fractions (Order.≼_trans fractions (Order.≼_same fractions (sym whole-nought)) (whole-≼ faces.ends.last_within.0))

  pub nonnegative_bound_at : (g : Fraction) → sign g ≢ below → (f : Face) → sign (bound g f) ≢ below
  nonnegative_bound_at g some f = nonnegative_seen faces.first_x faces.last_x d1 d2 order f g some

  bounds : (fs : List Face) (g : Fraction) → sign g ≢ below → sign (sum_over (bound g) fs) ≢ below
  bounds fs g some = nonnegative_sum (bound g) (nonnegative_bound_at g some) fs

  pub no_lid_widths : (fs : List Face) (l : LidSums) → IsNoLid l → AreWidths fs l
  no_lid_widths fs l e = record {
    area = none_narrow _ (bounds fs one (Order.nonnegative-one fractions)) e.0;
    sx = none_narrow _ (bounds fs (whole faces.last_x) far) e.1;
    syy = none_narrow _ (bounds fs (whole faces.half_breadth ⊗ whole faces.half_breadth) (Order.nonnegative_square fractions (whole faces.half_breadth))) e.2;
    sxx = none_narrow _ (bounds fs (whole faces.last_x ⊗ whole faces.last_x) (Order.nonnegative_square fractions (whole faces.last_x))) e.3;
  }

pub cut_lid_widths : (faces : Faces) (planes : PlaneBox) (d1 d2 : ℤ) {list fs : List Face} {first last : ℤ} (sums : LidSums) → list ≡ fs → LieInside faces.half_breadth faces.high_z list
    → first ≡ faces.first_x → last ≡ faces.last_x → IsLevelBox planes d1 d2
    → ((d1 d2 half_breadth height : ℤ) → IsLevelBox planes d1 d2 → LieInside half_breadth height list → AreLidWidths first last d1 d2 (whole last) (whole half_breadth) list sums)
    → AreLidWidths faces.first_x faces.last_x d1 d2 (whole faces.last_x) (whole faces.half_breadth) fs sums
cut_lid_widths faces planes d1 d2 {list} {fs} {first} {last} sums e inside f g is widths = subst (λ (gs : List Face). AreLidWidths faces.first_x faces.last_x d1 d2
    (whole faces.last_x) (whole faces.half_breadth) gs sums) e
    (subst (λ (x : ℤ). AreLidWidths x faces.last_x d1 d2 (whole faces.last_x) (whole faces.half_breadth) list sums) f
    (subst (λ (x : ℤ). AreLidWidths first x d1 d2 (whole x) (whole faces.half_breadth) list sums) g
    (widths d1 d2 faces.half_breadth faces.high_z is inside)))
