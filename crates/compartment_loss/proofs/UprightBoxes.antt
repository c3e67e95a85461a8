-- Boxes of one upright plane: what they hold, and their sizes.
use Rattle.std.proofs.Common.{◌≡◌, ◌∙◌, refl, sym, ap, subst, ℕ, ◌+◌, ◌*◌, ◌^◌, max, ℤ, pos, ◌+ℤ◌, ◌-ℤ◌, ◌≤ℤ◌, unsigned_abs, List, length, arith}
use Rattle.std.proofs.lemmas.Int.{ints}
use Rattle.std.specs.Int.{int_max}
use Rattle.exact_algebra.proofs.Fraction.{Fraction, ◌⊕◌, ◌⊗◌}
use Rattle.exact_algebra.proofs.Whole.{whole}
use Rattle.hull_model.specs.declared.face.Face.{Face}
use Rattle.hull_model.specs.Fractions.{sum_over}
use Rattle.hull_model.specs.Waterplane.{Waterplane}
use Rattle.hull_polyhedron.specs.declared.faces.Faces.{Faces}
use Rattle.outward_interval.specs.Widths.{unit_of, IsNarrow}
use Rattle.plane_clip.specs.Enclosure.{in_unit}
use Rattle.flux_moments.specs.Planes.{IsIn}
use Rattle.flux_moments.specs.Sizes.{BoxSize, AreReached, spread, doubled_area, length_part}
use Rattle.flux_moments.specs.Widths.{half_areas, size_of, reach_of, volume_bound}
use Rattle.flux_moments.specs.declared.plane_box.PlaneBox.{PlaneBox}
use Rattle.flux_moments.proofs.SeenSums.{level_box}
use Rattle.compartment_loss.specs.LeftWidths.{slabs_bound}
use Rattle.compartment_loss.specs.Upright.{IsUprightPlane, IsUprightBox, IsUpright}

pub any_level : (a f : ℤ) (planes : PlaneBox) → IsUprightBox a f planes → IsUpright planes
any_level a f planes is = record { aft = is.aft.1 ∙ sym is.aft.0; fore = is.fore.1 ∙ sym is.fore.0; cosine = is.cosine; sine = is.sine }

itself : (n : ℤ) → n ≤ℤ n
itself n = omega (arith, ints)

-- a box by its levels and its direction
module _ (planes : PlaneBox) (a f : ℤ) (same : (planes.a1 ≡ a) × (planes.a2 ≡ a) × (planes.f1 ≡ f) × (planes.f2 ≡ f))
    (direction : (planes.bracket.low.c ≡ 1) × (planes.bracket.low.s ≡ 0) × (planes.bracket.low.r ≡ 1) × (planes.bracket.high ≡ planes.bracket.low)) where
  -- with one level everywhere
  abbrev levelled : PlaneBox
  levelled = record {
    bracket = planes.bracket;
    a1 = planes.a1;
    a2 = planes.a1;
    f1 = planes.a1;
    f2 = planes.a1;
    levels = record { aft = itself planes.a1; fore = itself planes.a1; first = planes.levels.first; second = planes.levels.first; third = planes.levels.first; fourth = planes.levels.first };
  }

  pub upright_box : IsUprightBox a f planes
  upright_box = let level = level_box levelled planes.a1 planes.a1 (refl, refl, refl, refl) direction in
      record { aft = (same.0, same.1); fore = (same.2, same.3); cosine = level.cosine; sine = level.sine }

  pub upright_is_in : (plane : Waterplane) → IsUprightPlane a f plane → IsIn planes plane
  upright_is_in plane is = record {
    direction = record { from = omega (arith, ap (λ n. n * plane.c) direction.1); to = omega (arith, ap (λ n. n * planes.bracket.high.c) is.direction) };
    aft = rw (same.0, same.1) is.aft;
    fore = rw (same.2, same.3) is.fore;
  }

-- ---- all such boxes have one size
abbrev upright_size : (a f : ℤ) → BoxSize
upright_size a f = record {
  rise = in_unit 10 (int_max (a -ℤ a) (f -ℤ f));
  turn = in_unit 40 (int_max (pos (2 ^ 40) -ℤ pos (2 ^ 40)) (pos 0 -ℤ pos 0));
  level = in_unit 10 (pos (max (max (unsigned_abs a) (unsigned_abs a)) (max (unsigned_abs f) (unsigned_abs f))));
}

size_is_upright : (a f : ℤ) (planes : PlaneBox) → IsUprightBox a f planes → size_of planes ≡ upright_size a f
size_is_upright a f planes is = λ i. record {
  rise = in_unit 10 (int_max (is.aft.1 i -ℤ is.aft.0 i) (is.fore.1 i -ℤ is.fore.0 i));
  turn = in_unit 40 (int_max (is.cosine.1 i -ℤ is.cosine.0 i) (is.sine.1 i -ℤ is.sine.0 i));
  level = in_unit 10 (pos (max (max (unsigned_abs (is.aft.0 i)) (unsigned_abs (is.aft.1 i))) (max (unsigned_abs (is.fore.0 i)) (unsigned_abs (is.fore.1 i)))));
}

-- and so one bound
bound_by_size : ℕ → Faces → BoxSize → Fraction
bound_by_size slabs faces size = whole (pos (slabs + 1)) ⊗ ((whole (pos 8) ⊗ (half_areas faces.list ⊕ whole (pos (2 ^ 17)))) ⊗ (spread size (size.level ⊕ whole (faces.high_z +ℤ faces.half_breadth)) ⊕ unit_of 16)
    ⊕ (whole (pos (length faces.list)) ⊗ (size.level ⊕ whole (faces.high_z +ℤ faces.half_breadth))) ⊗ unit_of 12)

bound_is_by_size : (slabs : ℕ) (faces : Faces) (planes : PlaneBox) → slabs_bound slabs faces planes ≡ bound_by_size slabs faces (size_of planes)
unfolding volume_bound bound_by_size
bound_is_by_size slabs faces planes = refl

pub same_bound : (a f : ℤ) (p q : PlaneBox) → IsUprightBox a f p → IsUprightBox a f q → (slabs : ℕ) (faces : Faces) → slabs_bound slabs faces p ≡ slabs_bound slabs faces q
same_bound a f p q h k slabs faces = bound_is_by_size slabs faces p ∙ ap (bound_by_size slabs faces) (size_is_upright a f p h ∙ sym (size_is_upright a f q k)) ∙ sym (bound_is_by_size slabs faces q)

-- ---- by the faces' own names
pub sum_of_faces : (planes : PlaneBox) (faces : Faces) {list : List Face} (part : Fraction → Face → Fraction) {lo hi : ℤ} → list ≡ faces.list
    → AreReached planes faces.list (size_of planes) (reach_of faces planes)
    → ((b : BoxSize) (h : Fraction) → AreReached planes list b h → IsNarrow 20 (sum_over (part (spread b h)) list) lo hi)
    → IsNarrow 20 (sum_over (part (spread (size_of planes) (reach_of faces planes))) faces.list) lo hi
sum_of_faces planes faces {list} part {lo} {hi} e are narrow = subst (λ (fs : List Face). IsNarrow 20 (sum_over (part (spread (size_of planes) (reach_of faces planes))) fs) lo hi) e
    (narrow (size_of planes) (reach_of faces planes) (subst (λ (fs : List Face). AreReached planes fs (size_of planes) (reach_of faces planes)) (sym e) are))

pub lengths_of_faces : (planes : PlaneBox) (faces : Faces) {list : List Face} {last lo hi : ℤ} → list ≡ faces.list → last ≡ faces.last_x
    → AreReached planes faces.list (size_of planes) (reach_of faces planes)
    → ((b : BoxSize) (h : Fraction) → AreReached planes list b h → IsNarrow 20 (sum_over (λ f. length_part (whole last) (spread b h) (doubled_area f)) list) lo hi)
    → IsNarrow 20 (sum_over (λ f. length_part (whole faces.last_x) (spread (size_of planes) (reach_of faces planes)) (doubled_area f)) faces.list) lo hi
lengths_of_faces planes faces {list} {last} {lo} {hi} e f are narrow = subst (λ (x : ℤ). IsNarrow 20 (sum_over (λ g. length_part (whole x) (spread (size_of planes) (reach_of faces planes)) (doubled_area g)) faces.list) lo hi) f
    (sum_of_faces planes faces (λ s g. length_part (whole last) s (doubled_area g)) e are narrow)
