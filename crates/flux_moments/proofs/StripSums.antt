-- What the sum of one strip holds, and how large and how wide it is.
use Rattle.std.proofs.Common.{◌≡◌, ◌≢◌, refl, sym, ◌∙◌, ap, subst, List, [], ◌∷◌, length, ℕ, ◌+◌, ◌*◌, ◌^◌, ◌<◌, ◌≤◌, ℤ, pos, unsigned_abs, arith, inl, inr, ◌⊎◌}
use Rattle.std.proofs.lemmas.Int.{ints}
use Rattle.std.proofs.Math.Nat.{mul-le-mul}
use Rattle.std.specs.List.{AllByRecursion}
use Rattle.exact_algebra.specs.Expression.{unit, var, number, ◌:*◌}
use Rattle.exact_algebra.specs.OrderedField.{below}
use Rattle.exact_algebra.proofs.Fraction.{Fraction, nought, ◌⊕◌, ◌⊗◌, inverse, sign, fractions, fraction_ring}
use Rattle.exact_algebra.proofs.Order as Order
use Rattle.exact_algebra.proofs.Order.{order_from, no_more, at_most}
use Rattle.exact_algebra.proofs.Ring.{ring}
use Rattle.exact_algebra.proofs.Span.{ContainsFraction, contains_whole}
use Rattle.exact_algebra.proofs.Whole.{whole, whole-nought, whole-mul, whole-≼}
use Rattle.hull_model.specs.declared.face.Face.{Face}
use Rattle.hull_model.specs.declared.node.Node.{Node}
use Rattle.hull_model.specs.declared.station.Station.{Station}
use Rattle.hull_model.specs.Body.{IsHull}
use Rattle.hull_model.specs.Faces.{IsFace}
use Rattle.hull_model.specs.Nodes.{IsNode}
use Rattle.hull_model.specs.Fractions.{sum_over}
use Rattle.hull_model.specs.Waterplane.{Waterplane, height, side_distance}
use Rattle.hull_polyhedron.specs.Between.{IsInside, LieInside}
use Rattle.hull_polyhedron.specs.FacesOf.{AreFacesOf}
use Rattle.hull_polyhedron.specs.SideAreas.{seen_from_side}
use Rattle.hull_polyhedron.specs.StripLaw.{strip_volume, strip_integral, HasNothingSubmerged}
use Rattle.hull_polyhedron.specs.Strips.{strip_at}
use Rattle.hull_polyhedron.specs.StripsOf.{strip_count, strip_faces, strip_nodes, total, side_area}
use Rattle.hull_polyhedron.specs.declared.faces.Faces.{Faces}
use Rattle.hull_polyhedron.specs.declared.totals.Totals.{Totals}
use Rattle.outward_interval.specs.Widths.{unit_of, units, IsNarrow}
use Rattle.outward_interval.proofs.Narrow.{nonnegative-unit_of, narrow-wider}
use Rattle.plane_clip.proofs.FaceSizes.{areas_below}
use Rattle.flux_moments.specs.ColumnSizes.{AreSumWidths}
use Rattle.flux_moments.specs.Limits.{EndsAtMost}
use Rattle.flux_moments.specs.Planes.{IsIn}
use Rattle.flux_moments.specs.Clear.{IsClear}
use Rattle.flux_moments.specs.Sizes.{Reaches, margin, BoxSize, AreReached, spread, doubled_area, volume_part, length_part, height_part}
use Rattle.flux_moments.specs.StripSizes.{most_volume, AreStripEnds, AreStripWidths}
use Rattle.flux_moments.specs.Water.{IsUnder, IsOut, IsUnderBy, IsOutBy, IsFarUnder, IsFarOut}
use Rattle.flux_moments.specs.Wets.{AllFields, AreEndsAtMost, AreColumnEnds}
use Rattle.flux_moments.specs.Widths.{size_of, reach_of}
use Rattle.flux_moments.specs.declared.plane_box.PlaneBox.{PlaneBox}
use Rattle.flux_moments.specs.declared.wet.Wet.{Wet}
use Rattle.flux_moments.proofs.DryFaces.{none_narrow}
use Rattle.flux_moments.proofs.Measured.{renamed}
use Rattle.flux_moments.proofs.StripLaws.{wet_volume, wet_mx, wet_mv, wet_mu, dry, quotient_times}
use Rattle.flux_moments.proofs.StripWidths.{nonnegative_sum, nonnegative_volume, nonnegative_length, nonnegative_height, two_units, three_units, no_width, as_narrow, seen_once, seen_twice, reach_is, spread_is, low_product}
use Rattle.flux_moments.proofs.TotalWidths.{list_reached, strip_reached}

-- the same nodes between the same ends
pub same_place : (P : ℤ → ℤ → List Node → Type 0) {first last first' last' : ℤ} {nodes nodes' : List Node} → first ≡ first' → last ≡ last' → nodes ≡ nodes' → P first last nodes → P first' last' nodes'
same_place P {first} {last} {first'} {last'} {nodes} {nodes'} e f g h = subst (λ (ns : List Node). P first' last' ns) g
    (subst (λ (z : ℤ). P first' z nodes) f (subst (λ (z : ℤ). P z last nodes) e h))

-- 0 in a span of 0 alone
pub holds_nothing : {lo hi : ℤ} {x : Fraction} (k : ℕ) → (lo ≡ pos 0) × (hi ≡ pos 0) → x ≡ nought → ContainsFraction 20 lo hi (x ⊗ whole (pos k))
holds_nothing {lo} {hi} {x} k e none = rw (e.0, e.1) (subst (λ (y : Fraction). ContainsFraction 20 (pos 0) (pos 0) y) nothing (contains_whole 20 (pos 0)))
  where
    nothing : whole (pos 0) ≡ x ⊗ whole (pos k)
    nothing = whole-nought ∙ ring fraction_ring (whole (pos k) ∷ []) (number 0) (number 0 :* var 0) refl ∙ ap (λ y. y ⊗ whole (pos k)) (sym none)

pub holds_times : {lo hi : ℤ} {x y : Fraction} (k : ℕ) → y ≡ x → ContainsFraction 20 lo hi (x ⊗ whole (pos k)) → ContainsFraction 20 lo hi (y ⊗ whole (pos k))
holds_times {lo} {hi} k e h = subst (λ (z : Fraction). ContainsFraction 20 lo hi (z ⊗ whole (pos k))) (sym e) h

-- columns by other names
pub holds_columns : {lo hi : ℤ} {x : Fraction} (k : ℕ) (Q : ℤ → ℤ → List Face → Fraction) {first last first' last' : ℤ} {fs gs : List Face} → first ≡ first' → last ≡ last' → fs ≡ gs
    → Q first' last' gs ≡ x → ContainsFraction 20 lo hi (Q first last fs ⊗ whole (pos k)) → ContainsFraction 20 lo hi (x ⊗ whole (pos k))
holds_columns k Q e f g is h = holds_times k (sym (renamed Q e f g ∙ is)) h

module _ (stations : List Station) (hull : IsHull stations) (faces : Faces) (are : AreFacesOf stations faces) (n : ℕ) (less : n < strip_count faces)
    (plane : Waterplane) (planes : PlaneBox) (is : IsIn planes plane) {first last : ℤ} {nodes : List Node} (e : first ≡ faces.first_x) (f : last ≡ faces.last_x)
    (same : nodes ≡ strip_nodes faces n) where
  pub nothing_held : AllByRecursion (IsOut planes first last) nodes → HasNothingSubmerged plane stations (strip_at stations n)
  nothing_held out = dry stations hull faces are n less plane planes is (same_place (λ first last nodes. AllByRecursion (IsOut planes first last) nodes) e f same out)

  module _ (under : AllByRecursion (IsUnder planes first last) nodes) (t : Totals) (totals : t ≡ total faces n (n + 1)) where
    placed_under : AllByRecursion (IsUnder planes faces.first_x faces.last_x) (strip_nodes faces n)
    placed_under = same_place (λ first last nodes. AllByRecursion (IsUnder planes first last) nodes) e f same under

    pub whole_volume : {lo hi : ℤ} → ContainsFraction 20 lo hi (whole t.six ⊗ inverse (whole (pos 3))) → ContainsFraction 20 lo hi (strip_volume plane stations (strip_at stations n) ⊗ whole (pos 2))
    whole_volume {lo} {hi} h = holds_times 2 (wet_volume stations hull faces are n less plane planes is placed_under t totals)
        (subst (λ (x : Fraction). ContainsFraction 20 lo hi x) (sym (quotient_times (whole t.six) 6 2 3 (omega arith) (omega arith) (whole-mul (pos 3) (pos 2)))) h)

    pub whole_mx : {lo hi : ℤ} → ContainsFraction 20 lo hi (whole t.mx24 ⊗ inverse (whole (pos 12))) → ContainsFraction 20 lo hi (strip_integral plane stations (λ p. p.x) (strip_at stations n) ⊗ whole (pos 2))
    whole_mx {lo} {hi} h = holds_times 2 (wet_mx stations hull faces are n less plane planes is placed_under t totals)
        (subst (λ (x : Fraction). ContainsFraction 20 lo hi x) (sym (quotient_times (whole t.mx24) 24 2 12 (omega arith) (omega arith) (whole-mul (pos 12) (pos 2)))) h)

    turned : (k r m i : Fraction) → k ⊗ (m ⊗ i) ⊗ r ≡ ((k ⊗ r) ⊗ m) ⊗ i
    turned k r m i = ring fraction_ring (k ∷ r ∷ m ∷ i ∷ []) ((var 0 :* (var 2 :* var 3)) :* var 1) (((var 0 :* var 1) :* var 2) :* var 3) refl

    pub whole_mv : {lo hi : ℤ} → ContainsFraction 20 lo hi (((whole (pos plane.s) ⊗ inverse (whole (pos plane.r))) ⊗ whole t.mz24) ⊗ inverse (whole (pos 12)))
        → ContainsFraction 20 lo hi (strip_integral plane stations (side_distance plane) (strip_at stations n) ⊗ whole (pos 2))
    whole_mv {lo} {hi} h = holds_times 2 (wet_mv stations hull faces are n less plane planes is placed_under t totals ∙ turned (whole (pos plane.s)) (inverse (whole (pos plane.r))) (whole t.mz24) (inverse (whole (pos 24))))
        (subst (λ (x : Fraction). ContainsFraction 20 lo hi x) (sym (quotient_times ((whole (pos plane.s) ⊗ inverse (whole (pos plane.r))) ⊗ whole t.mz24) 24 2 12 (omega arith) (omega arith) (whole-mul (pos 12) (pos 2)))) h)

    pub whole_mu : {lo hi : ℤ} → ContainsFraction 20 lo hi (((whole (pos plane.c) ⊗ inverse (whole (pos plane.r))) ⊗ whole t.mz24) ⊗ inverse (whole (pos 6)))
        → ContainsFraction 20 lo hi (strip_integral plane stations (height plane) (strip_at stations n) ⊗ whole (pos 4))
    whole_mu {lo} {hi} h = holds_times 4 (wet_mu stations hull faces are n less plane planes is placed_under t totals ∙ turned (whole (pos plane.c)) (inverse (whole (pos plane.r))) (whole t.mz24) (inverse (whole (pos 24))))
        (subst (λ (x : Fraction). ContainsFraction 20 lo hi x) (sym (quotient_times ((whole (pos plane.c) ⊗ inverse (whole (pos plane.r))) ⊗ whole t.mz24) 24 4 6 (omega arith) (omega arith) (whole-mul (pos 6) (pos 4)))) h)

-- ---- the ends
seen_small : (fs : List Face) → AllByRecursion IsFace fs → seen_from_side fs ≤ length fs * 2 ^ 36
seen_small [] all = omega arith
seen_small (f ∷ fs) all = omega (arith, (areas_below f all.0).0, seen_small fs all.1)

-- a strip's share of what bounds its moment of height
abbrev pub most_of : Faces → ℕ → ℕ
most_of faces n = side_area faces n * (unsigned_abs faces.half_breadth * unsigned_abs faces.high_z)

most_small : (a b c k : ℕ) → a ≤ k * 2 ^ 36 → b ≤ 65535 → c ≤ 65535 → a * (b * c) ≤ k * 2 ^ 68
most_small a b c k h i j = omega (arith, mul-le-mul h (mul-le-mul i j))

pub strip_most_small : (faces : Faces) (n : ℕ) → AllByRecursion IsFace (strip_faces faces n) → most_of faces n ≤ length (strip_faces faces n) * 2 ^ 68
strip_most_small faces n all = most_small (side_area faces n) (unsigned_abs faces.half_breadth) (unsigned_abs faces.high_z) (length (strip_faces faces n)) (seen_small (strip_faces faces n) all)
    (omega (arith, ints, faces.reach.broad, faces.reach.breadth_limit)) (omega (arith, ints, faces.reach.above_base, faces.reach.height_limit))

pub whole_ends : (most faces : ℕ) (w : Wet) → most ≤ faces * 2 ^ 68 → AreEndsAtMost (2 ^ 83) (2 ^ 102) (most * 2 ^ 20 + 1) ((2 * most) * 2 ^ 20 + 1) w → AreStripEnds faces 1 w
whole_ends most faces w small h = record {
  volume = record { low = omega (arith, h.volume.low); high = omega (arith, h.volume.high) };
  mx = record { low = omega (arith, h.mx.low); high = omega (arith, h.mx.high) };
  mv = record { low = omega (arith, small, h.mv.low); high = omega (arith, small, h.mv.high) };
  mu = record { low = omega (arith, small, h.mu.low); high = omega (arith, small, h.mu.high) };
}

pub cut_ends : (faces : ℕ) (w : Wet) → AreColumnEnds faces w → AreStripEnds faces 1 w
cut_ends faces w h = record {
  volume = record { low = omega (arith, h.volume.low); high = omega (arith, h.volume.high) };
  mx = record { low = omega (arith, h.mx.low); high = omega (arith, h.mx.high) };
  mv = record { low = omega (arith, h.mv.low); high = omega (arith, h.mv.high) };
  mu = record { low = omega (arith, h.mu.low); high = omega (arith, h.mu.high) };
}

-- of the volume alone
pub whole_end : (faces : ℕ) {lo hi : ℤ} → EndsAtMost (2 ^ 83) lo hi → EndsAtMost (most_volume faces 1) lo hi
whole_end faces h = record { low = omega (arith, h.low); high = omega (arith, h.high) }

pub cut_end : (faces : ℕ) {lo hi : ℤ} → EndsAtMost (faces * (7 * 2 ^ 75)) lo hi → EndsAtMost (most_volume faces 1) lo hi
cut_end faces h = record { low = omega (arith, h.low); high = omega (arith, h.high) }

-- ---- the widths
module _ (faces : Faces) (planes : PlaneBox) (n : ℕ) where
  abbrev h : Fraction
  h = reach_of faces planes

  abbrev s : Fraction
  s = spread (size_of planes) h

  abbrev fs : List Face
  fs = strip_faces faces n

  abbrev over : (Face → Fraction) → Fraction
  over g = sum_over g fs

  abbrev AreWidths : Wet → Type 0
  AreWidths = AreStripWidths over 1 (whole faces.last_x) h s

  far : sign (whole faces.last_x) ≢ below
  far = Order.nonnegative_from fractions (Order.≼_trans fractions (Order.≼_same fractions (sym whole-nought)) (whole-≼ faces.ends.last_within.0))

  volumes : sign (over (λ f. volume_part s (doubled_area f))) ≢ below
  volumes = nonnegative_sum _ (nonnegative_volume s (spread_is faces planes)) fs

  lengths : sign (over (λ f. length_part (whole faces.last_x) s (doubled_area f))) ≢ below
  lengths = nonnegative_sum _ (nonnegative_length s (spread_is faces planes) (whole faces.last_x) far) fs

  heights : sign (over (λ f. height_part h s (doubled_area f))) ≢ below
  heights = nonnegative_sum _ (nonnegative_height s (spread_is faces planes) h (reach_is faces planes)) fs

  pub dry_widths : (w : Wet) → AllFields (λ s. (s.lo ≡ pos 0) × (s.hi ≡ pos 0)) w → AreWidths w
  dry_widths w e = record { volume = no_width _ volumes e.0; mx = no_width _ lengths e.1; mv = no_width _ heights e.2; mu = no_width _ heights e.3 }

  pub dry_volume : {lo hi : ℤ} → (lo ≡ pos 0) × (hi ≡ pos 0) → IsNarrow 20 (over (λ f. volume_part s (doubled_area f)) ⊕ whole (pos 1) ⊗ units 20 3) lo hi
  dry_volume e = no_width _ volumes e

  pub whole_volume_width : {lo hi : ℤ} → IsNarrow 20 (units 20 2) lo hi → IsNarrow 20 (over (λ f. volume_part s (doubled_area f)) ⊕ whole (pos 1) ⊗ units 20 3) lo hi
  whole_volume_width w = narrow-wider (two_units _ volumes) w

  pub whole_mx_width : {lo hi : ℤ} → IsNarrow 20 (units 20 2) lo hi → IsNarrow 20 (over (λ f. length_part (whole faces.last_x) s (doubled_area f)) ⊕ whole (pos 1) ⊗ units 20 3) lo hi
  whole_mx_width w = narrow-wider (two_units _ lengths) w

  pub whole_mv_width : {lo hi : ℤ} → IsNarrow 20 ((size_of planes).turn ⊗ whole (pos (most_of faces n)) ⊕ units 20 3) lo hi
      → IsNarrow 20 (over (λ f. height_part h s (doubled_area f)) ⊕ whole (pos 1) ⊗ units 20 3) lo hi
  whole_mv_width w = narrow-wider (three_units _ _ (seen_once h s (reach_is faces planes) (spread_is faces planes) (size_of planes).turn
      (unsigned_abs faces.half_breadth * unsigned_abs faces.high_z) fs (low_product faces planes))) w

  pub whole_mu_width : {lo hi : ℤ} → IsNarrow 20 ((size_of planes).turn ⊗ whole (pos (2 * most_of faces n)) ⊕ units 20 3) lo hi
      → IsNarrow 20 (over (λ f. height_part h s (doubled_area f)) ⊕ whole (pos 1) ⊗ units 20 3) lo hi
  whole_mu_width w = narrow-wider (three_units _ _ (seen_twice h s (reach_is faces planes) (spread_is faces planes) (size_of planes).turn
      (unsigned_abs faces.half_breadth * unsigned_abs faces.high_z) fs (low_product faces planes))) w

  -- by the columns of the strip's faces
  module _ {list : List Face} (same : list ≡ fs) (limits : AllByRecursion IsFace list) (inside : LieInside faces.half_breadth faces.high_z list) where
    reached : AreReached planes list (size_of planes) h
    reached = list_reached faces planes list limits inside

    pub cut_widths : (w : Wet) {last : ℤ} → last ≡ faces.last_x → ((b : BoxSize) (h : Fraction) → AreReached planes list b h → AreSumWidths (whole last) h (spread b h) list w) → AreWidths w
    cut_widths w {last} e widths = record {
      volume = as_narrow _ here.volume;
      mx = as_narrow _ here.mx;
      mv = as_narrow _ here.mv;
      mu = as_narrow _ here.mu;
    }
      where
        here : AreSumWidths (whole faces.last_x) h s fs w
        here = subst (λ (gs : List Face). AreSumWidths (whole faces.last_x) h s gs w) same
            (subst (λ (z : ℤ). AreSumWidths (whole z) h s list w) e (widths (size_of planes) h reached))

    pub cut_volume_width : {lo hi : ℤ} → ((b : BoxSize) (h : Fraction) → AreReached planes list b h → IsNarrow 20 (sum_over (λ f. volume_part (spread b h) (doubled_area f)) list) lo hi)
        → IsNarrow 20 (over (λ f. volume_part s (doubled_area f)) ⊕ whole (pos 1) ⊗ units 20 3) lo hi
    cut_volume_width {lo} {hi} narrow = as_narrow _ (subst (λ (gs : List Face). IsNarrow 20 (sum_over (λ f. volume_part s (doubled_area f)) gs) lo hi) same (narrow (size_of planes) h reached))

-- ---- strips that are clear
both_all : {A : Type 0} (P Q : A → Type 0) (xs : List A) → AllByRecursion P xs → AllByRecursion Q xs → AllByRecursion (λ x. P x × Q x) xs
both_all P Q [] p q = tt
both_all P Q (x ∷ xs) p q = ((p.0, q.0), both_all P Q xs p.1 q.1)

pub far_nodes : (faces : Faces) (planes : PlaneBox) (n : ℕ) {first last : ℤ} {nodes : List Node} → first ≡ faces.first_x → last ≡ faces.last_x → nodes ≡ strip_nodes faces n
    → AllByRecursion IsNode nodes → AllByRecursion (IsInside faces.half_breadth faces.high_z) nodes → IsClear faces planes n
    → AllByRecursion (IsFarUnder planes first last (size_of planes) (reach_of faces planes)) nodes ⊎ AllByRecursion (IsFarOut planes first last (size_of planes) (reach_of faces planes)) nodes
far_nodes faces planes n {first} {last} {nodes} e f same limits inside clear = elim clear [
  | inl under ↦ inl (both_all (Reaches (size_of planes) (reach_of faces planes)) (IsUnderBy planes first last (margin (size_of planes) (reach_of faces planes))) nodes reached (same_place (λ first last nodes. AllByRecursion (IsUnderBy planes first last (margin (size_of planes) (reach_of faces planes))) nodes) (sym e) (sym f) (sym same) under))
  | inr out ↦ inr (both_all (Reaches (size_of planes) (reach_of faces planes)) (IsOutBy planes first last (margin (size_of planes) (reach_of faces planes))) nodes reached (same_place (λ first last nodes. AllByRecursion (IsOutBy planes first last (margin (size_of planes) (reach_of faces planes))) nodes) (sym e) (sym f) (sym same) out))
]
  where
    reached : AllByRecursion (Reaches (size_of planes) (reach_of faces planes)) nodes
    reached = strip_reached faces planes nodes limits inside

pub three_at_most : {lo hi : ℤ} → IsNarrow 20 (units 20 2) lo hi → IsNarrow 20 (units 20 3) lo hi
three_at_most h = narrow-wider (order_from fractions (unit_of 20 ∷ []) ((unit, number 0, var 0) ∷ []) (at_most (Order.nought-≼ fractions (nonnegative-unit_of 20)) no_more)
    (number 2 :* var 0) (number 3 :* var 0) refl) h

pub nothing_narrow : {lo hi : ℤ} → (lo ≡ pos 0) × (hi ≡ pos 0) → IsNarrow 20 (units 20 3) lo hi
nothing_narrow e = none_narrow (units 20 3) (Order.nonnegative-mul fractions (Order.nonnegative-number fractions 3) (nonnegative-unit_of 20)) e
