-- How wide the spans of a row of the hydrostatic table may be.
use Rattle.std.specs.Prelude.{ℕ, ◌*◌, ◌^◌, ℤ, pos, ◌+ℤ◌, ◌-ℤ◌, length, max, Option, IfSome}
use Rattle.std.specs.Int.RustNames.{unsigned_abs}
use Rattle.exact_algebra.proofs.Fraction.{Fraction, ◌⊕◌, ◌⊗◌, inverse}
use Rattle.exact_algebra.proofs.Span.{ContainsFraction}
use Rattle.exact_algebra.proofs.Whole.{whole}
use Rattle.hull_model.specs.declared.water.Water.{Water}
use Rattle.hull_model.specs.Fractions.{magnitude, sum_over}
use Rattle.hull_polyhedron.specs.declared.faces.Faces.{Faces}
use Rattle.outward_interval.specs.Ends.{least_product, greatest_product}
use Rattle.outward_interval.specs.Widths.{unit_of, IsNarrow}
use Rattle.outward_interval.specs.declared.span.Span.{Span}
use Rattle.flux_moments.specs.Widths.{half_areas, area_above}
use Rattle.hydro_tables.specs.Figures as figure
use Rattle.hydro_tables.specs.Figures.{Integrals, ◌over◌}
use Rattle.hydro_tables.specs.declared.row.HydroRow.{HydroRow}

-- ---- the integrals at the upright level plane of a draft, where neither the level nor the direction has a width
module _ (faces : Faces) (draft : ℕ) where
  -- the greatest x and the greatest half-breadth; the draft, the greatest height and the greatest half-breadth, together
  abbrev pub last : Fraction
  last = whole faces.last_x

  abbrev pub breadth : Fraction
  breadth = whole faces.half_breadth

  abbrev pub reach : Fraction
  reach = whole (pos draft) ⊕ whole (faces.high_z +ℤ faces.half_breadth)

  -- of the volume: eight times half the doubled areas of the faces and 2^17 mm², times 2^-16 mm
  unfoldable pub volume_width : Fraction
  volume_width = (whole (pos 8) ⊗ (half_areas faces.list ⊕ whole (pos (2 ^ 17)))) ⊗ unit_of 16

  -- of the lid's area: half the doubled areas seen from above times 2^-32, and 2^-18 mm² for each face
  unfoldable pub area_width : Fraction
  area_width = sum_over (λ f. (area_above f ⊗ inverse (whole (pos 2))) ⊗ unit_of 32) faces.list ⊕ whole (pos (length faces.list)) ⊗ unit_of 18

  -- for each integral, how wide its span may be
  abbrev pub widths_of : Integrals
  widths_of = record {
    volume = volume_width;
    mx = last ⊗ volume_width;
    mu = reach ⊗ volume_width;
    area = area_width;
    sx = last ⊗ area_width;
    syy = (breadth ⊗ breadth) ⊗ area_width;
    sxx = (last ⊗ last) ⊗ area_width;
  }

-- ---- the figures
-- z units of 2^-F
abbrev pub in_unit : ℕ → ℤ → Fraction
in_unit F z = whole z ⊗ unit_of F

-- the ends and the width of a span, and the greatest magnitude of its ends
abbrev pub lower : Span 20 → Fraction
lower s = in_unit 20 s.lo

abbrev pub upper : Span 20 → Fraction
upper s = in_unit 20 s.hi

abbrev pub width_of : Span 20 → Fraction
width_of s = in_unit 20 (s.hi -ℤ s.lo)

abbrev pub farthest : Span 20 → Fraction
farthest s = in_unit 20 (pos (max (unsigned_abs s.lo) (unsigned_abs s.hi)))

-- how far the products of two spans lie apart
abbrev pub product_range : Span 20 → Span 20 → Fraction
product_range a b = in_unit 40 (greatest_product a.lo a.hi b.lo b.hi -ℤ least_product a.lo a.hi b.lo b.hi)

-- of a quotient: the width of what is divided, and that of the divisor times the exact quotient, over the divisor's lower end
abbrev pub quotient_width : (dividend divisor exact : Fraction) → Span 20 → Fraction
quotient_width dividend divisor exact by = (dividend ⊕ magnitude exact ⊗ divisor) over lower by

-- of the longitudinal inertia, where the centre of the waterplane lies no farther than e and its area is at most t
abbrev pub inertia_width : Integrals → (e t : Fraction) → Fraction
inertia_width w e t = whole (pos 8) ⊗ (((w.sxx ⊕ (whole (pos 2) ⊗ e) ⊗ w.sx) ⊕ (e ⊗ e) ⊗ w.area) ⊕ (e ⊗ t) ⊗ unit_of 16)

-- a span no wider than w and 2^-16
abbrev pub IsWithin : Fraction → Span 20 → Type 0
IsWithin w s = IsNarrow 20 (w ⊕ unit_of 16) s.lo s.hi

abbrev pub IsWithinIfThere : Fraction → Option (Span 20) → Type 0
IsWithinIfThere w s = IfSome s (IsWithin w)

-- the quotient of a moment by a divisor, by how wide these are and what they hold
abbrev pub IsQuotientNarrow : (moment divisor quotient : Span 20) → Type 0
IsQuotientNarrow moment divisor quotient = (w v x y : Fraction) → IsNarrow 20 w moment.lo moment.hi → IsNarrow 20 v divisor.lo divisor.hi
    → ContainsFraction 20 moment.lo moment.hi x → ContainsFraction 20 divisor.lo divisor.hi y → IsWithin (quotient_width w v (x over y) divisor) quotient

-- each span of a row, by how wide those of the integrals may be and by the exact integrals
pub record AreNarrow (w i : Integrals) (water : Water) (row : HydroRow) : Type 0 where
  pub volume : IsNarrow 20 w.volume row.volume.lo row.volume.hi
  pub displacement : IsWithin (width_of row.volume ⊗ (whole (pos water.density) over whole (pos (10 ^ 12)))) row.displacement
  pub lcb : IsWithinIfThere (quotient_width w.mx w.volume (figure.lcb i) row.volume) row.lcb
  pub kb : IsWithinIfThere (quotient_width w.mu w.volume (figure.kb i) row.volume) row.kb
  pub area : IsNarrow 20 w.area row.area.lo row.area.hi
  pub lcf : IsWithinIfThere (quotient_width w.sx w.area (figure.lcf i) row.area) row.lcf
  pub bmt : IsWithinIfThere (quotient_width w.syy w.volume (figure.bmt i) row.volume) row.bmt
  pub bml : IfSome row.lcf (λ lcf. IsWithinIfThere (quotient_width (inertia_width w (farthest lcf) (upper row.area)) w.volume (figure.bml i) row.volume) row.bml)
  pub kmt : IfSome row.kb (λ kb. IfSome row.bmt (λ bmt. IsWithinIfThere (width_of kb ⊕ width_of bmt) row.kmt))
  pub tpc : IsWithin (width_of row.area ⊗ (whole (pos water.density) over whole (pos (10 ^ 11)))) row.tpc
  pub mct : IfSome row.bml (λ bml. IsWithinIfThere (product_range row.displacement bml over whole (pos (100 * water.length_bp))) row.mct)
