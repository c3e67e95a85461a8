-- How wide what is seen of faces from above may be.
use Rattle.std.specs.Prelude.{◌≡◌, ℕ, ◌*◌, ◌^◌, ℤ, pos, List}
use Rattle.exact_algebra.proofs.Fraction.{Fraction, one, ◌⊕◌, ◌⊗◌, ◌⊖◌}
use Rattle.hull_model.specs.declared.face.Face.{Face}
use Rattle.hull_model.specs.Fractions.{sum_over}
use Rattle.hull_model.specs.WetMean.{wet_share}
use Rattle.outward_interval.specs.declared.span.Span.{Span}
use Rattle.outward_interval.specs.Widths.{unit_of, units, IsNarrow}
use Rattle.plane_clip.specs.Enclosure.{mean_at, least_depths, greatest_depths}
use Rattle.flux_moments.specs.declared.lid_sums.LidSums.{LidSums}
use Rattle.flux_moments.specs.Limits.{EndsAtMost}
use Rattle.flux_moments.specs.Widths.{share_rise, area_above}

-- how far the wet share rises between the ends of three spans of depths
abbrev pub rise_between : List (Span 20) → Fraction
rise_between h = mean_at wet_share (greatest_depths h) ⊖ mean_at wet_share (least_depths h)

-- twice the integral over what is seen of a face's wet part, of a function that is at most g
abbrev pub seen_part_bound : (first last d1 d2 : ℤ) → Fraction → Face → Fraction
seen_part_bound first last d1 d2 g f = g ⊗ (area_above f ⊗ (share_rise first last d1 d2 f ⊕ unit_of 32)) ⊕ units 20 2

-- of one face, where its corners lie no farther than x from the origin and than y from the centreplane, between the levels d1 and d2
pub record AreSeenWidths (first last d1 d2 : ℤ) (x y : Fraction) (f : Face) (seen : LidSums) : Type 0 where
  pub area : IsNarrow 20 (seen_part_bound first last d1 d2 one f) seen.area.lo seen.area.hi
  pub sx : IsNarrow 20 (seen_part_bound first last d1 d2 x f) seen.sx.lo seen.sx.hi
  pub syy : IsNarrow 20 (seen_part_bound first last d1 d2 (y ⊗ y) f) seen.syy.lo seen.syy.hi
  pub sxx : IsNarrow 20 (seen_part_bound first last d1 d2 (x ⊗ x) f) seen.sxx.lo seen.sxx.hi

-- no lid: each integral is 0
abbrev pub IsNoLid : LidSums → Type 0
IsNoLid l = ((l.area.lo ≡ pos 0) × (l.area.hi ≡ pos 0)) × ((l.sx.lo ≡ pos 0) × (l.sx.hi ≡ pos 0)) × ((l.syy.lo ≡ pos 0) × (l.syy.hi ≡ pos 0)) × ((l.sxx.lo ≡ pos 0) × (l.sxx.hi ≡ pos 0))

-- how far the ends lie from 0 at most, with so many faces
pub record AreLidEnds (faces : ℕ) (l : LidSums) : Type 0 where
  pub area : EndsAtMost (faces * 2 ^ 58) l.area.lo l.area.hi
  pub sx : EndsAtMost (faces * 2 ^ 79) l.sx.lo l.sx.hi
  pub syy : EndsAtMost (faces * 2 ^ 100) l.syy.lo l.syy.hi
  pub sxx : EndsAtMost (faces * 2 ^ 100) l.sxx.lo l.sxx.hi

-- how wide the sums are, where `over` sums over the faces
pub record AreLidWidthsOver (over : (Face → Fraction) → Fraction) (first last d1 d2 : ℤ) (x y : Fraction) (sums : LidSums) : Type 0 where
  pub area : IsNarrow 20 (over (seen_part_bound first last d1 d2 one)) sums.area.lo sums.area.hi
  pub sx : IsNarrow 20 (over (seen_part_bound first last d1 d2 x)) sums.sx.lo sums.sx.hi
  pub syy : IsNarrow 20 (over (seen_part_bound first last d1 d2 (y ⊗ y))) sums.syy.lo sums.syy.hi
  pub sxx : IsNarrow 20 (over (seen_part_bound first last d1 d2 (x ⊗ x))) sums.sxx.lo sums.sxx.hi

-- over all faces of a list
abbrev pub AreLidWidths : (first last d1 d2 : ℤ) → (x y : Fraction) → List Face → LidSums → Type 0
AreLidWidths first last d1 d2 x y faces = AreLidWidthsOver (λ g. sum_over g faces) first last d1 d2 x y
