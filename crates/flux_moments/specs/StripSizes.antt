-- How large and how wide the sums over the strips of a hull may be.
use Rattle.std.specs.Prelude.{ℕ, ◌+◌, ◌*◌, ◌^◌, pos}
use Rattle.exact_algebra.proofs.Fraction.{Fraction, ◌⊕◌, ◌⊗◌}
use Rattle.exact_algebra.proofs.Whole.{whole}
use Rattle.hull_model.specs.declared.face.Face.{Face}
use Rattle.outward_interval.specs.Widths.{units, IsNarrow}
use Rattle.flux_moments.specs.declared.wet.Wet.{Wet}
use Rattle.flux_moments.specs.Sizes.{doubled_area, volume_part, length_part, height_part}
use Rattle.flux_moments.specs.Wets.{AreEndsAtMost}

-- how far the ends lie from 0 at most, with so many faces in so many strips
abbrev pub most_volume : ℕ → ℕ → ℕ
most_volume faces strips = faces * (7 * 2 ^ 75) + strips * 2 ^ 83

abbrev pub AreStripEnds : ℕ → ℕ → Wet → Type 0
AreStripEnds faces strips = AreEndsAtMost (most_volume faces strips) (faces * (5 * 2 ^ 97) + strips * 2 ^ 102) (faces * (5 * 2 ^ 95) + strips) (faces * (41 * 2 ^ 95) + strips)

-- how wide the sums over so many strips may be, where `over` sums over their faces: three units wider than over the faces for each strip
module _ (over : (Face → Fraction) → Fraction) (strips : ℕ) where
  abbrev pub width_of : (Face → Fraction) → Fraction
  width_of part = over part ⊕ whole (pos strips) ⊗ units 20 3

  pub record AreStripWidths (x h s : Fraction) (sums : Wet) : Type 0 where
    pub volume : IsNarrow 20 (width_of (λ f. volume_part s (doubled_area f))) sums.volume.lo sums.volume.hi
    pub mx : IsNarrow 20 (width_of (λ f. length_part x s (doubled_area f))) sums.mx.lo sums.mx.hi
    pub mv : IsNarrow 20 (width_of (λ f. height_part h s (doubled_area f))) sums.mv.lo sums.mv.hi
    pub mu : IsNarrow 20 (width_of (λ f. height_part h s (doubled_area f))) sums.mu.lo sums.mu.hi
