-- How large a box of planes is and how far its corners reach, and how wide the columns of a face are by these.
use Rattle.std.specs.Prelude.{◌≡◌, ◌≢◌, ◌+◌, ◌^◌, ℤ, pos, List}
use Rattle.std.specs.List.{AllByRecursion}
use Rattle.std.specs.Int.RustNames.{unsigned_abs}
use Rattle.exact_algebra.specs.OrderedField.{below}
use Rattle.exact_algebra.proofs.Fraction.{Fraction, one, ◌⊕◌, ◌⊗◌, sign, ◌≼◌}
use Rattle.exact_algebra.proofs.Whole.{whole}
use Rattle.hull_model.specs.declared.face.Face.{Face}
use Rattle.hull_model.specs.declared.node.Node.{Node}
use Rattle.outward_interval.specs.declared.span.Span.{Span}
use Rattle.outward_interval.specs.Widths.{unit_of, units, IsNarrow, IsNear}
use Rattle.flux_moments.specs.declared.plane_box.PlaneBox.{PlaneBox}

-- how far apart the levels of a box lie, how wide its spans of cosine and sine are, and how far its levels lie from 0
pub record BoxSize : Type 0 where
  pub rise : Fraction
  pub turn : Fraction
  pub level : Fraction

-- none of these is more
pub record HasSize (planes : PlaneBox) (b : BoxSize) : Type 0 where
  pub aft : IsNarrow 10 b.rise planes.a1 planes.a2
  pub fore : IsNarrow 10 b.rise planes.f1 planes.f2
  pub cosine : IsNarrow 40 b.turn planes.bracket.c.lo planes.bracket.c.hi
  pub sine : IsNarrow 40 b.turn planes.bracket.s.lo planes.bracket.s.hi
  pub aft_level : IsNear 10 b.level planes.a1 planes.a2
  pub fore_level : IsNear 10 b.level planes.f1 planes.f2
  pub at_most_one : b.turn ≼ one

-- a box of upright planes, of one level everywhere, from d1 to d2
pub record IsLevelBox (planes : PlaneBox) (d1 d2 : ℤ) : Type 0 where
  pub aft : (planes.a1 ≡ d1) × (planes.a2 ≡ d2)
  pub fore : (planes.f1 ≡ d1) × (planes.f2 ≡ d2)
  pub cosine : (planes.bracket.c.lo ≡ pos (2 ^ 40)) × (planes.bracket.c.hi ≡ pos (2 ^ 40))
  pub sine : (planes.bracket.s.lo ≡ pos 0) × (planes.bracket.s.hi ≡ pos 0)

-- a node's distance from the centreplane and its height, together
abbrev pub distance : Node → Fraction
distance n = whole (pos (unsigned_abs n.z + unsigned_abs n.y))

-- h is at least how far a level lies from 0 and this distance, together
abbrev pub Reaches : BoxSize → Fraction → Node → Type 0
Reaches b h n = b.level ⊕ distance n ≼ h

-- how far the depths of a node that is reached lie apart over the box
abbrev pub spread : BoxSize → Fraction → Fraction
spread b h = b.rise ⊕ b.turn ⊗ h

-- so far under water or above it a node is known to be by the spans of its depth
abbrev pub margin : BoxSize → Fraction → Fraction
margin b h = b.turn ⊗ h ⊕ unit_of 16

-- neither the span of a corner's depth nor that of level and height together is wider than s or farther from 0 than h, but for the rounding
pub record IsElevationSize (s h : Fraction) (depth middle : Span 20) : Type 0 where
  pub depth_width : IsNarrow 20 (s ⊕ units 20 4) depth.lo depth.hi
  pub depth_reach : IsNear 20 (h ⊕ units 20 2) depth.lo depth.hi
  pub middle_width : IsNarrow 20 (s ⊕ units 20 4) middle.lo middle.hi
  pub middle_reach : IsNear 20 (h ⊕ units 20 2) middle.lo middle.hi

-- no span of a corner is
pub record IsCornerSize (s h : Fraction) (depth side middle : Span 20) : Type 0 where
  pub depth_width : IsNarrow 20 (s ⊕ units 20 4) depth.lo depth.hi
  pub depth_reach : IsNear 20 (h ⊕ units 20 2) depth.lo depth.hi
  pub side_width : IsNarrow 20 (s ⊕ units 20 4) side.lo side.hi
  pub side_reach : IsNear 20 (h ⊕ units 20 2) side.lo side.hi
  pub middle_width : IsNarrow 20 (s ⊕ units 20 4) middle.lo middle.hi
  pub middle_reach : IsNear 20 (h ⊕ units 20 2) middle.lo middle.hi

-- the magnitudes of a face's doubled areas as they are seen from the side and from above, together
abbrev pub doubled_area : Face → Fraction
doubled_area f = whole (pos (unsigned_abs f.ay + unsigned_abs f.az))

-- a box no larger than b, and faces whose corners are reached by h, which is 1 at least
pub record AreReached (planes : PlaneBox) (faces : List Face) (b : BoxSize) (h : Fraction) : Type 0 where
  pub size : HasSize planes b
  pub some : one ≼ h
  pub reached : AllByRecursion (λ f. AllByRecursion (Reaches b h) f.p) faces

-- the spread s, the reach h, the doubled area a, and the width e of cosine and sine
pub record AreSizes (s h a e : Fraction) : Type 0 where
  pub spread : sign s ≢ below
  pub some : one ≼ h
  pub area : sign a ≢ below
  pub turn : sign e ≢ below
  pub at_most_one : e ≼ one
  pub turned : e ⊗ h ≼ s

-- ---- with s for the spread, h for the reach, a for the doubled area, e for the width of cosine and sine
-- a mean of width w, no farther than m from 0, times the area as it is seen along a direction
abbrev pub column_width : (w m e a : Fraction) → Fraction
column_width w m e a = (m ⊗ (e ⊗ a) ⊕ a ⊗ w) ⊕ units 20 2

-- that times a span of width v, no farther than n from 0
abbrev pub product_width : (w m e a v n : Fraction) → Fraction
product_width w m e a v n = ((m ⊗ a ⊕ units 20 1) ⊗ v ⊕ n ⊗ column_width w m e a) ⊕ units 20 2

-- twice the volume of a face's column, the integral over it of x, which is at most x, and that of a height or a side
abbrev pub volume_part : (s a : Fraction) → Fraction
volume_part s a = a ⊗ ((s ⊕ s) ⊕ units 20 24) ⊕ units 20 2

abbrev pub length_part : (x s a : Fraction) → Fraction
length_part x s a = x ⊗ (a ⊗ ((s ⊕ s) ⊕ units 20 64) ⊕ units 20 6)

abbrev pub height_part : (h s a : Fraction) → Fraction
height_part h s a = h ⊗ ((a ⊗ (((s ⊕ s) ⊕ (s ⊕ s)) ⊕ units 20 64) ⊕ s) ⊕ units 20 16)
