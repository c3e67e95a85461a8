-- Laws of means over the wet part of a triangle.
use Rattle.std.specs.Prelude.{◌≡◌, ◌≢◌, ◌⊎◌}
use Rattle.exact_algebra.specs.OrderedField.{below, above}
use Rattle.exact_algebra.proofs.Fraction.{Fraction, nought, one, ◌⊕◌, ◌⊗◌, ◌⊖◌, sign, ◌≼◌}
use Rattle.hull_model.specs.Fractions.{sum_over}
use Rattle.hull_model.specs.TriangleCut.{Triangle, triangle, kept_pieces}
use Rattle.hull_model.specs.WetMean.{Place, places, with_depths, share_of, wet_mean, wet_depth}

-- the sum over a triangle's kept pieces of share times mean, which for the whole triangle is the wet mean
unfoldable pub wet_part : (Triangle Place → Fraction) → Triangle Place → Fraction
wet_part mean t = sum_over (λ p. share_of p ⊗ mean p) (kept_pieces places t)

abbrev pub between : Fraction → Place → Place → Place
between t p q = places.between t p q

abbrev pub NoneBelow : Triangle Place → Type 0
NoneBelow t = (sign t.a.depth ≢ below) × (sign t.b.depth ≢ below) × (sign t.c.depth ≢ below)

abbrev pub NoneAbove : Triangle Place → Type 0
NoneAbove t = (sign t.a.depth ≢ above) × (sign t.b.depth ≢ above) × (sign t.c.depth ≢ above)

abbrev pub SomeAbove : Triangle Place → Type 0
SomeAbove t = (sign t.a.depth ≡ above) ⊎ (sign t.b.depth ≡ above) ⊎ (sign t.c.depth ≡ above)

-- t is the part of an edge from the depth h to the depth k that lies before its point of depth 0
abbrev pub IsCrossingAt : Fraction → Fraction → Fraction → Type 0
IsCrossingAt t h k = t ⊗ (h ⊖ k) ≡ h

-- the part of a triangle at its first corner, up to the parts t and s of the edges to the second and the third
abbrev pub tip : Fraction → Fraction → Triangle Place → Triangle Place
tip t s w = triangle w.a (between t w.a w.b) (between s w.a w.c)

-- what holds of the mean of a function over the wet part
pub record ObeysLaws (mean : Triangle Place → Fraction) : Type 0 where
  -- over the whole triangle the sum is the wet mean
  pub whole : (h k l : Fraction) → wet_part mean (with_depths h k l) ≡ wet_mean mean h k l
  -- a split at any point of any edge leaves the sum as it was
  pub split_first : (t : Fraction) (a b c : Place) → nought ≼ t → t ≼ one → wet_part mean (triangle a b c) ≡ wet_part mean (triangle a (between t a b) c) ⊕ wet_part mean (triangle (between t a b) b c)
  pub split_middle : (t : Fraction) (a b c : Place) → nought ≼ t → t ≼ one → wet_part mean (triangle a b c) ≡ wet_part mean (triangle a b (between t a c)) ⊕ wet_part mean (triangle (between t a c) b c)
  pub split_last : (t : Fraction) (a b c : Place) → nought ≼ t → t ≼ one → wet_part mean (triangle a b c) ≡ wet_part mean (triangle a b (between t b c)) ⊕ wet_part mean (triangle a (between t b c) c)
  -- the order of the corners, and so of the edges, does not matter
  pub swapped : (a b c : Place) → wet_part mean (triangle a b c) ≡ wet_part mean (triangle b a c)
  pub turned : (a b c : Place) → wet_part mean (triangle a b c) ≡ wet_part mean (triangle a c b)
  -- all wet, and all dry
  pub all_wet : (t : Triangle Place) → NoneBelow t → SomeAbove t → wet_part mean t ≡ share_of t ⊗ mean t
  pub all_dry : (t : Triangle Place) → NoneAbove t → wet_part mean t ≡ nought
  -- one corner above depth 0, and two
  pub one_above : (t s h k l : Fraction) → sign h ≡ above → sign k ≢ above → sign l ≢ above → IsCrossingAt t h k → IsCrossingAt s h l
      → wet_mean mean h k l ≡ (t ⊗ s) ⊗ mean (tip t s (with_depths h k l))
  pub two_above : (t s h k l : Fraction) → sign h ≢ above → sign k ≡ above → sign l ≡ above → IsCrossingAt t h k → IsCrossingAt s h l
      → wet_mean mean h k l ≡ mean (with_depths h k l) ⊖ (t ⊗ s) ⊗ mean (tip t s (with_depths h k l))

-- a mean rises with the depths of the corners
abbrev pub RisesWithDepths : (Fraction → Fraction → Fraction → Fraction) → Type 0
RisesWithDepths mean = (h k l h' k' l' : Fraction) → h ≼ h' → k ≼ k' → l ≼ l' → mean h k l ≼ mean h' k' l'

-- the mean of the depth rises by at most the greatest rise of a corner's depth
abbrev pub RisesByAtMost : Type 0
RisesByAtMost = (d h k l h' k' l' : Fraction) → nought ≼ d → h' ≼ h ⊕ d → k' ≼ k ⊕ d → l' ≼ l ⊕ d → wet_depth h' k' l' ≼ wet_depth h k l ⊕ d
