-- Directions from 0 to 90 degrees by whole numbers, their order, and the spans of cosine and sine over a bracket of them.
use Rattle.std.specs.Prelude.{◌≡◌, ℕ, ◌+◌, ◌*◌, ◌^◌, ◌≤◌, ◌⊎◌, ℤ, pos, ◌*ℤ◌, ◌≤ℤ◌}
use Rattle.exact_algebra.specs.Span.{ContainsRatio, IsFloor, IsCeiling}

-- the direction with the cosine c / r and the sine s / r
pub record IsDirection (c s r : ℕ) : Type 0 where
  pub square : c * c + s * s ≡ r * r
  pub positive : 1 ≤ r

-- a direction that a triple has
pub record IsTriple (c s r : ℕ) : Type 0 where
  pub direction : IsDirection c s r
  pub most : r ≤ 2 ^ 49

-- the first direction is at most the second, by cross products: neither is past 90 degrees
abbrev pub IsAtMost : (c s c' s' : ℕ) → Type 0
IsAtMost c s c' s' = s * c' ≤ s' * c

-- lo and hi are the ends of the least span of scale F that contains n / d and m / e, of which the first is the lesser
pub record IsLeastSpanOver (F : ℕ) (lo hi : ℤ) (n d m e : ℕ) : Type 0 where
  pub low : IsFloor (pos n *ℤ pos (2 ^ F)) d lo
  pub high : IsCeiling (pos m *ℤ pos (2 ^ F)) e hi

-- a bracket from one direction to another, with spans of scale F of the cosine, which falls, and of the sine, which rises
pub record IsBracket (F : ℕ) (c s r c' s' r' : ℕ) (c_lo c_hi s_lo s_hi : ℤ) : Type 0 where
  pub ordered : IsAtMost c s c' s'
  pub cosine : IsLeastSpanOver F c_lo c_hi c' r' c r
  pub sine : IsLeastSpanOver F s_lo s_hi s r s' r'

-- the direction lies in the bracket from one direction to another
pub record IsDirectionWithin (c s c' s' x y : ℕ) : Type 0 where
  pub from : IsAtMost c s x y
  pub to : IsAtMost x y c' s'

-- ---- laws
-- directions are in one order
pub record DirectionsAreOrdered : Type 0 where
  pub total : (c s x y : ℕ) → IsAtMost c s x y ⊎ IsAtMost x y c s
  pub transitive : (c s r x y z c' s' r' : ℕ) → IsDirection c s r → IsDirection x y z → IsDirection c' s' r' → IsAtMost c s x y → IsAtMost x y c' s' → IsAtMost c s c' s'

-- the cosine and the sine of each direction in a bracket lie in its spans
abbrev pub SpansContainEachDirection : Type 0
SpansContainEachDirection = (F c s r c' s' r' x y z : ℕ) (c_lo c_hi s_lo s_hi : ℤ)
    → IsDirection c s r → IsDirection c' s' r' → IsBracket F c s r c' s' r' c_lo c_hi s_lo s_hi
    → IsDirection x y z → IsDirectionWithin c s c' s' x y
    → ContainsRatio F c_lo c_hi (pos x) z × ContainsRatio F s_lo s_hi (pos y) z

-- no span that contains the cosine of each direction in a bracket is narrower than the bracket's, and so for the sine
abbrev pub SpansAreLeast : Type 0
SpansAreLeast = (F c s r c' s' r' : ℕ) (c_lo c_hi s_lo s_hi lo hi : ℤ)
    → IsDirection c s r → IsDirection c' s' r' → IsBracket F c s r c' s' r' c_lo c_hi s_lo s_hi
    → (((x y z : ℕ) → IsDirection x y z → IsDirectionWithin c s c' s' x y → ContainsRatio F lo hi (pos x) z) → (lo ≤ℤ c_lo) × (c_hi ≤ℤ hi))
    × (((x y z : ℕ) → IsDirection x y z → IsDirectionWithin c s c' s' x y → ContainsRatio F lo hi (pos y) z) → (lo ≤ℤ s_lo) × (s_hi ≤ℤ hi))
