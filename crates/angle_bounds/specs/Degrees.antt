-- Whole degrees of a direction, counted by the quarter turns of its 90th power; numbers of directions, and the bracket of
-- a degree.
use Rattle.std.specs.Prelude.{◌≡◌, ℕ, zero, suc, ◌+◌, ◌-◌, ◌*◌, ◌^◌, ◌<◌, ◌≤◌, ◌⊎◌, ◌↔◌, ℤ, pos, ◌+ℤ◌, ◌-ℤ◌, ◌*ℤ◌, neg_ℤ, ◌≤ℤ◌, ◌<ℤ◌, int_le, if◌then◌else◌}
use Rattle.angle_bounds.specs.Directions.{IsDirection, IsAtMost}

-- a number re + i·im, and the quarter turns counted on the way to it
pub record Counted : Type 0 where
  pub turns : ℕ
  pub re : ℤ
  pub im : ℤ

-- times c + i·s
abbrev pub multiplied : ℤ → ℤ → Counted → Counted
multiplied c s w = record { turns = w.turns; re = (w.re *ℤ c) -ℤ (w.im *ℤ s); im = (w.re *ℤ s) +ℤ (w.im *ℤ c) }

-- where the real part is at most 0: turned back by a quarter, and one turn counted
abbrev pub turned_back : Counted → Counted
turned_back w = if int_le w.re (pos 0) then record { turns = w.turns + 1; re = w.im; im = neg_ℤ w.re } else w

-- from 1, multiplied n times by c + i·s, and turned back after each
unfoldable pub counted_power : ℕ → ℕ → ℕ → Counted
counted_power zero c s = record { turns = 0; re = pos 1; im = pos 0 }
counted_power (suc n) c s = turned_back (multiplied (pos c) (pos s) (counted_power n c s))

abbrev pub ninetieth_power : ℕ → ℕ → Counted
ninetieth_power c s = counted_power 90 c s

-- the direction with the cosine c / r and the sine s / r is at least k degrees: k turns or more were made
abbrev pub IsAtLeastDegrees : (k c s : ℕ) → Type 0
IsAtLeastDegrees k c s = k ≤ (ninetieth_power c s).turns

-- it is at most k degrees: fewer than k turns were made, or k, and the imaginary part is 0 at the end
abbrev pub IsAtMostDegrees : (k c s : ℕ) → Type 0
IsAtMostDegrees k c s = ((ninetieth_power c s).turns < k) ⊎ (((ninetieth_power c s).turns ≡ k) × ((ninetieth_power c s).im ≡ pos 0))

-- ---- numbers of directions
-- p, the number of 90 degrees
abbrev pub last_number : ℕ
last_number = 2 ^ 24

-- the direction of the number q is (p² - q², 2pq, p² + q²)
abbrev pub c_of : ℕ → ℕ
c_of q = last_number * last_number - q * q

abbrev pub s_of : ℕ → ℕ
s_of q = 2 * last_number * q

abbrev pub r_of : ℕ → ℕ
r_of q = last_number * last_number + q * q

pub record IsDirectionOf (q c s r : ℕ) : Type 0 where
  pub cosine : c ≡ c_of q
  pub sine : s ≡ s_of q
  pub radius : r ≡ r_of q

-- q is the greatest number whose direction is at most k degrees
pub record IsNumberOf (k q : ℕ) : Type 0 where
  pub last : q ≤ last_number
  pub at_most : IsAtMostDegrees k (c_of q) (s_of q)
  pub greatest : (n : ℕ) → n ≤ last_number → IsAtMostDegrees k (c_of n) (s_of n) → n ≤ q

-- ---- the bracket of a degree
-- the numbers of its ends: that of k degrees and the next, but 0 alone at 0 degrees, and p alone at 90
pub record AreBracketNumbers (k low high : ℕ) : Type 0 where
  pub at_0 : k ≡ 0 → (low ≡ 0) × (high ≡ 0)
  pub at_90 : k ≡ 90 → (low ≡ last_number) × (high ≡ last_number)
  pub between : 0 < k → k < 90 → IsNumberOf k low × (high ≡ low + 1)

-- the directions of its ends
pub record IsDegreeBracket (k c s r c' s' r' : ℕ) : Type 0 where
  pub low_number : ℕ
  pub high_number : ℕ
  pub numbers : AreBracketNumbers k low_number high_number
  pub low : IsDirectionOf low_number c s r
  pub high : IsDirectionOf high_number c' s' r'

-- ---- laws
-- (x + i·y) (c + i·s), and the power of c + i·s, without turning back
abbrev pub times : ℤ → ℤ → ℤ × ℤ → ℤ × ℤ
times c s z = ((z.0 *ℤ c) -ℤ (z.1 *ℤ s), (z.0 *ℤ s) +ℤ (z.1 *ℤ c))

abbrev pub power : ℕ → ℤ → ℤ → ℤ × ℤ
power zero c s = (pos 1, pos 0)
power (suc n) c s = times c s (power n c s)

-- x + i·y turned forward by quarters
abbrev pub turned : ℕ → ℤ × ℤ → ℤ × ℤ
turned zero z = z
turned (suc n) z = turned n (neg_ℤ z.1, z.0)

-- what a counted power is: the number of a power that lies in the first quarter once these turns are taken back
pub record IsCountOf (z : ℤ × ℤ) (w : Counted) : Type 0 where
  pub re : pos 0 <ℤ w.re
  pub im : pos 0 ≤ℤ w.im
  pub same : turned w.turns (w.re, w.im) ≡ z

-- the counted powers of a direction are its powers, so turned back by quarters
abbrev pub PowersAreCounted : Type 0
PowersAreCounted = (n c s r : ℕ) → IsDirection c s r → IsCountOf (power n (pos c) (pos s)) (counted_power n c s)

-- of two directions the greater is at least as many degrees, and the lesser at most as many
abbrev pub DegreesRise : Type 0
DegreesRise = (k c s r x y z : ℕ) → IsDirection c s r → IsDirection x y z → IsAtMost c s x y
    → (IsAtLeastDegrees k c s → IsAtLeastDegrees k x y) × (IsAtMostDegrees k x y → IsAtMostDegrees k c s)

-- the numbers up to p give directions, which rise with the number
abbrev pub NumbersRise : Type 0
NumbersRise = (q n : ℕ) → q ≤ n → n ≤ last_number
    → IsDirection (c_of q) (s_of q) (r_of q) × IsAtMost (c_of q) (s_of q) (c_of n) (s_of n)

-- no direction up to that of q is at least k degrees, and each from the next number's on is more than k degrees
pub record PartsAt (k q : ℕ) : Type 0 where
  pub next : q < last_number
  pub below : (c s r : ℕ) → IsDirection c s r → IsAtMost c s (c_of q) (s_of q) → IsAtLeastDegrees k c s → ⊥
  pub above : (c s r : ℕ) → IsDirection c s r → IsAtMost (c_of (q + 1)) (s_of (q + 1)) c s → IsAtLeastDegrees k c s × (IsAtMostDegrees k c s → ⊥)

-- between 0 and 90 degrees the number of k parts the directions at k; 0 is the number of 0 degrees, and p that of 90
pub record NumbersPartDegrees : Type 0 where
  pub between : (k q : ℕ) → 0 < k → k < 90 → IsNumberOf k q → PartsAt k q
  pub at_0 : (q : ℕ) → IsNumberOf 0 q ↔ (q ≡ 0)
  pub at_90 : (q : ℕ) → IsNumberOf 90 q ↔ (q ≡ last_number)

-- more than one number lies between those of a degree and the next
abbrev pub NumbersStandApart : Type 0
NumbersStandApart = (k q n : ℕ) → k < 90 → IsNumberOf k q → IsNumberOf (k + 1) n → q + 2 ≤ n
