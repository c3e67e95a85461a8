-- A whole face as a part: whole numbers of units.
use Rattle.std.proofs.Common.{ℕ, ◌*◌, ℤ, pos, ◌≡◌, ◌^◌, ◌≤◌, ◌*ℤ◌, unsigned_abs, arith}
use Rattle.std.proofs.lemmas.Int.{ints}
use Rattle.exact_algebra.proofs.Span.{ContainsFraction, contains_whole}
use Rattle.exact_algebra.proofs.Whole.{whole}
use Rattle.plane_clip.specs.Limits.{EndsAtMost, IsThin}

pub exact_holds : (n : ℤ) {lo hi : ℤ} → (lo ≡ n *ℤ pos (2 ^ 20)) × (hi ≡ n *ℤ pos (2 ^ 20)) → ContainsFraction 20 lo hi (whole n)
exact_holds n e = rw (e.0, e.1) (contains_whole 20 n)

pub exact_ends : (n : ℤ) (most : ℕ) {lo hi : ℤ} → unsigned_abs n ≤ most → (lo ≡ n *ℤ pos (2 ^ 20)) × (hi ≡ n *ℤ pos (2 ^ 20)) → EndsAtMost (most * 2 ^ 20) lo hi
exact_ends n most {lo} {hi} h e = record { low = omega (arith, ints, h, e.0); high = omega (arith, ints, h, e.1) }

pub exact_thin : (k : ℕ) {n lo hi : ℤ} → (lo ≡ n) × (hi ≡ n) → IsThin k lo hi
exact_thin k e = omega (arith, ints, e.0, e.1)
