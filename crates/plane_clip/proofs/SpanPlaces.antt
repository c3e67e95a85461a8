-- The span of a place in whole mm.
use Rattle.std.proofs.Common.{ℤ, pos, ◌≡◌, ◌∙◌, sym, subst, ◌*ℤ◌, ◌^◌}
use Rattle.exact_algebra.proofs.Fraction.{Fraction}
use Rattle.exact_algebra.proofs.Span.{ContainsFraction}
use Rattle.exact_algebra.proofs.Whole.{whole}
use Rattle.plane_clip.proofs.WholeFaces.{exact_holds}

pub place_holds : (n : ℤ) {x : Fraction} {lo hi : ℤ} → x ≡ whole n → (lo ≡ n *ℤ pos (2 ^ 20)) × (hi ≡ n *ℤ pos (2 ^ 20)) → ContainsFraction 20 lo hi x
place_holds n {x} {lo} {hi} e h = subst (λ (y : Fraction). ContainsFraction 20 lo hi y) (sym e) (exact_holds n h)

pub same_places : (n : ℤ) {lo hi : ℤ} → (lo ≡ n *ℤ pos (2 ^ 20)) × (hi ≡ n *ℤ pos (2 ^ 20)) → lo ≡ hi
same_places n h = h.0 ∙ sym h.1
