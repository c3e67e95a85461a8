-- What is left by spans: that of the whole hull less that of the parts, if there are any.
use Rattle.std.proofs.Common.{Bool, true, false, ◌==◌, ℕ, zero, suc, ◌+◌, ◌^◌, ◌<◌, unsigned_abs, ℤ, ◌-ℤ◌, ◌≡◌, ◌∙◌, refl, sym, subst, List, [], ◌∷◌, length, ◌≤◌, arith}
use Rattle.std.proofs.lemmas.Int.{ints}
use Rattle.std.proofs.Math.Logic.{∥∥₁_elim}
use Rattle.exact_algebra.specs.Expression.{var, number, ◌:-◌}
use Rattle.exact_algebra.proofs.Fraction.{Fraction, ◌⊖◌, fraction_ring}
use Rattle.exact_algebra.proofs.Ring.{ring}
use Rattle.exact_algebra.proofs.Span.{ContainsFraction}
use Rattle.exact_fraction.specs.Bounds.{MagnitudeBelow}
use Rattle.hull_model.specs.Fractions.{sum_over}
use Rattle.outward_interval.specs.Ends.{AreEnds, EndsBelow}
use Rattle.outward_interval.specs.Laws.{difference_contains}
use Rattle.plane_clip.specs.declared.part.Part.{Part}
use Rattle.flux_moments.specs.Shared.{Shared, HoldShares}
use Rattle.compartment_loss.proofs.OneProof.{contains-prop}

module _ (parts : List Part) (ts : List Shared) (held : ∥ HoldShares parts ts ∥₁) (lost : Shared → Fraction) (x y : Fraction) (is : x ⊖ sum_over lost ts ≡ y) where
  pub contains-rest : {a b c d lo hi : ℤ} → AreEnds (a -ℤ d) (b -ℤ c) lo hi → ContainsFraction 20 a b x → (HoldShares parts ts → ContainsFraction 20 c d (sum_over lost ts)) → ContainsFraction 20 lo hi y
  contains-rest {lo = lo} {hi = hi} ends whole_hull less = subst (λ (z : Fraction). ContainsFraction 20 lo hi z) is
      (∥∥₁_elim held (contains-prop 20 lo hi _) (λ holds. difference_contains 20 _ _ _ _ _ _ _ _ ends whole_hull (less holds)))

  pub contains-all : {lo hi : ℤ} → length parts ≤ 0 → ContainsFraction 20 lo hi x → ContainsFraction 20 lo hi y
  unfolding sum_over
  contains-all {lo} {hi} none whole_hull = ∥∥₁_elim held (contains-prop 20 lo hi y) (λ holds. subst (λ (z : Fraction). ContainsFraction 20 lo hi z) (same parts ts none holds is) whole_hull)
    where
      same : (ps : List Part) (us : List Shared) → length ps ≤ 0 → HoldShares ps us → x ⊖ sum_over lost us ≡ y → x ≡ y
      same [] [] none holds e = ring fraction_ring (x ∷ []) (var 0) (var 0 :- number 0) refl ∙ e
      same [] (u ∷ us) none holds e = absurd holds
      same (p ∷ ps) us none holds e = absurd (omega (arith, none))

-- the ends of a difference
pub ends-less : (m n k : ℕ) {a b c d lo hi : ℤ} → 2 ^ m + 2 ^ n ≤ 2 ^ k → AreEnds (a -ℤ d) (b -ℤ c) lo hi → EndsBelow m a b → EndsBelow n c d → EndsBelow k lo hi
ends-less m n k {a} {b} {c} {d} room ends h g = record {
  low = subst (MagnitudeBelow k) (sym ends.low) (less (2 ^ m) (2 ^ n) (2 ^ k) a d room h.low g.high);
  high = subst (MagnitudeBelow k) (sym ends.high) (less (2 ^ m) (2 ^ n) (2 ^ k) b c room h.high g.low);
}
  where
    less : (p q r : ℕ) (x y : ℤ) → p + q ≤ r → unsigned_abs x < p → unsigned_abs y < q → unsigned_abs (x -ℤ y) < r
    less p q r x y room h k = omega (arith, ints, room, h, k)

pub not_empty : (b : Bool) (m n : ℕ) → b ≡ (m == 0) → b ≡ false → m ≡ n → 1 ≤ n
not_empty b zero n e f g = absurd (true-ne-false (sym e ∙ f))
  where
    true-ne-false : true ≡ false → ⊥
    true-ne-false h = cc
not_empty b (suc m) n e f g = omega (arith, g)

-- a fact with one proof at most that holds by what a flooded hull keeps of its parts
pub by-kept : {A P Q : Type 0} → IsProp A → ∥ P ∥₁ → ∥ Q ∥₁ → (P → Q → A) → A
by-kept prop p q f = ∥∥₁_elim p prop (λ x. ∥∥₁_elim q prop (f x))
