-- Long division: the floor of the whole comes from the whole quotient and the floor of what is left over.
use Rattle.std.proofs.Common.{◌≡◌, ◌∙◌, refl, sym, ap, subst, [], ◌∷◌, ℕ, ◌+◌, ◌*◌, ◌^◌, ◌<◌, ◌≤◌, ℤ, pos, negsuc, neg_ℤ, ◌+ℤ◌, ◌*ℤ◌, ◌≤ℤ◌, ◌<ℤ◌, unsigned_abs, arith}
use Rattle.std.proofs.lemmas.Int.{ints, unsigned_abs-mul}
use Rattle.std.specs.Int.{int_div_euclid, int_rem_euclid}
use borrow.Author.Differences.{up, down, product_is}
use Rattle.exact_algebra.specs.Expression.{var, unit, opposite, ◌:+◌, ◌:*◌}
use Rattle.exact_algebra.specs.Span.{IsFloor, IsCeiling}
use Rattle.exact_algebra.proofs.Division.{ceiling_by_floor}
use Rattle.exact_algebra.proofs.Ring.{ring}
use Rattle.exact_algebra.proofs.WholeNumbers.{integers}
use Rattle.exact_fraction.specs.Bounds.{MagnitudeBelow}
use Rattle.outward_interval.proofs.Quotients.{floor_by_division}
use Rattle.flux_moments.proofs.ProductEnds.{floor_at_most}

-- what is left over
parts : (n : ℤ) (d : ℕ) → 0 < d → up n + down (int_div_euclid n (pos d)) * d ≡ up (int_div_euclid n (pos d)) * d + up (int_rem_euclid n (pos d)) + down n
parts (pos a) d h = omega arith
parts (negsuc a) d h = omega arith

pub divided : (n d : ℤ) → pos 1 ≤ℤ d → n ≡ (int_div_euclid n d *ℤ d) +ℤ int_rem_euclid n d
divided n (pos d) h = whole (int_div_euclid n (pos d)) (int_rem_euclid n (pos d)) (parts n d (omega (arith, ints))) (left n)
  where
    left : (n : ℤ) → down (int_rem_euclid n (pos d)) ≡ 0
    left (pos a) = refl
    left (negsuc a) = refl

    whole : (q r : ℤ) → up n + down q * d ≡ up q * d + up r + down n → down r ≡ 0 → n ≡ (q *ℤ pos d) +ℤ r
    whole q r e z = omega (arith, ints, e, z, product_is q (pos d))
divided n (negsuc d) h = absurd (omega (arith, ints))

with_rest : (n whole rest part : ℤ) (d : ℕ) → n ≡ (whole *ℤ pos d) +ℤ rest → IsFloor (rest *ℤ pos 1048576) d part → IsFloor (n *ℤ pos 1048576) d ((whole *ℤ pos 1048576) +ℤ part)
with_rest n whole rest part d e f = record {
  below = at_most (whole *ℤ pos d) (part *ℤ pos d) spread e f.below;
  next = less (whole *ℤ pos d) ((part +ℤ pos 1) *ℤ pos d) spread_next e f.next;
}
  where
    spread : ((whole *ℤ pos 1048576) +ℤ part) *ℤ pos d ≡ ((whole *ℤ pos d) *ℤ pos 1048576) +ℤ (part *ℤ pos d)
    spread = ring integers (whole ∷ pos 1048576 ∷ part ∷ pos d ∷ []) ((var 0 :* var 1 :+ var 2) :* var 3) ((var 0 :* var 3) :* var 1 :+ var 2 :* var 3) refl

    spread_next : (((whole *ℤ pos 1048576) +ℤ part) +ℤ pos 1) *ℤ pos d ≡ ((whole *ℤ pos d) *ℤ pos 1048576) +ℤ ((part +ℤ pos 1) *ℤ pos d)
    spread_next = ring integers (whole ∷ pos 1048576 ∷ part ∷ pos d ∷ []) (((var 0 :* var 1 :+ var 2) :+ unit) :* var 3) ((var 0 :* var 3) :* var 1 :+ (var 2 :+ unit) :* var 3) refl

    at_most : {t : ℤ} (x y : ℤ) → t ≡ (x *ℤ pos 1048576) +ℤ y → n ≡ x +ℤ rest → y ≤ℤ (rest *ℤ pos 1048576) → t ≤ℤ (n *ℤ pos 1048576)
    at_most x y e f h = omega (arith, ints)

    less : {t : ℤ} (x y : ℤ) → t ≡ (x *ℤ pos 1048576) +ℤ y → n ≡ x +ℤ rest → (rest *ℤ pos 1048576) <ℤ y → (n *ℤ pos 1048576) <ℤ t
    less x y e f h = omega (arith, ints)

pub joined : (n whole rest part d : ℤ) → pos 1 ≤ℤ d → whole ≡ int_div_euclid n d → rest ≡ int_rem_euclid n d → IsFloor (rest *ℤ pos 1048576) (unsigned_abs d) part
    → IsFloor (n *ℤ pos 1048576) (unsigned_abs d) ((whole *ℤ pos 1048576) +ℤ part)
joined n whole rest part (pos d) some q r f = with_rest n whole rest part d
    (divided n (pos d) some ∙ sym (ap (λ w. (w *ℤ pos d) +ℤ int_rem_euclid n (pos d)) q) ∙ ap (λ t. (whole *ℤ pos d) +ℤ t) (sym r)) f
joined n whole rest part (negsuc d) some q r f = absurd (omega (arith, ints))

-- the sizes of the whole quotient and of the other part
beside : (u k : ℕ) (d : ℤ) → pos 1 ≤ℤ d → pos u <ℤ (d *ℤ pos k) → u < k * unsigned_abs d
beside u k (pos d) o h = omega (arith, ints)
beside u k (negsuc d) o h = absurd (omega (arith, ints))

pub whole_small : (n d q : ℤ) → pos 1 ≤ℤ d → pos (unsigned_abs n) <ℤ (d *ℤ pos (2 ^ 94)) → q ≡ int_div_euclid n d → unsigned_abs q ≤ 2 ^ 94
whole_small n d q some h e = floor_at_most (2 ^ 94) (unsigned_abs d) n q (beside (unsigned_abs n) (2 ^ 94) d some h) (floor_by_division n d q some e)

pub part_small : (rest d part : ℤ) → unsigned_abs rest < unsigned_abs d → IsFloor (rest *ℤ pos 1048576) (unsigned_abs d) part → unsigned_abs part ≤ 2 ^ 20
part_small rest d part h f = floor_at_most (2 ^ 20) (unsigned_abs d) (rest *ℤ pos 1048576) part (omega (arith, unsigned_abs-mul rest (pos 1048576), h)) f

pub rest_fits : (rest d : ℤ) → MagnitudeBelow 96 d → unsigned_abs rest < unsigned_abs d → unsigned_abs (rest *ℤ pos 1048576) < 2 ^ 127
rest_fits rest d size h = omega (arith, unsigned_abs-mul rest (pos 1048576), size, h)

-- the ceiling is the opposite of the floor of the opposite
pub turned : (n m : ℤ) (d : ℕ) (z : ℤ) → m ≡ neg_ℤ n → IsFloor (m *ℤ pos 1048576) d z → IsCeiling (n *ℤ pos 1048576) d (neg_ℤ z)
turned n m d z e f = ceiling_by_floor (n *ℤ pos 1048576) z d (subst (λ (w : ℤ). IsFloor w d z) (ap (λ w. w *ℤ pos 1048576) e ∙ opposite_times n) f)
  where
    opposite_times : (n : ℤ) → neg_ℤ n *ℤ pos 1048576 ≡ neg_ℤ (n *ℤ pos 1048576)
    opposite_times n = ring integers (n ∷ pos 1048576 ∷ []) (opposite (var 0) :* var 1) (opposite (var 0 :* var 1)) refl
