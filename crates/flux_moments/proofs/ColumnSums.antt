-- Sums over the columns of faces, and over lists of any kind, as a loop makes them.
use Rattle.std.proofs.Common.{◌≡◌, refl, sym, ◌∙◌, ap, subst, ℕ, zero, suc, ◌+◌, ◌*◌, ◌^◌, ◌<◌, ◌≤◌, ℤ, pos, ◌+ℤ◌, unsigned_abs, List, [], ◌∷◌, ◌++◌, length, take, get_or, arith}
use Rattle.std.proofs.Math.Seq.{take-suc}
use Rattle.std.proofs.lemmas.Int.{ints}
use Rattle.std.proofs.Math.Nat.{mul-le-mul}
use Rattle.std.specs.List.{AllByRecursion}
use Rattle.exact_algebra.specs.Expression.{var, number, ◌:+◌, ◌:-◌, ◌:*◌}
use Rattle.exact_algebra.proofs.Fraction.{Fraction, fraction_ring, fractions, nought, one, ◌⊕◌, ◌⊗◌, ◌≼◌}
use Rattle.exact_algebra.proofs.Order as Order
use Rattle.exact_algebra.proofs.Ring.{ring}
use Rattle.exact_algebra.proofs.Span.{ContainsFraction, contains_whole}
use Rattle.exact_algebra.proofs.Whole.{whole, whole-nought}
use Rattle.hull_model.specs.declared.face.Face.{Face}
use Rattle.hull_model.specs.Fractions.{sum_over}
use Rattle.hull_model.specs.Waterplane.{Waterplane, side_distance}
use Rattle.outward_interval.specs.Ends.{EndsBelow, AreEnds, AreLeastEnds}
use Rattle.outward_interval.specs.Laws.{sum_contains}
use Rattle.outward_interval.specs.Widths.{IsNarrow}
use Rattle.outward_interval.proofs.Narrow.{narrow-sum}
use Rattle.outward_interval.specs.declared.span.Span.{Span}
use Rattle.hull_polyhedron.specs.Columns.{middle}
use Rattle.flux_moments.specs.ColumnSizes.{AreColumnWidths, AreSumWidths}
use Rattle.flux_moments.specs.Columns.{column_volume, column_integral}
use Rattle.flux_moments.specs.Limits.{EndsAtMost}
use Rattle.flux_moments.specs.Planes.{IsIn}
use Rattle.flux_moments.specs.declared.plane_box.PlaneBox.{PlaneBox}
use Rattle.flux_moments.specs.declared.wet.Wet.{Wet}
use Rattle.flux_moments.specs.Wets.{AllFields, CanAdd, IsSum, AreColumnEnds}
use Rattle.flux_moments.specs.Sizes.{BoxSize, HasSize, Reaches, AreReached, spread, doubled_area, volume_part, length_part, height_part}
use Rattle.flux_moments.proofs.ProductEnds.{floor_at_most, ceiling_at_most}

sum-last : {A : Type 0} (f : A → Fraction) (xs : List A) (x : A) → sum_over f (xs ++ x ∷ []) ≡ sum_over f xs ⊕ f x
unfolding sum_over
sum-last f [] x = ring fraction_ring (f x ∷ []) (var 0 :+ number 0) (number 0 :+ var 0) refl
sum-last f (y ∷ ys) x = ap (λ s. f y ⊕ s) (sum-last f ys x) ∙ ring fraction_ring (f y ∷ sum_over f ys ∷ f x ∷ []) (var 0 :+ (var 1 :+ var 2))
    ((var 0 :+ var 1) :+ var 2) refl

sum-more : {A : Type 0} (f : A → Fraction) (xs : List A) (i : ℕ) (other : A) → i < length xs → sum_over f (take (i + 1) xs) ≡ sum_over f (take i xs)
    ⊕ f (get_or xs i other)
sum-more f xs i other h = ap (λ n. sum_over f (take n xs)) next ∙ ap (sum_over f) (take-suc xs i other h) ∙ sum-last f (take i xs) (get_or xs i other)
  where
    next : i + 1 ≡ suc i
    next = omega arith

take-all : {A : Type 0} (xs : List A) (n : ℕ) → length xs ≤ n → take n xs ≡ xs
take-all [] zero h = refl
take-all [] (suc n) h = refl
take-all (x ∷ xs) zero h = absurd (omega (arith, h))
take-all (x ∷ xs) (suc n) h = ap (λ ys. x ∷ ys) (take-all xs n (omega (arith, h)))

-- ---- the sum of one quantity over the first elements of lists
-- what is summed at each place that is within: as many elements at each
pub record Lists {I : Type 0} (Within : I → Type 0) (A : Type 0) : Type 0 where
  pub at : I → List A
  pub count : ℕ
  pub long : (i : I) → Within i → length (at i) ≡ count

-- the same list at every place
abbrev pub one_list : {I A : Type 0} {Within : I → Type 0} → List A → Lists Within A
one_list xs = record { at = λ i. xs; count = length xs; long = λ i within. refl }

-- at each place that is within, the span contains this number of times the sum of f over so many first elements, and its ends are at most so
-- many times `most`
pub record IsSumOf {I A : Type 0} (Within : I → Type 0) (f : I → A → Fraction) (times most : ℕ) (lists : Lists Within A) (count : ℕ) (sum : Span 20) : Type 0 where
  pub encloses : (i : I) → Within i → ContainsFraction 20 sum.lo sum.hi (sum_over (f i) (take count (lists.at i)) ⊗ whole (pos times))
  pub ends : EndsAtMost (count * most) sum.lo sum.hi
  pub seen : count ≤ lists.count

module _ {I A : Type 0} (Within : I → Type 0) (f : I → A → Fraction) (times most : ℕ) (lists : Lists Within A) where
  pub sum-start : (s : Span 20) → (s.lo ≡ pos 0) × (s.hi ≡ pos 0) → IsSumOf Within f times most lists 0 s
  unfolding sum_over
  sum-start s e = record {
    encloses = λ i within. rw (e.0, e.1) (subst (λ (x : Fraction). ContainsFraction 20 (pos 0) (pos 0) x) none (contains_whole 20 (pos 0)));
    ends = record { low = small s.lo e.0; high = small s.hi e.1 };
    seen = omega arith;
  }
    where
      none : whole (pos 0) ≡ nought ⊗ whole (pos times)
      none = whole-nought ∙ ring fraction_ring (whole (pos times) ∷ []) (number 0) (number 0 :* var 0) refl

      small : (z : ℤ) → z ≡ pos 0 → unsigned_abs z ≤ 0 * most
      small z e = omega (arith, ints, e)

  -- one element more
  module _ (count : ℕ) (s t : Span 20) (h : count < lists.count) (before : IsSumOf Within f times most lists count s) (ends : EndsAtMost most t.lo t.hi) where
    pub sum-allowed : (bound : ℕ) → lists.count < bound → bound * most ≤ 2 ^ 125 → EndsBelow 126 (s.lo +ℤ t.lo) (s.hi +ℤ t.hi)
    sum-allowed bound few small = record { low = both s.lo t.lo before.ends.low ends.low; high = both s.hi t.hi before.ends.high ends.high }
      where
        fewer : count + 1 ≤ bound
        fewer = omega (arith, few, h)

        same : most ≤ most
        same = omega arith

        much : (count + 1) * most ≤ bound * most
        much = mul-le-mul fewer same

        both : (x y : ℤ) → unsigned_abs x ≤ count * most → unsigned_abs y ≤ most → unsigned_abs (x +ℤ y) < 2 ^ 126
        both x y i j = omega (arith, ints, much, small, i, j)

    pub sum-step : (other : A) (r : Span 20) → ((i : I) → Within i → ContainsFraction 20 t.lo t.hi (f i (get_or (lists.at i) count other) ⊗ whole (pos times)))
        → AreEnds (s.lo +ℤ t.lo) (s.hi +ℤ t.hi) r.lo r.hi → IsSumOf Within f times most lists (count + 1) r
    sum-step other r one are = record {
      encloses = λ i within. subst (λ (x : Fraction). ContainsFraction 20 r.lo r.hi x) (joined i within)
          (sum_contains 20 s.lo s.hi t.lo t.hi r.lo r.hi _ _ are (before.encloses i within) (one i within));
      ends = record { low = both s.lo t.lo r.lo before.ends.low ends.low are.low; high = both s.hi t.hi r.hi before.ends.high ends.high are.high };
      seen = omega (arith, h);
    }
      where
        joined : (i : I) → Within i → sum_over (f i) (take count (lists.at i)) ⊗ whole (pos times) ⊕ f i (get_or (lists.at i) count other) ⊗ whole (pos times) ≡ sum_over (f i)
            (take (count + 1) (lists.at i)) ⊗ whole (pos times)
        joined i within = ring fraction_ring (sum_over (f i) (take count (lists.at i)) ∷ f i (get_or (lists.at i) count other) ∷ whole (pos times) ∷ [])
            (var 0 :* var 2 :+ var 1 :* var 2) ((var 0 :+ var 1) :* var 2) refl
            ∙ ap (λ x. x ⊗ whole (pos times)) (sym (sum-more (f i) (lists.at i) count other (omega (arith, h, lists.long i within))))

        both : (x y z : ℤ) → unsigned_abs x ≤ count * most → unsigned_abs y ≤ most → z ≡ x +ℤ y → unsigned_abs z ≤ (count + 1) * most
        both x y z i j e = omega (arith, ints, e, i, j)

  -- all elements
  pub sum-end : (count : ℕ) (s : Span 20) → lists.count ≤ count → IsSumOf Within f times most lists count s → (i : I) → Within i → ContainsFraction
      20 s.lo s.hi (sum_over (f i) (lists.at i) ⊗ whole (pos times))
  sum-end count s h all i within = subst (λ (xs : List A). ContainsFraction 20 s.lo s.hi (sum_over (f i) xs ⊗ whole (pos times)))
      (take-all (lists.at i) count (omega (arith, h, lists.long i within))) (all.encloses i within)

  pub sum-ends : (bound count : ℕ) (s : Span 20) → lists.count ≤ bound → IsSumOf Within f times most lists count s → EndsAtMost (bound * most) s.lo s.hi
  sum-ends bound count s few all = record { low = under all.ends.low; high = under all.ends.high }
    where
      fewer : count ≤ bound
      fewer = omega (arith, few, all.seen)

      same : most ≤ most
      same = omega arith

      all_of : count * most ≤ bound * most
      all_of = mul-le-mul fewer same

      under : {n : ℕ} → n ≤ count * most → n ≤ bound * most
      under k = omega (arith, all_of, k)

-- ---- how wide a sum is
pub all_at : {A : Type 0} (P : A → Type 0) (xs : List A) (i : ℕ) (other : A) → i < length xs → AllByRecursion P xs → P (get_or xs i other)
all_at P [] i other h all = absurd (omega (arith, h))
all_at P (x ∷ xs) zero other h all = all.0
all_at P (x ∷ xs) (suc i) other h all = all_at P xs i other (omega (arith, h)) all.1

module _ {A : Type 0} (g : A → Fraction) (faces : List A) where
  pub narrow-start : (s : Span 20) → (s.lo ≡ pos 0) × (s.hi ≡ pos 0) → IsNarrow 20 (sum_over g (take 0 faces)) s.lo s.hi
  unfolding sum_over
  narrow-start s e = rw (e.0, e.1) (record {
    width = Order.≼_same fractions (ring fraction_ring (whole (pos 0) ∷ whole (pos (2 ^ 20)) ∷ [])
        (var 0 :- var 0) (number 0 :* var 1) refl);
  })

  pub narrow-step : (count : ℕ) (other : A) (s t r : Span 20) → count < length faces → IsNarrow 20 (sum_over g (take count faces)) s.lo s.hi
      → IsNarrow 20 (g (get_or faces count other)) t.lo t.hi
      → AreEnds (s.lo +ℤ t.lo) (s.hi +ℤ t.hi) r.lo r.hi → IsNarrow 20 (sum_over g (take (count + 1) faces)) r.lo r.hi
  narrow-step count other s t r h before one are = subst (λ (w : Fraction). IsNarrow 20 w r.lo r.hi) (sym (sum-more g faces count other h))
      (narrow-sum are before one)

  pub narrow-end : (count : ℕ) (s : Span 20) → length faces ≤ count → IsNarrow 20 (sum_over g (take count faces)) s.lo s.hi → IsNarrow 20
      (sum_over g faces) s.lo s.hi
  narrow-end count s h all = subst (λ (xs : List A). IsNarrow 20 (sum_over g xs) s.lo s.hi) (take-all faces count h) all

-- what is known of each face
pub reached_at : (planes : PlaneBox) (faces : List Face) (b : BoxSize) (h : Fraction) (count : ℕ) (other : Face) → count < length faces → AreReached
    planes faces b h → AllByRecursion (Reaches b h) (get_or faces count other).p
reached_at planes faces b h count other few are = all_at (λ (f : Face). AllByRecursion (Reaches b h) f.p) faces count other few are.reached

-- ---- the four sums over columns
module _ (planes : PlaneBox) (first last : ℤ) (faces : List Face) where
  abbrev pub IsColumnSum : (Waterplane → Face → Fraction) → (times most count : ℕ) → Span 20 → Type 0
  IsColumnSum f times most count s = IsSumOf (IsIn planes) f times most (one_list faces) count s

  pub record AreSums (count : ℕ) (sums : Wet) : Type 0 where
    pub volume : IsColumnSum (λ plane. column_volume plane first last) 2 (7 * 2 ^ 75) count sums.volume
    pub mx : IsColumnSum (λ plane. column_integral plane first last (λ p. p.x)) 2 (5 * 2 ^ 97) count sums.mx
    pub mv : IsColumnSum (λ plane. column_integral plane first last (side_distance plane)) 2 (5 * 2 ^ 95) count sums.mv
    pub mu : IsColumnSum (λ plane. column_integral plane first last (middle plane first last)) 4 (41 * 2 ^ 95) count sums.mu
    pub widths : (b : BoxSize) (h : Fraction) → AreReached planes faces b h → AreSumWidths (whole last) h (spread b h) (take count faces) sums

  pub sums-start : (s : Wet) → AllFields (λ s. (s.lo ≡ pos 0) × (s.hi ≡ pos 0)) s → AreSums 0 s
  sums-start s e = record {
    volume = sum-start (IsIn planes) (λ plane. column_volume plane first last) 2 (7 * 2 ^ 75) (one_list faces) s.volume e.0;
    mx = sum-start (IsIn planes) (λ plane. column_integral plane first last (λ p. p.x)) 2 (5 * 2 ^ 97) (one_list faces) s.mx e.1;
    mv = sum-start (IsIn planes) (λ plane. column_integral plane first last (side_distance plane)) 2 (5 * 2 ^ 95) (one_list faces) s.mv e.2;
    mu = sum-start (IsIn planes) (λ plane. column_integral plane first last (middle plane first last)) 4 (41 * 2 ^ 95) (one_list faces) s.mu e.3;
    widths = λ b h are. record {
      volume = narrow-start _ faces s.volume e.0;
      mx = narrow-start _ faces s.mx e.1;
      mv = narrow-start _ faces s.mv e.2;
      mu = narrow-start _ faces s.mu e.3;
    };
  }

  module _ (count : ℕ) (sums columns : Wet) (h : count < length faces) (before : AreSums count sums) (ends : AreColumnEnds 1 columns) where
    pub sums-fit : length faces < 2 ^ 14 → CanAdd sums columns
    sums-fit few = record {
      volume = sum-allowed (IsIn planes) _ 2 (7 * 2 ^ 75) (one_list faces) count sums.volume columns.volume h before.volume ends.volume (2 ^ 14) few (omega arith);
      mx = sum-allowed (IsIn planes) _ 2 (5 * 2 ^ 97) (one_list faces) count sums.mx columns.mx h before.mx ends.mx (2 ^ 14) few (omega arith);
      mv = sum-allowed (IsIn planes) _ 2 (5 * 2 ^ 95) (one_list faces) count sums.mv columns.mv h before.mv ends.mv (2 ^ 14) few (omega arith);
      mu = sum-allowed (IsIn planes) _ 4 (41 * 2 ^ 95) (one_list faces) count sums.mu columns.mu h before.mu ends.mu (2 ^ 14) few (omega arith);
    }

    pub sums-more : (other : Face) (result : Wet)
        → ((plane : Waterplane) → IsIn planes plane → ContainsFraction 20 columns.volume.lo columns.volume.hi
        (column_volume plane first last (get_or faces count other) ⊗ whole (pos 2)))
        → ((plane : Waterplane) → IsIn planes plane → ContainsFraction 20 columns.mx.lo columns.mx.hi
        (column_integral plane first last (λ p. p.x) (get_or faces count other) ⊗ whole (pos 2)))
        → ((plane : Waterplane) → IsIn planes plane → ContainsFraction 20 columns.mv.lo columns.mv.hi
        (column_integral plane first last (side_distance plane) (get_or faces count other) ⊗ whole (pos 2)))
        → ((plane : Waterplane) → IsIn planes plane → ContainsFraction 20 columns.mu.lo columns.mu.hi
        (column_integral plane first last (middle plane first last) (get_or faces count other) ⊗ whole (pos 4)))
        → ((b : BoxSize) (h : Fraction) → HasSize planes b → one ≼ h → AllByRecursion (Reaches b h) (get_or faces count other).p → AreColumnWidths
        (whole last) h (spread b h) (doubled_area (get_or faces count other)) columns)
        → IsSum sums columns result → AreSums (count + 1) result
    sums-more other result volume mx mv mu widths are = record {
      volume = sum-step (IsIn planes) (λ plane. column_volume plane first last) 2 (7 * 2 ^ 75) (one_list faces) count sums.volume columns.volume h before.volume
          ends.volume other result.volume volume are.volume;
      mx = sum-step (IsIn planes) (λ plane. column_integral plane first last (λ p. p.x)) 2 (5 * 2 ^ 97) (one_list faces) count sums.mx columns.mx h before.mx
          ends.mx other result.mx mx are.mx;
      mv = sum-step (IsIn planes) (λ plane. column_integral plane first last (side_distance plane)) 2 (5 * 2 ^ 95) (one_list faces) count sums.mv columns.mv h
          before.mv ends.mv other result.mv mv are.mv;
      mu = sum-step (IsIn planes) (λ plane. column_integral plane first last (middle plane first last)) 4 (41 * 2 ^ 95) (one_list faces) count sums.mu columns.mu
          h before.mu ends.mu other result.mu mu are.mu;
      widths = λ b reach reached. let earlier = before.widths b reach reached in let more = widths b reach reached.size reached.some
          (reached_at planes faces b reach count other h reached) in record {
            volume = narrow-step (λ f. volume_part (spread b reach) (doubled_area f)) faces count other sums.volume columns.volume result.volume h
                earlier.volume more.volume are.volume;
            mx = narrow-step (λ f. length_part (whole last) (spread b reach) (doubled_area f)) faces count other sums.mx columns.mx result.mx h earlier.mx
                more.mx are.mx;
            mv = narrow-step (λ f. height_part reach (spread b reach) (doubled_area f)) faces count other sums.mv columns.mv result.mv h earlier.mv more.mv are.mv;
            mu = narrow-step (λ f. height_part reach (spread b reach) (doubled_area f)) faces count other sums.mu columns.mu result.mu h earlier.mu more.mu are.mu;
          };
    }

-- ---- the ends at last
pub quotient_at_most : (sum most n : ℕ) {low high lo hi : ℤ} → sum < most * n → EndsAtMost sum low high → AreLeastEnds low high n lo hi → EndsAtMost most lo hi
quotient_at_most sum most n {low} {high} {lo} {hi} fits e are = record {
  low = floor_at_most most n low lo (within e.low) are.low;
  high =
      ceiling_at_most most n high hi (within e.high) are.high;
}
  where
    within : {k : ℕ} → k ≤ sum → k < most * n
    within i = omega (arith, i, fits)
