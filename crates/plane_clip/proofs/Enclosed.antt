-- For all depths within spans: the means rise with the depths, so the ends at the least and at the greatest depths enclose them, and lie no
-- further apart than the means there and a few units.
use Prim.Native.Nat.{ℕ, ◌+◌, ◌≤◌, ◌^◌}
use native.Mathlib.Omega.{arith}
use mathlib.Core.Path.{◌≡◌, refl, sym}
use mathlib.Core.List.{[], ◌∷◌}
use mathlib.Core.Bool.{Bool, true, false}
use lib.IntN.{ℤ, pos, ◌+ℤ◌}
use lib.Signed.{◌≤ℤ◌}
use borrow.Author.Differences.{ints}
use Rattle.exact_algebra.specs.Expression.{var, unit, ◌:+◌, ◌:-◌, ◌:*◌, opposite}
use Rattle.exact_algebra.proofs.Ring.{ring_from, none, given}
use Rattle.exact_algebra.proofs.Fraction.{Fraction, ◌⊕◌, ◌⊗◌, ◌⊖◌, inverse, fractions, fraction_ring, ◌≼◌}
use Rattle.exact_algebra.proofs.Whole.{whole, whole-add, whole-≼, whole-≼_out, nonnegative-whole}
use Rattle.exact_algebra.proofs.Order as Order
use Rattle.exact_algebra.proofs.Order.{order_from, no_more, at_most, equal}
use Rattle.exact_algebra.proofs.Bounds as Bounds
use Rattle.exact_algebra.proofs.Span.{ContainsFraction, positive-unit}
use Rattle.plane_clip.specs.declared.shares.Shares.{Shares}
use Rattle.plane_clip.specs.Rounded.{Near, DepthEnds, share_ends, depth_ends, SharesOrdered}
use Rattle.plane_clip.specs.Enclosure.{in_unit}
use Rattle.hull_model.proofs.MeanKinds.{Kind, share_kind, corner_kind, pair_kind, depth_kind, weighted_kind, mean_at, kind_rises}
use Rattle.plane_clip.proofs.RoundedShares.{AreRoundedShares, rounded_shares}
use Rattle.plane_clip.proofs.RoundedDepths.{AreRoundedDepths, rounded_depths}
use Rattle.plane_clip.proofs.Spread.{tight_shares, tight_depths}

at_unit : (z : ℤ) → in_unit 20 z ⊗ whole (pos (2 ^ 20)) ≡ whole z
unfolding in_unit
at_unit z = ring_from fraction_ring (whole z ∷ whole (pos (2 ^ 20)) ∷ inverse (whole (pos (2 ^ 20))) ∷ []) ((var 0, var 1 :* var 2, unit) ∷ []) (given (Bounds.mul-inverse_positive fractions (positive-unit 20)) none) ((var 0 :* var 2) :* var 1) (var 0) refl

-- the ends of a span as fractions
low_end : (lo hi : ℤ) (q : Fraction) → ContainsFraction 20 lo hi q → in_unit 20 lo ≼ q
low_end lo hi q h = Order.≼_cancel fractions (positive-unit 20) (Order.≼_trans fractions (Order.≼_same fractions (at_unit lo)) h.from)

high_end : (lo hi : ℤ) (q : Fraction) → ContainsFraction 20 lo hi q → q ≼ in_unit 20 hi
high_end lo hi q h = Order.≼_cancel fractions (positive-unit 20) (Order.≼_trans fractions h.to (Order.≼_same fractions (sym (at_unit hi))))

pub holds_low : (lo hi : ℤ) → lo ≤ℤ hi → ContainsFraction 20 lo hi (in_unit 20 lo)
holds_low lo hi h = record { from = Order.≼_same fractions (sym (at_unit lo)); to = Order.≼_trans fractions (Order.≼_same fractions (at_unit lo)) (whole-≼ h) }

-- the mean of a kind at three ends
abbrev pub mean_of : Kind → ℤ → ℤ → ℤ → Fraction
mean_of κ a b c = mean_at κ (in_unit 20 a) (in_unit 20 b) (in_unit 20 c)

-- three spans from a, b, c to a', b', c'
module _ (a b c a' b' c' : ℤ) where
  enclosed : (κ : Kind) (F : ℕ) (lo hi : ℤ) (p q r : Fraction) → ContainsFraction 20 a a' p → ContainsFraction 20 b b' q → ContainsFraction 20 c c' r
      → whole lo ≼ mean_of κ a b c ⊗ whole (pos (2 ^ F)) → mean_of κ a' b' c' ⊗ whole (pos (2 ^ F)) ≼ whole hi → ContainsFraction F lo hi (mean_at κ p q r)
  enclosed κ F lo hi p q r f g h least most = record {
    from = Order.≼_trans fractions least (Order.≼-mul fractions (nonnegative-whole (2 ^ F)) (kind_rises κ (in_unit 20 a) (in_unit 20 b) (in_unit 20 c) p q r (low_end a a' p f) (low_end b b' q g) (low_end c c' r h)));
    to = Order.≼_trans fractions (Order.≼-mul fractions (nonnegative-whole (2 ^ F)) (kind_rises κ p q r (in_unit 20 a') (in_unit 20 b') (in_unit 20 c') (high_end a a' p f) (high_end b b' q g) (high_end c c' r h))) most;
  }

  -- lo' is the lower end at the greatest depths, hi' the upper one at the least
  no_wider : (κ : Kind) (F e : ℕ) (lo hi lo' hi' : ℤ) → hi ≤ℤ (lo' +ℤ pos e) → hi' ≤ℤ (lo +ℤ pos e) → whole lo' ≼ mean_of κ a' b' c' ⊗ whole (pos (2 ^ F)) → mean_of κ a b c ⊗ whole (pos (2 ^ F)) ≼ whole hi'
      → (whole hi ⊖ whole lo) ≼ (((mean_of κ a' b' c' ⊖ mean_of κ a b c) ⊗ whole (pos (2 ^ F))) ⊕ whole (pos (e + e)))
  no_wider κ F e lo hi lo' hi' f g h k = order_from fractions (whole lo ∷ whole hi ∷ whole lo' ∷ whole hi' ∷ mean_of κ a b c ∷ mean_of κ a' b' c' ∷ whole (pos (2 ^ F)) ∷ whole (pos e) ∷ whole (pos (e + e)) ∷ whole (lo' +ℤ pos e) ∷ whole (lo +ℤ pos e) ∷ [])
      ((unit, var 1, var 9) ∷ (unit, var 3, var 10) ∷ (unit, var 9, var 2 :+ var 7) ∷ (unit, var 10, var 0 :+ var 7) ∷ (unit, var 2, var 5 :* var 6) ∷ (unit, var 4 :* var 6, var 3) ∷ (opposite unit, var 8, var 7 :+ var 7) ∷ [])
      (at_most (whole-≼ f) (at_most (whole-≼ g) (equal (whole-add lo' (pos e)) (equal (whole-add lo (pos e)) (at_most h (at_most k (equal (whole-add (pos e) (pos e)) no_more)))))))
      (var 1 :- var 0) ((var 5 :- var 4) :* var 6 :+ var 8) refl

  pub record SharesEnclosed (l h : Shares) (p q r : Fraction) : Type 0 where
    pub share : ContainsFraction 40 (pos l.share) (pos h.share) (mean_at share_kind p q r)
    pub c0 : ContainsFraction 40 (pos l.c0) (pos h.c0) (mean_at (corner_kind 0) p q r)
    pub c1 : ContainsFraction 40 (pos l.c1) (pos h.c1) (mean_at (corner_kind 1) p q r)
    pub c2 : ContainsFraction 40 (pos l.c2) (pos h.c2) (mean_at (corner_kind 2) p q r)
    pub p00 : ContainsFraction 40 (pos l.p00) (pos h.p00) (mean_at (pair_kind 0 0) p q r)
    pub p01 : ContainsFraction 40 (pos l.p01) (pos h.p01) (mean_at (pair_kind 0 1) p q r)
    pub p02 : ContainsFraction 40 (pos l.p02) (pos h.p02) (mean_at (pair_kind 0 2) p q r)
    pub p11 : ContainsFraction 40 (pos l.p11) (pos h.p11) (mean_at (pair_kind 1 1) p q r)
    pub p12 : ContainsFraction 40 (pos l.p12) (pos h.p12) (mean_at (pair_kind 1 2) p q r)
    pub p22 : ContainsFraction 40 (pos l.p22) (pos h.p22) (mean_at (pair_kind 2 2) p q r)

  pub record SharesNotWide (l h : Shares) : Type 0 where
    pub share : (whole (pos h.share) ⊖ whole (pos l.share)) ≼ (((mean_of share_kind a' b' c' ⊖ mean_of share_kind a b c) ⊗ whole (pos (2 ^ 40))) ⊕ whole (pos 16))
    pub c0 : (whole (pos h.c0) ⊖ whole (pos l.c0)) ≼ (((mean_of (corner_kind 0) a' b' c' ⊖ mean_of (corner_kind 0) a b c) ⊗ whole (pos (2 ^ 40))) ⊕ whole (pos 16))
    pub c1 : (whole (pos h.c1) ⊖ whole (pos l.c1)) ≼ (((mean_of (corner_kind 1) a' b' c' ⊖ mean_of (corner_kind 1) a b c) ⊗ whole (pos (2 ^ 40))) ⊕ whole (pos 16))
    pub c2 : (whole (pos h.c2) ⊖ whole (pos l.c2)) ≼ (((mean_of (corner_kind 2) a' b' c' ⊖ mean_of (corner_kind 2) a b c) ⊗ whole (pos (2 ^ 40))) ⊕ whole (pos 16))
    pub p00 : (whole (pos h.p00) ⊖ whole (pos l.p00)) ≼ (((mean_of (pair_kind 0 0) a' b' c' ⊖ mean_of (pair_kind 0 0) a b c) ⊗ whole (pos (2 ^ 40))) ⊕ whole (pos 16))
    pub p01 : (whole (pos h.p01) ⊖ whole (pos l.p01)) ≼ (((mean_of (pair_kind 0 1) a' b' c' ⊖ mean_of (pair_kind 0 1) a b c) ⊗ whole (pos (2 ^ 40))) ⊕ whole (pos 16))
    pub p02 : (whole (pos h.p02) ⊖ whole (pos l.p02)) ≼ (((mean_of (pair_kind 0 2) a' b' c' ⊖ mean_of (pair_kind 0 2) a b c) ⊗ whole (pos (2 ^ 40))) ⊕ whole (pos 16))
    pub p11 : (whole (pos h.p11) ⊖ whole (pos l.p11)) ≼ (((mean_of (pair_kind 1 1) a' b' c' ⊖ mean_of (pair_kind 1 1) a b c) ⊗ whole (pos (2 ^ 40))) ⊕ whole (pos 16))
    pub p12 : (whole (pos h.p12) ⊖ whole (pos l.p12)) ≼ (((mean_of (pair_kind 1 2) a' b' c' ⊖ mean_of (pair_kind 1 2) a b c) ⊗ whole (pos (2 ^ 40))) ⊕ whole (pos 16))
    pub p22 : (whole (pos h.p22) ⊖ whole (pos l.p22)) ≼ (((mean_of (pair_kind 2 2) a' b' c' ⊖ mean_of (pair_kind 2 2) a b c) ⊗ whole (pos (2 ^ 40))) ⊕ whole (pos 16))

  pub record DepthsEnclosed (l h : DepthEnds) (p q r : Fraction) : Type 0 where
    pub depth : ContainsFraction 20 l.depth h.depth (mean_at depth_kind p q r)
    pub first : ContainsFraction 20 l.first h.first (mean_at (weighted_kind 0) p q r)
    pub second : ContainsFraction 20 l.second h.second (mean_at (weighted_kind 1) p q r)
    pub third : ContainsFraction 20 l.third h.third (mean_at (weighted_kind 2) p q r)

  pub record DepthsNotWide (l h : DepthEnds) : Type 0 where
    pub depth : (whole (h.depth) ⊖ whole (l.depth)) ≼ (((mean_of depth_kind a' b' c' ⊖ mean_of depth_kind a b c) ⊗ whole (pos (2 ^ 20))) ⊕ whole (pos 8))
    pub first : (whole (h.first) ⊖ whole (l.first)) ≼ (((mean_of (weighted_kind 0) a' b' c' ⊖ mean_of (weighted_kind 0) a b c) ⊗ whole (pos (2 ^ 20))) ⊕ whole (pos 8))
    pub second : (whole (h.second) ⊖ whole (l.second)) ≼ (((mean_of (weighted_kind 1) a' b' c' ⊖ mean_of (weighted_kind 1) a b c) ⊗ whole (pos (2 ^ 20))) ⊕ whole (pos 8))
    pub third : (whole (h.third) ⊖ whole (l.third)) ≼ (((mean_of (weighted_kind 2) a' b' c' ⊖ mean_of (weighted_kind 2) a b c) ⊗ whole (pos (2 ^ 20))) ⊕ whole (pos 8))

  abbrev low_shares : Shares
  low_shares = share_ends false a b c

  abbrev high_shares : Shares
  high_shares = share_ends true a' b' c'

  abbrev low_depths : DepthEnds
  low_depths = depth_ends false a b c

  abbrev high_depths : DepthEnds
  high_depths = depth_ends true a' b' c'

  least_shares : (up : Bool) → AreRoundedShares up (share_ends up a b c) (in_unit 20 a) (in_unit 20 b) (in_unit 20 c)
  least_shares up = rounded_shares up (in_unit 20 a) (in_unit 20 b) (in_unit 20 c) (whole (pos (2 ^ 20))) a b c (positive-unit 20) (at_unit a) (at_unit b) (at_unit c)

  greatest_shares : (up : Bool) → AreRoundedShares up (share_ends up a' b' c') (in_unit 20 a') (in_unit 20 b') (in_unit 20 c')
  greatest_shares up = rounded_shares up (in_unit 20 a') (in_unit 20 b') (in_unit 20 c') (whole (pos (2 ^ 20))) a' b' c' (positive-unit 20) (at_unit a') (at_unit b') (at_unit c')

  least_depths : (up : Bool) → AreRoundedDepths up (depth_ends up a b c) (in_unit 20 a) (in_unit 20 b) (in_unit 20 c) (whole (pos (2 ^ 20)))
  least_depths up = rounded_depths up (in_unit 20 a) (in_unit 20 b) (in_unit 20 c) (whole (pos (2 ^ 20))) a b c (positive-unit 20) (at_unit a) (at_unit b) (at_unit c)

  greatest_depths : (up : Bool) → AreRoundedDepths up (depth_ends up a' b' c') (in_unit 20 a') (in_unit 20 b') (in_unit 20 c') (whole (pos (2 ^ 20)))
  greatest_depths up = rounded_depths up (in_unit 20 a') (in_unit 20 b') (in_unit 20 c') (whole (pos (2 ^ 20))) a' b' c' (positive-unit 20) (at_unit a') (at_unit b') (at_unit c')

  pub shares_enclosed : (p q r : Fraction) → ContainsFraction 20 a a' p → ContainsFraction 20 b b' q → ContainsFraction 20 c c' r → SharesEnclosed low_shares high_shares p q r
  shares_enclosed p q r f g h = let least = least_shares false in let most = greatest_shares true in record {
    share = enclosed share_kind 40 (pos low_shares.share) (pos high_shares.share) p q r f g h least.share most.share;
    c0 = enclosed (corner_kind 0) 40 (pos low_shares.c0) (pos high_shares.c0) p q r f g h least.c0 most.c0;
    c1 = enclosed (corner_kind 1) 40 (pos low_shares.c1) (pos high_shares.c1) p q r f g h least.c1 most.c1;
    c2 = enclosed (corner_kind 2) 40 (pos low_shares.c2) (pos high_shares.c2) p q r f g h least.c2 most.c2;
    p00 = enclosed (pair_kind 0 0) 40 (pos low_shares.p00) (pos high_shares.p00) p q r f g h least.p00 most.p00;
    p01 = enclosed (pair_kind 0 1) 40 (pos low_shares.p01) (pos high_shares.p01) p q r f g h least.p01 most.p01;
    p02 = enclosed (pair_kind 0 2) 40 (pos low_shares.p02) (pos high_shares.p02) p q r f g h least.p02 most.p02;
    p11 = enclosed (pair_kind 1 1) 40 (pos low_shares.p11) (pos high_shares.p11) p q r f g h least.p11 most.p11;
    p12 = enclosed (pair_kind 1 2) 40 (pos low_shares.p12) (pos high_shares.p12) p q r f g h least.p12 most.p12;
    p22 = enclosed (pair_kind 2 2) 40 (pos low_shares.p22) (pos high_shares.p22) p q r f g h least.p22 most.p22;
  }

  up_ℤ : (m n : ℕ) → m ≤ n + 8 → pos m ≤ℤ (pos n +ℤ pos 8)
  up_ℤ m n h = omega (arith, ints, h)

  pub shares_not_wide : SharesNotWide low_shares high_shares
  shares_not_wide =
      let over = greatest_shares false in
      let under = least_shares true in
      let at_most = tight_shares a' b' c' in
      let at_least = tight_shares a b c in
      record {
        share = no_wider share_kind 40 8 (pos low_shares.share) (pos high_shares.share) (pos (share_ends false a' b' c').share) (pos (share_ends true a b c).share) (up_ℤ _ _ at_most.share) (up_ℤ _ _ at_least.share) over.share under.share;
        c0 = no_wider (corner_kind 0) 40 8 (pos low_shares.c0) (pos high_shares.c0) (pos (share_ends false a' b' c').c0) (pos (share_ends true a b c).c0) (up_ℤ _ _ at_most.c0) (up_ℤ _ _ at_least.c0) over.c0 under.c0;
        c1 = no_wider (corner_kind 1) 40 8 (pos low_shares.c1) (pos high_shares.c1) (pos (share_ends false a' b' c').c1) (pos (share_ends true a b c).c1) (up_ℤ _ _ at_most.c1) (up_ℤ _ _ at_least.c1) over.c1 under.c1;
        c2 = no_wider (corner_kind 2) 40 8 (pos low_shares.c2) (pos high_shares.c2) (pos (share_ends false a' b' c').c2) (pos (share_ends true a b c).c2) (up_ℤ _ _ at_most.c2) (up_ℤ _ _ at_least.c2) over.c2 under.c2;
        p00 = no_wider (pair_kind 0 0) 40 8 (pos low_shares.p00) (pos high_shares.p00) (pos (share_ends false a' b' c').p00) (pos (share_ends true a b c).p00) (up_ℤ _ _ at_most.p00) (up_ℤ _ _ at_least.p00) over.p00 under.p00;
        p01 = no_wider (pair_kind 0 1) 40 8 (pos low_shares.p01) (pos high_shares.p01) (pos (share_ends false a' b' c').p01) (pos (share_ends true a b c).p01) (up_ℤ _ _ at_most.p01) (up_ℤ _ _ at_least.p01) over.p01 under.p01;
        p02 = no_wider (pair_kind 0 2) 40 8 (pos low_shares.p02) (pos high_shares.p02) (pos (share_ends false a' b' c').p02) (pos (share_ends true a b c).p02) (up_ℤ _ _ at_most.p02) (up_ℤ _ _ at_least.p02) over.p02 under.p02;
        p11 = no_wider (pair_kind 1 1) 40 8 (pos low_shares.p11) (pos high_shares.p11) (pos (share_ends false a' b' c').p11) (pos (share_ends true a b c).p11) (up_ℤ _ _ at_most.p11) (up_ℤ _ _ at_least.p11) over.p11 under.p11;
        p12 = no_wider (pair_kind 1 2) 40 8 (pos low_shares.p12) (pos high_shares.p12) (pos (share_ends false a' b' c').p12) (pos (share_ends true a b c).p12) (up_ℤ _ _ at_most.p12) (up_ℤ _ _ at_least.p12) over.p12 under.p12;
        p22 = no_wider (pair_kind 2 2) 40 8 (pos low_shares.p22) (pos high_shares.p22) (pos (share_ends false a' b' c').p22) (pos (share_ends true a b c).p22) (up_ℤ _ _ at_most.p22) (up_ℤ _ _ at_least.p22) over.p22 under.p22;
      }

  pub depths_enclosed : (p q r : Fraction) → ContainsFraction 20 a a' p → ContainsFraction 20 b b' q → ContainsFraction 20 c c' r → DepthsEnclosed low_depths high_depths p q r
  depths_enclosed p q r f g h = let least = least_depths false in let most = greatest_depths true in record {
    depth = enclosed depth_kind 20 low_depths.depth high_depths.depth p q r f g h least.depth most.depth;
    first = enclosed (weighted_kind 0) 20 low_depths.first high_depths.first p q r f g h least.first most.first;
    second = enclosed (weighted_kind 1) 20 low_depths.second high_depths.second p q r f g h least.second most.second;
    third = enclosed (weighted_kind 2) 20 low_depths.third high_depths.third p q r f g h least.third most.third;
  }

  pub depths_not_wide : Near a → Near b → Near c → Near a' → Near b' → Near c' → DepthsNotWide low_depths high_depths
  depths_not_wide f g h f' g' h' =
      let over = greatest_depths false in
      let under = least_depths true in
      let at_most = tight_depths a' b' c' f' g' h' in
      let at_least = tight_depths a b c f g h in
      record {
        depth = no_wider depth_kind 20 4 low_depths.depth high_depths.depth (depth_ends false a' b' c').depth (depth_ends true a b c).depth at_most.depth at_least.depth over.depth under.depth;
        first = no_wider (weighted_kind 0) 20 4 low_depths.first high_depths.first (depth_ends false a' b' c').first (depth_ends true a b c).first at_most.first at_least.first over.first under.first;
        second = no_wider (weighted_kind 1) 20 4 low_depths.second high_depths.second (depth_ends false a' b' c').second (depth_ends true a b c).second at_most.second at_least.second over.second under.second;
        third = no_wider (weighted_kind 2) 20 4 low_depths.third high_depths.third (depth_ends false a' b' c').third (depth_ends true a b c).third at_most.third at_least.third over.third under.third;
      }

-- ---- lower ends are at most the upper ones
in_order : (F : ℕ) (lo hi : ℤ) (m : Fraction) → ContainsFraction F lo hi m → lo ≤ℤ hi
in_order F lo hi m c = whole-≼_out lo hi (Order.≼_trans fractions c.from c.to)

down_ℤ : (m n : ℕ) → pos m ≤ℤ pos n → m ≤ n
down_ℤ m n h = omega (arith, ints, h)

pub record DepthsOrdered (l h : DepthEnds) : Type 0 where
  pub depth : l.depth ≤ℤ h.depth
  pub first : l.first ≤ℤ h.first
  pub second : l.second ≤ℤ h.second
  pub third : l.third ≤ℤ h.third

pub shares_ordered : (a b c a' b' c' : ℤ) → a ≤ℤ a' → b ≤ℤ b' → c ≤ℤ c' → SharesOrdered (share_ends false a b c) (share_ends true a' b' c')
shares_ordered a b c a' b' c' f g h = let e = shares_enclosed a b c a' b' c' (in_unit 20 a) (in_unit 20 b) (in_unit 20 c) (holds_low a a' f) (holds_low b b' g) (holds_low c c' h) in record {
  share = down_ℤ _ _ (in_order 40 _ _ _ e.share);
  c0 = down_ℤ _ _ (in_order 40 _ _ _ e.c0);
  c1 = down_ℤ _ _ (in_order 40 _ _ _ e.c1);
  c2 = down_ℤ _ _ (in_order 40 _ _ _ e.c2);
  p00 = down_ℤ _ _ (in_order 40 _ _ _ e.p00);
  p01 = down_ℤ _ _ (in_order 40 _ _ _ e.p01);
  p02 = down_ℤ _ _ (in_order 40 _ _ _ e.p02);
  p11 = down_ℤ _ _ (in_order 40 _ _ _ e.p11);
  p12 = down_ℤ _ _ (in_order 40 _ _ _ e.p12);
  p22 = down_ℤ _ _ (in_order 40 _ _ _ e.p22);
}

pub depths_ordered : (a b c a' b' c' : ℤ) → a ≤ℤ a' → b ≤ℤ b' → c ≤ℤ c' → DepthsOrdered (depth_ends false a b c) (depth_ends true a' b' c')
depths_ordered a b c a' b' c' f g h = let e = depths_enclosed a b c a' b' c' (in_unit 20 a) (in_unit 20 b) (in_unit 20 c) (holds_low a a' f) (holds_low b b' g) (holds_low c c' h) in record {
  depth = in_order 20 _ _ _ e.depth;
  first = in_order 20 _ _ _ e.first;
  second = in_order 20 _ _ _ e.second;
  third = in_order 20 _ _ _ e.third;
}
