-- Spans with the ends of the means enclose these for all depths within three spans, and are no wider than they may be.
use mathlib.Core.Path.{◌≡◌, refl, subst}
use mathlib.Core.List.{List, [], ◌∷◌}
use Prim.Native.Nat.{ℕ}
use native.Mathlib.Omega.{arith}
use lib.IntN.{ℤ, pos}
use mathlib.Core.Bool.{true, false}
use lib.ListN.{get_or}
use Prim.Native.Nat.{◌+◌, ◌≤◌, ◌<◌, ◌^◌}
use Rattle.std.specs.Prelude.{length, unsigned_abs}
use Rattle.exact_fraction.specs.Bounds.{MagnitudeBelow}
use Rattle.exact_algebra.proofs.Fraction.{Fraction, ◌⊖◌, ◌≼◌}
use Rattle.exact_algebra.proofs.Whole.{whole}
use Rattle.exact_algebra.proofs.Span.{ContainsFraction}
use Rattle.std.specs.List.{AllByRecursion}
use Rattle.outward_interval.specs.Ends.{EndsBelow}
use Rattle.outward_interval.specs.declared.span.Span.{Span}
use Rattle.hull_model.specs.WetMean.{wet_share, wet_depth}
use Rattle.plane_clip.specs.declared.shares.Shares.{Shares}
use Rattle.plane_clip.specs.Rounded.{Near, AreSmall, share_ends, depth_ends, AreEndsOf, AreEachEnds, corners_of, pairs_of, weighted_of}
use Rattle.plane_clip.specs.Enclosure.{Mean, EnclosesMean, IsNoWider, Each, corner_means, pair_means, weighted_means}
use Rattle.plane_clip.proofs.Enclosed as Enclosed
use Rattle.plane_clip.proofs.Spread.{AreTightShares, tight_shares, AreAtMostOne, low_shares_most}

-- the spans of a list of three
pub three_spans : (h : List (Span 20)) (x y z : Span 20) → length h ≡ 3 → h ≡ get_or h 0 x ∷ get_or h 1 y ∷ get_or h 2 z ∷ []
three_spans (a ∷ b ∷ c ∷ []) x y z e = refl
three_spans [] x y z e = absurd (omega (arith, e))
three_spans (a ∷ []) x y z e = absurd (omega (arith, e))
three_spans (a ∷ b ∷ []) x y z e = absurd (omega (arith, e))
three_spans (a ∷ b ∷ c ∷ d ∷ rest) x y z e = absurd (omega (arith, e))

near_ends : (s : Span 20) → EndsBelow 41 s.lo s.hi → Near s.lo × Near s.hi
near_ends s e = (e.low, e.high)

pub near_spans : (h : List (Span 20)) (x y z : Span 20) → h ≡ x ∷ y ∷ z ∷ [] → AllByRecursion (λ s. EndsBelow 41 s.lo s.hi) h
    → (Near x.lo × Near x.hi) × (Near y.lo × Near y.hi) × (Near z.lo × Near z.hi)
near_spans h x y z e all = go (subst (λ (h : List (Span 20)). AllByRecursion (λ s. EndsBelow 41 s.lo s.hi) h) e all)
  where
    go : AllByRecursion (λ s. EndsBelow 41 s.lo s.hi) (x ∷ y ∷ z ∷ []) → (Near x.lo × Near x.hi) × (Near y.lo × Near y.hi) × (Near z.lo × Near z.hi)
    go a = (near_ends x a.0, near_ends y a.1.0, near_ends z a.1.1.0)

module _ {F : ℕ} (R : Span F → Mean → Type 0) where
  -- spans with these ends are so related to these means
  abbrev pub Ready : List ℤ → List ℤ → List Mean → Type 0
  Ready [] [] [] = Unit {0}
  Ready (lo ∷ los) (hi ∷ his) (mean ∷ means) = ((span : Span F) → AreEndsOf F span lo hi → R span mean) × Ready los his means
  Ready _ _ _ = ⊥

  pub each_ready : (los his : List ℤ) (means : List Mean) (spans : List (Span F)) → Ready los his means → AreEachEnds F spans los his → Each R spans means
  each_ready [] [] [] [] r e = tt
  each_ready (lo ∷ los) (hi ∷ his) (mean ∷ means) (span ∷ spans) r e = (r.0 span e.0, each_ready los his means spans r.1 e.1)
  each_ready [] [] [] (span ∷ spans) r e = absurd e
  each_ready (lo ∷ los) (hi ∷ his) (mean ∷ means) [] r e = absurd e
  each_ready [] [] (mean ∷ means) spans r e = absurd r
  each_ready [] (hi ∷ his) means spans r e = absurd r
  each_ready (lo ∷ los) [] means spans r e = absurd r
  each_ready (lo ∷ los) (hi ∷ his) [] spans r e = absurd r

contains-ends : (F : ℕ) (span : Span F) (lo hi : ℤ) (m : Fraction) → AreEndsOf F span lo hi → ContainsFraction F lo hi m → ContainsFraction F span.lo span.hi m
contains-ends F span lo hi m e c = rw (e.0, e.1) c

width-ends : (F : ℕ) (span : Span F) (lo hi : ℤ) (w : Fraction) → AreEndsOf F span lo hi → (whole hi ⊖ whole lo) ≼ w → (whole span.hi ⊖ whole span.lo) ≼ w
width-ends F span lo hi w e c = rw (e.0, e.1) c

module _ (x y z : Span 20) where
  abbrev H : List (Span 20)
  H = x ∷ y ∷ z ∷ []

  pub share_encloses : (span : Span 40) → AreEndsOf 40 span (pos (share_ends false x.lo y.lo z.lo).share) (pos (share_ends true x.hi y.hi z.hi).share)
      → EnclosesMean 40 H span wet_share
  share_encloses = (λ span e d w. contains-ends 40 span (pos (share_ends false x.lo y.lo z.lo).share) (pos (share_ends true x.hi y.hi z.hi).share) _ e
      (Enclosed.shares_enclosed x.lo y.lo z.lo x.hi y.hi z.hi d.first d.second d.third w.0 w.1 w.2).share)

  pub share_no_wider : (span : Span 40) → AreEndsOf 40 span (pos (share_ends false x.lo y.lo z.lo).share) (pos (share_ends true x.hi y.hi z.hi).share)
      → IsNoWider 40 16 H span wet_share
  share_no_wider = (λ span e. width-ends 40 span (pos (share_ends false x.lo y.lo z.lo).share) (pos (share_ends true x.hi y.hi z.hi).share) _ e
      (Enclosed.shares_not_wide x.lo y.lo z.lo x.hi y.hi z.hi).share)

  pub corners_enclose : (spans : List (Span 40)) → AreEachEnds 40 spans (corners_of (share_ends false x.lo y.lo z.lo))
      (corners_of (share_ends true x.hi y.hi z.hi)) → Each (EnclosesMean 40 H) spans corner_means
  corners_enclose spans = each_ready (EnclosesMean 40 H) (corners_of (share_ends false x.lo y.lo z.lo)) (corners_of (share_ends true x.hi y.hi z.hi))
      corner_means spans (
        (λ span e d w. contains-ends 40 span (pos (share_ends false x.lo y.lo z.lo).c0) (pos (share_ends true x.hi y.hi z.hi).c0) _ e
            (Enclosed.shares_enclosed x.lo y.lo z.lo x.hi y.hi z.hi d.first d.second d.third w.0 w.1 w.2).c0),
        (
          (λ span e d w. contains-ends 40 span (pos (share_ends false x.lo y.lo z.lo).c1) (pos (share_ends true x.hi y.hi z.hi).c1) _ e
              (Enclosed.shares_enclosed x.lo y.lo z.lo x.hi y.hi z.hi d.first d.second d.third w.0 w.1 w.2).c1),
          (
            (λ span e d w. contains-ends 40 span (pos (share_ends false x.lo y.lo z.lo).c2) (pos (share_ends true x.hi y.hi z.hi).c2) _ e
                (Enclosed.shares_enclosed x.lo y.lo z.lo x.hi y.hi z.hi d.first d.second d.third w.0 w.1 w.2).c2),
            tt,
          ),
        ),
      )

  pub corners_no_wider : (spans : List (Span 40)) → AreEachEnds 40 spans (corners_of (share_ends false x.lo y.lo z.lo))
      (corners_of (share_ends true x.hi y.hi z.hi)) → Each (IsNoWider 40 16 H) spans corner_means
  corners_no_wider spans = let w = Enclosed.shares_not_wide x.lo y.lo z.lo x.hi y.hi z.hi in each_ready (IsNoWider 40 16 H)
      (corners_of (share_ends false x.lo y.lo z.lo)) (corners_of (share_ends true x.hi y.hi z.hi)) corner_means spans (
        (λ span e. width-ends 40 span (pos (share_ends false x.lo y.lo z.lo).c0) (pos (share_ends true x.hi y.hi z.hi).c0) _ e w.c0),
        (
          (λ span e. width-ends 40 span (pos (share_ends false x.lo y.lo z.lo).c1) (pos (share_ends true x.hi y.hi z.hi).c1) _ e w.c1),
          (
            (λ span e. width-ends 40 span (pos (share_ends false x.lo y.lo z.lo).c2) (pos (share_ends true x.hi y.hi z.hi).c2) _ e w.c2),
            tt,
          ),
        ),
      )

  pub pairs_enclose : (spans : List (Span 40)) → AreEachEnds 40 spans (pairs_of (share_ends false x.lo y.lo z.lo))
      (pairs_of (share_ends true x.hi y.hi z.hi)) → Each (EnclosesMean 40 H) spans pair_means
  pairs_enclose spans = each_ready (EnclosesMean 40 H) (pairs_of (share_ends false x.lo y.lo z.lo)) (pairs_of (share_ends true x.hi y.hi z.hi)) pair_means spans (
    (λ span e d w. contains-ends 40 span (pos (share_ends false x.lo y.lo z.lo).p00) (pos (share_ends true x.hi y.hi z.hi).p00) _ e
        (Enclosed.shares_enclosed x.lo y.lo z.lo x.hi y.hi z.hi d.first d.second d.third w.0 w.1 w.2).p00),
    (
      (λ span e d w. contains-ends 40 span (pos (share_ends false x.lo y.lo z.lo).p01) (pos (share_ends true x.hi y.hi z.hi).p01) _ e
          (Enclosed.shares_enclosed x.lo y.lo z.lo x.hi y.hi z.hi d.first d.second d.third w.0 w.1 w.2).p01),
      (
        (λ span e d w. contains-ends 40 span (pos (share_ends false x.lo y.lo z.lo).p02) (pos (share_ends true x.hi y.hi z.hi).p02) _ e
            (Enclosed.shares_enclosed x.lo y.lo z.lo x.hi y.hi z.hi d.first d.second d.third w.0 w.1 w.2).p02),
        (
          (λ span e d w. contains-ends 40 span (pos (share_ends false x.lo y.lo z.lo).p11) (pos (share_ends true x.hi y.hi z.hi).p11) _ e
              (Enclosed.shares_enclosed x.lo y.lo z.lo x.hi y.hi z.hi d.first d.second d.third w.0 w.1 w.2).p11),
          (
            (λ span e d w. contains-ends 40 span (pos (share_ends false x.lo y.lo z.lo).p12) (pos (share_ends true x.hi y.hi z.hi).p12) _ e
                (Enclosed.shares_enclosed x.lo y.lo z.lo x.hi y.hi z.hi d.first d.second d.third w.0 w.1 w.2).p12),
            (
              (λ span e d w. contains-ends 40 span (pos (share_ends false x.lo y.lo z.lo).p22) (pos (share_ends true x.hi y.hi z.hi).p22) _ e
                  (Enclosed.shares_enclosed x.lo y.lo z.lo x.hi y.hi z.hi d.first d.second d.third w.0 w.1 w.2).p22),
              tt,
            ),
          ),
        ),
      ),
    ),
  )

  pub pairs_no_wider : (spans : List (Span 40)) → AreEachEnds 40 spans (pairs_of (share_ends false x.lo y.lo z.lo))
      (pairs_of (share_ends true x.hi y.hi z.hi)) → Each (IsNoWider 40 16 H) spans pair_means
  pairs_no_wider spans = let w = Enclosed.shares_not_wide x.lo y.lo z.lo x.hi y.hi z.hi in each_ready (IsNoWider 40 16 H)
      (pairs_of (share_ends false x.lo y.lo z.lo)) (pairs_of (share_ends true x.hi y.hi z.hi)) pair_means spans (
        (λ span e. width-ends 40 span (pos (share_ends false x.lo y.lo z.lo).p00) (pos (share_ends true x.hi y.hi z.hi).p00) _ e w.p00),
        (
          (λ span e. width-ends 40 span (pos (share_ends false x.lo y.lo z.lo).p01) (pos (share_ends true x.hi y.hi z.hi).p01) _ e w.p01),
          (
            (λ span e. width-ends 40 span (pos (share_ends false x.lo y.lo z.lo).p02) (pos (share_ends true x.hi y.hi z.hi).p02) _ e w.p02),
            (
              (λ span e. width-ends 40 span (pos (share_ends false x.lo y.lo z.lo).p11) (pos (share_ends true x.hi y.hi z.hi).p11) _ e w.p11),
              (
                (λ span e. width-ends 40 span (pos (share_ends false x.lo y.lo z.lo).p12) (pos (share_ends true x.hi y.hi z.hi).p12) _ e w.p12),
                (
                  (λ span e. width-ends 40 span (pos (share_ends false x.lo y.lo z.lo).p22) (pos (share_ends true x.hi y.hi z.hi).p22) _ e w.p22),
                  tt,
                ),
              ),
            ),
          ),
        ),
      )

  pub depth_encloses : (span : Span 20) → AreEndsOf 20 span (depth_ends false x.lo y.lo z.lo).depth (depth_ends true x.hi y.hi z.hi).depth → EnclosesMean
      20 H span wet_depth
  depth_encloses = (λ span e d w. contains-ends 20 span ((depth_ends false x.lo y.lo z.lo).depth) ((depth_ends true x.hi y.hi z.hi).depth) _ e
      (Enclosed.depths_enclosed x.lo y.lo z.lo x.hi y.hi z.hi d.first d.second d.third w.0 w.1 w.2).depth)

  pub weighted_enclose : (spans : List (Span 20)) → AreEachEnds 20 spans (weighted_of (depth_ends false x.lo y.lo z.lo))
      (weighted_of (depth_ends true x.hi y.hi z.hi)) → Each (EnclosesMean 20 H) spans weighted_means
  weighted_enclose spans = each_ready (EnclosesMean 20 H) (weighted_of (depth_ends false x.lo y.lo z.lo)) (weighted_of (depth_ends true x.hi y.hi z.hi))
      weighted_means spans (
        (λ span e d w. contains-ends 20 span ((depth_ends false x.lo y.lo z.lo).first) ((depth_ends true x.hi y.hi z.hi).first) _ e
            (Enclosed.depths_enclosed x.lo y.lo z.lo x.hi y.hi z.hi d.first d.second d.third w.0 w.1 w.2).first),
        (
          (λ span e d w. contains-ends 20 span ((depth_ends false x.lo y.lo z.lo).second) ((depth_ends true x.hi y.hi z.hi).second) _ e
              (Enclosed.depths_enclosed x.lo y.lo z.lo x.hi y.hi z.hi d.first d.second d.third w.0 w.1 w.2).second),
          (
            (λ span e d w. contains-ends 20 span ((depth_ends false x.lo y.lo z.lo).third) ((depth_ends true x.hi y.hi z.hi).third) _ e
                (Enclosed.depths_enclosed x.lo y.lo z.lo x.hi y.hi z.hi d.first d.second d.third w.0 w.1 w.2).third),
            tt,
          ),
        ),
      )

  module _ (near_x : Near x.lo × Near x.hi) (near_y : Near y.lo × Near y.hi) (near_z : Near z.lo × Near z.hi) where
    pub depth_no_wider : (span : Span 20) → AreEndsOf 20 span (depth_ends false x.lo y.lo z.lo).depth (depth_ends true x.hi y.hi z.hi).depth
        → IsNoWider 20 8 H span wet_depth
    depth_no_wider = (λ span e. width-ends 20 span ((depth_ends false x.lo y.lo z.lo).depth) ((depth_ends true x.hi y.hi z.hi).depth) _ e
        (Enclosed.depths_not_wide x.lo y.lo z.lo x.hi y.hi z.hi near_x.0 near_y.0 near_z.0 near_x.1 near_y.1 near_z.1).depth)

    pub weighted_no_wider : (spans : List (Span 20)) → AreEachEnds 20 spans (weighted_of (depth_ends false x.lo y.lo z.lo))
        (weighted_of (depth_ends true x.hi y.hi z.hi)) → Each (IsNoWider 20 8 H) spans weighted_means
    weighted_no_wider spans = let w = Enclosed.depths_not_wide x.lo y.lo z.lo x.hi y.hi z.hi near_x.0 near_y.0 near_z.0 near_x.1 near_y.1 near_z.1 in
        each_ready (IsNoWider 20 8 H) (weighted_of (depth_ends false x.lo y.lo z.lo)) (weighted_of (depth_ends true x.hi y.hi z.hi)) weighted_means spans (
          (λ span e. width-ends 20 span ((depth_ends false x.lo y.lo z.lo).first) ((depth_ends true x.hi y.hi z.hi).first) _ e w.first),
          (
            (λ span e. width-ends 20 span ((depth_ends false x.lo y.lo z.lo).second) ((depth_ends true x.hi y.hi z.hi).second) _ e w.second),
            (
              (λ span e. width-ends 20 span ((depth_ends false x.lo y.lo z.lo).third) ((depth_ends true x.hi y.hi z.hi).third) _ e w.third),
              tt,
            ),
          ),
        )

-- ---- how great the ends may be
ends_below : (F bits : ℕ) (span : Span F) (lo hi : ℤ) → AreEndsOf F span lo hi → MagnitudeBelow bits lo → MagnitudeBelow bits hi → EndsBelow bits
    span.lo span.hi
ends_below F bits span lo hi e h k = record { low = rw (e.0) h; high = rw (e.1) k }

each_below : (F bits : ℕ) (los his : List ℤ) (spans : List (Span F)) → AllByRecursion (MagnitudeBelow bits) los → AllByRecursion (MagnitudeBelow bits)
    his → AreEachEnds F spans los his → AllByRecursion (λ s. EndsBelow bits s.lo s.hi) spans
each_below F bits [] [] [] l h e = tt
each_below F bits (lo ∷ los) (hi ∷ his) (span ∷ spans) l h e = (ends_below F bits span lo hi e.0 l.0 h.0, each_below F bits los his spans l.1 h.1 e.1)
each_below F bits [] [] (span ∷ spans) l h e = absurd e
each_below F bits [] (hi ∷ his) [] l h e = absurd e
each_below F bits [] (hi ∷ his) (span ∷ spans) l h e = absurd e
each_below F bits (lo ∷ los) [] [] l h e = absurd e
each_below F bits (lo ∷ los) [] (span ∷ spans) l h e = absurd e
each_below F bits (lo ∷ los) (hi ∷ his) [] l h e = absurd e

pub depth_below : (span : Span 20) (d d' : ℤ) → unsigned_abs d < 2 ^ 42 → unsigned_abs d' < 2 ^ 42 → AreEndsOf 20 span d d' → EndsBelow 42 span.lo span.hi
depth_below span d d' h k e = ends_below 20 42 span d d' e h k

pub weighted_below : (spans : List (Span 20)) (d f s t d' f' s' t' : ℤ) → AreSmall d f s t → AreSmall d' f' s' t' → AreEachEnds 20 spans
    (f ∷ s ∷ t ∷ []) (f' ∷ s' ∷ t' ∷ []) → AllByRecursion (λ s. EndsBelow 41 s.lo s.hi) spans
weighted_below spans d f s t d' f' s' t' a b e = each_below 20 41 (f ∷ s ∷ t ∷ []) (f' ∷ s' ∷ t' ∷ []) spans (a.1, (a.2, (a.3, tt))) (b.1, (b.2, (b.3, tt))) e

module _ (a b c a' b' c' : ℤ) where
  abbrev low_shares : Shares
  low_shares = share_ends false a b c

  abbrev high_shares : Shares
  high_shares = share_ends true a' b' c'

  low_most : AreAtMostOne low_shares
  low_most = low_shares_most a b c

  high_most : AreAtMostOne (share_ends false a' b' c')
  high_most = low_shares_most a' b' c'

  tight : AreTightShares (share_ends false a' b' c') high_shares
  tight = tight_shares a' b' c'

  low_below : (n : ℕ) → n ≤ 2 ^ 40 → MagnitudeBelow 41 (pos n)
  low_below n h = omega (arith, h)

  high_below : (n m : ℕ) → n ≤ 2 ^ 40 → m ≤ n + 8 → MagnitudeBelow 41 (pos m)
  high_below n m h k = omega (arith, h, k)

  pub share_below : (span : Span 40) → AreEndsOf 40 span (pos low_shares.share) (pos high_shares.share) → EndsBelow 41 span.lo span.hi
  share_below span e = ends_below 40 41 span (pos low_shares.share) (pos high_shares.share) e (low_below _ low_most.share)
      (high_below _ _ high_most.share tight.share)

  pub corners_below : (spans : List (Span 40)) → AreEachEnds 40 spans (corners_of low_shares) (corners_of high_shares) → AllByRecursion
      (λ s. EndsBelow 41 s.lo s.hi) spans
  corners_below spans e = each_below 40 41 (corners_of low_shares) (corners_of high_shares) spans
      (low_below _ low_most.c0, (low_below _ low_most.c1, (low_below _ low_most.c2, tt)))
      (high_below _ _ high_most.c0 tight.c0, (high_below _ _ high_most.c1 tight.c1, (high_below _ _ high_most.c2 tight.c2, tt))) e

  pub pairs_below : (spans : List (Span 40)) → AreEachEnds 40 spans (pairs_of low_shares) (pairs_of high_shares) → AllByRecursion
      (λ s. EndsBelow 41 s.lo s.hi) spans
  pairs_below spans e = each_below 40 41 (pairs_of low_shares) (pairs_of high_shares) spans (
    low_below _ low_most.p00,
    (
      low_below _ low_most.p01,
      (
        low_below _ low_most.p02,
        (low_below _ low_most.p11, (low_below _ low_most.p12, (low_below _ low_most.p22, tt))),
      ),
    ),
  ) (
    high_below _ _ high_most.p00 tight.p00,
    (
      high_below _ _ high_most.p01 tight.p01,
      (
        high_below _ _ high_most.p02 tight.p02,
        (
          high_below _ _ high_most.p11 tight.p11,
          (high_below _ _ high_most.p12 tight.p12, (high_below _ _ high_most.p22 tight.p22, tt)),
        ),
      ),
    ),
  ) e
