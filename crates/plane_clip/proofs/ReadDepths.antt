-- Ends that went to bits and back, and what the calls at both ends give.
use Rattle.std.proofs.Common.{◌≡◌, sym, ◌∙◌, subst, ℤ, to_z, of_z, ◌≤ℤ◌, ◌<◌, ◌^◌, arith, ℕ, Bool, true, false, List, [], ◌∷◌}
use Rattle.std.proofs.lemmas.Int.{to_z-of_z, fits_signed_from_abs}
use mir.Syntax.{w64}
use mir.Val.{hbits}
use Rattle.outward_interval.specs.declared.span.Span.{Span}
use Rattle.plane_clip.specs.declared.shares.Shares.{Shares}
use Rattle.plane_clip.specs.Rounded.{Near, DepthEnds, share_ends, depth_ends, SharesOrdered, AreEachEnds, weighted_of}
use Rattle.plane_clip.proofs.Enclosed.{shares_ordered, depths_ordered}

abbrev pub read : ℤ → ℤ
read z = to_z w64 (of_z w64 z)

-- a depth that was read is the end that it stands for
pub read-is : (z e : ℤ) → Near z → z ≡ e → read z ≡ e
read-is z e h i = to_z-of_z w64 z (fits_signed_from_abs w64 z (below h)) ∙ i
  where
    below : {n : ℕ} → n < 2 ^ 41 → n < 2 ^ hbits w64
    below h = omega (arith, h)

-- three depths that were read
pub record AreRead (a b c x y z : ℤ) : Type 0 where
  pub first : read a ≡ x
  pub second : read b ≡ y
  pub third : read c ≡ z

pub are_read : (a b c x y z : ℤ) → Near a → Near b → Near c → a ≡ x → b ≡ y → c ≡ z → AreRead a b c x y z
are_read a b c x y z f g h i j k = record { first = read-is a x f i; second = read-is b y g j; third = read-is c z h k }

pub depths_read : (up : Bool) (a b c x y z : ℤ) → AreRead a b c x y z → depth_ends up (read a) (read b) (read c) ≡ depth_ends up x y z
depths_read up a b c x y z r = λ i. depth_ends up (r.first i) (r.second i) (r.third i)

pub shares_read : (up : Bool) (a b c x y z : ℤ) → AreRead a b c x y z → share_ends up (read a) (read b) (read c) ≡ share_ends up x y z
shares_read up a b c x y z r = λ i. share_ends up (r.first i) (r.second i) (r.third i)

-- four numbers are the fields of depth ends
pub record AreFields (d f s t : ℤ) (e : DepthEnds) : Type 0 where
  pub depth : d ≡ e.depth
  pub first : f ≡ e.first
  pub second : s ≡ e.second
  pub third : t ≡ e.third

pub fields_read : (up : Bool) (a b c x y z d f s t : ℤ) → AreRead a b c x y z → AreFields d f s t (depth_ends up (read a) (read b) (read c)) → AreFields d f s t (depth_ends up x y z)
fields_read up a b c x y z d f s t r e = subst (λ n. AreFields d f s t n) (depths_read up a b c x y z r) e

pub fields_ordered : (x y z x' y' z' d f s t d' f' s' t' : ℤ) → x ≤ℤ x' → y ≤ℤ y' → z ≤ℤ z' → AreFields d f s t (depth_ends false x y z) → AreFields d' f' s' t' (depth_ends true x' y' z')
    → (d ≤ℤ d') × (f ≤ℤ f') × (s ≤ℤ s') × (t ≤ℤ t')
fields_ordered x y z x' y' z' d f s t d' f' s' t' h k l e e' = let o = depths_ordered x y z x' y' z' h k l in
    (at d d' _ _ e.depth e'.depth o.depth, at f f' _ _ e.first e'.first o.first, at s s' _ _ e.second e'.second o.second, at t t' _ _ e.third e'.third o.third)
  where
    at : (d d' e e' : ℤ) → d ≡ e → d' ≡ e' → e ≤ℤ e' → d ≤ℤ d'
    at d d' e e' i j h = rw (i, j) h

pub fields_weighted : (spans : List (Span 20)) (l h : DepthEnds) (d f s t d' f' s' t' : ℤ) → AreFields d f s t l → AreFields d' f' s' t' h → AreEachEnds 20 spans (f ∷ s ∷ t ∷ []) (f' ∷ s' ∷ t' ∷ []) → AreEachEnds 20 spans (weighted_of l) (weighted_of h)
fields_weighted spans l h d f s t d' f' s' t' e e' = subst (λ (p : List ℤ × List ℤ). AreEachEnds 20 spans p.0 p.1) (λ i. (e.first i ∷ e.second i ∷ e.third i ∷ [], e'.first i ∷ e'.second i ∷ e'.third i ∷ []))

pub shares_in_order : (n m : Shares) (x y z x' y' z' : ℤ) → x ≤ℤ x' → y ≤ℤ y' → z ≤ℤ z' → n ≡ share_ends false x y z → m ≡ share_ends true x' y' z' → SharesOrdered n m
shares_in_order n m x y z x' y' z' h k l i j = subst (λ (p : Shares × Shares). SharesOrdered p.0 p.1) (λ t. (sym i t, sym j t)) (shares_ordered x y z x' y' z' h k l)
