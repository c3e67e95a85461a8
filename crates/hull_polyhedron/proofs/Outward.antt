-- No face of the boundary is another the other way round: each points outwards, by a sum over its corners that doesn't depend on their order.
use Rattle.std.proofs.Common.{◌≡◌, refl, ◌∙◌, ap, ap₂, List, [], ◌∷◌, ℤ, pos, ◌+ℤ◌, ◌-ℤ◌, ◌*ℤ◌, neg_ℤ, ◌<ℤ◌, arith}
use mathlib.Core.Logic.{inl, inr}
use Rattle.std.proofs.lemmas.Int.{ints}
use Rattle.std.specs.List.{AllByRecursion}
use Rattle.exact_algebra.specs.Expression.{var, number, ◌:+◌, ◌:*◌, opposite}
use Rattle.exact_algebra.proofs.Ring.{ring}
use Rattle.exact_algebra.proofs.WholeNumbers.{integers}
use Rattle.hull_model.specs.declared.node.Node.{Node}
use Rattle.hull_model.specs.declared.vector.Vector.{Vector}
use Rattle.hull_model.specs.TriangleCut.{Triangle, triangle}
use Rattle.hull_model.specs.Faces.{doubled_area}
use Rattle.hull_model.specs.SignedFaces.{turned}
use Rattle.hull_model.specs.Boundary.{count}
use Rattle.hull_model.proofs.Balance.{IsOpposite, not_opposite, area_turned, area_rotated}

-- the sum of a number over the corners
abbrev pub over_corners : (Node → ℤ) → Triangle Node → ℤ
over_corners f t = (f t.a +ℤ f t.b) +ℤ f t.c

-- twice a height above the middle of the station at its place, and twice a place before or after the middle of the ship
module _ (middle : ℤ → ℤ) (centre : ℤ) where
  abbrev pub height_of : Node → ℤ
  height_of n = (n.z +ℤ n.z) -ℤ middle n.x

  abbrev pub place_of : Node → ℤ
  place_of n = (n.x +ℤ n.x) -ℤ centre

  -- a side points to the side on which it lies; a wall along the ship downwards at the bottom and upwards at the top; an end to its end
  pub data IsOutward : Triangle Node → Type 0 where
    side : {t : Triangle Node} → pos 0 <ℤ ((doubled_area t).y *ℤ over_corners (λ n. n.y) t) → IsOutward t
    flat : {t : Triangle Node} → (doubled_area t).y ≡ pos 0 → pos 0 <ℤ ((doubled_area t).z *ℤ over_corners height_of t) → IsOutward t
    end : {t : Triangle Node} → (doubled_area t).y ≡ pos 0 → (doubled_area t).z ≡ pos 0 → pos 0 <ℤ ((doubled_area t).x *ℤ over_corners place_of t) → IsOutward t

-- ---- opposite faces
negated : Vector → Vector
negated v = record { x = neg_ℤ v.x; y = neg_ℤ v.y; z = neg_ℤ v.z }

opposite_area : (f h : Triangle Node) → IsOpposite f h → doubled_area h ≡ negated (doubled_area f)
unfolding negated
opposite_area f h (inl e) = ap doubled_area e ∙ area_turned f
opposite_area f h (inr (inl e)) = ap doubled_area e ∙ area_rotated (triangle f.b f.a f.c) ∙ area_turned f
opposite_area f h (inr (inr e)) = ap doubled_area e ∙ area_rotated (triangle f.a f.c f.b) ∙ area_rotated (triangle f.b f.a f.c) ∙ area_turned f

same_corners : (k : Node → ℤ) (f h : Triangle Node) → IsOpposite f h → over_corners k h ≡ over_corners k f
same_corners k f h (inl e) = ap (over_corners k) e ∙ ring integers (k f.a ∷ k f.b ∷ k f.c ∷ []) ((var 1 :+ var 0) :+ var 2) ((var 0 :+ var 1) :+ var 2) refl
same_corners k f h (inr (inl e)) = ap (over_corners k) e ∙ ring integers (k f.a ∷ k f.b ∷ k f.c ∷ []) ((var 0 :+ var 2) :+ var 1) ((var 0 :+ var 1) :+ var 2) refl
same_corners k f h (inr (inr e)) = ap (over_corners k) e ∙ ring integers (k f.a ∷ k f.b ∷ k f.c ∷ []) ((var 2 :+ var 1) :+ var 0) ((var 0 :+ var 1) :+ var 2) refl

both_above : (a s b r : ℤ) → b ≡ neg_ℤ a → r ≡ s → pos 0 <ℤ (a *ℤ s) → pos 0 <ℤ (b *ℤ r) → ⊥
both_above a s b r e f h k = apart (a *ℤ s) (b *ℤ r) (ap₂ ◌*ℤ◌ e f ∙ ring integers (a ∷ s ∷ []) (opposite (var 0) :* var 1) (opposite (var 0 :* var 1)) refl) h k
  where
    apart : (m n : ℤ) → n ≡ neg_ℤ m → pos 0 <ℤ m → pos 0 <ℤ n → ⊥
    apart m n e h k = omega (arith, ints)

none_above : (a s : ℤ) → a ≡ pos 0 → pos 0 <ℤ (a *ℤ s) → ⊥
none_above a s e h = apart (a *ℤ s) (ap (λ n. n *ℤ s) e ∙ ring integers (s ∷ []) (number 0 :* var 0) (number 0) refl) h
  where
    apart : (m : ℤ) → m ≡ pos 0 → pos 0 <ℤ m → ⊥
    apart m e h = omega (arith, ints)

back_to_nought : {a b : ℤ} → b ≡ neg_ℤ a → b ≡ pos 0 → a ≡ pos 0
back_to_nought e h = omega (arith, ints)

on_to_nought : {a b : ℤ} → b ≡ neg_ℤ a → a ≡ pos 0 → b ≡ pos 0
on_to_nought e h = omega (arith, ints)

module _ (middle : ℤ → ℤ) (centre : ℤ) where
  abbrev Outward : Triangle Node → Type 0
  Outward t = IsOutward middle centre t

  no_pair : (f h : Triangle Node) → Outward f → Outward h → IsOpposite f h → ⊥
  unfolding negated
  no_pair f h p q o = go p q
    where
      x : (doubled_area h).x ≡ neg_ℤ (doubled_area f).x
      x = ap (λ (v : Vector). v.x) (opposite_area f h o)

      y : (doubled_area h).y ≡ neg_ℤ (doubled_area f).y
      y = ap (λ (v : Vector). v.y) (opposite_area f h o)

      z : (doubled_area h).z ≡ neg_ℤ (doubled_area f).z
      z = ap (λ (v : Vector). v.z) (opposite_area f h o)

      go : Outward f → Outward h → ⊥
      go (side m) (side n) = both_above (doubled_area f).y _ (doubled_area h).y _ y (same_corners (λ n. n.y) f h o) m n
      go (side m) (flat e n) = none_above (doubled_area f).y _ (back_to_nought y e) m
      go (side m) (end e e' n) = none_above (doubled_area f).y _ (back_to_nought y e) m
      go (flat e m) (side n) = none_above (doubled_area h).y _ (on_to_nought y e) n
      go (flat e m) (flat d n) = both_above (doubled_area f).z _ (doubled_area h).z _ z (same_corners (height_of middle centre) f h o) m n
      go (flat e m) (end d d' n) = none_above (doubled_area f).z _ (back_to_nought z d') m
      go (end e e' m) (side n) = none_above (doubled_area h).y _ (on_to_nought y e) n
      go (end e e' m) (flat d n) = none_above (doubled_area h).z _ (on_to_nought z e') n
      go (end e e' m) (end d d' n) = both_above (doubled_area f).x _ (doubled_area h).x _ x (same_corners (place_of middle centre) f h o) m n

  none_in : (f : Triangle Node) (us : List (Triangle Node)) → Outward f → AllByRecursion Outward us → count (turned f) us ≡ pos 0
  none_in f [] p all = refl
  none_in f (h ∷ us) p all = ap₂ ◌+ℤ◌ (not_opposite f h (no_pair f h p all.0)) (none_in f us p all.1)

  pub no_opposites : (ts us : List (Triangle Node)) → AllByRecursion Outward ts → AllByRecursion Outward us → AllByRecursion (λ f. count (turned f) us ≡ pos 0) ts
  no_opposites [] us all all' = tt
  no_opposites (f ∷ ts) us all all' = (none_in f us all.0 all', no_opposites ts us all.1 all')
