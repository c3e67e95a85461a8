-- Where no corner of a tetrahedron lies below a waterplane nothing of it is under water, and where none lies above all of it is: the
-- volume of the hull at such planes.
use mathlib.Core.Path.{◌≡◌, refl, sym, ◌∙◌, ap, ap₂}
use mathlib.Core.List.{List, [], ◌∷◌, ◌++◌}
use mathlib.Core.Logic.{◌≢◌}
use mathlib.Core.Bool.{Bool, true, false}
use Prim.Native.Nat.{ℕ, zero, suc}
use native.Mathlib.Omega.{arith}
use lib.IntN.{ℤ, pos}
use Rattle.std.specs.Prelude.{map, filter, cond}
use Rattle.std.proofs.lemmas.Grind.{flat_map-append}
use Rattle.std.specs.List.{AllByRecursion}
use Rattle.exact_algebra.specs.Expression.{var, number, ◌:+◌, ◌:-◌, ◌:*◌, opposite}
use Rattle.exact_algebra.specs.OrderedField.{Sign, below, level, above}
use Rattle.exact_algebra.proofs.Ring.{ring, ring_from, none, given}
use Rattle.exact_algebra.proofs.Order as Order
use Rattle.exact_algebra.proofs.Sign.{above-ne-below}
use Rattle.exact_algebra.proofs.Fraction.{Fraction, nought, ◌⊕◌, ◌⊗◌, inverse, sign, fractions, fraction_ring}
use Rattle.exact_algebra.proofs.Whole.{whole}
use Rattle.hull_model.specs.declared.node.Node.{Node}
use Rattle.hull_model.specs.Fractions.{sum_over}
use Rattle.hull_model.specs.Lid.{lid_by, lid_of, lids}
use Rattle.hull_model.specs.TriangleCut.{Corners, are_opposite, side}
use Rattle.hull_model.specs.TetrahedronCut.{Tetrahedron, with_corners, Split, uncut, parts, split_by, split, pieces, is_kept, is_kept_by, kept_pieces, are_parted}
use Rattle.hull_model.specs.Waterplane.{Waterplane, Position, position_of, under}
use Rattle.hull_model.specs.Submerged.{submerged_pieces, determinant, volume_of}
use Rattle.hull_model.proofs.ShareSplits.{sum_over-append, sum_over-one, sum_over-none}
use Rattle.hull_polyhedron.specs.Columns.{depth}
use Rattle.hull_polyhedron.proofs.Determinants.{magnitude_right, six_determinant}
use Rattle.hull_polyhedron.proofs.Pieces.{NoneAbove, not_kept, sides_none_below, sides_none_above}
use Rattle.hull_polyhedron.proofs.Placed.{six_by, area_of}

-- ---- a tetrahedron on one side of the plane is one piece
never_opposite_below : (p q : Sign) → p ≢ above → q ≢ above → are_opposite p q ≡ false
never_opposite_below p q h k = grind arith

never_opposite_above : (p q : Sign) → p ≢ below → q ≢ below → are_opposite p q ≡ false
never_opposite_above p q h k = grind arith

none_kept : (p q r s : Sign) → NoneAbove p q r s → is_kept_by p q r s ≡ false
none_kept p q r s n = grind arith

module _ {C : Type 0} (corners : Corners C) where
  split_uncut : (t : Tetrahedron C) → are_parted corners t.a t.b ≡ false → are_parted corners t.a t.c ≡ false → are_parted corners t.a t.d ≡ false → are_parted corners t.b t.c ≡ false → are_parted corners t.b t.d ≡ false → are_parted corners t.c t.d ≡ false
      → split corners t ≡ uncut
  split_uncut t e f g h k l = λ i. split_by corners (e i) (f i) (g i) (h i) (k i) (l i) t.a t.b t.c t.d

  split_dry : (t : Tetrahedron C) → sides_none_above corners t → split corners t ≡ uncut
  split_dry t n = split_uncut t (never_opposite_below _ _ n.0 n.1) (never_opposite_below _ _ n.0 n.2) (never_opposite_below _ _ n.0 n.3) (never_opposite_below _ _ n.1 n.2) (never_opposite_below _ _ n.1 n.3) (never_opposite_below _ _ n.2 n.3)

  split_wet : (t : Tetrahedron C) → sides_none_below corners t → split corners t ≡ uncut
  split_wet t n = split_uncut t (never_opposite_above _ _ n.0 n.1) (never_opposite_above _ _ n.0 n.2) (never_opposite_above _ _ n.0 n.3) (never_opposite_above _ _ n.1 n.2) (never_opposite_above _ _ n.1 n.3) (never_opposite_above _ _ n.2 n.3)

  abbrev after : ℕ → Tetrahedron C → Split C → List (Tetrahedron C)
  after k t s = elim s [ uncut ↦ t ∷ [] | parts p q ↦ pieces corners k p ++ pieces corners k q ]

  one_piece : (k : ℕ) (t : Tetrahedron C) → split corners t ≡ uncut → pieces corners k t ≡ t ∷ []
  unfolding pieces
  one_piece zero t e = refl
  one_piece (suc k) t e = ap (after k t) e

  kept_of_one : (t : Tetrahedron C) (b : Bool) → split corners t ≡ uncut → is_kept corners t ≡ b → kept_pieces corners t ≡ cond b (t ∷ []) []
  unfolding kept_pieces
  kept_of_one t b e k = ap (filter (is_kept corners)) (one_piece 4 t e) ∙ ap (λ (b : Bool). cond b (t ∷ []) []) k

  pub nothing_kept : (t : Tetrahedron C) → sides_none_above corners t → kept_pieces corners t ≡ []
  nothing_kept t n = kept_of_one t false (split_dry t n) (none_kept (side corners t.a) (side corners t.b) (side corners t.c) (side corners t.d) n)

-- ---- volumes
module _ (plane : Waterplane) (first last : ℤ) where
  abbrev corners : Corners Position
  corners = under plane first last

  -- with all corners in the plane there is no volume
  flat : (t : Tetrahedron Position) → sides_none_below corners t → sides_none_above corners t → volume_of t ≡ nought
  unfolding six_by
  flat t n m = ap (λ x. x ⊗ inverse (whole (pos 6))) (magnitude_right true t (Order.nonnegative_same fractions no_volume (Order.nonnegative-nought fractions)) ∙ no_volume)
      ∙ ring fraction_ring (inverse (whole (pos 6)) ∷ []) (number 0 :* var 0) (number 0) refl
    where
      at_level : (s : Sign) → s ≢ below → s ≢ above → s ≡ level
      at_level s h k = grind arith

      no_depth : (p : Position) → sign (depth plane first last p) ≢ below → sign (depth plane first last p) ≢ above → depth plane first last p ≡ nought
      no_depth p h k = fractions.laws.nought_from_sign (depth plane first last p) (at_level _ h k)

      no_volume : determinant t ≡ nought
      no_volume = sym (six_determinant plane first last t)
          ∙ ring_from fraction_ring (depth plane first last t.a ∷ depth plane first last t.b ∷ depth plane first last t.c ∷ depth plane first last t.d ∷ area_of plane t.a t.b t.c ∷ area_of plane t.a t.b t.d ∷ area_of plane t.a t.c t.d ∷ [])
          ((opposite (var 4 :- var 5 :+ var 6), var 0, number 0) ∷ (var 6, var 1, number 0) ∷ (opposite (var 5), var 2, number 0) ∷ (var 4, var 3, number 0) ∷ [])
          (given (no_depth t.a n.0 m.0) (given (no_depth t.b n.1 m.1) (given (no_depth t.c n.2 m.2) (given (no_depth t.d n.3 m.3) none))))
          ((var 3 :- var 0) :* var 4 :- (var 2 :- var 0) :* var 5 :+ (var 1 :- var 0) :* var 6) (number 0) refl

  -- a sum of what is 0 where there is no volume
  module _ (g : Tetrahedron Position → Fraction) (flat_is : (t : Tetrahedron Position) → volume_of t ≡ nought → g t ≡ nought) where
    wet_sum : (t : Tetrahedron Position) → sides_none_below corners t → sum_over g (kept_pieces corners t) ≡ g t
    unfolding sum_over
    wet_sum t n = go (is_kept corners t) refl
      where
        go : (b : Bool) → is_kept corners t ≡ b → sum_over g (kept_pieces corners t) ≡ g t
        go true e = ap (sum_over g) (kept_of_one corners t true (split_wet corners t n) e) ∙ sum_over-one g t
        go false e = ap (sum_over g) (kept_of_one corners t false (split_wet corners t n) e)
            ∙ sym (flat_is t (flat t n (not_kept (side corners t.a) (side corners t.b) (side corners t.c) (side corners t.d) e n)))

  -- of a list
  abbrev pub AreDry : List (Tetrahedron Node) → Type 0
  AreDry ts = AllByRecursion (λ t. sides_none_above corners (with_corners position_of t)) ts

  abbrev pub AreWet : List (Tetrahedron Node) → Type 0
  AreWet ts = AllByRecursion (λ t. sides_none_below corners (with_corners position_of t)) ts

  -- with all corners under the plane
  abbrev pub IsDeep : Tetrahedron Position → Type 0
  IsDeep t = (side corners t.a ≡ above) × (side corners t.b ≡ above) × (side corners t.c ≡ above) × (side corners t.d ≡ above)

  abbrev pub AreDeep : List (Tetrahedron Node) → Type 0
  AreDeep ts = AllByRecursion (λ t. IsDeep (with_corners position_of t)) ts

  pub no_pieces : (ts : List (Tetrahedron Node)) → AreDry ts → submerged_pieces plane first last ts ≡ []
  unfolding submerged_pieces
  no_pieces [] all = refl
  no_pieces (t ∷ ts) all = ap₂ ◌++◌ (nothing_kept corners (with_corners position_of t) all.0) (no_pieces ts all.1)

  pub nothing_submerged : (ts : List (Tetrahedron Node)) → AreDry ts → sum_over volume_of (submerged_pieces plane first last ts) ≡ nought
  nothing_submerged ts all = ap (sum_over volume_of) (no_pieces ts all) ∙ sum_over-none volume_of

  pub all_summed : (g : Tetrahedron Position → Fraction) → ((t : Tetrahedron Position) → volume_of t ≡ nought → g t ≡ nought)
      → (ts : List (Tetrahedron Node)) → AreWet ts → sum_over g (submerged_pieces plane first last ts) ≡ sum_over g (map (with_corners position_of) ts)
  unfolding submerged_pieces sum_over
  all_summed g flat_is [] all = refl
  all_summed g flat_is (t ∷ ts) all = sum_over-append g (kept_pieces corners (with_corners position_of t)) (submerged_pieces plane first last ts)
      ∙ ap₂ ◌⊕◌ (wet_sum g flat_is (with_corners position_of t) all.0) (all_summed g flat_is ts all.1)

  pub all_submerged : (ts : List (Tetrahedron Node)) → AreWet ts → sum_over volume_of (submerged_pieces plane first last ts) ≡ sum_over volume_of (map (with_corners position_of) ts)
  all_submerged ts all = all_summed volume_of (λ t e. e) ts all

  -- a tetrahedron under the plane has no lid
  deep_lid : (t : Tetrahedron Position) → IsDeep t → lid_of corners t ≡ []
  deep_lid t deep = λ i. lid_by (deep.0 i) (deep.1 i) (deep.2 i) (deep.3 i) t.a t.b t.c t.d

  deep_lids : (t : Tetrahedron Position) → IsDeep t → lids corners (kept_pieces corners t) ≡ []
  deep_lids t deep = go (is_kept corners t) refl
    where
      not_below : {s : Sign} → s ≡ above → s ≢ below
      not_below e f = above-ne-below (sym e ∙ f)

      whole : split corners t ≡ uncut
      whole = split_wet corners t (not_below deep.0, not_below deep.1, not_below deep.2, not_below deep.3)

      go : (b : Bool) → is_kept corners t ≡ b → lids corners (kept_pieces corners t) ≡ []
      go true e = ap (lids corners) (kept_of_one corners t true whole e) ∙ ap (λ xs. xs ++ []) (deep_lid t deep)
      go false e = ap (lids corners) (kept_of_one corners t false whole e)

  pub no_lids : (ts : List (Tetrahedron Node)) → AreDeep ts → lids corners (submerged_pieces plane first last ts) ≡ []
  unfolding submerged_pieces
  no_lids [] all = refl
  no_lids (t ∷ ts) all = flat_map-append (lid_of corners) (kept_pieces corners (with_corners position_of t)) (submerged_pieces plane first last ts)
      ∙ ap₂ ◌++◌ (deep_lids (with_corners position_of t) all.0) (no_lids ts all.1)
