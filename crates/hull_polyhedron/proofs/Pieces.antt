-- The cut of a tetrahedron, for what adds up at each split and for what holds of both parts of a split where it holds of the whole.
use Prim.Native.Nat.{ℕ, zero, suc}
use native.Mathlib.Omega.{arith}
use mathlib.Core.Path.{◌≡◌, refl, sym, ◌∙◌, ap, ap₂, subst}
use mathlib.Core.List.{List, [], ◌∷◌, ◌++◌}
use mathlib.Core.Logic.{◌≢◌, ◌⊎◌, inl, inr}
use mathlib.Core.Bool.{Bool, true, false}
use Rattle.std.specs.Prelude.{filter, cond}
use Rattle.std.specs.List.{AllByRecursion}
use Rattle.exact_algebra.specs.Expression.{var, number, ◌:+◌, opposite}
use Rattle.exact_algebra.specs.OrderedField.{Sign, below, level, above}
use Rattle.exact_algebra.proofs.Ring.{ring_from, none, given}
use Rattle.exact_algebra.proofs.Fraction.{Fraction, nought, ◌⊕◌, fraction_ring}
use Rattle.hull_model.specs.Fractions.{sum_over}
use Rattle.hull_model.specs.TriangleCut.{Corners, are_opposite, side, crossing}
use Rattle.hull_model.specs.TetrahedronCut.{Tetrahedron, tetrahedron, Split, uncut, parts, is_kept_by, split_by, split, pieces, is_kept, kept_pieces, are_parted}
use Rattle.hull_model.proofs.TriangleCut as Cut
use Rattle.hull_model.proofs.TetrahedronRounds.{four_rounds_settle}
use Rattle.hull_model.proofs.ShareSplits.{sum_over-append, sum_over-one}

-- ---- the sides of four corners
abbrev pub NoneBelow : Sign → Sign → Sign → Sign → Type 0
NoneBelow p q r s = (p ≢ below) × (q ≢ below) × (r ≢ below) × (s ≢ below)

abbrev pub NoneAbove : Sign → Sign → Sign → Sign → Type 0
NoneAbove p q r s = (p ≢ above) × (q ≢ above) × (r ≢ above) × (s ≢ above)

beside_above : (q : Sign) → are_opposite above q ≡ false → q ≢ below
beside_above q e h = grind arith

beside_below : (q : Sign) → are_opposite below q ≡ false → q ≢ above
beside_below q e h = grind arith

-- where no edge has its ends on opposite sides, one side is empty
one_side : (p q r s : Sign) → are_opposite p q ≡ false → are_opposite p r ≡ false → are_opposite p s ≡ false → are_opposite q r ≡ false → are_opposite q s ≡ false → are_opposite r s ≡ false
    → NoneBelow p q r s ⊎ NoneAbove p q r s
one_side above q r s pq pr ps qr qs rs = inl (grind arith, beside_above q pq, beside_above r pr, beside_above s ps)
one_side below q r s pq pr ps qr qs rs = inr (grind arith, beside_below q pq, beside_below r pr, beside_below s ps)
one_side level above r s pq pr ps qr qs rs = inl (grind arith, grind arith, beside_above r qr, beside_above s qs)
one_side level below r s pq pr ps qr qs rs = inr (grind arith, grind arith, beside_below r qr, beside_below s qs)
one_side level level above s pq pr ps qr qs rs = inl (grind arith, grind arith, grind arith, beside_above s rs)
one_side level level below s pq pr ps qr qs rs = inr (grind arith, grind arith, grind arith, beside_below s rs)
one_side level level level above pq pr ps qr qs rs = inl (grind arith, grind arith, grind arith, grind arith)
one_side level level level below pq pr ps qr qs rs = inr (grind arith, grind arith, grind arith, grind arith)
one_side level level level level pq pr ps qr qs rs = inl (grind arith, grind arith, grind arith, grind arith)

pub kept_none_below : (p q r s : Sign) → is_kept_by p q r s ≡ true → NoneBelow p q r s
kept_none_below p q r s e = (grind arith, grind arith, grind arith, grind arith)

pub not_kept : (p q r s : Sign) → is_kept_by p q r s ≡ false → NoneBelow p q r s → NoneAbove p q r s
not_kept p q r s e n = (grind arith, grind arith, grind arith, grind arith)

module _ {C : Type 0} (corners : Corners C) where
  abbrev pub sides_none_below : Tetrahedron C → Type 0
  sides_none_below t = NoneBelow (side corners t.a) (side corners t.b) (side corners t.c) (side corners t.d)

  abbrev pub sides_none_above : Tetrahedron C → Type 0
  sides_none_above t = NoneAbove (side corners t.a) (side corners t.b) (side corners t.c) (side corners t.d)

  -- what is said of a tetrahedron that is left whole, and of one with its two parts
  abbrev OfSplit : Type 0 → (Tetrahedron C → Tetrahedron C → Type 0) → Split C → Type 0
  OfSplit W P uncut = W
  OfSplit W P (parts p q) = P p q

  -- what holds of the two parts at each edge
  pub record AtEdges (P : Tetrahedron C → Tetrahedron C → Tetrahedron C → Type 0) : Type 0 where
    pub ab : (a b c d : C) → are_parted corners a b ≡ true → P (tetrahedron a b c d) (tetrahedron (crossing corners a b) b c d) (tetrahedron a (crossing corners a b) c d)
    pub ac : (a b c d : C) → are_parted corners a c ≡ true → P (tetrahedron a b c d) (tetrahedron (crossing corners a c) b c d) (tetrahedron a b (crossing corners a c) d)
    pub ad : (a b c d : C) → are_parted corners a d ≡ true → P (tetrahedron a b c d) (tetrahedron (crossing corners a d) b c d) (tetrahedron a b c (crossing corners a d))
    pub bc : (a b c d : C) → are_parted corners b c ≡ true → P (tetrahedron a b c d) (tetrahedron a (crossing corners b c) c d) (tetrahedron a b (crossing corners b c) d)
    pub bd : (a b c d : C) → are_parted corners b d ≡ true → P (tetrahedron a b c d) (tetrahedron a (crossing corners b d) c d) (tetrahedron a b c (crossing corners b d))
    pub cd : (a b c d : C) → are_parted corners c d ≡ true → P (tetrahedron a b c d) (tetrahedron a b (crossing corners c d) d) (tetrahedron a b c (crossing corners c d))

  module _ (P : Tetrahedron C → Tetrahedron C → Tetrahedron C → Type 0) (at : AtEdges P) where
    by_edges : (a b c d : C) (ab ac ad bc bd cd : Bool)
        → are_parted corners a b ≡ ab → are_parted corners a c ≡ ac → are_parted corners a d ≡ ad → are_parted corners b c ≡ bc → are_parted corners b d ≡ bd → are_parted corners c d ≡ cd
        → OfSplit (sides_none_below (tetrahedron a b c d) ⊎ sides_none_above (tetrahedron a b c d)) (P (tetrahedron a b c d)) (split_by corners ab ac ad bc bd cd a b c d)
    by_edges a b c d true _ _ _ _ _ e _ _ _ _ _ = at.ab a b c d e
    by_edges a b c d false true _ _ _ _ _ e _ _ _ _ = at.ac a b c d e
    by_edges a b c d false false true _ _ _ _ _ e _ _ _ = at.ad a b c d e
    by_edges a b c d false false false true _ _ _ _ _ e _ _ = at.bc a b c d e
    by_edges a b c d false false false false true _ _ _ _ _ e _ = at.bd a b c d e
    by_edges a b c d false false false false false true _ _ _ _ _ e = at.cd a b c d e
    by_edges a b c d false false false false false false e f g h k l = one_side (side corners a) (side corners b) (side corners c) (side corners d) e f g h k l

    at_split : (t : Tetrahedron C) → OfSplit (sides_none_below t ⊎ sides_none_above t) (P t) (split corners t)
    at_split t = by_edges t.a t.b t.c t.d _ _ _ _ _ _ refl refl refl refl refl refl

  -- a tetrahedron that isn't split lies on one side
  pub whole_side : (t : Tetrahedron C) → split corners t ≡ uncut → sides_none_below t ⊎ sides_none_above t
  whole_side t e = subst (λ (s : Split C). OfSplit (sides_none_below t ⊎ sides_none_above t) (λ p q. Unit {0}) s) e (at_split (λ t p q. Unit {0})
      (record { ab = λ a b c d e. tt; ac = λ a b c d e. tt; ad = λ a b c d e. tt; bc = λ a b c d e. tt; bd = λ a b c d e. tt; cd = λ a b c d e. tt }) t)

  -- what holds of both parts of a split where it holds of the whole, holds of all pieces
  module _ (Q : Tetrahedron C → Type 0) (at : AtEdges (λ t p q. Q t → Q p × Q q)) where
    pub all_pieces : (k : ℕ) (t : Tetrahedron C) → Q t → AllByRecursion Q (pieces corners k t)
    unfolding pieces
    all_pieces zero t h = (h, tt)
    all_pieces (suc k) t h = go (split corners t) (at_split (λ t p q. Q t → Q p × Q q) at t) (all_pieces k)
      where
        append : (xs ys : List (Tetrahedron C)) → AllByRecursion Q xs → AllByRecursion Q ys → AllByRecursion Q (xs ++ ys)
        append [] ys h k = k
        append (x ∷ xs) ys h k = (h.0, append xs ys h.1 k)

        go : (s : Split C) → OfSplit (sides_none_below t ⊎ sides_none_above t) (λ p q. Q t → Q p × Q q) s → ((u : Tetrahedron C) → Q u → AllByRecursion Q (pieces corners k u))
            → AllByRecursion Q (elim s [ uncut ↦ t ∷ [] | parts p q ↦ pieces corners k p ++ pieces corners k q ])
        go uncut x f = (h, tt)
        go (parts p q) x f = append (pieces corners k p) (pieces corners k q) (f p (x h).0) (f q (x h).1)

    all_filtered : (ts : List (Tetrahedron C)) → AllByRecursion Q ts → AllByRecursion (λ t. (is_kept corners t ≡ true) × Q t) (filter (is_kept corners) ts)
    all_filtered [] h = tt
    all_filtered (t ∷ ts) h = go (is_kept corners t) refl (all_filtered ts h.1)
      where
        go : (b : Bool) → is_kept corners t ≡ b → AllByRecursion (λ t. (is_kept corners t ≡ true) × Q t) (filter (is_kept corners) ts)
            → AllByRecursion (λ t. (is_kept corners t ≡ true) × Q t) (cond b (t ∷ filter (is_kept corners) ts) (filter (is_kept corners) ts))
        go true e rest = ((e, h.0), rest)
        go false e rest = rest

    pub all_kept : (t : Tetrahedron C) → Q t → AllByRecursion (λ t. (is_kept corners t ≡ true) × Q t) (kept_pieces corners t)
    unfolding kept_pieces
    all_kept t h = all_filtered (pieces corners 4 t) (all_pieces 4 t h)

  -- what adds up at each split is its sum over the pieces
  module _ (g : Tetrahedron C → Fraction) (at : AtEdges (λ t p q. g t ≡ g p ⊕ g q)) where
    pub sum_pieces : (k : ℕ) (t : Tetrahedron C) → sum_over g (pieces corners k t) ≡ g t
    unfolding pieces
    sum_pieces zero t = sum_over-one g t
    sum_pieces (suc k) t = go (split corners t) (at_split (λ t p q. g t ≡ g p ⊕ g q) at t) (sum_pieces k)
      where
        go : (s : Split C) → OfSplit (sides_none_below t ⊎ sides_none_above t) (λ p q. g t ≡ g p ⊕ g q) s → ((u : Tetrahedron C) → sum_over g (pieces corners k u) ≡ g u)
            → sum_over g (elim s [ uncut ↦ t ∷ [] | parts p q ↦ pieces corners k p ++ pieces corners k q ]) ≡ g t
        go uncut x f = sum_over-one g t
        go (parts p q) x f = sum_over-append g (pieces corners k p) (pieces corners k q) ∙ ap₂ ◌⊕◌ (f p) (f q) ∙ sym x

  -- where it is nought if no corner is above, it is its sum over the kept pieces
  module _ (linear : Cut.IsLinear corners) (g : Tetrahedron C → Fraction) (at : AtEdges (λ t p q. g t ≡ g p ⊕ g q)) (dry : (t : Tetrahedron C) → sides_none_above t → g t ≡ nought) where
    dry_piece : (t : Tetrahedron C) → split corners t ≡ uncut → is_kept corners t ≡ false → g t ≡ nought
    dry_piece t e k = go (whole_side t e)
      where
        go : sides_none_below t ⊎ sides_none_above t → g t ≡ nought
        go (inl n) = dry t (not_kept (side corners t.a) (side corners t.b) (side corners t.c) (side corners t.d) k n)
        go (inr n) = dry t n

    sum_filtered : (ts : List (Tetrahedron C)) → AllByRecursion (λ t. split corners t ≡ uncut) ts → sum_over g (filter (is_kept corners) ts) ≡ sum_over g ts
    unfolding sum_over
    sum_filtered [] settled = refl
    sum_filtered (t ∷ ts) settled = go (is_kept corners t) refl (sum_filtered ts settled.1)
      where
        go : (b : Bool) → is_kept corners t ≡ b → sum_over g (filter (is_kept corners) ts) ≡ sum_over g ts → sum_over g (cond b (t ∷ filter (is_kept corners) ts) (filter (is_kept corners) ts)) ≡ g t ⊕ sum_over g ts
        go true e rest = ap (λ x. g t ⊕ x) rest
        go false e rest = ring_from fraction_ring (sum_over g (filter (is_kept corners) ts) ∷ g t ∷ sum_over g ts ∷ [])
            ((number 1, var 0, var 2) ∷ (opposite (number 1), var 1, number 0) ∷ [])
            (given rest (given (dry_piece t settled.0 e) none)) (var 0) (var 1 :+ var 2) refl

    pub sum_kept : (t : Tetrahedron C) → sum_over g (kept_pieces corners t) ≡ g t
    unfolding kept_pieces
    sum_kept t = sum_filtered (pieces corners 4 t) (four_rounds_settle corners linear t) ∙ sum_pieces g at 4 t
