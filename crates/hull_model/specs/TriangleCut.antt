-- A triangle cut along the line of depth 0, on one side of which depths are above 0 and on the other below.
use Rattle.std.specs.Prelude.{ℕ, zero, suc, Bool, true, false, ◌||◌, List, [], ◌∷◌, ◌++◌, filter}
use Rattle.exact_algebra.specs.OrderedField.{Sign, below, above}
use Rattle.exact_algebra.proofs.Fraction.{Fraction, ◌⊗◌, ◌⊖◌, inverse, sign}

pub record Triangle (C : Type 0) : Type 0 where
  pub a : C
  pub b : C
  pub c : C

abbrev pub triangle : {C : Type 0} → C → C → C → Triangle C
triangle a b c = record { a = a; b = b; c = c }

-- what a cut asks of corners: a depth, and the point between a first corner at 0 and a second at 1, at a parameter
pub record Corners (C : Type 0) : Type 0 where
  pub depth : C → Fraction
  pub between : Fraction → C → C → C

-- a triangle that is left whole, or its two parts
pub data Split (C : Type 0) : Type 0 where
  uncut : Split C
  parts : Triangle C → Triangle C → Split C

-- one above and one below
abbrev pub are_opposite : Sign → Sign → Bool
are_opposite above below = true
are_opposite below above = true
are_opposite _ _ = false

abbrev pub is_above : Sign → Bool
is_above above = true
is_above _ = false

-- none below and some above
abbrev pub is_kept_by : Sign → Sign → Sign → Bool
is_kept_by below _ _ = false
is_kept_by _ below _ = false
is_kept_by _ _ below = false
is_kept_by p q r = is_above p || is_above q || is_above r

module _ {C : Type 0} (corners : Corners C) where
  open corners use {depth, between}

  abbrev pub side : C → Sign
  side p = sign (depth p)

  -- the point of depth 0 between p and q, which lie on opposite sides
  unfoldable pub crossing : C → C → C
  crossing p q = between (depth p ⊗ inverse (depth p ⊖ depth q)) p q

  -- whether the ends of the edges a b, a c and b c lie on opposite sides: at the first edge where they do, the triangle is
  -- split, and in each part the crossing point replaces one end
  abbrev pub split_by : Bool → Bool → Bool → C → C → C → Split C
  split_by true _ _ a b c = parts (triangle (crossing a b) b c) (triangle a (crossing a b) c)
  split_by false true _ a b c = parts (triangle (crossing a c) b c) (triangle a b (crossing a c))
  split_by false false true a b c = parts (triangle a (crossing b c) c) (triangle a b (crossing b c))
  split_by false false false a b c = uncut

  abbrev pub split : Triangle C → Split C
  split t = split_by (are_opposite (side t.a) (side t.b)) (are_opposite (side t.a) (side t.c)) (are_opposite (side t.b) (side t.c)) t.a t.b t.c

  -- the pieces after so many rounds, in each of which every piece is split once more
  unfoldable pub pieces : ℕ → Triangle C → List (Triangle C)
  pieces zero t = t ∷ []
  pieces (suc rounds) t = elim (split t) [ uncut ↦ t ∷ [] | parts p q ↦ pieces rounds p ++ pieces rounds q ]

  -- no corner on the side below, some corner on the side above
  abbrev pub is_kept : Triangle C → Bool
  is_kept t = is_kept_by (side t.a) (side t.b) (side t.c)

  -- the kept pieces. Three rounds leave nothing to split, since each part has one corner fewer off the line than the whole
  unfoldable pub kept_pieces : Triangle C → List (Triangle C)
  kept_pieces t = filter is_kept (pieces 3 t)
