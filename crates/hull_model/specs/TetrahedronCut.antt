-- A tetrahedron cut along the plane of depth 0, on one side of which depths are above 0 and on the other below.
use Rattle.std.specs.Prelude.{ℕ, zero, suc, Bool, true, false, ◌||◌, List, [], ◌∷◌, ◌++◌, filter}
use Rattle.exact_algebra.specs.OrderedField.{Sign, below}
use Rattle.hull_model.specs.TriangleCut.{Corners, are_opposite, is_above, side, crossing}

pub record Tetrahedron (C : Type 0) : Type 0 where
  pub a : C
  pub b : C
  pub c : C
  pub d : C

abbrev pub tetrahedron : {C : Type 0} → C → C → C → C → Tetrahedron C
tetrahedron a b c d = record { a = a; b = b; c = c; d = d }

-- the same corners, each in another form
abbrev pub with_corners : {C D : Type 0} → (C → D) → Tetrahedron C → Tetrahedron D
with_corners f t = tetrahedron (f t.a) (f t.b) (f t.c) (f t.d)

-- a tetrahedron that is left whole, or its two parts
pub data Split (C : Type 0) : Type 0 where
  uncut : Split C
  parts : Tetrahedron C → Tetrahedron C → Split C

-- none below and some above
abbrev pub is_kept_by : Sign → Sign → Sign → Sign → Bool
is_kept_by below _ _ _ = false
is_kept_by _ below _ _ = false
is_kept_by _ _ below _ = false
is_kept_by _ _ _ below = false
is_kept_by p q r s = is_above p || is_above q || is_above r || is_above s

module _ {C : Type 0} (corners : Corners C) where
  -- whether the ends of the edges a b, a c, a d, b c, b d and c d lie on opposite sides: at the first edge where they do, the
  -- tetrahedron is split, and in each part the crossing point replaces one end
  abbrev pub split_by : Bool → Bool → Bool → Bool → Bool → Bool → C → C → C → C → Split C
  split_by true _ _ _ _ _ a b c d = parts (tetrahedron (crossing corners a b) b c d) (tetrahedron a (crossing corners a b) c d)
  split_by false true _ _ _ _ a b c d = parts (tetrahedron (crossing corners a c) b c d) (tetrahedron a b (crossing corners a c) d)
  split_by false false true _ _ _ a b c d = parts (tetrahedron (crossing corners a d) b c d) (tetrahedron a b c (crossing corners a d))
  split_by false false false true _ _ a b c d = parts (tetrahedron a (crossing corners b c) c d) (tetrahedron a b (crossing corners b c) d)
  split_by false false false false true _ a b c d = parts (tetrahedron a (crossing corners b d) c d) (tetrahedron a b c (crossing corners b d))
  split_by false false false false false true a b c d = parts (tetrahedron a b (crossing corners c d) d) (tetrahedron a b c (crossing corners c d))
  split_by false false false false false false a b c d = uncut

  abbrev pub are_parted : C → C → Bool
  are_parted p q = are_opposite (side corners p) (side corners q)

  abbrev pub split : Tetrahedron C → Split C
  split t = split_by (are_parted t.a t.b) (are_parted t.a t.c) (are_parted t.a t.d) (are_parted t.b t.c) (are_parted t.b t.d) (are_parted t.c t.d) t.a t.b t.c t.d

  -- the pieces after so many rounds, in each of which every piece is split once more
  unfoldable pub pieces : ℕ → Tetrahedron C → List (Tetrahedron C)
  pieces zero t = t ∷ []
  pieces (suc rounds) t = elim (split t) [ uncut ↦ t ∷ [] | parts p q ↦ pieces rounds p ++ pieces rounds q ]

  -- no corner on the side below, some corner on the side above
  abbrev pub is_kept : Tetrahedron C → Bool
  is_kept t = is_kept_by (side corners t.a) (side corners t.b) (side corners t.c) (side corners t.d)

  -- the kept pieces. Four rounds leave nothing to split, since each part has one corner fewer off the plane than the whole
  unfoldable pub kept_pieces : Tetrahedron C → List (Tetrahedron C)
  kept_pieces t = filter is_kept (pieces 4 t)
