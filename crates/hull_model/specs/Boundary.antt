-- What is left of faces after opposite ones cancel.
use Rattle.std.specs.Prelude.{◌≡◌, ◌≢◌, ◌&&◌, cond, ℤ, pos, ◌+ℤ◌, ◌-ℤ◌, ◌*ℤ◌, List, [], ◌∷◌}
use Rattle.std.specs.Ordering.{int_eq}
use Rattle.exact_algebra.specs.Ring.{Operations}
use Rattle.std.specs.List.{AllByRecursion}
use Rattle.hull_model.specs.declared.node.Node.{Node}
use Rattle.hull_model.specs.declared.vector.Vector.{Vector}
use Rattle.hull_model.specs.TriangleCut.{Triangle, triangle}
use Rattle.hull_model.specs.Faces.{doubled_area}
use Rattle.hull_model.specs.SignedFaces.{turned}

abbrev pub no_area : Vector
no_area = record { x = pos 0; y = pos 0; z = pos 0 }

-- the area vector isn't 0
abbrev pub HasArea : Triangle Node → Type 0
HasArea t = doubled_area t ≢ no_area

-- 1 where two nodes are the same, else 0
unfoldable pub same_node : Node → Node → ℤ
same_node p q = cond (int_eq p.x q.x && (int_eq p.y q.y && int_eq p.z q.z)) (pos 1) (pos 0)

-- 1 where the corners of f are p, q and r in this order, else 0
abbrev pub in_order : Triangle Node → Node → Node → Node → ℤ
in_order f p q r = (same_node f.a p *ℤ same_node f.b q) *ℤ same_node f.c r

-- 1 where f is the triangle t, whichever corner comes first, else 0
abbrev pub is_face : Triangle Node → Triangle Node → ℤ
is_face t f = (in_order f t.a t.b t.c +ℤ in_order f t.b t.c t.a) +ℤ in_order f t.c t.a t.b

-- the sum of f over a list
abbrev pub sum_of : {A : Type 0} → (A → ℤ) → List A → ℤ
sum_of f [] = pos 0
sum_of f (x ∷ xs) = f x +ℤ sum_of f xs

-- how many of the faces are t
abbrev pub count : Triangle Node → List (Triangle Node) → ℤ
count t faces = sum_of (is_face t) faces

-- how many are t, less how many are t the other way round
abbrev pub balance : Triangle Node → List (Triangle Node) → ℤ
balance t faces = sum_of (λ f. is_face t f -ℤ is_face (turned t) f) faces

-- two lists of faces that are the same after opposite ones cancel, those of no area left aside
abbrev pub AreBalanced : List (Triangle Node) → List (Triangle Node) → Type 0
AreBalanced faces others = (t : Triangle Node) → HasArea t → balance t faces ≡ balance t others

-- the faces that are left of others after opposite ones cancel, but for those of no area
pub record IsBoundary (faces others : List (Triangle Node)) : Type 0 where
  pub balanced : AreBalanced faces others
  pub no_opposites : AllByRecursion (λ f. count (turned f) faces ≡ pos 0) faces
  pub areas : AllByRecursion HasArea faces

-- ---- functions of triangles that boundaries are summed with
-- the function changes its sign where two corners change places, is the same whichever corner comes first, and is 0 where there is no area
pub record IsAlternating {C : Type 0} (R : Operations C) (g : Triangle Node → C) : Type 0 where
  pub turned : (t : Triangle Node) → g (turned t) ≡ R.negative (g t)
  pub rotated : (t : Triangle Node) → g (triangle t.b t.c t.a) ≡ g t
  pub flat : (t : Triangle Node) → doubled_area t ≡ no_area → g t ≡ R.nought

abbrev pub sum_in : {C : Type 0} → Operations C → (Triangle Node → C) → List (Triangle Node) → C
sum_in R g [] = R.nought
sum_in R g (t ∷ ts) = R.◌⊕◌ (g t) (sum_in R g ts)

-- an alternating function has the same sum over lists that are balanced
abbrev pub BalancedListsHaveEqualSums : {C : Type 0} → Operations C → Type 0
BalancedListsHaveEqualSums {C} R = (g : Triangle Node → C) → IsAlternating R g → (faces others : List (Triangle Node)) → AreBalanced faces others → sum_in R g faces ≡ sum_in R g others
