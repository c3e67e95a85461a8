-- How large the area of a face may be as it is seen from the side and from above.
use Rattle.std.proofs.Common.{ℕ, zero, suc, sym, ap, subst, ◌+◌, ◌*◌, ◌^◌, ◌<◌, ◌≤◌, ℤ, ◌-ℤ◌, ◌*ℤ◌, unsigned_abs, List, [], ◌∷◌, get_or, arith}
use Rattle.std.proofs.lemmas.Int.{ints, unsigned_abs-mul}
use Rattle.std.proofs.Math.Nat.{mul-le-mul}
use Rattle.std.specs.List.{AllByRecursion}
use Rattle.exact_fraction.specs.Bounds.{MagnitudeBelow}
use Rattle.hull_model.specs.declared.face.Face.{Face}
use Rattle.hull_model.specs.declared.node.Node.{Node}
use Rattle.hull_model.specs.Nodes.{IsNode}
use Rattle.hull_model.specs.Faces.{IsFace, triangle_of, doubled_area, origin}
use Rattle.hull_model.specs.Vectors.{way}

origin_is_node : IsNode origin
origin_is_node = record {
  place = (omega (arith, ints), omega (arith, ints));
  port = omega (arith, ints);
  starboard = omega (arith, ints);
  height =
      (omega (arith, ints), omega (arith, ints));
}

pub corner_is_node : (nodes : List Node) (i : ℕ) → AllByRecursion IsNode nodes → IsNode (get_or nodes i origin)
corner_is_node [] i all = origin_is_node
corner_is_node (n ∷ nodes) zero all = all.0
corner_is_node (n ∷ nodes) (suc i) all = corner_is_node nodes i all.1

-- ways between nodes
along_below : (p q : Node) → IsNode p → IsNode q → unsigned_abs (q.x -ℤ p.x) ≤ 524287
along_below p q n m = omega (arith, ints, n.place.0, n.place.1, m.place.0, m.place.1)

across_below : (p q : Node) → IsNode p → IsNode q → unsigned_abs (q.y -ℤ p.y) ≤ 131070
across_below p q n m = omega (arith, ints, n.port, n.starboard, m.port, m.starboard)

up_below : (p q : Node) → IsNode p → IsNode q → unsigned_abs (q.z -ℤ p.z) ≤ 65535
up_below p q n m = omega (arith, ints, n.height.0, n.height.1, m.height.0, m.height.1)

product_below : (m n most : ℕ) (a b : ℤ) → m * n < most → unsigned_abs a ≤ m → unsigned_abs b ≤ n → unsigned_abs (a *ℤ b) < most
product_below m n most a b small h k = omega (arith, small, unsigned_abs-mul a b, mul-le-mul h k)

difference_below : (most : ℕ) (a b : ℤ) → unsigned_abs a < most → unsigned_abs b < most → unsigned_abs (a -ℤ b) < most + most
difference_below most a b h k = omega (arith, ints, h, k)

pub areas_below : (f : Face) → IsFace f → MagnitudeBelow 36 f.ay × MagnitudeBelow 37 f.az
areas_below f is = (
  subst (λ (z : ℤ). MagnitudeBelow 36 z) (sym (ap (λ (g : Face). g.ay) is.area)) side,
  subst (λ (z : ℤ). MagnitudeBelow 37 z)
      (sym (ap (λ (g : Face). g.az) is.area)) top,
)
  where
    a : Node
    a = (triangle_of f).a

    b : Node
    b = (triangle_of f).b

    c : Node
    c = (triangle_of f).c

    at : (i : ℕ) → IsNode (get_or f.p i origin)
    at i = corner_is_node f.p i is.corners

    side : MagnitudeBelow 36 (doubled_area (triangle_of f)).y
    side = difference_below (2 ^ 35) ((way a b).z *ℤ (way a c).x) ((way a b).x *ℤ (way a c).z)
        (product_below 65535 524287 (2 ^ 35) (way a b).z (way a c).x (omega arith) (up_below a b (at 0) (at 1)) (along_below a c (at 0) (at 2)))
        (product_below 524287 65535 (2 ^ 35) (way a b).x (way a c).z (omega arith) (along_below a b (at 0) (at 1)) (up_below a c (at 0) (at 2)))

    top : MagnitudeBelow 37 (doubled_area (triangle_of f)).z
    top = difference_below (2 ^ 36) ((way a b).x *ℤ (way a c).y) ((way a b).y *ℤ (way a c).x)
        (product_below 524287 131070 (2 ^ 36) (way a b).x (way a c).y (omega arith) (along_below a b (at 0) (at 1)) (across_below a c (at 0) (at 2)))
        (product_below 131070 524287 (2 ^ 36) (way a b).y (way a c).x (omega arith) (across_below a b (at 0) (at 1)) (along_below a c (at 0) (at 2)))

-- what holds of all corners holds of each
pub three_corners : (P : Node → Type 0) (f : Face) → IsFace f → AllByRecursion P f.p → P (triangle_of f).a × P (triangle_of f).b × P (triangle_of f).c
three_corners P f is all = let each = subst (λ (nodes : List Node). AllByRecursion P nodes) (ap (λ (g : Face). g.p) is.area) all in
    (each.0, each.1.0, each.1.1.0)
