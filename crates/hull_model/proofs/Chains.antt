-- The zipper, an advance at a time.
use Rattle.std.proofs.Common.{◌+◌, ◌-◌, ◌<◌, ◌≤◌, ◌≡◌, refl, ◌∙◌, ap, ap₂, List, [], ◌∷◌, ◌++◌, map, length, get_or, take, drop, Bool, true, false, arith}
use Rattle.std.proofs.lemmas.List.{append-nil, append_assoc, take_rest}
use Rattle.std.specs.Prelude.{int_le, if◌then◌else◌}
use Rattle.std.specs.List.{AllByRecursion}
use Rattle.hull_model.specs.declared.node.Node.{Node}
use Rattle.hull_model.specs.declared.point.Point.{Point}
use Rattle.hull_model.specs.declared.station.Station.{Station}
use Rattle.hull_model.specs.Body.{IsPoint}
use Rattle.hull_model.specs.Nodes.{node_at}
use Rattle.hull_model.specs.TriangleCut.{Triangle, triangle}
use Rattle.hull_model.specs.Zipper.{zipper, between_chains, between_stations, strip_triangles}
use Rattle.hull_model.specs.Strips.{takes_aft}

pub first_point : (points : List Point) (other : Point) → AllByRecursion IsPoint points → 0 < length points → IsPoint (get_or points 0 other)
first_point [] other all some = absurd (omega arith)
first_point (p ∷ points) other all some = all.0

pub points_after : (points : List Point) → AllByRecursion IsPoint points → AllByRecursion IsPoint (drop 1 points)
points_after [] all = all
points_after (p ∷ points) all = all.1

pub aft_left : (aft fore : List Point) → takes_aft aft fore ≡ true → 0 < length aft
aft_left [] fore e = grind arith
aft_left (p ∷ aft) fore e = omega arith

pub fore_left : (aft fore : List Point) → takes_aft aft fore ≡ false → 0 < length aft + length fore → 0 < length fore
fore_left [] fore e some = omega arith
fore_left (p ∷ aft) [] e some = grind arith
fore_left (p ∷ aft) (q ∷ fore) e some = omega arith

taken : {A : Type 0} (b : Bool) (x y : A) → b ≡ true → x ≡ (if b then x else y)
taken true x y e = refl
taken false x y e = absurd (grind arith)

passed : {A : Type 0} (b : Bool) (x y : A) → b ≡ false → y ≡ (if b then x else y)
passed true x y e = absurd (grind arith)
passed false x y e = refl

module _ (made : List (Triangle Node)) (p q : Node) where
  abbrev pub left : List Point → List Point → List (Triangle Node)
  left aft fore = zipper p (map (node_at p.x) aft) q (map (node_at q.x) fore)

  pub nothing_left : (aft fore : List Point) → length aft + length fore ≤ 0 → made ++ left aft fore ≡ made
  nothing_left [] [] few = append-nil made
  nothing_left [] (n ∷ fore) few = absurd (omega arith)
  nothing_left (n ∷ aft) fore few = absurd (omega arith)

  -- the aft chain advances
  pub aft_advance : (aft fore : List Point) (other : Point) → takes_aft aft fore ≡ true
      → let n = node_at p.x (get_or aft 0 other) in
      (made ++ triangle p n q ∷ []) ++ zipper n (map (node_at n.x) (drop 1 aft)) q (map (node_at q.x) fore) ≡ made ++ left aft fore
  aft_advance [] fore other e = grind arith
  aft_advance (n ∷ aft) [] other e = append_assoc made _ _
  aft_advance (n ∷ aft) (m ∷ fore) other e = append_assoc made _ _ ∙ ap (λ ts. made ++ ts) (taken (int_le n.z m.z)
      (triangle p (node_at p.x n) q ∷ zipper (node_at p.x n) (map (node_at p.x) aft) q (map (node_at q.x) (m ∷ fore)))
      (triangle p q (node_at q.x m) ∷ zipper p (map (node_at p.x) (n ∷ aft)) (node_at q.x m) (map (node_at q.x) fore)) e)

  pub fore_advance : (aft fore : List Point) (other : Point) → takes_aft aft fore ≡ false → 0 < length fore
      → let n = node_at q.x (get_or fore 0 other) in
      (made ++ triangle p q n ∷ []) ++ zipper p (map (node_at p.x) aft) n (map (node_at n.x) (drop 1 fore)) ≡ made ++ left aft fore
  fore_advance aft [] other e some = absurd (omega arith)
  fore_advance [] (m ∷ fore) other e some = append_assoc made _ _
  fore_advance (n ∷ aft) (m ∷ fore) other e some = append_assoc made _ _ ∙ ap (λ ts. made ++ ts) (passed (int_le n.z m.z)
      (triangle p (node_at p.x n) q ∷ zipper (node_at p.x n) (map (node_at p.x) aft) q (map (node_at q.x) (m ∷ fore)))
      (triangle p q (node_at q.x m) ∷ zipper p (map (node_at p.x) (n ∷ aft)) (node_at q.x m) (map (node_at q.x) fore)) e)

-- two stations by their lowest nodes, and the points above those
pub from_lowest : (made new : List (Triangle Node)) (p q : Node) (aft fore : Station) (os ps : List Point) (other : Point)
    → os ≡ aft.points → ps ≡ fore.points → p ≡ node_at aft.x (get_or os 0 other) → q ≡ node_at fore.x (get_or ps 0 other) → 1 ≤ length os → 1 ≤ length ps
    → new ≡ made ++ zipper p (map (node_at p.x) (take (length os - 1) (drop 1 os))) q (map (node_at q.x) (take (length ps - 1) (drop 1 ps)))
    → new ≡ made ++ between_stations aft fore
from_lowest made new p q aft fore os ps other o k a b some some' e =
    e ∙ ap₂ (λ (xs ys : List Point). made ++ zipper p (map (node_at p.x) xs) q (map (node_at q.x) ys)) (take_rest os 1) (take_rest ps 1)
    ∙ ap₂ (λ (n m : Node). made ++ zipper n (map (node_at n.x) (drop 1 os)) m (map (node_at m.x) (drop 1 ps))) a b
    ∙ lowest os ps some some'
    ∙ ap₂ (λ (xs ys : List Point). made ++ between_chains (map (node_at aft.x) xs) (map (node_at fore.x) ys)) o k
  where
    lowest : (os ps : List Point) → 1 ≤ length os → 1 ≤ length ps
        → made ++ zipper (node_at aft.x (get_or os 0 other)) (map (node_at aft.x) (drop 1 os)) (node_at fore.x (get_or ps 0 other)) (map (node_at fore.x) (drop 1 ps))
        ≡ made ++ between_chains (map (node_at aft.x) os) (map (node_at fore.x) ps)
    lowest [] ps some some' = absurd (omega arith)
    lowest (o ∷ os) [] some some' = absurd (omega arith)
    lowest (o ∷ os) (p ∷ ps) some some' = refl

-- fewer than two stations have no strip
pub no_strip : (made : List (Triangle Node)) (stations : List Station) → length stations < 2 → made ++ strip_triangles stations ≡ made
no_strip made [] few = append-nil made
no_strip made (s ∷ []) few = append-nil made
no_strip made (s ∷ t ∷ rest) few = absurd (omega arith)
