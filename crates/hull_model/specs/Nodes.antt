-- The nodes of the body: the points of the stations, their feet on the centreplane, and their mirror images.
use Rattle.std.specs.Prelude.{ℤ, pos, neg_ℤ, ◌≤ℤ◌}
use Rattle.hull_model.specs.declared.node.Node.{Node}
use Rattle.hull_model.specs.declared.point.Point.{Point}
use Rattle.hull_model.specs.Body.{IsWithin}

-- a point within the limits of the body
pub record IsNode (n : Node) : Type 0 where
  pub place : IsWithin (pos 524287) n.x
  pub port : neg_ℤ (pos 65535) ≤ℤ n.y
  pub starboard : n.y ≤ℤ pos 65535
  pub height : IsWithin (pos 65535) n.z

-- a station's point on the side of positive y
abbrev pub node_at : ℤ → Point → Node
node_at x p = record { x = x; y = p.y; z = p.z }

-- the foot on the centreplane
abbrev pub foot : Node → Node
foot n = record { x = n.x; y = pos 0; z = n.z }

-- the mirror image in the centreplane
abbrev pub mirrored : Node → Node
mirrored n = record { x = n.x; y = neg_ℤ n.y; z = n.z }

-- a node on the side of positive y, or on the centreplane
pub record IsStarboard (n : Node) : Type 0 where
  pub place : IsWithin (pos 524287) n.x
  pub breadth : IsWithin (pos 65535) n.y
  pub height : IsWithin (pos 65535) n.z
