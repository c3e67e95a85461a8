-- Faces between two places along the ship, and within a half-breadth and a height.
use Rattle.std.specs.Prelude.{ℤ, pos, neg_ℤ, ◌≤ℤ◌, ◌<ℤ◌, List}
use Rattle.std.specs.List.{AllByRecursion}
use Rattle.hull_model.specs.declared.face.Face.{Face}
use Rattle.hull_model.specs.declared.node.Node.{Node}
use Rattle.hull_model.specs.Body.{IsWithin}

-- the first of two places lies aft of the last, and both lie within the limits of a station
pub record AreEnds (first last : ℤ) : Type 0 where
  pub apart : first <ℤ last
  pub first_within : IsWithin (pos 524287) first
  pub last_within : IsWithin (pos 524287) last

abbrev pub IsBetween : ℤ → ℤ → Node → Type 0
IsBetween first last n = (first ≤ℤ n.x) × (n.x ≤ℤ last)

-- every corner of every face lies from the first place to the last
abbrev pub LieBetween : ℤ → ℤ → List Face → Type 0
LieBetween first last faces = AllByRecursion (λ f. AllByRecursion (IsBetween first last) f.p) faces

-- no farther from the centreplane than the half-breadth, not below the base, and no higher than the height
pub record IsInside (half_breadth height : ℤ) (n : Node) : Type 0 where
  pub port : neg_ℤ half_breadth ≤ℤ n.y
  pub starboard : n.y ≤ℤ half_breadth
  pub base : pos 0 ≤ℤ n.z
  pub top : n.z ≤ℤ height

-- every corner of every face lies so
abbrev pub LieInside : ℤ → ℤ → List Face → Type 0
LieInside half_breadth height faces = AllByRecursion (λ f. AllByRecursion (IsInside half_breadth height) f.p) faces

-- a half-breadth above 0, and a height that isn't below, both within the limits of a point
pub record IsReach (half_breadth height : ℤ) : Type 0 where
  pub broad : pos 1 ≤ℤ half_breadth
  pub above_base : pos 0 ≤ℤ height
  pub breadth_limit : half_breadth ≤ℤ pos 65535
  pub height_limit : height ≤ℤ pos 65535

-- a least height that isn't below the base, and a greatest
pub record AreHeights (low high : ℤ) : Type 0 where
  pub base : pos 0 ≤ℤ low
  pub ordered : low ≤ℤ high
