-- The two sides of a search: the lower level is short of the need, the higher one isn't, and a look between them replaces one.
use Rattle.std.proofs.Common.{◌≡◌, ◌∙◌, sym, subst, true, false, ◌≤◌, ◌<◌, ◌^◌, ℤ, ◌≤ℤ◌, ◌<ℤ◌, unsigned_abs, arith}
use Rattle.std.proofs.lemmas.Int.{ints, to_z-of_z}
use Rattle.std.specs.Int.{w64}
use mir.Val.{SFits, of_z, to_z}
use Rattle.exact_algebra.proofs.Fraction.{Fraction}
use Rattle.angle_bounds.specs.declared.bracket.Bracket.{Bracket}
use Rattle.hull_model.proofs.Magnitudes.{fits_64}
use Rattle.hull_polyhedron.specs.declared.faces.Faces.{Faces}
use Rattle.draft_bracket.specs.declared.place.End.{End}
use Rattle.draft_bracket.specs.declared.place.Place.{Place}
use Rattle.draft_bracket.specs.Places.{IsPlace, is_short}

pub record AreSides (faces : Faces) (bracket : Bracket) (need : Fraction) (end : End) (from to : ℤ) (low high : Place) : Type 0 where
  pub order : low.level <ℤ high.level
  pub low_from : from ≤ℤ low.level
  pub high_to : high.level ≤ℤ to
  pub low_range : unsigned_abs low.level ≤ 2 ^ 28
  pub high_range : unsigned_abs high.level ≤ 2 ^ 28
  pub first : IsPlace faces bracket need low.level low.is_over low.reaches
  pub last : IsPlace faces bracket need high.level high.is_over high.reaches
  pub first_side : is_short end low.is_over low.reaches ≡ true
  pub last_side : is_short end high.is_over high.reaches ≡ false

-- a look between them
pub record IsBetween (faces : Faces) (bracket : Bracket) (need : Fraction) (low high place : Place) : Type 0 where
  pub above : low.level <ℤ place.level
  pub below : place.level <ℤ high.level
  pub range : unsigned_abs place.level ≤ 2 ^ 28
  pub is : IsPlace faces bracket need place.level place.is_over place.reaches

module _ (faces : Faces) (bracket : Bracket) (need : Fraction) (end : End) (from to : ℤ) (low high place : Place)
    (sides : AreSides faces bracket need end from to low high) where
  -- as the look is made, at the number that is `at`
  pub looked_between : (at : ℤ) → SFits w64 at → place.level ≡ to_z w64 (of_z w64 at) → to_z w64 (of_z w64 low.level) <ℤ at → at <ℤ to_z w64 (of_z w64 high.level) → unsigned_abs at ≤ 2 ^ 28
      → IsPlace faces bracket need (to_z w64 (of_z w64 at)) place.is_over place.reaches → IsBetween faces bracket need low high place
  looked_between at fits same above below range is = record {
    above = subst (λ (z : ℤ). low.level <ℤ z) (sym is_at) (subst (λ (z : ℤ). z <ℤ at) (to_z-of_z w64 low.level (fits_64 low.level (small low.level sides.low_range))) above);
    below = subst (λ (z : ℤ). z <ℤ high.level) (sym is_at) (subst (λ (z : ℤ). at <ℤ z) (to_z-of_z w64 high.level (fits_64 high.level (small high.level sides.high_range))) below);
    range = subst (λ (z : ℤ). unsigned_abs z ≤ 2 ^ 28) (sym is_at) range;
    is = subst (λ (z : ℤ). IsPlace faces bracket need z place.is_over place.reaches) (sym same) is;
  }
    where
      is_at : place.level ≡ at
      is_at = same ∙ to_z-of_z w64 at fits

      small : (z : ℤ) → unsigned_abs z ≤ 2 ^ 28 → unsigned_abs z < 2 ^ 63
      small z h = omega (arith, h)

  module _ (look : IsBetween faces bracket need low high place) where
    pub low_moved : is_short end place.is_over place.reaches ≡ true → AreSides faces bracket need end from to place high
    low_moved e = record {
      order = look.below;
      low_from = over from low.level place.level sides.low_from look.above;
      high_to = sides.high_to;
      low_range = look.range;
      high_range = sides.high_range;
      first = look.is;
      last = sides.last;
      first_side = e;
      last_side = sides.last_side;
    }
      where
        over : (a b c : ℤ) → a ≤ℤ b → b <ℤ c → a ≤ℤ c
        over a b c h k = omega (arith, ints)

    pub high_moved : is_short end place.is_over place.reaches ≡ false → AreSides faces bracket need end from to low place
    high_moved e = record {
      order = look.above;
      low_from = sides.low_from;
      high_to = over place.level high.level to look.below sides.high_to;
      low_range = sides.low_range;
      high_range = look.range;
      first = sides.first;
      last = look.is;
      first_side = sides.first_side;
      last_side = e;
    }
      where
        over : (a b c : ℤ) → a <ℤ b → b ≤ℤ c → a ≤ℤ c
        over a b c h k = omega (arith, ints)
