-- The bracket of a degree is one: its directions and its spans of cosine and sine.
use Rattle.std.proofs.Common.{◌≡◌, sym, ◌∙◌, ap, inl, inr, ℕ, ◌+◌, ◌≤◌, ℤ, ◌≤ℤ◌, arith}
use Rattle.std.proofs.lemmas.Int.{ints}
use Rattle.angle_bounds.specs.declared.bracket.Bracket.{Bracket}
use Rattle.angle_bounds.specs.Degrees.{AreBracketNumbers, IsNumberOf, c_of, s_of, r_of}
use Rattle.angle_bounds.specs.Directions.{IsDirectionWithin}
use Rattle.exact_algebra.specs.Span.{IsFloor, IsCeiling}
use Rattle.exact_algebra.proofs.Division.{floor_is_greatest, ceiling_is_least}
use Rattle.hull_model.specs.LevelPlanes.{Direction}
use Rattle.draft_bracket.specs.DraftBracket.{IsOfDegree}
use Rattle.draft_bracket.specs.GridLevels.{LiesIn}
use Rattle.intact_criteria.proofs.Decisions.{lt_or_le}

-- ---- numbers
number_same : (k q n : ℕ) → IsNumberOf k q → IsNumberOf k n → q ≡ n
number_same k q n h j = even q n (j.greatest q h.last h.at_most) (h.greatest n j.last j.at_most)
  where
    even : (a b : ℕ) → a ≤ b → b ≤ a → a ≡ b
    even a b h k = omega arith

numbers_same : (k q p n m : ℕ) → k ≤ 90 → AreBracketNumbers k q p → AreBracketNumbers k n m → (q ≡ n) × (p ≡ m)
numbers_same k q p n m few h j = elim (lt_or_le k 1) [
  | inl none ↦ let e : k ≡ 0 = omega arith in ((h.at_0 e).0 ∙ sym (j.at_0 e).0, (h.at_0 e).1 ∙ sym (j.at_0 e).1)
  | inr some ↦ elim (lt_or_le k 90) [
    | inl less ↦ let e : q ≡ n = number_same k q n (h.between some less).0 (j.between some less).0 in
        (e, (h.between some less).1 ∙ ap (λ (i : ℕ). i + 1) e ∙ sym (j.between some less).1)
    | inr more ↦ let e : k ≡ 90 = omega arith in ((h.at_90 e).0 ∙ sym (j.at_90 e).0, (h.at_90 e).1 ∙ sym (j.at_90 e).1)
  ]
]

-- ---- directions and spans
within_same : (c s c' s' e t e' t' x y : ℕ) → c ≡ e → s ≡ t → c' ≡ e' → s' ≡ t' → IsDirectionWithin c s c' s' x y → IsDirectionWithin e t e' t' x y
within_same c s c' s' e t e' t' x y e1 e2 e3 e4 h = record { from = rw (e1, e2) at h.from; to = rw (e3, e4) at h.to }

even : (a b : ℤ) → a ≤ℤ b → b ≤ℤ a → a ≡ b
even a b h k = omega (arith, ints)

floor_same : (n : ℤ) (d : ℕ) (a b : ℤ) → 1 ≤ d → IsFloor n d a → IsFloor n d b → a ≡ b
floor_same n d a b some f g = even a b (((floor_is_greatest n b d some).0 g).1 a f.below) (((floor_is_greatest n a d some).0 f).1 b g.below)

ceiling_same : (n : ℤ) (d : ℕ) (a b : ℤ) → 1 ≤ d → IsCeiling n d a → IsCeiling n d b → a ≡ b
ceiling_same n d a b some f g = even a b (((ceiling_is_least n a d some).0 f).1 b g.above) (((ceiling_is_least n b d some).0 g).1 a f.above)

-- the ends of the spans of one bracket
pub record SameSpans (a b : Bracket) : Type 0 where
  pub c_lo : a.c.lo ≡ b.c.lo
  pub c_hi : a.c.hi ≡ b.c.hi
  pub s_lo : a.s.lo ≡ b.s.lo
  pub s_hi : a.s.hi ≡ b.s.hi

module _ (k : ℕ) (few : k ≤ 90) (a b : Bracket) (at_a : IsOfDegree k a) (at_b : IsOfDegree k b) where
  low : at_a.low_number ≡ at_b.low_number
  low = (numbers_same k at_a.low_number at_a.high_number at_b.low_number at_b.high_number few at_a.numbers at_b.numbers).0

  high : at_a.high_number ≡ at_b.high_number
  high = (numbers_same k at_a.low_number at_a.high_number at_b.low_number at_b.high_number few at_a.numbers at_b.numbers).1

  low_c : a.low.c ≡ b.low.c
  low_c = at_a.low.cosine ∙ ap c_of low ∙ sym at_b.low.cosine

  low_s : a.low.s ≡ b.low.s
  low_s = at_a.low.sine ∙ ap s_of low ∙ sym at_b.low.sine

  low_r : a.low.r ≡ b.low.r
  low_r = at_a.low.radius ∙ ap r_of low ∙ sym at_b.low.radius

  high_c : a.high.c ≡ b.high.c
  high_c = at_a.high.cosine ∙ ap c_of high ∙ sym at_b.high.cosine

  high_s : a.high.s ≡ b.high.s
  high_s = at_a.high.sine ∙ ap s_of high ∙ sym at_b.high.sine

  high_r : a.high.r ≡ b.high.r
  high_r = at_a.high.radius ∙ ap r_of high ∙ sym at_b.high.radius

  pub lies_in_same : (d : Direction) → LiesIn a d → LiesIn b d
  lies_in_same d h = within_same a.low.c a.low.s a.high.c a.high.s b.low.c b.low.s b.high.c b.high.s d.c d.s low_c low_s high_c high_s h

  pub same_spans : SameSpans a b
  same_spans = record {
    c_lo = floor_same _ b.high.r a.c.lo b.c.lo b.high.direction.direction.positive (rw (high_c, high_r) at a.bracket.cosine.low) b.bracket.cosine.low;
    c_hi = ceiling_same _ b.low.r a.c.hi b.c.hi b.low.direction.direction.positive (rw (low_c, low_r) at a.bracket.cosine.high) b.bracket.cosine.high;
    s_lo = floor_same _ b.low.r a.s.lo b.s.lo b.low.direction.direction.positive (rw (low_s, low_r) at a.bracket.sine.low) b.bracket.sine.low;
    s_hi = ceiling_same _ b.high.r a.s.hi b.s.hi b.high.direction.direction.positive (rw (high_s, high_r) at a.bracket.sine.high) b.bracket.sine.high;
  }
