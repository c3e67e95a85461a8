-- At the same depths the numbers rounded up are at most a few units above those rounded down.
use Prim.Native.Nat.{ℕ, ◌+◌, ◌-◌, ◌*◌, ◌<◌, ◌≤◌, ◌^◌}
use native.Mathlib.Omega.{arith}
use mathlib.Core.Path.{◌≡◌, refl}
use mathlib.Core.List.{[], ◌∷◌}
use mathlib.Core.Logic.{inl, inr}
use mathlib.Core.Bool.{Bool, true, false}
use lib.IntN.{ℤ, pos, ◌+ℤ◌, ◌*ℤ◌}
use lib.Signed.{◌≤ℤ◌, ◌<ℤ◌}
use borrow.Author.Differences.{ints}
use Rattle.std.specs.Prelude.{unsigned_abs}
use Rattle.std.proofs.Math.Nat.{lt-div-mul-add, div-le_of_le-mul, mul-le-mul_left, mul-le-mul_right}
use Rattle.std.proofs.lemmas.Nat.{div_below}
use Rattle.std.proofs.lemmas.Bool.{cases_lt}
use Rattle.std.proofs.lemmas.Grind.{div_ceil_times}
use Rattle.exact_algebra.specs.Expression.{var, unit, ◌:+◌, ◌:*◌}
use Rattle.exact_algebra.proofs.Ring.{ring}
use Rattle.exact_algebra.proofs.WholeNumbers.{integers}
use Rattle.exact_algebra.proofs.Division.{floor_of-floor}
use Rattle.plane_clip.specs.declared.shares.Shares.{Shares}
use Rattle.plane_clip.specs.Rounded.{Near, is_over, scale, quotient, quotient_of_sum, part_by, part_between, rest, cube, tip_shares, tip_at, nothing, tip_ends, rest_ends, shares_by, first_shares, second_shares, shares_in_turn, share_ends, Tip, depth_tip, no_tip, DepthEnds, sum_of, depths_from, depths_by, first_depths, second_depths, depths_in_turn, depth_ends}
use Rattle.plane_clip.proofs.PartSteps.{part-most}

-- ---- products
scale-spread : (a b l m x x' y y' : ℕ) → x' ≤ x + a → y' ≤ y + b → x ≤ l * 2 ^ 40 → y ≤ m * 2 ^ 40 → a * b ≤ 2 ^ 40 → scale true x' y' ≤ scale false x y + (a * m + l * b + 2)
scale-spread a b l m x x' y y' h k f g s = after _ _ (div_below (x' * y') (2 ^ 40) (scale false x y + (a * m + l * b + 2)) (omega arith)
    (below (x * y) ((x + a) * (y + b)) (x' * y') (scale false x y) larger (expanded x y) (lt-div-mul-add {a = x * y} {b = 2 ^ 40} (omega arith)) (mul-le-mul_right b f) (mul-le-mul_left a g)))
  where
    after : (q n : ℕ) → q < n → q + 1 ≤ n
    after q n h = omega (arith, h)

    larger : x' * y' ≤ (x + a) * (y + b)
    larger = omega (arith, mul-le-mul_right y' h, mul-le-mul_left (x + a) k)

    expanded : (x y : ℕ) → (x + a) * (y + b) ≡ x * y + x * b + a * y + a * b
    expanded x y = omega arith

    below : (xy big real q : ℕ) → real ≤ big → big ≡ xy + x * b + a * y + a * b → xy < q * 2 ^ 40 + 2 ^ 40 → x * b ≤ l * 2 ^ 40 * b → a * y ≤ a * (m * 2 ^ 40) → real < (q + (a * m + l * b + 2)) * 2 ^ 40
    below xy big real q h e k f g = omega (arith, h, e, k, f, g, s)

scale-most : (x y : ℕ) → y ≤ 2 ^ 40 → scale false x y ≤ x
scale-most x y h = div-le_of_le-mul (2 ^ 40) (omega (arith, mul-le-mul_left x h))

-- ---- the ten numbers of a tip
pub record SharesSpread (n n' : Shares) : Type 0 where
  pub share : n'.share ≤ n.share + 4
  pub c0 : n'.c0 ≤ n.c0 + 16
  pub c1 : n'.c1 ≤ n.c1 + 7
  pub c2 : n'.c2 ≤ n.c2 + 7
  pub p00 : n'.p00 ≤ n.p00 + 40
  pub p01 : n'.p01 ≤ n.p01 + 33
  pub p02 : n'.p02 ≤ n.p02 + 33
  pub p11 : n'.p11 ≤ n.p11 + 10
  pub p12 : n'.p12 ≤ n.p12 + 10
  pub p22 : n'.p22 ≤ n.p22 + 10

-- and how great they may be
pub record SharesMost (n : Shares) : Type 0 where
  pub share : n.share ≤ 1 * 2 ^ 40
  pub c0 : n.c0 ≤ 3 * 2 ^ 40
  pub c1 : n.c1 ≤ 1 * 2 ^ 40
  pub c2 : n.c2 ≤ 1 * 2 ^ 40
  pub p00 : n.p00 ≤ 6 * 2 ^ 40
  pub p01 : n.p01 ≤ 4 * 2 ^ 40
  pub p02 : n.p02 ≤ 4 * 2 ^ 40
  pub p11 : n.p11 ≤ 1 * 2 ^ 40
  pub p12 : n.p12 ≤ 1 * 2 ^ 40
  pub p22 : n.p22 ≤ 1 * 2 ^ 40

product-most : (m x y : ℕ) → x ≤ 2 ^ 40 → y ≤ m * 2 ^ 40 → scale false x y ≤ m * 2 ^ 40
product-most m x y h k = div-le_of_le-mul (2 ^ 40) (omega (arith, mul-le-mul_right y h, k))

module _ (T S U V T' S' U' V' : ℕ) (t : T ≤ 2 ^ 40) (s : S ≤ 2 ^ 40) (u : U ≤ 2 ^ 40) (v : V ≤ 2 ^ 40) (t' : T' ≤ T + 1) (s' : S' ≤ S + 1) (u' : U' ≤ U + 1) (v' : V' ≤ V + 1) where
  abbrev n : Shares
  n = tip_shares false T S U V

  abbrev n' : Shares
  n' = tip_shares true T' S' U' V'

  -- of two parts
  pair-spread : (x x' y y' : ℕ) → x ≤ 2 ^ 40 → y ≤ 2 ^ 40 → x' ≤ x + 1 → y' ≤ y + 1 → scale true x' y' ≤ scale false x y + 4
  pair-spread x x' y y' h k f g = scale-spread 1 1 1 1 x x' y y' f g h k (omega arith)

  share_most : n.share ≤ 2 ^ 40
  share_most = below (scale-most T S s)
    where
      below : {m : ℕ} → m ≤ T → m ≤ 2 ^ 40
      below h = omega (arith, h, t)

  share_spread : n'.share ≤ n.share + 4
  share_spread = pair-spread T T' S S' t s t' s'

  side_most : (y : ℕ) → y ≤ 2 ^ 40 → scale false n.share y ≤ 2 ^ 40
  side_most y h = below (scale-most n.share y h) share_most
    where
      below : {m k : ℕ} → m ≤ k → k ≤ 2 ^ 40 → m ≤ 2 ^ 40
      below h k = omega (arith, h, k)

  c1_spread : n'.c1 ≤ n.c1 + 7
  c1_spread = scale-spread 4 1 1 1 n.share n'.share T T' share_spread t' share_most t (omega arith)

  c2_spread : n'.c2 ≤ n.c2 + 7
  c2_spread = scale-spread 4 1 1 1 n.share n'.share S S' share_spread s' share_most s (omega arith)

  abbrev squares : ℕ
  squares = 2 ^ 40 + U + V + scale false U U + scale false V V + scale false U V

  abbrev squares' : ℕ
  squares' = 2 ^ 40 + U' + V' + scale true U' U' + scale true V' V' + scale true U' V'

  squares_most : squares ≤ 6 * 2 ^ 40
  squares_most = sum _ _ _ (scale-most U U u) (scale-most V V v) (scale-most U V v)
    where
      sum : (a b c : ℕ) → a ≤ U → b ≤ V → c ≤ U → 2 ^ 40 + U + V + a + b + c ≤ 6 * 2 ^ 40
      sum a b c f g h = omega (arith, u, v, f, g, h)

  squares_spread : squares' ≤ squares + 14
  squares_spread = sum _ _ _ _ _ _ (pair-spread U U' U U' u u u' u') (pair-spread V V' V V' v v v' v') (pair-spread U U' V V' u v u' v')
    where
      sum : (a a' b b' c c' : ℕ) → a' ≤ a + 4 → b' ≤ b + 4 → c' ≤ c + 4 → 2 ^ 40 + U' + V' + a' + b' + c' ≤ (2 ^ 40 + U + V + a + b + c) + 14
      sum a a' b b' c c' f g h = omega (arith, u', v', f, g, h)

  rests_most : (a b : ℕ) → a ≤ 2 * 2 ^ 40 → b ≤ 2 ^ 40 → 2 ^ 40 + a + b ≤ 4 * 2 ^ 40
  rests_most a b h k = omega (arith, h, k)

  pub tip_spread : SharesSpread n n'
  tip_spread = record {
    share = share_spread;
    c0 = scale-spread 4 2 1 3 n.share n'.share (2 ^ 40 + U + V) (2 ^ 40 + U' + V') share_spread (omega (arith, u', v')) share_most (omega (arith, u, v)) (omega arith);
    c1 = c1_spread;
    c2 = c2_spread;
    p00 = scale-spread 4 14 1 6 n.share n'.share squares squares' share_spread squares_spread share_most squares_most (omega arith);
    p01 = scale-spread 7 3 1 4 n.c1 n'.c1 (2 ^ 40 + 2 * U + V) (2 ^ 40 + 2 * U' + V') c1_spread (omega (arith, u', v')) (side_most T t) (omega (arith, u, v)) (omega arith);
    p02 = scale-spread 7 3 1 4 n.c2 n'.c2 (2 ^ 40 + U + 2 * V) (2 ^ 40 + U' + 2 * V') c2_spread (omega (arith, u', v')) (side_most S s) (omega (arith, u, v)) (omega arith);
    p11 = scale-spread 7 1 1 1 n.c1 n'.c1 T T' c1_spread t' (side_most T t) t (omega arith);
    p12 = scale-spread 7 1 1 1 n.c1 n'.c1 S S' c1_spread s' (side_most T t) s (omega arith);
    p22 = scale-spread 7 1 1 1 n.c2 n'.c2 S S' c2_spread s' (side_most S s) s (omega arith);
  }

  -- the numbers rounded down are at most these
  pub tip_most : SharesMost n
  tip_most = record {
    share = once share_most;
    c0 = product-most 3 n.share (2 ^ 40 + U + V) share_most (omega (arith, u, v));
    c1 = once (side_most T t);
    c2 = once (side_most S s);
    p00 = product-most 6 n.share squares share_most squares_most;
    p01 = product-most 4 n.c1 (2 ^ 40 + 2 * U + V) (side_most T t) (omega (arith, u, v));
    p02 = product-most 4 n.c2 (2 ^ 40 + U + 2 * V) (side_most S s) (omega (arith, u, v));
    p11 = product-most 1 n.c1 T (side_most T t) (once t);
    p12 = product-most 1 n.c1 S (side_most T t) (once s);
    p22 = product-most 1 n.c2 S (side_most S s) (once s);
  }
    where
      once : {m : ℕ} → m ≤ 2 ^ 40 → m ≤ 1 * 2 ^ 40
      once h = omega (arith, h)

-- bounds of a part, and of its complement
rest-most : (T : ℕ) → rest false T ≤ 2 ^ 40
rest-most T = omega arith

rest-spread : (T : ℕ) → rest true T ≤ rest false T + 1
rest-spread T = omega arith

same_ℕ : (n : ℕ) → n ≤ n
same_ℕ n = omega arith

tip_spread_at : (T S : ℕ) → T ≤ 2 ^ 40 → S ≤ 2 ^ 40 → SharesSpread (tip_at false T S) (tip_at true T S)
tip_spread_at T S t s = tip_spread T S (rest false T) (rest false S) (T + 1) (S + 1) (rest true T) (rest true S) t s (rest-most T) (rest-most S) (same_ℕ (T + 1)) (same_ℕ (S + 1)) (rest-spread T) (rest-spread S)

nothing_spread : SharesSpread nothing nothing
nothing_spread = record { share = omega arith; c0 = omega arith; c1 = omega arith; c2 = omega arith; p00 = omega arith; p01 = omega arith; p02 = omega arith; p11 = omega arith; p12 = omega arith; p22 = omega arith }

-- ---- quotients
cancel : (q r k : ℕ) → 0 < k → q * k < r * k → q < r
cancel q r k o h = elim (cases_lt q r) [ inl l ↦ l | inr l ↦ absurd (omega (arith, h, mul-le-mul_right k l)) ]

quotient-spread : (k n n' c : ℕ) → 0 < k → c ≤ 7 * k → n' ≤ n + c → quotient true k n' ≤ quotient false k n + 8
quotient-spread k n n' c o h s = after _ _ (cancel (quotient true k n') (quotient false k n + 9) k o
    (below (quotient true k n' * k) (quotient false k n) (div_ceil_times n' k o).1 (lt-div-mul-add {a = n} {b = k} o)))
  where
    after : (q r : ℕ) → q < r + 9 → q ≤ r + 8
    after q r h = omega (arith, h)

    below : (a q : ℕ) → a < n' + k → n < q * k + k → a < (q + 9) * k
    below a q f g = omega (arith, f, g, h, s)

rest-quotient-spread : (k n n' c : ℕ) → 0 < k → c ≤ 7 * k → n' ≤ n + c → quotient true k (2 ^ 40 - n) ≤ quotient false k (2 ^ 40 - n') + 8
rest-quotient-spread k n n' c o h s = quotient-spread k (2 ^ 40 - n') (2 ^ 40 - n) c o h (omega (arith, s))

pub record AreTightShares (l h : Shares) : Type 0 where
  pub share : h.share ≤ l.share + 8
  pub c0 : h.c0 ≤ l.c0 + 8
  pub c1 : h.c1 ≤ l.c1 + 8
  pub c2 : h.c2 ≤ l.c2 + 8
  pub p00 : h.p00 ≤ l.p00 + 8
  pub p01 : h.p01 ≤ l.p01 + 8
  pub p02 : h.p02 ≤ l.p02 + 8
  pub p11 : h.p11 ≤ l.p11 + 8
  pub p12 : h.p12 ≤ l.p12 + 8
  pub p22 : h.p22 ≤ l.p22 + 8

tight_tip : (n n' : Shares) → SharesSpread n n' → AreTightShares (tip_ends false n) (tip_ends true n')
tight_tip n n' s = record {
  share = quotient-spread 1 n.share n'.share 4 (omega arith) (omega arith) s.share;
  c0 = quotient-spread 3 n.c0 n'.c0 16 (omega arith) (omega arith) s.c0;
  c1 = quotient-spread 3 n.c1 n'.c1 7 (omega arith) (omega arith) s.c1;
  c2 = quotient-spread 3 n.c2 n'.c2 7 (omega arith) (omega arith) s.c2;
  p00 = quotient-spread 6 n.p00 n'.p00 40 (omega arith) (omega arith) s.p00;
  p01 = quotient-spread 12 n.p01 n'.p01 33 (omega arith) (omega arith) s.p01;
  p02 = quotient-spread 12 n.p02 n'.p02 33 (omega arith) (omega arith) s.p02;
  p11 = quotient-spread 6 n.p11 n'.p11 10 (omega arith) (omega arith) s.p11;
  p12 = quotient-spread 12 n.p12 n'.p12 10 (omega arith) (omega arith) s.p12;
  p22 = quotient-spread 6 n.p22 n'.p22 10 (omega arith) (omega arith) s.p22;
}

tight_rest : (n n' : Shares) → SharesSpread n n' → AreTightShares (rest_ends false n') (rest_ends true n)
tight_rest n n' s = record {
  share = rest-quotient-spread 1 n.share n'.share 4 (omega arith) (omega arith) s.share;
  c0 = rest-quotient-spread 3 n.c0 n'.c0 16 (omega arith) (omega arith) s.c0;
  c1 = rest-quotient-spread 3 n.c1 n'.c1 7 (omega arith) (omega arith) s.c1;
  c2 = rest-quotient-spread 3 n.c2 n'.c2 7 (omega arith) (omega arith) s.c2;
  p00 = rest-quotient-spread 6 n.p00 n'.p00 40 (omega arith) (omega arith) s.p00;
  p01 = rest-quotient-spread 12 n.p01 n'.p01 33 (omega arith) (omega arith) s.p01;
  p02 = rest-quotient-spread 12 n.p02 n'.p02 33 (omega arith) (omega arith) s.p02;
  p11 = rest-quotient-spread 6 n.p11 n'.p11 10 (omega arith) (omega arith) s.p11;
  p12 = rest-quotient-spread 12 n.p12 n'.p12 10 (omega arith) (omega arith) s.p12;
  p22 = rest-quotient-spread 6 n.p22 n'.p22 10 (omega arith) (omega arith) s.p22;
}

tight_nothing : AreTightShares nothing nothing
tight_nothing = record { share = omega arith; c0 = omega arith; c1 = omega arith; c2 = omega arith; p00 = omega arith; p01 = omega arith; p02 = omega arith; p11 = omega arith; p12 = omega arith; p22 = omega arith }

part_by-most : (u v : Bool) (a b : ℕ) → part_by u v a b ≤ 2 ^ 40
part_by-most true true a b = omega arith
part_by-most true false a b = part-most a b
part_by-most false true a b = part-most a b
part_by-most false false a b = omega arith

tight_shares_by : (u v : Bool) (T S : ℕ) → T ≤ 2 ^ 40 → S ≤ 2 ^ 40 → AreTightShares (shares_by false u v T S) (shares_by true u v T S)
tight_shares_by false false T S t s = tight_nothing
tight_shares_by true true T S t s = tight_rest nothing nothing nothing_spread
tight_shares_by true false T S t s = tight_tip (tip_at false T S) (tip_at true T S) (tip_spread_at T S t s)
tight_shares_by false true T S t s = tight_rest (tip_at false T S) (tip_at true T S) (tip_spread_at T S t s)

tight_first : (x y z : ℤ) → AreTightShares (first_shares false x y z) (first_shares true x y z)
tight_first x y z = tight_shares_by (is_over x) (is_over y) (part_between x y) (part_between x z) (part_by-most (is_over x) (is_over y) (unsigned_abs x) (unsigned_abs y)) (part_by-most (is_over x) (is_over z) (unsigned_abs x) (unsigned_abs z))

turned_tight : (l h : Shares) → AreTightShares l h → AreTightShares (second_shares l) (second_shares h)
turned_tight l h t = record { share = t.share; c0 = t.c2; c1 = t.c0; c2 = t.c1; p00 = t.p22; p01 = t.p02; p02 = t.p12; p11 = t.p00; p12 = t.p01; p22 = t.p11 }

tight_in_turn : (u v w : Bool) (x y z : ℤ) → AreTightShares (shares_in_turn false u v w x y z) (shares_in_turn true u v w x y z)
tight_in_turn false false false x y z = tight_first x y z
tight_in_turn true true true x y z = tight_first x y z
tight_in_turn true false false x y z = tight_first x y z
tight_in_turn false true true x y z = tight_first x y z
tight_in_turn false true false x y z = turned_tight (first_shares false y z x) (first_shares true y z x) (tight_first y z x)
tight_in_turn true false true x y z = turned_tight (first_shares false y z x) (first_shares true y z x) (tight_first y z x)
tight_in_turn false false true x y z = turned_tight (second_shares (first_shares false z x y)) (second_shares (first_shares true z x y)) (turned_tight (first_shares false z x y) (first_shares true z x y) (tight_first z x y))
tight_in_turn true true false x y z = turned_tight (second_shares (first_shares false z x y)) (second_shares (first_shares true z x y)) (turned_tight (first_shares false z x y) (first_shares true z x y) (tight_first z x y))

pub tight_shares : (x y z : ℤ) → AreTightShares (share_ends false x y z) (share_ends true x y z)
tight_shares x y z = tight_in_turn (is_over x) (is_over y) (is_over z) x y z

-- ---- depths
cube-spread : (a T S T' S' : ℕ) → T ≤ 2 ^ 40 → S ≤ 2 ^ 40 → a < 2 ^ 41 → T' ≤ T + 1 → S' ≤ S + 1 → cube true a T' S' ≤ cube false a T S + 6
cube-spread a T S T' S' t s h t' s' = after _ _ (div_below (a * (T' * S')) (2 ^ 80) (cube false a T S + 6) (omega arith)
    (below (a * (T * S)) (a * (T' * S')) (cube false a T S) (lt-div-mul-add {a = a * (T * S)} {b = 2 ^ 80} (omega arith)) (mul-le-mul_left a larger)))
  where
    after : (q n : ℕ) → q < n + 6 → q + 1 ≤ n + 6
    after q n h = omega (arith, h)

    larger : T' * S' ≤ T * S + T + S + 1
    larger = omega (arith, mul-le-mul_right S' t', mul-le-mul_left (T + 1) s')

    below : (low real q : ℕ) → a * (T * S) < q * 2 ^ 80 + 2 ^ 80 → real ≤ a * (T * S + T + S + 1) → real < (q + 6) * 2 ^ 80
    below low real q f g = omega (arith, f, g, h, mul-le-mul_left a t, mul-le-mul_left a s)

cube-most : (a T S : ℕ) → T ≤ 2 ^ 40 → S ≤ 2 ^ 40 → cube false a T S ≤ a
cube-most a T S t s = div-le_of_le-mul (2 ^ 80) (omega (arith, mul-le-mul_left a (squares T S t s)))
  where
    squares : (T S : ℕ) → T ≤ 2 ^ 40 → S ≤ 2 ^ 40 → T * S ≤ 2 ^ 80
    squares T S h k = omega (arith, mul-le-mul_left T k, h)

pub record DepthsSpread (n n' : Tip) : Type 0 where
  pub depth : n'.depth ≤ n.depth + 6
  pub first : n'.first ≤ n.first + 30
  pub second : n'.second ≤ n.second + 30
  pub third : n'.third ≤ n.third + 30

depth_spread_at : (a T S : ℕ) → a < 2 ^ 41 → T ≤ 2 ^ 40 → S ≤ 2 ^ 40 → DepthsSpread (depth_tip false a T S) (depth_tip true a T S)
depth_spread_at a T S h t s = record {
  depth = depth;
  first = scale-spread 6 2 2 4 d d' (2 ^ 41 + rest false T + rest false S) (2 ^ 41 + rest true T + rest true S) depth (two _ _ _ _ (rest-spread T) (rest-spread S)) most (four _ _ (rest-most T) (rest-most S)) (omega arith);
  second = further _ _ (scale-spread 6 1 2 1 d d' T (T + 1) depth (same_ℕ (T + 1)) most t (omega arith));
  third = further _ _ (scale-spread 6 1 2 1 d d' S (S + 1) depth (same_ℕ (S + 1)) most s (omega arith));
}
  where
    d : ℕ
    d = cube false a T S

    d' : ℕ
    d' = cube true a (T + 1) (S + 1)

    depth : d' ≤ d + 6
    depth = cube-spread a T S (T + 1) (S + 1) t s h (same_ℕ (T + 1)) (same_ℕ (S + 1))

    most : d ≤ 2 * 2 ^ 40
    most = below (cube-most a T S t s) h
      where
        below : {m k : ℕ} → m ≤ k → k < 2 ^ 41 → m ≤ 2 * 2 ^ 40
        below h k = omega (arith, h, k)

    further : (m k : ℕ) → m ≤ k + 10 → m ≤ k + 30
    further m k h = omega (arith, h)

    two : (u u' v v' : ℕ) → u' ≤ u + 1 → v' ≤ v + 1 → 2 ^ 41 + u' + v' ≤ (2 ^ 41 + u + v) + 2
    two u u' v v' h k = omega (arith, h, k)

    four : (u v : ℕ) → u ≤ 2 ^ 40 → v ≤ 2 ^ 40 → 2 ^ 41 + u + v ≤ 4 * 2 ^ 40
    four u v h k = omega (arith, h, k)

no_tip_spread : DepthsSpread no_tip no_tip
no_tip_spread = record { depth = omega arith; first = omega arith; second = omega arith; third = omega arith }

-- quotients of sums
sum-spread : (k n n' E : ℕ) (w q q' : ℤ) → 0 < k → n' ≤ n + E → ((w +ℤ pos n) +ℤ pos 0) <ℤ ((q +ℤ pos 1) *ℤ pos k) → (q' *ℤ pos k) ≤ℤ ((w +ℤ pos n') +ℤ pos (k - 1)) → (q' *ℤ pos k) <ℤ (((q +ℤ pos 1) *ℤ pos k) +ℤ pos (E + k))
sum-spread k n n' E w q q' o h l m = go ((q +ℤ pos 1) *ℤ pos k) (q' *ℤ pos k) l m
  where
    go : (a b : ℤ) → ((w +ℤ pos n) +ℤ pos 0) <ℤ a → b ≤ℤ ((w +ℤ pos n') +ℤ pos (k - 1)) → b <ℤ (a +ℤ pos (E + k))
    go a b l m = omega (arith, ints, o, h, l, m)

three : (a b q q' : ℤ) → a ≡ (q *ℤ pos 3) +ℤ pos 3 → b ≡ q' *ℤ pos 3 → b <ℤ (a +ℤ pos 9) → q' ≤ℤ (q +ℤ pos 4)
three a b q q' e f h = omega (arith, ints, e, f, h)

twelve : (a b q q' : ℤ) → a ≡ (q *ℤ pos 12) +ℤ pos 12 → b ≡ q' *ℤ pos 12 → b <ℤ (a +ℤ pos 42) → q' ≤ℤ (q +ℤ pos 4)
twelve a b q q' e f h = omega (arith, ints, e, f, h)

thirds : (n n' : ℕ) (w : ℤ) → n' ≤ n + 6 → quotient_of_sum true 3 w n' ≤ℤ (quotient_of_sum false 3 w n +ℤ pos 4)
thirds n n' w h = three ((q +ℤ pos 1) *ℤ pos 3) (q' *ℤ pos 3) q q' (ring integers (q ∷ pos 3 ∷ []) ((var 0 :+ unit) :* var 1) (var 0 :* var 1 :+ var 1) refl) refl
    (sum-spread 3 n n' 6 w q q' (omega arith) h (floor_of-floor ((w +ℤ pos n) +ℤ pos 0) 3 (omega arith)).next (floor_of-floor ((w +ℤ pos n') +ℤ pos 2) 3 (omega arith)).below)
  where
    q : ℤ
    q = quotient_of_sum false 3 w n

    q' : ℤ
    q' = quotient_of_sum true 3 w n'

twelfths : (n n' : ℕ) (w : ℤ) → n' ≤ n + 30 → quotient_of_sum true 12 w n' ≤ℤ (quotient_of_sum false 12 w n +ℤ pos 4)
twelfths n n' w h = twelve ((q +ℤ pos 1) *ℤ pos 12) (q' *ℤ pos 12) q q' (ring integers (q ∷ pos 12 ∷ []) ((var 0 :+ unit) :* var 1) (var 0 :* var 1 :+ var 1) refl) refl
    (sum-spread 12 n n' 30 w q q' (omega arith) h (floor_of-floor ((w +ℤ pos n) +ℤ pos 0) 12 (omega arith)).next (floor_of-floor ((w +ℤ pos n') +ℤ pos 11) 12 (omega arith)).below)
  where
    q : ℤ
    q = quotient_of_sum false 12 w n

    q' : ℤ
    q' = quotient_of_sum true 12 w n'

pub record AreTightDepths (l h : DepthEnds) : Type 0 where
  pub depth : h.depth ≤ℤ (l.depth +ℤ pos 4)
  pub first : h.first ≤ℤ (l.first +ℤ pos 4)
  pub second : h.second ≤ℤ (l.second +ℤ pos 4)
  pub third : h.third ≤ℤ (l.third +ℤ pos 4)

tight_from : (x y z : ℤ) (n n' : Tip) → DepthsSpread n n' → AreTightDepths (depths_from false x y z n) (depths_from true x y z n')
tight_from x y z n n' s = record {
  depth = thirds n.depth n'.depth (sum_of x y z) s.depth;
  first = twelfths n.first n'.first (sum_of x y z +ℤ x) s.first;
  second = twelfths n.second n'.second (sum_of x y z +ℤ y) s.second;
  third = twelfths n.third n'.third (sum_of x y z +ℤ z) s.third;
}

tight_depths_by : (u v : Bool) (x y z : ℤ) (T S : ℕ) → Near x → T ≤ 2 ^ 40 → S ≤ 2 ^ 40 → AreTightDepths (depths_by false u v x y z T S) (depths_by true u v x y z T S)
tight_depths_by false false x y z T S h t s = tight_from (pos 0) (pos 0) (pos 0) no_tip no_tip no_tip_spread
tight_depths_by true true x y z T S h t s = tight_from x y z no_tip no_tip no_tip_spread
tight_depths_by true false x y z T S h t s = tight_from (pos 0) (pos 0) (pos 0) (depth_tip false (unsigned_abs x) T S) (depth_tip true (unsigned_abs x) T S) (depth_spread_at (unsigned_abs x) T S h t s)
tight_depths_by false true x y z T S h t s = tight_from x y z (depth_tip false (unsigned_abs x) T S) (depth_tip true (unsigned_abs x) T S) (depth_spread_at (unsigned_abs x) T S h t s)

tight_first_depths : (x y z : ℤ) → Near x → AreTightDepths (first_depths false x y z) (first_depths true x y z)
tight_first_depths x y z h = tight_depths_by (is_over x) (is_over y) x y z (part_between x y) (part_between x z) h (part_by-most (is_over x) (is_over y) (unsigned_abs x) (unsigned_abs y)) (part_by-most (is_over x) (is_over z) (unsigned_abs x) (unsigned_abs z))

turned_tight_depths : (l h : DepthEnds) → AreTightDepths l h → AreTightDepths (second_depths l) (second_depths h)
turned_tight_depths l h t = record { depth = t.depth; first = t.third; second = t.first; third = t.second }

tight_depths_in_turn : (u v w : Bool) (x y z : ℤ) → Near x → Near y → Near z → AreTightDepths (depths_in_turn false u v w x y z) (depths_in_turn true u v w x y z)
tight_depths_in_turn false false false x y z f g h = tight_first_depths x y z f
tight_depths_in_turn true true true x y z f g h = tight_first_depths x y z f
tight_depths_in_turn true false false x y z f g h = tight_first_depths x y z f
tight_depths_in_turn false true true x y z f g h = tight_first_depths x y z f
tight_depths_in_turn false true false x y z f g h = turned_tight_depths (first_depths false y z x) (first_depths true y z x) (tight_first_depths y z x g)
tight_depths_in_turn true false true x y z f g h = turned_tight_depths (first_depths false y z x) (first_depths true y z x) (tight_first_depths y z x g)
tight_depths_in_turn false false true x y z f g h = turned_tight_depths (second_depths (first_depths false z x y)) (second_depths (first_depths true z x y)) (turned_tight_depths (first_depths false z x y) (first_depths true z x y) (tight_first_depths z x y h))
tight_depths_in_turn true true false x y z f g h = turned_tight_depths (second_depths (first_depths false z x y)) (second_depths (first_depths true z x y)) (turned_tight_depths (first_depths false z x y) (first_depths true z x y) (tight_first_depths z x y h))

pub tight_depths : (x y z : ℤ) → Near x → Near y → Near z → AreTightDepths (depth_ends false x y z) (depth_ends true x y z)
tight_depths x y z f g h = tight_depths_in_turn (is_over x) (is_over y) (is_over z) x y z f g h

-- ---- no end is far above 1
quotient-most : (k n : ℕ) → 0 < k → n ≤ k * 2 ^ 40 → quotient false k n ≤ 2 ^ 40
quotient-most k n o h = div-le_of_le-mul k h

pub record AreAtMostOne (n : Shares) : Type 0 where
  pub share : n.share ≤ 2 ^ 40
  pub c0 : n.c0 ≤ 2 ^ 40
  pub c1 : n.c1 ≤ 2 ^ 40
  pub c2 : n.c2 ≤ 2 ^ 40
  pub p00 : n.p00 ≤ 2 ^ 40
  pub p01 : n.p01 ≤ 2 ^ 40
  pub p02 : n.p02 ≤ 2 ^ 40
  pub p11 : n.p11 ≤ 2 ^ 40
  pub p12 : n.p12 ≤ 2 ^ 40
  pub p22 : n.p22 ≤ 2 ^ 40

one_tip : (n : Shares) → SharesMost n → AreAtMostOne (tip_ends false n)
one_tip n m = record {
  share = quotient-most 1 n.share (omega arith) (omega (arith, m.share));
  c0 = quotient-most 3 n.c0 (omega arith) (omega (arith, m.c0));
  c1 = quotient-most 3 n.c1 (omega arith) (omega (arith, m.c1));
  c2 = quotient-most 3 n.c2 (omega arith) (omega (arith, m.c2));
  p00 = quotient-most 6 n.p00 (omega arith) (omega (arith, m.p00));
  p01 = quotient-most 12 n.p01 (omega arith) (omega (arith, m.p01));
  p02 = quotient-most 12 n.p02 (omega arith) (omega (arith, m.p02));
  p11 = quotient-most 6 n.p11 (omega arith) (omega (arith, m.p11));
  p12 = quotient-most 12 n.p12 (omega arith) (omega (arith, m.p12));
  p22 = quotient-most 6 n.p22 (omega arith) (omega (arith, m.p22));
}

one_rest : (n : Shares) → AreAtMostOne (rest_ends false n)
one_rest n = record {
  share = quotient-most 1 (2 ^ 40 - n.share) (omega arith) (omega arith);
  c0 = quotient-most 3 (2 ^ 40 - n.c0) (omega arith) (omega arith);
  c1 = quotient-most 3 (2 ^ 40 - n.c1) (omega arith) (omega arith);
  c2 = quotient-most 3 (2 ^ 40 - n.c2) (omega arith) (omega arith);
  p00 = quotient-most 6 (2 ^ 40 - n.p00) (omega arith) (omega arith);
  p01 = quotient-most 12 (2 ^ 40 - n.p01) (omega arith) (omega arith);
  p02 = quotient-most 12 (2 ^ 40 - n.p02) (omega arith) (omega arith);
  p11 = quotient-most 6 (2 ^ 40 - n.p11) (omega arith) (omega arith);
  p12 = quotient-most 12 (2 ^ 40 - n.p12) (omega arith) (omega arith);
  p22 = quotient-most 6 (2 ^ 40 - n.p22) (omega arith) (omega arith);
}

one_nothing : AreAtMostOne nothing
one_nothing = record { share = omega arith; c0 = omega arith; c1 = omega arith; c2 = omega arith; p00 = omega arith; p01 = omega arith; p02 = omega arith; p11 = omega arith; p12 = omega arith; p22 = omega arith }

one_shares_by : (u v : Bool) (T S : ℕ) → T ≤ 2 ^ 40 → S ≤ 2 ^ 40 → AreAtMostOne (shares_by false u v T S)
one_shares_by false false T S t s = one_nothing
one_shares_by true true T S t s = one_rest nothing
one_shares_by true false T S t s = one_tip (tip_at false T S) (tip_most T S (rest false T) (rest false S) (T + 1) (S + 1) (rest true T) (rest true S) t s (rest-most T) (rest-most S) (same_ℕ (T + 1)) (same_ℕ (S + 1)) (rest-spread T) (rest-spread S))
one_shares_by false true T S t s = one_rest (tip_at true T S)

one_first : (x y z : ℤ) → AreAtMostOne (first_shares false x y z)
one_first x y z = one_shares_by (is_over x) (is_over y) (part_between x y) (part_between x z) (part_by-most (is_over x) (is_over y) (unsigned_abs x) (unsigned_abs y)) (part_by-most (is_over x) (is_over z) (unsigned_abs x) (unsigned_abs z))

turned_one : (n : Shares) → AreAtMostOne n → AreAtMostOne (second_shares n)
turned_one n t = record { share = t.share; c0 = t.c2; c1 = t.c0; c2 = t.c1; p00 = t.p22; p01 = t.p02; p02 = t.p12; p11 = t.p00; p12 = t.p01; p22 = t.p11 }

one_in_turn : (u v w : Bool) (x y z : ℤ) → AreAtMostOne (shares_in_turn false u v w x y z)
one_in_turn false false false x y z = one_first x y z
one_in_turn true true true x y z = one_first x y z
one_in_turn true false false x y z = one_first x y z
one_in_turn false true true x y z = one_first x y z
one_in_turn false true false x y z = turned_one (first_shares false y z x) (one_first y z x)
one_in_turn true false true x y z = turned_one (first_shares false y z x) (one_first y z x)
one_in_turn false false true x y z = turned_one (second_shares (first_shares false z x y)) (turned_one (first_shares false z x y) (one_first z x y))
one_in_turn true true false x y z = turned_one (second_shares (first_shares false z x y)) (turned_one (first_shares false z x y) (one_first z x y))

pub low_shares_most : (x y z : ℤ) → AreAtMostOne (share_ends false x y z)
low_shares_most x y z = one_in_turn (is_over x) (is_over y) (is_over z) x y z
