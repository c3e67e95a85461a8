-- A model of the private functions: the ends of the means at corner depths of whole units 2^-20 mm, in whole numbers. Shares and means of
-- coordinates are in units of 2^-40, depths in those of 2^-20 mm. `up` says whether a number is rounded up.
use Rattle.std.specs.Prelude.{◌≡◌, ℕ, zero, suc, ◌+◌, ◌-◌, ◌*◌, ◌/◌, ◌^◌, ◌<◌, ◌≤◌, ℤ, pos, negsuc, ◌+ℤ◌, unsigned_abs, Bool, true, false, List, [], ◌∷◌}
use Rattle.outward_interval.specs.declared.span.Span.{Span}
use Rattle.std.specs.Int.{int_div_euclid, div_ceil}
use Rattle.plane_clip.specs.declared.shares.Shares.{Shares}

-- below 2^21 mm in magnitude
abbrev pub Near : ℤ → Type 0
Near x = unsigned_abs x < 2 ^ 41

-- a mean depth below 2^42 in magnitude, and three weighted means below 2^41
abbrev pub AreSmall : ℤ → ℤ → ℤ → ℤ → Type 0
AreSmall d f s t = (unsigned_abs d < 2 ^ 42) × (unsigned_abs f < 2 ^ 41) × (unsigned_abs s < 2 ^ 41) × (unsigned_abs t < 2 ^ 41)

abbrev pub is_over : ℤ → Bool
is_over (pos zero) = false
is_over (pos (suc n)) = true
is_over (negsuc n) = false

abbrev pub not : Bool → Bool
not true = false
not false = true

-- ---- rounding
-- a product in units of 2^-40
abbrev pub scale : Bool → ℕ → ℕ → ℕ
scale false x y = (x * y) / 2 ^ 40
scale true x y = (x * y) / 2 ^ 40 + 1

abbrev pub quotient : Bool → ℕ → ℕ → ℕ
quotient false k n = n / k
quotient true k n = div_ceil n k

-- what is added before a quotient by k is rounded down
abbrev pub most_rest : Bool → ℕ → ℕ
most_rest false k = 0
most_rest true k = k - 1

abbrev pub quotient_of_sum : Bool → ℕ → ℤ → ℕ → ℤ
quotient_of_sum up k w n = int_div_euclid ((w +ℤ pos n) +ℤ pos (most_rest up k)) (pos k)

-- ---- parts of edges
-- a / (a + b), rounded down
unfoldable pub part : ℕ → ℕ → ℕ
part a b = (a * 2 ^ 40) / (a + b)

abbrev pub part_by : Bool → Bool → ℕ → ℕ → ℕ
part_by true true a b = 0
part_by true false a b = part a b
part_by false true a b = part a b
part_by false false a b = 0

-- the part of the edge from the depth x to the depth y that lies before the crossing point; 0 where both lie on one side
abbrev pub part_between : ℤ → ℤ → ℕ
part_between x y = part_by (is_over x) (is_over y) (unsigned_abs x) (unsigned_abs y)

-- a part that was rounded down, and its complement, rounded down and up
abbrev pub bound : Bool → ℕ → ℕ
bound false t = t
bound true t = t + 1

abbrev pub rest : Bool → ℕ → ℕ
rest false t = (2 ^ 40 - 1) - t
rest true t = 2 ^ 40 - t

-- ---- shares: of the tip at the first corner, with the parts t and s of its edges and their complements u and v. The means of a coordinate
-- are taken three times, those of the product of two twelve times, or six times where both are the same
abbrev pub tip_shares : Bool → ℕ → ℕ → ℕ → ℕ → Shares
tip_shares up t s u v = record {
  share = scale up t s;
  c0 = scale up (scale up t s) (2 ^ 40 + u + v);
  c1 = scale up (scale up t s) t;
  c2 = scale up (scale up t s) s;
  p00 = scale up (scale up t s) (2 ^ 40 + u + v + scale up u u + scale up v v + scale up u v);
  p01 = scale up (scale up (scale up t s) t) (2 ^ 40 + 2 * u + v);
  p02 = scale up (scale up (scale up t s) s) (2 ^ 40 + u + 2 * v);
  p11 = scale up (scale up (scale up t s) t) t;
  p12 = scale up (scale up (scale up t s) t) s;
  p22 = scale up (scale up (scale up t s) s) s;
}

abbrev pub tip_at : Bool → ℕ → ℕ → Shares
tip_at up t s = tip_shares up (bound up t) (bound up s) (rest up t) (rest up s)

abbrev pub nothing : Shares
nothing = record { share = 0; c0 = 0; c1 = 0; c2 = 0; p00 = 0; p01 = 0; p02 = 0; p11 = 0; p12 = 0; p22 = 0 }

-- the means over the tip, and over what is left of the whole
abbrev pub tip_ends : Bool → Shares → Shares
tip_ends up n = record {
  share = quotient up 1 n.share;
  c0 = quotient up 3 n.c0;
  c1 = quotient up 3 n.c1;
  c2 = quotient up 3 n.c2;
  p00 = quotient up 6 n.p00;
  p01 = quotient up 12 n.p01;
  p02 = quotient up 12 n.p02;
  p11 = quotient up 6 n.p11;
  p12 = quotient up 12 n.p12;
  p22 = quotient up 6 n.p22;
}

abbrev pub rest_ends : Bool → Shares → Shares
rest_ends up n = tip_ends up (record {
  share = 2 ^ 40 - n.share;
  c0 = 2 ^ 40 - n.c0;
  c1 = 2 ^ 40 - n.c1;
  c2 = 2 ^ 40 - n.c2;
  p00 = 2 ^ 40 - n.p00;
  p01 = 2 ^ 40 - n.p01;
  p02 = 2 ^ 40 - n.p02;
  p11 = 2 ^ 40 - n.p11;
  p12 = 2 ^ 40 - n.p12;
  p22 = 2 ^ 40 - n.p22;
})

-- where the first corner may lie alone on its side, by whether it and the others lie below the water
abbrev pub shares_by : Bool → Bool → Bool → ℕ → ℕ → Shares
shares_by up false false t s = nothing
shares_by up true true t s = rest_ends up nothing
shares_by up true false t s = tip_ends up (tip_at up t s)
shares_by up false true t s = rest_ends up (tip_at (not up) t s)

abbrev pub first_shares : Bool → ℤ → ℤ → ℤ → Shares
first_shares up x y z = shares_by up (is_over x) (is_over y) (part_between x y) (part_between x z)

-- ---- depths: what the tip at a first corner of the magnitude a adds, three times for the mean depth, and twelve times weighted
pub record Tip : Type 0 where
  pub depth : ℕ
  pub first : ℕ
  pub second : ℕ
  pub third : ℕ

abbrev pub cube : Bool → ℕ → ℕ → ℕ → ℕ
cube false a t s = (a * (t * s)) / 2 ^ 80
cube true a t s = (a * (t * s)) / 2 ^ 80 + 1

abbrev pub tip_from : Bool → ℕ → ℕ → ℕ → ℕ → ℕ → Tip
tip_from up d t s u v = record { depth = d; first = scale up d (2 ^ 41 + u + v); second = scale up d t; third = scale up d s }

abbrev pub depth_tip : Bool → ℕ → ℕ → ℕ → Tip
depth_tip up a t s = tip_from up (cube up a (bound up t) (bound up s)) (bound up t) (bound up s) (rest up t) (rest up s)

abbrev pub no_tip : Tip
no_tip = record { depth = 0; first = 0; second = 0; third = 0 }

-- the mean depth, and the depth weighted by the coordinate of each corner
pub record DepthEnds : Type 0 where
  pub depth : ℤ
  pub first : ℤ
  pub second : ℤ
  pub third : ℤ

abbrev pub sum_of : ℤ → ℤ → ℤ → ℤ
sum_of x y z = (x +ℤ y) +ℤ z

abbrev pub depths_from : Bool → ℤ → ℤ → ℤ → Tip → DepthEnds
depths_from up x y z n = record {
  depth = quotient_of_sum up 3 (sum_of x y z) n.depth;
  first = quotient_of_sum up 12 (sum_of x y z +ℤ x) n.first;
  second = quotient_of_sum up 12 (sum_of x y z +ℤ y) n.second;
  third = quotient_of_sum up 12 (sum_of x y z +ℤ z) n.third;
}

abbrev pub depths_by : Bool → Bool → Bool → ℤ → ℤ → ℤ → ℕ → ℕ → DepthEnds
depths_by up false false x y z t s = depths_from up (pos 0) (pos 0) (pos 0) no_tip
depths_by up true true x y z t s = depths_from up x y z no_tip
depths_by up true false x y z t s = depths_from up (pos 0) (pos 0) (pos 0) (depth_tip up (unsigned_abs x) t s)
depths_by up false true x y z t s = depths_from up x y z (depth_tip up (unsigned_abs x) t s)

abbrev pub first_depths : Bool → ℤ → ℤ → ℤ → DepthEnds
first_depths up x y z = depths_by up (is_over x) (is_over y) x y z (part_between x y) (part_between x z)

-- ---- the corner that lies alone on its side is taken first, and the others follow in turn; the results are turned back
abbrev pub second_shares : Shares → Shares
second_shares n = record { share = n.share; c0 = n.c2; c1 = n.c0; c2 = n.c1; p00 = n.p22; p01 = n.p02; p02 = n.p12; p11 = n.p00; p12 = n.p01; p22 = n.p11 }

abbrev pub third_shares : Shares → Shares
third_shares n = second_shares (second_shares n)

abbrev pub second_depths : DepthEnds → DepthEnds
second_depths n = record { depth = n.depth; first = n.third; second = n.first; third = n.second }

abbrev pub third_depths : DepthEnds → DepthEnds
third_depths n = second_depths (second_depths n)

abbrev pub shares_in_turn : Bool → Bool → Bool → Bool → ℤ → ℤ → ℤ → Shares
shares_in_turn up false false false x y z = first_shares up x y z
shares_in_turn up true true true x y z = first_shares up x y z
shares_in_turn up true false false x y z = first_shares up x y z
shares_in_turn up false true true x y z = first_shares up x y z
shares_in_turn up false true false x y z = second_shares (first_shares up y z x)
shares_in_turn up true false true x y z = second_shares (first_shares up y z x)
shares_in_turn up false false true x y z = third_shares (first_shares up z x y)
shares_in_turn up true true false x y z = third_shares (first_shares up z x y)

abbrev pub depths_in_turn : Bool → Bool → Bool → Bool → ℤ → ℤ → ℤ → DepthEnds
depths_in_turn up false false false x y z = first_depths up x y z
depths_in_turn up true true true x y z = first_depths up x y z
depths_in_turn up true false false x y z = first_depths up x y z
depths_in_turn up false true true x y z = first_depths up x y z
depths_in_turn up false true false x y z = second_depths (first_depths up y z x)
depths_in_turn up true false true x y z = second_depths (first_depths up y z x)
depths_in_turn up false false true x y z = third_depths (first_depths up z x y)
depths_in_turn up true true false x y z = third_depths (first_depths up z x y)

abbrev pub share_ends : Bool → ℤ → ℤ → ℤ → Shares
share_ends up x y z = shares_in_turn up (is_over x) (is_over y) (is_over z) x y z

abbrev pub depth_ends : Bool → ℤ → ℤ → ℤ → DepthEnds
depth_ends up x y z = depths_in_turn up (is_over x) (is_over y) (is_over z) x y z

-- lower ends are at most the upper ones
pub record SharesOrdered (l h : Shares) : Type 0 where
  pub share : l.share ≤ h.share
  pub c0 : l.c0 ≤ h.c0
  pub c1 : l.c1 ≤ h.c1
  pub c2 : l.c2 ≤ h.c2
  pub p00 : l.p00 ≤ h.p00
  pub p01 : l.p01 ≤ h.p01
  pub p02 : l.p02 ≤ h.p02
  pub p11 : l.p11 ≤ h.p11
  pub p12 : l.p12 ≤ h.p12
  pub p22 : l.p22 ≤ h.p22

-- spans have these lower and these upper ends
abbrev pub AreEndsOf : (F : ℕ) → Span F → ℤ → ℤ → Type 0
AreEndsOf F span lo hi = (span.lo ≡ lo) × (span.hi ≡ hi)

abbrev pub AreEachEnds : (F : ℕ) → List (Span F) → List ℤ → List ℤ → Type 0
AreEachEnds F [] [] [] = Unit {0}
AreEachEnds F (span ∷ spans) (lo ∷ los) (hi ∷ his) = AreEndsOf F span lo hi × AreEachEnds F spans los his
AreEachEnds F _ _ _ = ⊥

abbrev pub corners_of : Shares → List ℤ
corners_of n = pos n.c0 ∷ pos n.c1 ∷ pos n.c2 ∷ []

abbrev pub pairs_of : Shares → List ℤ
pairs_of n = pos n.p00 ∷ pos n.p01 ∷ pos n.p02 ∷ pos n.p11 ∷ pos n.p12 ∷ pos n.p22 ∷ []

abbrev pub weighted_of : DepthEnds → List ℤ
weighted_of n = n.first ∷ n.second ∷ n.third ∷ []
