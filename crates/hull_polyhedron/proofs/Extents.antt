-- An extent widened by each point of a hull reaches from the least to the greatest.
use Rattle.std.proofs.Common.{ℕ, ◌≤◌, ◌-◌, ◌≡◌, refl, sym, ◌∙◌, ap, List, [], ◌∷◌, length, get_or, Bool, true, false, ℤ, ◌≤ℤ◌, arith}
use mathlib.Core.Path.{subst}
use mathlib.Core.Logic.{◌⊎◌, inl, inr}
use Rattle.std.proofs.lemmas.Int.{ints}
use Rattle.std.specs.Prelude.{cond, int_lt}
use Rattle.std.specs.Int.{int_min, int_max}
use Rattle.std.specs.List.{AllByRecursion}
use Rattle.hull_model.specs.declared.point.Point.{Point}
use Rattle.hull_model.specs.declared.station.Station.{Station}
use Rattle.hull_model.specs.Lists.{AnyByRecursion}
use Rattle.hull_model.specs.Body.{IsHull, IsStation}
use Rattle.hull_model.specs.Submerged.{last_x}
use Rattle.hull_polyhedron.proofs.Kept.{last_of_rest}
use Rattle.hull_polyhedron.specs.declared.extent.Extent.{Extent}
use Rattle.hull_polyhedron.specs.Extent.{AllPoints, SomePoint, IsLeast, IsGreatest}
use Rattle.hull_polyhedron.specs.Widening.{at, with_point, with_points, with_stations}

-- ---- the lesser and the greater of two numbers
less_cases : (x y : ℤ) (b : Bool) → int_lt y x ≡ b → (cond b y x ≤ℤ x) × (cond b y x ≤ℤ y) × ((cond b y x ≡ x) ⊎ (cond b y x ≡ y))
less_cases x y true e = (weak (below x y e), same y, inr refl)
  where
    below : (x y : ℤ) → int_lt y x ≡ true → y ≤ℤ x
    below x y e = grind arith

    weak : {a b : ℤ} → a ≤ℤ b → a ≤ℤ b
    weak h = h

    same : (a : ℤ) → a ≤ℤ a
    same a = omega (arith, ints)
less_cases x y false e = (same x, above x y e, inl refl)
  where
    above : (x y : ℤ) → int_lt y x ≡ false → x ≤ℤ y
    above x y e = grind arith

    same : (a : ℤ) → a ≤ℤ a
    same a = omega (arith, ints)

lesser : (x y : ℤ) → (int_min x y ≤ℤ x) × (int_min x y ≤ℤ y) × ((int_min x y ≡ x) ⊎ (int_min x y ≡ y))
lesser x y = less_cases x y (int_lt y x) refl

greater_cases : (x y : ℤ) (b : Bool) → int_lt y x ≡ b → (x ≤ℤ cond b x y) × (y ≤ℤ cond b x y) × ((cond b x y ≡ x) ⊎ (cond b x y ≡ y))
greater_cases x y true e = (same x, below x y e, inl refl)
  where
    below : (x y : ℤ) → int_lt y x ≡ true → y ≤ℤ x
    below x y e = grind arith

    same : (a : ℤ) → a ≤ℤ a
    same a = omega (arith, ints)
greater_cases x y false e = (above x y e, same y, inr refl)
  where
    above : (x y : ℤ) → int_lt y x ≡ false → x ≤ℤ y
    above x y e = grind arith

    same : (a : ℤ) → a ≤ℤ a
    same a = omega (arith, ints)

greater : (x y : ℤ) → (x ≤ℤ int_max x y) × (y ≤ℤ int_max x y) × ((int_max x y ≡ x) ⊎ (int_max x y ≡ y))
greater x y = greater_cases x y (int_lt y x) refl

-- ---- a choice of one of two numbers, in an order
pub record IsChoice (f : ℤ → ℤ → ℤ) (R : ℤ → ℤ → Type 0) : Type 0 where
  pub same : (n : ℤ) → R n n
  pub trans : (l m n : ℤ) → R l m → R m n → R l n
  pub first : (m n : ℤ) → R (f m n) m
  pub second : (m n : ℤ) → R (f m n) n
  pub picks : (m n : ℤ) → (f m n ≡ m) ⊎ (f m n ≡ n)

least_choice : IsChoice int_min (λ m n. m ≤ℤ n)
least_choice = record {
  same = λ n. at_most_itself n;
  trans = λ l m n h k. omega (arith, ints);
  first = λ m n. (lesser m n).0;
  second = λ m n. (lesser m n).1;
  picks = λ m n. (lesser m n).2;
}
  where
    at_most_itself : (n : ℤ) → n ≤ℤ n
    at_most_itself n = omega (arith, ints)

greatest_choice : IsChoice int_max (λ m n. n ≤ℤ m)
greatest_choice = record {
  same = λ n. at_most_itself n;
  trans = λ l m n h k. omega (arith, ints);
  first = λ m n. (greater m n).0;
  second = λ m n. (greater m n).1;
  picks = λ m n. (greater m n).2;
}
  where
    at_most_itself : (n : ℤ) → n ≤ℤ n
    at_most_itself n = omega (arith, ints)

module _ (f : ℤ → ℤ → ℤ) (R : ℤ → ℤ → Type 0) (choice : IsChoice f R) (key : Point → ℤ) where
  abbrev chosen : ℤ → List Point → ℤ
  chosen n [] = n
  chosen n (p ∷ points) = chosen (f n (key p)) points

  abbrev chosen_of_all : ℤ → List Station → ℤ
  chosen_of_all n [] = n
  chosen_of_all n (s ∷ stations) = chosen_of_all (chosen n s.points) stations

  pub record Reaches (n m : ℤ) (All Some : Type 0) : Type 0 where
    pub start : R m n
    pub all : All
    pub met : (m ≡ n) ⊎ Some

  points_reach : (n : ℤ) (points : List Point) → Reaches n (chosen n points) (AllByRecursion (λ p. R (chosen n points) (key p)) points) (AnyByRecursion (λ p. key p ≡ chosen n points) points)
  points_reach n [] = record { start = choice.same n; all = tt; met = inl refl }
  points_reach n (p ∷ points) = step (points_reach (f n (key p)) points)
    where
      m : ℤ
      m = f n (key p)

      to_met : (c : ℤ) {Rest : Type 0} → (c ≡ m) ⊎ Rest → (m ≡ n) ⊎ (m ≡ key p) → (c ≡ n) ⊎ ((key p ≡ c) ⊎ Rest)
      to_met c (inr r) _ = inr (inr r)
      to_met c (inl h) (inl k) = inl (h ∙ k)
      to_met c (inl h) (inr k) = inr (inl (sym (h ∙ k)))

      step : Reaches m (chosen m points) (AllByRecursion (λ p. R (chosen m points) (key p)) points) (AnyByRecursion (λ p. key p ≡ chosen m points) points)
          → Reaches n (chosen m points) (R (chosen m points) (key p) × AllByRecursion (λ p. R (chosen m points) (key p)) points) ((key p ≡ chosen m points) ⊎ AnyByRecursion (λ p. key p ≡ chosen m points) points)
      step rest = record {
        start = choice.trans _ _ _ rest.start (choice.first n (key p));
        all = (choice.trans _ _ _ rest.start (choice.second n (key p)), rest.all);
        met = to_met (chosen m points) rest.met (choice.picks n (key p));
      }

  all_further : (l m : ℤ) → R l m → (points : List Point) → AllByRecursion (λ p. R m (key p)) points → AllByRecursion (λ p. R l (key p)) points
  all_further l m h [] all = tt
  all_further l m h (p ∷ points) all = (choice.trans l m (key p) h all.0, all_further l m h points all.1)

  stations_reach : (n : ℤ) (stations : List Station) → Reaches n (chosen_of_all n stations) (AllPoints (λ p. R (chosen_of_all n stations) (key p)) stations) (SomePoint (λ p. key p ≡ chosen_of_all n stations) stations)
  stations_reach n [] = record { start = choice.same n; all = tt; met = inl refl }
  stations_reach n (s ∷ stations) = step (points_reach n s.points) (stations_reach (chosen n s.points) stations)
    where
      m : ℤ
      m = chosen n s.points

      c : ℤ
      c = chosen_of_all m stations

      to_met : (c : ℤ) {Rest : Type 0} → (c ≡ m) ⊎ Rest → (m ≡ n) ⊎ AnyByRecursion (λ p. key p ≡ m) s.points → (c ≡ n) ⊎ (AnyByRecursion (λ p. key p ≡ c) s.points ⊎ Rest)
      to_met c (inr r) _ = inr (inr r)
      to_met c (inl h) (inl k) = inl (h ∙ k)
      to_met c (inl h) (inr k) = inr (inl (subst (λ (n : ℤ). AnyByRecursion (λ p. key p ≡ n) s.points) (sym h) k))

      step : Reaches n m (AllByRecursion (λ p. R m (key p)) s.points) (AnyByRecursion (λ p. key p ≡ m) s.points)
          → Reaches m c (AllPoints (λ p. R c (key p)) stations) (SomePoint (λ p. key p ≡ c) stations)
          → Reaches n c (AllByRecursion (λ p. R c (key p)) s.points × AllPoints (λ p. R c (key p)) stations) (AnyByRecursion (λ p. key p ≡ c) s.points ⊎ SomePoint (λ p. key p ≡ c) stations)
      step here rest = record {
        start = choice.trans c m n rest.start here.start;
        all = (all_further c m rest.start s.points here.all, rest.all);
        met = to_met c rest.met here.met;
      }

  -- from the first point of a hull on, some point is met
  from_first : (stations : List Station) → 1 ≤ length stations → AllByRecursion IsStation stations → (other : Station) (none : Point)
      → SomePoint (λ p. key p ≡ key (get_or (get_or stations 0 other).points 0 none)) stations
  from_first [] some each other none = absurd (omega arith)
  from_first (s ∷ stations) some each other none = inl (first_of s.points each.0.some)
    where
      first_of : (points : List Point) → 1 ≤ length points → AnyByRecursion (λ p. key p ≡ key (get_or points 0 none)) points
      first_of [] some = absurd (omega arith)
      first_of (p ∷ points) some = inl refl

  some_met : (n c : ℤ) (stations : List Station) → (c ≡ n) ⊎ SomePoint (λ p. key p ≡ c) stations → SomePoint (λ p. key p ≡ n) stations → SomePoint (λ p. key p ≡ c) stations
  some_met n c stations (inl h) first = subst (λ (m : ℤ). SomePoint (λ p. key p ≡ m) stations) (sym h) first
  some_met n c stations (inr r) first = r

-- ---- the three numbers of an extent
low_of_points : (e : Extent) (points : List Point) → (with_points e points).low_z ≡ chosen int_min (λ m n. m ≤ℤ n) least_choice (λ p. p.z) e.low_z points
low_of_points e [] = refl
low_of_points e (p ∷ points) = low_of_points (with_point e p) points

high_of_points : (e : Extent) (points : List Point) → (with_points e points).high_z ≡ chosen int_max (λ m n. n ≤ℤ m) greatest_choice (λ p. p.z) e.high_z points
high_of_points e [] = refl
high_of_points e (p ∷ points) = high_of_points (with_point e p) points

breadth_of_points : (e : Extent) (points : List Point) → (with_points e points).half_breadth ≡ chosen int_max (λ m n. n ≤ℤ m) greatest_choice (λ p. p.y) e.half_breadth points
breadth_of_points e [] = refl
breadth_of_points e (p ∷ points) = breadth_of_points (with_point e p) points

low_of_stations : (e : Extent) (stations : List Station) → (with_stations e stations).low_z ≡ chosen_of_all int_min (λ m n. m ≤ℤ n) least_choice (λ p. p.z) e.low_z stations
low_of_stations e [] = refl
low_of_stations e (s ∷ stations) = low_of_stations (with_points e s.points) stations ∙ ap (λ n. chosen_of_all int_min (λ m n. m ≤ℤ n) least_choice (λ p. p.z) n stations) (low_of_points e s.points)

high_of_stations : (e : Extent) (stations : List Station) → (with_stations e stations).high_z ≡ chosen_of_all int_max (λ m n. n ≤ℤ m) greatest_choice (λ p. p.z) e.high_z stations
high_of_stations e [] = refl
high_of_stations e (s ∷ stations) = high_of_stations (with_points e s.points) stations ∙ ap (λ n. chosen_of_all int_max (λ m n. n ≤ℤ m) greatest_choice (λ p. p.z) n stations) (high_of_points e s.points)

breadth_of_stations : (e : Extent) (stations : List Station) → (with_stations e stations).half_breadth ≡ chosen_of_all int_max (λ m n. n ≤ℤ m) greatest_choice (λ p. p.y) e.half_breadth stations
breadth_of_stations e [] = refl
breadth_of_stations e (s ∷ stations) = breadth_of_stations (with_points e s.points) stations ∙ ap (λ n. chosen_of_all int_max (λ m n. n ≤ℤ m) greatest_choice (λ p. p.y) n stations) (breadth_of_points e s.points)

module _ (stations : List Station) (hull : IsHull stations) (other : Station) (none : Point) where
  abbrev lowest : Point
  lowest = get_or (get_or stations 0 other).points 0 none

  some_station : 1 ≤ length stations
  some_station = weaker hull.some
    where
      weaker : {n : ℕ} → 3 ≤ n → 1 ≤ n
      weaker h = omega arith

  pub least_height : IsLeast (λ p. p.z) stations (with_stations (at lowest) stations).low_z
  least_height = subst (IsLeast (λ p. p.z) stations) (sym (low_of_stations (at lowest) stations))
      (let reach = stations_reach int_min (λ m n. m ≤ℤ n) least_choice (λ p. p.z) lowest.z stations in
      record { below = reach.all; met = some_met int_min (λ m n. m ≤ℤ n) least_choice (λ p. p.z) lowest.z _ stations reach.met (from_first int_min (λ m n. m ≤ℤ n) least_choice (λ p. p.z) stations some_station hull.each other none) })

  pub greatest_height : IsGreatest (λ p. p.z) stations (with_stations (at lowest) stations).high_z
  greatest_height = subst (IsGreatest (λ p. p.z) stations) (sym (high_of_stations (at lowest) stations))
      (let reach = stations_reach int_max (λ m n. n ≤ℤ m) greatest_choice (λ p. p.z) lowest.z stations in
      record { above = reach.all; met = some_met int_max (λ m n. n ≤ℤ m) greatest_choice (λ p. p.z) lowest.z _ stations reach.met (from_first int_max (λ m n. n ≤ℤ m) greatest_choice (λ p. p.z) stations some_station hull.each other none) })

  pub greatest_breadth : IsGreatest (λ p. p.y) stations (with_stations (at lowest) stations).half_breadth
  greatest_breadth = subst (IsGreatest (λ p. p.y) stations) (sym (breadth_of_stations (at lowest) stations))
      (let reach = stations_reach int_max (λ m n. n ≤ℤ m) greatest_choice (λ p. p.y) lowest.y stations in
      record { above = reach.all; met = some_met int_max (λ m n. n ≤ℤ m) greatest_choice (λ p. p.y) lowest.y _ stations reach.met (from_first int_max (λ m n. n ≤ℤ m) greatest_choice (λ p. p.y) stations some_station hull.each other none) })

-- the last station's x
pub last_x_at : (stations : List Station) (other : Station) → 1 ≤ length stations → (get_or stations (length stations - 1) other).x ≡ last_x stations
last_x_at [] other some = absurd (omega arith)
last_x_at (s ∷ []) other some = refl
last_x_at (s ∷ t ∷ rest) other some = ap (λ (s : Station). s.x) (last_of_rest s t rest other) ∙ last_x_at (t ∷ rest) other (omega arith)
