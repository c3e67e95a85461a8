-- The strips of a hull one by one: what is added up over their tetrahedra makes up what is added up over the hull's.
use Rattle.std.proofs.Common.{ℕ, zero, suc, ◌<◌, ◌≡◌, refl, sym, ◌∙◌, ap, ap₂, List, [], ◌∷◌, ◌++◌, map, length, get_or, ℤ, ◌<ℤ◌, ◌≤ℤ◌, arith}
use mathlib.Core.Logic.{◌≢◌}
use Rattle.std.proofs.lemmas.Int.{ints}
use Rattle.std.proofs.lemmas.Grind.{flat_map-append}
use Rattle.std.proofs.lemmas.List.{append-nil, map-append}
use Rattle.std.specs.List.{flat_map, AllByRecursion}
use Rattle.exact_algebra.specs.Expression.{var, number, ◌:+◌}
use Rattle.exact_algebra.proofs.Ring.{ring}
use Rattle.exact_algebra.proofs.Fraction.{Fraction, nought, ◌⊕◌, fraction_ring}
use Rattle.hull_model.specs.declared.node.Node.{Node}
use Rattle.hull_model.specs.declared.station.Station.{Station}
use Rattle.hull_model.specs.Body.{IsStation}
use Rattle.hull_model.specs.Fractions.{sum_over}
use Rattle.hull_model.specs.Lists.{Rises}
use Rattle.hull_model.specs.Submerged.{first_x, last_x}
use Rattle.hull_model.specs.TriangleCut.{Triangle}
use Rattle.hull_model.specs.Zipper.{between_stations, strip_triangles}
use Rattle.hull_polyhedron.specs.Strips.{strips_of, strip_at}

-- what holds of all elements holds of that of a number
pub all_at : {A : Type 0} (P : A → Type 0) (xs : List A) (i : ℕ) (other : A) → i < length xs → AllByRecursion P xs → P (get_or xs i other)
all_at P [] i other less all = absurd (omega arith)
all_at P (x ∷ xs) zero other less all = all.0
all_at P (x ∷ xs) (suc i) other less all = all_at P xs i other (omega arith) all.1

-- ---- the stations of each strip
abbrev pub IsStrip : List Station → Type 0
IsStrip strip = AllByRecursion IsStation strip × Rises (λ s. s.x) strip

pub all_strips : (stations : List Station) → AllByRecursion IsStation stations → Rises (λ s. s.x) stations → AllByRecursion IsStrip (strips_of stations)
all_strips [] each rises = tt
all_strips (s ∷ []) each rises = tt
all_strips (s ∷ t ∷ rest) each rises = (((each.0, (each.1.0, tt)), (rises.0, tt)), all_strips (t ∷ rest) each.1 rises.1)

-- a strip begins at the earliest where one of a lower number ends
starts_after : (s : Station) (rest : List Station) (n : ℕ) → Rises (λ s. s.x) (s ∷ rest) → n < length (strips_of (s ∷ rest)) → s.x ≤ℤ first_x (strip_at (s ∷ rest) n)
starts_after s [] n rises less = absurd (omega arith)
starts_after s (t ∷ rest) zero rises less = same s.x
  where
    same : (n : ℤ) → n ≤ℤ n
    same n = omega (arith, ints)
starts_after s (t ∷ rest) (suc n) rises less = trans rises.0 (starts_after t rest n rises.1 (omega arith))
  where
    trans : {l m n : ℤ} → l <ℤ m → m ≤ℤ n → l ≤ℤ n
    trans h k = omega (arith, ints)

pub ends_before : (stations : List Station) (i n : ℕ) → Rises (λ s. s.x) stations → i < n → n < length (strips_of stations) → last_x (strip_at stations i) ≤ℤ first_x (strip_at stations n)
ends_before [] i n rises below less = absurd (omega arith)
ends_before (s ∷ []) i n rises below less = absurd (omega arith)
ends_before (s ∷ t ∷ rest) i zero rises below less = absurd (omega arith)
ends_before (s ∷ t ∷ rest) zero (suc n) rises below less = starts_after t rest n rises.1 (omega arith)
ends_before (s ∷ t ∷ rest) (suc i) (suc n) rises below less = ends_before (t ∷ rest) i n rises.1 (omega arith) (omega arith)

-- ---- sums
-- of a sum in which all terms but one are 0
pub single : {A : Type 0} (F : A → Fraction) (xs : List A) (n : ℕ) (other : A) → n < length xs
    → ((i : ℕ) → i < length xs → i ≢ n → F (get_or xs i other) ≡ nought) → sum_over F xs ≡ F (get_or xs n other)
unfolding sum_over
single F [] n other less rest = absurd (omega arith)
single F (x ∷ xs) zero other less rest = ap (λ s. F x ⊕ s) (nothing xs (λ i h. rest (suc i) (omega arith) (λ e. absurd (omega arith))))
    ∙ ring fraction_ring (F x ∷ []) (var 0 :+ number 0) (var 0) refl
  where
    nothing : (ys : List _) → ((i : ℕ) → i < length ys → F (get_or ys i other) ≡ nought) → sum_over F ys ≡ nought
    nothing [] all = refl
    nothing (y ∷ ys) all = ap₂ ◌⊕◌ (all 0 (omega arith)) (nothing ys (λ i h. all (suc i) (omega arith))) ∙ ring fraction_ring [] (number 0 :+ number 0) (number 0) refl
single F (x ∷ xs) (suc n) other less rest = ap₂ ◌⊕◌ (rest 0 (omega arith) (λ e. absurd (omega arith))) (single F xs n other (omega arith) (λ i h ne. rest (suc i) (omega arith) (λ e. ne (omega arith))))
    ∙ ring fraction_ring (F (get_or xs n other) ∷ []) (number 0 :+ var 0) (var 0) refl

-- what is made of each strip triangle, and the image of each
module _ {A : Type 0} (make : Triangle Node → List A) (image : A → A) where
  abbrev half : List Station → List A
  half stations = flat_map make (strip_triangles stations)

  abbrev pub whole_of : List Station → List A
  whole_of stations = half stations ++ map image (half stations)

  half_of_strip : (s t : Station) → half (s ∷ t ∷ []) ≡ flat_map make (between_stations s t)
  half_of_strip s t = ap (flat_map make) (append-nil (between_stations s t))

  module _ (F : List A → Fraction) (none : F [] ≡ nought) (both : (xs ys : List A) → F (xs ++ ys) ≡ F xs ⊕ F ys) where
    two_parts : (xs ys : List A) → F ((xs ++ ys) ++ map image (xs ++ ys)) ≡ F (xs ++ map image xs) ⊕ F (ys ++ map image ys)
    two_parts xs ys = both (xs ++ ys) (map image (xs ++ ys))
        ∙ ap₂ ◌⊕◌ (both xs ys) (ap F (map-append image xs ys) ∙ both (map image xs) (map image ys))
        ∙ ring fraction_ring (F xs ∷ F ys ∷ F (map image xs) ∷ F (map image ys) ∷ []) ((var 0 :+ var 1) :+ (var 2 :+ var 3)) ((var 0 :+ var 2) :+ (var 1 :+ var 3)) refl
        ∙ sym (ap₂ ◌⊕◌ (both xs (map image xs)) (both ys (map image ys)))

    pub strip_by_strip : (stations : List Station) → F (whole_of stations) ≡ sum_over (λ strip. F (whole_of strip)) (strips_of stations)
    unfolding sum_over
    strip_by_strip [] = none
    strip_by_strip (s ∷ []) = none
    strip_by_strip (s ∷ t ∷ rest) =
        ap (λ (xs : List A). F (xs ++ map image xs)) (flat_map-append make (between_stations s t) (strip_triangles (t ∷ rest)))
        ∙ two_parts (flat_map make (between_stations s t)) (half (t ∷ rest))
        ∙ ap₂ ◌⊕◌ (ap (λ (xs : List A). F (xs ++ map image xs)) (sym (half_of_strip s t))) (strip_by_strip (t ∷ rest))
