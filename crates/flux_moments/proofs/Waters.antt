-- Depths by their spans, and how a strip lies by its points.
use Rattle.std.proofs.Common.{◌≡◌, refl, sym, ap, subst, ℕ, zero, suc, ◌+◌, ◌-◌, ◌≤◌, length, take, drop, get_or, List, [], ◌∷◌, ◌^◌, ℤ, pos, neg_ℤ, unsigned_abs, ◌<ℤ◌, ◌≤ℤ◌, arith}
use Rattle.std.proofs.lemmas.Int.{ints}
use Rattle.std.specs.List.{AllByRecursion}
use Rattle.hull_model.specs.declared.node.Node.{Node}
use Rattle.hull_model.specs.Nodes.{IsNode, mirrored}
use Rattle.hull_polyhedron.specs.Between.{IsBetween}
use Rattle.flux_moments.specs.Sizes.{BoxSize, Reaches}
use Rattle.exact_algebra.specs.Expression.{var, number, ◌:-◌, ◌:*◌}
use Rattle.exact_algebra.proofs.Fraction.{Fraction, nought, ◌⊕◌, fractions, fraction_ring, ◌≼◌, ◌≺◌}
use Rattle.exact_algebra.proofs.Order as Order
use Rattle.exact_algebra.proofs.Order.{order_from, no_more, at_most, equal}
use Rattle.exact_algebra.proofs.Ring.{ring}
use Rattle.exact_algebra.proofs.Span.{ContainsFraction, positive-unit, positive_from_span}
use Rattle.exact_algebra.proofs.Whole.{whole, whole-≼, whole-nought}

pub above_nought : {lo hi : ℤ} {x : Fraction} → pos 0 <ℤ lo → ContainsFraction 20 lo hi x → nought ≺ x
above_nought {lo} {hi} {x} h c = Order.positive_same fractions (ring fraction_ring (x ∷ []) (var 0 :- number 0) (var 0) refl) (positive_from_span h c)

pub at_most_nought : {lo hi : ℤ} {x : Fraction} → hi ≤ℤ pos 0 → ContainsFraction 20 lo hi x → x ≼ nought
at_most_nought {lo} {hi} {x} h c = Order.≼_cancel fractions (positive-unit 20) (Order.≼_trans fractions c.to (Order.≼_trans fractions (whole-≼ h)
    (Order.≼_trans fractions (Order.≼_same fractions whole-nought) (Order.≼_same fractions (ring fraction_ring (whole (pos (2 ^ 20)) ∷ []) (number 0) (number 0 :* var 0) refl)))))

pub each : {A : Type 0} {P Q : A → Type 0} → ((x : A) → P x → Q x) → (xs : List A) → AllByRecursion P xs → AllByRecursion Q xs
each f [] all = tt
each f (x ∷ xs) all = (f x all.0, each f xs all.1)

-- the first of a list and what is left of it
pub first_in : {A : Type 0} (P : A → Type 0) (xs : List A) (other : A) → 1 ≤ length xs → AllByRecursion P xs → P (get_or xs 0 other)
first_in P [] other some all = absurd (omega (arith, some))
first_in P (x ∷ xs) other some all = all.0

whole_list : {A : Type 0} (xs : List A) (n : ℕ) → length xs ≤ n → take n xs ≡ xs
whole_list [] zero h = refl
whole_list [] (suc n) h = refl
whole_list (x ∷ xs) zero h = absurd (omega (arith, h))
whole_list (x ∷ xs) (suc n) h = ap (λ ys. x ∷ ys) (whole_list xs n (omega (arith, h)))

rest_is : {A : Type 0} (x : A) (xs : List A) → take (length (x ∷ xs) - 1) xs ≡ xs
rest_is x xs = whole_list xs (length (x ∷ xs) - 1) (omega arith)

pub rest_in : {A : Type 0} (P : A → Type 0) (xs : List A) → AllByRecursion P xs → AllByRecursion P (take (length xs - 1) (drop 1 xs))
rest_in P [] all = tt
rest_in {A} P (x ∷ xs) all = subst (λ (ys : List A). AllByRecursion P ys) (sym (rest_is x xs)) all.1

pub with_first : {A : Type 0} (P : A → Type 0) (xs : List A) (other : A) → P (get_or xs 0 other) → AllByRecursion P (take (length xs - 1) (drop 1 xs)) → AllByRecursion P xs
with_first P [] other one all = tt
with_first {A} P (x ∷ xs) other one all = (one, subst (λ (ys : List A). AllByRecursion P ys) (rest_is x xs) all)

-- in a loop over points: those that are left, and what they lack of all
pub record AreLeft (first last : ℤ) (P : Node → Type 0) (F : BoxSize → Fraction → Node → Type 0) (rest nodes : List Node) : Type 0 where
  pub limits : AllByRecursion IsNode rest
  pub between : AllByRecursion (IsBetween first last) rest
  pub all : AllByRecursion P rest → AllByRecursion P nodes
  pub kept : (b : BoxSize) (h : Fraction) → AllByRecursion (F b h) nodes → AllByRecursion (F b h) rest

-- the mirror image is as far from the centreplane
pub reached_mirrored : (b : BoxSize) (h : Fraction) (n : Node) → Reaches b h n → Reaches b h (mirrored n)
reached_mirrored b h n reached = subst (λ (k : ℕ). b.level ⊕ whole (pos (unsigned_abs n.z + k)) ≼ h) (same n.y) reached
  where
    same : (y : ℤ) → unsigned_abs y ≡ unsigned_abs (neg_ℤ y)
    same y = omega (arith, ints)
