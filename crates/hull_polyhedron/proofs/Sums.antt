-- Sums over lists, one list after another.
use Rattle.std.proofs.Common.{◌≡◌, refl, ◌∙◌, ap, ap₂, List, [], ◌∷◌, ◌++◌, map, ℤ, ◌+ℤ◌}
use Rattle.std.specs.List.{flat_map}
use Rattle.exact_algebra.specs.Expression.{var, number, ◌:+◌}
use Rattle.exact_algebra.proofs.Ring.{ring}
use Rattle.exact_algebra.proofs.WholeNumbers.{integers}
use Rattle.hull_model.specs.Boundary.{sum_of}

pub sum-append : {A : Type 0} (f : A → ℤ) (xs ys : List A) → sum_of f (xs ++ ys) ≡ sum_of f xs +ℤ sum_of f ys
sum-append f [] ys = ring integers (sum_of f ys ∷ []) (var 0) (number 0 :+ var 0) refl
sum-append f (x ∷ xs) ys = ap (λ n. f x +ℤ n) (sum-append f xs ys) ∙ ring integers (f x ∷ sum_of f xs ∷ sum_of f ys ∷ []) (var 0 :+ (var 1 :+ var 2)) ((var 0 :+ var 1) :+ var 2) refl

pub sum-flat_map : {A B : Type 0} (f : B → ℤ) (make : A → List B) (xs : List A) → sum_of f (flat_map make xs) ≡ sum_of (λ x. sum_of f (make x)) xs
sum-flat_map f make [] = refl
sum-flat_map f make (x ∷ xs) = sum-append f (make x) (flat_map make xs) ∙ ap (λ n. sum_of f (make x) +ℤ n) (sum-flat_map f make xs)

pub sum-map : {A B : Type 0} (f : B → ℤ) (make : A → B) (xs : List A) → sum_of f (map make xs) ≡ sum_of (λ x. f (make x)) xs
sum-map f make [] = refl
sum-map f make (x ∷ xs) = ap (λ n. f (make x) +ℤ n) (sum-map f make xs)

pub sum-add : {A : Type 0} (f g : A → ℤ) (xs : List A) → sum_of f xs +ℤ sum_of g xs ≡ sum_of (λ x. f x +ℤ g x) xs
sum-add f g [] = refl
sum-add f g (x ∷ xs) = ring integers (f x ∷ sum_of f xs ∷ g x ∷ sum_of g xs ∷ []) ((var 0 :+ var 1) :+ (var 2 :+ var 3)) ((var 0 :+ var 2) :+ (var 1 :+ var 3)) refl
    ∙ ap (λ n. (f x +ℤ g x) +ℤ n) (sum-add f g xs)

pub sum-same : {A : Type 0} (f g : A → ℤ) → ((x : A) → f x ≡ g x) → (xs : List A) → sum_of f xs ≡ sum_of g xs
sum-same f g e [] = refl
sum-same f g e (x ∷ xs) = ap₂ ◌+ℤ◌ (e x) (sum-same f g e xs)
