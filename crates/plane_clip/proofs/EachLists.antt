-- Two lists whose elements are related one by one.
use Rattle.std.proofs.Common.{ℕ, zero, suc, ◌≡◌, refl, ap, ◌<◌, List, [], ◌∷◌, ◌++◌, length, get_or, arith}
use Rattle.plane_clip.specs.Enclosure.{Each}

module _ {A B : Type 0} (R : A → B → Type 0) where
  -- the elements at a place
  pub each_at : (xs : List A) (ys : List B) (i : ℕ) (x : A) (y : B) → i < length ys → Each R xs ys → R (get_or xs i x) (get_or ys i y)
  each_at [] [] i x y few each = absurd (none few)
    where
      none : {n : ℕ} → n < 0 → ⊥
      none h = omega (arith, h)
  each_at [] (b ∷ ys) i x y few each = absurd each
  each_at (a ∷ xs) [] i x y few each = absurd each
  each_at (a ∷ xs) (b ∷ ys) zero x y few each = each.0
  each_at (a ∷ xs) (b ∷ ys) (suc i) x y few each = each_at xs ys i x y (omega (arith, few)) each.1

  pub each-append : (xs xs' : List A) (ys ys' : List B) → Each R xs ys → Each R xs' ys' → Each R (xs ++ xs') (ys ++ ys')
  each-append [] xs' [] ys' h k = k
  each-append [] xs' (y ∷ ys) ys' h k = absurd h
  each-append (x ∷ xs) xs' [] ys' h k = absurd h
  each-append (x ∷ xs) xs' (y ∷ ys) ys' h k = (h.0, each-append xs xs' ys ys' h.1 k)

  pub each-length : (xs : List A) (ys : List B) → Each R xs ys → length ys ≡ length xs
  each-length [] [] h = refl
  each-length [] (y ∷ ys) h = absurd h
  each-length (x ∷ xs) [] h = absurd h
  each-length (x ∷ xs) (y ∷ ys) h = ap suc (each-length xs ys h.1)
