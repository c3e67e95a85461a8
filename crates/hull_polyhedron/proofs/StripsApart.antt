-- The strips of a boundary share no face: their faces lie one after another in its list.
use Rattle.std.proofs.Common.{ℕ, zero, suc, ◌+◌, ◌-◌, ◌≤◌, ◌<◌, ◌≡◌, refl, sym, ◌∙◌, ap, List, [], ◌∷◌, ◌++◌, length, take, drop, arith}
use mathlib.Core.Path.{subst}
use Rattle.std.proofs.lemmas.List.{length-append, take-append-drop}
use Rattle.std.proofs.Math.Seq.{take-add}
use Rattle.std.specs.List.{AllByRecursion, slice_range}
use Rattle.exact_algebra.proofs.Fraction.{Fraction, nought, ◌⊕◌, ◌≼◌, fractions}
use Rattle.exact_algebra.proofs.Order as Order
use Rattle.exact_algebra.proofs.Order.{order_from, no_more, at_most}
use Rattle.exact_algebra.specs.Expression.{var, unit, number, ◌:+◌}
use Rattle.hull_model.specs.declared.face.Face.{Face}
use Rattle.hull_model.specs.Fractions.{sum_over}
use Rattle.hull_model.proofs.ShareSplits.{sum_over-append}
use Rattle.hull_polyhedron.specs.declared.faces.Faces.{Faces}
use Rattle.hull_polyhedron.specs.declared.part.Part.{Part}
use Rattle.hull_polyhedron.specs.Parts.{part_at, IsPartOf}
use Rattle.hull_polyhedron.specs.StripsOf.{strip_count, strip_faces, faces_to, sum_to, AreApart}

-- what holds of all parts holds of the one of a number
part_within : (count : ℕ) (parts : List Part) (n : ℕ) → AllByRecursion (IsPartOf count) parts → n < length parts → IsPartOf count (part_at parts n)
part_within count [] n all less = absurd (omega arith)
part_within count (p ∷ parts) zero all less = all.0
part_within count (p ∷ parts) (suc n) all less = part_within count parts n all.1 (omega arith)

-- the elements up to the end of a part are those up to its beginning and then its own
taken_to : {A : Type 0} (xs : List A) (from to : ℕ) → from ≤ to → take to xs ≡ take from xs ++ slice_range xs from to
taken_to xs from to h = ap (λ n. take n xs) parted ∙ take-add from (to - from) xs
  where
    parted : to ≡ from + (to - from)
    parted = omega (arith, h)

module _ (g : Face → Fraction) (some : (f : Face) → nought ≼ g f) where
  sum_some : (fs : List Face) → nought ≼ sum_over g fs
  unfolding sum_over
  sum_some [] = Order.≼_refl fractions nought
  sum_some (f ∷ fs) = order_from fractions (g f ∷ sum_over g fs ∷ []) ((unit, number 0, var 0) ∷ (unit, number 0, var 1) ∷ []) (at_most (some f) (at_most (sum_some fs) no_more)) (number 0) (var 0 :+ var 1) refl

  more : (fs gs : List Face) → sum_over g fs ≼ sum_over g (fs ++ gs)
  more fs gs = Order.≼_trans fractions (added (sum_over g fs) (sum_over g gs) (sum_some gs)) (Order.≼_same fractions (sym (sum_over-append g fs gs)))
    where
      added : (x y : Fraction) → nought ≼ y → x ≼ x ⊕ y
      added x y h = order_from fractions (x ∷ y ∷ []) ((unit, number 0, var 1) ∷ []) (at_most h no_more) (var 0) (var 0 :+ var 1) refl

  further : (fs : List Face) (m n : ℕ) → m ≤ n → sum_over g (take m fs) ≼ sum_over g (take n fs)
  further fs m n h = subst (λ (gs : List Face). sum_over g (take m fs) ≼ sum_over g gs) (sym (taken_to fs m n h)) (more (take m fs) (slice_range fs m n))

further_length : (fs : List Face) (m n : ℕ) → m ≤ n → length (take m fs) ≤ length (take n fs)
further_length fs m n h = omega (arith, ap length (taken_to fs m n h), length-append (take m fs) (slice_range fs m n))

module _ (faces : Faces) where
  abbrev parts : List Part
  parts = faces.strips.face_parts.items

  -- where the first strips end
  abbrev end : ℕ → ℕ
  end zero = 0
  end (suc n) = (part_at parts n).to

  begins : (n : ℕ) → n < length parts → end n ≤ (part_at parts n).from
  begins zero less = omega arith
  begins (suc n) less = faces.order n less

  ordered : (n : ℕ) → n < length parts → (part_at parts n).from ≤ (part_at parts n).to
  ordered n less = (part_within (length faces.list) parts n faces.parts less).0

  joined : (n : ℕ) → n < length parts → take (end (suc n)) faces.list ≡ take (part_at parts n).from faces.list ++ strip_faces faces n
  joined n less = taken_to faces.list (part_at parts n).from (part_at parts n).to (ordered n less)

  counted : (n : ℕ) → n ≤ length parts → faces_to faces n ≤ length (take (end n) faces.list)
  counted zero within = omega arith
  counted (suc n) within = one_more (faces_to faces n) (length (take (end n) faces.list)) (length (take (part_at parts n).from faces.list)) (length (strip_faces faces n)) (length (take (end (suc n)) faces.list))
      (counted n (omega arith)) (further_length faces.list (end n) (part_at parts n).from (begins n (omega arith))) (ap length (joined n (omega arith)) ∙ length-append (take (part_at parts n).from faces.list) (strip_faces faces n))
    where
      one_more : (a b c d e : ℕ) → a ≤ b → b ≤ c → e ≡ c + d → a + d ≤ e
      one_more a b c d e h i j = omega arith

  summed : (g : Face → Fraction) → ((f : Face) → nought ≼ g f) → (n : ℕ) → n ≤ length parts → sum_to faces g n ≼ sum_over g (take (end n) faces.list)
  unfolding sum_over
  summed g some zero within = Order.≼_refl fractions nought
  summed g some (suc n) within = Order.≼_trans fractions
      (Order.≼-add fractions (Order.≼_trans fractions (summed g some n (omega arith)) (further g some faces.list (end n) (part_at parts n).from (begins n (omega arith)))) (Order.≼_refl fractions (sum_over g (strip_faces faces n))))
      (Order.≼_same fractions (sym (ap (sum_over g) (joined n (omega arith)) ∙ sum_over-append g (take (part_at parts n).from faces.list) (strip_faces faces n))))

  pub strips_apart : AreApart faces
  strips_apart = record {
    few = least (length (drop (end (length parts)) faces.list)) (counted (strip_count faces) (all (length parts))) (length-append (take (end (length parts)) faces.list) (drop (end (length parts)) faces.list)) (ap length (take-append-drop (end (length parts)) faces.list));
    sums = λ g some. Order.≼_trans fractions (summed g some (strip_count faces) (all (length parts)))
        (subst (λ (fs : List Face). sum_over g (take (end (length parts)) faces.list) ≼ sum_over g fs) (take-append-drop (end (length parts)) faces.list) (more g some (take (end (length parts)) faces.list) (drop (end (length parts)) faces.list)));
  }
    where
      all : (n : ℕ) → n ≤ n
      all n = omega arith

      least : {a b d e : ℕ} (c : ℕ) → a ≤ b → d ≡ b + c → d ≡ e → a ≤ e
      least c h i j = omega arith
