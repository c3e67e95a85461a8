-- For a quantity that rises along the ship from 0 at least to a bound at most: its rises over slabs of which no two share more than a plane
-- add up to the bound at most, each taken by the share of the slab that floods.
use mathlib.Core.Path.{◌≡◌, refl, sym, ◌∙◌, ap, ap₂}
use mathlib.Core.Logic.{◌⊎◌, inl, inr}
use Rattle.std.proofs.Common.{ℕ, ◌≤◌, List, [], ◌∷◌, Bool, true, false, ℤ, pos, ◌≤ℤ◌, ◌<ℤ◌, arith}
use Rattle.std.specs.Prelude.{cond, not, ◌&&◌, int_lt}
use Rattle.std.specs.List.{AllByRecursion}
use Rattle.std.proofs.lemmas.Int.{ints}
use Rattle.exact_algebra.specs.Expression.{var, unit, ◌:+◌, ◌:-◌, ◌:*◌}
use Rattle.exact_algebra.proofs.Ring.{ring}
use Rattle.exact_algebra.specs.OrderedField.{below}
use mathlib.Core.Logic.{◌≢◌}
use Rattle.exact_algebra.proofs.Fraction.{Fraction, nought, one, ◌⊕◌, ◌⊗◌, ◌⊖◌, ◌≼◌, inverse, sign, fractions, fraction_ring}
use Rattle.exact_algebra.proofs.Order as Order
use Rattle.exact_algebra.proofs.Order.{order_from, no_more, at_most, scaled, equal}
use Rattle.exact_algebra.proofs.Bounds as Bounds
use Rattle.exact_algebra.proofs.Whole.{whole, whole-≼, positive-whole}
use Rattle.hull_model.specs.declared.slab.Slab.{Slab}
use Rattle.hull_model.specs.Fractions.{sum_over}
use Rattle.hull_model.specs.Flooded.{flooded_share}
use Rattle.hull_model.specs.Slabs.{is_apart, are_apart}
use Rattle.hull_polyhedron.proofs.RisingPieces.{sum_over-rises}

-- ---- slabs apart
both_true : (p q : Bool) → (p && q) ≡ true → (p ≡ true) × (q ≡ true)
both_true true q e = (refl, e)
both_true false q e = (grind arith, grind arith)

not_shared : (a b c d : ℤ) → not (int_lt a b && int_lt c d) ≡ true → (b ≤ℤ a) ⊎ (d ≤ℤ c)
not_shared a b c d e = go (int_lt a b) (int_lt c d) refl refl e
  where
    go : (p q : Bool) → int_lt a b ≡ p → int_lt c d ≡ q → not (p && q) ≡ true → (b ≤ℤ a) ⊎ (d ≤ℤ c)
    go true true f g h = absurd (grind arith)
    go true false f g h = inr (omega (arith, ints))
    go false q f g h = inl (omega (arith, ints))

-- one slab ends where the other begins, or before
abbrev IsApart : Slab → Slab → Type 0
IsApart s t = (t.fore ≤ℤ s.aft) ⊎ (s.fore ≤ℤ t.aft)

apart_of : (s : Slab) (others : List Slab) → is_apart s others ≡ true → AllByRecursion (IsApart s) others
apart_of s [] e = tt
apart_of s (t ∷ others) e = (not_shared s.aft t.fore t.aft s.fore (both_true _ _ e).0, apart_of s others (both_true _ _ e).1)

abbrev Quantity : Type 0
Quantity = ℤ → Fraction

pub record RisesTo (most : Fraction) (along : Quantity) : Type 0 where
  pub rises : (a b : ℤ) → a ≤ℤ b → along a ≼ along b
  pub low : (a : ℤ) → nought ≼ along a
  pub high : (a : ℤ) → along a ≼ most

abbrev rise : Quantity → Slab → Fraction
rise along s = along s.fore ⊖ along s.aft

by_same : {x y x' y' : Fraction} → x' ≡ x → y' ≡ y → x ≼ y → x' ≼ y'
by_same e k h = Order.≼_trans fractions (Order.≼_same fractions e) (Order.≼_trans fractions h (Order.≼_same fractions (sym k)))

-- ---- the rise from one place to another left out
module _ (most : Fraction) (along : Quantity) (h : RisesTo most along) (aft fore : ℤ) (order : aft <ℤ fore) where
  abbrev step : Fraction
  step = along fore ⊖ along aft

  abbrev without : Quantity
  without s = cond (int_lt s fore) (cond (int_lt aft s) (along aft) (along s)) (along s ⊖ step)

  data Where (s : ℤ) : Type 0 where
    before : s ≤ℤ aft → without s ≡ along s → Where s
    between : aft <ℤ s → s <ℤ fore → without s ≡ along aft → Where s
    behind : fore ≤ℤ s → without s ≡ along s ⊖ step → Where s

  where_is : (s : ℤ) → Where s
  where_is s = go (int_lt s fore) (int_lt aft s) refl refl
    where
      go : (p q : Bool) → int_lt s fore ≡ p → int_lt aft s ≡ q → Where s
      go true true e k = between (omega (arith, ints)) (omega (arith, ints)) (ap₂ (λ (p q : Bool). cond p (cond q (along aft) (along s)) (along s ⊖ step)) e k)
      go true false e k = before (omega (arith, ints)) (ap₂ (λ (p q : Bool). cond p (cond q (along aft) (along s)) (along s ⊖ step)) e k)
      go false q e k = behind (omega (arith, ints)) (ap₂ (λ (p q : Bool). cond p (cond q (along aft) (along s)) (along s ⊖ step)) e k)

  weak : {a b : ℤ} → a <ℤ b → a ≤ℤ b
  weak k = omega (arith, ints)

  same : (a : ℤ) → a ≤ℤ a
  same a = omega (arith, ints)

  -- along aft is along fore less the step
  at_step : along aft ≡ along fore ⊖ step
  at_step = ring fraction_ring (along aft ∷ along fore ∷ []) (var 0) (var 1 :- (var 1 :- var 0)) refl

  step_less : (x y : Fraction) → x ≼ y → x ⊖ step ≼ y ⊖ step
  step_less x y k = order_from fractions (x ∷ y ∷ step ∷ []) ((unit, var 0, var 1) ∷ []) (at_most k no_more) (var 0 :- var 2) (var 1 :- var 2) refl

  to_behind : (x : Fraction) (t : ℤ) → x ≼ along aft → fore ≤ℤ t → x ≼ along t ⊖ step
  to_behind x t k l = Order.≼_trans fractions k (Order.≼_trans fractions (Order.≼_same fractions at_step) (step_less (along fore) (along t) (h.rises fore t l)))

  without_rises : RisesTo (most ⊖ step) without
  without_rises = record {
    rises = λ a b k. rises a b k (where_is a) (where_is b);
    low = λ a. low a (where_is a);
    high = λ a. high a (where_is a);
  }
    where
      rises : (a b : ℤ) → a ≤ℤ b → Where a → Where b → without a ≼ without b
      rises a b k (before l e) (before m f) = by_same e f (h.rises a b k)
      rises a b k (before l e) (between m n f) = by_same e f (h.rises a aft l)
      rises a b k (before l e) (behind m f) = by_same e f (to_behind (along a) b (h.rises a aft l) m)
      rises a b k (between l o e) (before m f) = absurd (omega (arith, ints))
      rises a b k (between l o e) (between m n f) = by_same e f (Order.≼_refl fractions (along aft))
      rises a b k (between l o e) (behind m f) = by_same e f (to_behind (along aft) b (Order.≼_refl fractions (along aft)) m)
      rises a b k (behind l e) (before m f) = absurd (omega (arith, ints))
      rises a b k (behind l e) (between m n f) = absurd (omega (arith, ints))
      rises a b k (behind l e) (behind m f) = by_same e f (step_less (along a) (along b) (h.rises a b k))

      low : (a : ℤ) → Where a → nought ≼ without a
      low a (before l e) = by_same refl e (h.low a)
      low a (between l o e) = by_same refl e (h.low aft)
      low a (behind l e) = by_same refl e (to_behind nought a (h.low aft) l)

      high_aft : along aft ≼ most ⊖ step
      high_aft = Order.≼_trans fractions (Order.≼_same fractions at_step) (step_less (along fore) most (h.high fore))

      high : (a : ℤ) → Where a → without a ≼ most ⊖ step
      high a (before l e) = by_same e refl (Order.≼_trans fractions (h.rises a aft l) high_aft)
      high a (between l o e) = by_same e refl high_aft
      high a (behind l e) = by_same e refl (step_less (along a) most (h.high a))

  -- a slab apart from these two places keeps its rise
  same_rise : (s : Slab) → (s.fore ≤ℤ aft) ⊎ (fore ≤ℤ s.aft) → rise along s ≡ rise without s
  same_rise s = go s.aft s.fore s.limits.order
    where
      go : (a b : ℤ) → a <ℤ b → (b ≤ℤ aft) ⊎ (fore ≤ℤ a) → along b ⊖ along a ≡ without b ⊖ without a
      go a b k (inl l) = at_before (where_is a) (where_is b)
        where
          at_before : Where a → Where b → along b ⊖ along a ≡ without b ⊖ without a
          at_before (before _ e) (before _ f) = ap₂ (λ x y. x ⊖ y) (sym f) (sym e)
          at_before (before _ e) (between m n f) = absurd (omega (arith, ints))
          at_before (before _ e) (behind m f) = absurd (omega (arith, ints))
          at_before (between m n e) _ = absurd (omega (arith, ints))
          at_before (behind m e) _ = absurd (omega (arith, ints))
      go a b k (inr l) = at_behind (where_is a) (where_is b)
        where
          at_behind : Where a → Where b → along b ⊖ along a ≡ without b ⊖ without a
          at_behind (behind _ e) (behind _ f) = ring fraction_ring (along a ∷ along b ∷ step ∷ []) (var 1 :- var 0) ((var 1 :- var 2) :- (var 0 :- var 2)) refl ∙ ap₂ (λ x y. x ⊖ y) (sym f) (sym e)
          at_behind (behind _ e) (before m f) = absurd (omega (arith, ints))
          at_behind (behind _ e) (between m n f) = absurd (omega (arith, ints))
          at_behind (between m n e) _ = absurd (omega (arith, ints))
          at_behind (before m e) _ = absurd (omega (arith, ints))

-- ---- the rises over slabs
pub rises_within : (slabs : List Slab) → are_apart slabs ≡ true → (most : Fraction) (along : Quantity) → RisesTo most along → sum_over (rise along) slabs ≼ most
unfolding sum_over
rises_within [] apart most along h = Order.≼_trans fractions (h.low (pos 0)) (h.high (pos 0))
rises_within (s ∷ slabs) apart most along h = Order.≼_trans fractions
    (Order.≼_same fractions (ap (λ x. rise along s ⊕ x) (others slabs (apart_of s slabs (both_true _ _ apart).0))))
    (added (rise along s) (sum_over (rise next) slabs) (rises_within slabs (both_true _ _ apart).1 (most ⊖ rise along s) next (without_rises most along h s.aft s.fore s.limits.order)))
  where
    next : Quantity
    next = without most along h s.aft s.fore s.limits.order

    others : (ts : List Slab) → AllByRecursion (IsApart s) ts → sum_over (rise along) ts ≡ sum_over (rise next) ts
    others [] all = refl
    others (t ∷ ts) all = ap₂ ◌⊕◌ (same_rise most along h s.aft s.fore s.limits.order t (on_either_side all.0)) (others ts all.1)
      where
        on_either_side : IsApart s t → (t.fore ≤ℤ s.aft) ⊎ (s.fore ≤ℤ t.aft)
        on_either_side k = k

    added : (x y : Fraction) → y ≼ most ⊖ x → x ⊕ y ≼ most
    added x y k = order_from fractions (x ∷ y ∷ most ∷ []) ((unit, var 1, var 2 :- var 0) ∷ []) (at_most k no_more) (var 0 :+ var 1) (var 2) refl

-- the share of a slab that floods is at most the whole
thousandth : sign (inverse (whole (pos 1000))) ≢ below
thousandth = Order.nonnegative_positive fractions (Bounds.positive-inverse fractions (positive-whole 1000 (omega arith)))

share_most : (s : Slab) → flooded_share s ≼ one
share_most s = Bounds.quotient-≼ fractions (positive-whole 1000 (omega arith)) (Order.≼_trans fractions (whole-≼ (few s.limits.share)) (Order.≼_same fractions (sym (fractions.laws.ring.mul_comm one (whole (pos 1000)) ∙ fractions.laws.ring.mul_one (whole (pos 1000))))))
  where
    few : {n : ℕ} → n ≤ 1000 → pos n ≤ℤ pos 1000
    few h = omega (arith, ints)

pub flooded_rises_within : (slabs : List Slab) → are_apart slabs ≡ true → (most : Fraction) (along : Quantity) → RisesTo most along
    → sum_over (λ s. flooded_share s ⊗ rise along s) slabs ≼ most
flooded_rises_within slabs apart most along h = Order.≼_trans fractions (sum_over-rises (λ s. flooded_share s ⊗ rise along s) (rise along) slabs (each slabs)) (rises_within slabs apart most along h)
  where
    weak : {a b : ℤ} → a <ℤ b → a ≤ℤ b
    weak k = omega (arith, ints)

    each : (ss : List Slab) → AllByRecursion (λ (s : Slab). flooded_share s ⊗ rise along s ≼ rise along s) ss
    each [] = tt
    each (s ∷ ss) = (
      order_from fractions (flooded_share s ∷ along s.fore ∷ along s.aft ∷ []) ((unit :- var 0, var 2, var 1) ∷ [])
          (scaled (share_most s) (h.rises s.aft s.fore (weak s.limits.order)) no_more) (var 0 :* (var 1 :- var 2)) (var 1 :- var 2) refl,
      each ss,
    )
