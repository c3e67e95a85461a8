-- What is found for the balance of a flooded hull with its load, said of each list of stations that the hull is made of.
use Rattle.std.proofs.Common.{◌≡◌, ◌⊎◌, inl, inr, refl, sym, ◌∙◌, [], ◌∷◌, ◌*◌, ◌^◌, ℤ, pos, negsuc, ◌*ℤ◌, ◌≤ℤ◌, ◌<ℤ◌, List, arith}
use Rattle.std.proofs.lemmas.Int.{ints}
use Rattle.exact_algebra.specs.Expression.{var, unit, number, ◌:-◌, ◌:*◌}
use Rattle.exact_algebra.specs.OrderedField.{above}
use Rattle.exact_algebra.proofs.Bounds as Bounds
use Rattle.exact_algebra.proofs.Order as Order
use Rattle.exact_algebra.proofs.Order.{order_from, no_more, at_most, scaled, equal}
use Rattle.exact_algebra.proofs.Ring.{ring}
use Rattle.exact_algebra.proofs.Span.{ContainsFraction, in_units, positive-unit}
use Rattle.exact_algebra.proofs.Whole.{whole, whole-nought, whole-one, whole-mul, whole-≼, whole-≼_out, whole-≺_out, positive-whole, nonnegative-whole}
use Rattle.exact_fraction.specs.Bounds.{MagnitudeBelow}
use Rattle.outward_interval.specs.Ends.{EndsBelow}
use Rattle.outward_interval.specs.Widths.{IsNarrow}
use Rattle.outward_interval.specs.declared.span.Span.{Span}
use Rattle.loading_sheet.specs.Centre.{displaced}
use Rattle.damage_box.proofs.SomeLeft.{some_left}
use Rattle.hull_model.specs.declared.station.Station.{Station}
use Rattle.hull_model.specs.declared.water.Water.{Water}
use Rattle.hull_polyhedron.proofs.DamageBox.{corners_decide}
use Rattle.plane_clip.specs.Enclosure.{in_unit}
use Rattle.flux_moments.specs.declared.plane_box.PlaneBox.{PlaneBox}
use Rattle.exact_algebra.proofs.Fraction.{Fraction, nought, one, sign, inverse, ◌≼◌, ◌≺◌, fractions, fraction_ring}
use Rattle.compartment_loss.specs.declared.flooded_hull.FloodedHull.{FloodedHull}
use Rattle.loading_sheet.specs.declared.loading.Loading.{Loading}
use Rattle.damage_box.specs.declared.draft_box.DraftBox.{DraftBox}
use Rattle.damage_box.specs.declared.reading.Corner.{Corner}
use Rattle.damage_box.specs.declared.settling.SettleFault.TheVariants.{NoStart}
use Rattle.damage_box.specs.declared.tip.Tip.{Tip}
use Rattle.damage_box.specs.declared.tip.Tip.TheVariants.{Fore, Aft}
use Rattle.damage_box.specs.Residuals.{IsHullOf, volume_at, owed_last, owed_first}
use Rattle.damage_box.specs.Candidates as shown
use Rattle.damage_box.specs.SharpDamageBox as shown_box
use Rattle.damage_box.specs.Balance.{Balance, mirrored, IsCandidate, IsSharpBox}
use Rattle.damage_box.specs.Reading.{Encloses, IsTried, HasStart, IsSinking, IsAfloat}
use Rattle.damage_box.specs.Faults.{turned, IsNoStart, IsFault, IsSettled}
use Rattle.damage_box.specs.ShipBalance.{balance_of}

-- ---- ends of a volume's enclosure
above_nought_in : (x : Fraction) → nought ≼ x → whole (pos 0) ≼ in_units 20 x
above_nought_in x h = Order.≼_trans fractions (Order.≼_same fractions (whole-nought ∙ ring fraction_ring (whole (pos (2 ^ 20)) ∷ []) (number 0) (number 0 :* var 0) refl))
    (Order.≼-mul fractions (Order.nonnegative_positive fractions (positive-unit 20)) h)

narrower : {w : Fraction} (a b c d : ℤ) → a ≤ℤ c → d ≡ b → IsNarrow 20 w a b → IsNarrow 20 w c d
narrower {w} a b c d h e n = rw e (record {
  width = Order.≼_trans fractions
      (order_from fractions (whole a ∷ whole b ∷ whole c ∷ []) ((unit, var 0, var 2) ∷ []) (at_most (whole-≼ h) no_more) (var 1 :- var 2) (var 1 :- var 0) refl) n.width;
})

-- the volume that a load displaces is below 2^66 mm³
below_size : (loading : Loading) (water : Water) (z : ℤ) → whole z ≺ in_units 20 (displaced loading water) → z <ℤ pos (2 ^ 95)
below_size loading water z h = go (whole-≺_out z (pos (loading.mass * 10 ^ 9) *ℤ pos (2 ^ 20)) (Order.≺-≼_trans fractions h most))
  where
    inverse_least : inverse (whole (pos water.density)) ≼ one
    inverse_least = order_from fractions (whole (pos water.density) ∷ inverse (whole (pos water.density)) ∷ [])
        ((var 1, unit, var 0) ∷ (unit, var 0 :* var 1, unit) ∷ [])
        (scaled (Order.nonnegative_positive fractions (Bounds.positive-inverse fractions heavy)) (Order.≼_trans fractions (Order.≼_same fractions (sym whole-one)) (whole-≼ (omega (arith, ints, water.limits.lightest))))
        (equal (Bounds.mul-inverse_positive fractions heavy) no_more)) (var 1) unit refl
      where
        heavy : sign (whole (pos water.density)) ≡ above
        heavy = positive-whole water.density (omega (arith, water.limits.lightest))

    most : in_units 20 (displaced loading water) ≼ whole (pos (loading.mass * 10 ^ 9) *ℤ pos (2 ^ 20))
    most = order_from fractions (whole (pos (loading.mass * 10 ^ 9)) ∷ inverse (whole (pos water.density)) ∷ whole (pos (2 ^ 20)) ∷ whole (pos (loading.mass * 10 ^ 9) *ℤ pos (2 ^ 20)) ∷ [])
        ((var 0 :* var 2, var 1, unit) ∷ (unit, var 0 :* var 2, var 3) ∷ [])
        (scaled (Order.nonnegative-mul fractions (nonnegative-whole (loading.mass * 10 ^ 9)) (nonnegative-whole (2 ^ 20))) inverse_least
        (equal (sym (whole-mul (pos (loading.mass * 10 ^ 9)) (pos (2 ^ 20)))) no_more)) ((var 0 :* var 1) :* var 2) (var 3) refl

    go : z <ℤ (pos (loading.mass * 10 ^ 9) *ℤ pos (2 ^ 20)) → z <ℤ pos (2 ^ 95)
    go k = omega (arith, ints, k, loading.limits.most)

small : (lo hi : ℤ) → pos 0 ≤ℤ lo → lo ≤ℤ hi → hi <ℤ pos (2 ^ 95) → EndsBelow 96 lo hi
small lo hi some order most = record { low = at lo some (omega (arith, ints)); high = at hi (omega (arith, ints)) most }
  where
    at : (z : ℤ) → pos 0 ≤ℤ z → z <ℤ pos (2 ^ 95) → MagnitudeBelow 96 z
    at (pos n) h k = omega (arith, ints, k)
    at (negsuc n) h k = absurd (omega (arith, ints, h))

module _ (flood : FloodedHull) (loading : Loading) (water : Water) (stations : List Station) (is : IsHullOf flood stations) where
  abbrev b : Balance
  b = balance_of flood loading water

  -- ---- seen from the first station
  enclosed : {a f lo hi : ℤ} {q : List Station → Fraction} {w : FloodedHull → PlaneBox → Fraction} → Encloses b a f lo hi q w → shown.EnclosesAt flood loading water stations a f lo hi (q stations) w
  enclosed e = record { contains = e.contains stations is; narrow = e.narrow }

  fore_candidate : {half m : ℤ} → IsCandidate b half m → shown.IsCandidate flood loading water stations Fore half m
  fore_candidate c = record {
    from = c.from;
    to = c.to;
    enough = elim c.enough [ inl e ↦ inl e | inr e ↦ inr (e.is stations is) ];
    lower = elim c.lower [ inl e ↦ inl e | inr e ↦ inr (e.is stations is) ];
  }

  fore_tried : {half : ℤ} {c : Corner} → IsTried b half c → shown.IsTried flood loading water stations Fore half c
  fore_tried t = record { level = t.level; a = t.a; f = t.f; candidate = fore_candidate t.candidate; r1 = enclosed t.r1; r2 = enclosed t.r2 }

  fore_start : HasStart b → shown.HasStart flood loading water stations Fore
  fore_start h = record {
    number = h.start.number;
    few = h.start.few;
    corner = h.corner;
    tried = rw (sym h.start.is_slope) (fore_tried h.start.tried);
    qualifies = (h.start.qualifies.last, h.start.qualifies.first);
  }

  -- ---- and from the last
  enclosed_aft : {a f lo hi : ℤ} {q : List Station → Fraction} {w : FloodedHull → PlaneBox → Fraction} → Encloses (mirrored b) a f lo hi q w → shown.EnclosesAt flood loading water stations f a lo hi (q stations) w
  enclosed_aft e = record { contains = e.contains stations is; narrow = e.narrow }

  aft_candidate : {half m : ℤ} → IsCandidate (mirrored b) half m → shown.IsCandidate flood loading water stations Aft half m
  aft_candidate c = record {
    from = c.from;
    to = c.to;
    enough = elim c.enough [ inl e ↦ inl e | inr e ↦ inr (e.is stations is) ];
    lower = elim c.lower [ inl e ↦ inl e | inr e ↦ inr (e.is stations is) ];
  }

  aft_tried : {half : ℤ} {c : Corner} → IsTried (mirrored b) half (turned c) → shown.IsTried flood loading water stations Aft half c
  aft_tried t = record { level = t.level; a = t.f; f = t.a; candidate = aft_candidate t.candidate; r1 = enclosed_aft t.r2; r2 = enclosed_aft t.r1 }

  aft_start : HasStart (mirrored b) → shown.HasStart flood loading water stations Aft
  aft_start h = record {
    number = h.start.number;
    few = h.start.few;
    corner = turned h.corner;
    tried = rw (sym h.start.is_slope) (aft_tried {c = turned h.corner} h.start.tried);
    qualifies = (h.start.qualifies.first, h.start.qualifies.last);
  }

  -- ---- boxes and faults
  afloat : IsAfloat b → shown_box.IsAfloat flood loading water stations
  afloat a = record { lo = a.lo; hi = a.hi; encloses = record { at = enclosed a.encloses }; not_below = a.not_below }

  tight : {a1 a2 f1 f2 : ℤ} → IsSharpBox b a1 a2 f1 f2 → shown_box.IsTight flood loading water stations a1 a2 f1 f2
  tight s = record {
    aft_low = elim s.fore_sharp.last [ inl e ↦ inl e | inr p ↦ inr (p.is stations is) ];
    aft_high = elim s.aft_sharp.first [ inl e ↦ inl (sym e) | inr p ↦ inr (p.is stations is) ];
    fore_low = elim s.aft_sharp.last [ inl e ↦ inl e | inr p ↦ inr (p.is stations is) ];
    fore_high = elim s.fore_sharp.first [ inl e ↦ inl (sym e) | inr p ↦ inr (p.is stations is) ];
  }

  pub sharp : (d : DraftBox) → IsSettled b d → shown_box.IsSharpDamageBox flood loading water stations d
  sharp d s = record {
    sides = corners_decide stations is.hull flood.slabs.items is.apart (owed_last loading water stations) (owed_first loading water stations)
        (in_unit 10 d.a1) (in_unit 10 d.a2) (in_unit 10 d.f1) (in_unit 10 d.f2)
        (record { aft_low = s.sharp.fore.last.is stations is; aft_high = s.sharp.aft.first.is stations is; fore_low = s.sharp.aft.last.is stations is; fore_high = s.sharp.fore.first.is stations is });
    tight = tight s.sharp;
    afloat = afloat s.afloat;
    fore = fore_start s.fore;
    aft = aft_start s.aft;
  }

  no_start : (tip : Tip) (tried : List Corner) → IsNoStart b tip tried → shown_box.HasNoStart flood loading water stations tip tried
  no_start Fore tried h = record {
    afloat = afloat h.0;
    earlier = tt;
    all = λ k few c e. fore_tried (h.1.all k few c e);
    none = λ k few c e q. h.1.none k few c e (record { last = q.0; first = q.1 });
  }
  no_start Aft tried h = record {
    afloat = afloat h.0;
    earlier = fore_start h.1;
    all = λ k few c e. aft_tried {c = c} (h.2.all k few c e);
    none = λ k few c e q. h.2.none k few c e (record { last = q.1; first = q.0 });
  }

  pub no_start_shown : (tip : Tip) (tried : List Corner) → IsFault b (NoStart tip tried) → shown_box.IsFaultOf flood loading water stations (NoStart tip tried)
  no_start_shown tip tried h = no_start tip tried h

  -- what is left of the whole hull, without what of its enclosure lies below 0
  pub sunk : (left kept : Span 20) → IsSinking b left.lo left.hi → kept.hi ≡ left.hi → (kept.lo ≡ left.lo) ⊎ (kept.lo ≡ pos 0) → left.lo ≤ℤ kept.lo
      → (pos 0 ≤ℤ left.hi → pos 0 ≤ℤ kept.lo) → shown_box.IsSunk flood loading water stations kept
  sunk left kept h hi lo higher some = record {
    encloses = record { at = record { contains = record { from = from lo; to = rw hi contains.to }; narrow = λ planes box. narrower left.lo left.hi kept.lo kept.hi higher hi (h.encloses.narrow planes box) } };
    below = rw hi h.below;
    ends = small kept.lo kept.hi (some reached) kept.ordered (rw hi (below_size loading water left.hi h.below));
  }
    where
      top : ℤ
      top = pos 1024 *ℤ flood.faces.now.high_z

      volume : Fraction
      volume = volume_at stations flood.slabs.items (pos 1024 *ℤ flood.faces.now.high_z) (pos 1024 *ℤ flood.faces.now.high_z)

      contains : ContainsFraction 20 left.lo left.hi volume
      contains = h.encloses.contains stations is

      not_below : nought ≼ volume
      not_below = some_left _ stations flood.slabs.items is.apart

      from_above : whole (pos 0) ≼ in_units 20 volume
      from_above = above_nought_in volume not_below

      reached : pos 0 ≤ℤ left.hi
      reached = whole-≼_out (pos 0) left.hi (Order.≼_trans fractions from_above contains.to)

      from : (kept.lo ≡ left.lo) ⊎ (kept.lo ≡ pos 0) → whole kept.lo ≼ in_units 20 volume
      from (inl e) = rw e contains.from
      from (inr e) = rw e from_above
