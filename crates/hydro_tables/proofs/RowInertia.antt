-- The inertia about the centre of the waterplane, and the figures that are taken of it, where there are a volume and an area.
use Rattle.std.proofs.Common.{◌≡◌, refl, ap, subst, ◌*◌, ◌^◌, pos, ◌↔◌, ◌⊎◌, inl, inr, Option, None, Some, IfSome, IsNone, is_some}
use Rattle.std.proofs.lemmas.Bool.{true≢false}
use Rattle.exact_algebra.proofs.Fraction.{Fraction, ◌⊗◌, ◌⊖◌, inverse}
use Rattle.exact_algebra.proofs.Whole.{whole}
use Rattle.hull_model.specs.declared.water.Water.{Water}
use Rattle.outward_interval.specs.declared.span.Span.{Span}
use Rattle.hydro_tables.specs.Figures as figure
use Rattle.hydro_tables.specs.Figures.{Integrals}
use Rattle.hydro_tables.specs.Row.{Holds, HoldsIfThere}
use Rattle.hydro_tables.proofs.FigureLaws.{about_centre, mct_is}
use Rattle.hydro_tables.proofs.RowQuotients.{IsAboveNought, positive_held, HoldsQuotients, quotient_holds, first_of_both}

module _ (i : Integrals) where
  abbrev pub inertia_of : Fraction
  inertia_of = i.sxx ⊖ i.area ⊗ (figure.lcf i ⊗ figure.lcf i)

  -- the code's inertia, where there is an area
  pub inertia_holds : (area lcf : Option (Span 20)) (sx sxx inertia : Span 20) → IsNone lcf ↔ IsNone area → IfSome area IsAboveNought → HoldsIfThere area i.area
      → IfSome lcf (λ s. (x xx c : Fraction) → Holds sx x → Holds sxx xx → Holds s c → Holds inertia (xx ⊖ c ⊗ x))
      → HoldsIfThere lcf (figure.lcf i) → Holds sx i.sx → Holds sxx i.sxx → IfSome area (λ _. Holds inertia inertia_of)
  inertia_holds None lcf sx sxx inertia n o a contains centre x xx = tt
  inertia_holds (Some d) None sx sxx inertia n o a contains centre x xx = absurd (true≢false (n.0 refl))
  inertia_holds (Some d) (Some s) sx sxx inertia n o a contains centre x xx =
      subst (λ (q : Fraction). Holds inertia q) (about_centre i (positive_held d i.area o a)) (contains i.sx i.sxx (figure.lcf i) x xx centre)

  module _ (volume area both bml : Option (Span 20)) (inertia : Span 20)
      (are_both : IsNone both ↔ (IsNone volume ⊎ IsNone area)) (is_there : IsNone bml ↔ IsNone both)
      (above : IfSome volume IsAboveNought) (holds : HoldsIfThere volume i.volume) (about : IfSome area (λ _. Holds inertia inertia_of)) where
    -- where there is a metacentre, there are both a volume and an area
    there_is_area : (s : Span 20) → bml ≡ Some s → Holds inertia inertia_of
    there_is_area s e = go area (λ n. true≢false (subst (λ (o : Option (Span 20)). IsNone o) e (is_there.1 (are_both.1 (inr n))))) about
      where
        go : (o : Option (Span 20)) → (IsNone o → ⊥) → IfSome o (λ _. Holds inertia inertia_of) → Holds inertia inertia_of
        go None n h = absurd (n refl)
        go (Some d) n h = h

    pub bml_holds : IfSome both (λ d. volume ≡ Some d) → HoldsQuotients both inertia bml → HoldsIfThere bml (figure.bml i)
    bml_holds first quotients = go bml refl
      where
        taken : (s : Span 20) → bml ≡ Some s → HoldsIfThere bml (figure.bml i)
        taken s e = quotient_holds both bml inertia inertia_of i.volume quotients (there_is_area s e) (first_of_both (λ d. Holds d i.volume) volume both first holds)

        go : (o : Option (Span 20)) → bml ≡ o → HoldsIfThere o (figure.bml i)
        go None e = tt
        go (Some s) e = subst (λ (o : Option (Span 20)). HoldsIfThere o (figure.bml i)) e (taken s e)

    pub mct_holds : (water : Water) (mct : Option (Span 20)) → IsNone mct ↔ IsNone bml
        → IfSome mct (λ s. (q : Fraction) → Holds inertia q → Holds s (q ⊗ whole (pos water.density) ⊗ inverse (whole (pos (10 ^ 14 * water.length_bp)))))
        → HoldsIfThere mct (figure.mct i water)
    mct_holds water None n contains = tt
    mct_holds water (Some s) n contains = go bml volume refl refl holds above
      where
        go : (b v : Option (Span 20)) → bml ≡ b → volume ≡ v → HoldsIfThere v i.volume → IfSome v IsAboveNought → Holds s (figure.mct i water)
        go None v e f h o = absurd (true≢false (n.1 (ap is_some e)))
        go (Some b) None e f h o = absurd (true≢false (n.1 (is_there.1 (are_both.1 (inl (ap is_some f))))))
        go (Some b) (Some d) e f h o = subst (λ (q : Fraction). Holds s q) (mct_is i water (positive_held d i.volume o h) water.limits.some_length) (contains inertia_of (there_is_area b e))
