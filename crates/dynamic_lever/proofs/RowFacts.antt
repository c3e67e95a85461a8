-- Rows from what was found and measured, and tables of rows.
use Rattle.std.proofs.Common.{◌≡◌, ◌∙◌, sym, ap, subst, ℕ, zero, suc, ◌+◌, ◌<◌, ◌≤◌, List, Some, length, replicate, set, inl, inr, slice_get, arith}
use Rattle.std.proofs.lemmas.Bool.{cases_lt}
use Rattle.std.proofs.lemmas.Grind.{get_or-set_at}
use Rattle.std.proofs.lemmas.List.{get_or-set_other}
use Rattle.std.proofs.lemmas.Option.{get_or_from_slice_get, same_Some, slice_get-get_or, slice_get_within}
use Rattle.std.proofs.Math.ListN.{get_or}
use Rattle.exact_algebra.proofs.Fraction.{Fraction}
use Rattle.angle_bounds.specs.declared.bracket.Bracket.{Bracket}
use Rattle.hull_model.specs.declared.water.Water.{Water}
use Rattle.hull_polyhedron.specs.declared.faces.Faces.{Faces}
use Rattle.draft_bracket.specs.DraftBracket.{OfHulls, IsSharpBracket}
use Rattle.draft_bracket.specs.declared.drafts.Drafts.{Drafts}
use Rattle.loading_sheet.specs.Centre.{displaced}
use Rattle.loading_sheet.specs.declared.loading.Loading.{Loading}
use Rattle.dynamic_lever.specs.Levers.{gz, separation}
use Rattle.dynamic_lever.specs.Rows.{HoldOnSides, AreNarrowLevers, AreLeversOver}
use Rattle.dynamic_lever.specs.Sides.{AreSmallLevers}
use Rattle.dynamic_lever.specs.declared.rows.Arm.{Arm}

-- ---- a row
module _ (faces : Faces) (loading : Loading) (water : Water) (bracket : Bracket) (need : Fraction) (same : need ≡ displaced loading water) (drafts : Drafts)
    (sharp : OfHulls faces (IsSharpBracket faces bracket need drafts.d1 drafts.d2)) where
  pub sharp_displaced : OfHulls faces (IsSharpBracket faces bracket (displaced loading water) drafts.d1 drafts.d2)
  sharp_displaced = subst (λ (v : Fraction). OfHulls faces (IsSharpBracket faces bracket v drafts.d1 drafts.d2)) same sharp

  pub levers_over : (arm : Arm) → arm.drafts ≡ drafts
      → OfHulls faces (HoldOnSides bracket drafts.d1 drafts.d2 (gz loading water) arm.gz) → OfHulls faces (HoldOnSides bracket drafts.d1 drafts.d2 (separation loading water) arm.sep)
      → AreNarrowLevers bracket drafts.d1 drafts.d2 faces loading water arm.gz → AreNarrowLevers bracket drafts.d1 drafts.d2 faces loading water arm.sep
      → AreSmallLevers arm.gz → AreSmallLevers arm.sep → AreLeversOver faces loading water bracket arm
  levers_over arm e gz_in sep_in gz_narrow sep_narrow gz_small sep_small = record {
    drafts = subst (λ (d : Drafts). OfHulls faces (IsSharpBracket faces bracket (displaced loading water) d.d1 d.d2)) (sym e) sharp_displaced;
    gz = subst (λ (d : Drafts). OfHulls faces (HoldOnSides bracket d.d1 d.d2 (gz loading water) arm.gz)) (sym e) gz_in;
    sep = subst (λ (d : Drafts). OfHulls faces (HoldOnSides bracket d.d1 d.d2 (separation loading water) arm.sep)) (sym e) sep_in;
    gz_width = subst (λ (d : Drafts). AreNarrowLevers bracket d.d1 d.d2 faces loading water arm.gz) (sym e) gz_narrow;
    sep_width = subst (λ (d : Drafts). AreNarrowLevers bracket d.d1 d.d2 faces loading water arm.sep) (sym e) sep_narrow;
    gz_ends = gz_small;
    sep_ends = sep_small;
  }

-- ---- a table
-- the first rows are right, up to the n-th
abbrev pub AreRightTo : (ℕ → Arm → Type 0) → ℕ → List Arm → Type 0
AreRightTo P n rows = (i : ℕ) (arm : Arm) → i < n → slice_get rows i ≡ Some arm → P i arm

module _ (P : ℕ → Arm → Type 0) where
  pub one_more : (rows : List Arm) (k : ℕ) (arm : Arm) → k < length rows → AreRightTo P k rows → P k arm → AreRightTo P (k + 1) (set rows k arm)
  one_more rows k arm some right here i other below e = elim (cases_lt i k) [
    | inl earlier ↦ right i other earlier (slice_get-get_or rows i arm (omega (arith, earlier, some)) ∙ ap Some (sym (get_or-set_other rows k i arm arm (λ f. differ earlier f)) ∙ found))
    | inr later ↦ subst (P i) (sym (get_or-set_at rows k i arm arm (at later) some) ∙ found) (subst (λ (n : ℕ). P n arm) (sym (at later)) here)
  ]
    where
      found : get_or (set rows k arm) i arm ≡ other
      found = get_or_from_slice_get (set rows k arm) i other arm e

      differ : i < k → i ≡ k → ⊥
      differ h f = omega (arith, h, f)

      at : k ≤ i → i ≡ k
      at h = omega (arith, h, below)

  -- all rows are the first one at first
  pub first_right : (arm : Arm) → P 0 arm → AreRightTo P 1 (replicate 91 arm)
  first_right arm here zero other below e = subst (P 0) (same_Some arm other e) here
  first_right arm here (suc i) other below e = absurd (omega (arith, below))

  pub all_right : (rows : List Arm) (n : ℕ) → length rows ≤ n → AreRightTo P n rows → (k : ℕ) (arm : Arm) → slice_get rows k ≡ Some arm → P k arm
  all_right rows n few right k arm h = right k arm (omega (arith, few, slice_get_within rows k arm h)) h
