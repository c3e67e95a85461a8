-- What marks and a verdict say of a choice, and of every choice.
use Rattle.std.specs.Prelude.{⊤, ℕ, zero, suc, List, [], ◌∷◌}
use Rattle.hull_model.specs.declared.opening.Opening.{Opening}
use Rattle.hull_model.specs.declared.station.Station.{Station}
use Rattle.hull_model.specs.declared.water.Water.{Water}
use Rattle.loading_sheet.specs.declared.loading.Loading.{Loading}
use Rattle.dynamic_lever.specs.declared.rows.ArmTable.{ArmTable}
use Rattle.dynamic_lever.specs.declared.rows.UprightRow.{UprightRow}
use Rattle.intact_criteria.specs.declared.finding.Mark.{Mark}
use Rattle.intact_criteria.specs.declared.finding.Mark.TheVariants.{Holds, Fails, Unsure}
use Rattle.intact_criteria.specs.declared.finding.Side.{Side}
use Rattle.intact_criteria.specs.declared.finding.Verdict.{Verdict}
use Rattle.intact_criteria.specs.declared.finding.Verdict.TheVariants as verdict
use Rattle.intact_criteria.specs.C1 as C1
use Rattle.intact_criteria.specs.C2 as C2
use Rattle.intact_criteria.specs.C3 as C3
use Rattle.intact_criteria.specs.C4 as C4
use Rattle.intact_criteria.specs.C5 as C5
use Rattle.intact_criteria.specs.C6 as C6
use Rattle.intact_criteria.specs.Choice.{Choice, IsChoice}
use Rattle.intact_criteria.specs.Figures.{Figures, figures_of, OnBothSides}

-- ---- at a choice, by the figures of both sides
-- a mark: the criterion holds where it is Holds, and doesn't where it is Fails
abbrev pub IsRight : Type 0 → Mark → Type 0
IsRight criterion Holds = criterion
IsRight criterion Fails = ¬ criterion
IsRight criterion Unsure = ⊤

-- the criterion of a number
abbrev pub criterion : ℕ → Figures → Type 0
criterion zero f = ⊤
criterion (suc zero) f = C1.HoldsAt f
criterion (suc (suc zero)) f = C2.HoldsAt f
criterion (suc (suc (suc zero))) f = C3.HoldsAt f
criterion (suc (suc (suc (suc zero)))) f = C4.HoldsAt f
criterion (suc (suc (suc (suc (suc zero))))) f = C5.HoldsAt f
criterion (suc (suc (suc (suc (suc (suc n)))))) f = C6.HoldsAt f

-- the marks of all six
abbrev pub AreRight : (Side → Figures) → List Mark → Type 0
AreRight figures (c1 ∷ c2 ∷ c3 ∷ c4 ∷ c5 ∷ c6 ∷ []) =
    IsRight (OnBothSides C1.HoldsAt figures) c1
    × IsRight (OnBothSides C2.HoldsAt figures) c2
    × IsRight (OnBothSides C3.HoldsAt figures) c3
    × IsRight (OnBothSides C4.HoldsAt figures) c4
    × IsRight (OnBothSides C5.HoldsAt figures) c5
    × IsRight (OnBothSides C6.HoldsAt figures) c6
AreRight figures _ = ⊥

-- all six hold
abbrev pub AllHold : (Side → Figures) → Type 0
AllHold figures = AreRight figures (Holds ∷ Holds ∷ Holds ∷ Holds ∷ Holds ∷ Holds ∷ [])

-- a verdict: all six hold where it is Pass, and the criterion that it names doesn't where it is Fail
abbrev pub IsRightOf : (Side → Figures) → Verdict → Type 0
IsRightOf figures verdict.Pass = AllHold figures
IsRightOf figures (verdict.Fail n side shown) = ¬ OnBothSides (criterion n) figures
IsRightOf figures (verdict.Undecided n side shown) = ⊤

-- ---- over every choice
module _ (hull : List Station) (loading : Loading) (water : Water) (arms : ArmTable) (upright : UprightRow) (openings : List Opening) where
  abbrev pub AtEveryChoice : ((Side → Figures) → Type 0) → Type 0
  AtEveryChoice P = (choice : Choice) → IsChoice arms upright choice → P (figures_of hull loading water openings choice)

  abbrev pub AreRightMarks : List Mark → Type 0
  AreRightMarks marks = AtEveryChoice (λ figures. AreRight figures marks)

  abbrev pub IsRightVerdict : Verdict → Type 0
  IsRightVerdict verdict = AtEveryChoice (λ figures. IsRightOf figures verdict)
