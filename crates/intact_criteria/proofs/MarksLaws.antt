-- Marks are right at each choice of tables that hold the figures.
use Rattle.std.proofs.Common.{◌≡◌, refl, sym, subst, [], ◌∷◌, List, length, Some, slice_get, ℕ, ◌<◌, ◌≤◌}
use Rattle.angle_bounds.specs.declared.bracket.Bracket.{Bracket}
use Rattle.hull_model.specs.declared.opening.Opening.{Opening}
use Rattle.hull_model.specs.declared.station.Station.{Station}
use Rattle.hull_model.specs.declared.water.Water.{Water}
use Rattle.loading_sheet.specs.declared.loading.Loading.{Loading}
use Rattle.draft_bracket.specs.GridLevels.{LiesIn}
use Rattle.dynamic_lever.specs.declared.rows.Arm.{Arm}
use Rattle.dynamic_lever.specs.declared.rows.ArmTable.{ArmTable}
use Rattle.dynamic_lever.specs.declared.rows.UprightRow.{UprightRow}
use Rattle.intact_criteria.specs.declared.finding.Finding.{Finding}
use Rattle.intact_criteria.specs.declared.finding.Finding.TheVariants.{Holds, Fails, Unsure}
use Rattle.intact_criteria.specs.declared.finding.Found.{Found}
use Rattle.intact_criteria.specs.declared.finding.Mark.{Mark}
use Rattle.intact_criteria.specs.declared.finding.Side.{Side}
use Rattle.intact_criteria.specs.declared.finding.Side.TheVariants.{Port, Starboard}
use Rattle.intact_criteria.specs.Brackets.{AreDegreeBrackets}
use Rattle.intact_criteria.specs.Choice.{Choice, IsChoice, IsPlaneOf}
use Rattle.intact_criteria.specs.Figures.{Figures, figures_of, depth_under_if_there, plane_at, OnBothSides}
use Rattle.intact_criteria.specs.Finding.{on_both, mark_of}
use Rattle.intact_criteria.specs.Limit.{Contains}
use Rattle.intact_criteria.specs.Marks.{IsFoundOnBoth, AreFound}
use Rattle.intact_criteria.specs.Readings.{Readings, readings_of, depth_at}
use Rattle.intact_criteria.specs.Right.{IsRight, AreRight}
use Rattle.intact_criteria.specs.Tables.{HoldFigures}
use Rattle.intact_criteria.proofs.Soundness.{IsSound}
use Rattle.intact_criteria.proofs.First.{first_rule}
use Rattle.intact_criteria.proofs.Second.{second_rule}
use Rattle.intact_criteria.proofs.Third.{third_rule}
use Rattle.intact_criteria.proofs.Fourth.{fourth_rule}
use Rattle.intact_criteria.proofs.Fifth.{fifth_rule}
use Rattle.intact_criteria.proofs.Sixth.{sixth_rule}
use Rattle.intact_criteria.proofs.ChoiceLaws.{gz_contained, separation_contained}
use Rattle.intact_criteria.proofs.DegreeBrackets.{lies_in_same}
use Rattle.intact_criteria.proofs.DepthLaws.{depth_contained}
use Rattle.intact_criteria.proofs.Enclosure.{Encloses}
use Rattle.intact_criteria.proofs.ReadRows.{at_degree, at_place, depth_read}

-- ---- the readings of a side contain the figures of a choice
module _ (brackets : List Bracket) (arms : ArmTable) (upright : UprightRow) (openings : List Opening) (degrees : AreDegreeBrackets brackets) (some_rows : length arms.rows ≡ 91)
    (hull : List Station) (loading : Loading) (water : Water) (hold : HoldFigures hull loading water arms upright) (choice : Choice) (is : IsChoice arms upright choice) where
  depth_holds : (place k : ℕ) → place < length openings → k ≤ 90 → Contains (depth_at brackets arms openings place k) (depth_under_if_there (plane_at choice k) (slice_get openings place))
  depth_holds place k within few = at (at_degree brackets degrees.count k few) (at_degree arms.rows some_rows k few) (at_place openings place within)
    where
      at : (bracket : Bracket) × (slice_get brackets k ≡ Some bracket) → (arm : Arm) × (slice_get arms.rows k ≡ Some arm) → (o : Opening) × (slice_get openings place ≡ Some o)
          → Contains (depth_at brackets arms openings place k) (depth_under_if_there (plane_at choice k) (slice_get openings place))
      at (bracket, there) (arm, row) (o, opening) = rw (depth_read brackets arms openings place k bracket arm o there row opening, opening)
          (depth_contained bracket arm o (choice.direction k) (choice.level k) (lies (is.planes k few arm row)) (is.planes k few arm row).between)
        where
          lies : IsPlaneOf k arm (choice.direction k) (choice.level k) → LiesIn bracket (choice.direction k)
          lies plane = lies_in_same k few plane.direction.0 bracket plane.direction.1 (degrees.each k bracket there) (choice.direction k) plane.direction.2

  side_enclosed : (side : Side) → Encloses (readings_of brackets arms upright openings side) (figures_of hull loading water openings choice side)
  side_enclosed side = record {
    gz = gz_contained arms some_rows upright hull loading water hold choice is side;
    separation = separation_contained arms some_rows upright hull loading water hold choice is side;
    gm = hold.gm choice.upright is.upright;
    openings = refl;
    depth = depth_holds;
  }

  -- ---- both sides
  abbrev figures : Side → Figures
  figures = figures_of hull loading water openings choice

  module _ (Rule : Readings → Finding → Type 0) (C : Figures → Type 0) (sound : IsSound Rule C) where
    abbrev rule : Side → Finding → Type 0
    rule side = Rule (readings_of brackets arms upright openings side)

    joined_right : (p s : Finding) → rule Port p → rule Starboard s → IsRight (OnBothSides C figures) (mark_of (on_both p s))
    joined_right (Fails shown) s h k = λ c. sound.fails _ (figures Port) (side_enclosed Port) shown h c.0
    joined_right Holds (Fails shown) h k = λ c. sound.fails _ (figures Starboard) (side_enclosed Starboard) shown k c.1
    joined_right (Unsure other) (Fails shown) h k = λ c. sound.fails _ (figures Starboard) (side_enclosed Starboard) shown k c.1
    joined_right Holds Holds h k = (sound.holds _ (figures Port) (side_enclosed Port) h, sound.holds _ (figures Starboard) (side_enclosed Starboard) k)
    joined_right (Unsure shown) Holds h k = tt
    joined_right (Unsure shown) (Unsure other) h k = tt
    joined_right Holds (Unsure shown) h k = tt

    both_right : (found : Found) (mark : Mark) → IsFoundOnBoth rule found → mark ≡ mark_of found → IsRight (OnBothSides C figures) mark
    both_right found mark found_so e = subst (IsRight (OnBothSides C figures)) (sym e)
        (subst (λ (x : Found). IsRight (OnBothSides C figures) (mark_of x)) (sym found_so.joined) (joined_right found_so.on_port found_so.on_starboard found_so.port_rule found_so.starboard_rule))

  pub found_right : (c1 c2 c3 c4 c5 c6 : Found) (m1 m2 m3 m4 m5 m6 : Mark) → AreFound (readings_of brackets arms upright openings) c1 c2 c3 c4 c5 c6
      → m1 ≡ mark_of c1 → m2 ≡ mark_of c2 → m3 ≡ mark_of c3 → m4 ≡ mark_of c4 → m5 ≡ mark_of c5 → m6 ≡ mark_of c6
      → AreRight figures (m1 ∷ m2 ∷ m3 ∷ m4 ∷ m5 ∷ m6 ∷ [])
  found_right c1 c2 c3 c4 c5 c6 m1 m2 m3 m4 m5 m6 are e1 e2 e3 e4 e5 e6 = (
    both_right _ _ first_rule.sound c1 m1 are.first e1,
    both_right _ _ second_rule.sound c2 m2 are.second e2,
    both_right _ _ third_rule.sound c3 m3 are.third e3,
    both_right _ _ fourth_rule.sound c4 m4 are.fourth e4,
    both_right _ _ fifth_rule.sound c5 m5 are.fifth e5,
    both_right _ _ sixth_rule.sound c6 m6 are.sixth e6,
  )
