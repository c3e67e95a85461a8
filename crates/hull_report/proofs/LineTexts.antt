-- Each line is read from its text.
use Rattle.std.proofs.Common.{◌≡◌, Bool, true, false, List, [], ◌∷◌, Option, Some, None, refl, ap, ◌∙◌}
use Rattle.outward_interval.specs.declared.figure.Figure.{Figure}
use Rattle.hull_report.specs.declared.line.Line.{Line}
use Rattle.hull_report.specs.declared.line.Line.TheVariants as line
use Rattle.hull_report.specs.Spelling.{AreWords, IsLine, joined, figure, figure_or_absent, figure_words, may_be_absent, line_words, word_text}
use Rattle.hull_report.specs.Reading as reading
use Rattle.hull_report.specs.Reading.{◌>>=◌}
use Rattle.hull_report.specs.Fields as fields
use Rattle.hull_report.specs.Further.{further_at}
use Rattle.hull_report.proofs.WordTexts.{Again, step, behind_name, u32_again, u64_again, i64_again, i128_again, interval_again, figure_again, absent_again, lever_again, no_figure, no_lever, version_again, criterion_again, command_again, finding_again}
use Rattle.hull_report.proofs.VerdictTexts.{verdict_again}
use Rattle.hull_report.proofs.OutcomeTexts.{damage_again, safe_again, next_again}
use Rattle.hull_report.proofs.FurtherTexts.{tank_again, float_again, strength_again, flooded_arm_again, flooded_short_again, limit_again, beyond_again}

place_again : (may : Bool) (f : Option Figure) → Again (fields.place_at may) (figure_or_absent may f) f
place_again true f = record { gives = λ words h. (absent_again f).gives words h }
place_again false (Some f) = record { gives = λ words h. ap (λ o. o >>= λ f. Some (Some f.0, f.1)) ((figure_again f).gives words h) }
place_again false None = record { gives = λ words h. absurd h }

figures_again : (places : List Bool) (figures : List (Option Figure)) → AreWords (figure_words places figures) → fields.figures_at places (joined (figure_words places figures)) ≡ Some (figures, [])
unfolding fields.figures_at joined
figures_again [] [] h = refl
figures_again [] (f ∷ figures) h = absurd h.0
figures_again (may ∷ others) [] h = absurd h.0
figures_again (may ∷ others) (f ∷ figures) h = step (fields.place_at may) (figure_or_absent may f) f (figure_words others figures) _ _ (place_again may f) h (λ h. ap (λ o. o >>= λ figures. Some (f ∷ figures.0, figures.1)) (figures_again others figures h))

-- what a line spells is read as that line
pub line_again : (l : Line) → IsLine l → fields.line_at (joined (line_words l)) ≡ Some l
unfolding fields.line_at fields.fields_at fields.header_at fields.hull_at fields.body_at fields.hydro_at fields.section_at fields.cross_at fields.load_at fields.upright_at fields.arm_at fields.mark_at further_at fields.end_line_at word_text
line_again (line.Header version c) h = behind_name fields.fields_at _ _ _ h (λ h. step _ _ _ _ _ _ (version_again version) h (λ h. step _ _ _ _ _ _ (command_again c) h (λ h. refl)))
line_again (line.Hull stations points) h = behind_name fields.fields_at _ _ _ h (λ h. step _ _ _ _ _ _ (u32_again stations) h (λ h. step _ _ _ _ _ _ (u32_again points) h (λ h. refl)))
line_again (line.Body six) h = behind_name fields.fields_at _ _ _ h (λ h. step _ _ _ _ _ _ (i128_again six) h (λ h. refl))
line_again (line.Hydro draft figures) h = behind_name fields.fields_at _ _ _ h (λ h. step _ _ _ _ _ _ (u32_again draft) h (λ h. ap (λ o. o >>= λ figures. Some (line.Hydro draft figures.0)) (figures_again may_be_absent figures h)))
line_again (line.Section station x draft area moment) h = behind_name fields.fields_at _ _ _ h (λ h. step _ _ _ _ _ _ (u32_again station) h (λ h. step _ _ _ _ _ _ (u32_again x) h (λ h. step _ _ _ _ _ _ (u32_again draft) h (λ h. step _ _ _ _ _ _ (figure_again area) h (λ h. step _ _ _ _ _ _ (interval_again 9 moment) h (λ h. refl))))))
line_again (line.Cross mass degree d1 d2 kn) h = behind_name fields.fields_at _ _ _ h (λ h. step _ _ _ _ _ _ (u64_again mass) h (λ h. step _ _ _ _ _ _ (u32_again degree) h (λ h. step _ _ _ _ _ _ (i64_again d1) h (λ h. step _ _ _ _ _ _ (i64_again d2) h (λ h. step _ _ _ _ _ _ (figure_again kn) h (λ h. refl))))))
line_again (line.Load mass lcg kg) h = behind_name fields.fields_at _ _ _ h (λ h. step _ _ _ _ _ _ (u64_again mass) h (λ h. step _ _ _ _ _ _ (figure_again lcg) h (λ h. step _ _ _ _ _ _ (figure_again kg) h (λ h. ap (λ o. Some (fields.load_by mass lcg kg o)) no_figure))))
line_again (line.Load2 mass lcg tcg kg) h = behind_name fields.fields_at _ _ _ h (λ h. step _ _ _ _ _ _ (u64_again mass) h (λ h. step _ _ _ _ _ _ (figure_again lcg) h (λ h. step _ _ _ _ _ _ (figure_again tcg) h (λ h. ap (λ o. Some (fields.load_by mass lcg tcg o)) ((figure_again kg).gives [] h.0)))))
line_again (line.Upright d1 d2 kb bm gm) h = behind_name fields.fields_at _ _ _ h (λ h. step _ _ _ _ _ _ (i64_again d1) h (λ h. step _ _ _ _ _ _ (i64_again d2) h (λ h. step _ _ _ _ _ _ (figure_again kb) h (λ h. step _ _ _ _ _ _ (figure_again bm) h (λ h. step _ _ _ _ _ _ (figure_again gm) h (λ h. refl))))))
line_again (line.Arm degree d1 d2 gz area) h = behind_name fields.fields_at _ _ _ h (λ h. step _ _ _ _ _ _ (u32_again degree) h (λ h. step _ _ _ _ _ _ (i64_again d1) h (λ h. step _ _ _ _ _ _ (i64_again d2) h (λ h.
    ap (λ o. o >>= λ port. Some (fields.arm_by degree d1 d2 port.0 (reading.lever_at port.1))) (lever_again gz area [] h)
    ∙ ap (λ o. Some (fields.arm_by degree d1 d2 (record { gz = gz; area = area }) o)) no_lever))))
line_again (line.Arm2 degree d1 d2 port_gz port_area star_gz star_area) h = behind_name fields.fields_at _ _ _ h (λ h. step _ _ _ _ _ _ (u32_again degree) h (λ h. step _ _ _ _ _ _ (i64_again d1) h (λ h. step _ _ _ _ _ _ (i64_again d2) h (λ h.
    ap (λ o. o >>= λ port. Some (fields.arm_by degree d1 d2 port.0 (reading.lever_at port.1))) (lever_again port_gz port_area (figure star_gz ∷ figure star_area ∷ []) h)
    ∙ ap (λ o. Some (fields.arm_by degree d1 d2 (record { gz = port_gz; area = port_area }) o)) (lever_again star_gz star_area [] h.1.1)))))
line_again (line.Mark criterion found) h = behind_name fields.fields_at _ _ _ h (λ h. step _ _ _ _ _ _ (criterion_again criterion) h (λ h. step _ _ _ _ _ _ (finding_again found) h (λ h. refl)))
line_again (line.Verdict c) h = behind_name fields.fields_at _ _ _ h (λ h. verdict_again c h)
line_again (line.Damage n e) h = behind_name fields.fields_at _ _ _ h (λ h. damage_again n e h)
line_again (line.Safe centre r) h = behind_name fields.fields_at _ _ _ h (λ h. safe_again centre r h)
line_again (line.Next centre length r) h = behind_name fields.fields_at _ _ _ h (λ h. next_again centre length r h)
line_again (line.End lines) h = behind_name fields.fields_at _ _ _ h (λ h. step _ _ _ _ _ _ (u32_again lines) h (λ h. refl))
line_again (line.Tank compartment level volume lcg kg inertia) h = behind_name fields.fields_at _ _ _ h (λ h. tank_again compartment level volume lcg kg inertia h)
line_again (line.Float e) h = behind_name fields.fields_at _ _ _ h (λ h. float_again e h)
line_again (line.Strength station x shear bend) h = behind_name fields.fields_at _ _ _ h (λ h. strength_again station x shear bend h)
line_again (line.FloodedArm case degree d1 d2 port_gz port_area star_gz star_area) h = behind_name fields.fields_at _ _ _ h (λ h. flooded_arm_again case degree d1 d2 port_gz port_area star_gz star_area h)
line_again (line.FloodedShort case degree left) h = behind_name fields.fields_at _ _ _ h (λ h. flooded_short_again case degree left h)
line_again line.LimitsHead h = behind_name fields.fields_at _ _ _ h (λ h. refl)
line_again (line.Limit mass height) h = behind_name fields.fields_at _ _ _ h (λ h. limit_again mass height h)
line_again (line.Beyond mass height why) h = behind_name fields.fields_at _ _ _ h (λ h. beyond_again mass height why h)
