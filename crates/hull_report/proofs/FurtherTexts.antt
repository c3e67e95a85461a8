-- Lines of further reports are read from their texts.
use Rattle.std.proofs.Common.{◌≡◌, ℕ, ℤ, true, [], ◌∷◌, Option, Some, None, option_map, refl, ap, ◌∙◌}
use Rattle.outward_interval.specs.declared.figure.Figure.{Figure}
use Rattle.hull_report.specs.declared.line.CaseEnd.{CaseEnd}
use Rattle.hull_report.specs.declared.line.LimitLine.{LimitLine}
use Rattle.hull_report.specs.declared.line.LimitLine.TheVariants as limit
use Rattle.hull_report.specs.declared.line.Line.TheVariants as line
use Rattle.hull_report.specs.Spelling.{U32, U64, I64, AreWords, joined, figure, figure_or_absent, number_or_absent, end_words, limit_words, word_text}
use Rattle.hull_report.specs.Reading as reading
use Rattle.hull_report.specs.Reading.{◌>>=◌}
use Rattle.hull_report.specs.Further as further
use Rattle.hull_report.proofs.WordTexts.{step, behind_name, dash_no_u32, u32_again, u64_again, i64_again, figure_again, absent_again, lever_again}
use Rattle.hull_report.proofs.VerdictTexts.{cause_again}
use Rattle.hull_report.proofs.OutcomeTexts.{end_again}

pub tank_again : (compartment level : ℕ) (volume : Figure) (lcg kg : Option Figure) (inertia : Figure) → AreWords (U32 compartment ∷ U32 level ∷ figure volume ∷ figure_or_absent true lcg ∷ figure_or_absent true kg ∷ figure inertia ∷ []) → further.tank_at (joined (U32 compartment ∷ U32 level ∷ figure volume ∷ figure_or_absent true lcg ∷ figure_or_absent true kg ∷ figure inertia ∷ [])) ≡ Some (line.Tank compartment level volume lcg kg inertia)
unfolding further.tank_at
tank_again compartment level volume lcg kg inertia h = step _ _ _ _ _ _ (u32_again compartment) h (λ h. step _ _ _ _ _ _ (u32_again level) h (λ h. step _ _ _ _ _ _ (figure_again volume) h (λ h. step _ _ _ _ _ _ (absent_again lcg) h (λ h. step _ _ _ _ _ _ (absent_again kg) h (λ h. step _ _ _ _ _ _ (figure_again inertia) h (λ h. refl))))))

pub float_again : (e : CaseEnd) → AreWords (end_words e) → further.float_at (joined (end_words e)) ≡ Some (line.Float e)
unfolding further.float_at
float_again e h = ap (λ o. o >>= λ e. Some (line.Float e)) (end_again e h)

pub strength_again : (station x : ℕ) (shear bend : Figure) → AreWords (U32 station ∷ U32 x ∷ figure shear ∷ figure bend ∷ []) → further.strength_at (joined (U32 station ∷ U32 x ∷ figure shear ∷ figure bend ∷ [])) ≡ Some (line.Strength station x shear bend)
unfolding further.strength_at
strength_again station x shear bend h = step _ _ _ _ _ _ (u32_again station) h (λ h. step _ _ _ _ _ _ (u32_again x) h (λ h. step _ _ _ _ _ _ (figure_again shear) h (λ h. step _ _ _ _ _ _ (figure_again bend) h (λ h. refl))))

pub flooded_arm_again : (case degree : ℕ) (d1 d2 : ℤ) (port_gz port_area star_gz star_area : Figure) → AreWords (U32 case ∷ U32 degree ∷ I64 d1 ∷ I64 d2 ∷ figure port_gz ∷ figure port_area ∷ figure star_gz ∷ figure star_area ∷ []) → further.flooded_arm_at (joined (U32 case ∷ U32 degree ∷ I64 d1 ∷ I64 d2 ∷ figure port_gz ∷ figure port_area ∷ figure star_gz ∷ figure star_area ∷ [])) ≡ Some (line.FloodedArm case degree d1 d2 port_gz port_area star_gz star_area)
unfolding further.flooded_arm_at
flooded_arm_again case degree d1 d2 port_gz port_area star_gz star_area h = step _ _ _ _ _ _ (u32_again case) h (λ h. step _ _ _ _ _ _ (u32_again degree) h (λ h. step _ _ _ _ _ _ (i64_again d1) h (λ h. step _ _ _ _ _ _ (i64_again d2) h (λ h.
    ap (λ o. o >>= λ port. reading.lever_at port.1 >>= λ star. Some (line.FloodedArm case degree d1 d2 port.0.gz port.0.area star.0.gz star.0.area)) (lever_again port_gz port_area (figure star_gz ∷ figure star_area ∷ []) h)
    ∙ ap (λ o. o >>= λ star. Some (line.FloodedArm case degree d1 d2 port_gz port_area star.0.gz star.0.area)) (lever_again star_gz star_area [] h.1.1)))))

pub flooded_short_again : (case degree : ℕ) (left : Figure) → AreWords (U32 case ∷ U32 degree ∷ figure left ∷ []) → further.flooded_short_at (joined (U32 case ∷ U32 degree ∷ figure left ∷ [])) ≡ Some (line.FloodedShort case degree left)
unfolding further.flooded_short_at
flooded_short_again case degree left h = step _ _ _ _ _ _ (u32_again case) h (λ h. step _ _ _ _ _ _ (u32_again degree) h (λ h. step _ _ _ _ _ _ (figure_again left) h (λ h. refl)))

height_again : (height : Option ℕ) → AreWords (number_or_absent height ∷ []) → option_map (λ p. p.0) (reading.u32_at (joined (number_or_absent height ∷ []))) ≡ height
height_again (Some height) h = ap (option_map (λ p. p.0)) ((u32_again height).gives [] h.0)
height_again None h = ap (option_map (λ p. p.0)) (dash_no_u32 [])

pub limit_again : (mass : ℕ) (height : Option ℕ) → AreWords (U64 mass ∷ number_or_absent height ∷ []) → further.limit_at (joined (U64 mass ∷ number_or_absent height ∷ [])) ≡ Some (line.Limit mass height)
unfolding further.limit_at
limit_again mass height h = step _ _ _ _ _ _ (u64_again mass) h (λ h. ap (λ height. Some (line.Limit mass height)) (height_again height h))

why_again : (w : LimitLine) → AreWords (limit_words w) → further.why_at (joined (limit_words w)) ≡ Some w
unfolding further.why_at further.fail_at further.undecided_at word_text
why_again limit.EndOfRange h = behind_name further.why_named _ _ _ h (λ h. refl)
why_again (limit.Fail criterion s) h = behind_name further.why_named _ _ _ h (λ h. ap (λ o. o >>= λ c. Some (limit.Fail c.criterion c.shown)) (cause_again criterion None s h))
why_again (limit.Undecided criterion s) h = behind_name further.why_named _ _ _ h (λ h. ap (λ o. o >>= λ c. Some (limit.Undecided c.criterion c.shown)) (cause_again criterion None s h))

pub beyond_again : (mass height : ℕ) (why : LimitLine) → AreWords (U64 mass ∷ U32 height ∷ limit_words why) → further.beyond_at (joined (U64 mass ∷ U32 height ∷ limit_words why)) ≡ Some (line.Beyond mass height why)
unfolding further.beyond_at
beyond_again mass height why h = step _ _ _ _ _ _ (u64_again mass) h (λ h. step _ _ _ _ _ _ (u32_again height) h (λ h. ap (λ o. o >>= λ w. Some (line.Beyond mass height w)) (why_again why h)))
