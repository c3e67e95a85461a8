-- Damage cases and floodable lengths are read from their texts.
use Rattle.std.proofs.Common.{◌≡◌, ℕ, List, [], ◌∷◌, codes, Option, Some, None, refl, ap, ◌∙◌}
use Rattle.hull_report.specs.declared.line.Sides.{Sides}
use Rattle.hull_report.specs.declared.line.CaseEnd.{CaseEnd}
use Rattle.hull_report.specs.declared.line.CaseEnd.TheVariants as case
use Rattle.hull_report.specs.declared.line.SafeBox.{SafeBox}
use Rattle.hull_report.specs.declared.line.ReasonLine.{ReasonLine}
use Rattle.hull_report.specs.declared.line.ReasonLine.TheVariants as reason
use Rattle.hull_report.specs.declared.line.Line.TheVariants as line
use Rattle.hull_report.specs.Spelling.{Word, Name, U32, IsWord, AreWords, joined, figure, sides_words, end_words, reach_words, reason_words, word_text}
use Rattle.hull_report.specs.Reading as reading
use Rattle.hull_report.specs.Reading.{◌>>=◌, cut}
use Rattle.hull_report.specs.Outcomes as outcomes
use Rattle.hull_report.proofs.WordTexts.{step, behind_name, no_word, dash_no_u32, u32_again, i64_again, figure_again}

sides_again : (s : Sides) → AreWords (sides_words s) → reading.sides_at (joined (sides_words s)) ≡ Some s
unfolding reading.sides_at
sides_again s h = step _ _ _ _ _ _ (i64_again s.a1) h (λ h. step _ _ _ _ _ _ (i64_again s.a2) h (λ h. step _ _ _ _ _ _ (i64_again s.f1) h (λ h. step _ _ _ _ _ _ (i64_again s.f2) h (λ h. refl))))

no_sides : (name : List ℕ) (words : List Word) → IsWord (Name name) → reading.signed name ≡ None → reading.sides_at (joined (Name name ∷ words)) ≡ None
unfolding reading.sides_at reading.i64_at word_text
no_sides name words h none = ap (λ o. o >>= λ a1. reading.i64_at a1.1 >>= λ a2. reading.i64_at a2.1 >>= λ f1. reading.i64_at f1.1 >>= λ f2. Some (record { a1 = a1.0; a2 = a2.0; f1 = f1.0; f2 = f2.0 }))
    (no_word (λ word. reading.signed word >>= reading.half) (Name name) words h (ap (λ n. n >>= reading.half) none))

sinks_no_number : reading.signed (codes "sinks") ≡ None
unfolding reading.signed reading.unsigned cut reading.digits_after
sinks_no_number = refl

nostart_no_number : reading.signed (codes "nostart") ≡ None
unfolding reading.signed reading.unsigned cut reading.digits_after
nostart_no_number = refl

pub end_again : (e : CaseEnd) → AreWords (end_words e) → outcomes.end_at (joined (end_words e)) ≡ Some e
unfolding outcomes.end_at outcomes.unsettled_at word_text
end_again (case.Settled sides) h = ap (λ o. outcomes.end_by o (joined (sides_words sides))) (sides_again sides h)
end_again (case.Sinks left) h =
    ap (λ o. outcomes.end_by o (joined (end_words (case.Sinks left)))) (no_sides (codes "sinks") (figure left ∷ []) h.0 sinks_no_number)
    ∙ behind_name outcomes.unsettled_named _ _ _ h (λ h. step _ _ _ _ _ _ (figure_again left) h (λ h. refl))
end_again case.NoStartFore h =
    ap (λ o. outcomes.end_by o (joined (end_words case.NoStartFore))) (no_sides (codes "nostart") (Name (codes "fore") ∷ []) h.0 nostart_no_number)
    ∙ behind_name outcomes.unsettled_named _ _ _ h (λ h. behind_name outcomes.tip_named _ _ _ h (λ h. refl))
end_again case.NoStartAft h =
    ap (λ o. outcomes.end_by o (joined (end_words case.NoStartAft))) (no_sides (codes "nostart") (Name (codes "aft") ∷ []) h.0 nostart_no_number)
    ∙ behind_name outcomes.unsettled_named _ _ _ h (λ h. behind_name outcomes.tip_named _ _ _ h (λ h. refl))

reach_again : (r : Option SafeBox) → AreWords (reach_words r) → outcomes.box_at (joined (reach_words r)) ≡ r
unfolding outcomes.box_at
reach_again (Some box) h = step _ _ _ _ _ _ (u32_again box.length) h (λ h. ap (λ o. o >>= λ sides. Some (record { length = box.length; sides = sides })) (sides_again box.sides h))
reach_again None h = ap (λ o. o >>= λ length. reading.sides_at length.1 >>= λ sides. Some (record { length = length.0; sides = sides })) (dash_no_u32 [])

over_again : (station : ℕ) (sides : Sides) → AreWords (U32 station ∷ sides_words sides) → outcomes.over_at (joined (U32 station ∷ sides_words sides)) ≡ Some (reason.Over station sides)
unfolding outcomes.over_at
over_again station sides h = step _ _ _ _ _ _ (u32_again station) h (λ h. ap (λ o. o >>= λ sides. Some (reason.Over station sides)) (sides_again sides h))

touch_again : (station : ℕ) (sides : Sides) → AreWords (U32 station ∷ sides_words sides) → outcomes.touch_at (joined (U32 station ∷ sides_words sides)) ≡ Some (reason.Touch station sides)
unfolding outcomes.touch_at
touch_again station sides h = step _ _ _ _ _ _ (u32_again station) h (λ h. ap (λ o. o >>= λ sides. Some (reason.Touch station sides)) (sides_again sides h))

reason_again : (r : ReasonLine) → AreWords (reason_words r) → outcomes.reason_at (joined (reason_words r)) ≡ Some r
unfolding outcomes.reason_at word_text
reason_again (reason.Over station sides) h = behind_name outcomes.reason_named _ _ _ h (λ h. over_again station sides h)
reason_again (reason.Touch station sides) h = behind_name outcomes.reason_named _ _ _ h (λ h. touch_again station sides h)
reason_again reason.Sinks h = behind_name outcomes.reason_named _ _ _ h (λ h. refl)
reason_again reason.NoStart h = behind_name outcomes.reason_named _ _ _ h (λ h. refl)
reason_again reason.EndOfShip h = behind_name outcomes.reason_named _ _ _ h (λ h. refl)

pub damage_again : (n : ℕ) (e : CaseEnd) → AreWords (U32 n ∷ end_words e) → outcomes.damage_at (joined (U32 n ∷ end_words e)) ≡ Some (line.Damage n e)
unfolding outcomes.damage_at
damage_again n e h = step _ _ _ _ _ _ (u32_again n) h (λ h. ap (λ o. o >>= λ e. Some (line.Damage n e)) (end_again e h))

pub safe_again : (centre : ℕ) (r : Option SafeBox) → AreWords (U32 centre ∷ reach_words r) → outcomes.safe_at (joined (U32 centre ∷ reach_words r)) ≡ Some (line.Safe centre r)
unfolding outcomes.safe_at
safe_again centre r h = step _ _ _ _ _ _ (u32_again centre) h (λ h. ap (λ r. Some (line.Safe centre r)) (reach_again r h))

pub next_again : (centre length : ℕ) (r : ReasonLine) → AreWords (U32 centre ∷ U32 length ∷ reason_words r) → outcomes.next_line_at (joined (U32 centre ∷ U32 length ∷ reason_words r)) ≡ Some (line.Next centre length r)
unfolding outcomes.next_line_at
next_again centre length r h = step _ _ _ _ _ _ (u32_again centre) h (λ h. step _ _ _ _ _ _ (u32_again length) h (λ h. ap (λ o. o >>= λ r. Some (line.Next centre length r)) (reason_again r h)))
