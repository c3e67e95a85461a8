-- Verdicts are read from their texts.
use Rattle.std.proofs.Common.{◌≡◌, ℕ, true, List, [], ◌∷◌, codes, Option, Some, None, refl, ap, ◌∙◌}
use Rattle.outward_interval.specs.declared.figure.Figure.{Figure}
use Rattle.hull_report.specs.declared.names.SideLine.{SideLine}
use Rattle.hull_report.specs.declared.names.SideLine.TheVariants as side
use Rattle.hull_report.specs.declared.line.ShownLine.{ShownLine}
use Rattle.hull_report.specs.declared.line.ShownLine.TheVariants as shown
use Rattle.hull_report.specs.declared.line.Call.{Call}
use Rattle.hull_report.specs.declared.line.Call.TheVariants as call
use Rattle.hull_report.specs.declared.line.Line.TheVariants as line
use Rattle.hull_report.specs.Spelling.{Word, Name, U32, is_graphic, AreWords, joined, figure, side_name, sided, shown_words, cause_words, call_words, word_text}
use Rattle.hull_report.specs.Reading as reading
use Rattle.hull_report.specs.Reading.{◌>>=◌}
use Rattle.hull_report.specs.Verdicts as verdicts
use Rattle.hull_report.proofs.WordTexts.{step, behind_name, no_word, u32_again, figure_again, criterion_again, side_again}

interval_shown : (degree : ℕ) (f : Figure) → AreWords (U32 degree ∷ figure f ∷ []) → verdicts.interval_at (joined (U32 degree ∷ figure f ∷ [])) ≡ Some (shown.Interval degree f)
unfolding verdicts.interval_at
interval_shown degree f h = step _ _ _ _ _ _ (u32_again degree) h (λ h. step _ _ _ _ _ _ (figure_again f) h (λ h. refl))

pair_again : (low : ℕ) (high : ℕ) → AreWords (U32 low ∷ U32 high ∷ []) → verdicts.pair_at (joined (U32 low ∷ U32 high ∷ [])) ≡ Some (shown.Pair low high)
unfolding verdicts.pair_at
pair_again low high h = step _ _ _ _ _ _ (u32_again low) h (λ h. step _ _ _ _ _ _ (u32_again high) h (λ h. refl))

leak_again : (opening : ℕ) (degree : ℕ) (f : Figure) → AreWords (U32 opening ∷ U32 degree ∷ figure f ∷ []) → verdicts.leak_at (joined (U32 opening ∷ U32 degree ∷ figure f ∷ [])) ≡ Some (shown.Leak opening degree f)
unfolding verdicts.leak_at
leak_again opening degree f h = step _ _ _ _ _ _ (u32_again opening) h (λ h. step _ _ _ _ _ _ (u32_again degree) h (λ h. step _ _ _ _ _ _ (figure_again f) h (λ h. refl)))

heel_again : (q : ℕ) (q2 : ℕ) (f : Figure) → AreWords (U32 q ∷ U32 q2 ∷ figure f ∷ []) → verdicts.heel_at (joined (U32 q ∷ U32 q2 ∷ figure f ∷ [])) ≡ Some (shown.Heel q q2 f)
unfolding verdicts.heel_at
heel_again q q2 f h = step _ _ _ _ _ _ (u32_again q) h (λ h. step _ _ _ _ _ _ (u32_again q2) h (λ h. step _ _ _ _ _ _ (figure_again f) h (λ h. refl)))

heels_again : (q : ℕ) (q2 : ℕ) (p : ℕ) (p2 : ℕ) → AreWords (U32 q ∷ U32 q2 ∷ U32 p ∷ U32 p2 ∷ []) → verdicts.heels_at (joined (U32 q ∷ U32 q2 ∷ U32 p ∷ U32 p2 ∷ [])) ≡ Some (shown.Heels q q2 p p2)
unfolding verdicts.heels_at
heels_again q q2 p p2 h = step _ _ _ _ _ _ (u32_again q) h (λ h. step _ _ _ _ _ _ (u32_again q2) h (λ h. step _ _ _ _ _ _ (u32_again p) h (λ h. step _ _ _ _ _ _ (u32_again p2) h (λ h. refl))))

shown_again : (s : ShownLine) → AreWords (shown_words s) → verdicts.shown_at (joined (shown_words s)) ≡ Some s
unfolding verdicts.shown_at word_text
shown_again (shown.Interval degree f) h = behind_name verdicts.shown_named _ _ _ h (λ h. interval_shown degree f h)
shown_again (shown.Pair low high) h = behind_name verdicts.shown_named _ _ _ h (λ h. pair_again low high h)
shown_again (shown.Leak opening degree f) h = behind_name verdicts.shown_named _ _ _ h (λ h. leak_again opening degree f h)
shown_again (shown.Heel q q2 f) h = behind_name verdicts.shown_named _ _ _ h (λ h. heel_again q q2 f h)
shown_again (shown.Heels q q2 p p2) h = behind_name verdicts.shown_named _ _ _ h (λ h. heels_again q q2 p p2 h)

-- where no side is named, the word after the criterion is none
no_side : (s : ShownLine) → AreWords (shown_words s) → reading.side_at (joined (shown_words s)) ≡ (None, joined (shown_words s))
unfolding reading.side_at reading.side word_text
no_side (shown.Interval degree f) h = ap (λ o. reading.side_by o (joined (shown_words (shown.Interval degree f)))) (no_word reading.side (Name (codes "interval")) (U32 degree ∷ figure f ∷ []) h.0 refl)
no_side (shown.Pair low high) h = ap (λ o. reading.side_by o (joined (shown_words (shown.Pair low high)))) (no_word reading.side (Name (codes "pair")) (U32 low ∷ U32 high ∷ []) h.0 refl)
no_side (shown.Leak opening degree f) h = ap (λ o. reading.side_by o (joined (shown_words (shown.Leak opening degree f)))) (no_word reading.side (Name (codes "leak")) (U32 opening ∷ U32 degree ∷ figure f ∷ []) h.0 refl)
no_side (shown.Heel q q2 f) h = ap (λ o. reading.side_by o (joined (shown_words (shown.Heel q q2 f)))) (no_word reading.side (Name (codes "heel")) (U32 q ∷ U32 q2 ∷ figure f ∷ []) h.0 refl)
no_side (shown.Heels q q2 p p2) h = ap (λ o. reading.side_by o (joined (shown_words (shown.Heels q q2 p p2)))) (no_word reading.side (Name (codes "heels")) (U32 q ∷ U32 q2 ∷ U32 p ∷ U32 p2 ∷ []) h.0 refl)

graphic_side : (s : SideLine) → is_graphic (side_name s) ≡ true
graphic_side side.Port = refl
graphic_side side.Starboard = refl

-- the words behind the side
pub sided_are : (side : Option SideLine) (words : List Word) → AreWords words → AreWords (sided side words)
sided_are None words h = h
sided_are (Some side) words h = (graphic_side side, h)

side_read : (side : Option SideLine) (s : ShownLine) → AreWords (sided side (shown_words s)) → reading.side_at (joined (sided side (shown_words s))) ≡ (side, joined (shown_words s))
unfolding reading.side_at
side_read None s h = no_side s h
side_read (Some side) s h = ap (λ o. reading.side_by o (joined (sided (Some side) (shown_words s)))) ((side_again side).gives (shown_words s) h.0)

behind_side : (side : Option SideLine) (words : List Word) → AreWords (sided side words) → AreWords words
behind_side None words h = h
behind_side (Some side) words h = h.1

pub cause_again : (criterion : ℕ) (side : Option SideLine) (s : ShownLine) → AreWords (cause_words criterion side s) → verdicts.cause_at (joined (cause_words criterion side s)) ≡ Some (record { criterion = criterion; side = side; shown = s })
unfolding verdicts.cause_at
cause_again criterion side s h = step _ _ _ _ _ _ (criterion_again criterion) h
    (λ h. ap (λ (p : Option SideLine × List ℕ). verdicts.shown_at p.1 >>= λ s. Some (record { criterion = criterion; side = p.0; shown = s })) (side_read side s h)
    ∙ ap (λ o. o >>= λ s. Some (record { criterion = criterion; side = side; shown = s })) (shown_again s (behind_side side (shown_words s) h)))

call_again : (c : Call) → AreWords (call_words c) → verdicts.call_at (joined (call_words c)) ≡ Some c
unfolding verdicts.call_at verdicts.fail_at verdicts.undecided_at word_text
call_again call.Pass h = behind_name verdicts.call_named _ _ _ h (λ h. refl)
call_again (call.Fail criterion side s) h = behind_name verdicts.call_named _ _ _ h (λ h. ap (λ o. o >>= λ c. Some (call.Fail c.criterion c.side c.shown)) (cause_again criterion side s h))
call_again (call.Undecided criterion side s) h = behind_name verdicts.call_named _ _ _ h (λ h. ap (λ o. o >>= λ c. Some (call.Undecided c.criterion c.side c.shown)) (cause_again criterion side s h))

pub verdict_again : (c : Call) → AreWords (call_words c) → verdicts.verdict_at (joined (call_words c)) ≡ Some (line.Verdict c)
unfolding verdicts.verdict_at
verdict_again c h = ap (λ o. o >>= λ c. Some (line.Verdict c)) (call_again c h)
