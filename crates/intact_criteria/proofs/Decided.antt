-- The rules leave no choice: two findings by them have the same marks.
use Rattle.std.proofs.Common.{◌≡◌, refl, sym, ◌∙◌, ap, ap₂, subst, [], ◌∷◌, List, length, ◌⊎◌, inl, inr, ℕ, ◌+◌, ◌<◌, ◌≤◌, ℤ, ◌≤ℤ◌, ◌<ℤ◌, arith}
use Rattle.std.proofs.lemmas.Int.{ints}
use Rattle.angle_bounds.specs.declared.bracket.Bracket.{Bracket}
use Rattle.hull_model.specs.declared.opening.Opening.{Opening}
use Rattle.dynamic_lever.specs.declared.rows.ArmTable.{ArmTable}
use Rattle.dynamic_lever.specs.declared.rows.UprightRow.{UprightRow}
use Rattle.intact_criteria.specs.declared.finding.Finding.{Finding}
use Rattle.intact_criteria.specs.declared.finding.Finding.TheVariants as finding
use Rattle.intact_criteria.specs.declared.finding.Findings.{Findings}
use Rattle.intact_criteria.specs.declared.finding.Found.{Found}
use Rattle.intact_criteria.specs.declared.finding.Mark.{Mark}
use Rattle.intact_criteria.specs.declared.finding.Mark.TheVariants.{Holds, Fails, Unsure}
use Rattle.intact_criteria.specs.declared.finding.Shown.{Shown}
use Rattle.intact_criteria.specs.declared.finding.Side.{Side}
use Rattle.intact_criteria.specs.declared.finding.Side.TheVariants.{Port, Starboard}
use Rattle.intact_criteria.specs.AreaToFlooding as flooding
use Rattle.intact_criteria.specs.AreaToFlooding.{area_between}
use Rattle.intact_criteria.specs.C4 as C4
use Rattle.intact_criteria.specs.C5 as C5
use Rattle.intact_criteria.specs.Decided.{MarksAreDecided}
use Rattle.intact_criteria.specs.Downflooding.{IsDownflooding, IsLastDry, IsMost}
use Rattle.intact_criteria.specs.Finding.{Follows, on_both, mark_of}
use Rattle.intact_criteria.specs.Limit.{IsFoundAgainst}
use Rattle.intact_criteria.specs.Marks.{IsFoundOnBoth, AreFindings}
use Rattle.intact_criteria.specs.Readings.{Ends, Leaks, Readings, leaks_of, readings_of, ends_of, gz_at, separation_at}
use Rattle.intact_criteria.proofs.Decisions.{lt_or_le}
use Rattle.intact_criteria.proofs.DepthsOfDegrees.{depths_same}
use Rattle.intact_criteria.proofs.FoundLaws.{IsOrdered, separation_ordered, gz_ordered, area_ordered, holds_not_fails}

-- ---- one side
finding_mark : Finding → Mark
finding_mark finding.Holds = Holds
finding_mark (finding.Fails s) = Fails
finding_mark (finding.Unsure s) = Unsure

follows_decided : (holds fails : Type 0) (failing unsure : Shown → Type 0) → (holds → fails → ⊥) → (x y : Finding) → Follows holds fails failing unsure x → Follows holds fails failing unsure y → finding_mark x ≡ finding_mark y
unfolding finding_mark
follows_decided holds fails failing unsure apart finding.Holds finding.Holds h k = refl
follows_decided holds fails failing unsure apart finding.Holds (finding.Fails s) h k = absurd (apart h k.0)
follows_decided holds fails failing unsure apart finding.Holds (finding.Unsure s) h k = absurd (k.0 h)
follows_decided holds fails failing unsure apart (finding.Fails s) finding.Holds h k = absurd (apart k h.0)
follows_decided holds fails failing unsure apart (finding.Fails s) (finding.Fails t) h k = refl
follows_decided holds fails failing unsure apart (finding.Fails s) (finding.Unsure t) h k = absurd (k.1 h.0)
follows_decided holds fails failing unsure apart (finding.Unsure s) finding.Holds h k = absurd (h.0 k)
follows_decided holds fails failing unsure apart (finding.Unsure s) (finding.Fails t) h k = absurd (h.1 k.0)
follows_decided holds fails failing unsure apart (finding.Unsure s) (finding.Unsure t) h k = refl

above_end : (limit lo hi : ℤ) → lo ≤ℤ hi → limit ≤ℤ lo → hi <ℤ limit → ⊥
above_end limit lo hi h r s = omega (arith, ints)

against_decided : (limit : ℤ) (degree : ℕ) (ends : Ends) → IsOrdered ends → (x y : Finding) → IsFoundAgainst limit degree ends x → IsFoundAgainst limit degree ends y → finding_mark x ≡ finding_mark y
against_decided limit degree ends ordered x y h k = follows_decided _ _ _ _ (λ r s. above_end limit ends.lo ends.hi ordered r s) x y h k

fourth_decided : (gz : ℕ → Ends) → ((k : ℕ) → IsOrdered (gz k)) → (x y : Finding) → C4.IsFound gz x → C4.IsFound gz y → finding_mark x ≡ finding_mark y
fourth_decided gz ordered x y h k = follows_decided _ _ _ _ (λ s each. above_end _ (gz s.degree).lo (gz s.degree).hi (ordered s.degree) s.holds (each s.degree s.above s.below)) x y h k

round_about : (a b c d : ℤ) → a ≤ℤ b → c ≤ℤ d → d ≤ℤ a → b <ℤ c → ⊥
round_about a b c d h k l m = omega (arith, ints)

fifth_decided : (gz : ℕ → Ends) → ((k : ℕ) → IsOrdered (gz k)) → (x y : Finding) → C5.IsFound gz x → C5.IsFound gz y → finding_mark x ≡ finding_mark y
fifth_decided gz ordered x y h k = follows_decided _ _ _ _
    (λ s t. round_about (gz s.degree).lo (gz s.degree).hi (gz t.degree).lo (gz t.degree).hi (ordered s.degree) (ordered t.degree) (s.holds t.degree t.above t.below) (t.holds s.degree s.above s.below)) x y h k

-- there is one degree of downflooding
pub downflooding_unique : (wet : ℕ → Type 0) (K L : ℕ) → IsDownflooding wet K → IsDownflooding wet L → K ≡ L
downflooding_unique wet K L h k = elim h [
  | inl m ↦ elim k [ inl n ↦ m.nil ∙ sym n.nil | inr n ↦ absurd (n.dry 0 (omega arith) m.floods) ]
  | inr m ↦ elim k [ inl n ↦ absurd (m.dry 0 (omega arith) n.floods) | inr n ↦ both m n ]
]
  where
    not_less : (K L : ℕ) → IsLastDry wet K → IsLastDry wet L → K < L → ⊥
    not_less K L m n less = n.dry (K + 1) (omega arith) (m.next (few K L less n.most))
      where
        few : (a b : ℕ) → a < b → b ≤ 40 → a < 40
        few a b h k = omega arith

    both : IsLastDry wet K → IsLastDry wet L → K ≡ L
    both m n = elim (lt_or_le K L) [
      | inl less ↦ absurd (not_less K L m n less)
      | inr more ↦ elim (lt_or_le L K) [ inl less ↦ absurd (not_less L K n m less) | inr least ↦ even K L least more ]
    ]
      where
        even : (a b : ℕ) → a ≤ b → b ≤ a → a ≡ b
        even a b h k = omega arith

flooding_decided : (l : Leaks) (separation : ℕ → Ends) → ((k : ℕ) → IsOrdered (separation k)) → (base : ℕ) (limit : ℤ) (x y : Finding) → flooding.IsFound l separation base limit x → flooding.IsFound l separation base limit y → finding_mark x ≡ finding_mark y
flooding_decided l separation ordered base limit x y h k = at h.most k.most h.is_most (downflooding_unique _ k.most h.most k.is_most h.is_most) h.follows k.follows
  where
    Rule : ℕ → Finding → Type 0
    Rule most = Follows (flooding.EachCandidate l separation most base limit Holds) (flooding.EachCandidate l separation most base limit Fails) (flooding.ShowsFailing l separation most base)
        (λ shown. flooding.ShowsCandidate l separation most base limit shown ⊎ flooding.ShowsLeak l separation most base limit shown)

    at : (m n : ℕ) → IsMost l m → n ≡ m → Rule m x → Rule n y → finding_mark x ≡ finding_mark y
    at m n is_most e h k = follows_decided _ _ _ _ (λ each other. holds_not_fails l separation ordered base limit m (each m (inl refl)) (other m (inl refl))) x y h (subst (λ (i : ℕ). Rule i y) e k)

-- ---- both sides
joined : Mark → Mark → Mark
joined Fails m = Fails
joined Holds m = m
joined Unsure Fails = Fails
joined Unsure Holds = Unsure
joined Unsure Unsure = Unsure

mark_joined : (p s : Finding) → mark_of (on_both p s) ≡ joined (finding_mark p) (finding_mark s)
unfolding joined finding_mark
mark_joined (finding.Fails x) s = refl
mark_joined finding.Holds (finding.Fails x) = refl
mark_joined (finding.Unsure y) (finding.Fails x) = refl
mark_joined finding.Holds finding.Holds = refl
mark_joined (finding.Unsure x) finding.Holds = refl
mark_joined (finding.Unsure x) (finding.Unsure y) = refl
mark_joined finding.Holds (finding.Unsure x) = refl

both_decided : (P : Side → Finding → Type 0) → ((side : Side) (x y : Finding) → P side x → P side y → finding_mark x ≡ finding_mark y)
    → (c d : Found) → IsFoundOnBoth P c → IsFoundOnBoth P d → mark_of c ≡ mark_of d
both_decided P f c d h k = ap mark_of h.joined ∙ mark_joined h.on_port h.on_starboard
    ∙ ap₂ joined (f Port h.on_port k.on_port h.port_rule k.port_rule) (f Starboard h.on_starboard k.on_starboard h.starboard_rule k.starboard_rule)
    ∙ sym (mark_joined k.on_port k.on_starboard) ∙ sym (ap mark_of k.joined)

list_of : (a b c d e f a' b' c' d' e' f' : Mark) → a ≡ a' → b ≡ b' → c ≡ c' → d ≡ d' → e ≡ e' → f ≡ f' → (a ∷ b ∷ c ∷ d ∷ e ∷ f ∷ []) ≡ (a' ∷ b' ∷ c' ∷ d' ∷ e' ∷ f' ∷ [])
list_of a b c d e f a' b' c' d' e' f' p q r s t u = cc

-- ---- with the same brackets
module _ (brackets : List Bracket) (arms : ArmTable) (upright : UprightRow) (openings : List Opening) where
  flood : (side : Side) (base : ℕ) (limit : ℤ) (x y : Finding) → flooding.IsFound (leaks_of brackets arms openings) (separation_at arms side) base limit x
      → flooding.IsFound (leaks_of brackets arms openings) (separation_at arms side) base limit y → finding_mark x ≡ finding_mark y
  flood side base limit x y h k = flooding_decided (leaks_of brackets arms openings) (separation_at arms side) (separation_ordered arms side) base limit x y h k

  marks_same : (x y : Findings) → AreFindings (readings_of brackets arms upright openings) x → AreFindings (readings_of brackets arms upright openings) y → x.marks ≡ y.marks
  marks_same x y h k = h.marks ∙ list_of _ _ _ _ _ _ _ _ _ _ _ _
      (both_decided _ (λ side. against_decided _ 30 (area_between (separation_at arms side) 0 30) (area_ordered (separation_at arms side) (separation_ordered arms side) 0 30)) h.c1 k.c1 h.found.first k.found.first)
      (both_decided _ (λ side. flood side 0 _) h.c2 k.c2 h.found.second k.found.second)
      (both_decided _ (λ side. flood side 30 _) h.c3 k.c3 h.found.third k.found.third)
      (both_decided _ (λ side. fourth_decided (gz_at arms side) (gz_ordered arms side)) h.c4 k.c4 h.found.fourth k.found.fourth)
      (both_decided _ (λ side. fifth_decided (gz_at arms side) (gz_ordered arms side)) h.c5 k.c5 h.found.fifth k.found.fifth)
      (both_decided _ (λ side. against_decided _ 0 (ends_of upright.gm) upright.gm.ordered) h.c6 k.c6 h.found.sixth k.found.sixth)
      ∙ sym k.marks

pub marks_are_decided : MarksAreDecided
marks_are_decided arms upright openings x y (first, at_first, h) (second, at_second, k) = marks_same first arms upright openings x y h
    (subst (λ (depth : ℕ → ℕ → Ends). AreFindings (with_depths depth) y) (λ i. λ place degree. depths_same second first arms openings at_second at_first place degree i) k)
  where
    with_depths : (ℕ → ℕ → Ends) → Side → Readings
    with_depths depth side = record { gz = gz_at arms side; separation = separation_at arms side; gm = ends_of upright.gm; leaks = record { openings = length openings; depth = depth } }
