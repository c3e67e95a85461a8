-- The depth intervals of openings are the same whatever list holds the brackets of the degrees.
use Rattle.std.proofs.Common.{◌≡◌, refl, sym, ◌∙◌, ap, inl, inr, ℕ, ◌<◌, ◌≤◌, ◌^◌, pos, ◌+ℤ◌, ◌-ℤ◌, ◌*ℤ◌, List, length, Option, Some, None, slice_get, arith}
use Rattle.std.proofs.lemmas.Option.{slice_get_within}
use Rattle.angle_bounds.specs.declared.bracket.Bracket.{Bracket}
use Rattle.exact_algebra.specs.Span.{floor_of, ceiling_of}
use Rattle.hull_model.specs.declared.opening.Opening.{Opening}
use Rattle.draft_bracket.specs.declared.drafts.Drafts.{Drafts}
use Rattle.dynamic_lever.specs.declared.rows.Arm.{Arm}
use Rattle.dynamic_lever.specs.declared.rows.ArmTable.{ArmTable}
use Rattle.intact_criteria.specs.Brackets.{AreDegreeBrackets}
use Rattle.intact_criteria.specs.Readings.{Ends, depth_of, depth_if_there, depth_at}
use Rattle.intact_criteria.proofs.Decisions.{lt_or_le}
use Rattle.intact_criteria.proofs.DegreeBrackets.{SameSpans, same_spans}
use Rattle.intact_criteria.proofs.ReadRows.{at_degree}

depth_same : (a b : Bracket) → SameSpans a b → (drafts : Drafts) (o : Opening) → depth_of a drafts o ≡ depth_of b drafts o
depth_same a b e drafts o = λ i. record {
  lo = floor_of (((drafts.d1 *ℤ pos (2 ^ 30)) -ℤ (e.c_hi i *ℤ o.z)) +ℤ (e.s_lo i *ℤ o.y)) (2 ^ 20);
  hi = ceiling_of (((drafts.d2 *ℤ pos (2 ^ 30)) -ℤ (e.c_lo i *ℤ o.z)) +ℤ (e.s_hi i *ℤ o.y)) (2 ^ 20);
}

if_there_same : (a b : Bracket) → SameSpans a b → (arm : Option Arm) (o : Option Opening) → depth_if_there (Some a) arm o ≡ depth_if_there (Some b) arm o
if_there_same a b e (Some arm) (Some o) = depth_same a b e arm.drafts o
if_there_same a b e None o = refl
if_there_same a b e (Some arm) None = refl

nothing_past : {X : Type 0} (xs : List X) (k : ℕ) → length xs ≤ k → slice_get xs k ≡ None
nothing_past {X = X} xs k past = go (slice_get xs k) refl
  where
    go : (x : Option X) → slice_get xs k ≡ x → x ≡ None
    go None e = refl
    go (Some x) e = absurd (not_both (slice_get_within xs k x e))
      where
        not_both : k < length xs → ⊥
        not_both h = omega (arith, h, past)

pub depths_same : (first second : List Bracket) (arms : ArmTable) (openings : List Opening) → AreDegreeBrackets first → AreDegreeBrackets second → (place k : ℕ)
    → depth_at first arms openings place k ≡ depth_at second arms openings place k
unfolding depth_at
depths_same first second arms openings h j place k = elim (lt_or_le k 91) [
  | inl few ↦ at (at_degree first h.count k (up_to k few)) (at_degree second j.count k (up_to k few)) (up_to k few)
  | inr past ↦ ap read (nothing_past first k (beyond (length first) h.count past)) ∙ sym (ap read (nothing_past second k (beyond (length second) j.count past)))
]
  where
    read : Option Bracket → Ends
    read bracket = depth_if_there bracket (slice_get arms.rows k) (slice_get openings place)

    beyond : (n : ℕ) → n ≡ 91 → 91 ≤ k → n ≤ k
    beyond n e h = omega arith

    up_to : (k : ℕ) → k < 91 → k ≤ 90
    up_to k h = omega arith

    at : (a : Bracket) × (slice_get first k ≡ Some a) → (b : Bracket) × (slice_get second k ≡ Some b) → k ≤ 90 → read (slice_get first k) ≡ read (slice_get second k)
    at (a, there) (b, here) few = ap read there ∙ if_there_same a b (same_spans k few a b (h.each k a there) (j.each k b here)) (slice_get arms.rows k) (slice_get openings place) ∙ sym (ap read here)
