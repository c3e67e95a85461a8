use Rattle.std.proofs.Common.{◌≡◌, ◌≤◌, ◌-ℤ◌, w64, inl, inr, rules, unsigned_abs, subst, sym}
use Rattle.std.proofs.lemmas.Int.{to_z-of_z}
use Rattle.std.specs.Int.{int_min}
use mir.Val.{SFits}
use Rattle.floodable_length.proofs.Levels.{place-fits}
use Rattle.floodable_length.proofs.Steps.{min_met, apart-fits, apart-small}
use Rattle.floodable_length.proofs.lengths.Lengths.room.Goals as goal

pub returns-clause-met : goal.returns-clause-met
returns-clause-met c =
    let s = c.args.self.now in
    let first : SFits w64 s.first = place-fits s.first s.limits.ends.first_within in
    let last : SFits w64 s.last = place-fits s.last s.limits.ends.last_within in
    let centre : SFits w64 s.centre = place-fits s.centre s.limits.middle in
    let aft : SFits w64 (s.centre -ℤ s.first) = apart-fits s.centre s.first s.limits.middle s.limits.ends.first_within in
    let fore : SFits w64 (s.last -ℤ s.centre) = apart-fits s.last s.centre s.limits.ends.last_within s.limits.middle in
    let least : SFits w64 c.min.result = search rules in
    let value : c.min.result ≡ int_min (s.centre -ℤ s.first) (s.last -ℤ s.centre) = simp to_z-of_z at c.min.ensures.value in
    simp to_z-of_z (min_met (s.centre -ℤ s.first) (s.last -ℤ s.centre) c.min.result value)

pub returns-clause-size : goal.returns-clause-size
returns-clause-size c =
    let s = c.args.self.now in
    let first : SFits w64 s.first = place-fits s.first s.limits.ends.first_within in
    let last : SFits w64 s.last = place-fits s.last s.limits.ends.last_within in
    let centre : SFits w64 s.centre = place-fits s.centre s.limits.middle in
    let aft : SFits w64 (s.centre -ℤ s.first) = apart-fits s.centre s.first s.limits.middle s.limits.ends.first_within in
    let fore : SFits w64 (s.last -ℤ s.centre) = apart-fits s.last s.centre s.limits.ends.last_within s.limits.middle in
    let least : SFits w64 c.min.result = search rules in
    let value : c.min.result ≡ int_min (s.centre -ℤ s.first) (s.last -ℤ s.centre) = simp to_z-of_z at c.min.ensures.value in
    simp to_z-of_z (elim (min_met (s.centre -ℤ s.first) (s.last -ℤ s.centre) c.min.result value) [
      | inl e ↦ subst (λ n. unsigned_abs n ≤ 524287) (sym e) (apart-small s.centre s.first s.limits.middle s.limits.ends.first_within)
      | inr e ↦ subst (λ n. unsigned_abs n ≤ 524287) (sym e) (apart-small s.last s.centre s.limits.ends.last_within s.limits.middle)
    ])
