use Rattle.std.proofs.Common.{subst}
use Rattle.std.specs.Int.{w128}
use Rattle.std.proofs.lemmas.Int.{to_z-of_z}
use mir.Val.{SFits}
use Rattle.exact_algebra.proofs.Fraction.{Fraction}
use Rattle.damage_box.specs.Reading.{IsNeed}
use Rattle.damage_box.proofs.Balanced as Balanced
use Rattle.damage_box.proofs.moments.needed.Goals as goal

pub returns : goal.returns
returns c =
    let hi : SFits w128 c.hi.result = record { sfits = c.hi.type_inv } in
    simp (to_z-of_z, hi) (rw c.hi.ensures (subst (λ (x : Fraction). IsNeed x c.of_ratio-volume.result.hi) c.volume.ensures.same (Balanced.need_of c.of_ratio-volume.ensures)))
