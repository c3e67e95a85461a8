use Rattle.std.proofs.Common.{refl, subst, arith}
use Rattle.std.proofs.lemmas.Int.{to_z-of_z}
use Rattle.std.specs.Int.{w64}
use mir.Val.{SFits}
use native.Mathlib.Nat.{zero-lt-suc}
use Rattle.exact_algebra.proofs.Fraction.{Fraction, ◌⊕◌}
use Rattle.exact_algebra.proofs.Span.{ContainsFraction}
use Rattle.outward_interval.specs.Widths.{IsNarrow}
use Rattle.hull_model.proofs.Magnitudes.{fits_64}
use Rattle.hull_model.specs.LevelPlanes.{Direction}
use Rattle.hull_model.specs.Waterplane.{upright}
use Rattle.flux_moments.specs.Planes.{IsIn}
use Rattle.draft_bracket.proofs.Looks.{box_from, plane_is_in}
use Rattle.dynamic_lever.proofs.Boxes.{same_kb, same_bm, upright_lies}
use Rattle.dynamic_lever.proofs.standing.row_over.Goals as goal

abbrev no_heel : Direction
no_heel = record { c = 1; s = 0; r = 1; round = refl; positive = zero-lt-suc 0 }

pub returns : goal.returns
returns c =
    let faces = c.args.faces.now in
    let bracket = c.args.bracket.now in
    let drafts = c.args.drafts in
    let planes = c.in-Some.planes in
    let first : SFits w64 c.args.drafts.d1 = fits_64 _ (omega (arith, c.args.drafts.first_range)) in
    let last : SFits w64 c.args.drafts.d2 = fits_64 _ (omega (arith, c.args.drafts.last_range)) in
    let box = box_from c.in-Some.planes c.args.bracket.now drafts.d1 drafts.d2 _ _ (to_z-of_z w64 drafts.d1 first) (to_z-of_z w64 drafts.d2 last) c.in-Some.ensures.same in
    let heights = c.upright_stability-heights.ensures in
    let is_in : (at : Fraction) → ContainsFraction 10 drafts.d1 drafts.d2 at → IsIn planes (upright at) = λ at between.
    plane_is_in planes bracket drafts.d1 drafts.d2 box no_heel (upright_lies bracket c.requires.degree no_heel refl) at between in
    record {
      drafts = c.requires.sharp;
      kb = λ hull is are at between. heights.kb hull is are at (is_in at between);
      bm = λ hull is are at between. heights.bm hull is are at (is_in at between);
      gm = λ hull is are at between. heights.gm hull is are at (is_in at between);
      kb_width = λ q h. subst (λ w. IsNarrow 20 w c.upright_stability-heights.result.kb.lo c.upright_stability-heights.result.kb.hi) (same_kb faces c.args.loading.now c.args.water.now bracket drafts.d1 drafts.d2 planes q box h) heights.kb_width;
      bm_width = subst (λ w. IsNarrow 20 w c.upright_stability-heights.result.bm.lo c.upright_stability-heights.result.bm.hi) (same_bm faces c.args.loading.now c.args.water.now bracket drafts.d1 drafts.d2 planes box) heights.bm_width;
      gm_width = λ q h. subst (λ w. IsNarrow 20 w c.upright_stability-heights.result.gm.lo c.upright_stability-heights.result.gm.hi)
          (λ i. same_kb faces c.args.loading.now c.args.water.now bracket drafts.d1 drafts.d2 planes q box h i ⊕ same_bm faces c.args.loading.now c.args.water.now bracket drafts.d1 drafts.d2 planes box i) heights.gm_width;
      kb_ends = heights.ends.0;
      bm_ends = heights.ends.1;
      gm_ends = heights.ends.2;
    }
