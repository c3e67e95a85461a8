use Rattle.std.proofs.Common.{◌≡◌, ◌∙◌, refl, sym, subst, ℤ, true, false}
use Rattle.std.proofs.lemmas.Int.{to_z-of_z}
use Rattle.std.specs.Int.{w64, w128}
use mir.Val.{SFits}
use Rattle.exact_algebra.proofs.Order as Order
use Rattle.exact_algebra.proofs.Fraction.{fractions}
use Rattle.exact_fraction.specs.declared.ratio.Ratio.{Ratio}
use Rattle.exact_fraction.specs.Fraction.{fraction_of}
use Rattle.draft_bracket.specs.DraftBracket.{OfHulls, IsSharpBracket}
use Rattle.draft_bracket.proofs.Found.{bottom_placed, top_placed, whole_bracket, bottom_below_top, too_heavy, not_too_heavy}
use Rattle.draft_bracket.proofs.drafts.float_near.Goals as goal

false-ne-true : false ≡ true → ⊥
false-ne-true h = cc

pub search-requires-clause-at_bottom : goal.search-requires-clause-at_bottom
search-requires-clause-at_bottom c =
    let fits : SFits w64 c.bottom_of-bottom.result = record { sfits = c.bottom_of-bottom.type_inv } in
    bottom_placed c.args.faces.now c.args.bracket.now c.args.need.now c.of.result.ratio _ c.of.ensures (to_z-of_z w64 c.bottom_of-bottom.result fits ∙ c.bottom_of-bottom.ensures.same) c.requires

pub search-requires-clause-at_top : goal.search-requires-clause-at_top
search-requires-clause-at_top c =
    let fits : SFits w64 c.top_of-top-in-Less.result = record { sfits = c.top_of-top-in-Less.type_inv } in
    let six : SFits w128 c.six_volume-six.result = record { sfits = c.six_volume-six.type_inv } in
    let less = simp to_z-of_z at c.in-Less.ensures in
    top_placed c.args.faces.now c.args.bracket.now c.args.need.now c.of.result.ratio _ c.of.ensures (to_z-of_z w64 c.top_of-top-in-Less.result fits ∙ c.top_of-top-in-Less.ensures.same)
    c.six_volume-six.result c.six_volume-six.ensures.tetrahedra less

pub returns-in-Greater-clause-too_heavy : goal.returns-in-Greater-clause-too_heavy
returns-in-Greater-clause-too_heavy c hull is are =
    let six : SFits w128 c.six_volume-six.result = record { sfits = c.six_volume-six.type_inv } in
    let more = simp to_z-of_z at c.in-Greater.ensures in
    (λ _. too_heavy (fraction_of c.args.need.now) c.six_volume-six.result hull (c.six_volume-six.ensures.tetrahedra hull is are) more, λ _. refl)

pub returns-in-Greater-clause-six : goal.returns-in-Greater-clause-six
returns-in-Greater-clause-six c hull is are =
    let six : SFits w128 c.six_volume-six.result = record { sfits = c.six_volume-six.type_inv } in
    to_z-of_z w128 c.six_volume-six.result six ∙ c.six_volume-six.ensures.tetrahedra hull is are

pub returns-in-Equal-clause-drafts : goal.returns-in-Equal-clause-drafts
returns-in-Equal-clause-drafts c =
    let fits : SFits w64 c.top_of-top.result = record { sfits = c.top_of-top.type_inv } in
    let six : SFits w128 c.six_volume-six.result = record { sfits = c.six_volume-six.type_inv } in
    let same = simp to_z-of_z at c.in-Equal.ensures in
    subst (λ (at : ℤ). OfHulls c.args.faces.now (IsSharpBracket c.args.faces.now c.args.bracket.now (fraction_of c.args.need.now) at at))
    (sym (to_z-of_z w64 c.top_of-top.result fits ∙ c.top_of-top.ensures.same))
    (whole_bracket c.args.faces.now c.args.bracket.now (fraction_of c.args.need.now) c.six_volume-six.result c.six_volume-six.ensures.tetrahedra same (bottom_below_top c.args.faces.now))

pub returns-in-Equal-clause-too_heavy : goal.returns-in-Equal-clause-too_heavy
returns-in-Equal-clause-too_heavy c hull is are =
    let six : SFits w128 c.six_volume-six.result = record { sfits = c.six_volume-six.type_inv } in
    let same = simp to_z-of_z at c.in-Equal.ensures in (
      λ e. absurd (false-ne-true e),
      λ heavy. absurd (not_too_heavy (fraction_of c.args.need.now) c.six_volume-six.result hull (c.six_volume-six.ensures.tetrahedra hull is are)
          (Order.≼_same fractions same) heavy),
    )

pub returns-in-Less-clause-drafts : goal.returns-in-Less-clause-drafts
returns-in-Less-clause-drafts c =
    subst (λ (r : Ratio). OfHulls c.args.faces.now (IsSharpBracket c.args.faces.now c.args.bracket.now (fraction_of r) c.search.result.d1 c.search.result.d2)) c.of.ensures c.search.ensures

pub returns-in-Less-clause-too_heavy : goal.returns-in-Less-clause-too_heavy
returns-in-Less-clause-too_heavy c hull is are =
    let six : SFits w128 c.six_volume-six.result = record { sfits = c.six_volume-six.type_inv } in
    let less = simp to_z-of_z at c.in-Less.ensures in (
      λ e. absurd (false-ne-true e),
      λ heavy. absurd (not_too_heavy (fraction_of c.args.need.now) c.six_volume-six.result hull (c.six_volume-six.ensures.tetrahedra hull is are)
          (Order.≺_weak fractions less) heavy),
    )
