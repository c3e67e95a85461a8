use Rattle.std.proofs.Common.{rules}
use Rattle.std.proofs.lemmas.Int.{to_z-of_z}
use Rattle.std.specs.Int.{w64}
use mir.Val.{SFits}
use Rattle.hull_model.proofs.Chains.{from_lowest}
use Rattle.hull_model.proofs.zipper.push_strip.Goals as goal

pub returns-in_ok-push_zipper : goal.returns-in_ok-push_zipper
returns-in_ok-push_zipper c =
    let aft : SFits w64 c.args.aft.now.x = search rules in
    let fore : SFits w64 c.args.fore.now.x = search rules in
    let a = simp to_z-of_z at c.starboard-a.ensures.same in
    let b = simp to_z-of_z at c.starboard-b.ensures.same in
    from_lowest _ _ c.starboard-a.result c.starboard-b.result c.args.aft.now c.args.fore.now c.as_slice.result.now c.as_slice-in-len1-up.result.now _
    c.as_slice.ensures c.as_slice-in-len1-up.ensures a b c.in-len1-up.len_at_least c.in-len1-up-as_slice.len_at_least c.in_ok-push_zipper.ensures
