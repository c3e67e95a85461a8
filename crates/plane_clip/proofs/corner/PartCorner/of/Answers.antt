use Rattle.std.proofs.Common.{◌≡◌, ◌∙◌, sym, ap, arith}
use Rattle.std.proofs.lemmas.Int.{ints, to_z-of_z}
use Rattle.std.specs.Int.{w64, w128}
use mir.Val.{SFits}
use Rattle.exact_algebra.proofs.Whole.{whole}
use Rattle.hull_model.proofs.Magnitudes.{fits_64}
use Rattle.plane_clip.proofs.WholeFaces.{exact_holds, exact_ends, exact_thin}
use Rattle.plane_clip.proofs.corner.PartCorner.of.Goals as goal

pub returns-clause-holds : goal.returns-clause-holds
returns-clause-holds c =
    let node = c.args.node in
    let x : SFits w64 node.x = fits_64 _ (omega (arith, ints, c.requires.place.0, c.requires.place.1)) in
    let y : SFits w64 node.y = fits_64 _ (omega (arith, ints, c.requires.port, c.requires.starboard)) in
    let z : SFits w64 node.z = fits_64 _ (omega (arith, ints, c.requires.height.0, c.requires.height.1)) in
    let wide : SFits w128 c.from.result = record { sfits = c.from.type_inv } in
    let same : c.from.result ≡ node.x = c.from.ensures ∙ to_z-of_z w64 node.x x in
    record {
      x = sym (ap whole (to_z-of_z w128 c.from.result wide ∙ same));
      y = exact_holds node.y (simp to_z-of_z at c.exact.ensures.units);
      z = exact_holds node.z (simp to_z-of_z at c.exact-2.ensures.units);
    }

pub returns-clause-extent : goal.returns-clause-extent
returns-clause-extent c y z broad high =
    let node = c.args.node in
    let fits_y : SFits w64 node.y = fits_64 _ (omega (arith, ints, c.requires.port, c.requires.starboard)) in
    let fits_z : SFits w64 node.z = fits_64 _ (omega (arith, ints, c.requires.height.0, c.requires.height.1)) in
    record {
      y_ends = exact_ends node.y y broad (simp to_z-of_z at c.exact.ensures.units);
      z_ends = exact_ends node.z z high (simp to_z-of_z at c.exact-2.ensures.units);
      y_thin = exact_thin 0 c.exact.ensures.units;
      z_thin = exact_thin 0 c.exact-2.ensures.units;
    }
