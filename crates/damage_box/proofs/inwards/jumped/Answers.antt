use Rattle.std.proofs.lemmas.Int.{to_z-of_z}
use Rattle.damage_box.proofs.Moves as Moves
use Rattle.damage_box.proofs.inwards.jumped.Goals as goal

pub returns-then-has_signs : goal.returns-then-has_signs
returns-then-has_signs g c =
    let lim = c.requires.limits in
    let a_from = c.is_between.ensures.a_from c.if-not-is_between.false in
    let a_to = c.is_between.ensures.a_to c.if-not-is_between.false in
    let f_from = c.is_between.ensures.f_from c.if-not-is_between.false in
    let f_to = c.is_between.ensures.f_to c.if-not-is_between.false in
    let a = Moves.level_fits c.corner-at.result.a (Moves.jump_a lim a_from a_to) in
    let f = Moves.level_fits c.corner-at.result.f (Moves.jump_f lim f_from f_to) in
    let reading = simp (to_z-of_z, a, f) at c.read-reading.ensures in
    Moves.jump (c.has_signs.ensures _ _ _ reading c.if-has_signs.true) a_from a_to f_from f_to
