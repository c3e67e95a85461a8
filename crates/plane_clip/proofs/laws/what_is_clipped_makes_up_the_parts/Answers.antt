use Rattle.plane_clip.proofs.ClippedSums.{clipped_make_up}
use Rattle.plane_clip.proofs.laws.what_is_clipped_makes_up_the_parts.Goals as goal

pub returns : goal.returns
returns c aft fore t = clipped_make_up aft fore t
