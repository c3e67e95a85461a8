use Rattle.std.proofs.lemmas.Int.{to_z-of_z}
use Rattle.damage_box.proofs.mirror.MirroredFloats.read.Goals as goal

pub returns : goal.returns
returns g c =
    let n = simp (to_z-of_z, c.ranges.a, c.ranges.f) at c.read-reading.ensures in
    record {
      volume = record { contains = n.volume.contains; narrow = n.volume.narrow };
      from_last = record { contains = n.from_first.contains; narrow = n.from_first.narrow };
      from_first = record { contains = n.from_last.contains; narrow = n.from_last.narrow };
    }
